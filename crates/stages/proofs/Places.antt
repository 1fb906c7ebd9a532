-- In every state that stages reach, what is open is what the records before the state's place leave open.
use mathlib.Core.List.{◌++◌, List, [], append_assoc, ◌∷◌}
use mathlib.Core.Bool.{Bool, false, true}
use mathlib.Core.Option.{Option, none, some}
use mathlib.Core.Path.{ap, ap₂, refl, subst, sym, ◌∙◌, ◌≡◌}
use Prim.Native.Nat.{◌+◌, suc, ℕ, zero}
use native.Mathlib.Omega.{arith}
use lib.ListN.{length}
use lib.IntN.{ℤ}
use Rattle.meaning.specs.Tree.{empty, loop, records, Block}
use Rattle.meaning.specs.Time.{entry_cost, exactly, trips, ◌⊕◌, Bounds}
use Rattle.meaning.specs.Stage.{Frame, KeptArms, State, Step, add_arm, after_end, choice_frame, first_state, indexes_of, loop_frame, state_of}
use Rattle.meaning.specs.Stage.{and_on, at_end, begins_visit, end_trip, enter_loop, going, pass, pass_from, pass_record, stage, stages, stuck}
use Rattle.meaning.specs.Record.{Loop, choice_record, end_record, loop_record, next_arm_record, open_choice, open_loop, work_record, Record, Open}
use Rattle.meaning.proofs.Accepted.{InPlace}
use Rattle.meaning.proofs.Trees.{after_end-records}
use Rattle.nest.specs.Walk.{numbers_after, opens_after}
use Rattle.nest.proofs.Places.{in-place-through, loop-body}
use Rattle.nest.proofs.Walks.{numbers-records, numbers_through, opens-records, opens_through, opens-append, numbers-append}
use Rattle.loops.specs.Enclosing.{Enclosing, enclosing_after, enclosing_through, enter, nothing_open}
use Rattle.loops.proofs.Enclosings.{enclosing-records, leave-enter, enclosing-append}
use Rattle.stages.proofs.Affine.{enclosing_of}

-- ---- what records leave open

-- what frames have open
unfoldable pub opens_of : List Frame → List Open
opens_of [] = []
opens_of (loop_frame l body counter visited_sums enclosing ∷ fs) = open_loop ∷ opens_of fs
opens_of (choice_frame passed_arms enclosing ∷ fs) = open_choice ∷ opens_of fs

module _ (ps : List ℤ) where
  -- the records leave os with the numbers ns and the loops e open
  pub record Leaves (before : List Record) (os : List Open) (ns : List ℕ) (e : Enclosing) : Type 0 where
    pub opens_are : opens_through [] before ≡ os
    pub numbers_are : numbers_through 0 [] before ≡ ns
    pub loops_are : enclosing_through ps [] nothing_open before ≡ e

  -- with further records
  leaves-append : (xs ys : List Record) (os : List Open) (ns : List ℕ) (e : Enclosing) → Leaves xs os ns e →
      Leaves (xs ++ ys) (opens_through os ys) (numbers_through (length xs) ns ys) (enclosing_through ps os e ys)
  leaves-append xs ys os ns e h = record {
    opens_are = opens-append xs ys [] ∙ ap (λ us. opens_through us ys) h.opens_are;
    numbers_are = numbers-append xs ys 0 [] ∙ ap₂ (λ (k : ℕ) (ms : List ℕ). numbers_through k ms ys) (let z : 0 + length xs ≡ length xs = omega arith in z) h.numbers_are;
    loops_are = enclosing-append ps xs ys [] nothing_open ∙ ap₂ (λ us f. enclosing_through ps us f ys) h.opens_are h.loops_are;
  }

  leaves-next : (xs : List Record) (r : Record) (os : List Open) (ns : List ℕ) (e : Enclosing) → Leaves xs os ns e →
      Leaves (xs ++ (r ∷ [])) (opens_after os r) (numbers_after (length xs) ns r) (enclosing_after ps os e r)
  unfolding opens_through numbers_through enclosing_through
  leaves-next xs r os ns e h = leaves-append xs (r ∷ []) os ns e h

  leaves-equal : {xs : List Record} {os us : List Open} {ns ms : List ℕ} {e f : Enclosing} → os ≡ us → ns ≡ ms → e ≡ f → Leaves xs os ns e → Leaves xs us ms f
  leaves-equal p q r h = record { opens_are = h.opens_are ∙ p; numbers_are = h.numbers_are ∙ q; loops_are = h.loops_are ∙ r }

  -- ---- states in their place

  module _ (rs : List Record) where
    -- record r of the sheet, with the number n before the records `after`, where os with the numbers ns and the loops e are open
    pub record Stands (r : Record) (after : List Record) (n : ℕ) (os : List Open) (ns : List ℕ) (e : Enclosing) : Type 0 where
      pub outer : List Record
      pub number : length outer ≡ n
      pub split : rs ≡ outer ++ (r ∷ after)
      pub leaves : Leaves outer os ns e

    -- the frames are those of open records with these numbers
    unfoldable pub Framed : List Frame → List ℕ → Type 0
    Framed [] [] = Unit {0}
    Framed [] (n ∷ ns) = ⊥
    Framed (loop_frame l body counter visited_sums enclosing ∷ fs) [] = ⊥
    Framed (choice_frame passed_arms enclosing ∷ fs) [] = ⊥
    Framed (loop_frame l body counter visited_sums enclosing ∷ fs) (n ∷ ns) = Stands (loop_record l) body n (opens_of fs) ns (enclosing_of ps fs) × Framed fs ns
    Framed (choice_frame passed_arms enclosing ∷ fs) (n ∷ ns) = (after : List Record) × Stands choice_record after n (opens_of fs) ns (enclosing_of ps fs) × Framed fs ns

    -- where `remaining` is still to pass and fs is open
    pub record PlacedAt (remaining : List Record) (fs : List Frame) : Type 0 where
      pub before : List Record
      pub numbers : List ℕ
      pub split : rs ≡ before ++ remaining
      pub leaves : Leaves before (opens_of fs) numbers (enclosing_of ps fs)
      pub framed : Framed fs numbers

    abbrev pub Placed : State → Type 0
    Placed s = PlacedAt s.remaining s.frames

    -- one record further
    further : (xs : List Record) (r : Record) (ys : List Record) → rs ≡ xs ++ (r ∷ ys) → rs ≡ (xs ++ (r ∷ [])) ++ ys
    further xs r ys e = e ∙ sym (append_assoc xs (r ∷ []) ys)

    -- a record that opens and ends nothing
    placed_same : (r : Record) (ys : List Record) (fs : List Frame) → ((os : List Open) (e : Enclosing) →
        (opens_after os r ≡ os) × (enclosing_after ps os e r ≡ e)) → ((k : ℕ) (ns : List ℕ) → numbers_after k ns r ≡ ns) →
        PlacedAt (r ∷ ys) fs → PlacedAt ys fs
    placed_same r ys fs same numbered h = record {
      before = h.before ++ (r ∷ []);
      numbers = h.numbers;
      split = further h.before r ys h.split;
      leaves = leaves-equal (same (opens_of fs) (enclosing_of ps fs)).0 (numbered (length h.before) h.numbers) (same (opens_of fs) (enclosing_of ps fs)).1
          (leaves-next h.before r (opens_of fs) h.numbers (enclosing_of ps fs) h.leaves);
      framed = h.framed;
    }

    -- a trip opens, an arm opens
    placed-loop : (l : Loop) (ys : List Record) (fs : List Frame) (counter : ℕ) (sums : List Bounds) (around : Bounds) → PlacedAt (loop_record l ∷ ys) fs →
        PlacedAt ys (loop_frame l ys counter sums around ∷ fs)
    unfolding Framed opens_of enclosing_of opens_after numbers_after enclosing_after
    placed-loop l ys fs counter sums around h = record {
      before = h.before ++ (loop_record l ∷ []);
      numbers = length h.before ∷ h.numbers;
      split = further h.before (loop_record l) ys h.split;
      leaves = leaves-next h.before (loop_record l) (opens_of fs) h.numbers (enclosing_of ps fs) h.leaves;
      framed = (record { outer = h.before; number = refl; split = h.split; leaves = h.leaves }, h.framed);
    }

    placed-choice : (ys : List Record) (fs : List Frame) (passed_arms : Option Bounds) (around : Bounds) → PlacedAt (choice_record ∷ ys) fs →
        PlacedAt ys (choice_frame passed_arms around ∷ fs)
    unfolding Framed opens_of enclosing_of opens_after numbers_after enclosing_after
    placed-choice ys fs passed_arms around h = record {
      before = h.before ++ (choice_record ∷ []);
      numbers = length h.before ∷ h.numbers;
      split = further h.before choice_record ys h.split;
      leaves = leaves-next h.before choice_record (opens_of fs) h.numbers (enclosing_of ps fs) h.leaves;
      framed = (ys, record { outer = h.before; number = refl; split = h.split; leaves = h.leaves }, h.framed);
    }

    -- a loop without a trip is passed over
    placed_past : (l : Loop) (ys : List Record) (fs : List Frame) → InPlace [] rs → PlacedAt (loop_record l ∷ ys) fs → PlacedAt (after_end zero ys) fs
    unfolding after_end records
    placed_past l ys fs placed h =
        let os : List Open = opens_of fs in
        let e : Enclosing = enclosing_of ps fs in
        let here = in-place-through h.before (loop_record l ∷ ys) [] (subst (InPlace []) h.split placed) in
        let found = loop-body l ys (opens_through [] h.before) here in
        let q : List Record = found.following in
        let whole : Block = loop l found.body empty in
        let rest : after_end zero ys ≡ q = ap (after_end zero) found.split ∙ after_end-records found.body zero (end_record ∷ q) in
        let joined : loop_record l ∷ ys ≡ records whole ++ q =
        ap {B = List Record} (λ xs. loop_record l ∷ xs) (found.split ∙ sym (append_assoc (records found.body) (end_record ∷ []) q)) in
        record {
          before = h.before ++ records whole;
          numbers = h.numbers;
          split = h.split ∙ ap (λ (xs : List Record). h.before ++ xs) joined ∙ sym (append_assoc h.before (records whole) q)
              ∙ ap (λ (xs : List Record). (h.before ++ records whole) ++ xs) (sym rest);
          leaves = leaves-equal
              (opens-records whole os) (numbers-records whole (length h.before) h.numbers) (enclosing-records ps whole os e)
              (leaves-append h.before (records whole) os h.numbers e h.leaves);
          framed = h.framed;
        }

    -- what is open is left at its end
    placed-left-choice : (ys : List Record) (fs : List Frame) (passed_arms : Option Bounds) (around : Bounds) →
        PlacedAt (end_record ∷ ys) (choice_frame passed_arms around ∷ fs) → PlacedAt ys fs
    placed-left-choice ys fs passed_arms around h = go h.numbers h.leaves h.framed
      where
        go : (ns : List ℕ) → Leaves h.before (opens_of (choice_frame passed_arms around ∷ fs)) ns (enclosing_of ps (choice_frame passed_arms around ∷ fs)) →
            Framed (choice_frame passed_arms around ∷ fs) ns → PlacedAt ys fs
        go [] leaves framed = unfold Framed in absurd framed
        go (n ∷ ns) leaves framed = unfold Framed opens_of enclosing_of opens_after numbers_after enclosing_after in record {
          before = h.before ++ (end_record ∷ []);
          numbers = ns;
          split = further h.before end_record ys h.split;
          leaves = leaves-next h.before end_record (open_choice ∷ opens_of fs) (n ∷ ns) (enclosing_of ps fs) leaves;
          framed = framed.2;
        }

    placed-left-loop : (ys : List Record) (fs : List Frame) (l : Loop) (body : List Record) (counter : ℕ) (sums : List Bounds) (around : Bounds) →
        PlacedAt (end_record ∷ ys) (loop_frame l body counter sums around ∷ fs) → PlacedAt ys fs
    placed-left-loop ys fs l body counter sums around h = go h.numbers h.leaves h.framed
      where
        go : (ns : List ℕ) →
            Leaves h.before (opens_of (loop_frame l body counter sums around ∷ fs)) ns (enclosing_of ps (loop_frame l body counter sums around ∷ fs)) →
            Framed (loop_frame l body counter sums around ∷ fs) ns → PlacedAt ys fs
        go [] leaves framed = unfold Framed in absurd framed
        go (n ∷ ns) leaves framed = unfold Framed opens_of enclosing_of opens_after numbers_after enclosing_after in record {
          before = h.before ++ (end_record ∷ []);
          numbers = ns;
          split = further h.before end_record ys h.split;
          leaves = leaves-equal refl refl (leave-enter ps l (enclosing_of ps fs))
              (leaves-next h.before end_record (open_loop ∷ opens_of fs) (n ∷ ns) (enter ps l (enclosing_of ps fs)) leaves);
          framed = framed.1;
        }

    -- a further trip opens
    placed-again : (ys : List Record) (fs : List Frame) (l : Loop) (body : List Record) (counter again : ℕ) (sums more : List Bounds) (around : Bounds) →
        PlacedAt (end_record ∷ ys) (loop_frame l body counter sums around ∷ fs) → PlacedAt body (loop_frame l body again more around ∷ fs)
    placed-again ys fs l body counter again sums more around h = go h.numbers h.framed
      where
        go : (ns : List ℕ) → Framed (loop_frame l body counter sums around ∷ fs) ns → PlacedAt body (loop_frame l body again more around ∷ fs)
        go [] framed = unfold Framed in absurd framed
        go (n ∷ ns) framed = unfold Framed opens_of enclosing_of opens_after numbers_after enclosing_after in (
            let s = framed.0 in
            record {
              before = s.outer ++ (loop_record l ∷ []);
              numbers = n ∷ ns;
              split = further s.outer (loop_record l) body s.split;
              leaves = leaves-equal refl (ap {B = List ℕ} (λ m. m ∷ ns) s.number) refl
                  (leaves-next s.outer (loop_record l) (opens_of fs) ns (enclosing_of ps fs) s.leaves);
              framed = framed;
            })

    -- the next arm opens
    placed-arm : (ys : List Record) (fs : List Frame) (passed_arms more : Option Bounds) (around : Bounds) → PlacedAt ys (choice_frame passed_arms around ∷ fs) →
        PlacedAt ys (choice_frame more around ∷ fs)
    placed-arm ys fs passed_arms more around h = go h.numbers h.leaves h.framed
      where
        go : (ns : List ℕ) → Leaves h.before (opens_of (choice_frame passed_arms around ∷ fs)) ns (enclosing_of ps (choice_frame passed_arms around ∷ fs)) →
            Framed (choice_frame passed_arms around ∷ fs) ns → PlacedAt ys (choice_frame more around ∷ fs)
        go [] leaves framed = unfold Framed in absurd framed
        go (n ∷ ns) leaves framed = unfold Framed opens_of enclosing_of in record { before = h.before; numbers = n ∷ ns; split = h.split; leaves = leaves; framed = framed }

    -- ---- passing keeps states in their place

    module _ (placed : InPlace [] rs) where
      placed-enter : (n : ℕ) (l : Loop) (ys : List Record) (current : Bounds) (fs : List Frame) (a : KeptArms) (v : ℕ) → PlacedAt (loop_record l ∷ ys) fs →
          Placed (state_of (enter_loop ps n l ys current fs a v))
      unfolding enter_loop state_of
      placed-enter zero l ys current fs a v h = placed_past l ys fs placed h
      placed-enter (suc n) l ys current fs a v h = placed-loop l ys fs zero [] (current ⊕ exactly (entry_cost l (suc n))) h

      placed-trip : (more : Bool) (next left : State) → Placed next → Placed left → Placed (state_of (end_trip more next left))
      unfolding end_trip state_of
      placed-trip true next left further behind = further
      placed-trip false next left further behind = behind

      pub placed-record : (remaining : List Record) (current : Bounds) (fs : List Frame) (a : KeptArms) (v : ℕ) → PlacedAt remaining fs →
          Placed (state_of (pass_record ps remaining current fs a v))
      unfolding pass_record state_of opens_after numbers_after enclosing_after
      placed-record [] current fs a v h = h
      placed-record (work_record least most ∷ ys) current fs a v h = placed_same (work_record least most) ys fs (λ os e. (refl, refl)) (λ k ns. refl) h
      placed-record (loop_record l ∷ ys) current fs a v h = placed-enter (trips ps l (indexes_of ps fs)) l ys current fs a v h
      placed-record (choice_record ∷ ys) current fs a v h = placed-choice ys fs none current h
      placed-record (next_arm_record ∷ ys) current [] a v h = h
      placed-record (next_arm_record ∷ ys) current (loop_frame l body counter visited_sums enclosing ∷ fs) a v h = h
      placed-record (next_arm_record ∷ ys) current (choice_frame passed_arms enclosing ∷ fs) a v h =
          placed-arm ys fs passed_arms (some (add_arm passed_arms current)) enclosing (placed_same next_arm_record ys (choice_frame passed_arms enclosing ∷ fs) (λ os e. (refl, refl)) (λ k ns. refl) h)
      placed-record (end_record ∷ ys) current [] a v h = h
      placed-record (end_record ∷ ys) current (choice_frame passed_arms enclosing ∷ fs) a v h = placed-left-choice ys fs passed_arms enclosing h
      placed-record (end_record ∷ ys) current (loop_frame l body counter visited_sums enclosing ∷ fs) a v h =
          placed-trip _ _ _ (placed-again ys fs l body counter (suc counter) visited_sums _ enclosing h) (placed-left-loop ys fs l body counter visited_sums enclosing h)

      placed-from : (left : ℕ) (s : State) → Placed s → Placed (state_of (pass_from ps left s))
      unfolding pass_from state_of
      placed-from zero s h = h
      placed-from (suc left) s h = go (pass ps s) (unfold pass in placed-record s.remaining s.current s.frames s.arms s.visits h) (λ t. placed-from left t)
        where
          go : (step : Step) → Placed (state_of step) → ((t : State) → Placed t → Placed (state_of (pass_from ps left t))) →
              Placed (state_of (and_on (λ t. pass_from ps left t) step))
          go (going t) p on = unfold and_on in on t p
          go (begins_visit t) p on = unfold and_on in p
          go (at_end t) p on = unfold and_on in p
          go (stuck t) p on = unfold and_on in p

      pub placed_stage : (s : State) → Placed s → Placed (state_of (stage ps s))
      unfolding stage
      placed_stage s h = placed-from (suc (length s.remaining)) s h

      pub placed_first : Placed (first_state rs)
      unfolding first_state Framed opens_of enclosing_of opens_through numbers_through enclosing_through
      placed_first = record { before = []; numbers = []; split = refl; leaves = record { opens_are = refl; numbers_are = refl; loops_are = refl }; framed = tt }

      -- every state that stages reach from the sheet's start is in its place
      pub placed-stages : (n : ℕ) → Placed (stages ps n (first_state rs))
      unfolding stages
      placed-stages zero = placed_first
      placed-stages (suc n) = placed_stage (stages ps n (first_state rs)) (placed-stages n)
