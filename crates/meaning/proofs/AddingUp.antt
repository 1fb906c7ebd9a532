-- In every state that stages reach, what was passed and what is to come add up to the sheet's time and visits; so no stage is stuck.
use mathlib.Core.Path.{◌≡◌, refl, sym, ap, ◌∙◌, subst}
use mathlib.Core.List.{List, [], ◌∷◌, ◌++◌, append_assoc, append-nil}
use mathlib.Core.Bool.{Bool, true, false, ◌&&◌, true≢false}
use mathlib.Core.Option.{Option, none, some}
use mathlib.Core.Logic.{◌⊎◌, inl, inr}
use Prim.Native.Nat.{ℕ, zero, suc, ◌+◌, ◌≤◌, ◌<◌}
use native.Mathlib.Decide.{dec_le}
use native.Mathlib.Omega.{arith}
use lib.IntN.{ℤ}
use lib.Dec.{T, leb}
use lib.ListN.{length}
use Rattle.meaning.specs.Record.{Loop, Record, end_record, next_arm_record}
use Rattle.meaning.specs.Tree.{Block, Arms, empty, work, loop, choice, last_arm, arm, tree, records, arms_records, height}
use Rattle.meaning.specs.Time.{entry_cost, Bounds, bounds, exactly, ◌⊕◌, hull, sum_over, trips, inner_indexes, time, arms_time}
use Rattle.meaning.specs.Range.{Range}
use Rattle.meaning.specs.Closed.{closed, ranked, loop_class}
use Rattle.meaning.specs.Visits.{count_over, visited_trips, visits, visits_by, arms_visits}
use Rattle.meaning.specs.Stage.{Frame, loop_frame, choice_frame, KeptArms, no_arms, State, state_keeping, first_state, after_end, add_arm, keep_arm}
use Rattle.meaning.specs.Stage.{Step, going, begins_visit, at_end, stuck, state_of, and_on, indexes_of, ranges_of, keeps_arms}
use Rattle.meaning.specs.Stage.{enter_loop, further, trips_sum, next_sums, next_arms, arms_left, end_trip, pass_record, pass, stage, stages}
use Rattle.meaning.proofs.Logic.{T→true}
use Rattle.meaning.proofs.SumsOfBounds.{⊕-assoc, zero-⊕, ⊕-zero, ⊕-three}
use Rattle.meaning.proofs.Passes.{PassDoes, pass-does, stage-unrolls}
use Rattle.meaning.proofs.Sound.{LoopSound, Sound, ArmsSound}
use Rattle.meaning.proofs.Trips.{trip_time, trip_visits}
use Rattle.meaning.proofs.Trees.{after_end-records, tree-before-end}
use Rattle.meaning.proofs.Runs.{least≤most}
use Rattle.meaning.proofs.Closable.{walked-class}
use Rattle.meaning.proofs.RankedArms.{arms_times, choices_times}
use Rattle.meaning.proofs.Rankable.{LoopsClosed, ArmsClosed, closed-loops, ranked-loops, ranked-open}
use Rattle.meaning.proofs.KeptTrips.{kept_sums, keep_all, keep_all-append, keep_all-none}
use Rattle.meaning.proofs.VisitedTrips.{visited-most, visited-some}
use Rattle.meaning.proofs.TripEnds.{sums_before, arms_before, arms_after, arms_stay, trip-further, arms-left, trip-last}
use Rattle.meaning.proofs.Levels.{further_records, FurtherSound, PassedOrdered, passed-joined, join-further, further_time, further_visits, further_arms}
use Rattle.meaning.proofs.Levels.{FurtherClosed, AllWalked, walked_keeps, LoopLevel, Total, Ready, AddsUp, frames-inside, same_total}

module _ (ps : List ℤ) where
  -- ---- what may be passed

  -- a ranked loop is entered only where no other one is open
  pub ranked-free : (a : KeptArms) (ranges : List Range) (l : Loop) (b after : Block) (Walked : Type 0) →
      (Walked × (a ≡ no_arms)) ⊎ LoopsClosed ps (loop l b after) ranges → ranked ps l b ranges ≡ true → a ≡ no_arms
  unfolding LoopsClosed
  ranked-free a ranges l b after Walked (inl free) e = free.1
  ranked-free a ranges l b after Walked (inr shut) e =
      absurd (true≢false (sym (T→true (closed ps l b ranges) shut.0) ∙ ranked-open ps l b ranges (subst T (sym e) tt)))

  -- Of a sheet that comes to `whole` with `all` visits.
  module _ (whole : Bounds) (all : ℕ) where
    -- ---- passing a record

    -- what one pass comes to adds up, and is not stuck
    unfoldable pub StepAddsUp : Step → Type 0
    StepAddsUp (going t) = AddsUp ps whole all t
    StepAddsUp (begins_visit t) = AddsUp ps whole all t
    StepAddsUp (at_end t) = AddsUp ps whole all t
    StepAddsUp (stuck t) = ⊥

    abbrev Adding : State → Type 0
    Adding s = AddsUp ps whole all s

    abbrev Comes : List Frame → List Record → Bounds → ℕ → KeptArms → Type 0
    Comes fs tail total count arms = Total ps whole all fs tail total count arms

    -- with no loop around but walked ones no arms are kept; so what is passed keeps none
    kept-none : (fs : List Frame) (p : List Bounds) (a : KeptArms) → AllWalked ps fs → a ≡ no_arms → keep_all (keeps_arms ps fs) p a ≡ no_arms
    kept-none fs p a walked free = ap (λ (x : Bool). keep_all x p a) (walked_keeps ps fs walked) ∙ keep_all-none p a ∙ free

    -- the first of the arms opens
    arm-opens : (arms : Arms) (passed : Option Bounds) (enclosing : Bounds) (after : Block) (tail : List Record) (fs : List Frame) (v : ℕ) (a : KeptArms) →
        ArmsSound arms → Sound after → PassedOrdered passed →
        (AllWalked ps fs × (a ≡ no_arms)) ⊎ (ArmsClosed ps arms (ranges_of ps fs) × LoopsClosed ps after (ranges_of ps fs)) →
        Comes fs tail (enclosing ⊕ add_arm passed (arms_time ps arms (indexes_of ps fs)) ⊕ time ps after (indexes_of ps fs))
        (v + arms_visits ps arms (ranges_of ps fs) (indexes_of ps fs) + visits ps after (ranges_of ps fs) (indexes_of ps fs))
        (keep_all (keeps_arms ps fs) (choices_times ps after (indexes_of ps fs)) (keep_all (keeps_arms ps fs) (arms_times ps arms (indexes_of ps fs)) a)) →
        Adding (state_keeping a (arms_records arms ++ (end_record ∷ (records after ++ tail))) (exactly zero) (choice_frame passed enclosing ∷ fs) v)
    unfolding Total indexes_of ranges_of records time visits_by further_time further_visits further_records further_arms FurtherSound FurtherClosed Sound
        keeps_arms AllWalked arms_times LoopsClosed
    arm-opens (last_arm b) passed enclosing after tail fs v a sound after_sound ordered ready h =
        let t : Bounds = time ps b (indexes_of ps fs) in
        record {
          rest = b;
          tail = end_record ∷ (records after ++ tail);
          remaining_is = refl;
          rest_sound = sound;
          ready = only ready;
          level = record {
            open_arm = b;
            further = none;
            after = after;
            outer_tail = tail;
            tail_is = refl;
            arm_sound = sound;
            further_sound = tt;
            after_sound = after_sound;
            total_is = zero-⊕ t;
            passed_ordered = ordered;
            ready = behind ready;
            around = same_total ps whole all fs tail
                (ap (λ (x : Bounds). enclosing ⊕ add_arm passed x ⊕ time ps after (indexes_of ps fs)) (sym (zero-⊕ t))) (omega arith)
                (λ i. keep_all (keeps_arms ps fs) (choices_times ps after (indexes_of ps fs))
                (keep_all (keeps_arms ps fs) (sym (zero-⊕ t) i ∷ []) (sym (keep_all-none (choices_times ps b (indexes_of ps fs)) a) i))) h;
          };
        }
      where
        only : (AllWalked ps fs × (a ≡ no_arms)) ⊎ (ArmsClosed ps (last_arm b) (ranges_of ps fs) × LoopsClosed ps after (ranges_of ps fs)) →
            Ready ps whole all a (choice_frame passed enclosing ∷ fs) b
        only (inl free) = inl free
        only (inr shut) = inr shut.0

        behind : (AllWalked ps fs × (a ≡ no_arms)) ⊎ (ArmsClosed ps (last_arm b) (ranges_of ps fs) × LoopsClosed ps after (ranges_of ps fs)) →
            (AllWalked ps fs × (keep_all false (choices_times ps b (indexes_of ps fs)) a ≡ no_arms)) ⊎ (FurtherClosed ps none (ranges_of ps fs) × LoopsClosed ps after (ranges_of ps fs))
        behind (inl free) = inl (free.0, keep_all-none (choices_times ps b (indexes_of ps fs)) a ∙ free.1)
        behind (inr shut) = inr (tt, shut.1)
    arm-opens (arm b arms) passed enclosing after tail fs v a sound after_sound ordered ready h =
        let t : Bounds = time ps b (indexes_of ps fs) in
        let u : Bounds = arms_time ps arms (indexes_of ps fs) in
        let joined = sym (join-further passed t u) ∙ ap (λ (x : Bounds). hull (add_arm passed x) u) (sym (zero-⊕ t)) in
        record {
          rest = b;
          tail = next_arm_record ∷ (arms_records arms ++ (end_record ∷ (records after ++ tail)));
          remaining_is = append_assoc (records b) (next_arm_record ∷ arms_records arms) (end_record ∷ (records after ++ tail));
          rest_sound = sound.0;
          ready = first ready;
          level = record {
            open_arm = b;
            further = some arms;
            after = after;
            outer_tail = tail;
            tail_is = refl;
            arm_sound = sound.0;
            further_sound = sound.1;
            after_sound = after_sound;
            total_is = zero-⊕ t;
            passed_ordered = ordered;
            ready = behind ready;
            around = same_total ps whole all fs tail (ap (λ (x : Bounds). enclosing ⊕ x ⊕ time ps after (indexes_of ps fs)) joined) (omega arith)
                (λ i. keep_all (keeps_arms ps fs) (choices_times ps after (indexes_of ps fs))
                (keep_all (keeps_arms ps fs) (sym (zero-⊕ t) i ∷ arms_times ps arms (indexes_of ps fs)) (sym (keep_all-none (choices_times ps b (indexes_of ps fs)) a) i))) h;
          };
        }
      where
        first : (AllWalked ps fs × (a ≡ no_arms)) ⊎ (ArmsClosed ps (arm b arms) (ranges_of ps fs) × LoopsClosed ps after (ranges_of ps fs)) →
            Ready ps whole all a (choice_frame passed enclosing ∷ fs) b
        first (inl free) = inl free
        first (inr shut) = inr shut.0.0

        behind : (AllWalked ps fs × (a ≡ no_arms)) ⊎ (ArmsClosed ps (arm b arms) (ranges_of ps fs) × LoopsClosed ps after (ranges_of ps fs)) →
            (AllWalked ps fs × (keep_all false (choices_times ps b (indexes_of ps fs)) a ≡ no_arms))
            ⊎ (FurtherClosed ps (some arms) (ranges_of ps fs) × LoopsClosed ps after (ranges_of ps fs))
        behind (inl free) = inl (free.0, keep_all-none (choices_times ps b (indexes_of ps fs)) a ∙ free.1)
        behind (inr shut) = inr (shut.0.1, shut.1)

    -- the end of an arm: the choice is left, or the next arm opens
    arm-ends : (next : Option Arms) (passed : Option Bounds) (enclosing c : Bounds) (after : Block) (tail : List Record) (fs : List Frame) (v : ℕ) (a : KeptArms) →
        FurtherSound next → Sound after → PassedOrdered passed → c.least ≤ c.most →
        (AllWalked ps fs × (a ≡ no_arms)) ⊎ (FurtherClosed ps next (ranges_of ps fs) × LoopsClosed ps after (ranges_of ps fs)) →
        Comes fs tail (enclosing ⊕ further_time ps next (indexes_of ps fs) (add_arm passed c) ⊕ time ps after (indexes_of ps fs))
        (v + further_visits ps next (ranges_of ps fs) (indexes_of ps fs) + visits ps after (ranges_of ps fs) (indexes_of ps fs))
        (keep_all (keeps_arms ps fs) (choices_times ps after (indexes_of ps fs)) (keep_all (keeps_arms ps fs) (c ∷ further_arms ps next (indexes_of ps fs)) a)) →
        StepAddsUp (pass_record ps (further_records next (records after ++ tail)) c (choice_frame passed enclosing ∷ fs) a v)
    unfolding StepAddsUp pass_record further_records further_time further_visits further_arms FurtherSound FurtherClosed PassedOrdered add_arm keep_all
    arm-ends none passed enclosing c after tail fs v a sound after_sound ordered c_ordered ready h =
        record {
          rest = after;
          tail = tail;
          remaining_is = refl;
          rest_sound = after_sound;
          ready = left ready;
          level = same_total ps whole all fs tail refl (omega arith) refl h;
        }
      where
        left : (AllWalked ps fs × (a ≡ no_arms)) ⊎ (FurtherClosed ps none (ranges_of ps fs) × LoopsClosed ps after (ranges_of ps fs)) →
            Ready ps whole all (keep_arm (keeps_arms ps fs) a c) fs after
        left (inl free) = inl (free.0, kept-none fs (c ∷ []) a free.0 free.1)
        left (inr shut) = inr shut.1
    arm-ends (some arms) passed enclosing c after tail fs v a sound after_sound ordered c_ordered ready h =
        arm-opens arms (some (add_arm passed c)) enclosing after tail fs v (keep_arm (keeps_arms ps fs) a c) sound after_sound
        (passed-joined passed c ordered c_ordered) (onward ready) h
      where
        onward : (AllWalked ps fs × (a ≡ no_arms)) ⊎ (FurtherClosed ps (some arms) (ranges_of ps fs) × LoopsClosed ps after (ranges_of ps fs)) →
            (AllWalked ps fs × (keep_arm (keeps_arms ps fs) a c ≡ no_arms)) ⊎ (ArmsClosed ps arms (ranges_of ps fs) × LoopsClosed ps after (ranges_of ps fs))
        onward (inl free) = inl (free.0, kept-none fs (c ∷ []) a free.0 free.1)
        onward (inr shut) = inr shut

    -- a trip of a loop opens: its body may be passed
    trip-ready : (l : Loop) (b after : Block) (q : List Record) (k : ℕ) (sums : List Bounds) (enclosing : Bounds) (fs : List Frame) (a : KeptArms) →
        Ready ps whole all a fs (loop l b after) →
        Ready ps whole all (arms_before ps l b (ranges_of ps fs) (indexes_of ps fs) a k) (loop_frame l (records b ++ (end_record ∷ q)) k sums enclosing ∷ fs) b
    unfolding LoopsClosed ranges_of AllWalked
    trip-ready l b after q k sums enclosing fs a ready = go (closed ps l b (ranges_of ps fs)) (ranked ps l b (ranges_of ps fs)) refl refl ready
      where
        go : (c r : Bool) → closed ps l b (ranges_of ps fs) ≡ c → ranked ps l b (ranges_of ps fs) ≡ r → Ready ps whole all a fs (loop l b after) →
            Ready ps whole all (arms_before ps l b (ranges_of ps fs) (indexes_of ps fs) a k) (loop_frame l (records b ++ (end_record ∷ q)) k sums enclosing ∷ fs) b
        go true r e f ready = inr (closed-loops ps l b (ranges_of ps fs) (subst T (sym e) tt))
        go false true e f ready = inr (ranked-loops ps l b (ranges_of ps fs) (subst T (sym f) tt))
        go false false e f (inl free) =
            inl (
              (ap (λ (x : Block). loop_class ps l x (ranges_of ps fs)) (tree-before-end b q) ∙ walked-class ps l b (ranges_of ps fs) e f, free.0),
              arms_stay ps l b (ranges_of ps fs) (indexes_of ps fs) a f k ∙ free.1,
            )
        go false false e f (inr shut) = inr shut.1

    -- arms are kept in a trip as its frame says
    trip-keeps : (l : Loop) (b : Block) (q : List Record) (k : ℕ) (sums : List Bounds) (enclosing : Bounds) (fs : List Frame) →
        keeps_arms ps (loop_frame l (records b ++ (end_record ∷ q)) k sums enclosing ∷ fs) ≡ ranked ps l b (ranges_of ps fs) && leb k (height b)
    unfolding keeps_arms
    trip-keeps l b q k sums enclosing fs = ap (λ (x : Block). ranked ps l x (ranges_of ps fs) && leb k (height x)) (tree-before-end b q)

    -- The end of a trip of loop l with the counter k, where the trip has come to c, there are v visits and the arms a are kept.
    module _ (l : Loop) (body : List Record) (k : ℕ) (sums : List Bounds) (enclosing c : Bounds) (fs : List Frame) (tail : List Record) (v : ℕ) (a : KeptArms)
        (h : LoopLevel ps (λ t b n x. Comes fs t b n x) (AllWalked ps fs) (keeps_arms ps fs) (ranges_of ps fs) (indexes_of ps fs) l body k sums enclosing tail c v a) where
      abbrev made : ℕ
      made = trips ps l (indexes_of ps fs)

      abbrev visited : ℕ
      visited = visited_trips ps l h.block (ranges_of ps fs) (indexes_of ps fs) made

      abbrev trip_times : ℕ → Bounds
      trip_times = trip_time ps l h.block (indexes_of ps fs)

      abbrev sums_at : ℕ → List Bounds
      sums_at = sums_before ps l h.block (ranges_of ps fs) (indexes_of ps fs) h.outer_arms

      abbrev arms_at : KeptArms
      arms_at = arms_after ps l h.block (ranges_of ps fs) (indexes_of ps fs) h.outer_arms k

      abbrev following : List Record
      following = records h.after ++ h.outer_tail

      free : ranked ps l h.block (ranges_of ps fs) ≡ true → h.outer_arms ≡ no_arms
      free = ranked-free h.outer_arms (ranges_of ps fs) l h.block h.after (AllWalked ps fs) h.ready

      -- what passing the end comes to, where b is taken for the body, xs for the trips kept, t for the trip and p for the arms kept
      abbrev next_state : Block → List Bounds → Bounds → KeptArms → State
      next_state b xs t p = state_keeping (next_arms ps l b (ranges_of ps fs) made k p) body (exactly zero)
          (loop_frame l body (suc k) (next_sums ps l b (ranges_of ps fs) made k xs t) enclosing ∷ fs) (suc v)

      abbrev left_state : Block → List Bounds → Bounds → KeptArms → State
      left_state b xs t p = state_keeping (arms_left ps l b (ranges_of ps fs) made k p) following (enclosing ⊕ trips_sum ps l b (ranges_of ps fs) made k p xs t) fs v

      abbrev ending : Block → List Bounds → Bounds → KeptArms → Step
      ending b xs t p = end_trip (further ps l b (ranges_of ps fs) made k p) (next_state b xs t p) (left_state b xs t p)

      body_is : body ≡ records h.block ++ (end_record ∷ following)
      body_is = h.body_is ∙ ap (λ rs. records h.block ++ rs) h.tail_is

      -- a further trip opens
      trip-follows : suc k < visited → StepAddsUp (begins_visit (next_state h.block (sums_at k) (trip_times k) arms_at))
      unfolding StepAddsUp Total indexes_of ranges_of count_over sums_before arms_before next_sums kept_sums
      trip-follows less = record {
        rest = h.block;
        tail = tail;
        remaining_is = h.body_is;
        rest_sound = h.block_sound;
        ready = subst (λ rs. Ready ps whole all (arms_before ps l h.block (ranges_of ps fs) (indexes_of ps fs) h.outer_arms (suc k))
            (loop_frame l rs (suc k) (sums_at (suc k)) enclosing ∷ fs) h.block) (sym body_is)
            (trip-ready l h.block h.after following (suc k) (sums_at (suc k)) enclosing fs h.outer_arms h.ready);
        level = record {
          block = h.block;
          after = h.after;
          outer_tail = h.outer_tail;
          entered = h.entered;
          outer_arms = h.outer_arms;
          body_is = h.body_is;
          tail_is = h.tail_is;
          loop_sound = h.loop_sound;
          block_sound = h.block_sound;
          after_sound = h.after_sound;
          total_is = zero-⊕ (time ps h.block (inner_indexes ps l (indexes_of ps fs) (suc k)));
          count_is = omega (arith, h.count_is);
          trip_visited = less;
          sums_are = refl;
          arms_are = ap (λ (x : Bool). keep_all x (choices_times ps h.block (inner_indexes ps l (indexes_of ps fs) (suc k)))
              (arms_before ps l h.block (ranges_of ps fs) (indexes_of ps fs) h.outer_arms (suc k)))
              (ap (λ rs. keeps_arms ps (loop_frame l rs (suc k) (sums_at (suc k)) enclosing ∷ fs)) body_is
              ∙ trip-keeps l h.block following (suc k) (sums_at (suc k)) enclosing fs);
          ready = h.ready;
          around = h.around;
        };
      }

      -- the loop is left
      loop-left : visited ≡ suc k → StepAddsUp (going (left_state h.block (sums_at k) (trip_times k) arms_at))
      unfolding StepAddsUp
      loop-left all_made =
          let inside = frames-inside ps whole all fs h.outer_tail _ _ _ h.around in
          let last = trip-last ps l h.block (ranges_of ps fs) (indexes_of ps fs) h.outer_arms free h.block_sound inside k all_made in
          let left = arms-left ps l h.block (ranges_of ps fs) (indexes_of ps fs) h.outer_arms free k in
          let count = ap (λ (m : ℕ). count_over m (trip_visits ps l h.block (ranges_of ps fs) (indexes_of ps fs))) all_made in
          record {
            rest = h.after;
            tail = h.outer_tail;
            remaining_is = refl;
            rest_sound = h.after_sound;
            ready = subst (λ x. Ready ps whole all x fs h.after) (sym left) (behind h.ready);
            level = same_total ps whole all fs h.outer_tail
                (ap (λ (x : Bounds). enclosing ⊕ x ⊕ time ps h.after (indexes_of ps fs)) (sym last.1)) (omega (arith, count, h.count_is))
                (ap (keep_all (keeps_arms ps fs) (choices_times ps h.after (indexes_of ps fs))) (sym left)) h.around;
          }
        where
          behind : Ready ps whole all h.outer_arms fs (loop l h.block h.after) → Ready ps whole all h.outer_arms fs h.after
          behind (inl walked) = inl walked
          behind (inr shut) = unfold LoopsClosed in inr shut.2

      trip-ends : StepAddsUp (pass_record ps tail c (loop_frame l body k sums enclosing ∷ fs) a v)
      unfolding pass_record
      trip-ends =
          let same : tree body ≡ h.block = ap tree body_is ∙ tree-before-end h.block following in
          subst (λ rs. StepAddsUp (pass_record ps rs c (loop_frame l body k sums enclosing ∷ fs) a v)) (sym h.tail_is)
          (subst (λ b. StepAddsUp (ending b sums (c ⊕ exactly l.step) a)) (sym same)
          (subst (λ x. x) (λ i. StepAddsUp (ending h.block (sym h.sums_are i) (sym h.total_is i ⊕ exactly l.step) (sym h.arms_are i)))
          (go (dec_le (suc (suc k)) visited))))
        where
          go : Dec (suc (suc k) ≤ visited) → StepAddsUp (ending h.block (sums_at k) (trip_times k) arms_at)
          go (yes less) = unfold end_trip in
              subst (λ (more : Bool). StepAddsUp (end_trip more (next_state h.block (sums_at k) (trip_times k) arms_at) (left_state h.block (sums_at k) (trip_times k) arms_at)))
              (sym (trip-further ps l h.block (ranges_of ps fs) (indexes_of ps fs) h.outer_arms free k less)) (trip-follows less)
          go (no not-less) = unfold end_trip in
              let all_made : visited ≡ suc k = omega (arith, h.trip_visited) in
              let inside = frames-inside ps whole all fs h.outer_tail _ _ _ h.around in
              subst (λ (more : Bool). StepAddsUp (end_trip more (next_state h.block (sums_at k) (trip_times k) arms_at) (left_state h.block (sums_at k) (trip_times k) arms_at)))
              (sym (trip-last ps l h.block (ranges_of ps fs) (indexes_of ps fs) h.outer_arms free h.block_sound inside k all_made).0) (loop-left all_made)

    -- a loop's record: its first trip opens, or with no trip the stage goes on after its end
    loop-enters : (n : ℕ) (l : Loop) (b after : Block) (c : Bounds) (fs : List Frame) (tail : List Record) (v : ℕ) (a : KeptArms) →
        trips ps l (indexes_of ps fs) ≡ n → LoopSound l → Sound b → Sound after → Ready ps whole all a fs (loop l b after) →
        Comes fs tail
        (c ⊕ (exactly (entry_cost l (trips ps l (indexes_of ps fs))) ⊕ sum_over (trips ps l (indexes_of ps fs)) (trip_time ps l b (indexes_of ps fs))
        ⊕ time ps after (indexes_of ps fs)))
        (v + (count_over (visited_trips ps l b (ranges_of ps fs) (indexes_of ps fs) (trips ps l (indexes_of ps fs)))
        (trip_visits ps l b (ranges_of ps fs) (indexes_of ps fs)) + visits ps after (ranges_of ps fs) (indexes_of ps fs)))
        (keep_all (keeps_arms ps fs) (choices_times ps after (indexes_of ps fs)) a) →
        StepAddsUp (enter_loop ps n l (records b ++ (end_record ∷ (records after ++ tail))) c fs a v)
    unfolding StepAddsUp enter_loop Total indexes_of ranges_of after_end sum_over count_over sums_before kept_sums arms_before
    loop-enters zero l b after c fs tail v a e loop_sound b_sound after_sound ready h =
        let f : ℕ → Bounds = trip_time ps l b (indexes_of ps fs) in
        let made : ℕ = trips ps l (indexes_of ps fs) in
        let entry : Bounds = exactly (entry_cost l zero) in
        let t : Bounds = time ps after (indexes_of ps fs) in
        let none : exactly (entry_cost l made) ⊕ sum_over made f ≡ entry =
        ap (λ (m : ℕ). exactly (entry_cost l m) ⊕ sum_over m f) e ∙ ⊕-zero entry in
        let visited : visited_trips ps l b (ranges_of ps fs) (indexes_of ps fs) made ≡ 0 = omega (arith, visited-most ps l b (ranges_of ps fs) (indexes_of ps fs) made) in
        let count = ap (λ (m : ℕ). count_over m (trip_visits ps l b (ranges_of ps fs) (indexes_of ps fs))) visited in
        record {
          rest = after;
          tail = tail;
          remaining_is = after_end-records b zero (end_record ∷ (records after ++ tail));
          rest_sound = after_sound;
          ready = behind ready;
          level = same_total ps whole all fs tail (ap (λ (x : Bounds). c ⊕ (x ⊕ t)) none ∙ sym (⊕-assoc c entry t)) (omega (arith, count)) refl h;
        }
      where
        behind : Ready ps whole all a fs (loop l b after) → Ready ps whole all a fs after
        behind (inl walked) = inl walked
        behind (inr shut) = unfold LoopsClosed in inr shut.2
    loop-enters (suc n) l b after c fs tail v a e loop_sound b_sound after_sound ready h =
        let f : ℕ → Bounds = trip_time ps l b (indexes_of ps fs) in
        let made : ℕ = trips ps l (indexes_of ps fs) in
        record {
          rest = b;
          tail = end_record ∷ (records after ++ tail);
          remaining_is = refl;
          rest_sound = b_sound;
          ready = trip-ready l b after (records after ++ tail) zero [] (c ⊕ exactly (entry_cost l (suc n))) fs a ready;
          level = record {
            block = b;
            after = after;
            outer_tail = tail;
            entered = v;
            outer_arms = a;
            body_is = refl;
            tail_is = refl;
            loop_sound = loop_sound;
            block_sound = b_sound;
            after_sound = after_sound;
            total_is = zero-⊕ (time ps b (inner_indexes ps l (indexes_of ps fs) zero));
            count_is = omega arith;
            trip_visited = visited-some ps l b (ranges_of ps fs) (indexes_of ps fs) made (omega arith);
            sums_are = refl;
            arms_are = ap (λ (x : Bool). keep_all x (choices_times ps b (inner_indexes ps l (indexes_of ps fs) zero)) a)
                (trip-keeps l b (records after ++ tail) zero [] (c ⊕ exactly (entry_cost l (suc n))) fs);
            ready = ready;
            around = same_total ps whole all fs tail
                (⊕-three c (exactly (entry_cost l made)) (sum_over made f) (time ps after (indexes_of ps fs))
                ∙ ap (λ (m : ℕ). c ⊕ exactly (entry_cost l m) ⊕ sum_over made f ⊕ time ps after (indexes_of ps fs)) e) (omega arith) refl h;
          };
        }

    -- where nothing remains of what is open
    end-adds-up : (fs : List Frame) (tail : List Record) (c : Bounds) (v : ℕ) (a : KeptArms) → Comes fs tail c v a → StepAddsUp (pass_record ps tail c fs a v)
    unfolding Total pass_record StepAddsUp records time visits_by choices_times keep_all AllWalked
    end-adds-up [] tail c v a h =
        subst (λ rs. StepAddsUp (pass_record ps rs c [] a v)) (sym h.0)
        (record {
          rest = empty;
          tail = [];
          remaining_is = refl;
          rest_sound = unfold Sound in tt;
          ready = inl (tt, h.3);
          level = (refl, ⊕-zero c ∙ h.1, omega (arith, h.2), h.3);
        })
    end-adds-up (loop_frame l body k sums enclosing ∷ fs) tail c v a h = trip-ends l body k sums enclosing c fs tail v a h
    end-adds-up (choice_frame passed enclosing ∷ fs) tail c v a h =
        let e = ap (λ (b : Bounds). b.least) h.total_is in
        let f = ap (λ (b : Bounds). b.most) h.total_is in
        subst (λ rs. StepAddsUp (pass_record ps rs c (choice_frame passed enclosing ∷ fs) a v)) (sym h.tail_is)
        (arm-ends h.further passed enclosing c h.after h.outer_tail fs v a h.further_sound h.after_sound h.passed_ordered
        (omega (arith, least≤most h.open_arm h.arm_sound ps (indexes_of ps fs))) h.ready h.around)

    pass-adds-up : (rest : Block) (tail : List Record) (c : Bounds) (fs : List Frame) (v : ℕ) (a : KeptArms) → Sound rest → Ready ps whole all a fs rest →
        Comes fs tail (c ⊕ time ps rest (indexes_of ps fs)) (v + visits ps rest (ranges_of ps fs) (indexes_of ps fs))
        (keep_all (keeps_arms ps fs) (choices_times ps rest (indexes_of ps fs)) a) →
        StepAddsUp (pass_record ps (records rest ++ tail) c fs a v)
    unfolding pass_record StepAddsUp records time visits_by Sound PassedOrdered add_arm choices_times LoopsClosed
    pass-adds-up empty tail c fs v a s ready h = end-adds-up fs tail c v a (unfold keep_all in same_total ps whole all fs tail (⊕-zero c) (omega arith) refl h)
    pass-adds-up (work least most rest) tail c fs v a s ready h = record {
      rest = rest;
      tail = tail;
      remaining_is = refl;
      rest_sound = s.1;
      ready = ready;
      level = same_total ps whole all fs tail (sym (⊕-assoc c (bounds least most) (time ps rest (indexes_of ps fs)))) refl refl h;
    }
    pass-adds-up (loop l b after) tail c fs v a s ready h =
        subst (λ rs. StepAddsUp (enter_loop ps (trips ps l (indexes_of ps fs)) l rs c fs a v))
        (sym (append_assoc (records b) (end_record ∷ records after) tail))
        (loop-enters (trips ps l (indexes_of ps fs)) l b after c fs tail v a refl s.0 s.1 s.2 ready h)
    pass-adds-up (choice arms after) tail c fs v a s ready h =
        let t : Bounds = arms_time ps arms (indexes_of ps fs) in
        subst (λ rs. Adding (state_keeping a rs (exactly zero) (choice_frame none c ∷ fs) v)) (sym (append_assoc (arms_records arms) (end_record ∷ records after) tail))
        (arm-opens arms none c after tail fs v a s.0 s.1 tt (onward ready)
        (same_total ps whole all fs tail (sym (⊕-assoc c t (time ps after (indexes_of ps fs)))) (omega arith)
        (keep_all-append (keeps_arms ps fs) (arms_times ps arms (indexes_of ps fs)) (choices_times ps after (indexes_of ps fs)) a) h))
      where
        onward : Ready ps whole all a fs (choice arms after) →
            (AllWalked ps fs × (a ≡ no_arms)) ⊎ (ArmsClosed ps arms (ranges_of ps fs) × LoopsClosed ps after (ranges_of ps fs))
        onward (inl walked) = inl walked
        onward (inr shut) = inr shut

    -- what a pass from a state that adds up comes to adds up
    pub adds-up-pass : (s : State) → Adding s → StepAddsUp (pass ps s)
    unfolding pass
    adds-up-pass s h =
        subst (λ rs. StepAddsUp (pass_record ps rs s.current s.frames s.arms s.visits)) (sym h.remaining_is)
        (pass-adds-up h.rest h.tail s.current s.frames s.visits s.arms h.rest_sound h.ready h.level)

    -- so does a whole stage
    adds-up-from : (n : ℕ) (s : State) → length s.remaining < n → Adding s → StepAddsUp (stage ps s)
    unfolding PassDoes StepAddsUp and_on
    adds-up-from zero s h a = absurd (omega arith)
    adds-up-from (suc n) s h a =
        subst StepAddsUp (sym (stage-unrolls ps s)) (go (pass ps s) (pass-does ps s) (adds-up-pass s a) (λ t. adds-up-from n t))
      where
        go : (p : Step) → PassDoes s p → StepAddsUp p → ((t : State) → length t.remaining < n → Adding t → StepAddsUp (stage ps t)) →
            StepAddsUp (and_on (λ t. stage ps t) p)
        go (going t) does b further = let shorter = does.1 in further t (omega arith) b
        go (begins_visit t) does b further = b
        go (at_end t) does b further = b
        go (stuck t) does b further = b

    pub adds-up-stage : (s : State) → Adding s → StepAddsUp (stage ps s)
    adds-up-stage s a = adds-up-from (suc (length s.remaining)) s (omega arith) a

    pub adds-up-stages : (n : ℕ) (s : State) → Adding s → Adding (stages ps n s)
    unfolding stages
    adds-up-stages zero s a = a
    adds-up-stages (suc n) s a = go (stage ps (stages ps n s)) (adds-up-stage (stages ps n s) (adds-up-stages n s a))
      where
        go : (p : Step) → StepAddsUp p → Adding (state_of p)
        go (going t) b = unfold StepAddsUp state_of in b
        go (begins_visit t) b = unfold StepAddsUp state_of in b
        go (at_end t) b = unfold StepAddsUp state_of in b
        go (stuck t) b = unfold StepAddsUp in absurd b

  -- the first state adds up
  pub first-adds-up : (rs : List Record) → Sound (tree rs) → records (tree rs) ≡ rs →
      AddsUp ps (time ps (tree rs) []) (visits ps (tree rs) [] []) (first_state rs)
  unfolding first_state Total indexes_of ranges_of keeps_arms AllWalked
  first-adds-up rs sound same = record {
    rest = tree rs;
    tail = [];
    remaining_is = sym (append-nil (records (tree rs)) ∙ same);
    rest_sound = sound;
    ready = inl (tt, refl);
    level = (refl, zero-⊕ (time ps (tree rs) []), omega arith, keep_all-none (choices_times ps (tree rs) []) no_arms);
  }
