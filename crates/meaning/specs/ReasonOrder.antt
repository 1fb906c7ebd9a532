-- What document 02 promises of a reason, apart from the search for it: what fails, by document 01's definition of closed, and which failure comes first.
use Rattle.std.specs.Prelude.{◌≡◌, List, [], ◌∷◌, ◌++◌, map, not, ◌⊎◌, ℕ, zero, ◌+◌, ◌<◌, ◌≤◌, ℤ, T, length}
use Rattle.std.proofs.Math.Option.{none, some}
use Rattle.std.specs.Int.Signed.{le_z}
use Rattle.whole.specs.Integer.{divides}
use Rattle.meaning.specs.Record.{Loop, stride_size, Record, work_record, loop_record, choice_record, next_arm_record, record_length, sheet_length}
use Rattle.meaning.specs.Tree.{Block, Arms, empty, work, loop, choice, last_arm, arm, records, arms_loops}
use Rattle.meaning.specs.Time.{difference}
use Rattle.meaning.specs.Range.{Range, ranges_inside, difference_range}
use Rattle.meaning.specs.Closed.{push, push_own, nest_pushes, asked_difference, closed}
use Rattle.meaning.specs.Place.{after_loop, after_choice}
use Rattle.meaning.specs.Reason.{Reason, holds_loop, too_few_trips, uneven_in, reason_of}

-- ---- what fails

-- among the records of a block, of which the first stands at `at`, a choice with these arms stands at c
mutual
  pub data ChoiceIn : Block → (at c : ℕ) → Arms → Type 0 where
    choice_here : {arms : Arms} {rest : Block} {at : ℕ} → ChoiceIn (choice arms rest) at at arms
    choice_in_arms : {arms found : Arms} {rest : Block} {at c : ℕ} →
        ChoiceInArms arms (at + record_length choice_record) c found → ChoiceIn (choice arms rest) at c found
    choice_after_choice : {arms found : Arms} {rest : Block} {at c : ℕ} → ChoiceIn rest (after_choice at arms) c found → ChoiceIn (choice arms rest) at c found
    choice_in_body : {l : Loop} {body rest : Block} {at c : ℕ} {found : Arms} →
        ChoiceIn body (at + record_length (loop_record l)) c found → ChoiceIn (loop l body rest) at c found
    choice_after_loop : {l : Loop} {body rest : Block} {at c : ℕ} {found : Arms} → ChoiceIn rest (after_loop at l body) c found → ChoiceIn (loop l body rest) at c found
    choice_after_work : {least most : ℕ} {rest : Block} {at c : ℕ} {found : Arms} →
        ChoiceIn rest (at + record_length (work_record least most)) c found → ChoiceIn (work least most rest) at c found

  pub data ChoiceInArms : Arms → (at c : ℕ) → Arms → Type 0 where
    choice_in_last_arm : {b : Block} {at c : ℕ} {found : Arms} → ChoiceIn b at c found → ChoiceInArms (last_arm b) at c found
    choice_in_arm : {b : Block} {arms : Arms} {at c : ℕ} {found : Arms} → ChoiceIn b at c found → ChoiceInArms (arm b arms) at c found
    choice_in_later_arm : {b : Block} {arms : Arms} {at c : ℕ} {found : Arms} →
        ChoiceInArms arms (at + sheet_length (records b) + record_length next_arm_record) c found → ChoiceInArms (arm b arms) at c found

-- a loop and its offset
pub record Placed : Type 0 where
  pub offset : ℕ
  pub placed : Loop

-- among the records of a block, loop K stands at k, inside the loops between, outermost first; also in an arm
mutual
  pub data LoopIn : Block → (at : ℕ) → List Placed → (k : ℕ) → Loop → Type 0 where
    loop_here : {l : Loop} {body rest : Block} {at : ℕ} → LoopIn (loop l body rest) at [] at l
    loop_in_body : {l found : Loop} {body rest : Block} {at k : ℕ} {between : List Placed} →
        LoopIn body (at + record_length (loop_record l)) between k found → LoopIn (loop l body rest) at (record { offset = at; placed = l } ∷ between) k found
    loop_after_loop : {l found : Loop} {body rest : Block} {at k : ℕ} {between : List Placed} →
        LoopIn rest (after_loop at l body) between k found → LoopIn (loop l body rest) at between k found
    loop_in_arms : {arms : Arms} {found : Loop} {rest : Block} {at k : ℕ} {between : List Placed} →
        LoopInArms arms (at + record_length choice_record) between k found → LoopIn (choice arms rest) at between k found
    loop_after_choice : {arms : Arms} {found : Loop} {rest : Block} {at k : ℕ} {between : List Placed} →
        LoopIn rest (after_choice at arms) between k found → LoopIn (choice arms rest) at between k found
    loop_after_work : {least most : ℕ} {found : Loop} {rest : Block} {at k : ℕ} {between : List Placed} →
        LoopIn rest (at + record_length (work_record least most)) between k found → LoopIn (work least most rest) at between k found

  pub data LoopInArms : Arms → (at : ℕ) → List Placed → (k : ℕ) → Loop → Type 0 where
    loop_in_last_arm : {b : Block} {found : Loop} {at k : ℕ} {between : List Placed} → LoopIn b at between k found → LoopInArms (last_arm b) at between k found
    loop_in_arm : {b : Block} {arms : Arms} {found : Loop} {at k : ℕ} {between : List Placed} →
        LoopIn b at between k found → LoopInArms (arm b arms) at between k found
    loop_in_later_arm : {b : Block} {arms : Arms} {found : Loop} {at k : ℕ} {between : List Placed} →
        LoopInArms arms (at + sheet_length (records b) + record_length next_arm_record) between k found → LoopInArms (arm b arms) at between k found

abbrev pub loops_of : List Placed → List Loop
loops_of ps = map (λ p. p.placed) ps

module _ (parameters : List ℤ) (l : Loop) (body : Block) (ranges : List Range) (at : ℕ) where
  -- the part of document 01's definition of closed that fails for the loop l at an offset: a choice inside it has a loop in an arm; K's smallest D is less
  -- than closing asks; the size of K's stride does not divide the push on K's D of M, which is that loop or one between
  pub data Fails : Reason → Type 0 where
    choice_fails : {c : ℕ} (arms : Arms) → ChoiceIn body (at + record_length (loop_record l)) c arms → (arms_loops arms ≡ zero → ⊥) → Fails (holds_loop c)
    smallest_fails : {k : ℕ} (between : List Placed) (found : Loop) → LoopIn body (at + record_length (loop_record l)) between k found →
        T (not (le_z (asked_difference found) (difference_range parameters found (ranges_inside parameters (l ∷ loops_of between) ranges)).lo)) → Fails (too_few_trips k)
    division_fails : {k : ℕ} (between outer : List Placed) (m : Placed) (inner : List Placed) (found : Loop) →
        LoopIn body (at + record_length (loop_record l)) between k found → record { offset = at; placed = l } ∷ between ≡ outer ++ (m ∷ inner) →
        T (not (divides (stride_size found) (push (difference found) (nest_pushes (loops_of inner)
        (push_own m.placed (length (ranges_inside parameters (loops_of outer) ranges))))))) → Fails (uneven_in k m.offset)

-- ---- which comes first

-- "Choices come first, by offset. Then loops K in sheet order, for each K too few trips before uneven, and M from the outermost inward"
unfoldable pub Precedes : Reason → Reason → Type 0
Precedes (holds_loop c) (holds_loop d) = c < d
Precedes (holds_loop c) (too_few_trips k) = Unit {0}
Precedes (holds_loop c) (uneven_in k m) = Unit {0}
Precedes (too_few_trips k) (holds_loop c) = ⊥
Precedes (too_few_trips k) (too_few_trips j) = k < j
Precedes (too_few_trips k) (uneven_in j m) = k ≤ j
Precedes (uneven_in k m) (holds_loop c) = ⊥
Precedes (uneven_in k m) (too_few_trips j) = k < j
Precedes (uneven_in k m) (uneven_in j n) = (k < j) ⊎ ((k ≡ j) × (m < n))

-- ---- where it stands

-- among records of which the first stands at `at`, this part of them stands at an offset
pub record StandsAt (rs : List Record) (at : ℕ) (part : List Record) (offset : ℕ) : Type 0 where
  pub before : List Record
  pub after : List Record
  pub split : rs ≡ before ++ (part ++ after)
  pub place : offset ≡ at + sheet_length before

-- after the first of them, which stands at `at`, a loop stands at K
abbrev pub LoopAfter : List Record → (at k : ℕ) → Type 0
LoopAfter rs at k = (found : Loop) × StandsAt rs at (loop_record found ∷ []) k × (at < k)

-- after the first of them a choice that has a loop in an arm stands at C, or a loop at K; or a loop stands at M, and loop K inside it
unfoldable pub Stands : List Record → (at : ℕ) → Reason → Type 0
Stands rs at (holds_loop c) = (arms : Arms) × StandsAt rs at (records (choice arms empty)) c × (arms_loops arms ≡ zero → ⊥) × (at < c)
Stands rs at (too_few_trips k) = LoopAfter rs at k
Stands rs at (uneven_in k m) =
    (mover : Loop) × (inner : Block) × StandsAt rs at (records (loop mover inner empty)) m × LoopAfter (records (loop mover inner empty)) m k

-- document 02's promise for a loop at an offset: a reason exactly if it is not closed, and where something fails; the reason fails and precedes whatever
-- else fails, and its offsets are those of records of the loop; each choice and each loop that can fail is the one that stands there
pub record Explained (parameters : List ℤ) (l : Loop) (body : Block) (ranges : List Range) (at : ℕ) : Type 0 where
  pub closed_has_none : T (closed parameters l body ranges) → reason_of parameters l body ranges at ≡ none
  pub none_is_closed : reason_of parameters l body ranges at ≡ none → T (closed parameters l body ranges)
  pub fails_has_reason : (s : Reason) → Fails parameters l body ranges at s → reason_of parameters l body ranges at ≡ none → ⊥
  pub reason_fails : (r : Reason) → reason_of parameters l body ranges at ≡ some r → Fails parameters l body ranges at r
  pub nothing_before : (r s : Reason) → reason_of parameters l body ranges at ≡ some r → Fails parameters l body ranges at s → (r ≡ s) ⊎ Precedes r s
  pub reason_stands : (r : Reason) → reason_of parameters l body ranges at ≡ some r → Stands (records (loop l body empty)) at r
  pub choice_stands : (c : ℕ) (arms : Arms) → ChoiceIn body (at + record_length (loop_record l)) c arms →
      StandsAt (records (loop l body empty)) at (records (choice arms empty)) c
  pub loop_stands : (between : List Placed) (k : ℕ) (found : Loop) → LoopIn body (at + record_length (loop_record l)) between k found →
      StandsAt (records (loop l body empty)) at (loop_record found ∷ []) k
