-- Why a loop is not closed: the first of the tests for closing that fails, in document 02's order (C-11).
use Rattle.std.specs.Prelude.{List, [], ◌∷◌, ◌++◌, map, Bool, not, cond, ℕ, zero, ◌+◌, ℤ, eqb, length}
use Rattle.std.proofs.Math.Option.{Option, none, some}
use Rattle.std.specs.Int.Signed.{le_z}
use Rattle.whole.specs.Integer.{divides}
use Rattle.meaning.specs.Record.{Loop, stride_size, work_record, loop_record, choice_record, next_arm_record, record_length, sheet_length}
use Rattle.meaning.specs.Tree.{Block, Arms, empty, work, loop, choice, last_arm, arm, records, arms_loops}
use Rattle.meaning.specs.Time.{difference}
use Rattle.meaning.specs.Range.{Range, inner_ranges, difference_range}
use Rattle.meaning.specs.Closed.{push, push_own, push_inner, asked_difference}
use Rattle.meaning.specs.Place.{after_loop, after_choice}

-- document 02: reason, with the offsets of choice C, loop K and loop M
pub data Reason : Type 0 where
  -- `choice C holds a loop`
  holds_loop : (c : ℕ) → Reason
  -- `loop K may fall below no trips`
  too_few_trips : (k : ℕ) → Reason
  -- `loop K is uneven in loop M`
  uneven_in : (k m : ℕ) → Reason

-- one thing that closing asks: the reason that it gives where it fails
pub record Test : Type 0 where
  pub reason : Reason
  pub fails : Bool

-- "the search stops at the first pair that fails"
unfoldable pub first_failing : List Test → Option Reason
first_failing [] = none
first_failing (t ∷ ts) = cond t.fails (some t.reason) (first_failing ts)

-- "Choices come first, by offset": a choice fails where it has a loop in an arm, directly or deeper; the records stand at `at`
unfoldable mutual
  pub choice_tests : Block → ℕ → List Test
  choice_tests empty at = []
  choice_tests (work least most rest) at = choice_tests rest (at + record_length (work_record least most))
  choice_tests (loop l body rest) at = choice_tests body (at + record_length (loop_record l)) ++ choice_tests rest (after_loop at l body)
  choice_tests (choice arms rest) at =
      record { reason = holds_loop at; fails = not (eqb (arms_loops arms) zero) }
      ∷ (arms_choice_tests arms (at + record_length choice_record) ++ choice_tests rest (after_choice at arms))

  pub arms_choice_tests : Arms → ℕ → List Test
  arms_choice_tests (last_arm b) at = choice_tests b at
  arms_choice_tests (arm b arms) at = choice_tests b at ++ arms_choice_tests arms (at + sheet_length (records b) + record_length next_arm_record)

-- a loop M around loop K: its offset, and its pushes on the indexes up to that of K's parent
pub record Around : Type 0 where
  pub offset : ℕ
  pub pushes : List ℤ

-- the tested loop and the loops between, with one more: loop l at an offset, `depth` loops being around it; outermost first
unfoldable pub around_with : Loop → ℕ → ℕ → List Around → List Around
around_with l depth at around =
    map (λ m. record { offset = m.offset; pushes = push_inner l m.pushes }) around ++ (record { offset = at; pushes = push_own l depth } ∷ [])

-- "M from the outermost inward": the size of K's stride does not divide M's push on K's D
unfoldable pub uneven_tests : Loop → ℕ → List Around → List Test
uneven_tests k at around =
    map (λ m. record { reason = uneven_in at m.offset; fails = not (divides (stride_size k) (push (difference k) m.pushes)) }) around

module _ (parameters : List ℤ) where
  -- "for each K too few trips before uneven": too few, if K's smallest D is less than closing asks
  unfoldable pub own_tests : Loop → List Range → List Around → ℕ → List Test
  own_tests k ranges around at =
      record { reason = too_few_trips at; fails = not (le_z (asked_difference k) (difference_range parameters k ranges).lo) } ∷ uneven_tests k at around

  -- "Then loops K in sheet order": a loop in an arm is one of these too, its choice has failed before
  unfoldable mutual
    pub loop_tests : Block → List Range → List Around → ℕ → List Test
    loop_tests empty ranges around at = []
    loop_tests (work least most rest) ranges around at = loop_tests rest ranges around (at + record_length (work_record least most))
    loop_tests (loop k body rest) ranges around at =
        own_tests k ranges around at
        ++ loop_tests body (inner_ranges parameters k ranges) (around_with k (length ranges) at around) (at + record_length (loop_record k))
        ++ loop_tests rest ranges around (after_loop at k body)
    loop_tests (choice arms rest) ranges around at =
        arms_loop_tests arms ranges around (at + record_length choice_record) ++ loop_tests rest ranges around (after_choice at arms)

    pub arms_loop_tests : Arms → List Range → List Around → ℕ → List Test
    arms_loop_tests (last_arm b) ranges around at = loop_tests b ranges around at
    arms_loop_tests (arm b arms) ranges around at =
        loop_tests b ranges around at ++ arms_loop_tests arms ranges around (at + sheet_length (records b) + record_length next_arm_record)

  -- all tests for closing the loop l at an offset, in document 02's order
  unfoldable pub closing_tests : Loop → Block → List Range → ℕ → List Test
  closing_tests l body ranges at =
      let start : ℕ = at + record_length (loop_record l) in
      choice_tests body start ++ loop_tests body (inner_ranges parameters l ranges) (around_with l (length ranges) at []) start

  -- why the loop is not closed; a closed loop has no reason
  unfoldable pub reason_of : Loop → Block → List Range → ℕ → Option Reason
  reason_of l body ranges at = first_failing (closing_tests l body ranges at)
