-- The reason of a loop, from the numbers of a plan: the tests for closing, record by record, in document 02's order.
use Rattle.std.specs.Prelude.{List, [], ◌∷◌, ◌++◌, Bool, not, cond, ◌&&◌, ℕ, zero, suc, ◌-◌, ◌%◌, min, ltb, eqb}
use Rattle.std.proofs.Math.Option.{Option}
use Rattle.meaning.specs.Limits.{record_limit, index_factors}
use Rattle.meaning.specs.Reason.{Reason, holds_loop, too_few_trips, uneven_in, Test, first_failing}
use Rattle.layout.specs.Rows.{role_number, loop_role, choice_role, role_at, end_at, depth_at, loops_before_at, loop_at, offset_at}
use Rattle.layout.specs.Loops.{enough_at}
use Rattle.planner.specs.Closing.{uneven_at}

-- the tests of n numbers, from i on
unfoldable pub tests_from : (ℕ → List Test) → ℕ → ℕ → List Test
tests_from tests i zero = []
tests_from tests i (suc n) = tests i ++ tests_from tests (suc i) n

module _ (rows : List ℕ) where
  -- the last loop before record i that has m loops around it: if i stands in more than m loops, the one of these that has
  unfoldable pub loop_around : ℕ → ℕ → ℕ
  loop_around m zero = zero
  loop_around m (suc i) = cond (eqb (role_at rows i) (role_number loop_role) && eqb (depth_at rows i) m) i (loop_around m i)

  -- record i, a choice, has a loop before its end
  unfoldable pub holds_loop_at : ℕ → Bool
  holds_loop_at i = ltb (loops_before_at rows i) (loops_before_at rows (end_at rows i))

  -- of record i, if it is a choice
  unfoldable pub choice_tests_at : ℕ → List Test
  choice_tests_at i = cond (eqb (role_at rows i) (role_number choice_role)) (record { reason = holds_loop (offset_at rows i); fails = holds_loop_at i } ∷ []) []

  -- of the choices inside the loop that is record n
  unfoldable pub choice_tests_inside : ℕ → List Test
  choice_tests_inside n = tests_from choice_tests_at (suc n) (end_at rows n - suc n)

  -- loop K, which is record i, against the loop M around it that has m loops around it
  unfoldable pub uneven_test_at : List ℕ → ℕ → ℕ → List Test
  uneven_test_at differences i m =
      record { reason = uneven_in (offset_at rows i) (offset_at rows (loop_around m i)); fails = uneven_at differences (loop_at rows i) m } ∷ []

  module _ (differences facts : List ℕ) where
    -- of record i, if it is a loop K inside a loop with `depth` loops around it
    unfoldable pub loop_tests_at : ℕ → ℕ → List Test
    loop_tests_at depth i =
        cond (eqb (role_at rows i) (role_number loop_role))
        (record { reason = too_few_trips (offset_at rows i); fails = not (enough_at facts (loop_at rows i)) }
        ∷ tests_from (uneven_test_at differences i) depth (min (depth_at rows i) index_factors - depth)) []

    -- of the loops inside it
    unfoldable pub loop_tests_inside : ℕ → List Test
    loop_tests_inside n = tests_from (loop_tests_at (depth_at rows n)) (suc n) (end_at rows n - suc n)

    -- why the loop is not closed that is the record with this number; what the remainder cuts off is in no plan
    unfoldable pub reason_at : ℕ → Option Reason
    reason_at number = let n : ℕ = number % record_limit in first_failing (choice_tests_inside n ++ loop_tests_inside n)
