-- The plans of some of document 01's sheets with known figures and of four more, from raw bytes, number by number.
use mathlib.Core.Path.{◌≡◌, refl}
use mathlib.Core.List.{List, [], ◌∷◌}
use Prim.Native.Nat.{ℕ, ◌-◌, ◌^◌, ◌+◌, ◌*◌}
use lib.ListN.{length}
use Rattle.whole.specs.Integer.{floor_remainder}
use Rattle.meaning.specs.Reader.{Result, ok, refused}
use Rattle.meaning.proofs.Vocabulary.{hex, zero_parameters}
use Rattle.meaning.proofs.Computes.{computes}
use Rattle.layout.specs.Numbers.{joined}
use Rattle.layout.specs.Rows.{role_number, role_of_kind, role_of, first_cost, second_cost, skip_cost, end_numbers, depth_numbers, place_numbers, row_numbers}
use Rattle.layout.specs.Loops.{word_of, difference_words, fact_numbers, limit_number, largest, with_largest}
use Rattle.nest.specs.Walk.{opens_after, numbers_after, loops_after, records_inside}
use Rattle.nest.specs.Rows.{end_number, innermost, onward, row_at, rows_from, rows_of, rows_stored}
use Rattle.loops.specs.Enclosing.{without_last, leave, choice_depth, rank_depth, enter, enclosing_after}
use Rattle.loops.specs.Facts.{words_of, fact_of, loop_facts, facts_at, facts_from, sheet_facts, loops_in, words_stored, facts_stored}
use Rattle.planner.specs.Closing.{some_uneven, prevents, some_prevents, class_among, height_above, is_ranked, limit_of, number_of, plan_at, plans_from}
use Rattle.planner.specs.Plan.{numbers_stored, limits_stored, sheet_plans, Plan, plan_of_records, plan_of}

-- Unfolding this unfolds every definition of the plan.
unfoldable plan_computes : Unit {0}
unfolding computes floor_remainder joined role_number role_of_kind role_of first_cost second_cost skip_cost end_numbers depth_numbers place_numbers row_numbers word_of difference_words fact_numbers limit_number largest with_largest
    opens_after numbers_after loops_after records_inside end_number innermost onward row_at rows_from rows_of rows_stored
    without_last leave choice_depth rank_depth enter enclosing_after words_of fact_of loop_facts facts_at facts_from sheet_facts loops_in words_stored facts_stored
    some_uneven prevents some_prevents class_among height_above is_ranked limit_of number_of plan_at plans_from numbers_stored limits_stored sheet_plans plan_of_records plan_of
plan_computes = tt

-- a record's role, two costs, the number of its end, that of the record around it plus 1, its frame, the loops around it, the loops before it, its offset,
-- its cost with no trip
abbrev row : ℕ → ℕ → ℕ → ℕ → ℕ → ℕ → ℕ → ℕ → ℕ → ℕ → List ℕ
row role first second end around frame depth loops offset skip =
    first ∷ second ∷ skip ∷ (end + 128 * around) ∷ (loops + 128 * (frame + 8 * depth)) ∷ (offset + 4096 * role) ∷ []

-- a loop's stride, its D where every counter is 0, and what a trip of the first, second and third loop around it adds to D
abbrev words : ℕ → ℕ → ℕ → ℕ → ℕ → List ℕ
words stride base first second third = stride ∷ base ∷ first ∷ second ∷ third ∷ []

-- a loop's ceiling, the loops that the choice around it bars closing to, those that it bars ranking to, and whether its smallest D is what closing asks
abbrev fact : ℕ → ℕ → ℕ → ℕ → List ℕ
fact ceiling choice rank enough = ceiling ∷ choice ∷ rank ∷ enough ∷ []

-- the limits begin with the largest of them
abbrev plan : List (List ℕ) → List (List ℕ) → List (List ℕ) → List ℕ → Result Plan
plan rows differences facts limits = ok (record {
  rows = joined (λ ns. ns) rows;
  differences = joined (λ ns. ns) differences;
  facts = joined (λ ns. ns) facts;
  limits = limits;
  count = length rows;
})

abbrev minus : ℕ → ℕ
minus n = 2 ^ 64 - n

pub plans :
    -- i 0 to 9, j 0 to i - 1
    (plan_of (hex "0200000000010000000000000000000009000000000000000002000000000100000000000000000000ffff0100000000000001010001000303") zero_parameters
    ≡ plan
    (row 1 0 0 4 0 0 0 0 0 0 ∷ row 1 0 0 3 1 1 1 1 25 0 ∷ row 0 1 1 0 2 2 2 2 50 0 ∷ row 2 0 0 0 2 2 2 2 55 0 ∷ row 2 0 0 0 1 1 1 2 56 0 ∷ [])
    (words 1 9 0 0 0 ∷ words 1 (minus 1) 1 0 0 ∷ [])
    (fact 10 0 0 1 ∷ fact 9 0 0 1 ∷ [])
    (2 ∷ 2 ∷ 1 ∷ []))
    -- the same, where j starts at 5 cycles and skips at 1: j may make no trip, so that i is walked
    × (plan_of (hex "0200000000010000000000000000000009000000000000000006050000000100000000000000000000ffff01000000000000010001010001000303") zero_parameters
    ≡ plan
    (row 1 0 0 4 0 0 0 0 0 0 ∷ row 1 5 0 3 1 1 1 1 25 1 ∷ row 0 1 1 0 2 2 2 2 52 0 ∷ row 2 0 0 0 2 2 2 2 57 0 ∷ row 2 0 0 0 1 1 1 2 58 0 ∷ [])
    (words 1 9 0 0 0 ∷ words 1 (minus 1) 1 0 0 ∷ [])
    (fact 10 0 0 1 ∷ fact 9 0 0 0 ∷ [])
    (1 ∷ 0 ∷ 1 ∷ []))
    -- i 1 to 7, j i to 2: the smallest D of j is too small, so that i is walked
    × (plan_of (hex "020000000001000100000000000000000700000000000000000200000000010000000100000000000002000000000000000001010001000303") zero_parameters
    ≡ plan
    (row 1 0 0 4 0 0 0 0 0 0 ∷ row 1 0 0 3 1 1 1 1 25 0 ∷ row 0 1 1 0 2 2 2 2 50 0 ∷ row 2 0 0 0 2 2 2 2 55 0 ∷ row 2 0 0 0 1 1 1 2 56 0 ∷ [])
    (words 1 6 0 0 0 ∷ words 1 1 (minus 1) 0 0 ∷ [])
    (fact 7 0 0 1 ∷ fact 2 0 0 0 ∷ [])
    (1 ∷ 0 ∷ 1 ∷ []))
    -- i 0 to 9, j i to 10, k i - 3 to j + 7
    × (plan_of (hex "02000000000100000000000000000000090000000000000000020000000001000000010000000000000a000000000000000002000000000100fdff010000000000000700000100000000000101000100030303") zero_parameters
    ≡ plan
    (row 1 0 0 6 0 0 0 0 0 0 ∷ row 1 0 0 5 1 1 1 1 25 0 ∷ row 1 0 0 4 2 2 2 2 50 0 ∷ row 0 1 1 0 3 3 3 3 75 0
    ∷ row 2 0 0 0 3 3 3 3 80 0 ∷ row 2 0 0 0 2 2 2 3 81 0 ∷ row 2 0 0 0 1 1 1 3 82 0 ∷ [])
    (words 1 9 0 0 0 ∷ words 1 10 (minus 1) 0 0 ∷ words 1 10 0 1 0 ∷ [])
    (fact 10 0 0 1 ∷ fact 11 0 0 1 ∷ fact 21 0 0 1 ∷ [])
    (3 ∷ 3 ∷ 2 ∷ 1 ∷ []))
    -- i 0 to 9 over a choice of (j 0 to i - 1) and work 4 to 4: i is ranked
    × (plan_of (hex "020000000001000000000000000000000900000000000000000402000000000100000000000000000000ffff010000000000000101000100030501040004000303") zero_parameters
    ≡ plan
    (row 1 0 0 8 0 0 0 0 0 0 ∷ row 3 0 0 7 1 1 1 1 25 0 ∷ row 1 0 0 4 2 2 1 1 26 0 ∷ row 0 1 1 0 3 3 2 2 51 0 ∷ row 2 0 0 0 3 3 2 2 56 0
    ∷ row 4 0 0 0 2 2 1 2 57 0 ∷ row 0 4 4 0 2 2 1 2 58 0 ∷ row 2 0 0 0 2 2 1 2 63 0 ∷ row 2 0 0 0 1 1 1 2 64 0 ∷ [])
    (words 1 9 0 0 0 ∷ words 1 (minus 1) 1 0 0 ∷ [])
    (fact 10 0 0 1 ∷ fact 9 1 0 1 ∷ [])
    (10 ∷ 10 ∷ 1 ∷ []))
    -- that choice as the arm of another: i is walked
    × (plan_of (hex "02000000000100000000000000000000090000000000000000040402000000000100000000000000000000ffff01000000000000010100010003050104000400030303") zero_parameters
    ≡ plan
    (row 1 0 0 10 0 0 0 0 0 0 ∷ row 3 0 0 9 1 1 1 1 25 0 ∷ row 3 0 0 8 2 2 1 1 26 0 ∷ row 1 0 0 5 3 3 1 1 27 0 ∷ row 0 1 1 0 4 4 2 2 52 0
    ∷ row 2 0 0 0 4 4 2 2 57 0 ∷ row 4 0 0 0 3 3 1 2 58 0 ∷ row 0 4 4 0 3 3 1 2 59 0 ∷ row 2 0 0 0 3 3 1 2 64 0 ∷ row 2 0 0 0 2 2 1 2 65 0
    ∷ row 2 0 0 0 1 1 1 2 66 0 ∷ [])
    (words 1 9 0 0 0 ∷ words 1 (minus 1) 1 0 0 ∷ [])
    (fact 10 0 0 1 ∷ fact 9 1 1 1 ∷ [])
    (1 ∷ 0 ∷ 1 ∷ []))
    -- i 0 to 3, j 0 to 3, k 0 to i by 2: j is closed, i is not
    × (plan_of (hex "0200000000010000000000000000000003000000000000000002000000000100000000000000000000030000000000000000020000000002000000000000000000000000010000000000000101000100030303") zero_parameters
    ≡ plan
    (row 1 0 0 6 0 0 0 0 0 0 ∷ row 1 0 0 5 1 1 1 1 25 0 ∷ row 1 0 0 4 2 2 2 2 50 0 ∷ row 0 1 1 0 3 3 3 3 75 0
    ∷ row 2 0 0 0 3 3 3 3 80 0 ∷ row 2 0 0 0 2 2 2 3 81 0 ∷ row 2 0 0 0 1 1 1 3 82 0 ∷ [])
    (words 1 3 0 0 0 ∷ words 1 3 0 0 0 ∷ words 2 0 1 0 0 ∷ [])
    (fact 4 0 0 1 ∷ fact 4 0 0 1 ∷ fact 2 0 0 1 ∷ [])
    (2 ∷ 0 ∷ 2 ∷ 1 ∷ []))
    -- the empty sheet
    × (plan_of [] zero_parameters ≡ plan [] [] [] (0 ∷ []))
    -- i 0 to 2,048
    × (plan_of (hex "0200000000010000000000000000000000080000000000000003") zero_parameters ≡ refused 6 0)
    -- a kind that is none
    × (plan_of (hex "09") zero_parameters ≡ refused 2 0)
unfolding plan_computes
plans = (refl, refl, refl, refl, refl, refl, refl, refl, refl, refl)
