-- The figures at every value of a range, or a refusal: what document 02 asks over a range is a function of these (C-14).
use Rattle.std.specs.Prelude.{List, [], ◌∷◌, ◌&&◌, ℕ, zero, suc, ◌+◌, ℤ, leb}
use Rattle.meaning.specs.Limits.{budget_limit}
use Rattle.meaning.specs.Reader.{Result, ok, require, and_then}
use Rattle.meaning.specs.Tree.{tree}
use Rattle.meaning.specs.Answer.{Figures, accepted, figures_of}
use Rattle.ranges.specs.ParameterRange.{ParameterRange, value_count, parameters_at, range_allowed}

-- "the visits added up"
unfoldable pub total_visits : List Figures → ℕ
total_visits [] = zero
total_visits (f ∷ fs) = f.visits + total_visits fs

-- the figures of `count` values from value number k on; "if some value is refused 1 to 6, the first such value's refusal"
unfoldable pub figures_from : List ℕ → List ℤ → ParameterRange → ℕ → ℕ → Result (List Figures)
figures_from sheet parameters range zero k = ok []
figures_from sheet parameters range (suc count) k =
    and_then (accepted sheet (parameters_at range parameters k)) λ rs.
    and_then (figures_from sheet parameters range count (suc k)) λ fs.
    ok (figures_of (parameters_at range parameters k) (tree rs) ∷ fs)

-- 8 "if the sum passes the budget": "one budget covers all visits"
unfoldable pub check_total : ℕ → List Figures → Result (List Figures)
check_total budget fs = require (leb (total_visits fs) budget) 8 0 (ok fs)

-- the figures at all values, ascending; in the order 11, 7, 1 to 6 of the first value that has one, 8
unfoldable pub figures_over : List ℕ → List ℤ → ℕ → ParameterRange → Result (List Figures)
figures_over sheet parameters budget range =
    require (range_allowed range) 11 0
    (require (leb 1 budget && leb budget budget_limit) 7 0
    (and_then (figures_from sheet parameters range (value_count range) 0) (check_total budget)))
