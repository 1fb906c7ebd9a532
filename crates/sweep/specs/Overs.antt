-- The figures over a range as two lent arrays hold them, and what one value more makes of the visits and the arrays.
use Rattle.std.specs.Prelude.{List, ◌++◌, cond, ℕ, suc, ◌+◌, ◌-◌, leb, eqb, length, set, replicate}
use Rattle.meaning.specs.Limits.{value_limit}
use Rattle.meaning.specs.Reader.{Result, ok, refused, require, and_then}
use Rattle.meaning.specs.Answer.{Figures}
use Rattle.ranges.specs.FiguresOver.{total_visits}

-- ---- all values

-- an array of zeros
abbrev pub blank : List ℕ
blank = replicate value_limit 0

-- the numbers in an array, with zeros after them
unfoldable pub padded : List ℕ → List ℕ
padded ns = ns ++ replicate (value_limit - length ns) 0

-- the visits of the figures over a range
unfoldable pub visits_over : Result (List Figures) → Result ℕ
visits_over r = and_then r λ fs. ok (total_visits fs)

-- one cycle count of each value, leasts or mosts; zeros where the range is refused
unfoldable pub cycles_over : (List Figures → List ℕ) → Result (List Figures) → List ℕ
cycles_over cycles (ok fs) = padded (cycles fs)
cycles_over cycles (refused number place) = blank

-- 8 where the visits pass the budget
unfoldable pub within_budget : ℕ → Result ℕ → Result ℕ
within_budget budget r = and_then r λ total. require (leb total budget) 8 0 (ok total)

-- ---- one value more

-- the visits, where this is answered for one value more at the budget that is left; with an 8 they pass the whole budget
unfoldable pub next_total : ℕ → ℕ → Result Figures → Result ℕ
next_total budget total (ok f) = ok (total + f.visits)
next_total budget total (refused number place) = cond (eqb number 8) (ok (suc budget)) (refused number place)

abbrev pub least_figure : Figures → ℕ
least_figure f = f.least

abbrev pub most_figure : Figures → ℕ
most_figure f = f.most

-- an array with the figure of one value more at its place
unfoldable pub stored_at : (Figures → ℕ) → ℕ → List ℕ → Result Figures → List ℕ
stored_at figure k ns (ok f) = set ns k (figure f)
stored_at figure k ns (refused number place) = ns
