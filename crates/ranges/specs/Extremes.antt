-- The answer over a range: the smallest least and the largest most, each with the smallest value that gives it (document 02, C-14).
use Rattle.std.specs.Prelude.{List, [], ◌∷◌, map, cond, ℕ, zero, suc, min, max, ℤ, eqb}
use Rattle.meaning.specs.Reader.{Result, ok, and_then}
use Rattle.meaning.specs.Answer.{Figures}
use Rattle.ranges.specs.ParameterRange.{ParameterRange, value_at}
use Rattle.ranges.specs.FiguresOver.{total_visits, figures_over}

abbrev pub leasts_of : List Figures → List ℕ
leasts_of fs = map (λ f. f.least) fs

abbrev pub mosts_of : List Figures → List ℕ
mosts_of fs = map (λ f. f.most) fs

-- the smallest and the largest number of a list; 0 of none
unfoldable pub smallest : List ℕ → ℕ
smallest [] = zero
smallest (n ∷ []) = n
smallest (n ∷ m ∷ ms) = min n (smallest (m ∷ ms))

unfoldable pub largest : List ℕ → ℕ
largest [] = zero
largest (n ∷ ns) = max n (largest ns)

-- where a number stands first in a list
unfoldable pub position : ℕ → List ℕ → ℕ
position n [] = zero
position n (m ∷ ms) = cond (eqb n m) zero (suc (position n ms))

pub record Extremes : Type 0 where
  pub least : ℕ
  pub least_at : ℤ
  pub most : ℕ
  pub most_at : ℤ
  pub visits : ℕ

abbrev pub extremes_found : ℕ → ℤ → ℕ → ℤ → ℕ → Extremes
extremes_found least least_at most most_at visits = record { least = least; least_at = least_at; most = most; most_at = most_at; visits = visits }

-- from the leasts and the mosts at the values, ascending
unfoldable pub extremes_in : ParameterRange → List ℕ → List ℕ → ℕ → Extremes
extremes_in range leasts mosts visits =
    extremes_found
    (smallest leasts) (value_at range (position (smallest leasts) leasts))
    (largest mosts) (value_at range (position (largest mosts) mosts))
    visits

abbrev pub extremes_of : ParameterRange → List Figures → Extremes
extremes_of range fs = extremes_in range (leasts_of fs) (mosts_of fs) (total_visits fs)

-- document 02, C-14: the library call over a range
unfoldable pub extremes : List ℕ → List ℤ → ℕ → ParameterRange → Result Extremes
extremes sheet parameters budget range = and_then (figures_over sheet parameters budget range) λ fs. ok (extremes_of range fs)
