-- What holds of the visits and the two arrays before, between and after the values of a range.
use Rattle.std.specs.Prelude.{◌≡◌, List, ℕ, suc, ◌+◌, ◌≤◌, ◌<◌, ℤ}
use Rattle.meaning.specs.Limits.{parameter_factors, budget_limit, value_limit}
use Rattle.meaning.specs.Reader.{Result, ok, refused}
use Rattle.meaning.specs.Answer.{Figures}
use Rattle.ranges.specs.ParameterRange.{ParameterRange, value_count}
use Rattle.ranges.specs.FiguresOver.{total_visits, figures_from}
use Rattle.ranges.specs.Extremes.{leasts_of, mosts_of}
use Rattle.sweep.specs.Overs.{blank, padded, visits_over}

-- before the first value of a range that is not refused 11, at a budget that is not refused 7
pub record Begun (budget : ℕ) (range : ParameterRange) (leasts mosts : List ℕ) : Type 0 where
  pub number_in_range : (1 ≤ range.number) × (range.number ≤ parameter_factors)
  pub few : value_count range ≤ value_limit
  pub budget_in_range : (1 ≤ budget) × (budget ≤ budget_limit)
  pub leasts_blank : leasts ≡ blank
  pub mosts_blank : mosts ≡ blank

module _ (sheet : List ℕ) (ps : List ℤ) (budget : ℕ) (range : ParameterRange) where
  -- after k values: their figures; and where their visits are within the budget, these and the arrays, otherwise that they are not
  pub record Filled (k total : ℕ) (leasts mosts : List ℕ) : Type 0 where
    pub fs : List Figures
    pub from : figures_from sheet ps range k 0 ≡ ok fs
    pub within : total_visits fs ≤ budget → (total ≡ total_visits fs) × ((leasts ≡ padded (leasts_of fs)) × (mosts ≡ padded (mosts_of fs)))
    pub passed : budget < total_visits fs → budget < total
    pub small : total ≤ budget + suc k

  -- after all, or where a value is refused 1 to 6
  unfoldable pub FilledTo : Result ℕ → List ℕ → List ℕ → Type 0
  FilledTo (ok total) leasts mosts = Filled (value_count range) total leasts mosts
  FilledTo (refused number place) leasts mosts = figures_from sheet ps range (value_count range) 0 ≡ refused number place

-- where these are the figures over the range: their visits or their refusal, and figures stand in the arrays
pub record FilledOver (figured : Result (List Figures)) (r : Result ℕ) (leasts mosts : List ℕ) : Type 0 where
  pub visits : r ≡ visits_over figured
  pub arrays : (fs : List Figures) → figured ≡ ok fs → (leasts ≡ padded (leasts_of fs)) × (mosts ≡ padded (mosts_of fs))
