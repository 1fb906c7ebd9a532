-- What is promised of an answer over a range, about all runs at all its values and about the single calls (document 02, C-14).
use Rattle.std.specs.Prelude.{◌≡◌, List, [], ℕ, ◌≤◌, ◌<◌, ℤ, ◌<ℤ◌}
use Rattle.meaning.specs.Record.{Record}
use Rattle.meaning.specs.Reader.{Result, ok, refused, read}
use Rattle.meaning.specs.Tree.{tree}
use Rattle.meaning.specs.Run.{Run}
use Rattle.meaning.specs.Visits.{count_over}
use Rattle.meaning.specs.Answer.{Figures, figures_of, answer}
use Rattle.ranges.specs.ParameterRange.{ParameterRange, Within, value_count, value_at, parameters_with}
use Rattle.ranges.specs.Extremes.{Extremes}

-- for the records rs of a sheet
module _ (parameters : List ℤ) (range : ParameterRange) (rs : List Record) where
  -- a run at this value takes so many cycles
  abbrev pub RunAt : ℤ → ℕ → Type 0
  RunAt value cycles = Run (parameters_with range parameters value) (tree rs) [] cycles

  -- the figures at this value
  abbrev pub figures_at : ℤ → Figures
  figures_at value = figures_of (parameters_with range parameters value) (tree rs)

module _ (sheet : List ℕ) (parameters : List ℤ) (budget : ℕ) (range : ParameterRange) where
  pub record RangePromise (rs : List Record) (e : Extremes) : Type 0 where
    -- "Every run at every value of the range lies between them"
    pub never_below : (value : ℤ) (cycles : ℕ) → Within range value → RunAt parameters range rs value cycles → e.least ≤ cycles
    pub never_above : (value : ℤ) (cycles : ℕ) → Within range value → RunAt parameters range rs value cycles → cycles ≤ e.most
    -- "and both are reached", at the values answered, which are of the range
    pub least_within : Within range e.least_at
    pub fastest : RunAt parameters range rs e.least_at e.least
    pub most_within : Within range e.most_at
    pub slowest : RunAt parameters range rs e.most_at e.most
    -- "each with the smallest value that gives it"
    pub least_first : (value : ℤ) (cycles : ℕ) → Within range value → value <ℤ e.least_at → RunAt parameters range rs value cycles → e.least < cycles
    pub most_first : (value : ℤ) (cycles : ℕ) → Within range value → value <ℤ e.most_at → RunAt parameters range rs value cycles → cycles < e.most
    -- "and the visits added up": at each value the single call with the same budget answers figures, and these are their visits
    pub single : (value : ℤ) → Within range value → answer sheet (parameters_with range parameters value) budget ≡ ok (figures_at parameters range rs value)
    pub visits_added : e.visits ≡ count_over (value_count range) (λ k. (figures_at parameters range rs (value_at range k)).visits)
    -- "One budget covers all visits"
    pub visits_within : e.visits ≤ budget

  -- of every answer over the range that is no refusal, for the records that the sheet is read as
  unfoldable pub RangeAnswered : Result Extremes → Type 0
  RangeAnswered (ok e) = (rs : List Record) × (read sheet ≡ ok rs) × RangePromise rs e
  RangeAnswered (refused number place) = Unit {0}
