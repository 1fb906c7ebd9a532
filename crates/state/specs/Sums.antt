-- What was passed in the innermost open trip or arm, or else in the sheet, and the visits, modulo 2^64.
use Rattle.std.specs.Prelude.{ℕ}
use Rattle.state.specs.declared.bounds.Bounds.{Bounds}
use Rattle.state.specs.declared.sums.Sums.{Sums}
use Rattle.state.specs.Bounds.{bounds, wrapped_sum, plus}

abbrev pub sums : ℕ → ℕ → ℕ → Sums
sums least most visits = record { passed = bounds least most; visits = visits }

module _ (s : Sums) where
  abbrev pub least_of : ℕ
  least_of = s.passed.least

  abbrev pub most_of : ℕ
  most_of = s.passed.most

  abbrev pub visits_of : ℕ
  visits_of = s.visits

  -- another least and most
  abbrev pub with_sums : Bounds → Sums
  with_sums passed = record { passed = passed; visits = s.visits }

  -- a least and a most are added
  unfoldable pub added : Bounds → Sums
  added more = with_sums (plus s.passed more)

  -- a trip or an arm opens with sums 0
  unfoldable pub from_zero : Sums
  from_zero = with_sums (bounds 0 0)

  -- the same, and a visit begins
  unfoldable pub visit_begins : Sums
  visit_begins = sums 0 0 (wrapped_sum s.visits 1)
