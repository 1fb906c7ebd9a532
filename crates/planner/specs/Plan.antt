-- The plan of a sheet at given parameters: what all its stages need, as numbers.
use Rattle.std.specs.Prelude.{List, [], map, ℕ, ℤ, length}
use Rattle.std.proofs.Math.Option.{Option}
use Rattle.meaning.specs.Record.{Record}
use Rattle.meaning.specs.Reader.{Result, ok, refused, and_then}
use Rattle.meaning.specs.Answer.{accepted}
use Rattle.layout.specs.Loops.{with_largest}
use Rattle.nest.specs.Rows.{rows_stored}
use Rattle.loops.specs.Facts.{facts_stored, loops_in, sheet_facts, words_stored}
use Rattle.planner.specs.Closing.{LoopPlan, number_of, plans_from}

-- the numbers that are stored of the loops: their limits, and whether they are ranked
unfoldable pub numbers_stored : List LoopPlan → List ℕ
numbers_stored ps = map (λ p. number_of p.class p.height) ps

-- all of a plan's limits
unfoldable pub limits_stored : List LoopPlan → List ℕ
limits_stored ps = with_largest (numbers_stored ps)

module _ (parameters : List ℤ) where
  -- of a sheet's records
  unfoldable pub sheet_plans : List Record → List (Option LoopPlan)
  sheet_plans rs = plans_from rs (sheet_facts parameters rs)

-- the four lists, and how many records there are
pub record Plan : Type 0 where
  pub rows : List ℕ
  pub differences : List ℕ
  pub facts : List ℕ
  pub limits : List ℕ
  pub count : ℕ

unfoldable pub plan_of_records : List ℤ → List Record → Plan
plan_of_records parameters rs = record {
  rows = rows_stored rs;
  differences = words_stored (loops_in (sheet_facts parameters rs));
  facts = facts_stored (loops_in (sheet_facts parameters rs));
  limits = limits_stored (loops_in (sheet_plans parameters rs));
  count = length rs;
}

-- the plan, or refusal 1 to 6 with its place
unfoldable pub plan_of : List ℕ → List ℤ → Result Plan
plan_of sheet parameters = and_then (accepted sheet parameters) λ rs. ok (plan_of_records parameters rs)

-- its limits; none where there is no plan
unfoldable pub limits_in : Result Plan → List ℕ
limits_in (ok p) = p.limits
limits_in (refused number place) = []
