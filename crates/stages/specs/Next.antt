-- The next state, for every sheet, parameters and state; the states that stages from the sheet's start reach.
use Rattle.std.specs.Prelude.{List, Bool, false, true, ℕ, suc, ◌+◌, zero, ℤ}
use Rattle.meaning.specs.Reader.{Result, ok, refused}
use Rattle.layout.specs.Numbers.{array_of}
use Rattle.layout.specs.Rows.{rows_length}
use Rattle.layout.specs.Loops.{limits_length, differences_length}
use Rattle.planner.specs.Plan.{Plan, plan_of}
use Rattle.state.specs.declared.State.{State}
use Rattle.state.specs.States.{first_state}
use Rattle.passing.specs.Pass.{Passage}
use Rattle.evaluator.specs.Machine.{stage_on}

-- whether a stage began a visit, and the next state
pub record NextStage : Type 0 where
  pub begun : Bool
  pub after : State

abbrev pub stage_of : Passage → NextStage
stage_of p = record { begun = p.begun; after = p.after }

-- a stage on a sheet's plan; where the sheet is refused 1 to 6 the state stays as it is
unfoldable pub stage_for : Result Plan → State → NextStage
stage_for (ok plan) s =
    stage_of (stage_on (array_of rows_length plan.rows) (array_of differences_length plan.differences) (array_of limits_length plan.limits) plan.count s)
stage_for (refused number place) s = record { begun = false; after = s }

-- 1 where a visit begins
unfoldable pub visit_count : Bool → ℕ
visit_count true = 1
visit_count false = 0

module _ (sheet : List ℕ) (parameters : List ℤ) where
  -- document 01: stage
  unfoldable pub stage : State → NextStage
  stage s = stage_for (plan_of sheet parameters) s

  -- the whole next state
  unfoldable pub next_state : State → State
  next_state s = (stage s).after

  -- the state after n stages from the first state
  unfoldable pub states_after : ℕ → State
  states_after zero = first_state
  states_after (suc n) = next_state (states_after n)

  -- how many of the first n stages began a visit
  unfoldable pub visits_begun_by : ℕ → ℕ
  visits_begun_by zero = zero
  visits_begun_by (suc n) = visits_begun_by n + visit_count (stage (states_after n)).begun
