-- Repeating the stage on a plan's arrays.
use Rattle.std.specs.Prelude.{◌≡◌, List, ◌⊎◌, ℕ, suc, ◌<◌, zero, ℤ, length}
use Rattle.meaning.specs.Record.{Record}
use Rattle.meaning.specs.Answer.{Figures, figures}
use Rattle.layout.specs.declared.PlanArrays.{PlanArrays}
use Rattle.state.specs.declared.State.{State}
use Rattle.state.specs.declared.sums.Sums.{Sums}
use Rattle.state.specs.Sums.{least_of, most_of, visits_of}
use Rattle.state.specs.States.{first_state}
use Rattle.evaluator.specs.Machine.{next_on}
use Rattle.stages.specs.Next.{next_state}
use Rattle.stages.specs.Laws.{StageLaws}

-- the figures in the sums of a state
abbrev pub figures_at : Sums → Figures
figures_at sums = figures (least_of sums) (most_of sums) (visits_of sums)

module _ (plan : PlanArrays) (count : ℕ) where
  -- one stage more
  abbrev pub next_in : State → State
  next_in s = next_on plan.rows plan.differences plan.limits count s

  -- the state after n stages from the first state
  unfoldable pub states_on : ℕ → State
  states_on zero = first_state
  states_on (suc n) = next_in (states_on n)

  -- these are the arrays of some sheet's plan: on them every next state is the sheet's
  pub record Planned : Type 0 where
    pub sheet : List ℕ
    pub parameters : List ℤ
    pub rs : List Record
    pub next : (s : State) → next_in s ≡ next_state sheet parameters s
    pub counted : count ≡ length rs
    pub laws : StageLaws sheet parameters rs

  -- stages from the first state have reached a state with these sums, at the sheet's end or with more visits than the budget
  pub record Reached (budget : ℕ) (sums : Sums) : Type 0 where
    pub stages : ℕ
    pub sums_are : sums ≡ (states_on stages).sums
    pub stopped : ((states_on stages).at ≡ count) ⊎ (budget < visits_of sums)
