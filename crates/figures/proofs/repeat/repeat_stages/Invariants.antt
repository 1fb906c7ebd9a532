-- The invariant: the state is that after some number of stages from the first. The measure, from the visits that the budget still allows, falls each time.
use mathlib.Core.Path.{◌≡◌}
use Prim.Native.Nat.{ℕ}
use Rattle.figures.specs.Repeat.{states_on}
use Rattle.figures.proofs.Repeats.{stages_left}
use Rattle.figures.proofs.repeat.repeat_stages.Given as goal

abbrev pub invariant-loop-state : goal.invariant-loop-state
invariant-loop-state l = (n : ℕ) × (l.state ≡ states_on l.arrays l.count n)

abbrev pub decreases-loop-state : goal.decreases-loop-state
decreases-loop-state l = stages_left l.count l.budget l.state
