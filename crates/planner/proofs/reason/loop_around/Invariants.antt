-- The invariant: the loop that is searched for stands before the last record that was passed.
use mathlib.Core.Path.{◌≡◌}
use Prim.Native.Nat.{◌-◌}
use Rattle.planner.specs.Reasons.{loop_around}
use Rattle.planner.proofs.reason.loop_around.Given as goal

abbrev pub invariant-loop-back : goal.invariant-loop-back
invariant-loop-back l = loop_around l.rows l.m l.number ≡ loop_around l.rows l.m (l.number - l.back)
