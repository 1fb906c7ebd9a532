-- The loop keeps: the arms found so far, with the next arms that are still to come, are all arms.
use Rattle.std.proofs.Common.{◌≡◌, ◌-◌, ◌≤◌}
use Rattle.ranking.specs.Body.{arms_at}
use Rattle.ranking.proofs.BodySteps.{arms_with}
use Rattle.ranking.proofs.body.arms_at.Given as goal

abbrev pub invariant-loop-i : goal.invariant-loop-i
invariant-loop-i l = (l.arms ≤ l.i) × (arms_with l.rows l.arms l.end l.i ≡ arms_at l.rows l.choice)

abbrev pub decreases-loop-i : goal.decreases-loop-i
decreases-loop-i l = l.end - l.i
