-- The loop keeps: what is decided of the choices still to come is what is decided of all, since those passed are settled.
use Rattle.std.proofs.Common.{◌≡◌, ◌-◌, ◌*◌, ◌≤◌}
use Rattle.meaning.specs.Limits.{record_limit}
use Rattle.ranking.specs.Body.{settled_at}
use Rattle.ranking.proofs.BodySteps.{settled_from}
use Rattle.ranking.proofs.body.settled.Given as goal

abbrev pub invariant-loop-i : goal.invariant-loop-i
invariant-loop-i l =
    (l.first ≤ record_limit * l.i) × (settled_from l.rows l.kept.arms.now l.kept.trips l.kept.per_trip l.first l.end l.i ≡ settled_at l.rows l.opener l.kept.arms.now l.kept.trips l.kept.per_trip)

abbrev pub decreases-loop-i : goal.decreases-loop-i
decreases-loop-i l = l.end - l.i
