-- The invariant: the loops passed are stored and within the ceiling, and the open ones' indexes are held; the rows and the limits stay.
use mathlib.Core.Path.{◌≡◌}
use Rattle.loops.proofs.Surveying.{Surveying}
use Rattle.loops.proofs.survey.Given as goal

abbrev pub invariant-loop-number : goal.invariant-loop-number
invariant-loop-number l =
    Surveying l.sheet l.count l.parameters l.initial.arrays.differences l.initial.arrays.facts l.arrays.differences l.arrays.facts l.around l.pushes l.here l.number
    × ((l.arrays.rows ≡ l.initial.arrays.rows) × (l.arrays.limits ≡ l.initial.arrays.limits))
