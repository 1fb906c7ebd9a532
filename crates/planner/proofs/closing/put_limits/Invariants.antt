-- The invariant: the limits of the loops before record `number` are stored, and the other arrays stay.
use mathlib.Core.Path.{◌≡◌}
use Rattle.planner.proofs.LimitWalk.{Limited}
use Rattle.planner.proofs.closing.put_limits.Given as goal

abbrev pub invariant-loop-number : goal.invariant-loop-number
invariant-loop-number l =
    Limited l.count l.arrays.rows l.arrays.differences l.arrays.facts l.initial.arrays.limits l.arrays.limits l.number
    × ((l.arrays.rows ≡ l.initial.arrays.rows) × ((l.arrays.differences ≡ l.initial.arrays.differences) × (l.arrays.facts ≡ l.initial.arrays.facts)))
