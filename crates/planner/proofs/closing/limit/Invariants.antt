-- The invariant: no loop before record `i` prevents ranking, `ranked` is whether closing is barred, and `deepest` is their largest depth.
use Rattle.planner.proofs.Preventing.{Limiting}
use Rattle.planner.proofs.closing.limit.Given as goal

abbrev pub invariant-loop-i : goal.invariant-loop-i
invariant-loop-i l =
    Limiting l.arrays.rows l.arrays.differences l.arrays.facts l.number l.depth l.end l.deepest l.ranked l.i
