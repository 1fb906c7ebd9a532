-- The invariant: the rows of the records before `number` are stored, and the numbers carried are those of its position.
use Rattle.nest.proofs.RowWalk.{Laying}
use Rattle.nest.proofs.lay_rows.Given as goal

abbrev pub invariant-loop-number : goal.invariant-loop-number
invariant-loop-number l =
    Laying l.sheet l.count l.initial.rows l.rows l.place.at l.place.loops l.place.enclosing l.place.here l.number
