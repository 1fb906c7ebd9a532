-- The invariant: the record is still open before record `i`, and the records from there on settle where it ends.
use Rattle.nest.proofs.Endings.{Ending}
use Rattle.nest.proofs.end_of.Given as goal

abbrev pub invariant-loop-i : goal.invariant-loop-i
invariant-loop-i l = Ending l.sheet l.count l.number l.opened l.here l.i
