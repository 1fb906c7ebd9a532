-- The invariant: the records passed stand in the new sheet, and the next one at `from` in the old.
use Rattle.converter.proofs.Laying.{Laying}
use Rattle.converter.proofs.lay_out.Given as goal

abbrev pub invariant-loop : goal.invariant-loop
invariant-loop l = Laying l.sheet l.skips l.count l.initial.target l.target l.from l.to l.counter
