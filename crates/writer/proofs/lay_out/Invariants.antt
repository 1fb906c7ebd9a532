-- The invariant: the records before this one are laid before `at`, and the others settle the rest.
use Rattle.writer.proofs.Laying.{Laying}
use Rattle.writer.proofs.lay_out.Given as goal

abbrev pub invariant-loop-item : goal.invariant-loop-item
invariant-loop-item l = Laying l.items l.sheet l.at l.item-index l.here
