-- The invariant is what holds after k values; each turn has one more.
use Rattle.sweep.specs.Values.{range_of}
use Rattle.sweep.specs.Filled.{Filled}
use Rattle.sweep.proofs.over.fill.Given as goal

abbrev pub invariant-loop-k : goal.invariant-loop-k
invariant-loop-k l = Filled l.sheet l.parameters l.budget (range_of l.range) l.k l.total l.leasts l.mosts
