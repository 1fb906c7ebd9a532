-- The first trips where the open one is blank are the kept ones and blank ones; the first three are added up.
use Rattle.std.proofs.Common.{arith}
use Rattle.state.proofs.KeptLaws.{kept-added}
use Rattle.state.proofs.open.Open.kept_sum.Goals as goal

pub returns : goal.returns
returns c =
    let s = kept-added c.args.self.now.kept c.args.depth c.args.held c.first_trips-trips.result (omega arith) (search (c.exactly.ensures, c.first_trips-trips.ensures)) in cc
