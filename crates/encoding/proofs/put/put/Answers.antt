-- The copied bytes fit behind the position, and the others stay.
use Rattle.std.proofs.Common.{arith}
use Rattle.encoding.proofs.Appending.{copied}
use Rattle.encoding.proofs.put.put.Goals as goal

pub returns : goal.returns
returns c =
    let copy = c.copy_from_slice in
    copied c.requires (omega arith) copy.ensures.after
