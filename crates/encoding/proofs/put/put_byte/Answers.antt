-- One byte is stored at the position, and the others stay.
use Rattle.encoding.proofs.Appending.{stored-byte}
use Rattle.encoding.proofs.put.put_byte.Goals as goal

pub returns : goal.returns
returns c = stored-byte c.requires
