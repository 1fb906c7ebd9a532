-- The eight bytes, each worth 256 times the one before.
use Rattle.std.proofs.Common.{◌∙◌, drop}
use Rattle.encoding.proofs.Fields.{read-bytes}
use Rattle.encoding.proofs.number.unsigned64_at.Goals as goal

pub returns : goal.returns
returns c = c.from_le_bytes.ensures ∙ read-bytes c.bytes_at.result (drop c.args.at c.args.s.now) 7 c.bytes_at.ensures
