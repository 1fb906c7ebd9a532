-- The two bytes, each worth 256 times the one before.
use Rattle.std.proofs.Common.{◌∙◌, drop}
use Rattle.encoding.proofs.Fields.{read-bytes, two-bytes}
use Rattle.encoding.proofs.number.unsigned16_at.Goals as goal

pub returns : goal.returns
returns c =
    let s = c.args.s.now in
    c.from_le_bytes.ensures ∙ read-bytes c.bytes_at.result (drop c.args.at s) 1 c.bytes_at.ensures ∙ two-bytes s c.args.at
