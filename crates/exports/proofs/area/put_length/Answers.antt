-- The length is put at the start of the area; the bytes after it stay.
use mir.Syntax.{w64}
use Rattle.encoding.proofs.Appending.{from_start}
use Rattle.encoding.proofs.Fields.{numbered}
use Rattle.meaning.specs.Number.{little_endian}
use Rattle.exports.proofs.area.put_length.Goals as goal

pub returns : goal.returns
unfolding little_endian
returns c = from_start (numbered w64 c.args.count c.to_le_bytes.ensures c.put.ensures)
