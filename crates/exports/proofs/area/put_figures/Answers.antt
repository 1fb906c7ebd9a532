-- The three numbers are put one after the other from the start of the area; the bytes after them stay.
use mir.Syntax.{w64}
use Rattle.meaning.specs.Number.{little_endian}
use Rattle.meaning.specs.CCall.{area_bytes}
use Rattle.encoding.proofs.Appending.{and_then, from_start}
use Rattle.encoding.proofs.Fields.{numbered}
use Rattle.exports.proofs.area.put_figures.Goals as goal

pub returns : goal.returns
unfolding area_bytes little_endian
returns c =
    let f = c.args.f in
    from_start (and_then (and_then (numbered w64 f.least c.to_le_bytes.ensures c.put-at.ensures) (numbered w64 f.most c.to_le_bytes-2.ensures c.put-at-2.ensures))
    (numbered w64 f.visits c.to_le_bytes-3.ensures c.put.ensures))
