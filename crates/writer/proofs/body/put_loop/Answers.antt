-- The three numbers, the stride by its pattern, and the two forms are appended one after another.
use mathlib.Core.Path.{sym, ap}
use mathlib.Core.List.{append-nil}
use Rattle.meaning.specs.Number.{little_endian}
use Rattle.meaning.specs.Record.{skip_where, skip_bytes, body_bytes}
use Rattle.writer.proofs.Fits.{loop-fits}
use Rattle.writer.proofs.Bodies.{stride-encoded}
use mir.Syntax.{w16}
use Rattle.encoding.proofs.Appending.{same_bytes, and_then}
use Rattle.encoding.proofs.Fields.{numbered}
use Rattle.writer.proofs.body.put_loop.Goals as goal

pub returns : goal.returns
unfolding body_bytes skip_bytes skip_where
returns c =
    let fits = loop-fits c.args.fields _ c.well_formed.1.1.0 in
    same_bytes (sym (append-nil _))
    (and_then (and_then (and_then (and_then (numbered w16 c.args.fields.start c.to_le_bytes.ensures c.put-at.ensures)
    (numbered w16 c.args.fields.step c.to_le_bytes-2.ensures c.put-at-2.ensures))
    (same_bytes (ap (little_endian 2) (stride-encoded c.args.fields fits c.cast_unsigned.ensures))
    (numbered w16 c.cast_unsigned.result c.to_le_bytes-3.ensures c.put-at-3.ensures)))
    (same_bytes c.form_bytes.ensures c.put-at-4.ensures))
    (same_bytes c.form_bytes-2.ensures c.put.ensures))
