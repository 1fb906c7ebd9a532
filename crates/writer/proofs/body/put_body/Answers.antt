-- Of a loop with a skip the skip is appended last, and there is room for it.
use mathlib.Core.Path.{sym, ap, ◌∙◌}
use mathlib.Core.Bool.{false}
use native.Mathlib.Omega.{arith}
use Rattle.meaning.specs.Limits.{index_factors}
use Rattle.meaning.specs.Record.{is_given, skip_where, body_length, body_bytes}
use Rattle.meaning.specs.Writer.{record_of, loop_in}
use Rattle.meaning.proofs.RecordBytes.{length-loop}
use mir.Syntax.{w16}
use Rattle.encoding.proofs.Appending.{same_bytes, and_then, keeps-length}
use Rattle.encoding.proofs.Fields.{numbered}
use Rattle.records.specs.declared.Kind.{Kind}
use Rattle.records.specs.View.{meant_kind, loop_of, raw_record_of}
use Rattle.writer.proofs.Fits.{record-fits}
use Rattle.writer.proofs.Bodies.{skip-after}
use Rattle.writer.proofs.body.put_body.Goals as goal

pub put-requires : goal.put-requires
unfolding is_given skip_where body_length
put-requires c =
    let item = c.args.item in
    let fits = (record-fits item _ c.well_formed.1.1.1.0).loop_fits in
    let long = length-loop index_factors (loop_of false item.looping) fits.lower_fits fits.upper_fits in
    omega (arith, long, c.put_loop-at.ensures.ends, keeps-length c.put_loop-at.ensures)

pub returns-in-SkipLoop : goal.returns-in-SkipLoop
unfolding record_of loop_in
returns-in-SkipLoop c =
    let item = c.args.item in
    same_bytes (skip-after item.looping ∙ sym (ap (λ (k : Kind). body_bytes (record_of (meant_kind k) (raw_record_of item))) c.in-SkipLoop.is))
    (and_then c.put_loop-at.ensures (numbered w16 item.looping.skip c.to_le_bytes.ensures c.put.ensures))
