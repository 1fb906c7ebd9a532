-- A record stands at `at` while one is left, so a head is found there, and the part that it names is in the sheet.
use native.Mathlib.Omega.{arith}
use mathlib.Core.Path.{sym, ◌∙◌, ap}
use lib.Seq.{length-take-le}
use lib.ListN.{replicate}
use Rattle.std.specs.Prelude.{Ok}
use Rattle.sheet.proofs.Heads.{answer-stands}
use Rattle.sheet.proofs.Decoding.{counted-few, decoding-start, items-count, decoding-finds, decoding-next, decoding-done}
use Rattle.sheet.proofs.reader.decode_all.Goals.{in_default-via-in-Ok+in-None-1, in_default-via-in-Err-1}
use Rattle.sheet.proofs.reader.decode_all.Goals as goal

pub slice_bounds-records-end : goal.slice_bounds-records-end
slice_bounds-records-end c = (counted-few c.args.sheet.now c.requires).1

pub slice_bounds-record-items-end : goal.slice_bounds-record-items-end
slice_bounds-record-items-end c = sym (length-take-le c.args.count (replicate 128 c.blank-records.result) (counted-few c.args.sheet.now c.requires).1)

pub loop-record-init : goal.loop-record-init
loop-record-init c = decoding-start c.args.sheet.now c.requires c.blank-records.ensures

pub unreachable-requires : goal.unreachable-requires
unreachable-requires c =
    decoding-finds c.loop-record.invariant (omega (arith, items-count c.loop-record.invariant)) c.head_at.result c.head_at.ensures λ h e.
    elim c.in_default.branch [
      | in_default-via-in-Ok+in-None-1 w ↦ grind arith
      | in_default-via-in-Err-1 w ↦ grind arith
    ]

pub overflow_add-to : goal.overflow_add-to
overflow_add-to c =
    let s = answer-stands c.args.sheet.now c.loop-record.at c.head_at.ensures (c.in-Ok-Some.is ∙ ap Ok c.in-Ok-Some.field-0-is) in
    omega (arith, s.fits)

pub slice_bounds-decode-end : goal.slice_bounds-decode-end
slice_bounds-decode-end c = (answer-stands c.args.sheet.now c.loop-record.at c.head_at.ensures (c.in-Ok-Some.is ∙ ap Ok c.in-Ok-Some.field-0-is)).fits

pub loop-record-preserved : goal.loop-record-preserved
loop-record-preserved c =
    decoding-next c.loop-record.invariant (omega (arith, items-count c.loop-record.invariant)) c.head_at.ensures (c.in-Ok-Some.is ∙ ap Ok c.in-Ok-Some.field-0-is) c.decode.ensures

pub returns : goal.returns
returns c = decoding-done c.loop-record.invariant c.blank-records.ensures (omega (arith, items-count c.loop-record.invariant))
