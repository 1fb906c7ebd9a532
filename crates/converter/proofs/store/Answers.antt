-- The refusal of the sheet or of its records; refusal 9; or the new sheet, copied from where it was made.
use mathlib.Core.Path.{sym, ◌∙◌}
use lib.Seq.{length-take-le}
use Rattle.sheet.proofs.Refused.{passed-on}
use Rattle.converter.specs.Converting.{new_records}
use Rattle.converter.proofs.Conversions.{stored_refused, stored_short, length-fits, stored-sheet}
use Rattle.converter.proofs.store.Goals as goal

pub returns-in_err-length : goal.returns-in_err-length
returns-in_err-length c =
    let given = c.args in
    let p = stored_refused (new_records given.skips given.sheet.now) given.buffer.now c.in_err-length.ensures.answer in
    record {
      answer = passed-on c.from_residual.result _ c.from_residual.ensures.1 ∙ p.0;
      bytes = p.1;
    }

pub returns-then-buffer-length : goal.returns-then-buffer-length
returns-then-buffer-length c =
    let given = c.args in
    let p = stored_short (new_records given.skips given.sheet.now) given.buffer.now c.in_ok-length.ensures.answer c.if-buffer-length.true in
    record { answer = p.0; bytes = p.1 }

pub slice_bounds-target-end : goal.slice_bounds-target-end
slice_bounds-target-end c = length-fits (new_records c.args.skips c.args.sheet.now) c.in_ok-length.ensures.answer _ c.convert.ensures.laid

pub slice_bounds-put-end : goal.slice_bounds-put-end
slice_bounds-put-end c =
    sym (length-take-le _ _ (length-fits (new_records c.args.skips c.args.sheet.now) c.in_ok-length.ensures.answer _ c.convert.ensures.laid))

pub returns : goal.returns
returns c =
    let given = c.args in
    let new = new_records given.skips given.sheet.now in
    let p = stored-sheet new given.buffer.now c.in_ok-length.ensures.answer _ c.convert.ensures.laid c.if-buffer-length.false c.put.ensures in
    record { answer = p.0; bytes = p.1 }
