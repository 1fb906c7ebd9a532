-- The refusal of the sheet or its records; 9 of the area or of the buffer; or the new sheet and its length.
use Rattle.std.proofs.Common.{rules}
use mathlib.Core.Path.{sym, ap, ◌∙◌}
use mathlib.Core.Logic.{⊎_elim}
use lib.Seq.{length-take-le}
use Rattle.sheet.specs.Answers.{refusable}
use Rattle.converter.specs.Converting.{new_records}
use Rattle.converter.proofs.Conversions.{length-fits}
use Rattle.exports.proofs.Mapped.{value-kept, refusal-kept}
use Rattle.exports.proofs.LentSheets.{left-refused, left-area, left-short, left-sheet}
use Rattle.exports.proofs.lent_sheet.store_sheet.Goals as goal

pub returns-then-room-lt-LENGTH_SIZE : goal.returns-then-room-lt-LENGTH_SIZE
returns-then-room-lt-LENGTH_SIZE c =
    let given = c.args in
    let new = new_records given.skips given.sheet.now in
    let long = sym (ap refusable (value-kept c.convert.result _ c.map_err.ensures.cases c.in_ok-length.was)) ∙ c.convert.ensures.answer in
    let l =
    ⊎_elim (λ h. left-area new given.buffer.now given.answer.now long h) (λ w. left-short new given.buffer.now given.answer.now long w.0 w.1)
    c.then-room-lt-LENGTH_SIZE.either in
    record { number = l.0; sheet = l.1.0; area = l.1.1 }

pub slice_bounds-target-end : goal.slice_bounds-target-end
slice_bounds-target-end c =
    let new = new_records c.args.skips c.args.sheet.now in
    length-fits new (sym (ap refusable (value-kept c.convert.result _ c.map_err.ensures.cases c.in_ok-length.was)) ∙ c.convert.ensures.answer) _ c.convert.ensures.laid

pub slice_bounds-put-end : goal.slice_bounds-put-end
slice_bounds-put-end c =
    let new = new_records c.args.skips c.args.sheet.now in
    sym (length-take-le _ _ (length-fits new (sym (ap refusable (value-kept c.convert.result _ c.map_err.ensures.cases c.in_ok-length.was)) ∙ c.convert.ensures.answer) _ c.convert.ensures.laid))

pub returns : goal.returns
returns c =
    let given = c.args in
    let new = new_records given.skips given.sheet.now in
    let long = sym (ap refusable (value-kept c.convert.result _ c.map_err.ensures.cases c.in_ok-length.was)) ∙ c.convert.ensures.answer in
    let l =
    left-sheet new given.buffer.now given.answer.now long c.if-room-lt-LENGTH_SIZE.false c.if-buffer-length.false _ c.convert.ensures.laid
    c.put.ensures c.put_length.ensures in
    record { number = l.0; sheet = l.1.0; area = l.1.1 }

pub returns-in_err-length : goal.returns-in_err-length
returns-in_err-length c =
    let given = c.args in
    let new = new_records given.skips given.sheet.now in
    let kept = refusal-kept c.convert.result _ (λ e k h. search rules) c.map_err.ensures.cases c.in_err-length.was c.from_residual.result c.from_residual.ensures.1 in
    let l = left-refused new given.buffer.now given.answer.now (sym (ap refusable kept.1.0) ∙ c.convert.ensures.answer) in
    record { number = kept.1.1 ∙ l.0; sheet = l.1.0; area = l.1.1 }
