-- Refusal 4; the refusal of the records; refusal 9; or the bytes that were laid out, which the reader reads as the records given.
use mathlib.Core.Path.{sym, ◌∙◌}
use lib.Seq.{length-take-le}
use native.Mathlib.Omega.{arith}
use Rattle.sheet.proofs.Refused.{passed-on}
use Rattle.meaning.proofs.Logic.{refused-is-not-ok}
use Rattle.writer.proofs.Writes.{too_many, not-laid-out, length-fits, too_short, written}
use borrow.Author.Rules.{rules}
use Rattle.writer.proofs.write_sheet.Goals as goal

pub returns-then-count-gt-MAX_RECORDS : goal.returns-then-count-gt-MAX_RECORDS
returns-then-count-gt-MAX_RECORDS c =
    let a = c.args in
    let p = too_many a.records a.count a.buffer.now c.if-count-gt-MAX_RECORDS.true in
    record { answer = p.0; bytes = p.1.0; undone = p.1.1.0; before = p.1.1.1 }

pub returns-in_err-length : goal.returns-in_err-length
returns-in_err-length c =
    let a = c.args in
    let told = passed-on c.from_residual.result _ c.from_residual.ensures.1 in
    let p = not-laid-out a.records a.count a.buffer.now c.if-count-gt-MAX_RECORDS.false c.in_err-length.ensures.answer in
    record { answer = told ∙ p.0; bytes = p.1.0; undone = λ n q. refused-is-not-ok (sym told ∙ q); before = p.1.1.1 }

pub returns-then-buffer-length : goal.returns-then-buffer-length
returns-then-buffer-length c =
    let a = c.args in
    let p = too_short a.records a.count a.buffer.now c.if-count-gt-MAX_RECORDS.false (search rules) c.lay_out.auto.sheet
    c.lay_out.ensures.laid c.in_ok-length.ensures.answer c.if-buffer-length.true in
    record { answer = p.0; bytes = p.1.0; undone = p.1.1.0; before = p.1.1.1 }

pub slice_bounds-sheet-end : goal.slice_bounds-sheet-end
slice_bounds-sheet-end c =
    let a = c.args in
    let long = c.lay_out.auto.sheet in
    let fits = length-fits a.records a.count a.buffer.now c.if-count-gt-MAX_RECORDS.false (search rules) long c.lay_out.ensures.laid c.in_ok-length.ensures.answer in
    omega (arith, long, fits)

pub slice_bounds-put-end : goal.slice_bounds-put-end
slice_bounds-put-end c =
    let a = c.args in
    let long = c.lay_out.auto.sheet in
    let fits = length-fits a.records a.count a.buffer.now c.if-count-gt-MAX_RECORDS.false (search rules) long c.lay_out.ensures.laid c.in_ok-length.ensures.answer in
    sym (length-take-le c.in_ok-length.length c.lay_out.new.sheet (omega (arith, long, fits)))

pub returns : goal.returns
returns c =
    let a = c.args in
    let p = written a.records a.count a.buffer.now c.if-count-gt-MAX_RECORDS.false (search rules) c.lay_out.auto.sheet
    c.lay_out.ensures.laid c.in_ok-length.ensures.answer
    c.if-buffer-length.false c.put.ensures in
    record { answer = p.0; bytes = p.1.0; undone = p.1.1.0; before = p.1.1.1 }
