-- Refusal 9; or what storing the text leaves, which is the program's text as far as its length says.
use mathlib.Core.Path.{sym, ◌∙◌}
use native.Mathlib.Omega.{arith}
use lib.ListN.{take}
use lib.Seq.{length-take-le, take-append_seam}
use Rattle.meaning.specs.Program.{program_text}
use Rattle.exports.proofs.Leaving.{by-number}
use Rattle.exports.proofs.LentTexts.{Promised, promised-short, promised-stored}
use Rattle.exports.proofs.pumdalin_text.Goals as goal

pub slice_bounds-store_text-end : goal.slice_bounds-store_text-end
slice_bounds-store_text-end c =
    let p = c.program_text-length in
    sym (length-take-le p.result p.new.buffer (omega arith))

pub returns-then-answer-lt-LENGTH_SIZE : goal.returns-then-answer-lt-LENGTH_SIZE
returns-then-answer-lt-LENGTH_SIZE c =
    let a = c.args in
    let l =
    by-number (λ n. Promised a.input.now a.text.now a.answer.now n a.text.now a.answer.now) c.returned.ensures
    (promised-short a.input.now a.text.now a.answer.now c.if-answer-lt-LENGTH_SIZE.true) in
    record { number = l.0; text = l.1.0; area = l.1.1.0; reads = l.1.1.1.0; reasons = l.1.1.1.1.0; before = l.1.1.1.1.1 }

pub returns : goal.returns
returns c =
    let a = c.args in
    let p = c.program_text-length.ensures in
    let same = (λ i. take (p.length i) (p.bytes i)) ∙ take-append_seam (program_text a.input.now) _ in
    let l =
    promised-stored a.input.now a.text.now a.answer.now c.if-answer-lt-LENGTH_SIZE.false same (omega arith) (c.returned-2.ensures ∙ c.store_text.ensures.number, (c.store_text.ensures.text, c.store_text.ensures.area)) in
    record { number = l.0; text = l.1.0; area = l.1.1.0; reads = l.1.1.1.0; reasons = l.1.1.1.1.0; before = l.1.1.1.1.1 }
