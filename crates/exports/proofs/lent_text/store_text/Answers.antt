-- Refusal 12 before anything is written; otherwise the text is put at the buffer's start and its length into the area.
use Rattle.encoding.proofs.Appending.{from_start}
use Rattle.exports.proofs.LentTexts.{stored-nothing, stored-text}
use Rattle.exports.proofs.lent_text.store_text.Goals as goal

pub returns-then-buffer-text : goal.returns-then-buffer-text
returns-then-buffer-text c =
    let a = c.args in
    let l =
    stored-nothing a.text.now a.buffer.now a.answer.now c.if-buffer-text.true in
    record { number = l.0; text = l.1.0; area = l.1.1 }

pub returns : goal.returns
returns c =
    let a = c.args in
    let l =
    stored-text a.text.now a.buffer.now a.answer.now c.if-buffer-text.false (from_start c.put.ensures) c.put_length.ensures in
    record { number = l.0; text = l.1.0; area = l.1.1 }
