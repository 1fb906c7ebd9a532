-- A head that is found is accepted or refused with its body; a refusal is passed on; the end cannot be, as a byte stands there.
use mathlib.Core.Path.{ap, ◌∙◌}
use native.Mathlib.Omega.{arith}
use Rattle.std.specs.Prelude.{Ok}
use Rattle.meaning.specs.Record.{kind_of}
use Rattle.sheet.specs.Answers.{accepted_of}
use Rattle.sheet.proofs.Refused.{passed-on}
use Rattle.sheet.proofs.Heads.{head-not-end, answer-refused, answer-end, answer-stands}
use Rattle.sheet.proofs.OneRecord.{read-refused, part-long, read_found}
use Rattle.sheet.proofs.reader.read_record.Goals as goal

pub returns-in_err-head : goal.returns-in_err-head
returns-in_err-head c os e =
    let a = c.args in
    passed-on c.from_residual.result _ c.from_residual.ensures.1
    ∙ read-refused a.sheet.now a.at os c.requires (answer-refused a.sheet.now a.at c.head_at.ensures c.in_err-head.was)

pub unreachable-requires : goal.unreachable-requires
unreachable-requires c =
    let a = c.args in
    head-not-end a.sheet.now a.at c.requires (answer-end a.sheet.now a.at c.head_at.ensures (c.in_ok-head.was ∙ ap Ok c.in_default.is))

pub overflow_add-to : goal.overflow_add-to
overflow_add-to c =
    let a = c.args in
    let s = answer-stands a.sheet.now a.at c.head_at.ensures (c.in_ok-head.was ∙ ap Ok c.in-Some.is) in
    omega (arith, s.fits)

pub slice_bounds-accept_record-end : goal.slice_bounds-accept_record-end
slice_bounds-accept_record-end c =
    let a = c.args in
    let s = answer-stands a.sheet.now a.at c.head_at.ensures (c.in_ok-head.was ∙ ap Ok c.in-Some.is) in
    s.fits

pub returns : goal.returns
returns c os e =
    let a = c.args in
    let s = answer-stands a.sheet.now a.at c.head_at.ensures (c.in_ok-head.was ∙ ap Ok c.in-Some.is) in
    c.accept_record.ensures.records os s.kind e (ap kind_of s.number ∙ s.named) (part-long a.sheet.now a.at os s)
    ∙ ap accepted_of (read_found a.sheet.now a.at os s)
