-- Refusal 9; or what the library call answers.
use Rattle.std.proofs.Common.{rules}
use mathlib.Core.Path.{sym, ap, ◌∙◌}
use Rattle.figures.specs.Answers.{figures_of, answer_result}
use Rattle.sheet.specs.Refusals.{refusal_number}
use Rattle.exports.proofs.Mapped.{value-kept, refusal-kept}
use Rattle.exports.proofs.FiguresCalls.{left-short, left-refused, left-figures}
use Rattle.exports.proofs.lent_figures.store_figures.Goals as goal

pub returns-then-answer-lt-AREA_LENGTH : goal.returns-then-answer-lt-AREA_LENGTH
returns-then-answer-lt-AREA_LENGTH c =
    let a = c.args in
    let l = left-short a.sheet.now a.parameters a.budget a.answer.now c.if-answer-lt-AREA_LENGTH.true in
    record { number = l.0; bytes = l.1 }

pub returns : goal.returns
returns c =
    let a = c.args in
    let is = value-kept c.cycles.result _ c.map_err.ensures.cases c.in_ok-figures.was in
    let l =
    left-figures a.sheet.now a.parameters a.budget a.answer.now (figures_of c.in_ok-figures.figures) c.put_figures.new.area
    c.if-answer-lt-AREA_LENGTH.false (sym (ap answer_result is) ∙ c.cycles.ensures.answers) c.put_figures.ensures in
    record { number = l.0; bytes = l.1 }

pub returns-in_err-figures : goal.returns-in_err-figures
returns-in_err-figures c =
    let a = c.args in
    let kept = refusal-kept c.cycles.result _ (λ e k h. search rules) c.map_err.ensures.cases c.in_err-figures.was c.from_residual.result c.from_residual.ensures.1 in
    let refusal = kept.0 in
    let l =
    left-refused a.sheet.now a.parameters a.budget a.answer.now (refusal_number refusal.kind) refusal.offset
    c.if-answer-lt-AREA_LENGTH.false (sym (ap answer_result kept.1.0) ∙ c.cycles.ensures.answers) in
    record { number = kept.1.1 ∙ l.0; bytes = l.1 }
