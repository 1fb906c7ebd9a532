-- Refusal 9; or what the library call over a range answers.
use Rattle.std.proofs.Common.{rules}
use mathlib.Core.Path.{sym, ap, ◌∙◌}
use Rattle.sheet.specs.Refusals.{refusal_number}
use Rattle.sweep.specs.Ranges.{extremes_is, range_result}
use Rattle.sweep.specs.Values.{range_of}
use Rattle.exports.proofs.Mapped.{value-kept, refusal-kept}
use Rattle.exports.proofs.RangeCalls.{left-short, left-refused, left-found}
use Rattle.exports.proofs.lent_range.store_extremes.Goals as goal

pub returns-then-answer-lt-RANGE_AREA_LENGTH : goal.returns-then-answer-lt-RANGE_AREA_LENGTH
returns-then-answer-lt-RANGE_AREA_LENGTH c =
    let a = c.args in
    let l = left-short a.sheet.now a.parameters a.budget (range_of a.range) a.answer.now c.if-answer-lt-RANGE_AREA_LENGTH.true in
    record { number = l.0; bytes = l.1 }

pub returns : goal.returns
returns c =
    let a = c.args in
    let is = value-kept c.cycles_over_range.result _ c.map_err.ensures.cases c.in_ok-extremes.was in
    let l =
    left-found a.sheet.now a.parameters a.budget (range_of a.range) a.answer.now (extremes_is c.in_ok-extremes.extremes) c.put_extremes.new.area
    c.if-answer-lt-RANGE_AREA_LENGTH.false (sym (ap range_result is) ∙ c.cycles_over_range.ensures.answers) c.put_extremes.ensures in
    record { number = l.0; bytes = l.1 }

pub returns-in_err-extremes : goal.returns-in_err-extremes
returns-in_err-extremes c =
    let a = c.args in
    let kept = refusal-kept c.cycles_over_range.result _ (λ e k h. search rules) c.map_err.ensures.cases c.in_err-extremes.was c.from_residual.result c.from_residual.ensures.1 in
    let refusal = kept.0 in
    let l =
    left-refused a.sheet.now a.parameters a.budget (range_of a.range) a.answer.now (refusal_number refusal.kind) refusal.offset
    c.if-answer-lt-RANGE_AREA_LENGTH.false (sym (ap range_result kept.1.0) ∙ c.cycles_over_range.ensures.answers) in
    record { number = kept.1.1 ∙ l.0; bytes = l.1 }
