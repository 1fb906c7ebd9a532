-- The invariant is what holds after k values; each turn has one more.
use Rattle.std.proofs.Common.{◌≡◌, ℕ, sym, ap, subst, arith}
use Rattle.ranges.specs.ParameterRange.{value_count}
use Rattle.sheet.specs.Answers.{refusable}
use Rattle.sheet.proofs.Refused.{passed-on}
use Rattle.sweep.specs.Values.{range_of}
use Rattle.sweep.specs.Filled.{Filled, FilledTo}
use Rattle.sweep.proofs.Filling.{none_filled, after_next, after-refused}
use Rattle.sweep.proofs.over.fill.Goals as goal

pub loop-k-init : goal.loop-k-init
loop-k-init c =
    let a = c.args in
    none_filled a.sheet.now a.parameters a.budget (range_of a.range) c.requires.leasts_blank c.requires.mosts_blank

pub returns-in_err-total : goal.returns-in_err-total
unfolding FilledTo
returns-in_err-total c =
    let a = c.args in
    let more = c.one_more.ensures in
    let refusal = after-refused a.sheet.now a.parameters a.budget (range_of a.range) (omega (arith, c.loop-k-test.true, c.value_count-k-end.ensures)) c.requires.few
    c.requires.budget_in_range.1 c.loop-k.invariant c.parameters_at-at.ensures (more.visits, (more.leasts, more.mosts)) (ap refusable c.in_err-total.was) in
    subst (λ r. FilledTo a.sheet.now a.parameters a.budget (range_of a.range) r c.one_more.new.leasts c.one_more.new.mosts)
    (sym (passed-on c.from_residual.result _ c.from_residual.ensures.1))
    refusal

pub loop-k-preserved : goal.loop-k-preserved
loop-k-preserved c =
    let a = c.args in
    let more = c.one_more.ensures in
    after_next a.sheet.now a.parameters a.budget (range_of a.range) (omega (arith, c.loop-k-test.true, c.value_count-k-end.ensures)) c.requires.few
    c.requires.budget_in_range.1 c.loop-k.invariant c.parameters_at-at.ensures (more.visits, (more.leasts, more.mosts)) (ap refusable c.in_ok-total.was)

pub returns : goal.returns
unfolding FilledTo
returns c =
    let l = c.loop-k in
    let a = c.args in
    let all : l.k ≡ value_count (range_of a.range) = omega (arith, c.loop-k-test.false, c.value_count-k-end.ensures) in
    subst (λ (n : ℕ). Filled a.sheet.now a.parameters a.budget (range_of a.range) n l.total l.leasts l.mosts) all l.invariant
