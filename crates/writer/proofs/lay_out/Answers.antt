-- The invariant: the records before this one are laid before `at`, and the others settle the rest.
use mathlib.Core.Path.{◌∙◌}
use native.Mathlib.Omega.{arith}
use Rattle.sheet.proofs.Refused.{passed-on}
use Rattle.writer.proofs.Laying.{not-measured, laying-start, laying_refused, laying-near, laying-next, laying-open, laying-done, laying-laid}
use Rattle.writer.proofs.lay_out.Goals as goal

pub loop-item-init : goal.loop-item-init
loop-item-init c = laying-start c.args.items.now c.args.sheet.now c.requires.0 c.requires.1 c.nothing-here.ensures

pub returns-in_err-record : goal.returns-in_err-record
returns-in_err-record c =
    let inv = c.loop-item.invariant in
    let refusal = laying_refused inv c.loop-item-test.true _ (c.in_err-record.ensures.answer inv.os inv.opens) in
    record {
      answer = passed-on c.from_residual.result _ c.from_residual.ensures.1 ∙ refusal;
      laid = λ rs q. not-measured _ refusal q;
    }

pub overflow_add-at : goal.overflow_add-at
overflow_add-at c =
    let inv = c.loop-item.invariant in
    let near = laying-near inv c.loop-item-test.true _ (c.in_ok-record.ensures.answer inv.os inv.opens) in
    omega (arith, near, inv.few)

pub loop-item-preserved : goal.loop-item-preserved
loop-item-preserved c =
    let inv = c.loop-item.invariant in
    laying-next inv c.loop-item-test.true _ (c.in_ok-record.ensures.answer inv.os inv.opens) c.lay_record.auto.sheet
    (λ a q. c.lay_record.ensures.laid inv.os a inv.opens q)

pub returns-then-here-ne0 : goal.returns-then-here-ne0
returns-then-here-ne0 c =
    let refusal = laying-open c.loop-item.invariant c.loop-item-test.false c.if-here-ne0.true in
    record {
      answer = refusal;
      laid = λ rs q. not-measured _ refusal q;
    }

pub returns : goal.returns
returns c =
    let inv = c.loop-item.invariant in
    record {
      answer = laying-done inv c.loop-item-test.false c.if-here-ne0.false;
      laid = λ rs q. laying-laid inv c.loop-item-test.false c.if-here-ne0.false q;
    }
