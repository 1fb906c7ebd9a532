-- By the refusals in their order.
use Rattle.std.proofs.Common.{refl, sym, ap, ◌∙◌, arith}
use Rattle.meaning.proofs.Answers.{BudgetOutOfRange}
use Rattle.ranges.proofs.Allowed.{allowed-parts}
use Rattle.ranges.proofs.Refusals.{over-11, over-7}
use Rattle.sheet.specs.Answers.{refusable}
use Rattle.sheet.proofs.Refused.{passed-on}
use Rattle.sweep.specs.Values.{range_of}
use Rattle.sweep.specs.Overs.{within_budget}
use Rattle.sweep.proofs.Overs.{filled-refused, filled-after, within-spent, within-kept, within-refused}
use Rattle.figures.proofs.Budgets.{in-range, out-of-range}
use Rattle.sweep.proofs.over.fill_range.Goals as goal

pub returns-then-not-is_allowed : goal.returns-then-not-is_allowed
returns-then-not-is_allowed c =
    let a = c.args in
    let none = sym c.is_allowed.ensures ∙ c.if-not-is_allowed.true in
    filled-refused (over-11 a.sheet.now a.parameters a.budget (range_of a.range) none) refl

pub returns-then-not-budget_allowed : goal.returns-then-not-budget_allowed
returns-then-not-budget_allowed c =
    let a = c.args in
    let yes = sym c.is_allowed.ensures ∙ c.if-not-is_allowed.false in
    let out : BudgetOutOfRange a.budget = out-of-range a.budget c.budget_allowed.ensures c.if-not-budget_allowed.true in
    filled-refused (over-7 a.sheet.now a.parameters a.budget (range_of a.range) yes out) refl

pub fill-requires : goal.fill-requires
fill-requires c =
    let range = in-range c.args.budget c.budget_allowed.ensures c.if-not-budget_allowed.false in
    let parts = allowed-parts (range_of c.args.range) (sym c.is_allowed.ensures ∙ c.if-not-is_allowed.false) in
    record {
      number_in_range = parts.number;
      few = parts.count.1;
      budget_in_range = (range.positive, range.within);
      leasts_blank = c.requires.0;
      mosts_blank = c.requires.1;
    }

pub returns-in_err-total : goal.returns-in_err-total
returns-in_err-total c =
    let a = c.args in
    filled-after a.sheet.now a.parameters a.budget (range_of a.range) c.is_allowed.ensures c.if-not-is_allowed.false
    (in-range a.budget c.budget_allowed.ensures c.if-not-budget_allowed.false) _ c.fill.ensures
    (ap (within_budget a.budget) (ap refusable c.in_err-total.was) ∙ within-refused a.budget _ _ ∙ sym (passed-on c.from_residual.result _ c.from_residual.ensures.1))

pub returns-then-from-total : goal.returns-then-from-total
returns-then-from-total c =
    let a = c.args in
    filled-after a.sheet.now a.parameters a.budget (range_of a.range) c.is_allowed.ensures c.if-not-is_allowed.false
    (in-range a.budget c.budget_allowed.ensures c.if-not-budget_allowed.false) _ c.fill.ensures
    (ap (within_budget a.budget) (ap refusable c.in_ok-total.was) ∙ within-spent (omega (arith, c.from.ensures, c.if-from-total.true)))

pub returns : goal.returns
returns c =
    let a = c.args in
    filled-after a.sheet.now a.parameters a.budget (range_of a.range) c.is_allowed.ensures c.if-not-is_allowed.false
    (in-range a.budget c.budget_allowed.ensures c.if-not-budget_allowed.false) _ c.fill.ensures
    (ap (within_budget a.budget) (ap refusable c.in_ok-total.was) ∙ within-kept (omega (arith, c.from.ensures, c.if-from-total.false)))
