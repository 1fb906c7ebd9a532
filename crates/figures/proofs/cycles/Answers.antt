-- Refusal 7; the refusal of the plan; or what the sums say of the state in which the stages stop. Demand 3 follows from the answer.
use mathlib.Core.Path.{sym, ◌∙◌}
use mathlib.Core.Logic.{inl, inr, ⊎_elim}
use native.Mathlib.Omega.{arith}
use Rattle.meaning.proofs.Answers.{BudgetInRange, BudgetOutOfRange, answer-out-of-range, answer-refused}
use Rattle.layout.specs.Rows.{rows_length}
use Rattle.layout.specs.Loops.{differences_length, facts_length, limits_length}
use Rattle.meaning.proofs.LongerSheets.{answered-alike}
use Rattle.planner.proofs.Planned.{planned-count, planned-refused}
use Rattle.planner.proofs.Parameters.{small-parameters}
use Rattle.stages.proofs.Planned.{in_blank}
use Rattle.figures.specs.Demand.{Answered}
use Rattle.figures.proofs.Answering.{stopped-answer, planned, passed_on}
use Rattle.figures.proofs.Demands.{only-visits-fall, promised, answer-demand}
use Rattle.figures.proofs.Budgets.{in-range, out-of-range}
use Rattle.figures.proofs.cycles.Goals as goal

pub returns-then-not-budget_allowed : goal.returns-then-not-budget_allowed
unfolding Answered
returns-then-not-budget_allowed c =
    let a = c.args in
    let out : BudgetOutOfRange a.budget = out-of-range a.budget c.budget_allowed.ensures c.if-not-budget_allowed.true in
    let answers = sym (answer-out-of-range a.sheet.now a.parameters a.budget out) in
    record {
      answers = answers;
      demand3 = tt;
      before = answered-alike a.sheet.now a.parameters a.budget _ answers;
      fewer = only-visits-fall a.sheet.now a.parameters a.budget answers;
    }

pub repeat_stages-sums-requires : goal.repeat_stages-sums-requires
repeat_stages-sums-requires c =
    let sheet = c.args.sheet.now in
    let parameters = c.args.parameters in
    let small = small-parameters parameters _ c.well_formed.1.0 in
    let blank = c.blank-arrays.ensures in
    let call = c.plan.ensures in
    let count = planned-count sheet parameters c.plan.result call.answer c.in_ok-count.was in
    let rows = in_blank rows_length _ blank.rows call.rows in
    let differences = in_blank differences_length _ blank.differences call.differences in
    let facts = in_blank facts_length _ blank.facts call.facts in
    let limits = in_blank limits_length _ blank.limits call.limits in
    planned sheet parameters small count.0 count.1 rows differences facts limits count.2

pub returns : goal.returns
returns c =
    let sheet = c.args.sheet.now in
    let parameters = c.args.parameters in
    let small = small-parameters parameters _ c.well_formed.1.0 in
    let blank = c.blank-arrays.ensures in
    let call = c.plan.ensures in
    let count = planned-count sheet parameters c.plan.result call.answer c.in_ok-count.was in
    let rows = in_blank rows_length _ blank.rows call.rows in
    let differences = in_blank differences_length _ blank.differences call.differences in
    let facts = in_blank facts_length _ blank.facts call.facts in
    let limits = in_blank limits_length _ blank.limits call.limits in
    let range : BudgetInRange c.args.budget = in-range c.args.budget c.budget_allowed.ensures c.if-not-budget_allowed.false in
    let stopped = stopped-answer sheet parameters small count.0 count.1 rows differences facts limits count.2
    c.args.budget range c.repeat_stages-sums.ensures in
    let p = promised sheet parameters small c.args.budget c.figures_of.ensures stopped in
    record {
      answers = p.0;
      demand3 = p.1;
      before = answered-alike sheet parameters c.args.budget _ p.0;
      fewer = only-visits-fall sheet parameters c.args.budget p.0;
    }

pub returns-in_err-count : goal.returns-in_err-count
returns-in_err-count c =
    let sheet = c.args.sheet.now in
    let parameters = c.args.parameters in
    let range : BudgetInRange c.args.budget = in-range c.args.budget c.budget_allowed.ensures c.if-not-budget_allowed.false in
    let down = planned-refused sheet parameters c.plan.result c.plan.ensures.answer c.in_err-count.was in
    let answers = passed_on c.from_residual.result _ c.from_residual.ensures.1 ∙ sym (answer-refused sheet parameters c.args.budget _ _ range down) in
    record {
      answers = answers;
      demand3 = answer-demand sheet parameters (small-parameters parameters _ c.well_formed.1.0) c.args.budget _ answers;
      before = answered-alike sheet parameters c.args.budget _ answers;
      fewer = only-visits-fall sheet parameters c.args.budget answers;
    }
