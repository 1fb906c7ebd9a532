-- The next state is that of the plan, or the state itself where there is none; the laws are those of every accepted sheet.
use Rattle.layout.specs.Loops.{differences_length, facts_length, limits_length}
use Rattle.layout.specs.Rows.{rows_length}
use Rattle.planner.proofs.Planned.{planned-count, planned-refused}
use Rattle.planner.proofs.Parameters.{small-parameters}
use Rattle.stages.proofs.Laws.{stage_laws}
use Rattle.stages.proofs.Planned.{in_blank, next-planned, next-refused}
use Rattle.stages.proofs.stage.Goals as goal

pub returns-in-Ok : goal.returns-in-Ok
returns-in-Ok c =
    let sheet = c.args.sheet.now in
    let parameters = c.args.parameters in
    let blank = c.blank-arrays.ensures in
    let call = c.plan in
    let count = planned-count sheet parameters call.result call.ensures.answer c.in-Ok.is in record {
      next = next-planned sheet parameters count.0 count.1 (in_blank rows_length _ blank.rows call.ensures.rows) (in_blank differences_length _ blank.differences call.ensures.differences)
          (in_blank facts_length _ blank.facts call.ensures.facts) (in_blank limits_length _ blank.limits call.ensures.limits) count.2 c.args.s c.advance.ensures;
      laws = λ rs e. stage_laws sheet parameters rs (small-parameters parameters _ c.well_formed.1.0) e;
    }

pub returns-in_default : goal.returns-in_default
returns-in_default c =
    let sheet = c.args.sheet.now in
    let parameters = c.args.parameters in
    record {
      next = next-refused sheet parameters (planned-refused sheet parameters c.plan.result c.plan.ensures.answer c.in_default.is) c.args.s;
      laws = λ rs e. stage_laws sheet parameters rs (small-parameters parameters _ c.well_formed.1.0) e;
    }
