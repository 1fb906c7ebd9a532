-- The lines of the plan's loops are those of the sheet's; a refused sheet has none.
use native.Mathlib.Omega.{arith}
use Rattle.planner.proofs.Parameters.{small-parameters}
use Rattle.planner.proofs.Planned.{planned-count, planned-refused, plan-held}
use Rattle.encoding.proofs.Appending.{nothing, same_bytes}
use Rattle.text.proofs.PlanLines.{few-reports, plan-lines, refused-lines}
use Rattle.text.proofs.loop_lines.put_loops.Goals as goal

pub put_loop_lines-requires : goal.put_loop_lines-requires
put_loop_lines-requires c =
    let sheet = c.args.sheet.now in
    let parameters = c.args.parameters in
    let count = planned-count sheet parameters c.plan.result c.plan.ensures.answer c.in-Ok.is in
    let laid = c.plan.ensures in
    let held = plan-held sheet parameters count.0 count.1 _ _ _ _ laid.rows laid.differences laid.facts laid.limits in
    let small = small-parameters parameters _ c.well_formed.1.0 in
    omega (arith, few-reports sheet parameters small count.0 count.1 held count.2)

pub returns-in-Ok : goal.returns-in-Ok
returns-in-Ok c =
    let sheet = c.args.sheet.now in
    let parameters = c.args.parameters in
    let count = planned-count sheet parameters c.plan.result c.plan.ensures.answer c.in-Ok.is in
    let laid = c.plan.ensures in
    let held = plan-held sheet parameters count.0 count.1 _ _ _ _ laid.rows laid.differences laid.facts laid.limits in
    let small = small-parameters parameters _ c.well_formed.1.0 in
    same_bytes (plan-lines sheet parameters small count.0 count.1 held count.2) c.put_loop_lines.ensures

pub returns-in-Err : goal.returns-in-Err
returns-in-Err c =
    let sheet = c.args.sheet.now in
    let parameters = c.args.parameters in
    let down = planned-refused sheet parameters c.plan.result c.plan.ensures.answer c.in-Err.is in
    same_bytes (refused-lines sheet parameters down) (nothing (omega arith))
