-- Nothing of a record that is not a loop's; of a loop's, its offset, its class, its ceiling and its reason, as the arrays hold them.
use mathlib.Core.Path.{refl, ◌∙◌}
use Rattle.layout.specs.Rows.{role_number, loop_role}
use Rattle.layout.proofs.Roles.{role-found, role-other}
use Rattle.planner.proofs.Reporting.{report-none, report-loop}
use Rattle.planner.proofs.report.report_of.Goals as goal

pub returns-then-ne : goal.returns-then-ne
unfolding role_number
returns-then-ne c =
    let arrays = c.args.arrays.now in
    report-none arrays.rows arrays.differences arrays.facts arrays.limits c.args.number (role-other loop_role refl _ c.role_at.ensures c.ne.ensures c.if-ne.true)

pub returns : goal.returns
unfolding role_number
returns c =
    let arrays = c.args.arrays.now in
    report-loop arrays.rows arrays.differences arrays.facts arrays.limits c.args.number (role-found loop_role refl _ c.role_at.ensures c.ne.ensures c.if-ne.false) c.loop_at-of_loop.ensures (c.from.ensures ∙ c.place_at.ensures) c.limit_at.ensures c.ranked_at.ensures
    c.class_by-class.ensures c.ceiling_at.ensures c.reason_by.ensures
