-- The work that is left is none where the loop ends: no record is left, or the next one is none of straight work.
use Rattle.std.proofs.Common.{refl, sym, ◌∙◌}
use Rattle.layout.specs.Rows.{straight_role, role_at}
use Rattle.layout.proofs.Roles.{role-test}
use Rattle.state.specs.Bounds.{bounds}
use Rattle.passing.proofs.StraightLaws.{work-end, work-stop, work-more, work-passed}
use Rattle.passing.proofs.pass.pass_straight_work.Goals as goal
use Rattle.passing.proofs.pass.pass_straight_work.Goals.{then-loop-at-test+else-eq, else-loop-at-test}

pub loop-at-preserved : goal.loop-at-preserved
loop-at-preserved c =
    let rows = c.args.rows.now in
    let l = c.loop-at in
    l.invariant
    ∙ work-more rows l.at l.passed c.args.count c.loop-at-test.true
    (sym c.if-eq.true ∙ role-test straight_role refl (role_at rows l.at) c.role_at.ensures c.eq.ensures)
    (λ i. bounds (c.least_at.ensures i) (c.most_at.ensures i)) c.plus-passed.ensures

pub returns : goal.returns
returns c =
    let rows = c.args.rows.now in
    let l = c.loop-at in
    work-passed rows c.args.count c.args.state.now l.at l.passed
    (l.invariant
    ∙ elim c.loop-at-test.branch [
      | then-loop-at-test+else-eq w ↦
          work-stop rows l.at l.passed _ (sym w.if-eq.false ∙ role-test straight_role refl (role_at rows l.at) w.role_at.ensures w.eq.ensures)
      | else-loop-at-test w ↦ work-end rows l.at l.passed c.args.count w.loop-at-test.false
    ])
