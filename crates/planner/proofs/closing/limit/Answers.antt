-- The invariant: no loop before record `i` prevents ranking, `ranked` is whether closing is barred, and `deepest` is their largest depth.
use mathlib.Core.Path.{refl}
use Rattle.layout.specs.Rows.{role_number, loop_role}
use Rattle.layout.proofs.Roles.{role-found, role-other}
use Rattle.planner.proofs.Preventing.{limiting-done, limiting-skip, limiting-prevented, limiting-next}
use Rattle.planner.proofs.closing.limit.Goals as goal

pub loop-i-preserved-then-ne : goal.loop-i-preserved-then-ne
unfolding role_number
loop-i-preserved-then-ne c = limiting-skip c.loop-i.invariant c.loop-i-test.true (role-other loop_role refl _ c.role_at.ensures c.ne.ensures c.if-ne.true)

pub returns-then-prevents : goal.returns-then-prevents
unfolding role_number
returns-then-prevents c =
    limiting-prevented c.loop-i.invariant c.loop-i-test.true (role-found loop_role refl _ c.role_at.ensures c.ne.ensures c.if-ne.false)
    c.loop_at-k.ensures c.prevents.ensures c.if-prevents.true

pub loop-i-preserved : goal.loop-i-preserved
unfolding role_number
loop-i-preserved c =
    limiting-next c.loop-i.invariant c.loop-i-test.true (role-found loop_role refl _ c.role_at.ensures c.ne.ensures c.if-ne.false)
    c.loop_at-k.ensures c.prevents.ensures c.if-prevents.false c.barred-ranked.ensures c.depth_at.ensures c.max-deepest.ensures

pub returns : goal.returns
returns c = limiting-done c.loop-i.invariant c.loop-i-test.false c.limit_number.ensures
