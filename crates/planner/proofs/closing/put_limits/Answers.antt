-- The invariant: the limits of the loops before record `number` are stored, and the other arrays stay.
use mathlib.Core.Path.{refl}
use Rattle.layout.specs.Rows.{role_number, loop_role}
use Rattle.layout.proofs.Roles.{role-found, role-other}
use Rattle.planner.proofs.LimitWalk.{surveyed-same, limited-start, limited-done, limited-skip, limited-next}
use Rattle.planner.proofs.closing.put_limits.Goals as goal

pub loop-number-init : goal.loop-number-init
loop-number-init c =
    let a = c.args in
    (limited-start a.count a.arrays.now.rows a.arrays.now.differences a.arrays.now.facts a.arrays.now.limits c.begin_limits.ensures, (refl, (refl, refl)))

pub loop-number-preserved-then-ne : goal.loop-number-preserved-then-ne
unfolding role_number
loop-number-preserved-then-ne c = (
  limited-skip c.loop-number.invariant.0 c.loop-number-test.true (role-other loop_role refl _ c.role_at.ensures c.ne.ensures c.if-ne.true),
  c.loop-number.invariant.1,
)

pub loop-number-preserved : goal.loop-number-preserved
unfolding role_number
loop-number-preserved c = (
  limited-next c.loop-number.invariant.0 c.loop-number-test.true (role-found loop_role refl _ c.role_at.ensures c.ne.ensures c.if-ne.false)
      c.loop_at.ensures c.limit-n.ensures c.put_limit.ensures,
  c.loop-number.invariant.1,
)

pub returns-clause-limits : goal.returns-clause-limits
returns-clause-limits c sheet parameters s =
    let same = c.loop-number.invariant.1 in
    limited-done c.loop-number.invariant.0 c.args.arrays.now.limits c.begin_limits.ensures c.loop-number-test.false sheet parameters
    (surveyed-same same.0 same.1.0 same.1.1 s)
