-- Each test that fails answers the whole; after all others the counter is compared with the limit.
use Rattle.std.proofs.Common.{refl, arith, sym, ap, ◌∙◌}
use Rattle.std.specs.Prelude.{is_some}
use Rattle.layout.specs.Rows.{loop_role, role_at}
use Rattle.layout.proofs.Roles.{role-test-not}
use Rattle.passing.proofs.ChoiceLaws.{not-ranked, not-inside, not-in-loop, too-deep, trip-tested}
use Rattle.passing.proofs.pass.keeps_arms.Goals as goal
use Rattle.passing.proofs.pass.keeps_arms.Goals.{then-not-ranked_at-via-then-not-ranked_at, then-not-ranked_at-via-else-not-ranked_at+then-is_none, then-not-ranked_at-via-else-not-ranked_at+else-is_none+then-ne, then-not-ranked_at-via-else-not-ranked_at+else-is_none+else-ne+then-depth-ge-MAX_DEPTH}

pub returns-then-not-ranked_at : goal.returns-then-not-ranked_at
returns-then-not-ranked_at c =
    let rows = c.args.arrays.now.rows in
    let limits = c.args.arrays.now.limits in
    let choice = c.args.choice in
    let opened = c.args.opened.now in
    let at = role_at rows c.opener_at-around.result in
    elim c.then-not-ranked_at.branch [
      | then-not-ranked_at-via-then-not-ranked_at w ↦
          not-ranked rows limits choice opened c.opener_at-around.ensures c.loop_at-number.ensures c.depth_at-depth.ensures c.ranked_at.ensures
          w.if-not-ranked_at.true
      | then-not-ranked_at-via-else-not-ranked_at+then-is_none w ↦
          not-inside rows limits choice opened c.opener_at-around.ensures c.loop_at-number.ensures c.depth_at-depth.ensures c.ranked_at.ensures
          w.if-not-ranked_at.false (ap is_some (sym w.enclosing_at.ensures) ∙ w.is_none.ensures) w.if-is_none.true
      | then-not-ranked_at-via-else-not-ranked_at+else-is_none+then-ne w ↦
          not-in-loop rows limits choice opened c.opener_at-around.ensures c.loop_at-number.ensures c.depth_at-depth.ensures c.ranked_at.ensures
          w.if-not-ranked_at.false (ap is_some (sym w.enclosing_at.ensures) ∙ w.is_none.ensures) w.if-is_none.false (role-test-not loop_role refl at w.role_at.ensures w.ne.ensures)
          w.if-ne.true
      | then-not-ranked_at-via-else-not-ranked_at+else-is_none+else-ne+then-depth-ge-MAX_DEPTH w ↦
          too-deep rows limits choice opened c.opener_at-around.ensures c.loop_at-number.ensures c.depth_at-depth.ensures c.ranked_at.ensures
          w.if-not-ranked_at.false (ap is_some (sym w.enclosing_at.ensures) ∙ w.is_none.ensures) w.if-is_none.false (role-test-not loop_role refl at w.role_at.ensures w.ne.ensures)
          w.if-ne.false w.if-depth-ge-MAX_DEPTH.true
    ]

pub returns : goal.returns
returns c =
    let rows = c.args.arrays.now.rows in
    let at = role_at rows c.opener_at-around.result in
    trip-tested rows c.args.arrays.now.limits c.args.choice c.args.opened.now c.opener_at-around.ensures c.loop_at-number.ensures c.depth_at-depth.ensures
    c.ranked_at.ensures c.if-not-ranked_at.false (ap is_some (sym c.enclosing_at.ensures) ∙ c.is_none.ensures) c.if-is_none.false
    (role-test-not loop_role refl at c.role_at.ensures c.ne.ensures) c.if-ne.false (omega arith) c.counter_at.ensures c.limit_within.ensures
