-- The loop keeps: the arms found so far, with the next arms that are still to come, are all arms.
use Rattle.std.proofs.Common.{ℕ, ◌+◌, List, sym, refl, ap, ◌∙◌, ap₂, arith}
use Rattle.layout.specs.Rows.{next_arm_role, role_at}
use Rattle.layout.proofs.Roles.{role-test}
use Rattle.ranking.proofs.BodySteps.{end_below, next-later, arms_with, arms-begin, arms-done, arms-one-more, arms-no-more}
use Rattle.ranking.proofs.body.arms_at.Goals as goal
use Rattle.ranking.proofs.body.arms_at.Goals.{then-eq, else-eq}

pub loop-i-init : goal.loop-i-init
loop-i-init c =
    let a = c.args in
    (omega arith, ap (λ (end : ℕ). arms_with a.rows.now 1 end (a.choice + 1)) c.end_at-end.ensures ∙ arms-begin a.rows.now a.choice)

pub next_in_body-i-requires : goal.next_in_body-i-requires
next_in_body-i-requires c =
    omega (arith, end_below c.args.rows.now c.args.choice, c.end_at-end.ensures)

pub loop-i-smaller : goal.loop-i-smaller
loop-i-smaller c =
    omega (arith, next-later c.args.rows.now c.loop-i.i)

pub loop-i-preserved : goal.loop-i-preserved
loop-i-preserved c =
    let rows : List ℕ = c.args.rows.now in
    let arms : ℕ = c.loop-i.arms in
    let end : ℕ = c.end_at-end.result in
    let i : ℕ = c.loop-i.i in
    let later = next-later rows i in
    let test = role-test next_arm_role refl (role_at rows i) c.role_at.ensures c.eq.ensures in
    elim c.if-eq.branch [
      | then-eq w ↦ (
        omega arith,
        ap₂ (λ (n k : ℕ). arms_with rows n end k) w.arms-is c.next_in_body-i.ensures
            ∙ arms-one-more rows arms end i c.loop-i-test.true (sym w.if-eq.true ∙ test) ∙ c.loop-i.invariant.1,
      )
      | else-eq w ↦ (
        omega arith,
        ap₂ (λ (n k : ℕ). arms_with rows n end k) w.arms-is c.next_in_body-i.ensures
            ∙ arms-no-more rows arms end i c.loop-i-test.true (sym w.if-eq.false ∙ test) ∙ c.loop-i.invariant.1,
      )
    ]

pub returns : goal.returns
returns c =
    arms-done c.args.rows.now c.loop-i.arms c.end_at-end.result c.loop-i.i c.loop-i-test.false ∙ c.loop-i.invariant.1
