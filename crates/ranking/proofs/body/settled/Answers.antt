-- The loop keeps: what is decided of the choices still to come is what is decided of all, since those passed are settled.
use Rattle.std.proofs.Common.{ℕ, ◌+◌, Bool, List, sym, refl, ap, ◌∙◌, ap₂, arith}
use Rattle.layout.specs.Rows.{choice_role, role_at}
use Rattle.layout.proofs.Roles.{role-test}
use Rattle.ranking.proofs.BodySteps.{end_below, next-later, arms-few, settled_from, settled-none, settled-begin, settled-done, settled-other, settled_on, settled-not}
use Rattle.ranking.proofs.body.settled.Goals as goal
use Rattle.ranking.proofs.body.settled.Goals.{then-eq+else-not-settled_choice, else-eq}

pub returns-then-end-opener : goal.returns-then-end-opener
returns-then-end-opener c =
    let a = c.args in let kept = a.kept in
    settled-none a.rows.now kept.arms.now kept.trips kept.per_trip a.opener (omega arith)

pub loop-i-init : goal.loop-i-init
loop-i-init c =
    let a = c.args in let kept = a.kept in (
      omega arith,
      ap (λ (end : ℕ). settled_from a.rows.now kept.arms.now kept.trips kept.per_trip 0 end (a.opener + 1)) c.end_at-end.ensures
          ∙ settled-begin a.rows.now kept.arms.now kept.trips kept.per_trip a.opener,
    )

pub arms_at-own-requires : goal.arms_at-own-requires
arms_at-own-requires c =
    omega (arith, end_below c.args.rows.now c.args.opener, c.end_at-end.ensures)

pub returns-then-not-settled_choice : goal.returns-then-not-settled_choice
returns-then-not-settled_choice c =
    let a = c.args in let kept = a.kept in
    let rows : List ℕ = a.rows.now in
    settled-not rows kept.arms.now kept.trips kept.per_trip c.loop-i.first c.end_at-end.result c.loop-i.i c.arms_at-own.result c.settled_choice.result
    c.loop-i-test.true (sym c.if-eq.true ∙ role-test choice_role refl (role_at rows c.loop-i.i) c.role_at.ensures c.eq.ensures) c.arms_at-own.ensures c.settled_choice.ensures
    c.if-not-settled_choice.true
    ∙ c.loop-i.invariant.1

pub overflow_add-first : goal.overflow_add-first
overflow_add-first c =
    let a = c.args in let kept = a.kept in
    omega (
      arith,
      end_below a.rows.now a.opener,
      c.end_at-end.ensures,
      arms-few a.rows.now c.loop-i.i,
      c.arms_at-own.ensures,
      c.loop-i-test.true,
      c.loop-i.invariant.0,
    )

pub next_in_body-i-requires : goal.next_in_body-i-requires
next_in_body-i-requires c =
    omega (arith, end_below c.args.rows.now c.args.opener, c.end_at-end.ensures)

pub loop-i-smaller : goal.loop-i-smaller
loop-i-smaller c =
    omega (arith, next-later c.args.rows.now c.loop-i.i)

pub loop-i-preserved : goal.loop-i-preserved
loop-i-preserved c =
    let a = c.args in let kept = a.kept in
    let rows : List ℕ = a.rows.now in
    let first : ℕ = c.loop-i.first in
    let end : ℕ = c.end_at-end.result in
    let i : ℕ = c.loop-i.i in
    let later = next-later rows i in
    let few = arms-few rows i in
    let before-end = c.loop-i-test.true in
    let test = role-test choice_role refl (role_at rows i) c.role_at.ensures c.eq.ensures in
    let onward : ℕ → ℕ → Bool = λ n k. settled_from rows kept.arms.now kept.trips kept.per_trip n end k in
    elim c.if-eq.branch [
      | then-eq+else-not-settled_choice w ↦ (
        omega arith,
        ap₂ onward w.first-is c.next_in_body-i.ensures
            ∙ settled_on rows kept.arms.now kept.trips kept.per_trip first end i w.arms_at-own.result w.settled_choice.result before-end
            (sym w.if-eq.true ∙ test) w.arms_at-own.ensures w.settled_choice.ensures w.if-not-settled_choice.false
            ∙ c.loop-i.invariant.1,
      )
      | else-eq w ↦ (
        omega arith,
        ap₂ onward w.first-is c.next_in_body-i.ensures
            ∙ settled-other rows kept.arms.now kept.trips kept.per_trip first end i before-end (sym w.if-eq.false ∙ test)
            ∙ c.loop-i.invariant.1,
      )
    ]

pub returns : goal.returns
returns c =
    let a = c.args in let kept = a.kept in
    settled-done a.rows.now kept.arms.now kept.trips kept.per_trip c.loop-i.first c.end_at-end.result c.loop-i.i c.loop-i-test.false
    ∙ c.loop-i.invariant.1
