-- Only a loop's record is one; it is where so many loops stand around it.
use mathlib.Core.Path.{refl, ap, sym, ◌∙◌}
use Prim.Native.Nat.{ℕ}
use lib.Dec.{eqb}
use Rattle.layout.specs.Rows.{loop_role}
use Rattle.layout.proofs.Roles.{role-test}
use Rattle.planner.proofs.reason.is_loop_with.Goals as goal

pub returns-then-eq : goal.returns-then-eq
returns-then-eq c =
    let is = sym (role-test loop_role refl _ c.role_at.ensures c.eq.ensures) ∙ c.if-eq.true in
    ap (λ (n : ℕ). eqb n c.args.m) c.depth_at.ensures ∙ rw is

pub returns-else-eq : goal.returns-else-eq
returns-else-eq c =
    let is = sym (role-test loop_role refl _ c.role_at.ensures c.eq.ensures) ∙ c.if-eq.false in
    c.if-eq.false ∙ rw is
