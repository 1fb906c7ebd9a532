-- Only a choice holds a loop; it does where fewer loops stand before it than before its end.
use mathlib.Core.Path.{refl, ap, ap₂, sym, ◌∙◌}
use lib.Dec.{ltb}
use Rattle.layout.specs.Rows.{loops_before_at, choice_role}
use Rattle.layout.proofs.Roles.{role-test}
use Rattle.planner.specs.Reasons.{holds_loop_at}
use Rattle.planner.proofs.reason.holds_loop.Goals as goal

pub returns-then-eq : goal.returns-then-eq
unfolding holds_loop_at
returns-then-eq c =
    let is = sym (role-test choice_role refl _ c.role_at.ensures c.eq.ensures) ∙ c.if-eq.true in
    ap₂ ltb c.loops_before_at.ensures (c.loops_before_at-then-eq.ensures ∙ ap (loops_before_at _) c.end_at.ensures) ∙ rw is

pub returns-else-eq : goal.returns-else-eq
returns-else-eq c =
    let is = sym (role-test choice_role refl _ c.role_at.ensures c.eq.ensures) ∙ c.if-eq.false in
    c.if-eq.false ∙ rw is
