-- A loop and a choice are followed by what follows their end, any other record by the next one.
use Rattle.std.proofs.Common.{◌≡◌, suc, ◌+◌, max, ◌∙◌, arith}
use Rattle.layout.specs.Rows.{end_at}
use Rattle.ranking.proofs.BodySteps.{next-behind, next-after}
use Rattle.ranking.proofs.body.next_in_body.Goals as goal

pub returns-in-Loop : goal.returns-in-Loop
returns-in-Loop c =
    let a = c.args in
    let e : c.max.result + 1 ≡ suc (max a.i (end_at a.rows.now a.i)) = omega arith in
    e ∙ next-behind a.rows.now a.i c.role_at.ensures c.in-Loop.is

pub returns-in_default : goal.returns-in_default
returns-in_default c =
    let a = c.args in
    let e : a.i + 1 ≡ suc a.i = omega arith in
    e ∙ next-after a.rows.now a.i c.role_at.ensures c.in_default.not-Loop c.in_default.not-Choice
