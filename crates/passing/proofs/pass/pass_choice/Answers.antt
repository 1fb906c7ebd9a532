-- By the role: a choice opens its first arm; otherwise the open arm joins those passed, and the choice ends or another arm opens.
use Rattle.std.proofs.Common.{refl, ◌∙◌}
use Rattle.passing.proofs.ChoiceLaws.{choice-opens, choice-ends, next-arm-opens}
use Rattle.passing.proofs.pass.pass_choice.Goals as goal

pub returns-in-Choice-clause-after : goal.returns-in-Choice-clause-after
returns-in-Choice-clause-after c = let a = c.args in
    choice-opens a.arrays.now.rows a.state.now.at c.role_at.ensures a.arrays.now.limits a.state.now refl c.in-Choice.is ∙ c.open_choice.ensures.after

pub returns-in-End : goal.returns-in-End
returns-in-End c = let a = c.args in
    record {
      stands = let j = c.join_arm-frame.ensures.after in cc;
      after =
          choice-ends a.arrays.now.rows a.state.now.at c.role_at.ensures a.arrays.now.limits a.state.now refl c.join_arm-frame.ensures.after
          c.join_arm-frame.ensures.value c.in-End.is c.close_frame.ensures.sums_after c.close_frame.ensures.opened_after;
    }

pub returns-in_default-role : goal.returns-in_default-role
returns-in_default-role c = let a = c.args in
    record {
      stands = let j = c.join_arm-frame.ensures.after in cc;
      after =
          next-arm-opens a.arrays.now.rows a.state.now.at c.role_at.ensures a.arrays.now.limits a.state.now refl
          c.join_arm-frame.ensures.after c.in_default.not-Choice c.in_default-role.not-End c.reset.ensures;
    }
