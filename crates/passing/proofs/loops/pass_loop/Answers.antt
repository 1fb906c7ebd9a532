-- By the role: a loop is entered; any other record counts as the end of a trip.
use Rattle.std.proofs.Common.{◌∙◌}
use Rattle.passing.proofs.LoopLaws.{at-loop, at-end}
use Rattle.passing.proofs.loops.pass_loop.Goals as goal

pub returns-in-Loop : goal.returns-in-Loop
returns-in-Loop c = let a = c.args in let m = a.arrays.now in
    at-loop m.rows m.differences m.limits a.depth a.state.now c.role_at.ensures c.in-Loop.is ∙ c.enter_loop.ensures

pub returns-in_default : goal.returns-in_default
returns-in_default c = let a = c.args in let m = a.arrays.now in
    at-end m.rows m.differences m.limits a.depth a.state.now c.role_at.ensures c.in_default.not-Loop ∙ c.end_trip.ensures
