-- The kept trips are added, and none of them is kept then, and none of their arms.
use Rattle.state.specs.States.{state_with}
use Rattle.passing.proofs.LoopLaws.{kept-joins, kept-drops}
use Rattle.passing.proofs.loops.join_kept.Goals as goal

pub returns : goal.returns
returns c = let a = c.args in let s = a.state.now in
    let joined = kept-joins a.around a.held s.opened s.sums c.kept_sum-kept.ensures c.add.ensures in
    let dropped = kept-drops a.around a.held s.opened c.forget.ensures c.clear.ensures in
    λ i. state_with s.at (joined i) (dropped i)
