-- A stage is the body evaluator over at most as many records as a sheet has, with the loops that are open at its start.
use Rattle.evaluator.proofs.MachineLaws.{stage-made}
use Rattle.evaluator.proofs.advance.Goals as goal

pub returns : goal.returns
returns c = let a = c.args in let m = a.arrays.now in
    stage-made m.rows m.differences m.limits a.count
    a.state.now c.min-records.ensures c.depth_at-depth.ensures c.evaluate_body.ensures
