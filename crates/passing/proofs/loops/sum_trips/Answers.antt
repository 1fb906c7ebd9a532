-- Each figure is the weighted sum of that figure of the first trips.
use Rattle.passing.proofs.LoopLaws.{trips-summed}
use Rattle.passing.proofs.loops.sum_trips.Goals as goal

pub returns : goal.returns
returns c = let a = c.args in
    trips-summed a.around a.last a.opened.now a.trips a.held c.first_trips.result c.requires.1 c.weights_of-weights.ensures c.first_trips.ensures
    c.weighted_sum.ensures c.weighted_sum-2.ensures
