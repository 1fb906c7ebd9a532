-- The trip of a walked loop joins those passed; that of a closed loop is kept at the place that its counter says.
use Rattle.passing.proofs.LoopLaws.{walked-joined, closed-joined}
use Rattle.passing.proofs.loops.join_trip.Goals as goal

pub returns-then-limit-eq0 : goal.returns-then-limit-eq0
returns-then-limit-eq0 c = let a = c.args in walked-joined a.around a.frame a.trip a.opened.now c.if-limit-eq0.true c.pass_trip.ensures

pub returns-else-limit-eq0 : goal.returns-else-limit-eq0
returns-else-limit-eq0 c = let a = c.args in
    closed-joined a.around a.frame a.trip a.opened.now c.requires.counter_value a.limit c.if-limit-eq0.false c.keep.ensures
