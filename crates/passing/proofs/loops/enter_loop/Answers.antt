-- The cost of entering is added; a loop with no trip goes on after its end, any other opens its first trip.
use Rattle.passing.proofs.LoopLaws.{enters_none, enters-some, trip-answered}
use Rattle.passing.proofs.loops.enter_loop.Goals as goal

pub returns-then-trips-eq0 : goal.returns-then-trips-eq0
returns-then-trips-eq0 c = let a = c.args in
    enters_none a.arrays.now.rows a.arrays.now.differences a.depth a.state.now
    c.loop_at.ensures c.trips_at-trips.ensures c.entry_cost_at.ensures c.exactly.ensures c.add.ensures c.if-trips-eq0.true c.after_end_at-state.ensures

pub returns : goal.returns
returns c = let a = c.args in
    trip-answered
    (enters-some a.arrays.now.rows a.arrays.now.differences a.depth a.state.now
    c.loop_at.ensures c.trips_at-trips.ensures c.entry_cost_at.ensures c.exactly.ensures c.add.ensures c.if-trips-eq0.false c.frame_at.ensures
    c.open_frame.ensures c.open_trip.ensures.after)
    c.open_trip.ensures.value
