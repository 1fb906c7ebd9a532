-- With the limit that is left to the loop: where a further trip is to be visited, the trip joins and the next one opens; else the loop is left. Each is
-- within what it asks.
use Rattle.std.proofs.Common.{refl}
use Rattle.passing.proofs.LoopLaws.{limit-below, has_room, leaves-within}
use Rattle.passing.proofs.LoopLaws.{trip-follows, trip-leaves, trip-answered}
use Rattle.passing.proofs.loops.end_trip.Goals as goal

pub join_trip-requires : goal.join_trip-requires
join_trip-requires c = let a = c.args in
    let few = limit-below a.arrays.now.limits c.loop_at-number.result a.depth c.turn_to_walking-walked.result c.requires.0
    c.saturating_sub-around.ensures c.limit_unless-limit.ensures in record {
      counter_value = c.counter_at-counter.ensures;
      counter_bound = has_room c.counter_at-counter.result c.trips_at-trips.result c.saturating_sub-around.result few c.visited_by.ensures
          c.further.ensures c.if-further.true;
    }

pub returns-then-further : goal.returns-then-further
returns-then-further c = let a = c.args in let m = a.arrays.now in
    trip-answered
    (trip-follows m.rows m.differences m.limits a.depth c.turn_to_walking-walked.result c.turn_to_walking-walked.new.state c.turn_to_walking-walked.ensures.ends
    c.opener_at-opener.ensures c.frame_at-frame.ensures c.loop_at-number.ensures c.saturating_sub-around.ensures c.trips_at-trips.ensures
    c.step_at.ensures c.exactly-step.ensures c.add.ensures c.counter_at-counter.ensures c.limit_unless-limit.ensures c.visited_by.ensures
    c.further.ensures c.if-further.true c.join_trip.ensures c.put_counter.ensures c.open_trip.ensures.after)
    c.open_trip.ensures.value

pub leave_loop-requires : goal.leave_loop-requires
leave_loop-requires c = let a = c.args in
    leaves-within a.arrays.now.differences _ c.loop_at-number.result a.depth c.limit_unless-limit.result c.requires.0
    c.saturating_sub-around.ensures c.trips_at-trips.ensures
    (limit-below a.arrays.now.limits c.loop_at-number.result a.depth c.turn_to_walking-walked.result c.requires.0
    c.saturating_sub-around.ensures c.limit_unless-limit.ensures)

pub returns : goal.returns
returns c = let a = c.args in let m = a.arrays.now in
    trip-leaves m.rows m.differences m.limits a.depth c.turn_to_walking-walked.result c.turn_to_walking-walked.new.state c.turn_to_walking-walked.ensures.ends
    c.opener_at-opener.ensures c.frame_at-frame.ensures c.loop_at-number.ensures c.saturating_sub-around.ensures c.trips_at-trips.ensures
    c.step_at.ensures c.exactly-step.ensures c.add.ensures c.counter_at-counter.ensures c.limit_unless-limit.ensures c.visited_by.ensures
    c.further.ensures c.if-further.false c.leave_loop.ensures refl c.leave_arms.ensures
