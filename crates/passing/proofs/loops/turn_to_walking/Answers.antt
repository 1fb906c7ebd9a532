-- Test by test, the end of the trip is that of a loop with the limit answered: where no loop is ranked, where this one is not, where it is past its
-- first trips, where one of them follows, where its choices are settled, and where they are not.
use Rattle.std.proofs.Common.{false, arith}
use Rattle.layout.specs.Rows.{opener_at, loop_at}
use Rattle.layout.proofs.Reading.{ranked-by}
use Rattle.trips.proofs.TripLaws.{limit-few}
use Rattle.passing.proofs.RankedEnds.{unranked-ends, read-unranked, read-later, read-further, read-settled, read-unsettled}
use Rattle.passing.proofs.loops.turn_to_walking.Goals as goal

pub returns-then-not-some_ranked-clause-ends : goal.returns-then-not-some_ranked-clause-ends
returns-then-not-some_ranked-clause-ends c = let a = c.args in let m = a.arrays.now in
    unranked-ends m.rows m.differences m.limits a.depth a.state.now
    (ranked-by m.limits (loop_at m.rows (opener_at m.rows a.state.now.at)) c.some_ranked.ensures c.if-not-some_ranked.true)

pub returns-then-not-ranked_at-clause-ends : goal.returns-then-not-ranked_at-clause-ends
returns-then-not-ranked_at-clause-ends c = let a = c.args in let m = a.arrays.now in
    read-unranked m.rows m.differences m.limits a.depth a.state.now
    c.opener_at-opener.ensures c.loop_at-number.ensures c.ranked_at.ensures c.if-not-ranked_at.true

pub returns-then-limit-counter-clause-ends : goal.returns-then-limit-counter-clause-ends
returns-then-limit-counter-clause-ends c = let a = c.args in let m = a.arrays.now in
    read-later m.rows m.differences m.limits a.depth a.state.now
    c.opener_at-opener.ensures c.loop_at-number.ensures c.ranked_at.ensures c.if-not-ranked_at.false c.saturating_sub-around.ensures
    c.counter_at-counter.ensures c.limit_within-limit.ensures c.if-limit-counter.true

pub returns-then-further-clause-ends : goal.returns-then-further-clause-ends
returns-then-further-clause-ends c = let a = c.args in let m = a.arrays.now in
    read-further m.rows m.differences m.limits a.depth a.state.now
    c.opener_at-opener.ensures c.loop_at-number.ensures c.ranked_at.ensures c.if-not-ranked_at.false c.saturating_sub-around.ensures
    c.counter_at-counter.ensures c.limit_within-limit.ensures (omega (arith, c.if-limit-counter.false)) c.trips_at-trips.ensures c.visited_by.ensures
    c.further.ensures c.if-further.true

pub returns-then-not-goes_unsettled-clause-ends : goal.returns-then-not-goes_unsettled-clause-ends
returns-then-not-goes_unsettled-clause-ends c = let a = c.args in let m = a.arrays.now in
    read-settled m.rows m.differences m.limits a.depth a.state.now
    c.opener_at-opener.ensures c.loop_at-number.ensures c.ranked_at.ensures c.if-not-ranked_at.false c.saturating_sub-around.ensures
    c.counter_at-counter.ensures c.limit_within-limit.ensures (omega (arith, c.if-limit-counter.false)) c.trips_at-trips.ensures c.visited_by.ensures
    c.further.ensures c.goes_unsettled.ensures c.if-not-goes_unsettled.true

pub join_kept-requires : goal.join_kept-requires
join_kept-requires c =
    let few = limit-few c.args.arrays.now.limits c.loop_at-number.result c.saturating_sub-around.result false
    (omega (arith, c.requires, c.saturating_sub-around.ensures)) in
    omega (arith, c.if-limit-counter.false, c.limit_within-limit.ensures, few)

pub returns-clause-ends : goal.returns-clause-ends
returns-clause-ends c =
    let a = c.args in let m = a.arrays.now in
    let few = limit-few m.limits c.loop_at-number.result c.saturating_sub-around.result false
    (omega (arith, c.requires, c.saturating_sub-around.ensures)) in
    read-unsettled m.rows m.differences m.limits a.depth a.state.now
    c.opener_at-opener.ensures c.loop_at-number.ensures c.ranked_at.ensures c.if-not-ranked_at.false c.saturating_sub-around.ensures
    c.counter_at-counter.ensures c.limit_within-limit.ensures (omega (arith, c.if-limit-counter.false)) c.trips_at-trips.ensures c.visited_by.ensures
    c.further.ensures c.goes_unsettled.ensures c.if-further.false c.if-not-goes_unsettled.false
    (omega (arith, c.if-limit-counter.false, c.limit_within-limit.ensures, few)) c.join_kept.ensures
