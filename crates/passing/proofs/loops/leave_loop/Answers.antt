-- A walked loop hands on the sum of its trips; a closed one the weighted sum of those that it kept and of the open one.
use Rattle.state.specs.States.{state_with}
use Rattle.passing.proofs.LoopLaws.{walked-left, closed-left}
use Rattle.passing.proofs.loops.leave_loop.Goals as goal

pub returns-then-limit-eq0 : goal.returns-then-limit-eq0
returns-then-limit-eq0 c = let a = c.args in let s = a.state.now in
    let h = walked-left a.around a.frame s.sums.passed s.opened c.if-limit-eq0.true a.trips s.sums c.put_counter.ensures
    c.pass_trip.ensures c.close_frame.ensures.sums_after c.close_frame.ensures.opened_after in
    λ i. state_with s.at (h.0 i) (h.1 i)

pub returns : goal.returns
returns c = let a = c.args in let s = a.state.now in
    let h = closed-left a.around a.frame s.sums.passed s.opened c.counter_at-counter.ensures a.limit c.if-limit-eq0.false a.trips s.sums
    c.put_counter.ensures c.min-held.ensures c.sum_trips-summed.ensures c.forget.ensures c.add_around.ensures c.leave_frame.ensures in
    λ i. state_with s.at (h.0 i) (h.1 i)
