-- Where no trip follows the answer is no; otherwise it is asked whether the choices are settled.
use Rattle.std.proofs.Common.{arith}
use Rattle.passing.proofs.LoopLaws.{last-settles, asks-settled, counts-on}
use Rattle.passing.proofs.loops.goes_unsettled.Goals as goal

pub returns-then-not-further : goal.returns-then-not-further
returns-then-not-further c = let a = c.args in
    last-settles a.rows.now a.opener a.trips a.counter a.opened.now.arms c.further.ensures c.if-not-further.true

pub overflow_add-count : goal.overflow_add-count
overflow_add-count c = let a = c.args in
    let h = counts-on a.counter a.trips c.further.ensures c.if-not-further.false in omega arith

pub returns : goal.returns
returns c = let a = c.args in
    asks-settled a.rows.now a.opener a.trips a.counter a.opened.now.arms c.further.ensures
    c.if-not-further.false c.kept.ensures.count c.settled.ensures
