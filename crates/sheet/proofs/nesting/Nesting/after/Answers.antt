-- A loop or a choice adds one open record, an end closes one; so the numbers stay those of the list of open records.
use native.Mathlib.Omega.{arith}
use Rattle.sheet.specs.Nestings.{nesting_after, nesting_after_as}
use Rattle.sheet.proofs.Openings.{after_is}
use Rattle.sheet.proofs.nesting.Nesting.after.Goals as goal

pub returns-in-Some-Loop-clause-open : goal.returns-in-Some-Loop-clause-open
unfolding nesting_after nesting_after_as
returns-in-Some-Loop-clause-open c os us e h = let n = after_is os e c.args.kind h in grind arith

pub returns-in-Some-Choice-clause-open : goal.returns-in-Some-Choice-clause-open
unfolding nesting_after nesting_after_as
returns-in-Some-Choice-clause-open c os us e h = let n = after_is os e c.args.kind h in grind arith

pub returns-in-Some-End-clause-open : goal.returns-in-Some-End-clause-open
unfolding nesting_after nesting_after_as
returns-in-Some-End-clause-open c os us e h = let n = after_is os e c.args.kind h in grind arith

pub returns-in-Some-Work-clause-open : goal.returns-in-Some-Work-clause-open
unfolding nesting_after nesting_after_as
returns-in-Some-Work-clause-open c os us e h = let n = after_is os e c.args.kind h in grind arith

pub returns-in-Some-Work-2-clause-open : goal.returns-in-Some-Work-2-clause-open
unfolding nesting_after nesting_after_as
returns-in-Some-Work-2-clause-open c os us e h = let n = after_is os e c.args.kind h in grind arith
