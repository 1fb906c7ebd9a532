-- The invariant: the work from where the state stands on is what is passed so far and the work from `at` on. The measure is how many records are left.
use Rattle.std.proofs.Common.{◌≡◌, ◌-◌}
use Rattle.passing.specs.Pass.{straight_work_from}
use Rattle.passing.proofs.pass.pass_straight_work.Given as goal

abbrev pub invariant-loop-at : goal.invariant-loop-at
invariant-loop-at l =
    straight_work_from l.rows (l.count - l.state.at) l.state.at l.state.sums.passed.least l.state.sums.passed.most
    ≡ straight_work_from l.rows (l.count - l.at) l.at l.passed.least l.passed.most

abbrev pub decreases-loop-at : goal.decreases-loop-at
decreases-loop-at l = l.count - l.at
