-- By how many trips are kept: these, the open one and blank ones.
use Rattle.std.proofs.Common.{arith}
use Rattle.state.proofs.KeptLaws.{one-trip, two-trips, three-trips, four-trips}
use Rattle.state.proofs.open.Open.first_trips.Goals as goal

pub returns-in-empty : goal.returns-in-empty
returns-in-empty c = let a = c.args in
    one-trip a.self.now.kept a.depth a.held c.kept_at.result c.kept_at-2.result c.kept_at.ensures.value c.kept_at-2.ensures.value a.last c.exactly-none.result c.exactly-none.ensures
    (omega (arith, c.kept_at.ensures.value, c.kept_at-2.ensures.value, c.in-empty.len_below))

pub returns-in-len1 : goal.returns-in-len1
returns-in-len1 c = let a = c.args in
    two-trips a.self.now.kept a.depth a.held c.kept_at.result c.kept_at-2.result c.kept_at.ensures.value c.kept_at-2.ensures.value a.last c.exactly-none.result c.exactly-none.ensures
    (omega (arith, c.kept_at.ensures.value, c.kept_at-2.ensures.value, c.in-len1.len_at_least, c.in-len1.len_below))

pub returns-in-len2 : goal.returns-in-len2
returns-in-len2 c = let a = c.args in
    three-trips a.self.now.kept a.depth a.held c.kept_at.result c.kept_at-2.result c.kept_at.ensures.value c.kept_at-2.ensures.value a.last c.exactly-none.result c.exactly-none.ensures
    (omega (arith, c.kept_at.ensures.value, c.kept_at-2.ensures.value, c.in-len2.len_at_least, c.in-len2.len_below))

pub returns-in-len3-up : goal.returns-in-len3-up
returns-in-len3-up c = let a = c.args in
    four-trips a.self.now.kept a.depth a.held c.kept_at.result c.kept_at-2.result c.kept_at.ensures.value c.kept_at-2.ensures.value a.last c.exactly-none.result c.exactly-none.ensures
    (omega (arith, c.kept_at.ensures.value, c.kept_at-2.ensures.value, c.in-len3-up.len_at_least, c.requires))
