-- The four tests are those of the definition.
use Rattle.std.proofs.Common.{arith}
use Rattle.std.proofs.lemmas.Bool.Decides.{nat_tests}
use Rattle.ranges.specs.ParameterRange.{range_allowed}
use Rattle.sweep.proofs.values.is_allowed.Goals as goal

pub returns-then-count-gt0 : goal.returns-then-count-gt0
unfolding range_allowed
returns-then-count-gt0 c = grind (arith, nat_tests)

pub returns-else-count-gt0 : goal.returns-else-count-gt0
unfolding range_allowed
returns-else-count-gt0 c = grind (arith, nat_tests)
