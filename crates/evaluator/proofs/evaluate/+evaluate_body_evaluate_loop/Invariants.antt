-- The measure: the records that are left, twice, and the loops that are open; 1 more for a loop.
use Rattle.std.proofs.Common.{◌+◌, ◌*◌}
use Rattle.evaluator.proofs.evaluate.+evaluate_body_evaluate_loop.Given as goal

abbrev pub decreases-evaluate_body : goal.decreases-evaluate_body
decreases-evaluate_body l = 2 * l.left + l.depth

abbrev pub decreases-evaluate_loop : goal.decreases-evaluate_loop
decreases-evaluate_loop l = 2 * l.left + 1 + l.depth
