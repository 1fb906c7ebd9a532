-- Each product and each sum wraps, so that what is left is the remainder of the exact sum by 2^64.
use Rattle.newton.proofs.Sum.{differences-sum}
use Rattle.newton.proofs.weighted_sum.Goals as goal

pub returns : goal.returns
returns c = differences-sum c.args.w c.args.values c.differences.ensures
