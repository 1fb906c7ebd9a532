-- Each difference wraps, so that it is the word of the exact one.
use Rattle.std.proofs.Common.{rules}
use Rattle.newton.proofs.Sum.{wrapped-differences}
use Rattle.newton.proofs.differences.Goals as goal

pub returns : goal.returns
returns c = wrapped-differences c.args.values (search rules)
