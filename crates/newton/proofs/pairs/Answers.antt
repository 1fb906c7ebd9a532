-- C(n, 2) from C(n, 1): the product with n - 1 fits, as n is at most the largest ceiling, and half of it is exact.
use Rattle.std.proofs.Common.{sym, ◌∙◌}
use Rattle.whole.proofs.Choose.{choose_one}
use Rattle.newton.proofs.Binomial.{next-is}
use Rattle.newton.proofs.pairs.Goals as goal

pub returns : goal.returns
returns c = let e = c.min-trips.ensures in
    next-is 1 e (e ∙ sym (choose_one _)) c.saturating_sub.ensures
