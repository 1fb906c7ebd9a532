-- The sum so far is that of the products so far.
use Rattle.std.proofs.Common.{◌≡◌, ◌*◌, ◌^◌, ◌≤◌, take, nat_abs}
use Rattle.whole.specs.Integer.{dot}
use Rattle.form.proofs.sum_of_products.Given as goal

abbrev pub invariant-loop-k : goal.invariant-loop-k
invariant-loop-k g l = (l.sum ≡ dot (take l.k l.factors) (take l.k l.numbers)) × (nat_abs l.sum ≤ l.k * (2 ^ 15 * g.row.LARGEST))
