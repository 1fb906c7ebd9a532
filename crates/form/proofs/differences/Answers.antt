-- Each difference of two numbers of 8 bits fits 16.
use Rattle.std.proofs.Common.{arith, rules}
use Rattle.std.proofs.lemmas.Int.{ints}
use Rattle.form.proofs.FormLists.{differences-more, differences-are}
use Rattle.form.proofs.differences.Goals as goal

pub loop-k-preserved : goal.loop-k-preserved
loop-k-preserved g c =
    let known = c.loop-k.invariant in
    (search rules, differences-more c.loop-k.differences c.args.x c.args.y c.loop-k.k (omega arith) known.1 (omega (arith, ints)))

pub returns : goal.returns
returns g c =
    differences-are g.row.N c.loop-k.differences c.args.x c.args.y c.loop-k.invariant.0 (search rules) (search rules) (λ j h. c.loop-k.invariant.1 j (omega arith))
