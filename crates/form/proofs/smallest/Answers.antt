-- Each end is the one at which the product is smallest, so that the sum of the products is the smallest.
use mathlib.Core.Path.{◌≡◌, ◌∙◌}
use mathlib.Core.List.{[], ◌∷◌}
use native.Mathlib.Omega.{arith}
use lib.ListN.{length}
use borrow.Author.Rules.{rules}
use Rattle.whole.specs.Integer.{dot}
use Rattle.meaning.specs.Limits.{depth_limit, index_factors}
use Rattle.form.specs.Forms.{bounded}
use Rattle.form.proofs.Reckoned.{end_read, known, result}
use Rattle.form.proofs.FormLists.{at, smallest-dot}
use Rattle.form.proofs.smallest.Goals as goal

pub returns : goal.returns
returns c =
    let third = c in
    let second = third in
    let first = second in
    let start = first in
    let xs = start.args.index in
    let lo = start.args.lo in
    let hi = start.args.hi in
    let lx : length xs ≡ index_factors = search rules in
    let ll : length lo ≡ depth_limit = search rules in
    let lh : length hi ≡ depth_limit = search rules in
    let e1 =
    end_read (at xs 0) (at lo 0) (at hi 0) first.end-arg-1.given first.end-arg-2-1.given
    first.end-arg-3-1.given first.end-x.type_inv first.end-x.ensures in
    let e2 =
    end_read (at xs 1) (at lo 1) (at hi 1) second.end-arg-4-1.given second.end-arg-5-1.given
    second.end-arg-6-1.given second.end-y.type_inv second.end-y.ensures in
    let e3 =
    end_read (at xs 2) (at lo 2) (at hi 2) third.end-arg-7-1.given third.end-arg-8-1.given
    third.end-arg-9-1.given third.end-z.type_inv third.end-z.ensures in
    let s = result (known c.dot.ensures.0 c.dot.ensures.1 (omega arith)) in
    (s.0 ∙ (λ i. dot xs (bounded (e1 i) ∷ bounded (e2 i) ∷ bounded (e3 i) ∷ [])) ∙ smallest-dot xs lo hi lx ll lh, s.1)
