-- Three numbers within the limit.
use Rattle.std.proofs.Common.{◌≡◌, map, subst, sym, ap, ◌∙◌, rules, arith, ℕ, nat_abs, ◌≤◌, List, [], ◌∷◌, ℤ}
use Rattle.whole.specs.Integer.{dot}
use Rattle.form.specs.Forms.{bounded, size_limit}
use Rattle.form.proofs.Reckoned.{known, result}
use Rattle.form.proofs.FormLists.{at, indexes-are, small-all}
use Rattle.form.proofs.dot.Goals as goal

same : (c : goal.After-map) → c.map.result ≡ map bounded c.args.numbers
same c =
    let first : at c.map.result 0 ≡ bounded (at c.args.numbers 0) = search rules in
    let second : at c.map.result 1 ≡ bounded (at c.args.numbers 1) = search rules in
    let third : at c.map.result 2 ≡ bounded (at c.args.numbers 2) = search rules in
    sym (indexes-are c.map.result (search rules)) ∙ (λ i. first i ∷ second i ∷ third i ∷ []) ∙ ap (map bounded) (indexes-are c.args.numbers (search rules))

pub sum_of_products-requires : goal.sum_of_products-requires
sum_of_products-requires c =
    (omega arith, (omega arith, (subst (λ (xs : List ℤ). (k : ℕ) → nat_abs (at xs k) ≤ size_limit) (sym (same c)) (small-all c.args.numbers), omega arith)))

pub returns : goal.returns
returns c =
    let sum = c.sum_of_products.ensures in
    result (known (sum.value ∙ ap (dot c.args.index) (same c.before)) sum.size (omega arith))
