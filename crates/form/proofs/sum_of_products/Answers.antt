-- Each product is within the largest, so that the sum so far is within as many of them, and fits 64 bits.
use Rattle.std.proofs.Common.{ℕ, ◌+◌, ◌*◌, ◌^◌, ◌<◌, take, ◌+ℤ◌, ◌*ℤ◌, refl, sym, ◌∙◌, arith, rules}
use mir.Syntax.{w16, w64}
use mir.Val.{SFits, to_z}
use Rattle.whole.specs.Integer.{dot}
use Rattle.form.proofs.Reckoned.{held, Reckoned, widened, as-told, known, multiply, add-to, products-fit, result}
use Rattle.form.proofs.FormLists.{at, dot-more}
use Rattle.form.proofs.sum_of_products.Goals as goal
use Rattle.form.proofs.sum_of_products.Given as given

module _ (g : given.Over) (c : goal.After-sum-1 g) where
  abbrev k : ℕ
  k = c.loop-k.k

  abbrev most : ℕ
  most = 2 ^ 15 * g.row.LARGEST

  room : k * most + most < 2 ^ 63
  room = omega (arith, products-fit k g.row.N most c.loop-k-test.true, c.requires.room)

  product_is : Reckoned (held w64 c.from.result *ℤ held w64 (at c.args.numbers k)) (at c.args.factors k *ℤ at c.args.numbers k) most
  product_is =
      let fits : SFits w16 (at c.args.factors k) = search rules in
      multiply (as-told c.from.ensures (widened fits)) (known refl (c.requires.small k) (omega (arith, room))) (omega (arith, room))

  sum_is : Reckoned (to_z w64 c.loop-k.sum-bits +ℤ held w64 (held w64 c.from.result *ℤ held w64 (at c.args.numbers k)))
      (dot (take k c.args.factors) (take k c.args.numbers) +ℤ at c.args.factors k *ℤ at c.args.numbers k) (k * most + most)
  sum_is = add-to c.loop-k.invariant.0 c.loop-k.invariant.1 product_is room

pub overflow_mul-sum : goal.overflow_mul-sum
overflow_mul-sum g c = (product_is g c).fits

pub overflow_add-sum : goal.overflow_add-sum
overflow_add-sum g c = (sum_is g c).fits

pub loop-k-preserved : goal.loop-k-preserved
loop-k-preserved g c =
    let said = result (sum_is g c) in
    (said.0 ∙ sym (dot-more c.args.factors c.args.numbers c.loop-k.k (search rules) (search rules)), omega (arith, said.1))
