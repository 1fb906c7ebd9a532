-- The difference of two numbers of 16 bits fits 64, and so does one more.
use Rattle.std.proofs.Common.{◌≡◌, pos, ◌+ℤ◌, ◌-ℤ◌, ap, ◌∙◌, arith, rules, nat_abs}
use Rattle.std.specs.Int.{int_max}
use Rattle.std.proofs.lemmas.Int.{ints, clamps}
use mir.Syntax.{w16, w64}
use mir.Val.{SFits}
use Rattle.form.proofs.Reckoned.{held}
use Rattle.sweep.specs.Values.{range_of}
use Rattle.sweep.proofs.Counting.{counted}
use Rattle.sweep.proofs.values.value_count.Goals as goal

module _ (c : goal.After-max) where
  count_is : held w64 c.max.result ≡ int_max ((c.args.range.last -ℤ c.args.range.first) +ℤ pos 1) (pos 0)
  count_is =
      let first : SFits w16 c.args.range.first = search rules in
      let last : SFits w16 c.args.range.last = search rules in
      omega (arith, ints, clamps)

pub overflow_cast-result : goal.overflow_cast-result
overflow_cast-result c =
    let first : SFits w16 c.args.range.first = search rules in
    let last : SFits w16 c.args.range.last = search rules in
    (search (arith, ints, clamps), record { fits = omega (arith, ints, clamps) })

pub returns : goal.returns
returns c = ap nat_abs (count_is c) ∙ counted (range_of c.args.range)
