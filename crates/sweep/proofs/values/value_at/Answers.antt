-- The value lies between two ends of 16 bits, so every step on the way to it is exact.
use Rattle.std.proofs.Common.{◌≡◌, ◌+ℤ◌, ap, ◌∙◌, arith, rules}
use Rattle.std.proofs.lemmas.Int.{ints, to_z-of_z}
use mir.Syntax.{w16, w64}
use mir.Val.{SFits}
use Rattle.ranges.specs.ParameterRange.{value_at}
use Rattle.form.proofs.Reckoned.{held}
use Rattle.sweep.specs.Values.{range_of}
use Rattle.sweep.proofs.Counting.{value-fits}
use Rattle.sweep.proofs.values.value_at.Goals as goal

module _ (c : goal.After-from-2) where
  sum_is : held w64 (held w64 c.from.result +ℤ held w64 c.from-2.result) ≡ value_at (range_of c.args.range) c.args.k
  unfolding value_at
  sum_is =
      let first : SFits w16 c.args.range.first = search rules in
      omega (arith, ints)

  fits : SFits w16 (value_at (range_of c.args.range) c.args.k)
  fits =
      let first : SFits w16 c.args.range.first = search rules in
      let last : SFits w16 c.args.range.last = search rules in
      value-fits (range_of c.args.range) first last c.requires

pub overflow_cast-result : goal.overflow_cast-result
overflow_cast-result c = rw (sum_is c) (fits c)

pub returns : goal.returns
returns c = ap (held w16) (sum_is c) ∙ to_z-of_z w16 _ (fits c)
