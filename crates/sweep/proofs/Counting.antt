-- How many values there are, from the order of the two ends; a value between ends of 16 bits has 16 bits.
use mathlib.Core.Path.{◌≡◌, refl, ap, ◌∙◌}
use mathlib.Core.Bool.{Bool, cond}
use borrow.Author.Tests.{lt-ltb}
use Rattle.std.specs.Int.{int_max}
use Prim.Native.Nat.{ℕ, zero, suc, ◌<◌}
use native.Mathlib.Omega.{arith}
use lib.IntN.{ℤ, pos, negsuc, nat_abs, suc_ℤ, ◌+ℤ◌, ◌-ℤ◌, +ℤ_one}
use mir.Syntax.{w16}
use mir.Val.{SFits}
use Rattle.whole.specs.Integer.{at_least_zero}
use Rattle.ranges.specs.ParameterRange.{ParameterRange, value_count, value_at}
use Rattle.ranges.proofs.Values.{value-within, value-small}

module _ (range : ParameterRange) where
  -- as the code counts them
  pub counted : nat_abs (int_max ((range.last -ℤ range.first) +ℤ pos 1) (pos 0)) ≡ value_count range
  unfolding value_count
  counted = ap (λ (z : ℤ). nat_abs (int_max z (pos 0))) (+ℤ_one (range.last -ℤ range.first)) ∙ cut (suc_ℤ (range.last -ℤ range.first))
    where
      cut : (z : ℤ) → nat_abs (int_max z (pos 0)) ≡ at_least_zero z
      cut (pos zero) = refl
      cut (pos (suc n)) = ap (λ (b : Bool). nat_abs (cond b (pos (suc n)) (pos 0))) (lt-ltb 0 (suc n) (omega arith))
      cut (negsuc n) = refl

  pub value-fits : {k : ℕ} → SFits w16 range.first → SFits w16 range.last → k < value_count range → SFits w16 (value_at range k)
  value-fits f l h = record { sfits = value-small range f.sfits l.sfits (value-within range h) }
