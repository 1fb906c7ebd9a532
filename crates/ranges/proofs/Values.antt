-- The values number 0 to value_count - 1 are the values from the first to the last, in ascending order.
use mathlib.Core.Path.{◌≡◌, refl, sym, ap, ◌∙◌, subst}
use Prim.Native.Nat.{ℕ, zero, suc, ◌+◌, ◌-◌, ◌≤◌, ◌<◌}
use native.Mathlib.Decide.{dec_le}
use native.Mathlib.Omega.{arith}
use lib.IntN.{ℤ, pos, negsuc, suc_ℤ, ◌+ℤ◌, ◌-ℤ◌, +ℤ_assoc}
use lib.Signed.{mag, le_z, ◌<ℤ◌, <ℤ-≤ℤ_trans, <ℤ_irrefl}
use lib.Dec.{T, leb→le}
use Rattle.whole.specs.Integer.{at_least_zero}
use Rattle.whole.proofs.Order.{AtMost, ≤ℤ→AtMost, AtMost→≤ℤ, AtMost-suc, AtMost-subtract, AtMost-restore, at_least_zero-monotone, pos-AtMost}
use Rattle.ranges.specs.ParameterRange.{ParameterRange, Within, value_count, value_at}

-- a number that is below one more than d is at most d
below : (d : ℤ) (k : ℕ) → k < at_least_zero (suc_ℤ d) → AtMost (pos k) d
below (pos n) k h = pos-AtMost (omega arith)
below (negsuc zero) k h = absurd (omega arith)
below (negsuc (suc n)) k h = absurd (omega arith)

-- a number between two whose patterns are so small
between : {half : ℕ} (a z b : ℤ) → T (le_z a z) → T (le_z z b) → mag a < half → mag b < half → mag z < half
between a (pos n) (pos b) l r p q = let h = leb→le n b r in omega arith
between a (pos n) (negsuc b) l r p q = absurd r
between (negsuc a) (negsuc n) b l r p q = let h = leb→le n a l in omega arith
between (pos a) (negsuc n) b l r p q = absurd l

module _ (range : ParameterRange) where
  -- a value has the bits of the first and the last
  pub value-small : {half : ℕ} {value : ℤ} → mag range.first < half → mag range.last < half → Within range value → mag value < half
  value-small {value = value} p q h = between range.first value range.last h.from_first.le h.to_last.le p q

  pub value-within : {k : ℕ} → k < value_count range → Within range (value_at range k)
  unfolding value_count value_at
  value-within {k} h = record {
    from_first = AtMost→≤ℤ (record { gap = k; equation = refl });
    to_last = AtMost→≤ℤ (AtMost-restore range.first (pos k) range.last (below (range.last -ℤ range.first) k h));
  }

  pub within-value : {value : ℤ} → Within range value → (k : ℕ) × (k < value_count range) × (value ≡ value_at range k)
  unfolding value_count value_at
  within-value {value} h =
      let from : AtMost range.first value = ≤ℤ→AtMost h.from_first in
      let last : AtMost (range.first +ℤ pos from.gap) range.last =
      subst (λ (z : ℤ). AtMost z range.last) from.equation (≤ℤ→AtMost h.to_last) in
      let few = AtMost-subtract range.first (pos from.gap) range.last last in
      let less = at_least_zero-monotone (pos (suc from.gap)) _ (AtMost-suc (pos from.gap) (range.last -ℤ range.first) few) in
      (from.gap, omega arith, from.equation)

  -- ascending
  pub value-order : {j k : ℕ} → value_at range j <ℤ value_at range k → j < k
  unfolding value_at
  value-order {j} {k} h = by_order (dec_le k j)
    where
      by_order : Dec (k ≤ j) → j < k
      by_order (yes o) =
          let e : k + (j - k) ≡ j = omega arith in
          let up : AtMost (range.first +ℤ pos k) (range.first +ℤ pos j) =
          record { gap = j - k; equation = ap (λ (n : ℕ). range.first +ℤ pos n) (sym e) ∙ sym (+ℤ_assoc range.first (pos k) (pos (j - k))) } in
          absurd (<ℤ_irrefl (<ℤ-≤ℤ_trans h (AtMost→≤ℤ up)))
      by_order (no o) = omega arith
