-- When a range is not refused 11: the parts of the test, and the same in document 02's words.
use mathlib.Core.Path.{◌≡◌}
use mathlib.Core.Bool.{true, ◌&&◌}
use mathlib.Core.Logic.{◌↔◌}
use Prim.Native.Nat.{◌≤◌}
use native.Mathlib.Omega.{arith}
use borrow.Author.Tests.{le-leb}
use lib.Signed.{◌≤ℤ◌, ≤ℤ_refl}
use lib.Dec.{leb, leb→le}
use Rattle.whole.proofs.Order.{≤ℤ→AtMost, AtMost→≤ℤ, AtMost-trans}
use Rattle.meaning.specs.Limits.{parameter_factors, value_limit}
use Rattle.meaning.proofs.Logic.{T_and, true→T}
use Rattle.ranges.specs.ParameterRange.{ParameterRange, value_count, range_allowed}
use Rattle.ranges.proofs.Values.{value-within, within-value}

module _ (range : ParameterRange) where
  pub record Allowed : Type 0 where
    pub number : (1 ≤ range.number) × (range.number ≤ parameter_factors)
    pub count : (1 ≤ value_count range) × (value_count range ≤ value_limit)

  pub allowed-parts : range_allowed range ≡ true → Allowed
  unfolding range_allowed
  allowed-parts e =
      let three = T_and (leb 1 range.number && leb range.number parameter_factors && leb 1 (value_count range)) (leb (value_count range) value_limit) (true→T _ e) in
      let two = T_and (leb 1 range.number && leb range.number parameter_factors) (leb 1 (value_count range)) three.0 in
      let one = T_and (leb 1 range.number) (leb range.number parameter_factors) two.0 in
      record {
        number = (leb→le 1 range.number one.0, leb→le range.number parameter_factors one.1);
        count = (leb→le 1 (value_count range) two.1, leb→le (value_count range) value_limit three.1);
      }

  -- "a first value above the last": there is a value exactly where it is not
  pub some-value : (1 ≤ value_count range) ↔ (range.first ≤ℤ range.last)
  some-value = (
    λ h.
        let w = value-within range h in
        AtMost→≤ℤ (AtMost-trans range.first _ range.last (≤ℤ→AtMost w.from_first) (≤ℤ→AtMost w.to_last)),
    λ h.
        let v = within-value range {value = range.first} (record { from_first = ≤ℤ_refl range.first; to_last = h }) in omega (arith, v.1),
  )

  -- no 11 exactly where the number is 1 to 4, the first value is not above the last, and there are at most 256 values
  pub allowed-exactly : (range_allowed range ≡ true) ↔ (((1 ≤ range.number) × (range.number ≤ parameter_factors)) × ((range.first ≤ℤ range.last) × (value_count range ≤ value_limit)))
  unfolding range_allowed
  allowed-exactly = (λ e. let a = allowed-parts e in (a.number, (some-value.0 a.count.0, a.count.1)), λ h. passes h.0 h.1)
    where
      passes : (1 ≤ range.number) × (range.number ≤ parameter_factors) → (range.first ≤ℤ range.last) × (value_count range ≤ value_limit) → range_allowed range ≡ true
      passes (a, b) (c, d) = λ t.
          le-leb 1 range.number a t && le-leb range.number parameter_factors b t && le-leb 1 (value_count range) (some-value.1 c) t && le-leb (value_count range) value_limit d t
