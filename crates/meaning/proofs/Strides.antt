-- A stride by its direction: what D, the index's range and the stride itself are for a loop that counts up, and for one that counts down.
use mathlib.Core.Path.{◌≡◌, refl, sym, ap, ◌∙◌}
use mathlib.Core.List.{List}
use mathlib.Core.Bool.{Bool, true, false, cond}
use Prim.Native.Nat.{zero, ◌≤◌}
use native.Mathlib.Omega.{arith}
use lib.IntN.{ℤ, pos, negsuc, neg_ℤ, nat_abs}
use lib.Signed.{lt_z}
use lib.Dec.{T, lt→ltb}
use borrow.Author.Tests.{le-ltb}
use Rattle.meaning.specs.Limits.{stride_limit, constant_half}
use Rattle.meaning.specs.Number.{has_pattern}
use Rattle.meaning.specs.Record.{Loop, stride_size, counts_down}
use Rattle.meaning.specs.Time.{difference_up, difference_down, difference}
use Rattle.meaning.specs.Range.{Range, range, range_up, range_down, index_range}

-- the stride is its size, or minus its size
pub data Direction (l : Loop) : Type 0 where
  up : counts_down l ≡ false → l.stride ≡ pos (stride_size l) → Direction l
  down : counts_down l ≡ true → l.stride ≡ neg_ℤ (pos (stride_size l)) → Direction l

pub direction : (l : Loop) → Direction l
unfolding stride_size counts_down
direction l = go l.stride refl
  where
    go : (z : ℤ) → l.stride ≡ z → Direction l
    go (pos n) e = up (ap (λ (x : ℤ). lt_z x (pos zero)) e ∙ le-ltb n zero (omega arith)) (e ∙ sym (ap (λ (x : ℤ). pos (nat_abs x)) e))
    go (negsuc n) e = down (ap (λ (x : ℤ). lt_z x (pos zero)) e) (e ∙ sym (ap (λ (x : ℤ). neg_ℤ (pos (nat_abs x))) e))

-- a small stride has a pattern of 16 bits
pub stride-pattern : (l : Loop) → stride_size l ≤ stride_limit → T (has_pattern constant_half l.stride)
unfolding stride_size has_pattern
stride-pattern l small = go l.stride small
  where
    go : (z : ℤ) → nat_abs z ≤ stride_limit → T (has_pattern constant_half z)
    go (pos n) h = lt→ltb n constant_half (omega arith)
    go (negsuc n) h = lt→ltb n constant_half (omega arith)

module _ (l : Loop) where
  pub difference-up : counts_down l ≡ false → difference l ≡ difference_up l.lower l.upper
  unfolding difference
  difference-up e = ap (λ (b : Bool). cond b (difference_down l.lower l.upper) (difference_up l.lower l.upper)) e

  pub difference-down : counts_down l ≡ true → difference l ≡ difference_down l.lower l.upper
  unfolding difference
  difference-down e = ap (λ (b : Bool). cond b (difference_down l.lower l.upper) (difference_up l.lower l.upper)) e

  module _ (ps : List ℤ) (ranges : List Range) where
    pub index_range-up : counts_down l ≡ false → index_range ps l ranges ≡ range_up (range ps l.lower ranges) (range ps l.upper ranges)
    unfolding index_range
    index_range-up e = ap (λ (b : Bool). cond b range_down range_up (range ps l.lower ranges) (range ps l.upper ranges)) e

    pub index_range-down : counts_down l ≡ true → index_range ps l ranges ≡ range_down (range ps l.lower ranges) (range ps l.upper ranges)
    unfolding index_range
    index_range-down e = ap (λ (b : Bool). cond b range_down range_up (range ps l.lower ranges) (range ps l.upper ranges)) e
