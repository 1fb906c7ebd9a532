-- Signed numbers of 64 bits as the code tests, casts and divides them.
use mathlib.Core.Path.{◌≡◌, refl, sym, ap, ◌∙◌, subst}
use mathlib.Core.Bool.{Bool, true, false, not, cond}
use Prim.Native.Nat.{ℕ, suc, ◌+◌, ◌-◌, ◌/◌, ◌^◌, ◌<◌, zero}
use native.Mathlib.Nat.{mod-eq_of_lt}
use native.Mathlib.Omega.{arith}
use borrow.Author.Tests.{ltb-true}
use lib.IntN.{ℤ, pos, negsuc, neg_ℤ, nat_abs, ◌-ℤ◌}
use lib.Signed.{lt_z, le_z}
use Rattle.whole.specs.Integer.{floor_remainder, larger, smaller}
use Rattle.std.specs.Int.{cast_unsigned, int_min, int_max}
use Rattle.std.proofs.lemmas.Bool.Decides.{nat_tests}
use Rattle.whole.proofs.Order.{subℕ-negsuc}
use Rattle.whole.proofs.Floor.{count-pos, count-negsuc}
use Rattle.meaning.specs.Time.{trip_count}
use Rattle.meaning.specs.Range.{Range, range_up, range_down}
use Rattle.meaning.proofs.Logic.{true-is-not-false}
use Rattle.layout.specs.Loops.{word_of}
use mir.Syntax.{w16, w64}
use mir.Val.{SFits, to_z, of_z}
use mir.Facts.{to_z-of_z}
use Rattle.form.proofs.Reckoned.{held}

-- ---- a word

-- two's complement: std's word and the definition's say the same
word-cast : (z : ℤ) → SFits w64 z → cast_unsigned w64 z ≡ word_of z
unfolding word_of floor_remainder
word-cast (pos n) s = let h : n < 2 ^ 63 = s.sfits in sym (mod-eq_of_lt (let m : n < 2 ^ 64 = omega arith in m))
word-cast (negsuc n) s =
    let h : n < 2 ^ 63 = s.sfits in
    let m : n < 2 ^ 64 = omega arith in
    omega (arith, mod-eq_of_lt m)

-- the word of a number that was handed over by its pattern
pub word-handed : {z : ℤ} → SFits w64 z → {n : ℕ} → n ≡ cast_unsigned w64 (to_z w64 (of_z w64 z)) → n ≡ word_of z
word-handed {z} s e = e ∙ ap (cast_unsigned w64) (to_z-of_z s) ∙ word-cast z s

-- ---- trips

module _ (x : ℤ) (s : SFits w64 x) where
  pub held_same : held w64 x ≡ x
  held_same = to_z-of_z s

  pub no-trips : lt_z (held w64 x) (pos 0) ≡ true → (stride : ℕ) → 0 ≡ trip_count x stride
  unfolding trip_count
  no-trips t stride = go x (ap (λ (z : ℤ). lt_z z (pos 0)) (sym held_same) ∙ t)
    where
      go : (z : ℤ) → lt_z z (pos 0) ≡ true → 0 ≡ trip_count z stride
      go (pos n) e = absurd (omega (arith, ltb-true n 0 e))
      go (negsuc n) e = sym (count-negsuc n stride)

  pub some-trips : lt_z (held w64 x) (pos 0) ≡ false → (stride : ℕ) → nat_abs (held w64 x) / stride + 1 ≡ trip_count x stride
  unfolding trip_count
  some-trips t stride = ap (λ (z : ℤ). nat_abs z / stride + 1) held_same ∙ go x (ap (λ (z : ℤ). lt_z z (pos 0)) (sym held_same) ∙ t)
    where
      go : (z : ℤ) → lt_z z (pos 0) ≡ false → nat_abs z / stride + 1 ≡ trip_count z stride
      go (pos n) e = (let f : n / stride + 1 ≡ suc (n / stride) = omega arith in f) ∙ sym (count-pos n stride)
      go (negsuc n) e = true-is-not-false e

-- ---- comparisons

le-not_lt : (a b : ℤ) → le_z a b ≡ not (lt_z b a)
le-not_lt (pos m) (pos n) = grind (arith, nat_tests)
le-not_lt (pos m) (negsuc n) = refl
le-not_lt (negsuc m) (pos n) = refl
le-not_lt (negsuc m) (negsuc n) = grind (arith, nat_tests)

by-not : {A : Type 0} (b : Bool) (x y : A) → cond b x y ≡ cond (not b) y x
by-not true x y = refl
by-not false x y = refl

pub min-smaller : (a b : ℤ) → int_min a b ≡ smaller a b
min-smaller a b = by-not (lt_z b a) b a ∙ ap (λ (t : Bool). cond t a b) (sym (le-not_lt a b))

pub max-larger : (a b : ℤ) → int_max a b ≡ larger a b
max-larger a b = by-not (lt_z b a) a b ∙ ap (λ (t : Bool). cond t b a) (sym (le-not_lt a b))

-- ---- an index's range

module _ {down : Bool} (lower upper : Range) where
  pub index-range-down : {lo hi : ℤ} → down ≡ true → lo ≡ smaller upper.lo lower.hi → hi ≡ lower.hi →
      record { lo = lo; hi = hi } ≡ cond down range_down range_up lower upper
  unfolding range_down
  index-range-down e p q = (λ t. record { lo = p t; hi = q t }) ∙ ap (λ (b : Bool). cond b range_down range_up lower upper) (sym e)

  pub index-range-up : {lo hi : ℤ} → down ≡ false → lo ≡ lower.lo → hi ≡ larger lower.lo upper.hi →
      record { lo = lo; hi = hi } ≡ cond down range_down range_up lower upper
  unfolding range_up
  index-range-up e p q = (λ t. record { lo = p t; hi = q t }) ∙ ap (λ (b : Bool). cond b range_down range_up lower upper) (sym e)

-- ---- a stride

-- as a record's field holds it
module _ (stride : ℤ) (s : SFits w16 stride) where
  pub field-size : nat_abs (held w16 stride) ≡ nat_abs stride
  field-size = ap nat_abs (to_z-of_z s)

  pub field-sign : lt_z stride (pos 0) ≡ lt_z (held w16 stride) (pos 0)
  field-sign = ap (λ (z : ℤ). lt_z z (pos 0)) (sym (to_z-of_z s))

minus-of-size : (n : ℕ) → pos 0 -ℤ pos n ≡ neg_ℤ (pos n)
minus-of-size zero = refl
minus-of-size (suc n) = subℕ-negsuc 0 (suc n) (omega arith) ∙ ap negsuc (let e : suc n - 1 ≡ n = omega arith in e)

negated_fits : (n : ℕ) → n < 2 ^ 63 → SFits w64 (neg_ℤ (pos n))
negated_fits zero h = record { sfits = omega arith }
negated_fits (suc n) h = record { sfits = omega arith }

-- minus a stride's size that was handed over by its pattern
module _ (n : ℕ) (small : n < 2 ^ 16) {z : ℤ} (fits : SFits w64 z) (e : z ≡ pos n) where
  minus-size-is : pos 0 -ℤ to_z w64 (of_z w64 z) ≡ neg_ℤ (pos n)
  minus-size-is = ap (λ (y : ℤ). pos 0 -ℤ y) (to_z-of_z fits ∙ e) ∙ minus-of-size n

  pub minus-size : to_z w64 (of_z w64 (pos 0 -ℤ to_z w64 (of_z w64 z))) ≡ neg_ℤ (pos n)
  minus-size = to_z-of_z (subst (SFits w64) (sym minus-size-is) (negated_fits n (omega arith))) ∙ minus-size-is
