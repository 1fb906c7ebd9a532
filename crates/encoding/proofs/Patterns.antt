-- Two's complement patterns both ways: std's words and the definitions say the same.
use Rattle.std.proofs.Common.{◌≡◌, ℕ, suc, ◌-◌, cond, sym, ◌+◌, ◌^◌, Bool, true, false, refl, ap, ◌∙◌, ltb}
use Rattle.std.specs.Int.{cast_signed, cast_unsigned}
use lib.IntN.{ℤ, pos, negsuc}
use mir.Syntax.{Width, w8, w16, w64}
use mir.Val.{bits, hbits, sel, SFits, to_z, of_z}
use mir.Facts.{to_z-of_z}
use Rattle.meaning.specs.Limits.{constant_half, factor_half, answer_half}
use Rattle.meaning.specs.Number.{decode_signed, encode_signed}

-- w is the type of half + half patterns
pub record Widths (half : ℕ) (w : Width) : Type 0 where
  pub narrow : 2 ^ hbits w ≡ half
  pub whole : half + half ≡ 2 ^ bits w

pub bits8 : Widths factor_half w8
bits8 = record { narrow = refl; whole = refl }

pub bits16 : Widths constant_half w16
bits16 = record { narrow = refl; whole = refl }

pub bits64 : Widths answer_half w64
bits64 = record { narrow = refl; whole = refl }

module _ {half : ℕ} {w : Width} (widths : Widths half w) where
  -- from the pattern to the number
  pub decoded : (u : ℕ) → cast_signed w u ≡ decode_signed half u
  unfolding decode_signed
  decoded u = (λ i. sel (ltb u (widths.narrow i)) (pos u) (negsuc (2 ^ bits w - suc u))) ∙ by-half (ltb u half)
    where
      by-half : (b : Bool) → sel b (pos u) (negsuc (2 ^ bits w - suc u)) ≡ cond b (pos u) (negsuc (half + half - suc u))
      by-half true = refl
      by-half false = ap (λ (n : ℕ). negsuc (n - suc u)) (sym widths.whole)

  -- from the number to the pattern
  pub encoded : (z : ℤ) → cast_unsigned w z ≡ encode_signed half z
  unfolding encode_signed
  encoded (pos n) = refl
  encoded (negsuc n) = ap (λ (m : ℕ). m - suc n) (sym widths.whole)

  -- the pattern of a number that was handed over by its pattern
  pub encoded_of : {z : ℤ} → SFits w z → {r : ℕ} → r ≡ cast_unsigned w (to_z w (of_z w z)) → r ≡ encode_signed half z
  encoded_of {z} f e = e ∙ ap (cast_unsigned w) (to_z-of_z f) ∙ encoded z

-- a number that was handed over by its pattern
pub kept : {w : Width} {r z : ℤ} → SFits w r → r ≡ z → to_z w (of_z w r) ≡ z
kept f e = to_z-of_z f ∙ e
