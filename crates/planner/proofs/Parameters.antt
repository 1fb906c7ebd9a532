-- Parameters of 16 bits are small enough for all that is reckoned with them.
use mathlib.Core.List.{List, [], ◌∷◌}
use Prim.Native.Nat.{suc, ℕ, ◌≤◌, zero}
use native.Mathlib.Omega.{arith}
use lib.ListN.{get_or}
use lib.IntN.{nat_abs, negsuc, pos, ℤ}
use Rattle.meaning.specs.Limits.{constant_half, parameter_factors}
use Rattle.loops.specs.Reckoned.{FourSmall}
use Rattle.loops.proofs.Sizes.{SmallParameters, sum}
use Rattle.loops.proofs.AtRecord.{four-small}
use denote.Array.{Array, each}
use denote.Laws.{Is}
use mir.Val.{SFits, Val}
use denote.Signed.{SInt}
use denote.Shadow.{shadow}
use mir.Syntax.{w16}

size-16 : (z : ℤ) → SFits w16 z → nat_abs z ≤ constant_half
size-16 (pos n) h = omega (arith, h.sfits)
size-16 (negsuc n) h = omega (arith, h.sfits)

each-small : (xs : List ℤ) (us : List Val) → shadow (each ℤ (SInt w16).own_val xs us) → (n : ℕ) → nat_abs (get_or xs n (pos zero)) ≤ constant_half
each-small [] us s n = omega arith
each-small (x ∷ xs) [] s n = absurd s
each-small (x ∷ xs) (u ∷ us) s zero = size-16 x (record { sfits = s.0.1 })
each-small (x ∷ xs) (u ∷ us) s (suc n) = each-small xs us s.1 n

-- four, as a function is told of them on entry
pub four-of : (xs : List ℤ) (vs : List Val) → Is (Array (SInt w16) parameter_factors) xs vs → FourSmall xs
four-of xs vs p = record { count = p.1.0.1; small = each-small xs p.0 p.1.1 }

pub small-parameters : (ps : List ℤ) (vs : List Val) → Is (Array (SInt w16) parameter_factors) ps vs → SmallParameters ps
small-parameters ps vs h = four-small ps (four-of ps vs h)

-- and as four numbers
pub small-16 : (a b c d : ℤ) → SFits w16 a → SFits w16 b → SFits w16 c → SFits w16 d → SmallParameters (a ∷ b ∷ c ∷ d ∷ [])
unfolding SmallParameters sum
small-16 a b c d p q r s = omega (arith, size-16 a p, size-16 b q, size-16 c r, size-16 d s)
