-- Words of 64 bits: the product modulo 2^64 from halves of 32 bits; 4294967296 is 2^32, and 18446744073709551616 is 2^64.
use mathlib.Core.Path.{◌≡◌, sym, ◌∙◌, ap, ap₂, subst⁻¹}
use Prim.Native.Nat.{ℕ, ◌+◌, ◌*◌, ◌/◌, ◌%◌, ◌^◌, ◌<◌}
use native.Mathlib.Omega.{arith}
use native.Mathlib.Nat.{div-add-mod', add-mod, add-mul-mod_self_right, le_of_lt, lt_of_le_of_lt, mul-le-mul_left, mul-lt-mul_of_pos_right}
use lib.Pow.{pow_pos, pow-add}

split-product : (ah al bh bl : ℕ) → (ah * 4294967296 + al) * (bh * 4294967296 + bl)
    ≡ (ah * bh) * 18446744073709551616 + (ah * bl + al * bh) * 4294967296 + al * bl
split-product ah al bh bl = omega arith

-- the high product and the carries of the middle ones are multiples of 2^64
drop-high : (p h x y z : ℕ) → p ≡ h * 18446744073709551616 + (x + y) * 4294967296 + z →
    (z + (x % 4294967296 + y % 4294967296) % 4294967296 * 4294967296) % 2 ^ 64 ≡ p % 2 ^ 64
drop-high p h x y z e =
    ap (λ (t : ℕ). (z + t * 4294967296) % 2 ^ 64) (sym (add-mod x y 4294967296))
    ∙ sym (add-mul-mod_self_right (z + (x + y) % 4294967296 * 4294967296) (h + (x + y) / 4294967296) (2 ^ 64))
    ∙ ap (λ (t : ℕ). t % 2 ^ 64) entire
  where
    entire : (z + (x + y) % 4294967296 * 4294967296) + (h + (x + y) / 4294967296) * 2 ^ 64 ≡ p
    entire = omega arith

pub product-from-halves : (a b : ℕ) →
    (a % 4294967296 * (b % 4294967296) + (a / 4294967296 * (b % 4294967296) % 4294967296 + a % 4294967296 * (b / 4294967296) % 4294967296)
    % 4294967296 * 4294967296) % 2 ^ 64
    ≡ (a * b) % 2 ^ 64
product-from-halves a b =
    drop-high (a * b) (a / 4294967296 * (b / 4294967296)) (a / 4294967296 * (b % 4294967296))
    (a % 4294967296 * (b / 4294967296)) (a % 4294967296 * (b % 4294967296))
    (ap₂ ◌*◌ (sym (div-add-mod' a 4294967296)) (sym (div-add-mod' b 4294967296))
    ∙ split-product (a / 4294967296) (a % 4294967296) (b / 4294967296) (b % 4294967296))

-- the product of two numbers of k bits has 2k bits
pub product-bits : (k : ℕ) {a b : ℕ} → a < 2 ^ k → b < 2 ^ k → a * b < 2 ^ (k + k)
product-bits k {a} {b} ha hb =
    subst⁻¹ (λ (n : ℕ). a * b < n) (pow-add 2 k k)
    (lt_of_le_of_lt (mul-le-mul_left a (le_of_lt hb)) (mul-lt-mul_of_pos_right ha (pow_pos k)))
