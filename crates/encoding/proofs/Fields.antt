-- Numbers in bytes: std's words and the definitions say the same.
use Rattle.std.proofs.Common.{◌≡◌, ℕ, zero, suc, ◌+◌, ◌*◌, ◌/◌, ◌%◌, ◌^◌, ◌<◌, List, [], ◌∷◌, get_or, take, drop, refl, ap, ◌∙◌, arith}
use Rattle.std.specs.Int.{byte_at, byte_worth, byte_len, bytes_low_first, sum_through, to_le_bytes}
use Rattle.std.proofs.Math.Nat.{div-one, div-div-eq-div-mul, pow-suc}
use Rattle.std.proofs.lemmas.List.{get_or-drop}
use mir.Syntax.{Width}
use Rattle.encoding.specs.Append.{Appended}
use Rattle.encoding.proofs.Appending.{same_bytes}
use Rattle.meaning.specs.Number.{unsigned, unsigned16, little_endian}

-- one byte more
unsigned-more : (bytes : List ℕ) (k : ℕ) → unsigned (take (suc k) bytes) ≡ unsigned (take k bytes) + get_or bytes k 0 * 256 ^ k
unfolding unsigned
unsigned-more [] zero = refl
unsigned-more [] (suc k) = omega arith
unsigned-more (b ∷ bytes) zero = omega arith
unsigned-more (b ∷ bytes) (suc k) = omega (arith, unsigned-more bytes k, ap (λ (p : ℕ). get_or bytes k 0 * p) (pow-suc 256 k))

-- what so many bytes are worth, added up
pub read-bytes : (bytes from : List ℕ) (k : ℕ) → ((i : ℕ) → i < suc k → get_or bytes i 0 ≡ get_or from i 0)
    → sum_through (λ i. byte_worth i (get_or bytes i 0)) k ≡ unsigned (take (suc k) from)
unfolding unsigned
read-bytes bytes from zero same = let first = unsigned-more from 0 in same 0 (omega arith) ∙ omega arith
read-bytes bytes from (suc k) same =
    let earlier = read-bytes bytes from k (λ i h. same i (omega arith)) in
    omega (arith, ap (λ (b : ℕ). b * 256 ^ suc k) (same (suc k) (omega arith)), unsigned-more from (suc k))

-- a number of two bytes
pub two-bytes : (body : List ℕ) (at : ℕ) → unsigned (take 2 (drop at body)) ≡ unsigned16 body at
unfolding unsigned unsigned16
two-bytes body at = grind (arith, unsigned-more (drop at body) 1, unsigned-more (drop at body) 0, get_or-drop at body 0 0, get_or-drop at body 1 0)

-- bytes of a number
low-first : (i k n : ℕ) → bytes_low_first i k n ≡ little_endian k (n / 256 ^ i)
unfolding little_endian
low-first i zero n = refl
low-first i (suc k) n =
    (λ t. at-byte i t ∷ low-first (suc i) k n t) ∙ ap (λ (m : ℕ). n / 256 ^ i % 256 ∷ little_endian k m) (next-byte i)
  where
    at-byte : (j : ℕ) → byte_at j n ≡ n / 256 ^ j % 256
    at-byte zero = omega arith
    at-byte (suc j) = refl

    next-byte : (j : ℕ) → n / 256 ^ suc j ≡ n / 256 ^ j / 256
    next-byte j = rw (div-div-eq-div-mul, pow-suc) refl

pub le-bytes : (w : Width) (n : ℕ) → to_le_bytes w n ≡ little_endian (byte_len w) n
le-bytes w n = low-first 0 (byte_len w) n ∙ ap (little_endian (byte_len w)) (div-one n)

-- a number whose bytes were put
pub numbered : (w : Width) (n : ℕ) {at next : ℕ} {before bytes after : List ℕ} → bytes ≡ to_le_bytes w n → Appended before at bytes after next
    → Appended before at (little_endian (byte_len w) n) after next
numbered w n e put = same_bytes (e ∙ le-bytes w n) put
