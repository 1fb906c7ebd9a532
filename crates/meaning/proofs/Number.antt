-- Numbers in bytes: writing and reading undo each other.
use mathlib.Core.Path.{◌≡◌, refl, ap, ◌∙◌}
use mathlib.Core.List.{List, [], ◌∷◌}
use mathlib.Core.Bool.{Bool, true, false, cond}
use Prim.Native.Nat.{ℕ, zero, suc, ◌+◌, ◌*◌, ◌-◌, ◌/◌, ◌%◌, ◌^◌, ◌≤◌, ◌<◌}
use native.Mathlib.Nat.{pow-suc}
use native.Mathlib.Omega.{arith}
use lib.IntN.{ℤ, pos, negsuc, ◌+ℤ◌}
use lib.ListN.{length, get_or, take, drop}
use lib.Dec.{T, ltb, ltb→lt}
use borrow.Author.Tests.{lt-ltb, le-ltb}
use Rattle.whole.proofs.Order.{subℕ-pos}
use Rattle.meaning.specs.Number.{unsigned, little_endian, decode_signed, encode_signed, has_pattern}

-- ---- bytes

-- every element is a byte
unfoldable pub Bytes : List ℕ → Type 0
Bytes [] = Unit {0}
Bytes (b ∷ bs) = (b < 256) × Bytes bs

pub bytes-get_d : (bs : List ℕ) → Bytes bs → (i : ℕ) → get_or bs i 0 < 256
unfolding Bytes
bytes-get_d [] h i = omega arith
bytes-get_d (b ∷ bs) (p, h) zero = p
bytes-get_d (b ∷ bs) (p, h) (suc i) = bytes-get_d bs h i

pub bytes_take : (n : ℕ) (bs : List ℕ) → Bytes bs → Bytes (take n bs)
unfolding Bytes
bytes_take zero bs h = tt
bytes_take (suc n) [] h = tt
bytes_take (suc n) (b ∷ bs) (p, h) = (p, bytes_take n bs h)

pub bytes_drop : (n : ℕ) (bs : List ℕ) → Bytes bs → Bytes (drop n bs)
unfolding Bytes
bytes_drop zero bs h = h
bytes_drop (suc n) [] h = tt
bytes_drop (suc n) (b ∷ bs) (p, h) = bytes_drop n bs h

-- ---- unsigned numbers

pub length-little_endian : (count n : ℕ) → length (little_endian count n) ≡ count
unfolding little_endian
length-little_endian zero n = refl
length-little_endian (suc count) n = ap suc (length-little_endian count (n / 256))

pub unsigned-little_endian : (count n : ℕ) → n < 256 ^ count → unsigned (little_endian count n) ≡ n
unfolding unsigned little_endian
unsigned-little_endian zero n h = omega arith
unsigned-little_endian (suc count) n h =
    let i = unsigned-little_endian count (n / 256) (omega (arith, pow-suc 256 count)) in omega arith

pub little_endian-unsigned : (bs : List ℕ) → Bytes bs → little_endian (length bs) (unsigned bs) ≡ bs
unfolding unsigned little_endian Bytes
little_endian-unsigned [] h = refl
little_endian-unsigned (b ∷ bs) (p, h) =
    let low : (b + 256 * unsigned bs) % 256 ≡ b = omega arith in
    let high : (b + 256 * unsigned bs) / 256 ≡ unsigned bs = omega arith in
    (λ t. low t ∷ little_endian (length bs) (high t)) ∙ ap (λ (x : List ℕ). b ∷ x) (little_endian-unsigned bs h)

pub unsigned-bound : (bs : List ℕ) → Bytes bs → unsigned bs < 256 ^ length bs
unfolding unsigned Bytes
unsigned-bound [] h = omega arith
unsigned-bound (b ∷ bs) (p, h) = let i = unsigned-bound bs h in omega (arith, pow-suc 256 (length bs))

-- ---- signed numbers

-- a pattern in the lower half is its own number, one in the upper half is a negative one
pub decoded-low : (half n : ℕ) → n < half → decode_signed half n ≡ pos n
unfolding decode_signed
decoded-low half n h = ap (λ (c : Bool). cond c (pos n) (negsuc (half + half - suc n))) (lt-ltb n half h)

pub decoded-high : (half n : ℕ) → half ≤ n → decode_signed half n ≡ negsuc (half + half - suc n)
unfolding decode_signed
decoded-high half n h = ap (λ (c : Bool). cond c (pos n) (negsuc (half + half - suc n))) (le-ltb n half h)

pub decode-encode : (half : ℕ) (z : ℤ) → T (has_pattern half z) → decode_signed half (encode_signed half z) ≡ z
unfolding encode_signed has_pattern
decode-encode half (pos n) t = decoded-low half n (ltb→lt n half t)
decode-encode half (negsuc n) t =
    let h = ltb→lt n half t in
    let e : half + half - suc (half + half - suc n) ≡ n = omega arith in
    decoded-high half (half + half - suc n) (omega arith) ∙ ap negsuc e

pub encode-decode : (half n : ℕ) → n < half + half → encode_signed half (decode_signed half n) ≡ n
unfolding encode_signed decode_signed
encode-decode half n h = go (ltb n half)
  where
    go : (c : Bool) → encode_signed half (cond c (pos n) (negsuc (half + half - suc n))) ≡ n
    go true = refl
    go false = omega arith

-- "in two's complement": a pattern in the upper half is half + half above its number
pub complement : (half n : ℕ) → half ≤ n → n < half + half → decode_signed half n +ℤ pos (half + half) ≡ pos n
complement half n upper short =
    let m : ℕ = half + half - suc n in
    let same : half + half - suc m ≡ n = omega arith in
    ap (λ (z : ℤ). z +ℤ pos (half + half)) (decoded-high half n upper) ∙ subℕ-pos (half + half) (suc m) (omega arith) ∙ ap pos same

-- a number that has a pattern has one of the half + half
pub encode-bound : (half : ℕ) (z : ℤ) → T (has_pattern half z) → encode_signed half z < half + half
unfolding encode_signed has_pattern
encode-bound half (pos n) t = omega (arith, ltb→lt n half t)
encode-bound half (negsuc n) t = omega (arith, ltb→lt n half t)
