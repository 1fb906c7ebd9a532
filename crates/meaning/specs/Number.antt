-- Numbers in bytes: the low byte first, signed ones in two's complement.
use Rattle.std.specs.Prelude.{List, [], ◌∷◌, Bool, cond, ℕ, zero, suc, ◌+◌, ◌*◌, ◌-◌, ◌/◌, ◌%◌, ℤ, pos, negsuc, ltb, get_or}
use Rattle.std.specs.Int.Signed.{mag}

-- the number that the bytes hold
unfoldable pub unsigned : List ℕ → ℕ
unsigned [] = zero
unsigned (b ∷ bs) = b + 256 * unsigned bs

-- the number in so many bytes
unfoldable pub little_endian : ℕ → ℕ → List ℕ
little_endian zero n = []
little_endian (suc count) n = n % 256 ∷ little_endian count (n / 256)

-- two's complement of half + half patterns: those from half on stand for the negative numbers
unfoldable pub decode_signed : ℕ → ℕ → ℤ
decode_signed half n = cond (ltb n half) (pos n) (negsuc (half + half - suc n))

unfoldable pub encode_signed : ℕ → ℤ → ℕ
encode_signed half (pos n) = n
encode_signed half (negsuc n) = half + half - suc n

-- the number has a pattern: it lies from minus half to half less 1
unfoldable pub has_pattern : ℕ → ℤ → Bool
has_pattern half z = ltb (mag z) half

-- fields at an offset of a body
unfoldable pub unsigned16 : List ℕ → ℕ → ℕ
unsigned16 body at = unsigned (get_or body at 0 ∷ get_or body (at + 1) 0 ∷ [])

unfoldable pub signed16 : List ℕ → ℕ → ℤ
signed16 body at = decode_signed 32768 (unsigned16 body at)

unfoldable pub signed8 : List ℕ → ℕ → ℤ
signed8 body at = decode_signed 128 (get_or body at 0)
