-- The C call over a range: the number returned, the answer area as it is left, and what is promised of it (document 02, C-14).
use Rattle.std.specs.Prelude.{◌≡◌, List, ◌++◌, ℕ, ℤ}
use Rattle.meaning.specs.Limits.{range_area_length, answer_half}
use Rattle.meaning.specs.Number.{little_endian, encode_signed, decode_signed}
use Rattle.meaning.specs.Reader.{ok}
use Rattle.meaning.specs.CCall.{Called, answer_into, number_in}
use Rattle.ranges.specs.ParameterRange.{ParameterRange}
use Rattle.ranges.specs.Extremes.{Extremes, extremes_found, extremes}
use Rattle.ranges.specs.RangePromise.{RangeAnswered}

-- a value as a number of 8 bytes, in two's complement
unfoldable pub value_bytes : ℤ → List ℕ
value_bytes value = little_endian 8 (encode_signed answer_half value)

-- least, the smallest value that gives it, most, the smallest value that gives it, visits: 8 bytes each
unfoldable pub extremes_bytes : Extremes → List ℕ
extremes_bytes e = little_endian 8 e.least ++ value_bytes e.least_at ++ little_endian 8 e.most ++ value_bytes e.most_at ++ little_endian 8 e.visits

-- the C call, in the order 9, then that of the library call over a range
unfoldable pub range_call : List ℕ → List ℤ → ℕ → ParameterRange → List ℕ → Called
range_call sheet parameters budget range area = answer_into range_area_length extremes_bytes area (extremes sheet parameters budget range)

-- the value that the 8 bytes at an offset of an area hold
unfoldable pub value_in : List ℕ → ℕ → ℤ
value_in area at = decode_signed answer_half (number_in area at)

-- the answer that an area holds
unfoldable pub extremes_stored : List ℕ → Extremes
extremes_stored area = extremes_found (number_in area 0) (value_in area 8) (number_in area 16) (value_in area 24) (number_in area 32)

-- where the call returned 0, the promise holds of the answer that the area holds
unfoldable pub RangeStored : List ℕ → List ℤ → ℕ → ParameterRange → ℕ → List ℕ → Type 0
RangeStored sheet parameters budget range number area = number ≡ 0 → RangeAnswered sheet parameters budget range (ok (extremes_stored area))
