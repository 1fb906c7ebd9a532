-- What the calls that store a text or a sheet leave: the number returned, and the lent buffer and the answer area.
use Rattle.std.specs.Prelude.{List, ◌++◌, ℕ, length, take, drop}
use Rattle.meaning.specs.Limits.{length_size}
use Rattle.meaning.specs.Number.{unsigned, little_endian}
use Rattle.meaning.specs.Reader.{Result, ok, refused}

pub record Lent : Type 0 where
  pub number : ℕ
  pub buffer : List ℕ
  pub area : List ℕ

-- bytes go to the buffer's start and their length into the area, and all other bytes stay; a refusal writes nothing
unfoldable pub store_lent : List ℕ → List ℕ → Result (List ℕ) → Lent
store_lent buffer area (ok bytes) = record {
  number = 0;
  buffer = bytes ++ drop (length bytes) buffer;
  area = little_endian length_size (length bytes) ++ drop length_size area;
}
store_lent buffer area (refused number place) = record { number = number; buffer = buffer; area = area }

-- the bytes that a buffer and an area hold
unfoldable pub lent_in : List ℕ → List ℕ → List ℕ
lent_in buffer area = take (unsigned (take length_size area)) buffer
