-- The C call: the number returned, and the answer area as it is left.
use Rattle.std.specs.Prelude.{List, ◌++◌, ℕ, ℤ, leb, length, take, drop}
use Rattle.meaning.specs.Limits.{area_length}
use Rattle.meaning.specs.Number.{unsigned, little_endian}
use Rattle.meaning.specs.Reader.{Result, ok, refused, require}
use Rattle.meaning.specs.Answer.{Figures, figures, answer}

pub record Called : Type 0 where
  pub number : ℕ
  pub area : List ℕ

-- "The area takes least, most, visits, 8 bytes each"
unfoldable pub area_bytes : Figures → List ℕ
area_bytes f = little_endian 8 f.least ++ little_endian 8 f.most ++ little_endian 8 f.visits

-- bytes past area_length never change; a refusal writes nothing
unfoldable pub store_answer : List ℕ → Result Figures → Called
store_answer area (ok f) = record { number = 0; area = area_bytes f ++ drop area_length area }
store_answer area (refused number place) = record { number = number; area = area }

-- document 01: the C call, in the order 9, then that of the library call
unfoldable pub c_call : List ℕ → List ℤ → ℕ → List ℕ → Called
c_call sheet parameters budget area = store_answer area (require (leb area_length (length area)) 9 0 (answer sheet parameters budget))

-- the figures that an area holds
unfoldable pub figures_in : List ℕ → Figures
figures_in area = figures (unsigned (take 8 area)) (unsigned (take 8 (drop 8 area))) (unsigned (take 8 (drop 16 area)))

-- Of a call that fills an answer area with an answer of `size` bytes, as that over a range does, and these are its bytes.
module _ {A : Type 0} (size : ℕ) (bytes : A → List ℕ) where
  -- bytes past the answer's never change; a refusal writes nothing
  unfoldable pub fill_area : List ℕ → Result A → Called
  fill_area area (ok a) = record { number = 0; area = bytes a ++ drop size area }
  fill_area area (refused number place) = record { number = number; area = area }

  -- 9 for an area that is too short, then what the library call answers
  unfoldable pub answer_into : List ℕ → Result A → Called
  answer_into area r = fill_area area (require (leb size (length area)) 9 0 r)

-- the number of 8 bytes at an offset of an area
unfoldable pub number_in : List ℕ → ℕ → ℕ
number_in area at = unsigned (take 8 (drop at area))
