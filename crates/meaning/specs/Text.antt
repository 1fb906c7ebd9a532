-- Text as bytes: the characters' codes, and numbers in decimal.
use Rattle.std.specs.Prelude.{Bool, true, false, List, ℕ, zero, suc, ◌+◌, ◌/◌, ◌%◌, ltb}
use mathlib.Core.List as L
use Prim.Native.Char.{code}
use Prim.Native.String.{String, [], ◌∷◌}

-- the bytes of a text of ASCII characters
unfoldable pub text : String → List ℕ
text [] = L.[]
text (c ∷ s) = L.◌∷◌ (code c) (text s)

-- the character of a digit
abbrev pub digit : ℕ → ℕ
digit n = 48 + n

unfoldable pub last_digit : Bool → ℕ → (ℕ → List ℕ) → List ℕ
last_digit true n earlier = L.◌∷◌ (digit n) L.[]
last_digit false n earlier = L.◌++◌ (earlier (n / 10)) (L.◌∷◌ (digit (n % 10)) L.[])

-- at most so many digits of n, the highest first, with no zero before them
unfoldable pub digits : ℕ → ℕ → List ℕ
digits zero n = L.[]
digits (suc more) n = last_digit (ltb n 10) n (λ m. digits more m)

-- in decimal; 20 digits are enough for every number of 64 bits
unfoldable pub decimal : ℕ → List ℕ
decimal n = digits 20 n
