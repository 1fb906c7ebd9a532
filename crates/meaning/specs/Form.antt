-- Forms: a constant, factors of the enclosing loops' indexes, factors of the parameters.
use Rattle.std.specs.Prelude.{List, [], ◌∷◌, ◌++◌, map, Bool, true, false, ◌&&◌, ℕ, zero, suc, ◌+◌, ℤ, pos, negsuc, ◌+ℤ◌, ◌-ℤ◌, eqb, length, drop}
use Rattle.whole.specs.Integer.{dot, subtract_lists}
use Rattle.meaning.specs.Limits.{constant_half, factor_half, index_factors, parameter_factors}
use Rattle.meaning.specs.Number.{little_endian, encode_signed, has_pattern, signed16, signed8}

-- document 01: form. `index` has the factors of the indexes at depths 1, 2, 3, `parameter` those of parameters 1 to 4.
pub record Form : Type 0 where
  pub constant : ℤ
  pub index : List ℤ
  pub parameter : List ℤ

-- the form in the nine bytes of a body from an offset on
unfoldable pub form_at : List ℕ → ℕ → Form
form_at body at = record {
  constant = signed16 body at;
  index = signed8 body (at + 2) ∷ signed8 body (at + 3) ∷ signed8 body (at + 4) ∷ [];
  parameter = signed8 body (at + 5) ∷ signed8 body (at + 6) ∷ signed8 body (at + 7) ∷ signed8 body (at + 8) ∷ [];
}

-- its nine bytes
unfoldable pub form_bytes : Form → List ℕ
form_bytes f =
    little_endian 2 (encode_signed constant_half f.constant) ++ map (encode_signed factor_half) f.index ++ map (encode_signed factor_half) f.parameter

unfoldable pub is_zero : ℤ → Bool
is_zero (pos zero) = true
is_zero (pos (suc n)) = false
is_zero (negsuc n) = false

unfoldable pub all_zero : List ℤ → Bool
all_zero [] = true
all_zero (x ∷ xs) = is_zero x && all_zero xs

-- each factor has a pattern of 8 bits
unfoldable pub factors_fit : List ℤ → Bool
factors_fit [] = true
factors_fit (x ∷ xs) = has_pattern factor_half x && factors_fit xs

-- "A factor of a depth that does not enclose the loop is 0": a form of a loop that `depth` loops enclose. The other tests say that
-- the form has its nine bytes.
unfoldable pub form_in_range : ℕ → Form → Bool
form_in_range depth f =
    all_zero (drop depth f.index) && has_pattern constant_half f.constant
    && eqb (length f.index) index_factors && factors_fit f.index
    && eqb (length f.parameter) parameter_factors && factors_fit f.parameter

-- the form's value at the parameters and the indexes of the enclosing loops, outermost first
unfoldable pub value : List ℤ → Form → List ℤ → ℤ
value parameters f indexes = f.constant +ℤ dot f.parameter parameters +ℤ dot f.index indexes

-- one form less another, as one form
unfoldable pub subtract : Form → Form → Form
subtract f g = record {
  constant = f.constant -ℤ g.constant;
  index = subtract_lists f.index g.index;
  parameter = subtract_lists f.parameter g.parameter;
}
