-- A range of one parameter: its values, the parameters at each, and when it is refused 11 (document 02, C-14).
use Rattle.std.specs.Prelude.{List, Bool, ◌&&◌, ℕ, ◌-◌, ℤ, pos, ◌+ℤ◌, ◌-ℤ◌, ◌≤ℤ◌, leb, set}
use Rattle.std.proofs.Math.IntN.{suc_ℤ}
use Rattle.whole.specs.Integer.{at_least_zero}
use Rattle.meaning.specs.Limits.{parameter_factors, value_limit}

-- "Give parameter number, first and last value"
pub record ParameterRange : Type 0 where
  pub number : ℕ
  pub first : ℤ
  pub last : ℤ

abbrev pub parameter_range : ℕ → ℤ → ℤ → ParameterRange
parameter_range number first last = record { number = number; first = first; last = last }

-- a value of the range
pub record Within (range : ParameterRange) (value : ℤ) : Type 0 where
  pub from_first : range.first ≤ℤ value
  pub to_last : value ≤ℤ range.last

-- how many values there are; 0 where the first is above the last
unfoldable pub value_count : ParameterRange → ℕ
value_count range = at_least_zero (suc_ℤ (range.last -ℤ range.first))

-- value number k, counted from 0
unfoldable pub value_at : ParameterRange → ℕ → ℤ
value_at range k = range.first +ℤ pos k

-- the parameters with this value, "other parameters fixed"; the one that is given for the parameter itself is not looked at
unfoldable pub parameters_with : ParameterRange → List ℤ → ℤ → List ℤ
parameters_with range parameters value = set parameters (range.number - 1) value

abbrev pub parameters_at : ParameterRange → List ℤ → ℕ → List ℤ
parameters_at range parameters k = parameters_with range parameters (value_at range k)

-- 11 falls where this is false: "a parameter number outside 1 to 4, a first value above the last, or more than 256 values"
unfoldable pub range_allowed : ParameterRange → Bool
range_allowed range =
    leb 1 range.number && leb range.number parameter_factors && leb 1 (value_count range) && leb (value_count range) value_limit
