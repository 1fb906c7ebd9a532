-- The weights of a closed loop's known values, and the sum that they give, as the code's struct and array hold them.
use Rattle.std.specs.Prelude.{ℕ, ◌^◌, List, [], ◌∷◌, ℤ, pos, ◌-ℤ◌, slice_index}
use Rattle.whole.specs.Integer.{floor_remainder}
use Rattle.whole.specs.Newton.{weight, weighted_differences}
use Rattle.newton.specs.declared.Weights.{Weights}

-- C(n, 1) to C(n, 4), of which those past the known values are 0
unfoldable pub weights_of : ℕ → ℕ → Weights
weights_of n known = record { one = weight n known 1; two = weight n known 2; three = weight n known 3; four = weight n known 4 }

-- a number as a word of 64 bits
abbrev pub word_of : ℤ → ℕ
word_of z = floor_remainder z (2 ^ 64)

-- of four values the first, and the first of their differences of orders 1 to 3: each difference is taken of the row before
abbrev pub rows_begin : ℤ → ℤ → ℤ → ℤ → List ℕ
rows_begin a b c d =
    word_of a ∷ word_of (b -ℤ a) ∷ word_of ((c -ℤ b) -ℤ (b -ℤ a)) ∷ word_of (((d -ℤ c) -ℤ (c -ℤ b)) -ℤ ((c -ℤ b) -ℤ (b -ℤ a))) ∷ []

unfoldable pub differences_of : List ℕ → List ℕ
differences_of p = rows_begin (pos (slice_index p 0)) (pos (slice_index p 1)) (pos (slice_index p 2)) (pos (slice_index p 3))

-- the first differences of four values, each times its weight
unfoldable pub weighted_sum : Weights → List ℕ → ℤ
weighted_sum w p =
    weighted_differences (pos (slice_index p 0)) (pos (slice_index p 1)) (pos (slice_index p 2)) (pos (slice_index p 3)) w.one w.two w.three w.four
