-- The Newton series of one arm's sums in the first trips, as words of 64 bits.
use Rattle.std.specs.Prelude.{ℕ, ◌^◌, cond, [], ◌∷◌, ℤ, pos, ◌+ℤ◌, ◌-ℤ◌, nat_lt, slice_index}
use Rattle.whole.specs.Integer.{floor_remainder}
use Rattle.ranking.specs.declared.series.Series.{Series}

-- the word of an order
abbrev pub word : Series → ℕ → ℕ
word s order = slice_index s.words order

-- the word in two's complement of a signed number of 64 bits, plus 2^63: such words, unsigned, compare as the numbers do
unfoldable pub rank : ℤ → ℕ
rank z = floor_remainder (z +ℤ pos (2 ^ 63)) (2 ^ 64)

-- that of the coefficient of an order, from `count` values: 0 where there are too few
abbrev pub rank_known : ℕ → ℕ → ℤ → ℕ
rank_known order count z = cond (nat_lt order count) (rank z) 0

-- the coefficient of order 1 of the series of a, b
abbrev pub first_difference : ℤ → ℤ → ℤ
first_difference a b = b -ℤ a

-- of order 2, of a, b, c
abbrev pub second_difference : ℤ → ℤ → ℤ → ℤ
second_difference a b c = first_difference b c -ℤ first_difference a b

-- of order 3, of a, b, c, d
abbrev pub third_difference : ℤ → ℤ → ℤ → ℤ → ℤ
third_difference a b c d = second_difference b c d -ℤ second_difference a b c

-- sums below this have coefficients that 64 bits hold, signed: those of an arm, which holds loops at most three deep, are below it
abbrev pub value_limit : ℕ
value_limit = 2 ^ 52

-- the series of the first `count` of four values
unfoldable pub series_of : ℕ → ℕ → ℕ → ℕ → ℕ → Series
series_of count a b c d = record {
  words =
      rank_known 0 count (pos a)
      ∷ rank_known 1 count (first_difference (pos a) (pos b))
      ∷ rank_known 2 count (second_difference (pos a) (pos b) (pos c))
      ∷ rank_known 3 count (third_difference (pos a) (pos b) (pos c) (pos d)) ∷ [];
}
