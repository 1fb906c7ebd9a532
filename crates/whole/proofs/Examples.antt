-- Computed examples of the definitions.
use mathlib.Core.Path.{◌≡◌, refl}
use mathlib.Core.List.{[], ◌∷◌}
use mathlib.Core.Bool.{true, false}
use Prim.Native.Nat.{◌*◌}
use lib.IntN.{pos, negsuc, suc_ℤ}
use Rattle.whole.specs.Integer.{at_least_zero, floor_divide, floor_remainder, larger, divides, dot, subtract_lists}
use Rattle.whole.specs.Sum.{total, sum_to}
use Rattle.whole.specs.Degree.{◌⊞◌}
use Rattle.whole.specs.Newton.{choose, differences, newton_terms, newton_sum, values, weighted_differences, weight}

-- 7 ÷ 3, -1 ÷ 3, -3 ÷ 3 and -4 ÷ 3, rounded down
floor-seven : floor_divide (pos 7) 3 ≡ pos 2
unfolding floor_divide
floor-seven = refl

floor-minus-one : floor_divide (negsuc 0) 3 ≡ negsuc 0
unfolding floor_divide
floor-minus-one = refl

floor-minus-three : floor_divide (negsuc 2) 3 ≡ negsuc 0
unfolding floor_divide
floor-minus-three = refl

floor-minus-four : floor_divide (negsuc 3) 3 ≡ negsuc 1
unfolding floor_divide
floor-minus-four = refl

remainder-of-minus-four : floor_remainder (negsuc 3) 3 ≡ 2
unfolding floor_remainder
remainder-of-minus-four = refl

-- the multiples of 3 from 0 to 7 are 0, 3, 6; none is at most -1
three-multiples : at_least_zero (suc_ℤ (floor_divide (pos 7) 3)) ≡ 3
unfolding floor_divide
three-multiples = refl

no-multiple : at_least_zero (suc_ℤ (floor_divide (negsuc 0) 3)) ≡ 0
unfolding floor_divide
no-multiple = refl

larger-of-two : larger (negsuc 4) (pos 2) ≡ pos 2
larger-of-two = refl

three-divides-minus-six : divides 3 (negsuc 5) ≡ true
three-divides-minus-six = refl

three-does-not-divide-seven : divides 3 (pos 7) ≡ false
three-does-not-divide-seven = refl

-- the shorter list decides
dot-of-lists : dot (pos 2 ∷ negsuc 2 ∷ pos 9 ∷ []) (pos 5 ∷ pos 4 ∷ []) ≡ negsuc 1
dot-of-lists = refl

subtract-lists : subtract_lists (pos 2 ∷ []) (pos 5 ∷ pos 4 ∷ []) ≡ negsuc 2 ∷ negsuc 3 ∷ []
subtract-lists = refl

add-lists : (pos 2 ∷ []) ⊞ (pos 5 ∷ pos 4 ∷ []) ≡ pos 7 ∷ pos 4 ∷ []
unfolding ◌⊞◌
add-lists = refl

-- 0 + 1 + 4 + 9, and minus (-2 - 1)
sum-of-squares : total 4 (λ k. pos (k * k)) ≡ pos 14
unfolding total
sum-of-squares = refl

sum-to-a-negative-bound : sum_to (negsuc 1) (λ k. k) ≡ pos 3
unfolding sum_to
sum-to-a-negative-bound = refl

choose-five-two : choose 5 2 ≡ 10
unfolding choose
choose-five-two = refl

choose-two-five : choose 2 5 ≡ 0
unfolding choose
choose-two-five = refl

differences-of-squares : differences (pos 9 ∷ pos 4 ∷ pos 1 ∷ pos 0 ∷ []) ≡ negsuc 4 ∷ negsuc 2 ∷ negsuc 0 ∷ []
unfolding differences
differences-of-squares = refl

-- 0 + 1 + .. + 9 from two values, and 0 + 1 + 8 + .. + 9^3 from four
newton-of-line : newton_sum 10 (pos 0 ∷ pos 1 ∷ []) ≡ pos 45
unfolding newton_sum newton_terms differences choose
newton-of-line = refl

newton-of-cubes : newton_sum 10 (values 4 (λ k. pos (k * k * k))) ≡ pos 2025
unfolding newton_sum newton_terms differences choose values
newton-of-cubes = refl

-- two known values of four: the others have no effect
weights-of-two : weighted_differences (pos 0) (pos 1) (pos 7) (pos 7) (weight 10 2 1) (weight 10 2 2) (weight 10 2 3) (weight 10 2 4) ≡ pos 45
unfolding weighted_differences choose
weights-of-two = refl
