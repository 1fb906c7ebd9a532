-- The sum of a loop's trips from those visited: where the rest is summed by Newton's forward differences (document 003, equations 3 and 4).
use Rattle.std.specs.Prelude.{List, [], ◌∷◌, ◌++◌, map, Bool, true, false, ℕ, zero, suc, ℤ, pos}
use Rattle.whole.specs.Integer.{at_least_zero}
use Rattle.whole.specs.Newton.{newton_sum}
use Rattle.meaning.specs.Time.{Bounds, bounds, exactly, ◌⊕◌}

abbrev pub leasts : List Bounds → List ℤ
leasts sums = map (λ b. pos b.least) sums

abbrev pub mosts : List Bounds → List ℤ
mosts sums = map (λ b. pos b.most) sums

-- f 0, .., f (n - 1)
unfoldable pub first_sums : {A : Type 0} → ℕ → (ℕ → A) → List A
first_sums zero f = []
first_sums (suc n) f = first_sums n f ++ (f n ∷ [])

-- the sum of n trips from the sums of the first ones
unfoldable pub closed_sum : ℕ → List Bounds → Bounds
closed_sum n sums = bounds (at_least_zero (newton_sum n (leasts sums))) (at_least_zero (newton_sum n (mosts sums)))

unfoldable pub add_all : List Bounds → Bounds
add_all [] = exactly zero
add_all (b ∷ bs) = b ⊕ add_all bs

-- the sum of n trips from the visited ones that are kept: by the differences, or where all are visited trip by trip
unfoldable pub loop_sum : Bool → ℕ → List Bounds → Bounds
loop_sum true n sums = closed_sum n sums
loop_sum false n sums = add_all sums

-- the visited trips that are kept, with one more: each of them, or only their sum
unfoldable pub add_trip : Bool → List Bounds → Bounds → List Bounds
add_trip true sums trip = sums ++ (trip ∷ [])
add_trip false sums trip = (add_all sums ⊕ trip) ∷ []
