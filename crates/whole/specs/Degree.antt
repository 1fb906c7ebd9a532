-- Degree by differences, for functions of points that can be added, and the points that the counters of loops make.
use Rattle.std.specs.Prelude.{◌≡◌, List, [], ◌∷◌, map, ℕ, zero, suc, ℤ, pos, ◌+ℤ◌, ◌-ℤ◌, ◌*ℤ◌}

-- at most the given degree, where `add` adds points: degree 0 is constant, degree d + 1 has all first differences of degree d
unfoldable pub Degree : {X : Type 0} → (X → X → X) → ℕ → (X → ℤ) → Type 0
Degree {X} add zero f = (x v : X) → f (add x v) ≡ f x
Degree {X} add (suc d) f = (v : X) → Degree add d (λ x. f (add x v) -ℤ f x)

infixl 6 ◌⊞◌
-- lists of counters added element by element; a missing counter is 0
unfoldable pub ◌⊞◌ : List ℤ → List ℤ → List ℤ
[] ⊞ ys = ys
(x ∷ xs) ⊞ [] = x ∷ xs
(x ∷ xs) ⊞ (y ∷ ys) = (x +ℤ y) ∷ (xs ⊞ ys)

-- each counter multiplied
abbrev pub times : ℤ → List ℤ → List ℤ
times q xs = map (λ x. q *ℤ x) xs

-- the first counter, 0 if there is none
unfoldable pub first_of : List ℤ → ℤ
first_of [] = pos zero
first_of (x ∷ xs) = x

-- the counters after the first
unfoldable pub rest_of : List ℤ → List ℤ
rest_of [] = []
rest_of (x ∷ xs) = xs
