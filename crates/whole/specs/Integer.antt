-- Integers: division that rounds down, the larger and the smaller of two, divisibility, and sums of products.
use Rattle.std.specs.Prelude.{List, [], ◌∷◌, Bool, cond, ℕ, zero, suc, ◌-◌, ◌/◌, ◌%◌, ℤ, pos, negsuc, neg_ℤ, nat_abs, ◌+ℤ◌, ◌-ℤ◌, ◌*ℤ◌, eqb}
use Rattle.std.specs.Int.Signed.{le_z}

-- max(0, z)
abbrev pub at_least_zero : ℤ → ℕ
at_least_zero (pos n) = n
at_least_zero (negsuc n) = zero

-- d ÷ s, rounded down; `negsuc n` is -(n + 1)
unfoldable pub floor_divide : ℤ → ℕ → ℤ
floor_divide (pos n) s = pos (n / s)
floor_divide (negsuc n) s = negsuc (n / s)

-- what floor_divide leaves, from 0 to s - 1: also the one residue of d modulo s in that range
unfoldable pub floor_remainder : ℤ → ℕ → ℕ
floor_remainder (pos n) s = n % s
floor_remainder (negsuc n) s = s - suc (n % s)

-- the larger of two integers
abbrev pub larger : ℤ → ℤ → ℤ
larger a b = cond (le_z a b) b a

-- the smaller of two integers
abbrev pub smaller : ℤ → ℤ → ℤ
smaller a b = cond (le_z a b) a b

-- whether s divides z
abbrev pub divides : ℕ → ℤ → Bool
divides s z = eqb (nat_abs z % s) zero

-- the sum of the products of two lists' elements, as far as both lists go
abbrev pub dot : List ℤ → List ℤ → ℤ
dot [] ys = pos zero
dot (x ∷ xs) [] = pos zero
dot (x ∷ xs) (y ∷ ys) = x *ℤ y +ℤ dot xs ys

-- element by element, the first list less the second; a missing element is 0
abbrev pub subtract_lists : List ℤ → List ℤ → List ℤ
subtract_lists [] [] = []
subtract_lists [] (y ∷ ys) = neg_ℤ y ∷ subtract_lists [] ys
subtract_lists (x ∷ xs) [] = x ∷ xs
subtract_lists (x ∷ xs) (y ∷ ys) = (x -ℤ y) ∷ subtract_lists xs ys
