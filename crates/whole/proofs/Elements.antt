-- A list of a known length is the list of its elements.
use mathlib.Core.Path.{◌≡◌, refl, ap}
use mathlib.Core.List.{List, [], ◌∷◌}
use Prim.Native.Nat.{ℕ, zero, suc}
use native.Mathlib.Omega.{arith}
use lib.ListN.{length, get_or}

-- f 0, .., f (n - 1), written out where n is a numeral
abbrev pub table : {A : Type 0} → ℕ → (ℕ → A) → List A
table zero f = []
table (suc n) f = f 0 ∷ table n (λ i. f (suc i))

pub elements : {A : Type 0} (n : ℕ) (xs : List A) (d : A) → length xs ≡ n → table n (λ i. get_or xs i d) ≡ xs
elements zero [] d e = refl
elements zero (x ∷ xs) d e = absurd (omega arith)
elements (suc n) [] d e = absurd (omega arith)
elements {A} (suc n) (x ∷ xs) d e = ap (λ (y : List A). x ∷ y) (elements n xs d (omega arith))
