-- Numbers stored one after another in an array.
use Rattle.std.specs.Prelude.{List, [], ◌∷◌, ◌++◌, ℕ, length, drop, replicate}

-- the numbers of each element, element after element
unfoldable pub joined : {A : Type 0} → (A → List ℕ) → List A → List ℕ
joined numbers [] = []
joined numbers (x ∷ xs) = numbers x ++ joined numbers xs

-- an array into which numbers are stored from its start on; what follows them stays
unfoldable pub stored_in : List ℕ → List ℕ → List ℕ
stored_in before numbers = numbers ++ drop (length numbers) before

-- an array of so many zeros with the numbers in it
abbrev pub array_of : ℕ → List ℕ → List ℕ
array_of n numbers = stored_in (replicate n 0) numbers
