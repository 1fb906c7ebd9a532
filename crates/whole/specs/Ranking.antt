-- Ranking of sequences by the difference of their Newton series: document 003, section 4.
use Rattle.std.specs.Prelude.{List, [], ◌∷◌, Bool, true, ◌&&◌, ℕ, zero, suc, ℤ, pos, length}
use Rattle.std.specs.Int.Signed.{le_z}
use Rattle.whole.specs.Integer.{subtract_lists}
use Rattle.whole.specs.Newton.{differences}

-- at most `count` coefficients: the first element, and those of the differences
unfoldable pub coefficients : ℕ → List ℤ → List ℤ
coefficients zero p = []
coefficients (suc count) [] = []
coefficients (suc count) (a ∷ rest) = a ∷ coefficients count (differences (a ∷ rest))

-- the Newton series of a sequence, from the list of its first values
unfoldable pub newton_series : List ℤ → List ℤ
newton_series p = coefficients (length p) p

unfoldable pub none_negative : List ℤ → Bool
none_negative [] = true
none_negative (z ∷ zs) = le_z (pos zero) z && none_negative zs

unfoldable pub none_positive : List ℤ → Bool
none_positive [] = true
none_positive (z ∷ zs) = le_z z (pos zero) && none_positive zs

-- the difference series (document 003, definition 4.1) of p and q has no negative coefficient
unfoldable pub dominates : List ℤ → List ℤ → Bool
dominates p q = none_negative (subtract_lists (newton_series p) (newton_series q))

-- it has no positive one
unfoldable pub dominated : List ℤ → List ℤ → Bool
dominated p q = none_positive (subtract_lists (newton_series p) (newton_series q))
