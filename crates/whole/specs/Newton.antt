-- Newton's forward differences: equations 3 and 4 of document 003.
-- With φ_j the difference of order j at 0:  p(i) = Σ φ_j C(i, j)  and  p(0) + .. + p(n - 1) = Σ φ_j C(n, j + 1).
use Rattle.std.specs.Prelude.{◌≡◌, List, [], ◌∷◌, cond, ℕ, zero, suc, ◌+◌, ℤ, pos, ◌+ℤ◌, ◌-ℤ◌, ◌*ℤ◌, length, leb}

-- the binomial coefficient C(n, k), by Pascal's rule
unfoldable pub choose : ℕ → ℕ → ℕ
choose n zero = suc zero
choose zero (suc k) = zero
choose (suc n) (suc k) = choose n k + choose n (suc k)

-- each element's successor less the element
unfoldable pub differences : List ℤ → List ℤ
differences [] = []
differences (a ∷ []) = []
differences (a ∷ b ∷ rest) = (b -ℤ a) ∷ differences (b ∷ rest)

-- at most `count` terms: the first element times C(n, order + 1), and the same of the differences at the next order
unfoldable pub newton_terms : ℕ → ℕ → ℕ → List ℤ → ℤ
newton_terms zero n order p = pos zero
newton_terms (suc count) n order [] = pos zero
newton_terms (suc count) n order (a ∷ rest) = a *ℤ pos (choose n (suc order)) +ℤ newton_terms count n (suc order) (differences (a ∷ rest))

-- p(0) + .. + p(n - 1), from the list of p's first values
unfoldable pub newton_sum : ℕ → List ℤ → ℤ
newton_sum n p = newton_terms (length p) n 0 p

-- the list f 0, .., f (n - 1)
unfoldable pub values : ℕ → (ℕ → ℤ) → List ℤ
values zero f = []
values (suc n) f = f zero ∷ values n (λ k. f (suc k))

-- Newton's sum of four values with any weights in the place of C(n, 1) to C(n, 4), as code computes it: each difference is taken of the row before
unfoldable pub weighted_differences : ℤ → ℤ → ℤ → ℤ → ℕ → ℕ → ℕ → ℕ → ℤ
weighted_differences a b c d w1 w2 w3 w4 =
    a *ℤ pos w1 +ℤ ((b -ℤ a) *ℤ pos w2 +ℤ (((c -ℤ b) -ℤ (b -ℤ a)) *ℤ pos w3 +ℤ (((d -ℤ c) -ℤ (c -ℤ b)) -ℤ ((c -ℤ b) -ℤ (b -ℤ a))) *ℤ pos w4))

-- C(n, order) where that many values are known, otherwise 0: with these weights, values beyond the known ones have no effect
abbrev pub weight : ℕ → ℕ → ℕ → ℕ
weight n known order = cond (leb order known) (choose n order) 0

-- the difference of a sequence
abbrev pub difference : (ℕ → ℤ) → ℕ → ℤ
difference f k = f (suc k) -ℤ f k

-- all differences of this order are 0: the sequence is a polynomial of a smaller degree
unfoldable pub DifferencesVanish : ℕ → (ℕ → ℤ) → Type 0
DifferencesVanish zero f = (k : ℕ) → f k ≡ pos zero
DifferencesVanish (suc order) f = DifferencesVanish order (difference f)
