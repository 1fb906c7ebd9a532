-- Newton's forward differences: a sequence whose differences of some order vanish is its series (equation 3 of document 003), and so is its sum (equation 4).
use mathlib.Core.Path.{◌≡◌, refl, sym, ◌∙◌, ap, ap₂, subst, fun_ext}
use mathlib.Core.Logic.{◌⊎◌, inl, inr}
use mathlib.Core.List.{List, [], ◌∷◌, ◌++◌}
use Prim.Native.Nat.{ℕ, zero, suc, ◌≤◌, ◌<◌}
use native.Mathlib.Omega.{arith}
use native.Mathlib.Numerals.{add-one}
use lib.IntN.{ℤ, pos, ◌+ℤ◌, ◌-ℤ◌, ◌*ℤ◌, +ℤ_comm, +ℤ_idr, *ℤ-zero, +ℤ_invr, -ℤ-+ℤ_cancel}
use lib.ListN.{length, take}
use Rattle.whole.specs.Sum.{total}
use Rattle.whole.specs.Degree.{Degree, ◌⊞◌}
use Rattle.whole.specs.Newton.{choose, differences, newton_terms, newton_sum, values, weighted_differences, weight, difference, DifferencesVanish}
use Rattle.whole.proofs.Ring.{*ℤ-+ℤ, medial, left_comm, times-one}
use Rattle.whole.proofs.Sum.{total-extensional}
use Rattle.whole.proofs.Choose.{choose_one}

-- ---- the series of a sequence

-- f 0 · C(n, k) + (difference f) 0 · C(n, k + 1) + .. , `count` terms
unfoldable pub series : ℕ → ℕ → ℕ → (ℕ → ℤ) → ℤ
series zero k n f = pos zero
series (suc count) k n f = f zero *ℤ pos (choose n k) +ℤ series count (suc k) n (difference f)

-- Pascal's rule, term by term
series-suc : (count k n : ℕ) (f : ℕ → ℤ) → series count (suc k) (suc n) f ≡ series count k n f +ℤ series count (suc k) n f
unfolding series choose
series-suc zero k n f = refl
series-suc (suc count) k n f =
    ap₂ ◌+ℤ◌ (*ℤ-+ℤ (f zero) (pos (choose n k)) (pos (choose n (suc k)))) (series-suc count (suc k) n (difference f))
    ∙ medial (f zero *ℤ pos (choose n k)) (f zero *ℤ pos (choose n (suc k))) (series count (suc k) n (difference f))
    (series count (suc (suc k)) n (difference f))

series-zero : (count k : ℕ) (f : ℕ → ℤ) → series count (suc k) zero f ≡ pos zero
unfolding series choose
series-zero zero k f = refl
series-zero (suc count) k f = ap₂ ◌+ℤ◌ (*ℤ-zero (f zero)) (series-zero count (suc k) (difference f))

-- at the next argument, the series grows by the series of the difference
series-first : (count n : ℕ) (f : ℕ → ℤ) → series (suc count) zero (suc n) f ≡ series count zero n (difference f) +ℤ series (suc count) zero n f
unfolding series choose
series-first count n f =
    ap (λ (z : ℤ). f zero *ℤ pos 1 +ℤ z) (series-suc count zero n (difference f))
    ∙ left_comm (f zero *ℤ pos 1) (series count zero n (difference f)) (series count (suc zero) n (difference f))

-- equation 3: the value, where it is among the first ones or the differences vanish
pub series-value : (n count : ℕ) (f : ℕ → ℤ) → (n < count) ⊎ DifferencesVanish count f → series count zero n f ≡ f n
unfolding series choose DifferencesVanish
series-value n zero f (inl h) = absurd (omega arith)
series-value n zero f (inr h) = sym (h n)
series-value zero (suc count) f premise = ap₂ ◌+ℤ◌ (times-one (f zero)) (series-zero count zero (difference f)) ∙ +ℤ_idr (f zero)
series-value (suc n) (suc count) f (inl h) =
    series-first count n f
    ∙ ap₂ ◌+ℤ◌ (series-value n count (difference f) (inl (omega arith))) (series-value n (suc count) f (inl (omega arith)))
    ∙ -ℤ-+ℤ_cancel (f (suc n)) (f n)
series-value (suc n) (suc count) f (inr h) =
    series-first count n f
    ∙ ap₂ ◌+ℤ◌ (series-value n count (difference f) (inr h)) (series-value n (suc count) f (inr h))
    ∙ -ℤ-+ℤ_cancel (f (suc n)) (f n)

-- equation 4: the sum
pub series-sum : (n count : ℕ) (f : ℕ → ℤ) → (n ≤ count) ⊎ DifferencesVanish count f → series count (suc zero) n f ≡ total n f
unfolding total
series-sum zero count f premise = series-zero count zero f
series-sum (suc n) count f premise =
    series-suc count zero n f
    ∙ ap₂ ◌+ℤ◌ (series-value n count f premise) (series-sum n count f (fewer premise))
    ∙ +ℤ_comm (f n) (total n f)
  where
    fewer : (suc n ≤ count) ⊎ DifferencesVanish count f → (n ≤ count) ⊎ DifferencesVanish count f
    fewer (inl h) = inl (omega arith)
    fewer (inr h) = inr h

-- ---- the same from a list of values

pub values_length : (n : ℕ) (f : ℕ → ℤ) → length (values n f) ≡ n
unfolding values
values_length zero f = refl
values_length (suc n) f = ap suc (values_length n (λ k. f (suc k)))

pub values-extensional : (n : ℕ) (f g : ℕ → ℤ) → ((k : ℕ) → k < n → f k ≡ g k) → values n f ≡ values n g
unfolding values
values-extensional zero f g h = refl
values-extensional (suc n) f g h = ap₂ ◌∷◌ (h 0 (omega arith)) (values-extensional n (λ k. f (suc k)) (λ k. g (suc k)) (λ k i. h (suc k) (omega arith)))

pub values-append-one : (n : ℕ) (f : ℕ → ℤ) → values (suc n) f ≡ values n f ++ (f n ∷ [])
unfolding values
values-append-one zero f = refl
values-append-one (suc n) f = ap (λ (p : List ℤ). f zero ∷ p) (values-append-one n (λ k. f (suc k)))

pub values-differences : (n : ℕ) (f : ℕ → ℤ) → differences (values (suc n) f) ≡ values n (difference f)
unfolding values differences
values-differences zero f = refl
values-differences (suc n) f = ap (λ (p : List ℤ). difference f zero ∷ p) (values-differences n (λ k. f (suc k)))

values-series : (count n order : ℕ) (f : ℕ → ℤ) → newton_terms count n order (values count f) ≡ series count (suc order) n f
unfolding values newton_terms series
values-series zero n order f = refl
values-series (suc count) n order f = ap (λ (z : ℤ). f zero *ℤ pos (choose n (suc order)) +ℤ z)
    (ap (newton_terms count n (suc order)) (values-differences count f) ∙ values-series count n (suc order) (difference f))

newton-values : (n count : ℕ) (f : ℕ → ℤ) → (n ≤ count) ⊎ DifferencesVanish count f → newton_sum n (values count f) ≡ total n f
unfolding newton_sum
newton-values n count f premise =
    ap (λ (m : ℕ). newton_terms m n 0 (values count f)) (values_length count f) ∙ values-series count n 0 f ∙ series-sum n count f premise

-- The sum of n values of f from the first `visited`: all are visited, or f is on 0 .. n - 1 a g of degree below `visited`.
pub newton-sum : (n visited : ℕ) (f g : ℕ → ℤ) → visited ≤ n → ((k : ℕ) → k < n → f k ≡ g k)
    → (n ≤ visited) ⊎ DifferencesVanish visited g → newton_sum n (values visited f) ≡ total n f
newton-sum n visited f g fits same (inl all) = newton-values n visited f (inl all)
newton-sum n visited f g fits same (inr vanish) =
    ap (newton_sum n) (values-extensional visited f g (λ k i. same k (omega arith)))
    ∙ newton-values n visited g (inr vanish) ∙ sym (total-extensional n f g same)

-- ---- where the differences vanish

-- of degree h in one counter: the differences of order h + 1 vanish
pub degree-vanish : (h : ℕ) (F : List ℤ → ℤ) → Degree ◌⊞◌ h F → DifferencesVanish (suc h) (λ k. F (pos k ∷ []))
unfolding Degree DifferencesVanish ◌⊞◌
degree-vanish zero F d =
    λ k. ap (λ (z : ℤ). z -ℤ F (pos k ∷ [])) (ap (λ (m : ℕ). F (pos m ∷ [])) (sym (add-one k)) ∙ d (pos k ∷ []) (pos 1 ∷ [])) ∙ +ℤ_invr (F (pos k ∷ []))
degree-vanish (suc h) F d = subst (DifferencesVanish (suc h)) (fun_ext (λ k. ap (λ (m : ℕ). F (pos m ∷ []) -ℤ F (pos k ∷ [])) (add-one k)))
    (degree-vanish h (λ c. F (c ⊞ (pos 1 ∷ [])) -ℤ F c) (d (pos 1 ∷ [])))

-- ---- the sum of up to four values, as code computes it: each difference is taken of the row before

newton_sum-none : (n : ℕ) → newton_sum n [] ≡ pos zero
unfolding newton_sum newton_terms
newton_sum-none n = refl

pub newton_sum-one : (n : ℕ) (a : ℤ) → newton_sum n (a ∷ []) ≡ a *ℤ pos n
unfolding newton_sum newton_terms differences
newton_sum-one n a = +ℤ_idr (a *ℤ pos (choose n 1)) ∙ ap (λ (m : ℕ). a *ℤ pos m) (choose_one n)

pub newton_sum-two : (n : ℕ) (a b : ℤ) → newton_sum n (a ∷ b ∷ []) ≡ a *ℤ pos n +ℤ (b -ℤ a) *ℤ pos (choose n 2)
unfolding newton_sum newton_terms differences
newton_sum-two n a b =
    ap₂ ◌+ℤ◌ (ap (λ (m : ℕ). a *ℤ pos m) (choose_one n)) (+ℤ_idr ((b -ℤ a) *ℤ pos (choose n 2)))

pub newton_sum-three : (n : ℕ) (a b c : ℤ)
    → newton_sum n (a ∷ b ∷ c ∷ []) ≡ a *ℤ pos n +ℤ ((b -ℤ a) *ℤ pos (choose n 2) +ℤ ((c -ℤ b) -ℤ (b -ℤ a)) *ℤ pos (choose n 3))
unfolding newton_sum newton_terms differences
newton_sum-three n a b c =
    ap₂ ◌+ℤ◌ (ap (λ (m : ℕ). a *ℤ pos m) (choose_one n))
    (ap (λ (z : ℤ). (b -ℤ a) *ℤ pos (choose n 2) +ℤ z) (+ℤ_idr (((c -ℤ b) -ℤ (b -ℤ a)) *ℤ pos (choose n 3))))

pub newton_sum-four : (n : ℕ) (a b c d : ℤ)
    → newton_sum n (a ∷ b ∷ c ∷ d ∷ []) ≡ a *ℤ pos n +ℤ ((b -ℤ a) *ℤ pos (choose n 2) +ℤ (((c -ℤ b) -ℤ (b -ℤ a)) *ℤ pos (choose n 3)
    +ℤ (((d -ℤ c) -ℤ (c -ℤ b)) -ℤ ((c -ℤ b) -ℤ (b -ℤ a))) *ℤ pos (choose n 4)))
unfolding newton_sum newton_terms differences
newton_sum-four n a b c d =
    ap₂ ◌+ℤ◌ (ap (λ (m : ℕ). a *ℤ pos m) (choose_one n)) (ap (λ (z : ℤ). (b -ℤ a) *ℤ pos (choose n 2) +ℤ (((c -ℤ b) -ℤ (b -ℤ a)) *ℤ pos (choose n 3) +ℤ z))
    (+ℤ_idr ((((d -ℤ c) -ℤ (c -ℤ b)) -ℤ ((c -ℤ b) -ℤ (b -ℤ a))) *ℤ pos (choose n 4))))

-- with four values of which the first `known` count, as code holds them
pub newton_sum-padded : (n known : ℕ) (a b c d : ℤ) → known ≤ 4 →
    newton_sum n (take known (a ∷ b ∷ c ∷ d ∷ [])) ≡ weighted_differences a b c d (weight n known 1) (weight n known 2) (weight n known 3) (weight n known 4)
unfolding weighted_differences
newton_sum-padded n zero a b c d h = simp (newton_sum-none, *ℤ-zero, +ℤ_idr)
newton_sum-padded n (suc zero) a b c d h = simp (newton_sum-one, choose_one, *ℤ-zero, +ℤ_idr)
newton_sum-padded n (suc (suc zero)) a b c d h = simp (newton_sum-two, choose_one, *ℤ-zero, +ℤ_idr)
newton_sum-padded n (suc (suc (suc zero))) a b c d h = simp (newton_sum-three, choose_one, *ℤ-zero, +ℤ_idr)
newton_sum-padded n (suc (suc (suc (suc zero)))) a b c d h = simp (newton_sum-four, choose_one)
newton_sum-padded n (suc (suc (suc (suc (suc known))))) a b c d h = absurd (omega arith)
