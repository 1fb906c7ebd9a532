-- A sequence whose Newton series dominates another's is nowhere below it: lemma 4.2 of document 003; and that one is dominated.
use mathlib.Core.Path.{◌≡◌, refl, sym, ap, ap₂, ◌∙◌, subst}
use mathlib.Core.Logic.{◌⊎◌, inl, inr}
use mathlib.Core.Bool.{Bool, true, false, ◌&&◌}
use mathlib.Core.List.{List, [], ◌∷◌}
use Prim.Native.Nat.{ℕ, zero, suc, ◌≤◌, ◌<◌}
use native.Mathlib.Omega.{arith}
use lib.IntN.{ℤ, pos, neg_ℤ, ◌-ℤ◌, ◌*ℤ◌, *ℤ_comm, +ℤ_idr, neg_ℤ-+ℤ}
use lib.Signed.{le_z}
use lib.Dec.{T}
use lib.ListN.{length}
use Rattle.whole.specs.Integer.{subtract_lists}
use Rattle.whole.specs.Newton.{choose, values, difference, DifferencesVanish}
use Rattle.whole.specs.Ranking.{coefficients, newton_series, none_negative, none_positive, dominates, dominated}
use Rattle.whole.proofs.Ring.{neg-sub-neg}
use Rattle.whole.proofs.Dot.{subtract-nil}
use Rattle.whole.proofs.Order.{le_z-neg, AtMost, le_z→AtMost, AtMost-refl, AtMost-add, AtMost-scale-pos, AtMost-restore}
use Rattle.whole.proofs.Newton.{series, series-value, values_length, values-extensional, values-differences}

both : (a b : Bool) → T (a && b) → T a × T b
both true b t = (tt, t)
both false b t = absurd t

-- the coefficients of a sequence: its first value, and those of its difference
pub coefficients-values : (count : ℕ) (f : ℕ → ℤ) → coefficients (suc count) (values (suc count) f) ≡ f zero ∷ coefficients count (values count (difference f))
unfolding coefficients values
coefficients-values count f = ap (λ (p : List ℤ). f zero ∷ coefficients count p) (values-differences count f)

AtMost-scale : (c : ℕ) (a b : ℤ) → AtMost a b → AtMost (a *ℤ pos c) (b *ℤ pos c)
AtMost-scale c a b h = subst (λ (z : ℤ). AtMost z (b *ℤ pos c)) (*ℤ_comm (pos c) a) (subst (AtMost (pos c *ℤ a)) (*ℤ_comm (pos c) b) (AtMost-scale-pos c a b h))

-- term by term
dominated-series : (count k n : ℕ) (f g : ℕ → ℤ) → T (none_negative (subtract_lists (coefficients count (values count f)) (coefficients count (values count g)))) →
    AtMost (series count k n g) (series count k n f)
unfolding series none_negative
dominated-series zero k n f g t = AtMost-refl (pos zero)
dominated-series (suc count) k n f g t =
    let split : T (none_negative (subtract_lists (f zero ∷ coefficients count (values count (difference f))) (g zero ∷ coefficients count (values count (difference g))))) =
    subst (λ (q : List ℤ). T (none_negative (subtract_lists (f zero ∷ coefficients count (values count (difference f))) q))) (coefficients-values count g)
    (subst (λ (p : List ℤ). T (none_negative (subtract_lists p (coefficients (suc count) (values (suc count) g))))) (coefficients-values count f) t) in
    let tests = both (le_z (pos zero) (f zero -ℤ g zero)) (none_negative (subtract_lists (coefficients count (values count (difference f))) (coefficients count (values count (difference g))))) split in
    let first = AtMost-restore (g zero) (pos zero) (f zero) (le_z→AtMost (pos zero) (f zero -ℤ g zero) tests.0) in
    let start = subst (λ (z : ℤ). AtMost z (f zero)) (+ℤ_idr (g zero)) first in
    AtMost-add (g zero *ℤ pos (choose n k)) (f zero *ℤ pos (choose n k)) (series count (suc k) n (difference g)) (series count (suc k) n (difference f))
    (AtMost-scale (choose n k) (g zero) (f zero) start) (dominated-series count (suc k) n (difference f) (difference g) tests.1)

-- where both sequences are their series
dominated-value : (n count : ℕ) (f g : ℕ → ℤ) → (n < count) ⊎ (DifferencesVanish count f × DifferencesVanish count g) →
    T (dominates (values count f) (values count g)) → AtMost (g n) (f n)
unfolding dominates newton_series
dominated-value n count f g premise t =
    let u : T (none_negative (subtract_lists (coefficients count (values count f)) (coefficients count (values count g)))) =
    subst (λ (m : ℕ). T (none_negative (subtract_lists (coefficients count (values count f)) (coefficients m (values count g))))) (values_length count g)
    (subst (λ (m : ℕ). T (none_negative (subtract_lists (coefficients m (values count f)) (coefficients (length (values count g)) (values count g))))) (values_length count f) t) in
    subst (λ (z : ℤ). AtMost z (f n)) (series-value n count g (second premise))
    (subst (AtMost (series count zero n g)) (series-value n count f (first premise)) (dominated-series count zero n f g u))
  where
    first : (n < count) ⊎ (DifferencesVanish count f × DifferencesVanish count g) → (n < count) ⊎ DifferencesVanish count f
    first (inl h) = inl h
    first (inr h) = inr h.0

    second : (n < count) ⊎ (DifferencesVanish count f × DifferencesVanish count g) → (n < count) ⊎ DifferencesVanish count g
    second (inl h) = inl h
    second (inr h) = inr h.1

-- Of n values of f and of g, the first `visited` ranked: all are visited, or f and g are on 0 .. n - 1 an F and a G of degree below `visited`.
pub dominated-values : (n visited : ℕ) (f g F G : ℕ → ℤ) → visited ≤ n → ((k : ℕ) → k < n → f k ≡ F k) → ((k : ℕ) → k < n → g k ≡ G k) →
    (n ≤ visited) ⊎ (DifferencesVanish visited F × DifferencesVanish visited G) →
    T (dominates (values visited f) (values visited g)) → (k : ℕ) → k < n → AtMost (g k) (f k)
dominated-values n visited f g F G fits same_f same_g (inl all) t k made = dominated-value k visited f g (inl (omega arith)) t
dominated-values n visited f g F G fits same_f same_g (inr vanish) t k made =
    let u : T (dominates (values visited F) (values visited G)) =
    subst (λ (q : List ℤ). T (dominates (values visited F) q)) (values-extensional visited g G (λ j i. same_g j (omega arith)))
    (subst (λ (p : List ℤ). T (dominates p (values visited g))) (values-extensional visited f F (λ j i. same_f j (omega arith))) t) in
    subst (λ (z : ℤ). AtMost z (f k)) (sym (same_g k made)) (subst (AtMost (G k)) (sym (same_f k made)) (dominated-value k visited F G (inr vanish) u))

-- ---- the difference of two series, the other way round

negated : (a b : ℤ) → neg_ℤ (a -ℤ b) ≡ b -ℤ a
negated a b = neg_ℤ-+ℤ a (neg_ℤ b) ∙ neg-sub-neg a b

exchanged : (p q : List ℤ) → none_positive (subtract_lists p q) ≡ none_negative (subtract_lists q p)
unfolding none_positive none_negative
exchanged [] [] = refl
exchanged [] (y ∷ ys) = ap₂ ◌&&◌ (le_z-neg y (pos zero)) (exchanged [] ys ∙ ap none_negative (subtract-nil ys))
exchanged (x ∷ xs) [] = ap₂ ◌&&◌ (sym (le_z-neg (pos zero) x)) (ap none_positive (sym (subtract-nil xs)) ∙ exchanged xs [])
exchanged (x ∷ xs) (y ∷ ys) = ap₂ ◌&&◌ (ap (λ (z : ℤ). le_z z (pos zero)) (sym (negated y x)) ∙ le_z-neg (y -ℤ x) (pos zero)) (exchanged xs ys)

pub dominated-exchanged : (p q : List ℤ) → dominated p q ≡ dominates q p
unfolding dominated dominates
dominated-exchanged p q = exchanged (newton_series p) (newton_series q)
