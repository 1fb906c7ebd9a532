-- Sums: whatever starts at 0 and grows by f is the sum of f; sums of differences, and of two stretches.
use mathlib.Core.Path.{◌≡◌, refl, sym, ◌∙◌, ap}
use Prim.Native.Nat.{ℕ, zero, suc, ◌<◌}
use native.Mathlib.Omega.{arith}
use lib.IntN.{ℤ, pos, negsuc, suc_ℤ, pred_ℤ, ◌+ℤ◌, ◌-ℤ◌, suc-pred, +ℤ-suc_ℤ, +ℤ_idr, +ℤ_invl, +ℤ_invr, -ℤ-+ℤ_cancel}
use Rattle.whole.specs.Sum.{total, sum_to}
use Rattle.whole.proofs.Ring.{ℤ-induction, collect, parts, ⊖-eq, cancel_right, move-right, sub-medial}

-- ---- up to an integer

pub sum_to-zero : (f : ℤ → ℤ) → sum_to (pos zero) f ≡ pos zero
unfolding sum_to
sum_to-zero f = refl

pub sum_to-suc : (n : ℤ) (f : ℤ → ℤ) → sum_to (suc_ℤ n) f ≡ sum_to n f +ℤ f n
unfolding sum_to
sum_to-suc (pos n) f = refl
sum_to-suc (negsuc zero) f = sym (+ℤ_invl (f (negsuc zero)))
sum_to-suc (negsuc (suc n)) f = sym (-ℤ-+ℤ_cancel (sum_to (negsuc n) f) (f (negsuc (suc n))))

pub sum_to-pred : (n : ℤ) (f : ℤ → ℤ) → sum_to n f ≡ sum_to (pred_ℤ n) f +ℤ f (pred_ℤ n)
sum_to-pred n f = ap (λ (m : ℤ). sum_to m f) (sym (suc-pred n)) ∙ sum_to-suc (pred_ℤ n) f

pub sum_to-unique : (h f : ℤ → ℤ) → h (pos zero) ≡ pos zero → ((n : ℤ) → h (suc_ℤ n) ≡ h n +ℤ f n) → (n : ℤ) → h n ≡ sum_to n f
sum_to-unique h f base grows = ℤ-induction (λ n. h n ≡ sum_to n f) (base ∙ sym (sum_to-zero f))
    (λ k e. grows k ∙ ap (λ (x : ℤ). x +ℤ f k) e ∙ sym (sum_to-suc k f))
    (λ k e. cancel_right (h (pred_ℤ k)) (sum_to (pred_ℤ k) f) (f (pred_ℤ k)) (sym (grows (pred_ℤ k)) ∙ ap h (suc-pred k) ∙ e ∙ sum_to-pred k f))

pub sum_to-sub : (n : ℤ) (f g : ℤ → ℤ) → sum_to n (λ k. f k -ℤ g k) ≡ sum_to n f -ℤ sum_to n g
sum_to-sub n f g = sym (sum_to-unique (λ n. sum_to n f -ℤ sum_to n g) (λ k. f k -ℤ g k) (simp sum_to-zero)
    (λ k. simp sum_to-suc (sub-medial (sum_to k f) (f k) (sum_to k g) (g k))) n)

pub sum_to-zeros : (n : ℤ) → sum_to n (λ k. pos zero) ≡ pos zero
sum_to-zeros n = sym (sum_to-unique (λ n. pos zero) (λ k. pos zero) refl (λ k. refl) n)

pub sum_to-append : (n m : ℤ) (f : ℤ → ℤ) → sum_to (n +ℤ m) f ≡ sum_to n f +ℤ sum_to m (λ k. f (n +ℤ k))
sum_to-append n m f = move-right (sum_to (n +ℤ m) f) (sum_to n f) (sum_to m (λ k. f (n +ℤ k)))
    (sum_to-unique (λ m. sum_to (n +ℤ m) f -ℤ sum_to n f) (λ k. f (n +ℤ k)) (rw +ℤ_idr (+ℤ_invr (sum_to n f)))
    (λ k. rw (+ℤ-suc_ℤ, sum_to-suc) (swap (sum_to (n +ℤ k) f) (f (n +ℤ k)) (sum_to n f))) m)
  where
    swap : (a b c : ℤ) → (a +ℤ b) -ℤ c ≡ (a -ℤ c) +ℤ b
    swap a b c = rw (parts a, parts b, parts c) (simp collect (⊖-eq _ _ _ _ (omega arith)))

pub sum_to-total : (n : ℕ) (f : ℤ → ℤ) → sum_to (pos n) f ≡ total n (λ k. f (pos k))
unfolding sum_to total
sum_to-total zero f = refl
sum_to-total (suc n) f = ap (λ (z : ℤ). z +ℤ f (pos n)) (sum_to-total n f)

-- ---- up to a natural

pub total-extensional : (n : ℕ) (f g : ℕ → ℤ) → ((k : ℕ) → k < n → f k ≡ g k) → total n f ≡ total n g
unfolding total
total-extensional zero f g h = refl
total-extensional (suc n) f g h = λ i. total-extensional n f g (λ k l. h k (omega arith)) i +ℤ h n (omega arith) i
