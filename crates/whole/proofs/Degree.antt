-- Degrees are kept by sums and affine changes of the point, and summing along a coordinate up to an affine bound adds one to the degree.
use mathlib.Core.Path.{◌≡◌, refl, sym, ◌∙◌, ap, ap₂, subst, fun_ext}
use mathlib.Core.List.{List, [], ◌∷◌}
use Prim.Native.Nat.{ℕ, zero, suc, ◌≤◌}
use native.Mathlib.Decide.{dec_le}
use native.Mathlib.Omega.{arith}
use lib.IntN.{ℤ, pos, pred_ℤ, neg_ℤ, ◌+ℤ◌, ◌-ℤ◌, neg_ℤ-+ℤ, +ℤ_comm, +ℤ_idl, +ℤ_idr, +ℤ_invr}
use Rattle.whole.specs.Sum.{sum_to}
use Rattle.whole.specs.Degree.{Degree, ◌⊞◌, first_of, rest_of}
use Rattle.whole.proofs.Ring.{ℤ-induction, move-left, sub-medial, right_comm}
use Rattle.whole.proofs.Sum.{sum_to-zero, sum_to-suc, sum_to-pred, sum_to-sub, sum_to-zeros, sum_to-append}

module _ {X : Type 0} (add : X → X → X) where
  pub degree-extensional : (d : ℕ) {f g : X → ℤ} → ((x : X) → f x ≡ g x) → Degree add d f → Degree add d g
  degree-extensional d e h = subst (Degree add d) (fun_ext e) h

  pub degree-constant : (d : ℕ) (c : ℤ) → Degree add d (λ x. c)
  unfolding Degree
  degree-constant zero c = λ x v. refl
  degree-constant (suc d) c = λ v. degree-constant d (c -ℤ c)

  pub degree-suc : (d : ℕ) (f : X → ℤ) → Degree add d f → Degree add (suc d) f
  unfolding Degree
  degree-suc zero f h = λ v x w. ap₂ ◌-ℤ◌ (h (add x w) v ∙ h x w ∙ sym (h x v)) (h x w)
  degree-suc (suc d) f h = λ v. degree-suc d (λ x. f (add x v) -ℤ f x) (h v)

  pub degree-le : (d e : ℕ) (f : X → ℤ) → d ≤ e → Degree add d f → Degree add e f
  degree-le d zero f h k = let same : d ≡ zero = omega arith in subst (λ (n : ℕ). Degree add n f) same k
  degree-le d (suc e) f h k = by_order (dec_le d e) (λ i. degree-le d e f i k)
    where
      by_order : Dec (d ≤ e) → (d ≤ e → Degree add e f) → Degree add (suc e) f
      by_order (yes i) lower = degree-suc e f (lower i)
      by_order (no i) lower = let same : d ≡ suc e = omega arith in subst (λ (n : ℕ). Degree add n f) same k

  pub degree-add : (d : ℕ) (f g : X → ℤ) → Degree add d f → Degree add d g → Degree add d (λ x. f x +ℤ g x)
  unfolding Degree
  degree-add zero f g h k = λ x v. ap₂ ◌+ℤ◌ (h x v) (k x v)
  degree-add (suc d) f g h k = λ v. degree-extensional d (λ x. sym (sub-medial (f (add x v)) (g (add x v)) (f x) (g x)))
      (degree-add d (λ x. f (add x v) -ℤ f x) (λ x. g (add x v) -ℤ g x) (h v) (k v))

  pub degree-neg : (d : ℕ) (f : X → ℤ) → Degree add d f → Degree add d (λ x. neg_ℤ (f x))
  unfolding Degree
  degree-neg zero f h = λ x v. ap neg_ℤ (h x v)
  degree-neg (suc d) f h = λ v. degree-extensional d (λ x. neg_ℤ-+ℤ (f (add x v)) (neg_ℤ (f x))) (degree-neg d (λ x. f (add x v) -ℤ f x) (h v))

  pub degree-sub : (d : ℕ) (f g : X → ℤ) → Degree add d f → Degree add d g → Degree add d (λ x. f x -ℤ g x)
  degree-sub d f g h k = degree-add d f (λ x. neg_ℤ (g x)) h (degree-neg d g k)

  -- a sum of constant length
  pub degree-sum_to : (n : ℤ) (d : ℕ) (g : ℤ → X → ℤ) → ((k : ℤ) → Degree add d (g k)) → Degree add d (λ x. sum_to n (λ k. g k x))
  degree-sum_to n d g h = ℤ-induction (λ n. Degree add d (λ x. sum_to n (λ k. g k x)))
      (degree-extensional d (λ x. sym (sum_to-zero (λ k. g k x))) (degree-constant d (pos zero)))
      (λ n i. degree-extensional d (λ x. sym (sum_to-suc n (λ k. g k x))) (degree-add d (λ x. sum_to n (λ k. g k x)) (g n) i (h n)))
      (λ n i. degree-extensional d (λ x. move-left (sum_to n (λ k. g k x)) (g (pred_ℤ n) x) (sum_to (pred_ℤ n) (λ k. g k x))
      (sum_to-pred n (λ k. g k x) ∙ +ℤ_comm (sum_to (pred_ℤ n) (λ k. g k x)) (g (pred_ℤ n) x)))
      (degree-sub d (λ x. sum_to n (λ k. g k x)) (g (pred_ℤ n)) i (h (pred_ℤ n))))
      n

-- after an affine map of the points, with its linear part
pub degree-compose : {X Y : Type 0} (add_x : X → X → X) (add_y : Y → Y → Y) (affine linear : X → Y)
    → ((x v : X) → affine (add_x x v) ≡ add_y (affine x) (linear v))
    → (d : ℕ) (f : Y → ℤ) → Degree add_y d f → Degree add_x d (λ x. f (affine x))
unfolding Degree
degree-compose add_x add_y affine linear moves zero f h = λ x v. ap f (moves x v) ∙ h (affine x) (linear v)
degree-compose add_x add_y affine linear moves (suc d) f h = λ v.
    degree-extensional add_x d (λ x. ap (λ y. f y -ℤ f (affine x)) (sym (moves x v)))
    (degree-compose add_x add_y affine linear moves d (λ y. f (add_y y (linear v)) -ℤ f y) (h (linear v)))

-- The sum along a coordinate, from 0 up to an affine bound. `place x k` is the point x with the coordinate at k, perhaps counted from an
-- affine start, and `place_linear` is its linear part; `bound` is affine with the linear part `slope`.
module _ {X : Type 0} (add : X → X → X) (add_right_comm : (x w v : X) → add (add x w) v ≡ add (add x v) w)
    (place place_linear : X → ℤ → X) (place-add : (x w : X) (a b : ℤ) → place (add x w) (a +ℤ b) ≡ add (place x a) (place_linear w b))
    (bound slope : X → ℤ) (bound-add : (x v : X) → bound (add x v) ≡ bound x +ℤ slope v) where
  -- a move by v changes the sum by the changes of its terms, and by the terms that its new end adds
  sum_moved : (g : X → ℤ) (v x : X) →
      sum_to (bound x) (λ k. g (add (place x k) (place_linear v (pos zero))) -ℤ g (place x k)) +ℤ sum_to (slope v) (λ j. g (place (add x v) (bound x +ℤ j)))
      ≡ sum_to (bound (add x v)) (λ k. g (place (add x v) k)) -ℤ sum_to (bound x) (λ k. g (place x k))
  sum_moved g v x =
      ap (λ (z : ℤ). z +ℤ sum_to (slope v) (λ j. g (place (add x v) (bound x +ℤ j))))
      (ap (λ (f : ℤ → ℤ). sum_to (bound x) f) (fun_ext (λ k. ap (λ (y : X). g y -ℤ g (place x k)) (moved k)))
      ∙ sum_to-sub (bound x) (λ k. g (place (add x v) k)) (λ k. g (place x k)))
      ∙ swap (sum_to (bound x) (λ k. g (place (add x v) k))) (sum_to (bound x) (λ k. g (place x k))) (sum_to (slope v) (λ j. g (place (add x v) (bound x +ℤ j))))
      ∙ ap (λ (z : ℤ). z -ℤ sum_to (bound x) (λ k. g (place x k)))
      (sym (ap (λ (m : ℤ). sum_to m (λ k. g (place (add x v) k))) (bound-add x v) ∙ sum_to-append (bound x) (slope v) (λ k. g (place (add x v) k))))
    where
      moved : (k : ℤ) → add (place x k) (place_linear v (pos zero)) ≡ place (add x v) k
      moved k = sym (place-add x v k (pos zero)) ∙ ap (place (add x v)) (+ℤ_idr k)

      swap : (a b c : ℤ) → (a -ℤ b) +ℤ c ≡ (a +ℤ c) -ℤ b
      swap a b c = right_comm a (neg_ℤ b) c

  -- the terms that the new end adds are of the degree of g
  end-degree : (g : X → ℤ) (v : X) (d : ℕ) → Degree add d g → Degree add d (λ x. sum_to (slope v) (λ j. g (place (add x v) (bound x +ℤ j))))
  end-degree g v d h = degree-sum_to add (slope v) d (λ j x. g (place (add x v) (bound x +ℤ j))) (λ j.
      degree-compose add add (λ x. place (add x v) (bound x +ℤ j)) (λ w. place_linear w (slope w)) (moves j) d g h)
    where
      moves : (j : ℤ) (x w : X) → place (add (add x w) v) (bound (add x w) +ℤ j) ≡ add (place (add x v) (bound x +ℤ j)) (place_linear w (slope w))
      moves j x w =
          ap (λ (y : X). place y (bound (add x w) +ℤ j)) (add_right_comm x w v)
          ∙ ap (place (add (add x v) w)) (ap (λ (m : ℤ). m +ℤ j) (bound-add x w) ∙ right_comm (bound x) (slope w) j)
          ∙ place-add (add x v) w (bound x +ℤ j) (slope w)

  pub degree-sum : (d : ℕ) (g : X → ℤ) → Degree add d g → Degree add (suc d) (λ x. sum_to (bound x) (λ k. g (place x k)))
  unfolding Degree
  degree-sum zero g h = λ v. degree-extensional add zero (sum_moved g v)
      (degree-add add zero (λ x. sum_to (bound x) (λ k. g (add (place x k) (place_linear v (pos zero))) -ℤ g (place x k)))
      (λ x. sum_to (slope v) (λ j. g (place (add x v) (bound x +ℤ j))))
      (degree-extensional add zero (λ x. sym (ap (λ (f : ℤ → ℤ). sum_to (bound x) f) (fun_ext (λ k. unchanged v (place x k))) ∙ sum_to-zeros (bound x)))
      (degree-constant add zero (pos zero)))
      (end-degree g v zero h))
    where
      unchanged : (v y : X) → g (add y (place_linear v (pos zero))) -ℤ g y ≡ pos zero
      unchanged v y = ap (λ (z : ℤ). z -ℤ g y) (h y (place_linear v (pos zero))) ∙ +ℤ_invr (g y)
  degree-sum (suc d) g h = λ v. degree-extensional add (suc d) (sum_moved g v)
      (degree-add add (suc d) (λ x. sum_to (bound x) (λ k. g (add (place x k) (place_linear v (pos zero))) -ℤ g (place x k)))
      (λ x. sum_to (slope v) (λ j. g (place (add x v) (bound x +ℤ j))))
      (degree-sum d (λ y. g (add y (place_linear v (pos zero))) -ℤ g y) (h (place_linear v (pos zero))))
      (end-degree g v (suc d) h))

-- ---- counters of loops

⊞-nil : (xs : List ℤ) → xs ⊞ [] ≡ xs
unfolding ◌⊞◌
⊞-nil [] = refl
⊞-nil (x ∷ xs) = refl

⊞-comm : (xs ys : List ℤ) → xs ⊞ ys ≡ ys ⊞ xs
unfolding ◌⊞◌
⊞-comm [] ys = sym (⊞-nil ys)
⊞-comm (x ∷ xs) [] = refl
⊞-comm (x ∷ xs) (y ∷ ys) = ap₂ ◌∷◌ (+ℤ_comm x y) (⊞-comm xs ys)

pub ⊞-right-comm : (xs ys zs : List ℤ) → (xs ⊞ ys) ⊞ zs ≡ (xs ⊞ zs) ⊞ ys
unfolding ◌⊞◌
⊞-right-comm [] ys zs = ⊞-comm ys zs
⊞-right-comm (x ∷ xs) [] zs = sym (⊞-nil ((x ∷ xs) ⊞ zs))
⊞-right-comm (x ∷ xs) (y ∷ ys) [] = refl
⊞-right-comm (x ∷ xs) (y ∷ ys) (z ∷ zs) = ap₂ ◌∷◌ (right_comm x y z) (⊞-right-comm xs ys zs)

pub first_of-⊞ : (xs ys : List ℤ) → first_of (xs ⊞ ys) ≡ first_of xs +ℤ first_of ys
unfolding first_of ◌⊞◌
first_of-⊞ [] ys = sym (+ℤ_idl (first_of ys))
first_of-⊞ (x ∷ xs) [] = sym (+ℤ_idr x)
first_of-⊞ (x ∷ xs) (y ∷ ys) = refl

pub rest_of-⊞ : (xs ys : List ℤ) → rest_of (xs ⊞ ys) ≡ rest_of xs ⊞ rest_of ys
unfolding rest_of ◌⊞◌
rest_of-⊞ [] ys = refl
rest_of-⊞ (x ∷ xs) [] = sym (⊞-nil xs)
rest_of-⊞ (x ∷ xs) (y ∷ ys) = refl

-- a loop's sum over its own counter, which stands first, where the count n of its trips is affine in the outer counters
pub degree-loop : (d : ℕ) (g : List ℤ → ℤ) (n slope : List ℤ → ℤ) → ((c u : List ℤ) → n (c ⊞ u) ≡ n c +ℤ slope u)
    → Degree ◌⊞◌ d g → Degree ◌⊞◌ (suc d) (λ c. sum_to (n c) (λ k. g (k ∷ c)))
degree-loop d g n slope n-add h = degree-sum ◌⊞◌ ⊞-right-comm (λ c k. k ∷ c) (λ c k. k ∷ c) place-add n slope n-add d g h
  where
    place-add : (x w : List ℤ) (a b : ℤ) → (a +ℤ b) ∷ (x ⊞ w) ≡ (a ∷ x) ⊞ (b ∷ w)
    place-add x w a b = unfold ◌⊞◌ in refl
