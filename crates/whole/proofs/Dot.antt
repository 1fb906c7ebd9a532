-- Sums of products of two lists: zeros, differences, negations and sums of lists, the first element, the first three.
use mathlib.Core.Path.{◌≡◌, refl, sym, ◌∙◌, ap, ap₂}
use mathlib.Core.List.{List, [], ◌∷◌, map}
use Prim.Native.Nat.{ℕ, zero, suc, ◌≤◌}
use native.Mathlib.Omega.{arith}
use lib.IntN.{ℤ, pos, neg_ℤ, ◌+ℤ◌, ◌-ℤ◌, ◌*ℤ◌, +ℤ_idl, +ℤ_idr, neg_ℤ-+ℤ, neg_ℤ-neg_ℤ, *ℤ-zero, zero-*ℤ}
use lib.ListN.{length, get_or, replicate}
use Rattle.whole.specs.Integer.{dot, subtract_lists}
use Rattle.whole.specs.Degree.{◌⊞◌, first_of, rest_of}
use Rattle.whole.proofs.Ring.{*ℤ-+ℤ, negℤ-*ℤ, -ℤ-*ℤ, medial, sub-medial, neg-sub-neg}

pub dot-nil : (xs : List ℤ) → dot xs [] ≡ pos zero
dot-nil [] = refl
dot-nil (x ∷ xs) = refl

pub dot-zeros : (xs : List ℤ) (n : ℕ) → dot xs (replicate n (pos zero)) ≡ pos zero
dot-zeros [] n = refl
dot-zeros (x ∷ xs) zero = refl
dot-zeros (x ∷ xs) (suc n) = ap₂ ◌+ℤ◌ (*ℤ-zero x) (dot-zeros xs n)

pub subtract-nil : (xs : List ℤ) → subtract_lists xs [] ≡ xs
subtract-nil [] = refl
subtract-nil (x ∷ xs) = refl

pub dot-subtract : (xs ys zs : List ℤ) → dot (subtract_lists xs ys) zs ≡ dot xs zs -ℤ dot ys zs
dot-subtract [] [] zs = refl
dot-subtract [] (y ∷ ys) [] = refl
dot-subtract [] (y ∷ ys) (z ∷ zs) =
    ap₂ ◌+ℤ◌ (negℤ-*ℤ y z) (dot-subtract [] ys zs ∙ +ℤ_idl (neg_ℤ (dot ys zs)))
    ∙ sym (neg_ℤ-+ℤ (y *ℤ z) (dot ys zs)) ∙ sym (+ℤ_idl (neg_ℤ (y *ℤ z +ℤ dot ys zs)))
dot-subtract (x ∷ xs) [] zs = sym (+ℤ_idr (dot (x ∷ xs) zs))
dot-subtract (x ∷ xs) (y ∷ ys) [] = refl
dot-subtract (x ∷ xs) (y ∷ ys) (z ∷ zs) =
    ap₂ ◌+ℤ◌ (-ℤ-*ℤ x y z) (dot-subtract xs ys zs) ∙ sym (sub-medial (x *ℤ z) (dot xs zs) (y *ℤ z) (dot ys zs))

pub dot-negated : (xs ys : List ℤ) → dot (map neg_ℤ xs) ys ≡ neg_ℤ (dot xs ys)
dot-negated [] ys = refl
dot-negated (x ∷ xs) [] = refl
dot-negated (x ∷ xs) (y ∷ ys) = ap₂ ◌+ℤ◌ (negℤ-*ℤ x y) (dot-negated xs ys) ∙ sym (neg_ℤ-+ℤ (x *ℤ y) (dot xs ys))

-- the difference of two negated lists, the other way round
pub subtract-negated : (xs ys : List ℤ) → subtract_lists (map neg_ℤ xs) (map neg_ℤ ys) ≡ subtract_lists ys xs
subtract-negated [] [] = refl
subtract-negated [] (y ∷ ys) = ap₂ ◌∷◌ (neg_ℤ-neg_ℤ y) (subtract-negated [] ys ∙ subtract-nil ys)
subtract-negated (x ∷ xs) [] = ap (λ (zs : List ℤ). neg_ℤ x ∷ zs) (sym (subtract-nil (map neg_ℤ xs)) ∙ subtract-negated xs [])
subtract-negated (x ∷ xs) (y ∷ ys) = ap₂ ◌∷◌ (neg-sub-neg x y) (subtract-negated xs ys)

pub dot-⊞ : (xs ys zs : List ℤ) → dot xs (ys ⊞ zs) ≡ dot xs ys +ℤ dot xs zs
unfolding ◌⊞◌
dot-⊞ [] ys zs = refl
dot-⊞ (x ∷ xs) [] zs = sym (+ℤ_idl (dot (x ∷ xs) zs))
dot-⊞ (x ∷ xs) (y ∷ ys) [] = sym (+ℤ_idr (dot (x ∷ xs) (y ∷ ys)))
dot-⊞ (x ∷ xs) (y ∷ ys) (z ∷ zs) = ap₂ ◌+ℤ◌ (*ℤ-+ℤ x y z) (dot-⊞ xs ys zs) ∙ medial (x *ℤ y) (x *ℤ z) (dot xs ys) (dot xs zs)

pub dot-head : (x : ℤ) (xs ys : List ℤ) → dot (x ∷ xs) ys ≡ x *ℤ first_of ys +ℤ dot xs (rest_of ys)
unfolding first_of rest_of
dot-head x xs [] = sym (ap₂ ◌+ℤ◌ (*ℤ-zero x) (dot-nil xs))
dot-head x xs (y ∷ ys) = refl

-- the products of at most three elements, one by one
pub dot-first-three : (xs ys : List ℤ) → length xs ≤ 3 →
    dot xs ys ≡ get_or xs 0 (pos zero) *ℤ get_or ys 0 (pos zero) +ℤ (get_or xs 1 (pos zero) *ℤ get_or ys 1 (pos zero) +ℤ get_or xs 2 (pos zero) *ℤ get_or ys 2 (pos zero))
dot-first-three [] ys h = sym (simp zero-*ℤ)
dot-first-three (a ∷ []) [] h = sym (simp (*ℤ-zero, +ℤ_idl))
dot-first-three (a ∷ []) (x ∷ ys) h = sym (simp (zero-*ℤ, +ℤ_idl))
dot-first-three (a ∷ b ∷ []) [] h = sym (simp (*ℤ-zero, +ℤ_idl))
dot-first-three (a ∷ b ∷ []) (x ∷ []) h = sym (simp (*ℤ-zero, +ℤ_idl))
dot-first-three (a ∷ b ∷ []) (x ∷ y ∷ ys) h = sym (simp zero-*ℤ)
dot-first-three (a ∷ b ∷ c ∷ []) [] h = sym (simp (*ℤ-zero, +ℤ_idl))
dot-first-three (a ∷ b ∷ c ∷ []) (x ∷ []) h = sym (simp (*ℤ-zero, +ℤ_idl))
dot-first-three (a ∷ b ∷ c ∷ []) (x ∷ y ∷ []) h = sym (simp *ℤ-zero)
dot-first-three (a ∷ b ∷ c ∷ []) (x ∷ y ∷ z ∷ ys) h = ap (λ (t : ℤ). a *ℤ x +ℤ (b *ℤ y +ℤ t)) (+ℤ_idr (c *ℤ z))
dot-first-three (a ∷ b ∷ c ∷ d ∷ xs) ys h = absurd (omega arith)
