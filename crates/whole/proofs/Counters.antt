-- Sums and multiples of lists of counters, and how they go with sums of products.
use mathlib.Core.Path.{◌≡◌, refl, sym, ap, ap₂, ◌∙◌}
use mathlib.Core.List.{List, [], ◌∷◌, ◌++◌, map-append}
use Prim.Native.Nat.{ℕ, zero, suc}
use native.Mathlib.Omega.{arith}
use lib.IntN.{ℤ, pos, ◌+ℤ◌, ◌*ℤ◌, +ℤ_idr, *ℤ-zero}
use lib.ListN.{length, replicate}
use Rattle.whole.specs.Integer.{dot}
use Rattle.whole.specs.Degree.{◌⊞◌, times}
use Rattle.whole.proofs.Ring.{*ℤ-+ℤ, *ℤ-left-comm}

pub times-append-one : (q : ℤ) (xs : List ℤ) (x : ℤ) → times q (xs ++ (x ∷ [])) ≡ times q xs ++ ((q *ℤ x) ∷ [])
times-append-one q xs x = map-append (λ y. q *ℤ y) xs (x ∷ [])

pub times-zeros : (q : ℤ) (n : ℕ) → times q (replicate n (pos zero)) ≡ replicate n (pos zero)
times-zeros q zero = refl
times-zeros q (suc n) = ap₂ ◌∷◌ (*ℤ-zero q) (times-zeros q n)

pub dot-times : (q : ℤ) (xs ys : List ℤ) → dot xs (times q ys) ≡ q *ℤ dot xs ys
dot-times q [] ys = sym (*ℤ-zero q)
dot-times q (x ∷ xs) [] = sym (*ℤ-zero q)
dot-times q (x ∷ xs) (y ∷ ys) = ap₂ ◌+ℤ◌ (*ℤ-left-comm x q y) (dot-times q xs ys) ∙ sym (*ℤ-+ℤ q (x *ℤ y) (dot xs ys))

pub length-⊞ : (xs ys : List ℤ) → length xs ≡ length ys → length (xs ⊞ ys) ≡ length ys
unfolding ◌⊞◌
length-⊞ [] ys e = refl
length-⊞ (x ∷ xs) [] e = e
length-⊞ (x ∷ xs) (y ∷ ys) e = ap suc (length-⊞ xs ys (omega arith))

pub ⊞-append-one : (xs ys : List ℤ) (x y : ℤ) → length xs ≡ length ys → (xs ++ (x ∷ [])) ⊞ (ys ++ (y ∷ [])) ≡ (xs ⊞ ys) ++ ((x +ℤ y) ∷ [])
unfolding ◌⊞◌
⊞-append-one [] [] x y e = refl
⊞-append-one [] (b ∷ ys) x y e = absurd (omega arith)
⊞-append-one (a ∷ xs) [] x y e = absurd (omega arith)
⊞-append-one (a ∷ xs) (b ∷ ys) x y e = ap (λ (zs : List ℤ). (a +ℤ b) ∷ zs) (⊞-append-one xs ys x y (omega arith))

pub ⊞-zeros : (xs : List ℤ) (n : ℕ) → length xs ≡ n → xs ⊞ replicate n (pos zero) ≡ xs
unfolding ◌⊞◌
⊞-zeros [] zero e = refl
⊞-zeros (x ∷ xs) zero e = refl
⊞-zeros [] (suc n) e = absurd (omega arith)
⊞-zeros (x ∷ xs) (suc n) e = ap₂ ◌∷◌ (+ℤ_idr x) (⊞-zeros xs n (omega arith))
