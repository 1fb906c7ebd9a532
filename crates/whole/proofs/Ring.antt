-- The integers of lib.IntN are a commutative ring, and omega does their algebra.
--
-- The recipe. An integer is the difference of two naturals, and an equation of differences is an equation of naturals, which omega decides.
--   A goal: one `parts t` for each unknown t, a variable or a term such as `f x` (numerals need none), `collect` to make one difference
--   of each side, `⊖-eq` to compare them:
--       rw (parts a, parts b) (simp collect (⊖-eq _ _ _ _ (omega arith)))
--   A hypothesis h, for omega to read:
--       let k = ⊖-inj _ _ _ _ (simp collect at (rw (parts a, parts b) at h)) in ..
--   omega takes at most 64 monomials and a monomial of degree d is 2^d of them here, so this serves up to degree 2, or 3 where terms are few.
-- Products of any degree, where nothing cancels: `simp expand (simp (sort-sums, sort-products))`.
use mathlib.Core.Path.{◌≡◌, sym, ◌∙◌, ap, ◌≡⟨◌⟩◌, ◌∎}
use Prim.Native.Nat.{ℕ, zero, suc, ◌+◌, ◌*◌}
use native.Mathlib.Omega.{arith}
use lib.IntN.{ℤ, pos, negsuc, suc_ℤ, pred_ℤ, neg_ℤ, nat_abs, ◌+ℤ◌, ◌-ℤ◌, ◌*ℤ◌, neg_ℤ-neg_ℤ, suc_ℤ-+ℤ, pred_ℤ-+ℤ, +ℤ_idl, +ℤ_idr, +ℤ_assoc}
use lib.IntN.{+ℤ_comm, +ℤ_invl, +ℤ_invr, neg_ℤ-+ℤ, +ℤ-neg_ℤ_cancel, -ℤ-+ℤ_cancel, suc_ℤ-*ℤ, pred_ℤ-*ℤ, *ℤ_comm, zero-*ℤ, *ℤ-one, one}

-- ---- induction

-- from 0, one up and one down
pub ℤ-induction : (P : ℤ → Type 0) → P (pos zero) → ((k : ℤ) → P k → P (suc_ℤ k)) → ((k : ℤ) → P k → P (pred_ℤ k)) → (k : ℤ) → P k
ℤ-induction P base up down (pos zero) = base
ℤ-induction P base up down (pos (suc n)) = up (pos n) (ℤ-induction P base up down (pos n))
ℤ-induction P base up down (negsuc zero) = down (pos zero) base
ℤ-induction P base up down (negsuc (suc n)) = down (negsuc n) (ℤ-induction P base up down (negsuc n))

-- ---- the laws of a commutative ring that lib.IntN lacks

pub left_comm : (a b c : ℤ) → a +ℤ (b +ℤ c) ≡ b +ℤ (a +ℤ c)
left_comm a b c = sym (+ℤ_assoc a b c) ∙ ap (λ (x : ℤ). x +ℤ c) (+ℤ_comm a b) ∙ +ℤ_assoc b a c

-- sums with their terms in a fixed order
pub ruleset sort-sums = (+ℤ_assoc, +ℤ_comm, left_comm)

pub +ℤ-*ℤ : (a b c : ℤ) → (a +ℤ b) *ℤ c ≡ a *ℤ c +ℤ b *ℤ c
+ℤ-*ℤ a b c = ℤ-induction (λ a. (a +ℤ b) *ℤ c ≡ a *ℤ c +ℤ b *ℤ c)
    (simp (+ℤ_idl, zero-*ℤ))
    (λ a h. simp (suc_ℤ-+ℤ, suc_ℤ-*ℤ, h) (simp sort-sums))
    (λ a h. simp (pred_ℤ-+ℤ, pred_ℤ-*ℤ, h) (simp sort-sums))
    a

pub *ℤ-+ℤ : (a b c : ℤ) → a *ℤ (b +ℤ c) ≡ a *ℤ b +ℤ a *ℤ c
*ℤ-+ℤ a b c = *ℤ_comm a (b +ℤ c) ∙ +ℤ-*ℤ b c a ∙ (simp *ℤ_comm)

-- what adds to 0 is the negation
neg_unique : (a b : ℤ) → a +ℤ b ≡ pos zero → b ≡ neg_ℤ a
neg_unique a b h =
    b ≡⟨ sym (+ℤ_idl b) ⟩
    pos zero +ℤ b ≡⟨ ap (λ (x : ℤ). x +ℤ b) (sym (+ℤ_invl a)) ⟩
    (neg_ℤ a +ℤ a) +ℤ b ≡⟨ +ℤ_assoc (neg_ℤ a) a b ⟩
    neg_ℤ a +ℤ (a +ℤ b) ≡⟨ ap (λ (x : ℤ). neg_ℤ a +ℤ x) h ⟩
    neg_ℤ a +ℤ pos zero ≡⟨ +ℤ_idr (neg_ℤ a) ⟩
    neg_ℤ a ∎

pub negℤ-*ℤ : (a b : ℤ) → neg_ℤ a *ℤ b ≡ neg_ℤ (a *ℤ b)
negℤ-*ℤ a b = neg_unique (a *ℤ b) (neg_ℤ a *ℤ b) (sym (+ℤ-*ℤ a (neg_ℤ a) b) ∙ simp (+ℤ_invr, zero-*ℤ))

pub *ℤ-negℤ : (a b : ℤ) → a *ℤ neg_ℤ b ≡ neg_ℤ (a *ℤ b)
*ℤ-negℤ a b = *ℤ_comm a (neg_ℤ b) ∙ negℤ-*ℤ b a ∙ ap neg_ℤ (*ℤ_comm b a)

-- two signs cancel
pub negℤ-*ℤ-negℤ : (a b : ℤ) → neg_ℤ a *ℤ neg_ℤ b ≡ a *ℤ b
negℤ-*ℤ-negℤ a b = negℤ-*ℤ a (neg_ℤ b) ∙ ap neg_ℤ (*ℤ-negℤ a b) ∙ neg_ℤ-neg_ℤ (a *ℤ b)

pub *ℤ-assoc : (a b c : ℤ) → (a *ℤ b) *ℤ c ≡ a *ℤ (b *ℤ c)
*ℤ-assoc a b c = ℤ-induction (λ a. (a *ℤ b) *ℤ c ≡ a *ℤ (b *ℤ c))
    (simp zero-*ℤ)
    (λ a h. simp (suc_ℤ-*ℤ, +ℤ-*ℤ, h))
    (λ a h. simp (pred_ℤ-*ℤ, +ℤ-*ℤ, negℤ-*ℤ, h))
    a

pub *ℤ-left-comm : (a b c : ℤ) → a *ℤ (b *ℤ c) ≡ b *ℤ (a *ℤ c)
*ℤ-left-comm a b c = sym (*ℤ-assoc a b c) ∙ ap (λ (x : ℤ). x *ℤ c) (*ℤ_comm a b) ∙ *ℤ-assoc b a c

-- products with their factors in a fixed order
pub ruleset sort-products = (*ℤ-assoc, *ℤ_comm, *ℤ-left-comm)

-- products of sums multiplied out
pub ruleset expand = (*ℤ-+ℤ, +ℤ-*ℤ, negℤ-*ℤ, *ℤ-negℤ, neg_ℤ-+ℤ, neg_ℤ-neg_ℤ)

pub cancel_right : (x y k : ℤ) → x +ℤ k ≡ y +ℤ k → x ≡ y
cancel_right x y k h = sym (+ℤ-neg_ℤ_cancel x k) ∙ ap (λ (z : ℤ). z -ℤ k) h ∙ +ℤ-neg_ℤ_cancel y k

-- ---- an integer as a difference of two naturals

infixl 6 ◌⊖◌
-- a - b of two naturals; shut, so that it shows what it is the difference of
pub ◌⊖◌ : ℕ → ℕ → ℤ
a ⊖ b = pos a -ℤ pos b

-- max(0, z) and max(0, -z)
pub positive_part : ℤ → ℕ
positive_part (pos n) = n
positive_part (negsuc n) = zero

pub negative_part : ℤ → ℕ
negative_part (pos n) = zero
negative_part (negsuc n) = suc n

pub parts : (z : ℤ) → z ≡ positive_part z ⊖ negative_part z
unfolding ◌⊖◌ positive_part negative_part
parts (pos n) = sym (+ℤ_idr (pos n))
parts (negsuc n) = sym (+ℤ_idl (negsuc n))

pub pos-⊖ : (n : ℕ) → pos n ≡ n ⊖ zero
unfolding ◌⊖◌
pos-⊖ n = sym (+ℤ_idr (pos n))

pub neg-⊖ : (a b : ℕ) → neg_ℤ (a ⊖ b) ≡ b ⊖ a
unfolding ◌⊖◌
neg-⊖ a b = simp (neg_ℤ-+ℤ, neg_ℤ-neg_ℤ) (+ℤ_comm (neg_ℤ (pos a)) (pos b))

pub add-⊖ : (a b c d : ℕ) → (a ⊖ b) +ℤ (c ⊖ d) ≡ (a + c) ⊖ (b + d)
unfolding ◌⊖◌
add-⊖ a b c d = general (pos a) (pos b) (pos c) (pos d)
  where
    general : (a b c d : ℤ) → (a -ℤ b) +ℤ (c -ℤ d) ≡ (a +ℤ c) -ℤ (b +ℤ d)
    general a b c d = simp neg_ℤ-+ℤ (simp sort-sums)

pub mul-⊖ : (a b c d : ℕ) → (a ⊖ b) *ℤ (c ⊖ d) ≡ (a * c + b * d) ⊖ (a * d + b * c)
unfolding ◌⊖◌
mul-⊖ a b c d = general (pos a) (pos b) (pos c) (pos d)
  where
    general : (a b c d : ℤ) → (a -ℤ b) *ℤ (c -ℤ d) ≡ (a *ℤ c +ℤ b *ℤ d) -ℤ (a *ℤ d +ℤ b *ℤ c)
    general a b c d = simp expand (simp sort-sums)

-- sums, products and negations of differences as one difference
pub ruleset collect = (neg-⊖, add-⊖, mul-⊖, pos-⊖)

-- what is taken away, added on both sides
restore : (a b d : ℤ) → (a -ℤ b) +ℤ (b +ℤ d) ≡ a +ℤ d
restore a b d = sym (+ℤ_assoc (a -ℤ b) b d) ∙ ap (λ (z : ℤ). z +ℤ d) (-ℤ-+ℤ_cancel a b)

restore-swapped : (c d b : ℤ) → (c -ℤ d) +ℤ (b +ℤ d) ≡ c +ℤ b
restore-swapped c d b = ap (λ (z : ℤ). (c -ℤ d) +ℤ z) (+ℤ_comm b d) ∙ restore c d b

pub ⊖-eq : (a b c d : ℕ) → a + d ≡ c + b → a ⊖ b ≡ c ⊖ d
unfolding ◌⊖◌
⊖-eq a b c d h = general (pos a) (pos b) (pos c) (pos d) (ap pos h)
  where
    general : (a b c d : ℤ) → a +ℤ d ≡ c +ℤ b → a -ℤ b ≡ c -ℤ d
    general a b c d h = cancel_right (a -ℤ b) (c -ℤ d) (b +ℤ d) (restore a b d ∙ h ∙ sym (restore-swapped c d b))

pub ⊖-inj : (a b c d : ℕ) → a ⊖ b ≡ c ⊖ d → a + d ≡ c + b
unfolding ◌⊖◌
⊖-inj a b c d h = ap nat_abs (sym (restore (pos a) (pos b) (pos d)) ∙ ap (λ (z : ℤ). z +ℤ (pos b +ℤ pos d)) h ∙ restore-swapped (pos c) (pos d) (pos b))

-- ---- identities used over and over

-- an example of the recipe, with a hypothesis
pub move-left : (a b c : ℤ) → a ≡ b +ℤ c → a -ℤ b ≡ c
move-left a b c h =
    let k = ⊖-inj _ _ _ _ (simp collect at (rw (parts a, parts b, parts c) at h)) in
    rw (parts a, parts b, parts c) (simp collect (⊖-eq _ _ _ _ (omega arith)))

pub move-right : (a b c : ℤ) → a -ℤ b ≡ c → a ≡ b +ℤ c
move-right a b c h = sym (-ℤ-+ℤ_cancel a b) ∙ ap (λ (z : ℤ). z +ℤ b) h ∙ +ℤ_comm c b

-- the two inner terms of a sum of sums, exchanged
pub medial : (a b c d : ℤ) → (a +ℤ b) +ℤ (c +ℤ d) ≡ (a +ℤ c) +ℤ (b +ℤ d)
medial a b c d = simp sort-sums

-- the difference of two sums, term by term
pub sub-medial : (a b c d : ℤ) → (a +ℤ b) -ℤ (c +ℤ d) ≡ (a -ℤ c) +ℤ (b -ℤ d)
sub-medial a b c d = simp neg_ℤ-+ℤ (simp sort-sums)

-- a difference of negations, the other way round
pub neg-sub-neg : (a b : ℤ) → neg_ℤ a -ℤ neg_ℤ b ≡ b -ℤ a
neg-sub-neg a b = ap (λ (z : ℤ). neg_ℤ a +ℤ z) (neg_ℤ-neg_ℤ b) ∙ +ℤ_comm (neg_ℤ a) b

pub right_comm : (a b c : ℤ) → (a +ℤ b) +ℤ c ≡ (a +ℤ c) +ℤ b
right_comm a b c = simp sort-sums

pub -ℤ-*ℤ : (a b c : ℤ) → (a -ℤ b) *ℤ c ≡ a *ℤ c -ℤ b *ℤ c
-ℤ-*ℤ a b c = simp expand

-- lib.IntN's `*ℤ-one`, at the numeral
pub times-one : (a : ℤ) → a *ℤ pos 1 ≡ a
unfolding one
times-one a = *ℤ-one a
