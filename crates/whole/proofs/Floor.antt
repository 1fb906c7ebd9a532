-- floor_divide rounds down: it leaves from 0 to s - 1, and no other quotient does. How many multiples of s from 0 on are at most d; and divisibility.
use mathlib.Core.Path.{◌≡◌, refl, sym, ap, ◌∙◌}
use Prim.Native.Nat.{ℕ, zero, suc, ◌+◌, ◌*◌, ◌-◌, ◌/◌, ◌%◌, ◌≤◌, ◌<◌}
use native.Mathlib.Nat.{le_of_eq, mul_comm, mul-div-le, mul-le-mul_left, div-eq_of_lt, div-eq_of_lt-le}
use native.Mathlib.Nat.{div-zero, div-add-mod', mod-lt, le-div_iff_mul-le, mul-mod_left}
use native.Mathlib.Omega.{arith}
use lib.IntN.{ℤ, pos, negsuc, neg_ℤ, nat_abs, suc_ℤ, ◌+ℤ◌, ◌-ℤ◌, ◌*ℤ◌, +ℤ_assoc}
use lib.Signed.{le_z}
use lib.Dec.{T, leb→le, le→leb, eqb→eq, eqb_refl}
use Rattle.whole.specs.Integer.{at_least_zero, floor_divide, floor_remainder, divides}
use Rattle.whole.proofs.Ring.{collect, parts, ⊖-eq, cancel_right, +ℤ-*ℤ, negℤ-*ℤ}
use Rattle.whole.proofs.Order.{AtMost, le_z→AtMost, AtMost→le_z, pos-AtMost, AtMost-pos, AtMost-suc, at_least_zero-monotone, subℕ-negsuc, nat_abs_mul}

-- ---- it is the floor

-- division with remainder: d is the floor times s and the remainder, which is below s
pub floor_remainder-below : (d : ℤ) (s : ℕ) → 1 ≤ s → floor_remainder d s < s
unfolding floor_remainder
floor_remainder-below (pos a) s h = mod-lt a h
floor_remainder-below (negsuc a) s h = omega arith

pub floor-division : (d : ℤ) (s : ℕ) → 1 ≤ s → d ≡ pos (floor_remainder d s) +ℤ floor_divide d s *ℤ pos s
unfolding floor_divide floor_remainder
floor-division (pos a) s h = let e : a ≡ a % s + a / s * s = omega (arith, div-add-mod' a s) in ap pos e
floor-division (negsuc a) s h =
    let below = mod-lt a h in
    let e : suc a + (s - suc (a % s)) ≡ suc (a / s) * s = omega (arith, div-add-mod' a s) in
    negated (pos (suc a)) (pos (s - suc (a % s))) ∙ ap (λ (n : ℕ). pos (s - suc (a % s)) -ℤ pos n) e
  where
    negated : (n r : ℤ) → neg_ℤ n ≡ r -ℤ (n +ℤ r)
    negated n r = rw (parts n, parts r) (simp collect (⊖-eq _ _ _ _ (omega arith)))

-- any division with such a remainder is this one
pub floor-unique : (q : ℤ) (r s : ℕ) → r < s → floor_divide (pos r +ℤ q *ℤ pos s) s ≡ q
unfolding floor_divide
floor-unique (pos k) r s h = ap pos (div-eq_of_lt-le {k = k} s {m = r + k * s} (omega arith) (omega arith))
floor-unique (negsuc k) r s h =
    let size : suc k * s ≡ suc (suc k * s - 1) = omega arith in
    ap (λ (n : ℕ). floor_divide (pos r -ℤ pos n) s) size
    ∙ ap (λ (z : ℤ). floor_divide z s) (subℕ-negsuc r (suc (suc k * s - 1)) (omega arith))
    ∙ ap negsuc (div-eq_of_lt-le {k = k} s {m = suc (suc k * s - 1) - suc r} (omega arith) (omega arith))

pub floor_remainder-unique : (q : ℤ) (r s : ℕ) → r < s → floor_remainder (pos r +ℤ q *ℤ pos s) s ≡ r
floor_remainder-unique q r s h =
    let d : ℤ = pos r +ℤ q *ℤ pos s in
    let e : d ≡ pos (floor_remainder d s) +ℤ q *ℤ pos s =
    floor-division d s (omega arith) ∙ ap (λ (z : ℤ). pos (floor_remainder d s) +ℤ z *ℤ pos s) (floor-unique q r s h) in
    ap nat_abs (cancel_right (pos (floor_remainder d s)) (pos r) (q *ℤ pos s) (sym e))

-- a multiple of s more is its factor more
pub floor-shift : (s : ℕ) → 1 ≤ s → (d h : ℤ) → floor_divide (d +ℤ h *ℤ pos s) s ≡ floor_divide d s +ℤ h
floor-shift s i d h =
    let r : ℕ = floor_remainder d s in
    let q : ℤ = floor_divide d s in
    ap (λ (z : ℤ). floor_divide (z +ℤ h *ℤ pos s) s) (floor-division d s i)
    ∙ ap (λ (z : ℤ). floor_divide z s) (+ℤ_assoc (pos r) (q *ℤ pos s) (h *ℤ pos s) ∙ ap (λ (z : ℤ). pos r +ℤ z) (sym (+ℤ-*ℤ q h (pos s))))
    ∙ floor-unique (q +ℤ h) r s (floor_remainder-below d s i)

div-monotone : (a b s : ℕ) → a ≤ b → a / s ≤ b / s
div-monotone a b zero h = le_of_eq (div-zero a ∙ sym (div-zero b))
div-monotone a b (suc s) h =
    (le-div_iff_mul-le {k = suc s} {x = a / suc s} {y = b} (omega arith)).1 (omega (arith, mul-div-le a (suc s), mul_comm (suc s) (a / suc s)))

pub floor-monotone : (a b : ℤ) (s : ℕ) → AtMost a b → AtMost (floor_divide a s) (floor_divide b s)
unfolding floor_divide
floor-monotone (pos a) (pos b) s h = pos-AtMost (div-monotone a b s (AtMost-pos h))
floor-monotone (pos a) (negsuc b) s h = absurd (AtMost→le_z (pos a) (negsuc b) h)
floor-monotone (negsuc a) (pos b) s h = le_z→AtMost (negsuc (a / s)) (pos (b / s)) tt
floor-monotone (negsuc a) (negsuc b) s h =
    le_z→AtMost (negsuc (a / s)) (negsuc (b / s)) (le→leb (b / s) (a / s) (div-monotone b a s (leb→le b a (AtMost→le_z (negsuc a) (negsuc b) h))))

-- ---- how many multiples of s from 0 on are at most d: max(0, floor(d ÷ s) + 1)

pub count-pos : (a s : ℕ) → at_least_zero (suc_ℤ (floor_divide (pos a) s)) ≡ suc (a / s)
unfolding floor_divide
count-pos a s = refl

pub count-negsuc : (a s : ℕ) → at_least_zero (suc_ℤ (floor_divide (negsuc a) s)) ≡ 0
unfolding floor_divide
count-negsuc a s = general (a / s)
  where
    general : (n : ℕ) → at_least_zero (suc_ℤ (negsuc n)) ≡ 0
    general zero = refl
    general (suc n) = refl

pub count-monotone : (a b : ℤ) (s : ℕ) → AtMost a b → at_least_zero (suc_ℤ (floor_divide a s)) ≤ at_least_zero (suc_ℤ (floor_divide b s))
count-monotone a b s h =
    at_least_zero-monotone (suc_ℤ (floor_divide a s)) (suc_ℤ (floor_divide b s)) (AtMost-suc (floor_divide a s) (floor_divide b s) (floor-monotone a b s h))

-- multiple k is at most d exactly where k is below the count
pub counted-at-most : (d : ℤ) (s k : ℕ) → k < at_least_zero (suc_ℤ (floor_divide d s)) → AtMost (pos (k * s)) d
unfolding floor_divide
counted-at-most (pos a) s k h = pos-AtMost (
    let i : k * s ≤ s * (a / s) = rw (mul_comm k s) (mul-le-mul_left s (omega arith)) in
    omega (arith, mul-div-le a s))
counted-at-most (negsuc a) s k h = absurd (let e = count-negsuc a s in omega arith)

pub at-most-counted : (d : ℤ) (s k : ℕ) → 1 ≤ s → AtMost (pos (k * s)) d → k < at_least_zero (suc_ℤ (floor_divide d s))
unfolding floor_divide
at-most-counted (pos a) s k i h = let j = (le-div_iff_mul-le {k = s} {x = k} {y = a} i).1 (AtMost-pos h) in omega arith
at-most-counted (negsuc a) s k i h = absurd (AtMost→le_z (pos (k * s)) (negsuc a) h)

-- where d is at least -s, the count needs no max, so that it is affine wherever the floor is
pub count-exact : (d : ℤ) (s : ℕ) → T (le_z (neg_ℤ (pos s)) d) → pos (at_least_zero (suc_ℤ (floor_divide d s))) ≡ suc_ℤ (floor_divide d s)
unfolding floor_divide
count-exact (pos a) s h = refl
count-exact (negsuc a) zero h = absurd h
count-exact (negsuc a) (suc s) h =
    let i = leb→le a s h in
    let e : a / suc s ≡ 0 = div-eq_of_lt {n = a} {m = suc s} (omega arith) in
    ap (λ (x : ℕ). pos (at_least_zero (suc_ℤ (negsuc x)))) e ∙ sym (ap (λ (x : ℕ). suc_ℤ (negsuc x)) e)

-- ---- divisibility

pub divides-quotient : (s : ℕ) (z : ℤ) → T (divides s z) → (q : ℤ) × (z ≡ q *ℤ pos s)
divides-quotient s (pos a) t =
    let m = eqb→eq (a % s) 0 t in
    let e : a ≡ a / s * s = omega (arith, div-add-mod' a s) in
    (pos (a / s), ap pos e)
divides-quotient s (negsuc a) t =
    let m = eqb→eq (suc a % s) 0 t in
    let e : suc a ≡ suc a / s * s = omega (arith, div-add-mod' (suc a) s) in
    (neg_ℤ (pos (suc a / s)), ap (λ (x : ℕ). neg_ℤ (pos x)) e ∙ sym (negℤ-*ℤ (pos (suc a / s)) (pos s)))

pub quotient-divides : (s : ℕ) (z q : ℤ) → z ≡ q *ℤ pos s → T (divides s z)
quotient-divides s z q e = rw (e, nat_abs_mul q (pos s), mul-mod_left (nat_abs q) s) (eqb_refl 0)
