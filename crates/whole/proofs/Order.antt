-- The order of the integers: it is kept by sums, and by products up to the sign of the factor; the sizes of sums and products.
use mathlib.Core.Path.{◌≡◌, refl, sym, ap, ◌∙◌, subst}
use mathlib.Core.Bool.{Bool, true, false, not, cond}
use Prim.Native.Nat.{ℕ, zero, suc, ◌+◌, ◌*◌, ◌-◌, ◌^◌, ◌≤◌, ◌<◌}
use native.Mathlib.Nat.{mul-le-mul}
use native.Mathlib.Omega.{arith}
use lib.IntN.{ℤ, pos, negsuc, neg_ℤ, nat_abs, suc_ℤ, sub_ℕ, ◌+ℤ◌, ◌-ℤ◌, ◌*ℤ◌, suc_ℤ-+ℤ, +ℤ_assoc, +ℤ_comm, +ℤ_idr, -ℤ-+ℤ_cancel}
use lib.Signed.{◌≤ℤ◌, le_z, mag}
use lib.Dec.{T, ltb, leb→le, le→leb, ltb→lt, lt→ltb, nleb→lt, leb-zero, leb-suc-zero, leb-suc-suc}
use mir.Syntax.{w64}
use mir.Val.{SFits}
use Rattle.whole.specs.Integer.{larger, smaller, at_least_zero}
use Rattle.whole.proofs.Ring.{*ℤ-+ℤ, medial, move-left, move-right}

-- b is a plus a natural
pub record AtMost (a b : ℤ) : Type 0 where
  pub gap : ℕ
  pub equation : b ≡ a +ℤ pos gap

-- ---- the difference of two naturals, by which of them is larger

pub subℕ-pos : (a b : ℕ) → b ≤ a → sub_ℕ a b ≡ pos (a - b)
subℕ-pos a b h = by-test (ltb a b) refl
  where
    by-test : (c : Bool) → ltb a b ≡ c → cond c (negsuc (b - suc a)) (pos (a - b)) ≡ pos (a - b)
    by-test true e = absurd (let k = ltb→lt a b (subst T (sym e) tt) in omega arith)
    by-test false e = refl

pub subℕ-negsuc : (a b : ℕ) → a < b → sub_ℕ a b ≡ negsuc (b - suc a)
subℕ-negsuc a b h = by-test (ltb a b) (lt→ltb a b h)
  where
    by-test : (c : Bool) → T c → cond c (negsuc (b - suc a)) (pos (a - b)) ≡ negsuc (b - suc a)
    by-test true t = refl
    by-test false t = absurd t

-- ---- the test that decides the order

pub le_z→AtMost : (a b : ℤ) → T (le_z a b) → AtMost a b
le_z→AtMost (pos a) (pos b) t = let h = leb→le a b t in let e : b ≡ a + (b - a) = omega arith in record { gap = b - a; equation = ap pos e }
le_z→AtMost (pos a) (negsuc b) t = absurd t
le_z→AtMost (negsuc a) (pos b) t =
    let e : b ≡ b + suc a - suc a = omega arith in
    record { gap = b + suc a; equation = ap pos e ∙ sym (subℕ-pos (b + suc a) (suc a) (omega arith)) }
le_z→AtMost (negsuc a) (negsuc b) t =
    let h = leb→le b a t in
    let e : b ≡ suc a - suc (a - b) = omega arith in
    record { gap = a - b; equation = ap negsuc e ∙ sym (subℕ-negsuc (a - b) (suc a) (omega arith)) }

le_z-gap : (a : ℤ) (n : ℕ) → T (le_z a (a +ℤ pos n))
le_z-gap (pos a) n = le→leb a (a + n) (omega arith)
le_z-gap (negsuc a) n = by-test (ltb n (suc a))
  where
    by-test : (c : Bool) → T (le_z (negsuc a) (cond c (negsuc (suc a - suc n)) (pos (n - suc a))))
    by-test true = le→leb (suc a - suc n) a (omega arith)
    by-test false = tt

pub AtMost→le_z : (a b : ℤ) → AtMost a b → T (le_z a b)
AtMost→le_z a b h = subst (λ (x : ℤ). T (le_z a x)) (sym h.equation) (le_z-gap a h.gap)

-- the test failed: the order is the other way
pub not-le_z→AtMost : (a b : ℤ) → T (not (le_z a b)) → AtMost b a
not-le_z→AtMost (pos a) (pos b) t = le_z→AtMost (pos b) (pos a) (le→leb b a (let k = nleb→lt a b t in omega arith))
not-le_z→AtMost (pos a) (negsuc b) t = le_z→AtMost (negsuc b) (pos a) tt
not-le_z→AtMost (negsuc a) (pos b) t = absurd t
not-le_z→AtMost (negsuc a) (negsuc b) t = le_z→AtMost (negsuc b) (negsuc a) (le→leb a b (let k = nleb→lt b a t in omega arith))

-- the library's order
pub ≤ℤ→AtMost : {a b : ℤ} → a ≤ℤ b → AtMost a b
≤ℤ→AtMost {a} {b} h = le_z→AtMost a b h.le

pub AtMost→≤ℤ : {a b : ℤ} → AtMost a b → a ≤ℤ b
AtMost→≤ℤ {a} {b} h = record { le = AtMost→le_z a b h }

-- ---- laws of the order

pub AtMost-refl : (a : ℤ) → AtMost a a
AtMost-refl a = record { gap = 0; equation = sym (+ℤ_idr a) }

pub AtMost-trans : (a b c : ℤ) → AtMost a b → AtMost b c → AtMost a c
AtMost-trans a b c h k =
    record { gap = h.gap + k.gap; equation = k.equation ∙ ap (λ (x : ℤ). x +ℤ pos k.gap) h.equation ∙ +ℤ_assoc a (pos h.gap) (pos k.gap) }

pub AtMost-add : (a b c d : ℤ) → AtMost a b → AtMost c d → AtMost (a +ℤ c) (b +ℤ d)
AtMost-add a b c d h k = record { gap = h.gap + k.gap; equation = (λ i. h.equation i +ℤ k.equation i) ∙ medial a (pos h.gap) c (pos k.gap) }

pub AtMost-suc : (a b : ℤ) → AtMost a b → AtMost (suc_ℤ a) (suc_ℤ b)
AtMost-suc a b h = record { gap = h.gap; equation = ap suc_ℤ h.equation ∙ sym (suc_ℤ-+ℤ a (pos h.gap)) }

-- a factor that is not negative keeps the order, and a negative one turns it
pub AtMost-scale-pos : (k : ℕ) (a b : ℤ) → AtMost a b → AtMost (pos k *ℤ a) (pos k *ℤ b)
AtMost-scale-pos k a b h = record { gap = k * h.gap; equation = ap (λ (x : ℤ). pos k *ℤ x) h.equation ∙ *ℤ-+ℤ (pos k) a (pos h.gap) }

pub AtMost-scale-negsuc : (k : ℕ) (a b : ℤ) → AtMost a b → AtMost (negsuc k *ℤ b) (negsuc k *ℤ a)
AtMost-scale-negsuc k a b h = record {
  gap = suc k * h.gap;
  equation = sym (
      ap (λ (x : ℤ). x +ℤ pos (suc k * h.gap)) (ap (λ (x : ℤ). negsuc k *ℤ x) h.equation ∙ *ℤ-+ℤ (negsuc k) a (pos h.gap))
      ∙ -ℤ-+ℤ_cancel (negsuc k *ℤ a) (pos (suc k * h.gap)));
}

-- naturals among the integers
pub pos-AtMost : {a b : ℕ} → a ≤ b → AtMost (pos a) (pos b)
pos-AtMost {a} {b} h = le_z→AtMost (pos a) (pos b) (le→leb a b h)

pub AtMost-pos : {a b : ℕ} → AtMost (pos a) (pos b) → a ≤ b
AtMost-pos {a} {b} h = leb→le a b (AtMost→le_z (pos a) (pos b) h)

pub at_least_zero-monotone : (a b : ℤ) → AtMost a b → at_least_zero a ≤ at_least_zero b
at_least_zero-monotone (pos a) (pos b) h = AtMost-pos h
at_least_zero-monotone (pos a) (negsuc b) h = absurd (AtMost→le_z (pos a) (negsuc b) h)
at_least_zero-monotone (negsuc a) b h = omega arith

-- a term moved to the other side
pub AtMost-subtract : (a b c : ℤ) → AtMost (a +ℤ b) c → AtMost b (c -ℤ a)
AtMost-subtract a b c h = record { gap = h.gap; equation = move-left c a (b +ℤ pos h.gap) (h.equation ∙ +ℤ_assoc a b (pos h.gap)) }

pub AtMost-restore : (a b c : ℤ) → AtMost b (c -ℤ a) → AtMost (a +ℤ b) c
AtMost-restore a b c h = record { gap = h.gap; equation = move-right c a (b +ℤ pos h.gap) h.equation ∙ sym (+ℤ_assoc a b (pos h.gap)) }

-- and two terms exchanged
pub AtMost-exchange : (a b c : ℤ) → AtMost b (c -ℤ a) → AtMost a (c -ℤ b)
AtMost-exchange a b c h = AtMost-subtract b a c (subst (λ (x : ℤ). AtMost x c) (+ℤ_comm a b) (AtMost-restore a b c h))

pub AtMost-less : (a : ℤ) (n : ℕ) → AtMost (a -ℤ pos n) a
AtMost-less a n = record { gap = n; equation = sym (-ℤ-+ℤ_cancel a (pos n)) }

-- ---- the larger and the smaller of two

pub larger-left : (a b : ℤ) → AtMost a (larger a b)
larger-left a b = by-test (le_z a b) refl
  where
    by-test : (c : Bool) → le_z a b ≡ c → AtMost a (cond c b a)
    by-test true e = le_z→AtMost a b (subst T (sym e) tt)
    by-test false e = AtMost-refl a

pub larger-right : (a b : ℤ) → AtMost b (larger a b)
larger-right a b = by-test (le_z a b) refl
  where
    by-test : (c : Bool) → le_z a b ≡ c → AtMost b (cond c b a)
    by-test true e = AtMost-refl b
    by-test false e = not-le_z→AtMost a b (subst (λ (c : Bool). T (not c)) (sym e) tt)

pub smaller-left : (a b : ℤ) → AtMost (smaller a b) a
smaller-left a b = by-test (le_z a b) refl
  where
    by-test : (c : Bool) → le_z a b ≡ c → AtMost (cond c a b) a
    by-test true e = AtMost-refl a
    by-test false e = not-le_z→AtMost a b (subst (λ (c : Bool). T (not c)) (sym e) tt)

pub smaller-right : (a b : ℤ) → AtMost (smaller a b) b
smaller-right a b = by-test (le_z a b) refl
  where
    by-test : (c : Bool) → le_z a b ≡ c → AtMost (cond c a b) b
    by-test true e = le_z→AtMost a b (subst T (sym e) tt)
    by-test false e = AtMost-refl b

-- negation turns the order
pub le_z-neg : (a b : ℤ) → le_z (neg_ℤ a) (neg_ℤ b) ≡ le_z b a
le_z-neg (pos zero) (pos zero) = refl
le_z-neg (pos zero) (pos (suc b)) = sym (leb-suc-zero b)
le_z-neg (pos zero) (negsuc b) = leb-zero (suc b)
le_z-neg (pos (suc a)) (pos zero) = sym (leb-zero (suc a))
le_z-neg (pos (suc a)) (pos (suc b)) = sym (leb-suc-suc b a)
le_z-neg (pos (suc a)) (negsuc b) = refl
le_z-neg (negsuc a) (pos zero) = leb-suc-zero a
le_z-neg (negsuc a) (pos (suc b)) = refl
le_z-neg (negsuc a) (negsuc b) = leb-suc-suc a b

pub larger-neg : (a b : ℤ) → larger (neg_ℤ a) (neg_ℤ b) ≡ neg_ℤ (smaller b a)
larger-neg a b = ap (λ (c : Bool). cond c (neg_ℤ b) (neg_ℤ a)) (le_z-neg a b) ∙ by-test (le_z b a)
  where
    by-test : (c : Bool) → cond c (neg_ℤ b) (neg_ℤ a) ≡ neg_ℤ (cond c b a)
    by-test true = refl
    by-test false = refl

-- ---- sizes

pub nat_abs-neg : (z : ℤ) → nat_abs (neg_ℤ z) ≡ nat_abs z
nat_abs-neg (pos zero) = refl
nat_abs-neg (pos (suc n)) = refl
nat_abs-neg (negsuc n) = refl

nat_abs-subℕ : (a b : ℕ) → nat_abs (sub_ℕ a b) ≤ a + b
nat_abs-subℕ a b = by-test (ltb a b) refl
  where
    by-test : (c : Bool) → ltb a b ≡ c → nat_abs (cond c (negsuc (b - suc a)) (pos (a - b))) ≤ a + b
    by-test true e = let k = ltb→lt a b (subst T (sym e) tt) in omega arith
    by-test false e = omega arith

pub nat_abs-add : (a b : ℤ) → nat_abs (a +ℤ b) ≤ nat_abs a + nat_abs b
nat_abs-add (pos a) (pos b) = omega arith
nat_abs-add (pos a) (negsuc b) = nat_abs-subℕ a (suc b)
nat_abs-add (negsuc a) (pos b) = omega (arith, nat_abs-subℕ b (suc a))
nat_abs-add (negsuc a) (negsuc b) = omega arith

pub nat_abs_mul : (a b : ℤ) → nat_abs (a *ℤ b) ≡ nat_abs a * nat_abs b
nat_abs_mul (pos a) (pos b) = refl
nat_abs_mul (pos a) (negsuc b) = nat_abs-neg (pos (a * suc b))
nat_abs_mul (negsuc a) (pos b) = nat_abs-neg (pos (suc a * b))
nat_abs_mul (negsuc a) (negsuc b) = refl

pub nat_abs-mul-le : (a b : ℤ) {m n : ℕ} → nat_abs a ≤ m → nat_abs b ≤ n → nat_abs (a *ℤ b) ≤ m * n
nat_abs-mul-le a b h k = rw (nat_abs_mul a b) (mul-le-mul h k)

pub mag-le-nat_abs : (z : ℤ) → mag z ≤ nat_abs z
mag-le-nat_abs (pos n) = omega arith
mag-le-nat_abs (negsuc n) = omega arith

-- within the signed numbers of 64 bits
pub fits-signed-64 : (z : ℤ) → nat_abs z < 2 ^ 63 → SFits w64 z
fits-signed-64 z h = record { sfits = omega (arith, mag-le-nat_abs z) }

-- between -n and n is of size at most n, and the other way round
pub nat_abs-between : (z : ℤ) (n : ℕ) → AtMost (neg_ℤ (pos n)) z → AtMost z (pos n) → nat_abs z ≤ n
nat_abs-between (pos a) n low high = AtMost-pos high
nat_abs-between (negsuc a) zero low high = absurd (AtMost→le_z (pos zero) (negsuc a) low)
nat_abs-between (negsuc a) (suc n) low high = let k = leb→le a n (AtMost→le_z (negsuc n) (negsuc a) low) in omega arith

pub nat_abs-above : (z : ℤ) (n : ℕ) → nat_abs z ≤ n → AtMost z (pos n)
nat_abs-above (pos a) n h = pos-AtMost h
nat_abs-above (negsuc a) n h = le_z→AtMost (negsuc a) (pos n) tt

pub nat_abs-below : (z : ℤ) (n : ℕ) → nat_abs z ≤ n → AtMost (neg_ℤ (pos n)) z
nat_abs-below (pos a) zero h = pos-AtMost (omega arith)
nat_abs-below (negsuc a) zero h = absurd (omega arith)
nat_abs-below (pos a) (suc n) h = le_z→AtMost (negsuc n) (pos a) tt
nat_abs-below (negsuc a) (suc n) h = le_z→AtMost (negsuc n) (negsuc a) (le→leb a n (omega arith))
