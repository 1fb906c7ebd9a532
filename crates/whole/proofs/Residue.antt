-- Arithmetic modulo a number follows that of the integers; so does Newton's sum of four values.
use mathlib.Core.Path.{◌≡◌, sym, ◌∙◌, ap, ap₂}
use Prim.Native.Nat.{ℕ, zero, ◌+◌, ◌*◌, ◌/◌, ◌%◌, ◌<◌}
use native.Mathlib.Omega.{arith}
use native.Mathlib.Nat.{div-add-mod'}
use lib.IntN.{ℤ, pos, ◌+ℤ◌, ◌-ℤ◌, ◌*ℤ◌}
use Rattle.whole.specs.Integer.{floor_divide, floor_remainder}
use Rattle.whole.specs.Newton.{weighted_differences}
use Rattle.whole.specs.Residue.{Congruent}
use Rattle.whole.proofs.Ring.{collect, parts, ⊖-eq, expand, sort-sums, sort-products}
use Rattle.whole.proofs.Floor.{floor-division, floor_remainder-unique}

-- ---- sums, products, remainders, for any modulus M

module _ (M : ℕ) where
  pub congruent-pos : (r : ℕ) → Congruent M r (pos r)
  congruent-pos r = record { quotient = pos zero; equation = identity (pos r) (pos M) }
    where
      identity : (a m : ℤ) → a ≡ a +ℤ pos zero *ℤ m
      identity a m = rw (parts a, parts m) (simp collect (⊖-eq _ _ _ _ (omega arith)))

  pub congruent-add : {a b : ℕ} {x y : ℤ} → Congruent M a x → Congruent M b y → Congruent M (a + b) (x +ℤ y)
  congruent-add {a} {b} h i =
      record {
        quotient = h.quotient +ℤ i.quotient;
        equation = ap₂ ◌+ℤ◌ h.equation i.equation
            ∙ identity (pos a) (pos b) h.quotient i.quotient (pos M);
      }
    where
      identity : (a b k l m : ℤ) → (a +ℤ k *ℤ m) +ℤ (b +ℤ l *ℤ m) ≡ (a +ℤ b) +ℤ (k +ℤ l) *ℤ m
      identity a b k l m = simp expand (simp sort-sums)

  pub congruent-mul : {a b : ℕ} {x y : ℤ} → Congruent M a x → Congruent M b y → Congruent M (a * b) (x *ℤ y)
  congruent-mul {a} {b} h i = record {
    quotient = pos a *ℤ i.quotient +ℤ pos b *ℤ h.quotient +ℤ h.quotient *ℤ i.quotient *ℤ pos M;
    equation = ap₂ ◌*ℤ◌ h.equation i.equation ∙ identity (pos a) (pos b) h.quotient i.quotient (pos M);
  }
    where
      identity : (a b k l m : ℤ) → (a +ℤ k *ℤ m) *ℤ (b +ℤ l *ℤ m) ≡ a *ℤ b +ℤ (a *ℤ l +ℤ b *ℤ k +ℤ k *ℤ l *ℤ m) *ℤ m
      identity a b k l m = simp expand (simp (sort-sums, sort-products))

  -- the remainder of a residue is one too, and what has a residue for its remainder
  pub congruent-mod : {a : ℕ} {z : ℤ} → Congruent M a z → Congruent M (a % M) z
  congruent-mod {a} h = record {
    quotient = h.quotient +ℤ pos (a / M);
    equation =
        h.equation ∙ ap (λ (n : ℕ). pos n +ℤ h.quotient *ℤ pos M) (sym (div-add-mod' a M)) ∙ identity (pos (a / M)) (pos M) (pos (a % M)) h.quotient;
  }
    where
      identity : (q m r k : ℤ) → (q *ℤ m +ℤ r) +ℤ k *ℤ m ≡ r +ℤ (k +ℤ q) *ℤ m
      identity q m r k = simp expand (simp sort-sums)

  pub congruent-unmod : (a : ℕ) {z : ℤ} → Congruent M (a % M) z → Congruent M a z
  congruent-unmod a h = record {
    quotient = h.quotient -ℤ pos (a / M);
    equation =
        h.equation ∙ identity (pos (a / M)) (pos M) (pos (a % M)) h.quotient
        ∙ ap (λ (n : ℕ). pos n +ℤ (h.quotient -ℤ pos (a / M)) *ℤ pos M) (div-add-mod' a M);
  }
    where
      identity : (q m r k : ℤ) → r +ℤ k *ℤ m ≡ (q *ℤ m +ℤ r) +ℤ (k -ℤ q) *ℤ m
      identity q m r k = rw (parts q, parts m, parts r, parts k) (simp collect (⊖-eq _ _ _ _ (omega arith)))

  -- the wrapping operations, as std's contracts state them
  pub congruent-wrapping-add : {a b r : ℕ} {x y : ℤ} → r ≡ (a + b) % M → Congruent M a x → Congruent M b y → Congruent M r (x +ℤ y)
  congruent-wrapping-add e h i = rw e (congruent-mod (congruent-add h i))

  pub congruent-wrapping-mul : {a b r : ℕ} {x y : ℤ} → r ≡ (a * b) % M → Congruent M a x → Congruent M b y → Congruent M r (x *ℤ y)
  congruent-wrapping-mul e h i = rw e (congruent-mod (congruent-mul h i))

  pub congruent-wrapping-sub : {a b r : ℕ} {x y : ℤ} → (r + b) % M ≡ a → Congruent M a x → Congruent M b y → Congruent M r (x -ℤ y)
  congruent-wrapping-sub {b} {r} {x} e h i =
      let j : Congruent M (r + b) x = congruent-unmod (r + b) (rw e h) in
      record {
        quotient = j.quotient -ℤ i.quotient;
        equation = ap₂ ◌-ℤ◌ j.equation i.equation
            ∙ identity (pos r) (pos b) j.quotient i.quotient (pos M);
      }
    where
      identity : (r b k l m : ℤ) → ((r +ℤ b) +ℤ k *ℤ m) -ℤ (b +ℤ l *ℤ m) ≡ r +ℤ (k -ℤ l) *ℤ m
      identity r b k l m = rw (parts r, parts b, parts k, parts l, parts m) (simp collect (⊖-eq _ _ _ _ (omega arith)))

  -- the one residue below the modulus is the remainder of the division that rounds down
  pub congruent-floor_remainder : 0 < M → (z : ℤ) → Congruent M (floor_remainder z M) z
  congruent-floor_remainder positive z = record { quotient = floor_divide z M; equation = floor-division z M positive }

  pub congruent-unique : {r : ℕ} {z : ℤ} → r < M → Congruent M r z → r ≡ floor_remainder z M
  congruent-unique {r} r-below h = sym (ap (λ (z : ℤ). floor_remainder z M) h.equation ∙ floor_remainder-unique h.quotient r M r-below)

-- ---- Newton's sum modulo M, from residues of four values and of the weights
-- t0, t1, .. are residues of the values v0, v1, .., c1, c2, .. those of the weights w1, w2, ..; d21 is the wrapped difference of order 2 at 1;
-- m0, m1, .. are the wrapped terms, and s2, s1, r their wrapped sums from the last term on.

module _ (M : ℕ) where
  pub congruent-weighted : {v0 v1 v2 v3 : ℤ} {t0 t1 t2 t3 w1 w2 w3 w4 c1 c2 c3 c4 : ℕ} (d10 d11 d12 d20 d21 d30 m0 m1 m2 m3 s2 s1 r : ℕ)
      → Congruent M t0 v0 → Congruent M t1 v1 → Congruent M t2 v2 → Congruent M t3 v3
      → Congruent M c1 (pos w1) → Congruent M c2 (pos w2) → Congruent M c3 (pos w3) → Congruent M c4 (pos w4)
      → (d10 + t0) % M ≡ t1 → (d11 + t1) % M ≡ t2 → (d12 + t2) % M ≡ t3
      → (d20 + d10) % M ≡ d11 → (d21 + d11) % M ≡ d12 → (d30 + d20) % M ≡ d21
      → m0 ≡ (t0 * c1) % M → m1 ≡ (d10 * c2) % M → m2 ≡ (d20 * c3) % M → m3 ≡ (d30 * c4) % M
      → s2 ≡ (m2 + m3) % M → s1 ≡ (m1 + s2) % M → r ≡ (m0 + s1) % M
      → Congruent M r (weighted_differences v0 v1 v2 v3 w1 w2 w3 w4)
  unfolding weighted_differences
  congruent-weighted d10 d11 d12 d20 d21 d30 m0 m1 m2 m3 s2 s1 r h0 h1 h2 h3 k1 k2 k3 k4 e10 e11 e12 e20 e21 e30 f0 f1 f2 f3 g2 g1 g0 =
      let r10 = congruent-wrapping-sub M e10 h1 h0 in
      let r11 = congruent-wrapping-sub M e11 h2 h1 in
      let r12 = congruent-wrapping-sub M e12 h3 h2 in
      let r20 = congruent-wrapping-sub M e20 r11 r10 in
      let r21 = congruent-wrapping-sub M e21 r12 r11 in
      let r30 = congruent-wrapping-sub M e30 r21 r20 in
      congruent-wrapping-add M g0 (congruent-wrapping-mul M f0 h0 k1)
      (congruent-wrapping-add M g1 (congruent-wrapping-mul M f1 r10 k2)
      (congruent-wrapping-add M g2 (congruent-wrapping-mul M f2 r20 k3) (congruent-wrapping-mul M f3 r30 k4)))
