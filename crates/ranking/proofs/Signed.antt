-- Coefficients as words: where the values are below `value_limit`, no coefficient is lost modulo 2^64, and words plus 2^63 compare as the coefficients do.
use Rattle.std.proofs.Common.{◌≡◌, ℕ, zero, suc, ◌+◌, ◌-◌, ◌^◌, ◌<◌, ◌≤◌, T, leb, ℤ, pos, negsuc, ◌+ℤ◌, ◌-ℤ◌, neg_ℤ, nat_abs, sym, ap, ◌∙◌, subst, mod-eq_of_lt, arith, le→leb, leb→le}
use lib.IntN.{+ℤ_idr}
use lib.Signed.{le_z}
use Rattle.whole.specs.Integer.{floor_remainder}
use Rattle.whole.proofs.Ring.{cancel_right, right_comm}
use Rattle.meaning.proofs.Logic.{same_truth}
use Rattle.whole.proofs.Order.{AtMost, subℕ-pos, le_z→AtMost, AtMost→le_z, AtMost-add, AtMost-refl, AtMost-subtract, AtMost-restore, pos-AtMost, AtMost-pos, nat_abs-add, nat_abs-neg}
use Rattle.ranking.specs.Series.{rank, value_limit, first_difference, second_difference, third_difference}

-- ---- sizes

nat_abs-sub : (x y : ℤ) (m n : ℕ) → nat_abs x ≤ m → nat_abs y ≤ n → nat_abs (x -ℤ y) ≤ m + n
nat_abs-sub x y m n h k = omega (arith, nat_abs-add x (neg_ℤ y), nat_abs-neg y)

pub small-value : {a : ℕ} → a < value_limit → nat_abs (pos a) < 2 ^ 63
small-value h = omega arith

first-difference-size : {a b : ℕ} → a < value_limit → b < value_limit → nat_abs (first_difference (pos a) (pos b)) ≤ 2 ^ 53
first-difference-size {a} {b} ha hb = omega (arith, nat_abs-sub (pos b) (pos a) (2 ^ 52) (2 ^ 52) (omega arith) (omega arith))

pub small-first-difference : {a b : ℕ} → a < value_limit → b < value_limit → nat_abs (first_difference (pos a) (pos b)) < 2 ^ 63
small-first-difference ha hb = omega (arith, first-difference-size ha hb)

second-difference-size : {a b c : ℕ} → a < value_limit → b < value_limit → c < value_limit → nat_abs (second_difference (pos a) (pos b) (pos c)) ≤ 2 ^ 54
second-difference-size {a} {b} {c} ha hb hc =
    let first = first_difference (pos a) (pos b) in
    let second = first_difference (pos b) (pos c) in
    omega (arith, nat_abs-sub second first (2 ^ 53) (2 ^ 53) (first-difference-size hb hc) (first-difference-size ha hb))

pub small-second-difference : {a b c : ℕ} → a < value_limit → b < value_limit → c < value_limit →
    nat_abs (second_difference (pos a) (pos b) (pos c)) < 2 ^ 63
small-second-difference ha hb hc = omega (arith, second-difference-size ha hb hc)

pub small-third-difference : {a b c d : ℕ} → a < value_limit → b < value_limit → c < value_limit → d < value_limit →
    nat_abs (third_difference (pos a) (pos b) (pos c) (pos d)) < 2 ^ 63
small-third-difference {a} {b} {c} {d} ha hb hc hd =
    let first = second_difference (pos a) (pos b) (pos c) in
    let second = second_difference (pos b) (pos c) (pos d) in
    omega (arith, nat_abs-sub second first (2 ^ 54) (2 ^ 54) (second-difference-size hb hc hd) (second-difference-size ha hb hc))

-- ---- words

remainder-below : (z : ℤ) → floor_remainder z (2 ^ 64) < 2 ^ 64
unfolding floor_remainder
remainder-below (pos n) = omega arith
remainder-below (negsuc n) = omega arith

pub rank_below : (z : ℤ) → rank z < 2 ^ 64
unfolding rank
rank_below z = remainder-below (z +ℤ pos (2 ^ 63))

-- the word of a coefficient is the coefficient plus 2^63
rank-exact : (z : ℤ) → nat_abs z < 2 ^ 63 → pos (rank z) ≡ z +ℤ pos (2 ^ 63)
unfolding rank floor_remainder
rank-exact (pos n) h = ap pos (mod-eq_of_lt (omega arith))
rank-exact (negsuc n) h =
    ap (λ (x : ℤ). pos (floor_remainder x (2 ^ 64))) (subℕ-pos (2 ^ 63) (suc n) (omega arith))
    ∙ ap pos (mod-eq_of_lt (omega arith)) ∙ sym (subℕ-pos (2 ^ 63) (suc n) (omega arith))

-- ---- order

AtMost-cancel : (x y k : ℤ) → AtMost (x +ℤ k) (y +ℤ k) → AtMost x y
AtMost-cancel x y k h = record { gap = h.gap; equation = cancel_right y (x +ℤ pos h.gap) k (h.equation ∙ right_comm x k (pos h.gap)) }

pub rank-order : (z y : ℤ) → nat_abs z < 2 ^ 63 → nat_abs y < 2 ^ 63 → leb (rank y) (rank z) ≡ le_z (pos zero) (z -ℤ y)
rank-order z y hz hy = same_truth (leb (rank y) (rank z)) (le_z (pos zero) (z -ℤ y)) there back
  where
    there : T (leb (rank y) (rank z)) → T (le_z (pos zero) (z -ℤ y))
    there t =
        let words = subst (λ (x : ℤ). AtMost x (z +ℤ pos (2 ^ 63))) (rank-exact y hy)
        (subst (AtMost (pos (rank y))) (rank-exact z hz) (pos-AtMost (leb→le (rank y) (rank z) t))) in
        AtMost→le_z (pos zero) (z -ℤ y) (AtMost-subtract y (pos zero) z
        (subst (λ (x : ℤ). AtMost x z) (sym (+ℤ_idr y)) (AtMost-cancel y z (pos (2 ^ 63)) words)))

    back : T (le_z (pos zero) (z -ℤ y)) → T (leb (rank y) (rank z))
    back t =
        let order = subst (λ (x : ℤ). AtMost x z) (+ℤ_idr y) (AtMost-restore y (pos zero) z (le_z→AtMost (pos zero) (z -ℤ y) t)) in
        let words = AtMost-add y z (pos (2 ^ 63)) (pos (2 ^ 63)) order (AtMost-refl (pos (2 ^ 63))) in
        le→leb (rank y) (rank z) (AtMost-pos (subst (λ (x : ℤ). AtMost x (pos (rank z))) (sym (rank-exact y hy))
        (subst (AtMost (y +ℤ pos (2 ^ 63))) (sym (rank-exact z hz)) words)))

-- words that are turned compare the other way round
pub turned-order : (x y : ℕ) → x < 2 ^ 64 → y < 2 ^ 64 → leb (2 ^ 64 - 1 - x) (2 ^ 64 - 1 - y) ≡ leb y x
turned-order x y hx hy = same_truth (leb (2 ^ 64 - 1 - x) (2 ^ 64 - 1 - y)) (leb y x)
    (λ t. le→leb y x (let h = leb→le (2 ^ 64 - 1 - x) (2 ^ 64 - 1 - y) t in omega arith))
    (λ t. le→leb (2 ^ 64 - 1 - x) (2 ^ 64 - 1 - y) (let h = leb→le y x t in omega arith))
