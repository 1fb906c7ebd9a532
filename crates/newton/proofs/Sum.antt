-- The differences and the weighted sum modulo 2^64 from their wrapped parts; and that with the weights of n it is Newton's sum of n values.
use Rattle.std.proofs.Common.{◌≡◌, ℕ, ◌+◌, ◌*◌, ◌-◌, ◌%◌, ◌^◌, ◌<◌, ◌≤◌, refl, List, [], ◌∷◌, map, length, get_or, take, ℤ, pos, ◌+ℤ◌, ◌-ℤ◌, ◌*ℤ◌, sym, ap, ◌∙◌, arith}
use Rattle.whole.specs.Integer.{floor_remainder}
use Rattle.whole.specs.Newton.{newton_sum, weighted_differences}
use Rattle.whole.specs.Residue.{Congruent}
use Rattle.meaning.specs.Limits.{depth_limit}
use Rattle.whole.proofs.Residue.{congruent-pos, congruent-unique, congruent-floor_remainder, congruent-wrapping-add, congruent-wrapping-sub, congruent-wrapping-mul, congruent-weighted}
use Rattle.whole.proofs.Newton.{newton_sum-padded}
use Rattle.newton.specs.declared.Weights.{Weights}
use Rattle.newton.specs.Weights.{weights_of, word_of, differences_of, weighted_sum}

-- a difference that wraps, as the code's `wrapping_sub` gives it
abbrev less : ℕ → ℕ → ℕ
less a b = (a + (2 ^ 64 - b)) % 2 ^ 64

-- the word stands for the number modulo 2^64
abbrev Held : ℕ → ℤ → Type 0
Held = Congruent (2 ^ 64)

held-less : {a b : ℕ} {x y : ℤ} → a < 2 ^ 64 → b < 2 ^ 64 → Held a x → Held b y → Held (less a b) (x -ℤ y)
held-less {a} {b} h k p q = let e : (less a b + b) % 2 ^ 64 ≡ a = omega arith in congruent-wrapping-sub (2 ^ 64) e p q

less-fits : (a b : ℕ) → less a b < 2 ^ 64
less-fits a b = omega arith

held-word : {r : ℕ} {z : ℤ} → r < 2 ^ 64 → Held r z → r ≡ word_of z
held-word h p = congruent-unique (2 ^ 64) (omega arith) p

-- the words of four values' differences
module _ (p : List ℕ) (fits : (k : ℕ) → get_or p k 0 < 2 ^ 64) where
  abbrev first-difference : ℕ
  first-difference = less (get_or p 1 0) (get_or p 0 0)

  abbrev next-first : ℕ
  next-first = less (get_or p 2 0) (get_or p 1 0)

  abbrev last-first : ℕ
  last-first = less (get_or p 3 0) (get_or p 2 0)

  abbrev second-difference : ℕ
  second-difference = less next-first first-difference

  abbrev next-second : ℕ
  next-second = less last-first next-first

  pub wrapped-differences : get_or p 0 0 ∷ first-difference ∷ second-difference ∷ less next-second second-difference ∷ [] ≡ differences_of p
  unfolding differences_of
  wrapped-differences =
      let value : (k : ℕ) → Held (get_or p k 0) (pos (get_or p k 0)) = λ k. congruent-pos (2 ^ 64) (get_or p k 0) in
      let first = held-less (fits 1) (fits 0) (value 1) (value 0) in
      let next = held-less (fits 2) (fits 1) (value 2) (value 1) in
      let last = held-less (fits 3) (fits 2) (value 3) (value 2) in
      let second = held-less (less-fits _ _) (less-fits _ _) next first in
      let after = held-less (less-fits _ _) (less-fits _ _) last next in
      let third = held-less (less-fits _ _) (less-fits _ _) after second in
      λ i. held-word (fits 0) (value 0) i ∷ held-word (less-fits _ _) first i ∷ held-word (less-fits _ _) second i ∷ held-word (less-fits _ _) third i ∷ []

-- from the wrapped differences, products and sums, which have the code's names
pub wrapped_sum : (w : Weights) (p : List ℕ) (first-difference second-difference third-difference : ℕ)
    {next-first last-first next-second by_one by_two by_three by-four from-three from-two r : ℕ}
    → (first-difference + get_or p 0 0) % 2 ^ 64 ≡ get_or p 1 0 → (next-first + get_or p 1 0) % 2 ^ 64 ≡ get_or p 2 0 → (last-first + get_or p 2 0) % 2 ^ 64 ≡ get_or p 3 0
    → (second-difference + first-difference) % 2 ^ 64 ≡ next-first → (next-second + next-first) % 2 ^ 64 ≡ last-first
    → (third-difference + second-difference) % 2 ^ 64 ≡ next-second
    → by_one ≡ (get_or p 0 0 * w.one) % 2 ^ 64 → by_two ≡ (first-difference * w.two) % 2 ^ 64 → by_three ≡ (second-difference * w.three) % 2 ^ 64
    → by-four ≡ (third-difference * w.four) % 2 ^ 64
    → from-three ≡ (by_three + by-four) % 2 ^ 64 → from-two ≡ (by_two + from-three) % 2 ^ 64 → r ≡ (by_one + from-two) % 2 ^ 64
    → r ≡ floor_remainder (weighted_sum w p) (2 ^ 64)
unfolding weighted_sum
wrapped_sum w p first-difference second-difference third-difference e1 e2 e3 e4 e5 e6 f1 f2 f3 f4 g1 g2 g3 =
    congruent-unique (2 ^ 64) (omega arith)
    (congruent-weighted (2 ^ 64) first-difference _ _ second-difference _ third-difference _ _ _ _ _ _ _ (value 0) (value 1) (value 2) (value 3)
    (congruent-pos (2 ^ 64) w.one) (congruent-pos (2 ^ 64) w.two) (congruent-pos (2 ^ 64) w.three) (congruent-pos (2 ^ 64) w.four)
    e1 e2 e3 e4 e5 e6 f1 f2 f3 f4 g1 g2 g3)
  where
    value : (k : ℕ) → Held (get_or p k 0) (pos (get_or p k 0))
    value k = congruent-pos (2 ^ 64) (get_or p k 0)

-- the words of the differences, each times its weight, added up
abbrev pub added_up : Weights → List ℕ → ℕ
added_up w d =
    ((get_or d 0 0 * w.one) % 2 ^ 64
    + ((get_or d 1 0 * w.two) % 2 ^ 64 + ((get_or d 2 0 * w.three) % 2 ^ 64 + (get_or d 3 0 * w.four) % 2 ^ 64) % 2 ^ 64) % 2 ^ 64) % 2 ^ 64

pub differences-sum : (w : Weights) (p : List ℕ) {d : List ℕ} → d ≡ differences_of p → added_up w d ≡ floor_remainder (weighted_sum w p) (2 ^ 64)
unfolding weighted_sum weighted_differences differences_of
differences-sum w p e =
    ap (added_up w) e
    ∙ congruent-unique (2 ^ 64) (omega arith)
    (plus (times _ w.one) (plus (times _ w.two) (plus (times _ w.three) (times _ w.four))))
  where
    times : (z : ℤ) (weight : ℕ) → Held ((word_of z * weight) % 2 ^ 64) (z *ℤ pos weight)
    times z weight =
        congruent-wrapping-mul (2 ^ 64) refl (congruent-floor_remainder (2 ^ 64) (omega arith) z) (congruent-pos (2 ^ 64) weight)

    plus : {a b : ℕ} {x y : ℤ} → Held a x → Held b y → Held ((a + b) % 2 ^ 64) (x +ℤ y)
    plus h k = congruent-wrapping-add (2 ^ 64) refl h k

-- with the weights of n, Newton's sum of n values from the known ones; the values past them have no effect
pub weights-newton : (n known : ℕ) (p : List ℕ) → known ≤ depth_limit → length p ≡ depth_limit
    → weighted_sum (weights_of n known) p ≡ newton_sum n (take known (map pos p))
unfolding weighted_sum weights_of
weights-newton n known [] few e = absurd (omega arith)
weights-newton n known (a ∷ []) few e = absurd (omega arith)
weights-newton n known (a ∷ b ∷ []) few e = absurd (omega arith)
weights-newton n known (a ∷ b ∷ c ∷ []) few e = absurd (omega arith)
weights-newton n known (a ∷ b ∷ c ∷ d ∷ []) few e = sym (newton_sum-padded n known (pos a) (pos b) (pos c) (pos d) few)
weights-newton n known (a ∷ b ∷ c ∷ d ∷ x ∷ p) few e = absurd (omega arith)
