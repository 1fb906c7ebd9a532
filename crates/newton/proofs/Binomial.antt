-- The weights as the code works them out: each from the one before, the size of the product on the way, and which of them are known.
use Rattle.std.proofs.Common.{◌≡◌, ℕ, zero, suc, ◌-◌, ◌*◌, ◌/◌, ◌^◌, ◌<◌, ◌≤◌, cond, leb, ap, ◌∙◌, ap₂, mul-le-mul, pow-suc, arith, le-leb}
use native.Mathlib.Nat.{pow-le-pow_right}
use borrow.Author.Tests.{lt-leb}
use Rattle.whole.specs.Newton.{choose, weight}
use Rattle.meaning.specs.Limits.{ceiling_limit}
use Rattle.whole.proofs.Choose.{choose-step, choose-quotient}
use Rattle.newton.specs.Weights.{weights_of}

choose-size : (n k : ℕ) → n ≤ ceiling_limit → choose n k ≤ ceiling_limit ^ k
unfolding choose
choose-size n zero h = omega arith
choose-size n (suc k) h = general (choose n (suc k)) (choose n k) (n - k) (choose-step n k) (mul-le-mul (choose-size n k h) fewer)
  where
    fewer : n - k ≤ ceiling_limit
    fewer = omega arith

    general : (next this left : ℕ) → next * suc k ≡ this * left → this * left ≤ ceiling_limit ^ k * ceiling_limit → next ≤ ceiling_limit ^ suc k
    general next this left e bound = omega (arith, pow-suc ceiling_limit k)

-- C(n, k + 1) from C(n, k), with what the code is told of that, of n and of n - k
module _ {n : ℕ} (k : ℕ) {trips this left : ℕ} (d : trips ≡ n) (e : this ≡ choose n k) (f : left ≡ trips - k) where
  pub next-is : this * left / suc k ≡ choose n (suc k)
  next-is = ap₂ (λ (a b : ℕ). a * b / suc k) e (f ∙ ap (λ (m : ℕ). m - k) d) ∙ choose-quotient n k

  pub next-size : n ≤ ceiling_limit → k ≤ 3 → this * left < 2 ^ 64
  next-size few low = omega (arith, mul-le-mul bound fewer)
    where
      bound : this ≤ ceiling_limit ^ 3
      bound = omega (arith, choose-size n k few, pow-le-pow_right {n = ceiling_limit} (omega arith) low)

      fewer : left ≤ ceiling_limit
      fewer = omega arith

-- the struct from its four weights, each of which is known, is not, or is taken if it is
module _ (n known : ℕ) where
  pub weight-known : (order : ℕ) {given : ℕ} → order ≤ known → given ≡ choose n order → given ≡ weight n known order
  weight-known order h e = rw (le-leb order known h) e

  pub weight-unknown : (order : ℕ) → known < order → 0 ≡ weight n known order
  weight-unknown order h = rw (lt-leb order known h)

  pub weight-if-known : (order : ℕ) {given r : ℕ} → given ≡ choose n order → r ≡ cond (leb order known) given 0 → r ≡ weight n known order
  weight-if-known order e f = f ∙ ap (λ (w : ℕ). cond (leb order known) w 0) e

  pub weights-are : {one two three four : ℕ} → one ≡ weight n known 1 → two ≡ weight n known 2 → three ≡ weight n known 3 → four ≡ weight n known 4
      → record { one = one; two = two; three = three; four = four } ≡ weights_of n known
  unfolding weights_of
  weights-are e f g h = λ i. record { one = e i; two = f i; three = g i; four = h i }
