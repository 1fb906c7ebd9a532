-- Binomial coefficients: the next from the one before, by a product and by a quotient.
use mathlib.Core.Path.{◌≡◌, refl, sym, ap}
use Prim.Native.Nat.{ℕ, zero, suc, ◌+◌, ◌*◌, ◌-◌, ◌/◌, ◌≤◌, ◌<◌}
use native.Mathlib.Nat.{div-eq_of_eq-mul_left}
use native.Mathlib.Omega.{arith}
use native.Mathlib.Decide.{dec_le}
use Rattle.whole.specs.Newton.{choose}

-- C(n, k + 1) from C(n, k), with no subtraction
choose-next : (n k : ℕ) → choose n (suc k) * suc k + choose n k * k ≡ choose n k * n
unfolding choose
choose-next zero zero = refl
choose-next zero (suc k) = omega arith
choose-next (suc n) zero = omega (arith, choose-next n zero)
choose-next (suc n) (suc k) = omega (arith, choose-next n k, choose-next n (suc k))

choose-none : (n k : ℕ) → n < k → choose n k ≡ 0
unfolding choose
choose-none n zero h = omega arith
choose-none zero (suc k) h = refl
choose-none (suc n) (suc k) h = omega (arith, choose-none n k (omega arith), choose-none n (suc k) (omega arith))

-- the same with a subtraction, which is 0 where k is above n
pub choose-step : (n k : ℕ) → choose n (suc k) * suc k ≡ choose n k * (n - k)
choose-step n k = by_order (dec_le k n)
  where
    within : (a b m : ℕ) → b * suc k + a * k ≡ a * n → n ≡ k + m → b * suc k ≡ a * m
    within a b m h e = omega (arith, ap (λ (x : ℕ). a * x) e)

    beyond : (a b m : ℕ) → a ≡ 0 → b ≡ 0 → b * suc k ≡ a * m
    beyond a b m h e = rw (h, e) (omega arith)

    by_order : Dec (k ≤ n) → choose n (suc k) * suc k ≡ choose n k * (n - k)
    by_order (yes h) = within (choose n k) (choose n (suc k)) (n - k) (choose-next n k) (omega arith)
    by_order (no h) = beyond (choose n k) (choose n (suc k)) (n - k) (choose-none n k (omega arith)) (choose-none n (suc k) (omega arith))

-- the same as a quotient; the division is exact
pub choose-quotient : (n k : ℕ) → choose n k * (n - k) / suc k ≡ choose n (suc k)
choose-quotient n k = div-eq_of_eq-mul_left (omega arith) (sym (choose-step n k))

pub choose_one : (n : ℕ) → choose n 1 ≡ n
unfolding choose
choose_one n = omega (arith, choose-next n 0)
