-- Sums over the numbers from 0 up to a bound.
use Rattle.std.specs.Prelude.{ℕ, zero, suc, ℤ, pos, negsuc, neg_ℤ, ◌+ℤ◌, ◌-ℤ◌}

-- f 0 + .. + f (n - 1)
unfoldable pub total : ℕ → (ℕ → ℤ) → ℤ
total zero f = pos zero
total (suc n) f = total n f +ℤ f n

-- f 0 + .. + f (n - 1); for a negative n, minus the sum of f n + .. + f (-1), so that a sum up to an affine bound is a polynomial
unfoldable pub sum_to : ℤ → (ℤ → ℤ) → ℤ
sum_to (pos zero) f = pos zero
sum_to (pos (suc n)) f = sum_to (pos n) f +ℤ f (pos n)
sum_to (negsuc zero) f = neg_ℤ (f (negsuc zero))
sum_to (negsuc (suc n)) f = sum_to (negsuc n) f -ℤ f (negsuc (suc n))
