-- Digits as the code puts them: none, one, or those of a tenth of the number and then the last one.
use mathlib.Core.Path.{◌≡◌, refl, sym, ap, ◌∙◌}
use mathlib.Core.List.{[], ◌∷◌, ◌++◌}
use Prim.Native.Nat.{ℕ, zero, suc, ◌-◌, ◌/◌, ◌%◌, ◌≤◌, ◌<◌}
use native.Mathlib.Omega.{arith}
use borrow.Author.Tests.{lt-ltb, le-ltb}
use Rattle.meaning.specs.Text.{digit, last_digit, digits}

pub no-digits : (more n : ℕ) → more ≡ 0 → [] ≡ digits more n
unfolding digits
no-digits more n e = ap (λ (m : ℕ). digits m n) (sym e)

pub one-digit : (more n : ℕ) → ¬ (more ≡ 0) → n < 10 → digit n ∷ [] ≡ digits more n
unfolding digits last_digit
one-digit zero n e h = absurd (e refl)
one-digit (suc more) n e h = ap (λ c. last_digit c n (λ m. digits more m)) (sym (lt-ltb n 10 h))

pub more-digits : (more n : ℕ) → ¬ (more ≡ 0) → 10 ≤ n → digits (more - 1) (n / 10) ++ (digit (n % 10) ∷ []) ≡ digits more n
unfolding digits last_digit
more-digits zero n e h = absurd (e refl)
more-digits (suc more) n e h =
    ap (λ (m : ℕ). digits m (n / 10) ++ (digit (n % 10) ∷ [])) (let less : suc more - 1 ≡ more = omega arith in less)
    ∙ ap (λ c. last_digit c n (λ m. digits more m)) (sym (le-ltb n 10 h))
