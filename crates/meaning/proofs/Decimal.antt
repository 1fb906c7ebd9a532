-- Numbers in decimal: the digits read back are the number, and no zero stands before them.
use mathlib.Core.Path.{◌≡◌, refl, sym, ap, ◌∙◌, subst}
use mathlib.Core.List.{List, [], ◌∷◌, ◌++◌}
use mathlib.Core.Bool.{Bool, true, false, not}
use Prim.Native.Nat.{ℕ, zero, suc, ◌+◌, ◌*◌, ◌-◌, ◌/◌, ◌%◌, ◌^◌, ◌≤◌, ◌<◌}
use native.Mathlib.Nat.{pow-suc}
use native.Mathlib.Omega.{arith}
use lib.ListN.{length, length-append}
use lib.Dec.{T, ltb, ltb→lt, nltb→le}
use Rattle.meaning.specs.Text.{last_digit, digits, decimal}

-- the number whose digits stand after those of n
unfoldable pub numeral_after : ℕ → List ℕ → ℕ
numeral_after n [] = n
numeral_after n (c ∷ cs) = numeral_after (10 * n + (c - 48)) cs

-- the number of a list of digit characters, the highest first
unfoldable pub numeral : List ℕ → ℕ
numeral cs = numeral_after 0 cs

numeral-last : (n : ℕ) (cs : List ℕ) (c : ℕ) → numeral_after n (cs ++ (c ∷ [])) ≡ 10 * numeral_after n cs + (c - 48)
unfolding numeral_after
numeral-last n [] c = refl
numeral-last n (d ∷ cs) c = numeral-last (10 * n + (d - 48)) cs c

-- every character is a digit
unfoldable pub AllDigits : List ℕ → Type 0
AllDigits [] = Unit {0}
AllDigits (c ∷ cs) = (48 ≤ c) × (c ≤ 57) × AllDigits cs

all-digits-last : (cs : List ℕ) (c : ℕ) → AllDigits cs → 48 ≤ c → c ≤ 57 → AllDigits (cs ++ (c ∷ []))
unfolding AllDigits
all-digits-last [] c h p q = (p, q, tt)
all-digits-last (d ∷ cs) c (a, b, h) p q = (a, b, all-digits-last cs c h p q)

-- the first character is there and is a digit other than 0
pub record StartsNonzero (cs : List ℕ) : Type 0 where
  pub first : ℕ
  pub others : List ℕ
  pub same : cs ≡ first ∷ others
  pub nonzero : 48 < first

starts-nonzero-last : (cs : List ℕ) (c : ℕ) → StartsNonzero cs → StartsNonzero (cs ++ (c ∷ []))
starts-nonzero-last cs c s =
    record { first = s.first; others = s.others ++ (c ∷ []); same = ap (λ (x : List ℕ). x ++ (c ∷ [])) s.same; nonzero = s.nonzero }

digits-numeral : (more n : ℕ) → n < 10 ^ more → numeral (digits more n) ≡ n
unfolding digits numeral numeral_after
digits-numeral zero n h = omega arith
digits-numeral (suc more) n h = go (ltb n 10) refl (λ m k. digits-numeral more m k)
  where
    go : (c : Bool) → ltb n 10 ≡ c → ((m : ℕ) → m < 10 ^ more → numeral (digits more m) ≡ m) → numeral (last_digit c n (λ m. digits more m)) ≡ n
    go true e i = unfold last_digit in omega arith
    go false e i =
        unfold last_digit in (let k = i (n / 10) (omega (arith, pow-suc 10 more)) in numeral-last 0 (digits more (n / 10)) (48 + n % 10) ∙ omega arith)

digits-digits : (more n : ℕ) → AllDigits (digits more n)
unfolding digits AllDigits
digits-digits zero n = tt
digits-digits (suc more) n = go (ltb n 10) refl (λ m. digits-digits more m)
  where
    go : (c : Bool) → ltb n 10 ≡ c → ((m : ℕ) → AllDigits (digits more m)) → AllDigits (last_digit c n (λ m. digits more m))
    go true e i = unfold last_digit in (let k = ltb→lt n 10 (subst T (sym e) tt) in (omega arith, omega arith, tt))
    go false e i = unfold last_digit in all-digits-last (digits more (n / 10)) (48 + n % 10) (i (n / 10)) (omega arith) (omega arith)

digits-start : (more n : ℕ) → 1 ≤ n → n < 10 ^ more → StartsNonzero (digits more n)
unfolding digits
digits-start zero n p h = absurd (omega arith)
digits-start (suc more) n p h = go (ltb n 10) refl (λ m q k. digits-start more m q k)
  where
    go : (c : Bool) → ltb n 10 ≡ c → ((m : ℕ) → 1 ≤ m → m < 10 ^ more → StartsNonzero (digits more m)) → StartsNonzero (last_digit c n (λ m. digits more m))
    go true e i = unfold last_digit in record { first = 48 + n; others = []; same = refl; nonzero = omega arith }
    go false e i = unfold last_digit in
        (let k = nltb→le n 10 (subst (λ (b : Bool). T (not b)) (sym e) tt) in
        starts-nonzero-last (digits more (n / 10)) (48 + n % 10) (i (n / 10) (omega arith) (omega (arith, pow-suc 10 more))))

digits-length : (more n : ℕ) → length (digits more n) ≤ more
unfolding digits
digits-length zero n = omega arith
digits-length (suc more) n = go (ltb n 10) (λ m. digits-length more m)
  where
    go : (c : Bool) → ((m : ℕ) → length (digits more m) ≤ more) → length (last_digit c n (λ m. digits more m)) ≤ suc more
    go true i = unfold last_digit in omega arith
    go false i = unfold last_digit in omega (arith, i (n / 10), length-append (digits more (n / 10)) ((48 + n % 10) ∷ []))

-- ---- decimal

pub decimal-numeral : (n : ℕ) → n < 10 ^ 20 → numeral (decimal n) ≡ n
unfolding decimal
decimal-numeral n h = digits-numeral 20 n h

pub decimal-digits : (n : ℕ) → AllDigits (decimal n)
unfolding decimal
decimal-digits n = digits-digits 20 n

pub decimal-length : (n : ℕ) → length (decimal n) ≤ 20
unfolding decimal
decimal-length n = digits-length 20 n

pub decimal-zero : decimal 0 ≡ 48 ∷ []
unfolding decimal digits last_digit
decimal-zero = refl

pub decimal-start : (n : ℕ) → 1 ≤ n → n < 10 ^ 20 → StartsNonzero (decimal n)
unfolding decimal
decimal-start n p h = digits-start 20 n p h
