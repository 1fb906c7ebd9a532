-- Signed numbers as the machine holds them: casts, sums, differences and products that fit are exact; the limit's test.
use mathlib.Core.Path.{◌≡◌, refl, sym, ap, ap₂, subst, ◌∙◌}
use mathlib.Core.List.{[], ◌∷◌}
use mathlib.Core.Bool.{Bool, true, false, cond}
use Rattle.std.proofs.Common.{mul-le-mul}
use Prim.Native.Nat.{ℕ, zero, suc, ◌+◌, ◌*◌, ◌^◌, ◌≤◌, ◌<◌}
use native.Mathlib.Omega.{arith}
use borrow.Author.Tests.{leb-true, le-leb, lt-leb}
use lib.Dec.{leb}
use lib.IntN.{ℤ, pos, negsuc, neg_ℤ, nat_abs, ◌+ℤ◌, ◌-ℤ◌, ◌*ℤ◌}
use lib.Signed.{mag, lt_z}
use mir.Syntax.{Width, w16, w64}
use mir.Val.{hbits, SFits, to_z, of_z}
use mir.Facts.{to_z-of_z}
use Rattle.whole.proofs.Order.{nat_abs-add, nat_abs-mul-le, nat_abs-neg, fits-signed-64}
use Rattle.form.specs.Forms.{size_limit, bounded}

-- a number as the machine gives it back
abbrev pub held : Width → ℤ → ℤ
held w z = to_z w (of_z w z)

-- z fits 64 bits, and what the machine holds of it is `exact`, of at most this size
pub record Reckoned (z exact : ℤ) (size : ℕ) : Type 0 where
  pub fits : SFits w64 z
  pub same : held w64 z ≡ exact
  pub small : nat_abs exact ≤ size

reckoned : {z exact : ℤ} {size : ℕ} → z ≡ exact → nat_abs exact ≤ size → size < 2 ^ 63 → Reckoned z exact size
reckoned {z} {exact} e h l =
    let f : SFits w64 exact = fits-signed-64 exact (omega arith) in
    rw e (record { fits = f; same = to_z-of_z f; small = h })

-- a number that is told to be another
pub as-told : {r z exact : ℤ} {size : ℕ} → r ≡ z → Reckoned z exact size → Reckoned r exact size
as-told {r} {z} {exact} {size} e h = subst (λ (y : ℤ). Reckoned y exact size) (sym e) h

-- a known number
pub known : {z exact : ℤ} {size : ℕ} → z ≡ exact → nat_abs z ≤ size → size < 2 ^ 63 → Reckoned z exact size
known e h l = reckoned e (rw e at h) l

pub add : {x y u v : ℤ} {m n : ℕ} → Reckoned x u m → Reckoned y v n → m + n < 2 ^ 63 → Reckoned (held w64 x +ℤ held w64 y) (u +ℤ v) (m + n)
add {x} {y} {u} {v} a b l = let s = nat_abs-add u v in let sx = a.small in let sy = b.small in reckoned (ap₂ ◌+ℤ◌ a.same b.same) (omega arith) l

-- a sum that goes on
pub add-to : {x y u v : ℤ} {m n : ℕ} → x ≡ u → nat_abs x ≤ m → Reckoned y v n → m + n < 2 ^ 63 → Reckoned (x +ℤ held w64 y) (u +ℤ v) (m + n)
add-to {x} {y} {u} {v} e h b l = let s = nat_abs-add u v in let sy = b.small in let sx = rw e at h in reckoned (ap₂ ◌+ℤ◌ e b.same) (omega arith) l

-- so many products, and one of them
pub products-fit : (k n x : ℕ) → k < n → k * x + x ≤ n * x
products-fit k n x h = let few : suc k ≤ n = omega arith in omega (arith, mul-le-mul few (let same : x ≤ x = omega arith in same))

pub subtract : {x y u v : ℤ} {m n : ℕ} → Reckoned x u m → Reckoned y v n → m + n < 2 ^ 63 → Reckoned (held w64 x -ℤ held w64 y) (u -ℤ v) (m + n)
subtract {x} {y} {u} {v} a b l =
    let s = nat_abs-add u (neg_ℤ v) in
    let t = nat_abs-neg v in
    let sx = a.small in
    let sy = b.small in
    reckoned (ap₂ ◌-ℤ◌ a.same b.same) (omega arith) l

pub multiply : {x y u v : ℤ} {m n : ℕ} → Reckoned x u m → Reckoned y v n → m * n < 2 ^ 63 → Reckoned (held w64 x *ℤ held w64 y) (u *ℤ v) (m * n)
multiply {x} {y} {u} {v} a b l = reckoned (ap₂ ◌*ℤ◌ a.same b.same) (nat_abs-mul-le u v a.small b.small) l

-- what a function says of its result
pub result : {z exact : ℤ} {size : ℕ} → Reckoned z exact size → (held w64 z ≡ exact) × (nat_abs (held w64 z) ≤ size)
result r = (r.same, rw r.same r.small)

-- ---- narrower numbers

size_of : {w : Width} (z : ℤ) → SFits w z → nat_abs z ≤ 2 ^ hbits w
size_of {w} (pos n) f = let h : n < 2 ^ hbits w = f.sfits in omega arith
size_of {w} (negsuc n) f = let h : n < 2 ^ hbits w = f.sfits in omega arith

-- a number of 16 bits, widened
pub widened : {z : ℤ} → SFits w16 z → Reckoned (held w16 z) z (2 ^ 15)
widened {z} f = reckoned (to_z-of_z f) (size_of z f) (omega arith)

-- ---- the limit

pub bounded-small : (z : ℤ) → nat_abs z ≤ size_limit → bounded z ≡ z
unfolding bounded
bounded-small z h = ap (λ (b : Bool). cond b z (pos zero)) (le-leb (nat_abs z) size_limit h)

pub bounded-large : (z : ℤ) → size_limit < nat_abs z → bounded z ≡ pos zero
unfolding bounded
bounded-large z h = ap (λ (b : Bool). cond b z (pos zero)) (lt-leb (nat_abs z) size_limit h)

pub bounded-size : (z : ℤ) → nat_abs (bounded z) ≤ size_limit
unfolding bounded
bounded-size z = by-test (leb (nat_abs z) size_limit) refl
  where
    by-test : (c : Bool) → leb (nat_abs z) size_limit ≡ c → nat_abs (cond c z (pos zero)) ≤ size_limit
    by-test true e = leb-true (nat_abs z) size_limit e
    by-test false e = omega arith

-- what the limit's function gives
pub limited : {z r : ℤ} → SFits w64 z → r ≡ bounded (held w64 z) → Reckoned r (bounded z) size_limit
limited {z} f e = reckoned (e ∙ ap bounded (to_z-of_z f)) (bounded-size z) (omega arith)

-- ---- what the small functions say of their results, at the numbers themselves

-- what is known of a number that was read from an array or a struct
abbrev pub InWidth : Width → ℤ → Type 0
InWidth w z = mag z < 2 ^ hbits w

exactly : (w : Width) (z : ℤ) → InWidth w z → held w z ≡ z
exactly w z h = to_z-of_z {w = w} (record { sfits = h })

pub end_read : (x lo hi : ℤ) {r : ℤ} → InWidth w16 x → InWidth w64 lo → InWidth w64 hi → InWidth w64 r
    → r ≡ cond (lt_z (held w16 x) (pos 0)) (held w64 hi) (held w64 lo) → held w64 r ≡ cond (lt_z x (pos 0)) hi lo
end_read x lo hi {r} fx fl fh fr e =
    exactly w64 r fr ∙ e ∙ (λ i. cond (lt_z (exactly w16 x fx i) (pos 0)) (exactly w64 hi fh i) (exactly w64 lo fl i))

-- three numbers that are bounded
pub bounded-three : (x y z : ℤ) → InWidth w64 x → InWidth w64 y → InWidth w64 z
    → bounded (held w64 x) ∷ bounded (held w64 y) ∷ bounded (held w64 z) ∷ [] ≡ bounded x ∷ bounded y ∷ bounded z ∷ []
bounded-three x y z fx fy fz = λ i. bounded (exactly w64 x fx i) ∷ bounded (exactly w64 y fy i) ∷ bounded (exactly w64 z fz i) ∷ []
