-- Facts about tests, results and bounds that the other proofs use.
use mathlib.Core.Path.{◌≡◌, refl, sym, ap, subst}
use mathlib.Core.Bool.{Bool, true, false, cond, ◌&&◌}
use mathlib.Core.Option.{Option, none, some}
use mathlib.Core.List.{List, [], ◌∷◌}
use mathlib.Core.Logic.{◌⊎◌, inl, inr}
use Prim.Native.Nat.{ℕ}
use native.Mathlib.Omega.{arith}
use lib.Dec.{T}
use Rattle.meaning.specs.Reader.{Result, ok, refused, require, or_refuse, and_then}
use Rattle.meaning.specs.Time.{Bounds, bounds}

pub T_and : (a b : Bool) → T (a && b) → T a × T b
T_and true b t = (tt, t)
T_and false b t = absurd t

pub and_t : (a b : Bool) → T a → T b → T (a && b)
and_t true b t u = u
and_t false b t u = t

pub T→true : (b : Bool) → T b → b ≡ true
T→true true t = refl
T→true false t = absurd t

pub true→T : (b : Bool) → b ≡ true → T b
true→T b e = subst T (sym e) tt

-- tests that follow from one another have one answer
pub same_truth : (a b : Bool) → (T a → T b) → (T b → T a) → a ≡ b
same_truth true true p q = refl
same_truth true false p q = absurd (p tt)
same_truth false true p q = absurd (q tt)
same_truth false false p q = refl

-- two different constructors
pub refused-is-not-ok : {A : Type 0} {X : Type 0} {number place : ℕ} {a : A} → refused number place ≡ ok a → X
refused-is-not-ok e = absurd (let z : ◌≡◌ {A = ℕ} 0 1 = cc in omega arith)

pub none-is-not-some : {A : Type 0} {X : Type 0} {a : A} → none ≡ some a → X
none-is-not-some e = absurd (let z : ◌≡◌ {A = ℕ} 0 1 = cc in omega arith)

pub nil-is-not-cons : {A : Type 0} {X : Type 0} {x : A} {xs : List A} → [] ≡ x ∷ xs → X
nil-is-not-cons e = absurd (let z : ◌≡◌ {A = ℕ} 0 1 = cc in omega arith)

pub true-is-not-false : {X : Type 0} → true ≡ false → X
true-is-not-false e = absurd (let z : ◌≡◌ {A = ℕ} 0 1 = cc in omega arith)

-- what a test lets through
pub test-passed : {A : Type 0} (c : Bool) (a b : A) → cond c (some a) none ≡ some b → T c × (a ≡ b)
test-passed true a b e = (tt, cc)
test-passed false a b e = none-is-not-some e

pub ok-injective : {A : Type 0} {a b : A} → ok a ≡ ok b → a ≡ b
ok-injective e = cc

pub refused-number : {A : Type 0} {number place number' place' : ℕ} → ◌≡◌ {A = Result A} (refused number place) (refused number' place') → number ≡ number'
refused-number e = cc

pub refused-place : {A : Type 0} {number place number' place' : ℕ} → ◌≡◌ {A = Result A} (refused number place) (refused number' place') → place ≡ place'
refused-place e = cc

-- what an accepted result has passed; and what passes is accepted
pub and_then-ok : {A B : Type 0} (r : Result A) (f : A → Result B) (b : B) → and_then r f ≡ ok b → (a : A) × (r ≡ ok a) × (f a ≡ ok b)
unfolding and_then
and_then-ok (ok a) f b e = (a, refl, e)
and_then-ok (refused number place) f b e = refused-is-not-ok e

pub require-ok : {A : Type 0} (c : Bool) (number place : ℕ) (r : Result A) (a : A) → require c number place r ≡ ok a → T c × (r ≡ ok a)
unfolding require
require-ok true number place r a e = (tt, e)
require-ok false number place r a e = refused-is-not-ok e

pub or_refuse-ok : {A : Type 0} (o : Option A) (number place : ℕ) (a : A) → or_refuse o number place ≡ ok a → o ≡ some a
unfolding or_refuse
or_refuse-ok (some b) number place a e = let z : b ≡ a = cc in ap some z
or_refuse-ok none number place a e = refused-is-not-ok e

-- what a refusal has met
pub and_then-refused : {A B : Type 0} (r : Result A) (f : A → Result B) (number place : ℕ) → and_then r f ≡ refused number place →
    (r ≡ refused number place) ⊎ ((a : A) × (r ≡ ok a) × (f a ≡ refused number place))
unfolding and_then
and_then-refused (ok a) f number place e = inr (a, refl, e)
and_then-refused (refused n p) f number place e = let z = refused-number e in let y = refused-place e in inl (λ t. refused (z t) (y t))

pub require-refused : {A : Type 0} (c : Bool) (n p : ℕ) (r : Result A) (number place : ℕ) → require c n p r ≡ refused number place →
    ((c ≡ false) × (number ≡ n) × (place ≡ p)) ⊎ (T c × (r ≡ refused number place))
unfolding require
require-refused true n p r number place e = inr (tt, e)
require-refused false n p r number place e = inl (refl, sym (refused-number e), sym (refused-place e))

pub and_then-yes : {A B : Type 0} {r : Result A} {a : A} (f : A → Result B) → r ≡ ok a → and_then r f ≡ f a
unfolding and_then
and_then-yes f e = ap (λ x. and_then x f) e

pub and_then-no : {A B : Type 0} {r : Result A} {number place : ℕ} (f : A → Result B) → r ≡ refused number place → and_then r f ≡ refused number place
unfolding and_then
and_then-no f e = ap (λ x. and_then x f) e

pub require-no : {A : Type 0} {c : Bool} (number place : ℕ) (r : Result A) → c ≡ false → require c number place r ≡ refused number place
unfolding require
require-no number place r e = ap (λ x. require x number place r) e

pub require-yes : {A : Type 0} (c : Bool) (number place : ℕ) (r : Result A) → T c → require c number place r ≡ r
unfolding require
require-yes true number place r t = refl
require-yes false number place r t = absurd t

pub or_refuse-yes : {A : Type 0} {o : Option A} {a : A} (number place : ℕ) → o ≡ some a → or_refuse o number place ≡ ok a
unfolding or_refuse
or_refuse-yes number place e = ap (λ x. or_refuse x number place) e

pub bounds-equal : (a b : Bounds) → a.least ≡ b.least → a.most ≡ b.most → a ≡ b
bounds-equal a b p q = λ i. bounds (p i) (q i)
