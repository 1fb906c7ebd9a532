-- What a role that was read says of the number that it was read from.
use mathlib.Core.Path.{◌≡◌, refl, sym, ap, ap₂, ◌∙◌}
use mathlib.Core.Bool.{Bool, true, false, not}
use Prim.Native.Nat.{ℕ, zero, suc, min, ◌<◌, ◌≤◌}
use native.Mathlib.Omega.{arith}
use Rattle.std.proofs.lemmas.Bool.Decides.{nat_tests}
use borrow.Author.Tests.{eq-eqb, ne_eqb}
use lib.Dec.{eqb}
use denote.Enum.Bare.{sameb, differs_true, differs_false}
use denote.Enum.Declared.{tag_of}
use Rattle.layout.specs.contracts.rows.Role.{the_type}
use Rattle.layout.specs.declared.rows.Role.TheVariants as roles
use Rattle.layout.specs.declared.rows.Role.{Role}
use Rattle.layout.specs.Rows.{role_named, role_number}

-- one of the five roles of records
abbrev pub known : Role → Bool
known roles.Straight = true
known roles.Loop = true
known roles.End = true
known roles.Choice = true
known roles.NextArm = true
known roles.Unknown = false

unnamed : (n : ℕ) → 5 ≤ n → role_named n ≡ roles.Unknown
unfolding role_named
unnamed n h = rw (ne_eqb n 0 (λ e. omega arith), ne_eqb n 1 (λ e. omega arith), ne_eqb n 2 (λ e. omega arith), ne_eqb n 3 (λ e. omega arith), ne_eqb n 4 (λ e. omega arith))

number-named : (n : ℕ) → role_number (role_named n) ≡ min n 5
unfolding role_number role_named
number-named zero = refl
number-named (suc zero) = refl
number-named (suc (suc zero)) = refl
number-named (suc (suc (suc zero))) = refl
number-named (suc (suc (suc (suc zero)))) = refl
number-named (suc (suc (suc (suc (suc n))))) = ap role_number (unnamed (suc (suc (suc (suc (suc n))))) (omega arith)) ∙ (let e : 5 ≡ min (suc (suc (suc (suc (suc n))))) 5 = omega arith in e)

pub named-number : (r : Role) → known r ≡ true → role_named (role_number r) ≡ r
unfolding role_number role_named
named-number roles.Straight k = refl
named-number roles.Loop k = refl
named-number roles.End k = refl
named-number roles.Choice k = refl
named-number roles.NextArm k = refl
named-number roles.Unknown k = refl

known-small : (r : Role) → known r ≡ true → role_number r < 5
unfolding role_number
known-small roles.Straight k = omega arith
known-small roles.Loop k = omega arith
known-small roles.End k = omega arith
known-small roles.Choice k = omega arith
known-small roles.NextArm k = omega arith
known-small roles.Unknown k = cc

tag-number : (r : Role) → tag_of the_type r ≡ role_number r
unfolding role_number
tag-number roles.Straight = refl
tag-number roles.Loop = refl
tag-number roles.End = refl
tag-number roles.Choice = refl
tag-number roles.NextArm = refl
tag-number roles.Unknown = refl

capped : (n m : ℕ) → m < 5 → eqb (min n 5) m ≡ eqb n m
capped n m h = grind (arith, nat_tests)

module _ (r : Role) (k : known r ≡ true) {role : Role} (n : ℕ) (read : role ≡ role_named n) where
  shown : role_number role ≡ min n 5
  shown = ap role_number read ∙ number-named n

  pub role-is : role ≡ r → n ≡ role_number r
  role-is e = let few = known-small r k in let same = ap role_number e in let at = shown in omega arith

  pub role-is-not : (role ≡ r → ⊥) → n ≡ role_number r → ⊥
  role-is-not other e = other (read ∙ ap role_named e ∙ named-number r k)

  pub role-true : role ≡ r → true ≡ eqb n (role_number r)
  role-true e = sym (eq-eqb n (role_number r) (role-is e))

  pub role-false : (role ≡ r → ⊥) → false ≡ eqb n (role_number r)
  role-false other = sym (ne_eqb n (role_number r) (role-is-not other))

  -- what `==` and `!=` with this role answer
  role-same : sameb the_type role r ≡ eqb n (role_number r)
  role-same = ap₂ eqb (tag-number role ∙ shown) (tag-number r) ∙ capped n (role_number r) (known-small r k)

  pub role-test : {b : Bool} → b ≡ sameb the_type role r → b ≡ eqb n (role_number r)
  role-test t = t ∙ role-same

  pub role-test-not : {b : Bool} → b ≡ not (sameb the_type role r) → b ≡ not (eqb n (role_number r))
  role-test-not t = t ∙ ap not role-same

  -- the branches of an `if` on `!=`
  pub role-found : {b : Bool} → b ≡ not (sameb the_type role r) → b ≡ false → n ≡ role_number r
  role-found t e = role-is (differs_false the_type tt role r (sym t ∙ e))

  pub role-other : {b : Bool} → b ≡ not (sameb the_type role r) → b ≡ true → n ≡ role_number r → ⊥
  role-other t e = role-is-not (differs_true the_type role r (sym t ∙ e))
