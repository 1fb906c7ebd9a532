-- What holds of each member of a list, which lists ascend, and what the first test that fails says of all tests.
use mathlib.Core.Path.{◌≡◌, refl, sym, ap, ◌∙◌, subst}
use mathlib.Core.List.{List, [], ◌∷◌, ◌++◌, map}
use mathlib.Core.Bool.{Bool, true, false, not, cond, ◌&&◌, and_assoc}
use mathlib.Core.Logic.{◌↔◌, ◌⊎◌, inl, inr}
use mathlib.Core.Option.{none, some, some-injective}
use lib.Dec.{T, T_not}
use Rattle.meaning.specs.Reason.{Reason, Test, first_failing}
use Rattle.meaning.specs.ReasonsTold.{Each, no_member, one_more}
use Rattle.meaning.proofs.Logic.{T_and, none-is-not-some}

-- ---- each member

module _ {A : Type 0} {P : A → Type 0} where
  pub each_append : {xs ys : List A} → Each P xs → Each P ys → Each P (xs ++ ys)
  each_append no_member others = others
  each_append (one_more first each) others = one_more first (each_append each others)

  pub each_first : {x : A} {xs : List A} → Each P (x ∷ xs) → P x × Each P xs
  each_first (one_more first others) = (first, others)

  pub each-split : (xs ys : List A) → Each P (xs ++ ys) → Each P xs × Each P ys
  each-split [] ys each = (no_member, each)
  each-split (x ∷ xs) ys (one_more first each) = let parts = each-split xs ys each in (one_more first parts.0, parts.1)

  pub each-follows : {Q : A → Type 0} {xs : List A} → ((x : A) → P x → Q x) → Each P xs → Each Q xs
  each-follows follows no_member = no_member
  each-follows follows (one_more {x} first each) = one_more (follows x first) (each-follows follows each)

pub each_map : {A B : Type 0} {P : A → Type 0} {Q : B → Type 0} (f : A → B) {xs : List A} → ((x : A) → P x → Q (f x)) → Each P xs → Each Q (map f xs)
each_map f follows no_member = no_member
each_map f follows (one_more {x} first each) = one_more (follows x first) (each_map f follows each)

-- ---- lists that ascend

-- each member is in the relation to each after it
pub data Ascending {A : Type 0} (R : A → A → Type 0) : List A → Type 0 where
  ended : Ascending R []
  before : {x : A} {xs : List A} → Each (R x) xs → Ascending R xs → Ascending R (x ∷ xs)

pub ascending-append : {A : Type 0} {R : A → A → Type 0} {ys xs : List A} → Each (λ x. Each (R x) ys) xs → Ascending R xs → Ascending R ys →
    Ascending R (xs ++ ys)
ascending-append no_member ended others = others
ascending-append (one_more apart each) (before first ascending) others = before (each_append first apart) (ascending-append each ascending others)

pub ascending-map : {A B : Type 0} {R : A → A → Type 0} {S : B → B → Type 0} (f : A → B) {xs : List A} → ((x y : A) → R x y → S (f x) (f y)) →
    Ascending R xs → Ascending S (map f xs)
ascending-map f follows ended = ended
ascending-map f follows (before {x} first ascending) = before (each_map f (follows x) first) (ascending-map f follows ascending)

-- ---- the first test that fails

unfoldable pub all_pass : List Test → Bool
all_pass [] = true
all_pass (t ∷ ts) = not t.fails && all_pass ts

pub all_pass-append : (ts us : List Test) → all_pass (ts ++ us) ≡ (all_pass ts && all_pass us)
unfolding all_pass
all_pass-append [] us = refl
all_pass-append (t ∷ ts) us = ap (λ others. not t.fails && others) (all_pass-append ts us) ∙ sym (and_assoc (not t.fails) (all_pass ts) (all_pass us))

pub none-fails : (ts : List Test) → (first_failing ts ≡ none) ↔ T (all_pass ts)
unfolding first_failing all_pass
none-fails [] = (λ e. tt, λ t. refl)
none-fails (t ∷ ts) = go t.fails (none-fails ts)
  where
    go : (fails : Bool) → (first_failing ts ≡ none) ↔ T (all_pass ts) → (cond fails (some t.reason) (first_failing ts) ≡ none) ↔ T (not fails && all_pass ts)
    go true others = (λ e. none-is-not-some (sym e), λ t. absurd t)
    go false others = others

-- where the test fails, this holds of its reason
abbrev pub IfFails : (Reason → Type 0) → Test → Type 0
IfFails P t = T t.fails → P t.reason

-- where all pass, none fails
pub none-failing : (ts : List Test) → T (all_pass ts) → Each (IfFails (λ r. ⊥)) ts
unfolding all_pass
none-failing [] t = no_member
none-failing (t ∷ ts) pass =
    let both = T_and (not t.fails) (all_pass ts) pass in
    one_more (T_not t.fails both.0) (none-failing ts both.1)

-- what holds of the reason of each test that fails holds of the first
pub first-fails : (P : Reason → Type 0) (ts : List Test) (r : Reason) → Each (IfFails P) ts → first_failing ts ≡ some r → P r
unfolding first_failing
first-fails P [] r each e = none-is-not-some e
first-fails P (t ∷ ts) r (one_more first each) e = go t.fails first (first-fails P ts r each) e
  where
    go : (fails : Bool) → (T fails → P t.reason) → (first_failing ts ≡ some r → P r) → cond fails (some t.reason) (first_failing ts) ≡ some r → P r
    go true first others e = subst P (some-injective t.reason r e) (first tt)
    go false first others e = others e

-- where the tests ascend, the first that fails is before each other that fails
pub first-precedes : (R : Reason → Reason → Type 0) (ts : List Test) (r : Reason) → Ascending (λ t u. R t.reason u.reason) ts →
    first_failing ts ≡ some r → Each (IfFails (λ s. (r ≡ s) ⊎ R r s)) ts
unfolding first_failing
first-precedes R [] r ascending e = no_member
first-precedes R (t ∷ ts) r (before least ascending) e = go t.fails refl (first-precedes R ts r ascending) e
  where
    After : Test → Type 0
    After = IfFails (λ s. (r ≡ s) ⊎ R r s)

    go : (fails : Bool) → t.fails ≡ fails → (first_failing ts ≡ some r → Each After ts) → cond fails (some t.reason) (first_failing ts) ≡ some r →
        Each After (t ∷ ts)
    go true is_true others e =
        let same : t.reason ≡ r = some-injective t.reason r e in
        one_more (λ fails. inl (sym same)) (each-follows (λ u precedes fails. inr (subst (λ s. R s u.reason) same precedes)) least)
    go false is_false others e = one_more (λ fails. absurd (subst T is_false fails)) (others e)
