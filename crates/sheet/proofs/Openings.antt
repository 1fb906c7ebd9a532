-- Refusal 5: what is open, by its numbers, before and after a record.
use mathlib.Core.Path.{◌≡◌, refl, sym, ap, ◌∙◌}
use mathlib.Core.List.{List, [], ◌∷◌}
use mathlib.Core.Logic.{◌⊎◌, ⊎_elim}
use mathlib.Core.Bool.{Bool, true, false, not, cond, ◌&&◌, ◌||◌, and-false, or-true}
use mathlib.Core.Option.{Option, none, some}
use Prim.Native.Nat.{ℕ, zero, suc, ◌+◌, ◌*◌, ◌-◌, ◌/◌, ◌%◌, ◌^◌, ◌<◌, ◌≤◌}
use native.Mathlib.Nat.{pow-suc}
use native.Mathlib.Omega.{arith}
use borrow.Author.Tests.{ltb-true, lt-ltb, le-ltb, le-leb, lt-leb, ne_eqb, eq-eqb}
use lib.ListN.{length}
use lib.Dec.{leb, ltb, eqb}
use Rattle.meaning.specs.Limits.{depth_limit, open_limit}
use Rattle.meaning.specs.Record.{Kind, kind_of, decode_record, Open, open_loop, open_choice, loop_depth, open_after}
use Rattle.meaning.proofs.Logic.{T_and, T→true, none-is-not-some, test-passed}
use Rattle.sheet.specs.declared.nesting.Nesting.{Nesting}
use Rattle.sheet.specs.Nestings.{loop_digit, loop_bits, nesting_of, open_after_as, open_after_kind, is_there, may_stand}
use Rattle.sheet.specs.Nestings.{extended_nesting, closed_nesting, nesting_after_as, nesting_after, may_stand_in_as, may_stand_in}
use Rattle.records.proofs.ByKind.{by_kind}

-- ---- the numbers of what is open

digit-small : (o : Open) → loop_digit o ≤ 1
unfolding loop_digit
digit-small open_loop = omega arith
digit-small open_choice = omega arith

digit-loop : loop_digit open_loop ≡ 1
unfolding loop_digit
digit-loop = refl

digit-choice : loop_digit open_choice ≡ 0
unfolding loop_digit
digit-choice = refl

depth-one-more : (o : Open) (os : List Open) → loop_depth (o ∷ os) ≡ loop_depth os + loop_digit o
unfolding loop_digit loop_depth
depth-one-more open_loop os = omega arith
depth-one-more open_choice os = omega arith

pub depth-at-most : (os : List Open) → loop_depth os ≤ length os
depth-at-most [] = unfold loop_depth in omega arith
depth-at-most (o ∷ os) = omega (arith, depth-one-more o os, digit-small o, depth-at-most os)

bits_below : (n : ℕ) (os : List Open) → length os ≤ n → loop_bits os < 2 ^ n
unfolding loop_bits
bits_below zero [] h = omega arith
bits_below (suc n) [] h = omega (arith, bits_below n [] (omega arith), pow-suc 2 n)
bits_below zero (o ∷ os) h = absurd (omega arith)
bits_below (suc n) (o ∷ os) h = omega (arith, bits_below n os (omega arith), digit-small o, pow-suc 2 n)

-- a nesting is the one of os: its three numbers are
module _ {n : Nesting} (os : List Open) (e : n ≡ nesting_of os) where
  pub size_is : n.size ≡ length os
  unfolding nesting_of
  size_is = ap (λ (m : Nesting). m.size) e

  pub depth_is : n.depth ≡ loop_depth os
  unfolding nesting_of
  depth_is = ap (λ (m : Nesting). m.depth) e

  loops_is : n.loops ≡ loop_bits os
  unfolding nesting_of
  loops_is = ap (λ (m : Nesting). m.loops) e

nesting-equal : (n : Nesting) (os : List Open) → n.size ≡ length os → n.depth ≡ loop_depth os → n.loops ≡ loop_bits os → n ≡ nesting_of os
unfolding nesting_of
nesting-equal n os p q r = λ i. record { size = p i; depth = q i; loops = r i }

-- one more open record
module _ (n : Nesting) (digit : ℕ) where
  abbrev more : Nesting
  more = record { size = n.size + 1; depth = n.depth + digit; loops = n.loops % 2 ^ (open_limit - 1) * 2 + digit }

  pub extended-same : (open_limit ≤ n.size) ⊎ (open_limit ≤ n.depth) → n ≡ extended_nesting n digit
  unfolding extended_nesting
  extended-same =
      ⊎_elim (λ h. sym (λ i. cond (le-leb open_limit n.size h i || leb open_limit n.depth) n more))
      (λ h. sym ((λ i. cond (leb open_limit n.size || le-leb open_limit n.depth h i) n more)
      ∙ ap (λ (b : Bool). cond b n more) (or-true (leb open_limit n.size))))

  pub extended-one : n.size < open_limit → n.depth < open_limit → more ≡ extended_nesting n digit
  unfolding extended_nesting
  extended-one h d = sym (λ i. cond (lt-leb open_limit n.size h i || lt-leb open_limit n.depth d i) n more)

module _ {n : Nesting} {digit : ℕ} (os : List Open) (o : Open) (e : n ≡ nesting_of os) (d : loop_digit o ≡ digit) (room : length os < open_limit) where
  extended-more : more n digit ≡ nesting_of (o ∷ os)
  unfolding loop_bits
  extended-more =
      nesting-equal _ (o ∷ os)
      (omega (arith, size_is os e))
      (omega (arith, depth_is os e, depth-one-more o os))
      (omega (arith, loops_is os e, bits_below (open_limit - 1) os (omega arith)))

  extended-is : extended_nesting n digit ≡ nesting_of (o ∷ os)
  extended-is = sym (extended-one n digit (omega (arith, size_is os e)) (omega (arith, depth_is os e, depth-at-most os))) ∙ extended-more

-- the innermost closed
module _ (n : Nesting) where
  abbrev fewer : Nesting
  fewer = record { size = n.size - 1; depth = n.depth - n.loops % 2; loops = n.loops / 2 }

  pub closed_same : (n.size ≡ 0) ⊎ (n.depth < n.loops % 2) → n ≡ closed_nesting n
  unfolding closed_nesting
  closed_same =
      ⊎_elim (λ h. sym (λ i. cond (eq-eqb n.size 0 h i || ltb n.depth (n.loops % 2)) n fewer))
      (λ h. sym ((λ i. cond (eqb n.size 0 || lt-ltb n.depth (n.loops % 2) h i) n fewer) ∙ ap (λ (b : Bool). cond b n fewer) (or-true (eqb n.size 0))))

  pub closed-one : (n.size ≡ 0 → ⊥) → n.loops % 2 ≤ n.depth → fewer ≡ closed_nesting n
  unfolding closed_nesting
  closed-one h d = sym (λ i. cond (ne_eqb n.size 0 h i || le-ltb n.depth (n.loops % 2) d i) n fewer)

module _ {n : Nesting} (os : List Open) (o : Open) (e : n ≡ nesting_of (o ∷ os)) where
  last-digit : n.loops % 2 ≡ loop_digit o
  unfolding loop_bits
  last-digit = omega (arith, loops_is (o ∷ os) e, digit-small o)

  closed-less : fewer n ≡ nesting_of os
  unfolding loop_bits
  closed-less =
      nesting-equal _ os
      (omega (arith, size_is (o ∷ os) e))
      (omega (arith, depth_is (o ∷ os) e, depth-one-more o os, last-digit))
      (omega (arith, loops_is (o ∷ os) e, digit-small o))

  closed_is : closed_nesting n ≡ nesting_of os
  closed_is =
      sym (closed-one n (λ z. omega (arith, size_is (o ∷ os) e)) (omega (arith, depth_is (o ∷ os) e, depth-one-more o os, last-digit))) ∙ closed-less

-- ---- what is open after a record

some-injective : {A : Type 0} {a b : A} → some a ≡ some b → a ≡ b
some-injective e = cc

module _ (os us : List Open) where
  after-loop : open_after_kind os 2 ≡ some us → (length os < open_limit) × (open_loop ∷ os ≡ us)
  unfolding open_after_kind open_after_as kind_of decode_record open_after
  after-loop e =
      let a = test-passed (ltb (loop_depth os) depth_limit && ltb (length os) open_limit) (open_loop ∷ os) us e in
      (ltb-true (length os) open_limit (T→true (ltb (length os) open_limit) (T_and (ltb (loop_depth os) depth_limit) (ltb (length os) open_limit) a.0).1), a.1)

  after-choice : open_after_kind os 4 ≡ some us → (length os < open_limit) × (open_choice ∷ os ≡ us)
  unfolding open_after_kind open_after_as kind_of decode_record open_after
  after-choice e =
      let a = test-passed (ltb (length os) open_limit) (open_choice ∷ os) us e in
      (ltb-true (length os) open_limit (T→true (ltb (length os) open_limit) a.0), a.1)

after-end : (os us : List Open) → open_after_kind os 3 ≡ some us → (o : Open) × (os ≡ o ∷ us)
unfolding open_after_kind open_after_as kind_of decode_record open_after
after-end [] us e = none-is-not-some e
after-end (o ∷ os) us e = (o, ap (λ (x : List Open). o ∷ x) (some-injective e))

after-arm : (os us : List Open) → open_after_kind os 5 ≡ some us → os ≡ us
unfolding open_after_kind open_after_as kind_of decode_record open_after
after-arm [] us e = none-is-not-some e
after-arm (open_loop ∷ os) us e = none-is-not-some e
after-arm (open_choice ∷ os) us e = some-injective e

-- the numbers after a record are those of what is open after it
pub after_is : {n : Nesting} (os : List Open) {us : List Open} → n ≡ nesting_of os → (kind : ℕ) → open_after_kind os kind ≡ some us
    → nesting_after n kind ≡ nesting_of us
unfolding nesting_after nesting_after_as open_after_kind open_after_as kind_of decode_record open_after
after_is {n} os {us} e =
    by_kind (λ (m : ℕ) (k : Option Kind). open_after_as os k ≡ some us → nesting_after_as n k ≡ nesting_of us)
    (λ a. e ∙ ap nesting_of (some-injective a))
    (λ a. let h = after-loop os us a in extended-is os open_loop e digit-loop h.0 ∙ ap nesting_of h.1)
    (λ a. let h = after-end os us a in closed_is us h.0 (e ∙ ap nesting_of h.1))
    (λ a. let h = after-choice os us a in extended-is os open_choice e digit-choice h.0 ∙ ap nesting_of h.1)
    (λ a. e ∙ ap nesting_of (after-arm os us a))
    (λ a. let h = after-loop os us a in extended-is os open_loop e digit-loop h.0 ∙ ap nesting_of h.1)
    (λ m _ a. e ∙ ap nesting_of (some-injective a))

-- ---- whether a record may stand

there-if : {A : Type 0} (b : Bool) (a : A) → is_there (cond b (some a) none) ≡ b
unfolding is_there
there-if true a = refl
there-if false a = refl

may-end : (os : List Open) → not (eqb (length os) 0) ≡ may_stand os 3
unfolding may_stand is_there open_after_kind open_after_as kind_of decode_record open_after
may-end [] = refl
may-end (o ∷ os) = ap not (ne_eqb (suc (length os)) 0 (λ e. omega arith))

may-arm : (os : List Open) → not (eqb (length os) 0) && eqb (loop_bits os % 2) 0 ≡ may_stand os 5
unfolding may_stand is_there open_after_kind open_after_as kind_of decode_record open_after loop_bits loop_digit
may-arm [] = refl
may-arm (open_loop ∷ os) =
    let odd : (2 * loop_bits os + 1) % 2 ≡ 0 → ⊥ = λ e. omega arith in
    (λ i. not (eqb (suc (length os)) 0) && ne_eqb ((2 * loop_bits os + 1) % 2) 0 odd i) ∙ and-false (not (eqb (suc (length os)) 0))
may-arm (open_choice ∷ os) =
    let even : (2 * loop_bits os + 0) % 2 ≡ 0 = omega arith in
    λ i. not (ne_eqb (suc (length os)) 0 (λ e. omega arith) i) && eq-eqb ((2 * loop_bits os + 0) % 2) 0 even i

-- by the numbers it may stand where it may by what is open
pub may-stand-is : {n : Nesting} (os : List Open) → n ≡ nesting_of os → (kind : ℕ) → may_stand_in n kind ≡ may_stand os kind
unfolding may_stand_in may_stand_in_as may_stand is_there open_after_kind open_after_as kind_of decode_record open_after
may-stand-is {n} os e =
    by_kind (λ (m : ℕ) (k : Option Kind). may_stand_in_as n k ≡ is_there (open_after_as os k))
    refl
    may-loop
    (ap (λ (x : ℕ). not (eqb x 0)) (size_is os e) ∙ may-end os)
    (ap (λ (x : ℕ). ltb x open_limit) (size_is os e) ∙ sym (there-if (ltb (length os) open_limit) (open_choice ∷ os)))
    ((λ i. not (eqb (size_is os e i) 0) && eqb (loops_is os e i % 2) 0) ∙ may-arm os)
    may-loop
    (λ m _. refl)
  where
    may-loop : ltb n.depth depth_limit && ltb n.size open_limit ≡ is_there (cond (ltb (loop_depth os) depth_limit && ltb (length os) open_limit) (some (open_loop ∷ os)) none)
    may-loop =
        (λ i. ltb (depth_is os e i) depth_limit && ltb (size_is os e i) open_limit)
        ∙ sym (there-if (ltb (loop_depth os) depth_limit && ltb (length os) open_limit) (open_loop ∷ os))
