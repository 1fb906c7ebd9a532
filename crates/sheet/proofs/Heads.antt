-- What the record reader finds at an offset, from the kind's number and the bytes that are left.
use mathlib.Core.Path.{◌≡◌, refl, sym, ap, ◌∙◌}
use mathlib.Core.List.{List, [], ◌∷◌}
use mathlib.Core.Bool.{Bool, true, false}
use mathlib.Core.Logic.{◌⊎◌, inl, inr}
use mathlib.Core.Option.{Option, none, some}
use Prim.Native.Nat.{ℕ, suc, ◌+◌, ◌-◌, ◌<◌, ◌≤◌}
use native.Mathlib.Nat.{add-sub_cancel_left}
use native.Mathlib.Numerals.{add-one}
use native.Mathlib.Omega.{arith}
use borrow.Author.Tests.{le-leb, lt-leb, leb-true, leb-false}
use lib.Dec.{leb, leb→le}
use lib.ListN.{length, get_or, take, drop, length-drop, drop_of_length-le}
use lib.Seq.{drop-cons}
use Rattle.meaning.specs.Record.{Kind, kind_of, body_length}
use Rattle.meaning.specs.Reader.{Result, ok, refused, require, or_refuse, and_then, Head, head_of, head_at, body_of, body_at}
use Rattle.meaning.proofs.Logic.{none-is-not-some, true-is-not-false, ok-injective, and_then-ok, require-ok, or_refuse-ok}
use Rattle.sheet.specs.declared.head.Head as D
use Rattle.std.specs.Prelude.{Some, None, Ok, Err}
use Rattle.sheet.specs.declared.refusal.Refusal.{Refusal}
use Rattle.sheet.specs.Refusals.{refusal_number}
use Rattle.sheet.specs.Answers.{HeadResult, head_result}
use Rattle.records.specs.View.{is_some_kind, is_kind, length_of, length_of_kind}

-- ---- the kind of a number

-- what is no kind's number names none
pub no_kind : (n : ℕ) → is_kind n ≡ false → kind_of n ≡ none
no_kind n e = go (kind_of n) e
  where
    go : (k : Option Kind) → is_some_kind k ≡ false → k ≡ none
    go none h = refl
    go (some k) h = true-is-not-false (unfold is_some_kind in h)

-- a kind with this number, and its body's length
pub some-kind : (n : ℕ) → is_kind n ≡ true → (k : Kind) × (kind_of n ≡ some k) × (length_of_kind n ≡ body_length k)
unfolding length_of_kind
some-kind n e = go (kind_of n) refl e
  where
    go : (o : Option Kind) → kind_of n ≡ o → is_some_kind o ≡ true → (k : Kind) × (kind_of n ≡ some k) × (length_of (kind_of n) ≡ body_length k)
    go none is h = true-is-not-false (sym (unfold is_some_kind in h))
    go (some k) is h = (k, is, (unfold length_of in ap length_of is))

-- ---- the head

module _ (sheet : List ℕ) (at : ℕ) where
  pub head-end : length sheet ≤ at → ok none ≡ head_at sheet at
  unfolding head_at head_of
  head-end h = sym (ap (head_of at) (drop_of_length-le sheet h))

  module _ (inside : at < length sheet) where
    abbrev kind : ℕ
    kind = get_or sheet at 0

    abbrev rest : List ℕ
    rest = drop (suc at) sheet

    there : head_at sheet at ≡ head_of at (kind ∷ rest)
    unfolding head_at
    there = ap (head_of at) (drop-cons sheet at 0 inside)

    -- the head with a body of this length
    abbrev with-body : ℕ → Result (Option Head)
    with-body n = require (leb n (length rest)) 1 at (ok (some (record { kind_number = kind; body_offset = at + 1; body_length = n })))

    -- the head where the number's kind is found to be k
    with-kind : {k : Option Kind} → kind_of kind ≡ k → head_at sheet at ≡ and_then (or_refuse k 2 at) λ x. with-body (body_length x)
    unfolding head_of
    with-kind e = there ∙ ap (λ (o : Option Kind). and_then (or_refuse o 2 at) λ x. with-body (body_length x)) e

    pub head-no-kind : is_kind kind ≡ false → refused 2 at ≡ head_at sheet at
    unfolding and_then or_refuse
    head-no-kind h = sym (with-kind (no_kind kind h))

    module _ {n : ℕ} (long : n ≡ length_of_kind kind) (known : is_kind kind ≡ true) where
      with-length : head_at sheet at ≡ with-body n
      unfolding and_then or_refuse
      with-length = let k = some-kind kind known in with-kind k.1 ∙ ap with-body (sym (long ∙ k.2))

      pub head-short : length sheet - at - 1 < n → refused 1 at ≡ head_at sheet at
      unfolding require
      head-short h =
          let less : length rest < n = omega (arith, length-drop (suc at) sheet) in
          sym (rw (lt-leb n (length rest) less) at with-length)

      pub head-found : n ≤ length sheet - at - 1 → ok (some (record { kind_number = kind; body_offset = at + 1; body_length = n })) ≡ head_at sheet at
      unfolding require
      head-found h =
          let room : n ≤ length rest = omega (arith, length-drop (suc at) sheet) in
          sym (rw (le-leb n (length rest) room) at with-length)

-- before the sheet's end the head is that of the byte there and those after it
pub head-there : (sheet : List ℕ) (at : ℕ) → at < length sheet → head_at sheet at ≡ head_of at (get_or sheet at 0 ∷ drop (at + 1) sheet)
head-there sheet at inside = there sheet at inside ∙ ap (λ (n : ℕ). head_of at (get_or sheet at 0 ∷ drop n sheet)) (sym (add-one at))

pub head-not-end : {X : Type 0} (sheet : List ℕ) (at : ℕ) → at < length sheet → head_at sheet at ≡ ok none → X
unfolding head_of
head-not-end sheet at inside e =
    let n = and_then-ok (or_refuse (kind_of (get_or sheet at 0)) 2 at) _ none (sym (head-there sheet at inside) ∙ e) in
    let b = require-ok (leb (body_length n.0) (length (drop (at + 1) sheet))) 1 at _ none n.2 in
    none-is-not-some (sym (ok-injective b.1))

-- ---- what a head says

le-or-lt : (m n : ℕ) → (m ≤ n) ⊎ (n < m)
le-or-lt m n = go (leb m n) refl
  where
    go : (b : Bool) → leb m n ≡ b → (m ≤ n) ⊎ (n < m)
    go true e = inl (leb-true m n e)
    go false e = inr (leb-false m n e)

-- a record stands at an offset: its kind is named there, its body follows and is in the sheet
pub record HeadStands (sheet : List ℕ) (at : ℕ) (h : Head) : Type 0 where
  pub inside : at < length sheet
  pub number : h.kind_number ≡ get_or sheet at 0
  pub offset : h.body_offset ≡ at + 1
  pub kind : Kind
  pub named : kind_of (get_or sheet at 0) ≡ some kind
  pub long : h.body_length ≡ body_length kind
  pub fits : h.body_offset + h.body_length ≤ length sheet

pub head-stands : (sheet : List ℕ) (at : ℕ) {h : Head} → head_at sheet at ≡ ok (some h) → HeadStands sheet at h
unfolding head_of
head-stands sheet at {h} e = go (le-or-lt (length sheet) at)
  where
    go : (length sheet ≤ at) ⊎ (at < length sheet) → HeadStands sheet at h
    go (inl n) = none-is-not-some (ok-injective (head-end sheet at n ∙ e))
    go (inr i) =
        let n = and_then-ok (or_refuse (kind_of (get_or sheet at 0)) 2 at) _ (some h) (sym (there sheet at i) ∙ e) in
        let b = require-ok (leb (body_length n.0) (length (drop (suc at) sheet))) 1 at _ (some h) n.2 in
        let z : record { kind_number = get_or sheet at 0; body_offset = at + 1; body_length = body_length n.0 } ≡ h = cc b.1 in
        let room = leb→le (body_length n.0) (length (drop (suc at) sheet)) b.0 in
        record {
          inside = i;
          number = ap (λ (x : Head). x.kind_number) (sym z);
          offset = ap (λ (x : Head). x.body_offset) (sym z);
          kind = n.0;
          named = or_refuse-ok (kind_of (get_or sheet at 0)) 2 at n.0 n.1;
          long = ap (λ (x : Head). x.body_length) (sym z);
          fits = omega (arith, room, length-drop (suc at) sheet, ap (λ (x : Head). x.body_offset) z, ap (λ (x : Head). x.body_length) z);
        }

-- ---- the body

body-found : (sheet : List ℕ) (at : ℕ) {h : Head} → head_at sheet at ≡ ok (some h) → body_at sheet at ≡ take h.body_length (drop h.body_offset sheet)
unfolding body_at body_of
body-found sheet at e = ap (body_of sheet) e

-- ---- the code's answer

abbrev pub head_in : D.Head → Head
head_in h = record { kind_number = h.kind; body_offset = h.offset; body_length = h.length }

module _ (sheet : List ℕ) (at : ℕ) {a : HeadResult} (found : head_result a ≡ head_at sheet at) where
  pub answer-found : {h : D.Head} → a ≡ Ok (Some h) → head_at sheet at ≡ ok (some (head_in h))
  answer-found e = sym found ∙ ap head_result e

  pub answer-refused : {r : Refusal} → a ≡ Err r → head_at sheet at ≡ refused (refusal_number r.kind) r.offset
  answer-refused e = sym found ∙ ap head_result e

  pub answer-end : a ≡ Ok None → head_at sheet at ≡ ok none
  answer-end e = sym found ∙ ap head_result e

  pub answer-stands : {h : D.Head} → a ≡ Ok (Some h) → HeadStands sheet at (head_in h)
  answer-stands e = head-stands sheet at (answer-found e)

  -- the part of the sheet that the code takes is the record's body
  pub answer-body : {h : D.Head} → a ≡ Ok (Some h) → take (h.offset + h.length - h.offset) (drop h.offset sheet) ≡ body_at sheet at
  answer-body {h} e =
      ap (λ (n : ℕ). take n (drop h.offset sheet)) (add-sub_cancel_left h.offset h.length) ∙ sym (body-found sheet at (answer-found e))

-- the other two cases
pub answer-none : (sheet : List ℕ) (at : ℕ) (a : HeadResult) → head_result a ≡ head_at sheet at → ((h : D.Head) → a ≡ Ok (Some h) → ⊥) → [] ≡ body_at sheet at
unfolding body_at body_of
answer-none sheet at (Ok (Some h)) e other = absurd (other h refl)
answer-none sheet at (Ok None) e other = ap (body_of sheet) e
answer-none sheet at (Err r) e other = ap (body_of sheet) e
