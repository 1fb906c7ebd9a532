-- The records of an accepted sheet, decoded one after another into an array.
use mathlib.Core.Path.{◌≡◌, refl, sym, ap, ◌∙◌, subst}
use mathlib.Core.List.{List, [], ◌∷◌, ◌++◌, map, map-append, append_assoc, append-nil}
use mathlib.Core.Option.{some}
use Prim.Native.Nat.{ℕ, suc, ◌+◌, ◌-◌, ◌<◌, ◌≤◌}
use native.Mathlib.Omega.{arith}
use lib.ListN.{length, get_or, take, drop, set, replicate, length-map, length-append, length-replicate}
use lib.Seq.{length-take-le, take_all, set_at}
use Rattle.meaning.specs.Limits.{record_limit}
use Rattle.meaning.specs.Record.{kind_number, body_length, kind, record_length, end_record, sheet_length}
use Rattle.meaning.specs.Reader.{Result, ok, refused, Head, head_at, body_at, read}
use Rattle.meaning.specs.Record as M
use Rattle.meaning.proofs.Logic.{refused-is-not-ok, none-is-not-some, ok-injective}
use Rattle.meaning.proofs.RecordBytes.{kind_of-kind_number}
use Rattle.meaning.proofs.RecordReader.{record_head, StandsAt}
use Rattle.std.specs.Prelude.{Some, None, Ok, Err}
use Rattle.std.proofs.lemmas.List.{take-replicate, drop-replicate}
use Rattle.records.specs.declared.Record.{Record}
use Rattle.sheet.specs.declared.head.Head as D
use Rattle.records.specs.View.{blank_record, record_in, decoded_as, decoded}
use Rattle.sheet.specs.Answers.{HeadResult, head_result, counted, or_zero, with_blanks}
use Rattle.sheet.specs.Sheets.{records_in, records_of}
use Rattle.sheet.proofs.Heads.{head_in, answer-found, answer-body}
use Rattle.sheet.proofs.SheetRecords.{few-records, next-offset, one_more, record-stands}

-- ---- the records of a result

count-is : (r : Result (List M.Record)) → or_zero (counted r) ≡ length (records_in r)
unfolding or_zero counted records_in
count-is (ok rs) = refl
count-is (refused number place) = refl

-- the first k of the records in room for n, and blank ones after them
abbrev filled : List M.Record → ℕ → ℕ → List Record
filled rs n k = map record_in (take k rs) ++ replicate (n - k) (blank_record 0)

-- one element stored after those before it
one-stored : {A B : Type 0} (f : A → B) (blank : B) (before : List A) (x : A) (k n : ℕ) → length before ≡ k →
    set (map f before ++ replicate (suc n) blank) k (f x) ≡ map f (before ++ (x ∷ [])) ++ replicate n blank
one-stored {A} {B} f blank before x k n e =
    set_at (map f before) blank (replicate n blank) (f x) k (length-map before f ∙ e)
    ∙ sym (ap (λ (l : List B). l ++ replicate n blank) (map-append f before (x ∷ [])) ∙ append_assoc (map f before) (f x ∷ []) (replicate n blank))

-- ---- the loop's state

-- the first `number` of the records are stored
pub record Decoding (sheet : List ℕ) (count : ℕ) (records : List Record) (at number : ℕ) : Type 0 where
  pub all : count ≡ length (records_of sheet)
  pub so_far : number ≤ count
  pub offset : at ≡ sheet_length (take number (records_of sheet))
  pub stored : records ≡ filled (records_of sheet) count number

pub counted-few : (sheet : List ℕ) {count : ℕ} → count ≡ or_zero (counted (read sheet)) → (count ≡ length (records_of sheet)) × (count ≤ record_limit)
unfolding records_of
counted-few sheet e = let n = e ∙ count-is (read sheet) in (n, omega (arith, few-records sheet, n))

pub decoding-start : (sheet : List ℕ) {count : ℕ} {blank : Record} → count ≡ or_zero (counted (read sheet)) → blank ≡ blank_record 0
    → Decoding sheet count (take count (replicate record_limit blank)) 0 0
unfolding sheet_length
decoding-start sheet {count} {blank} e b =
    let n = counted-few sheet e in
    let room : count ≡ count - 0 = omega arith in
    record {
      all = n.0;
      so_far = omega arith;
      offset = refl;
      stored = take-replicate count record_limit blank n.1 ∙ (λ i. replicate (room i) (b i));
    }

module _ {sheet : List ℕ} {count : ℕ} {records : List Record} {at number : ℕ} (g : Decoding sheet count records at number) where
  abbrev rs : List M.Record
  rs = records_of sheet

  pub items-count : length records ≡ count
  items-count =
      ap (λ (l : List Record). length l) g.stored
      ∙ length-append (map record_in (take number rs)) (replicate (count - number) (blank_record 0))
      ∙ omega (arith, length-map (take number rs) record_in, length-take-le number rs (omega (arith, g.all)), length-replicate (count - number) (blank_record 0))

  pub decoding-done : {blank : Record} → blank ≡ blank_record 0 → count ≤ number → records ++ drop count (replicate record_limit blank) ≡ with_blanks (read sheet)
  unfolding records_of with_blanks
  decoding-done {blank} e h =
      let taken : take number rs ≡ rs = take_all number rs (omega (arith, g.all)) in
      let none_left : count - number ≡ 0 = omega arith in
      let stored : records ≡ map record_in rs = g.stored ∙ (λ i. map record_in (taken i) ++ replicate (none_left i) (blank_record 0)) ∙ append-nil (map record_in rs) in
      (λ i. stored i ++ drop-replicate count record_limit blank i) ∙ (λ i. map record_in rs ++ replicate (record_limit - g.all i) (e i))

  module _ (more : number < count) where
    abbrev this : M.Record
    this = get_or rs number end_record

    inside : number < length rs
    inside = omega (arith, g.all)

    stands : StandsAt sheet at this
    stands = subst (λ (n : ℕ). StandsAt sheet n this) (sym g.offset) (record-stands sheet number inside)

    -- the arm where no record stands is not reached
    pub decoding-finds : {X : Type 0} (a : HeadResult) → head_result a ≡ head_at sheet at → ((h : D.Head) → a ≡ Ok (Some h) → ⊥) → X
    decoding-finds {X} a found = go a (found ∙ stands.head_there)
      where
        go : (x : HeadResult) → head_result x ≡ ok (some (record_head at this)) → ((h : D.Head) → x ≡ Ok (Some h) → ⊥) → X
        go (Ok (Some h)) e other = absurd (other h refl)
        go (Ok None) e other = none-is-not-some (ok-injective e)
        go (Err r) e other = refused-is-not-ok e

    module _ {a : HeadResult} (found : head_result a ≡ head_at sheet at) {h : D.Head} (is : a ≡ Ok (Some h)) where
      same_head : head_in h ≡ record_head at this
      same_head = let e = sym (answer-found sheet at found is) ∙ stands.head_there in cc

      after-body : h.offset + h.length ≡ at + record_length this
      unfolding record_head record_length
      after-body = omega (arith, ap (λ (x : Head). x.body_offset) same_head, ap (λ (x : Head). x.body_length) same_head)

      record_is : decoded h.kind (take (h.offset + h.length - h.offset) (drop h.offset sheet)) ≡ record_in this
      unfolding decoded decoded_as record_head
      record_is =
          (λ i. decoded (same_head i).kind_number (answer-body sheet at found is i))
          ∙ ap (decoded_as (kind_number (kind this)) (body_at sheet at)) (kind_of-kind_number (kind this))
          ∙ ap record_in stands.decoded

      pub decoding-next : {r : Record} → r ≡ decoded h.kind (take (h.offset + h.length - h.offset) (drop h.offset sheet)) →
          Decoding sheet count (set records number r) (h.offset + h.length) (number + 1)
      decoding-next e =
          let longer : take (number + 1) rs ≡ take number rs ++ (this ∷ []) = one_more sheet number inside in
          let left : count - number ≡ suc (count - (number + 1)) = omega arith in
          record {
            all = g.all;
            so_far = omega arith;
            offset = after-body ∙ ap (λ (n : ℕ). n + record_length this) g.offset ∙ sym (next-offset sheet number inside);
            stored = (λ i. set (g.stored i) number ((e ∙ record_is) i))
                ∙ ap (λ (n : ℕ). set (map record_in (take number rs) ++ replicate n (blank_record 0)) number (record_in this)) left
                ∙ one-stored record_in (blank_record 0) (take number rs) this number (count - (number + 1)) (length-take-le number rs (omega (arith, inside)))
                ∙ ap (λ (l : List M.Record). map record_in l ++ replicate (count - (number + 1)) (blank_record 0)) (sym longer);
          }
