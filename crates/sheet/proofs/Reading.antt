-- The reader record by record: the records read so far, and what the rest of the sheet adds to them.
use mathlib.Core.Path.{◌≡◌, refl, sym, ap, ◌∙◌}
use mathlib.Core.List.{List, [], ◌∷◌, ◌++◌, append_assoc}
use Prim.Native.Nat.{ℕ, zero, suc, ◌+◌, ◌-◌, ◌<◌, ◌≤◌}
use native.Mathlib.Numerals.{add-one}
use native.Mathlib.Omega.{arith}
use lib.ListN.{length, get_or, drop, length-append, length-drop, drop_of_length-le}
use lib.Seq.{drop-cons, drop-drop}
use Rattle.meaning.specs.Limits.{record_limit}
use Rattle.meaning.specs.Record.{body_length, Record, kind, record_length, Open}
use Rattle.meaning.specs.Reader.{read_from_of, Result, ok, refused, and_then, Accepted, read_record, end_of_sheet, read_from, read}
use Rattle.meaning.proofs.Logic.{refused-is-not-ok, ok-injective}
use Rattle.meaning.proofs.Accepted.{read_record-ok}
use Rattle.sheet.specs.declared.nesting.Nesting.{Nesting}
use Rattle.sheet.specs.declared.nesting.AcceptedRecord.{AcceptedRecord}
use Rattle.sheet.specs.Nestings.{nesting_of}
use Rattle.sheet.specs.Answers.{accepted_of, counted}
use Rattle.sheet.proofs.Openings.{size_is}

-- ---- records before a result

unfoldable pub prepend : List Record → Result (List Record) → Result (List Record)
prepend done (ok rs) = ok (done ++ rs)
prepend done (refused number place) = refused number place

pub prepend-none : (r : Result (List Record)) → r ≡ prepend [] r
unfolding prepend
prepend-none (ok rs) = refl
prepend-none (refused number place) = refl

pub prepend-one : (done : List Record) (x : Record) (r : Result (List Record)) → prepend done (and_then r λ rs. ok (x ∷ rs)) ≡ prepend (done ++ (x ∷ [])) r
unfolding prepend and_then
prepend-one done x (ok rs) = ap {B = Result (List Record)} ok (sym (append_assoc done (x ∷ []) rs))
prepend-one done x (refused number place) = refl

-- ---- what is kept of a record's answer

pub kept-refused : (x : Result Accepted) {number place : ℕ} → refused number place ≡ accepted_of x → x ≡ refused number place
unfolding accepted_of
kept-refused (ok a) e = refused-is-not-ok e
kept-refused (refused n p) {number} {place} e = let q : n ≡ number = cc in let r : p ≡ place = cc in λ i. refused (q i) (r i)

pub kept-accepted : (x : Result Accepted) {p : AcceptedRecord} → ok p ≡ accepted_of x →
    (a : Accepted) × (x ≡ ok a) × (p ≡ record { length = record_length a.accepted; after = nesting_of a.after })
unfolding accepted_of
kept-accepted (ok a) e = (a, refl, ok-injective e)
kept-accepted (refused n q) e = refused-is-not-ok (sym e)

-- ---- the loop's state

-- count records are read before at, os is open there
pub record Reading (sheet : List ℕ) (at count : ℕ) (here : Nesting) : Type 0 where
  pub done : List Record
  pub os : List Open
  pub opens : here ≡ nesting_of os
  pub many : length done ≡ count
  pub few : count ≤ record_limit
  pub inside : at ≤ length sheet
  pub leaves : read sheet ≡ prepend done (read_from (record_limit - count) at os (drop at sheet))

pub reading-start : (sheet : List ℕ) {here : Nesting} → here ≡ nesting_of [] → Reading sheet 0 0 here
unfolding read
reading-start sheet e =
    record {
      done = [];
      os = [];
      opens = e;
      many = refl;
      few = omega arith;
      inside = omega arith;
      leaves = prepend-none (read_from record_limit 0 [] sheet);
    }

module _ {sheet : List ℕ} {at count : ℕ} {here : Nesting} (g : Reading sheet at count here) where
  abbrev kind_byte : ℕ
  kind_byte = get_or sheet at 0

  abbrev rest : List ℕ
  rest = drop (at + 1) sheet

  module _ (more : at < length sheet) where
    split : drop at sheet ≡ kind_byte ∷ rest
    split = drop-cons sheet at 0 more ∙ ap (λ (n : ℕ). kind_byte ∷ drop n sheet) (sym (add-one at))

    -- one record too many
    pub reading-full : record_limit ≤ count → refused 4 at ≡ counted (read sheet)
    unfolding read_from_of prepend counted
    reading-full h =
        let none_left : record_limit - count ≡ zero = omega (arith, g.few) in
        sym (ap counted (g.leaves ∙ (λ i. prepend g.done (read_from (none_left i) at g.os (split i)))))

    module _ (room : count < record_limit) where
      abbrev left : ℕ
      left = record_limit - (count + 1)

      abbrev others : Accepted → Result (List Record)
      others a = read_from left (at + record_length a.accepted) a.after (drop (body_length (kind a.accepted)) rest)

      one-read : read sheet ≡ prepend g.done (and_then (read_record at g.os kind_byte rest) λ a. and_then (others a) λ rs. ok (a.accepted ∷ rs))
      unfolding read_from_of
      one-read =
          let one_less : record_limit - count ≡ suc left = omega arith in
          g.leaves ∙ (λ i. prepend g.done (read_from (one_less i) at g.os (split i)))

      abbrev this : Result Accepted
      this = read_record at g.os kind_byte rest

      -- the records read, then this one, then the others
      abbrev from-this : Result Accepted → Result (List Record)
      from-this x = prepend g.done (and_then x λ a. and_then (others a) λ rs. ok (a.accepted ∷ rs))

      pub reading-refused : {number place : ℕ} → refused number place ≡ accepted_of this → refused number place ≡ counted (read sheet)
      unfolding prepend and_then counted
      reading-refused e = sym (ap counted (one-read ∙ ap from-this (kept-refused this e)))

      module _ {p : AcceptedRecord} (e : ok p ≡ accepted_of this) where
        pub reading-forward : 0 < p.length
        unfolding record_length
        reading-forward = omega (arith, ap (λ (x : AcceptedRecord). x.length) (kept-accepted this e).2)

        pub reading-next : Reading sheet (at + p.length) (count + 1) p.after
        unfolding record_length and_then
        reading-next =
            let s = kept-accepted this e in
            let a : Accepted = s.0 in
            let r : Record = a.accepted in
            let long : p.length ≡ record_length r = ap (λ (x : AcceptedRecord). x.length) s.2 in
            let there = (read_record-ok at g.os kind_byte rest a s.1).body_there in
            let offset : at + 1 + body_length (kind r) ≡ at + record_length r = omega arith in
            let dropped : drop (body_length (kind r)) rest ≡ drop (at + record_length r) sheet =
            drop-drop (body_length (kind r)) (at + 1) sheet ∙ ap (λ (n : ℕ). drop n sheet) offset in
            let onward : read sheet ≡ prepend (g.done ++ (r ∷ [])) (read_from left (at + record_length r) a.after (drop (at + record_length r) sheet)) =
            one-read
            ∙ ap from-this s.1
            ∙ prepend-one g.done r (others a)
            ∙ ap (λ (l : List ℕ). prepend (g.done ++ (r ∷ [])) (read_from left (at + record_length r) a.after l)) dropped in
            record {
              done = g.done ++ (r ∷ []);
              os = a.after;
              opens = ap (λ (x : AcceptedRecord). x.after) s.2;
              many = omega (arith, length-append g.done (r ∷ []), g.many);
              few = omega arith;
              inside = omega (arith, there, length-drop (at + 1) sheet, long);
              leaves = onward
                  ∙ ap (λ (n : ℕ). prepend (g.done ++ (r ∷ [])) (read_from left (at + n) a.after (drop (at + n) sheet))) (sym long);
            }

  module _ (end : length sheet ≤ at) where
    at-end : (os : List Open) (left : ℕ) → read_from left at os [] ≡ end_of_sheet at os []
    unfolding read_from_of
    at-end os zero = refl
    at-end os (suc n) = refl

    all_read : counted (read sheet) ≡ counted (prepend g.done (end_of_sheet at g.os []))
    all_read =
        ap counted (g.leaves
        ∙ ap (λ (l : List ℕ). prepend g.done (read_from (record_limit - count) at g.os l)) (drop_of_length-le sheet end)
        ∙ ap (prepend g.done) (at-end g.os (record_limit - count)))

    pub reading-open : (here.size ≡ 0 → ⊥) → refused 5 at ≡ counted (read sheet)
    unfolding end_of_sheet prepend counted
    reading-open h = go g.os (size_is g.os g.opens) ∙ sym all_read
      where
        go : (os : List Open) → here.size ≡ length os → refused 5 at ≡ counted (prepend g.done (end_of_sheet at os []))
        go [] e = absurd (h e)
        go (o ∷ os) e = refl

    pub reading-done : here.size ≡ 0 → ok count ≡ counted (read sheet)
    unfolding end_of_sheet prepend counted
    reading-done h = go g.os (size_is g.os g.opens) ∙ sym all_read
      where
        go : (os : List Open) → here.size ≡ length os → ok count ≡ counted (prepend g.done (end_of_sheet at os []))
        go [] e = let n : count ≡ length (g.done ++ []) = omega (arith, length-append g.done [], g.many) in ap {B = Result ℕ} ok n
        go (o ∷ os) e = absurd (omega arith)
