-- The writer record by record: the records laid so far, and what the rest of them adds.
use mathlib.Core.Path.{◌≡◌, refl, sym, ap, ◌∙◌}
use mathlib.Core.List.{List, [], ◌∷◌, ◌++◌, map, map-append, append_assoc, append-nil}
use Prim.Native.Nat.{ℕ, ◌+◌, ◌*◌, ◌<◌, ◌≤◌}
use native.Mathlib.Numerals.{add-one}
use native.Mathlib.Omega.{arith}
use lib.ListN.{length, get_or, take, drop, length-map, get_or-map, drop_of_length-le}
use lib.Seq.{take-suc, take_all, drop-cons}
use Rattle.meaning.specs.Limits.{record_limit, record_length_limit, sheet_length_limit}
use Rattle.meaning.specs.Record as M
use Rattle.meaning.specs.Record.{record_length, record_bytes, sheet_length, sheet_bytes, Open}
use Rattle.meaning.specs.Reader.{Result, ok, refused, and_then, Accepted, end_of_sheet}
use Rattle.meaning.specs.Writer.{RawRecord, check_record, check_from}
use Rattle.meaning.proofs.Logic.{refused-is-not-ok, ok-injective}
use Rattle.meaning.proofs.RecordBytes.{record_length-bound}
use Rattle.sheet.specs.declared.nesting.Nesting.{Nesting}
use Rattle.sheet.specs.declared.nesting.AcceptedRecord.{AcceptedRecord}
use Rattle.records.specs.declared.Record.{Record}
use Rattle.records.specs.View.{record_in, raw_record_of}
use Rattle.sheet.specs.Nestings.{nesting_of}
use Rattle.sheet.specs.Answers.{accepted_of}
use Rattle.sheet.proofs.Openings.{size_is}
use Rattle.sheet.proofs.Reading.{prepend, prepend-none, prepend-one, kept-refused, kept-accepted}
use Rattle.sheet.proofs.SheetRecords.{length-one-more}
use Rattle.writer.specs.Writing.{measured, RecordLaid, SheetLaid}

pub bytes-one-more : (rs : List M.Record) (r : M.Record) → sheet_bytes (rs ++ (r ∷ [])) ≡ sheet_bytes rs ++ record_bytes r
unfolding sheet_bytes
bytes-one-more [] r = append-nil (record_bytes r)
bytes-one-more (x ∷ rs) r =
    ap (λ (l : List ℕ). record_bytes x ++ l) (bytes-one-more rs r) ∙ sym (append_assoc (record_bytes x) (sheet_bytes rs) (record_bytes r))

-- where a refusal falls no sheet is laid
pub not-measured : {X : Type 0} {number place : ℕ} (x : Result (List M.Record)) → refused number place ≡ measured x → {rs : List M.Record} → x ≡ ok rs → X
unfolding measured
not-measured x e q = refused-is-not-ok (e ∙ ap measured q)

-- the records, as the meaning's writer takes them
abbrev entries : List Record → List RawRecord
entries items = map raw_record_of items

-- ---- the loop's state

-- the first `number` records are laid before at, os is open there
pub record Laying (items : List Record) (sheet : List ℕ) (at number : ℕ) (here : Nesting) : Type 0 where
  pub done : List M.Record
  pub os : List Open
  pub opens : here ≡ nesting_of os
  pub so_far : number ≤ length items
  pub few : length items ≤ record_limit
  pub room : length sheet ≡ sheet_length_limit
  pub near : at ≤ record_length_limit * number
  pub offset : at ≡ sheet_length done
  pub given : map record_in done ≡ take number items
  pub stored : take at sheet ≡ sheet_bytes done
  pub leaves : check_from 0 [] (entries items) ≡ prepend done (check_from at os (drop number (entries items)))

pub laying-start : (items : List Record) (sheet : List ℕ) {here : Nesting}
    → length items ≤ record_limit → length sheet ≡ sheet_length_limit
    → here ≡ nesting_of [] → Laying items sheet 0 0 here
unfolding sheet_length sheet_bytes
laying-start items sheet few room e =
    record {
      done = [];
      os = [];
      opens = e;
      so_far = omega arith;
      few = few;
      room = room;
      near = omega arith;
      offset = refl;
      given = refl;
      stored = refl;
      leaves = prepend-none (check_from 0 [] (entries items));
    }

module _ {items : List Record} {sheet : List ℕ} {at number : ℕ} {here : Nesting} (g : Laying items sheet at number here) where
  abbrev whole : Result (List M.Record)
  whole = check_from 0 [] (entries items)

  entries-long : length (entries items) ≡ length items
  entries-long = length-map items raw_record_of

  module _ (more : number < length items) (none : Record) where
    abbrev item : Record
    item = get_or items number none

    abbrev checked : Result Accepted
    checked = check_record at g.os (raw_record_of item)

    abbrev others : Accepted → Result (List M.Record)
    others a = check_from (at + record_length a.accepted) a.after (drop (number + 1) (entries items))

    split : drop number (entries items) ≡ raw_record_of item ∷ drop (number + 1) (entries items)
    split =
        let inside : number < length (entries items) = omega (arith, entries-long) in
        drop-cons (entries items) number (raw_record_of none) inside
        ∙ (λ i. get_or-map raw_record_of items number none i ∷ drop (sym (add-one number) i) (entries items))

    -- the records laid, then this one, then the others
    abbrev from-this : Result Accepted → Result (List M.Record)
    from-this x = prepend g.done (and_then x λ a. and_then (others a) λ rs. ok (a.accepted ∷ rs))

    one-checked : whole ≡ from-this checked
    unfolding check_from
    one-checked = g.leaves ∙ ap (λ (l : List RawRecord). prepend g.done (check_from at g.os l)) split

    pub laying_refused : {refusal place : ℕ} → refused refusal place ≡ accepted_of checked → refused refusal place ≡ measured whole
    unfolding prepend and_then measured
    laying_refused e = sym (ap measured (one-checked ∙ ap from-this (kept-refused checked e)))

    module _ {p : AcceptedRecord} (e : ok p ≡ accepted_of checked) where
      pub laying-near : at + p.length ≤ record_length_limit * (number + 1)
      laying-near =
          let s = kept-accepted checked e in
          omega (arith, g.near, record_length-bound s.0.accepted, ap (λ (x : AcceptedRecord). x.length) s.2)

      module _ {after : List ℕ} (long : length after ≡ length sheet)
          (laid : (a : Accepted) → checked ≡ ok a → RecordLaid item at a.accepted sheet after) where
        pub laying-next : Laying items after (at + p.length) (number + 1) p.after
        unfolding and_then
        laying-next =
            let s = kept-accepted checked e in
            let a : Accepted = s.0 in
            let r : M.Record = a.accepted in
            let far : p.length ≡ record_length r = ap (λ (x : AcceptedRecord). x.length) s.2 in
            let l = laid a s.1 in
            let longer : take (number + 1) items ≡ take number items ++ (item ∷ []) =
            ap (λ (n : ℕ). take n items) (add-one number) ∙ take-suc items number none more in
            let onward : whole ≡ prepend (g.done ++ (r ∷ [])) (others a) = one-checked ∙ ap from-this s.1 ∙ prepend-one g.done r (others a) in
            record {
              done = g.done ++ (r ∷ []);
              os = a.after;
              opens = ap (λ (x : AcceptedRecord). x.after) s.2;
              so_far = omega arith;
              few = g.few;
              room = long ∙ g.room;
              near = laying-near;
              offset = (λ i. g.offset i + far i) ∙ sym (length-one-more g.done r);
              given = map-append record_in g.done (r ∷ []) ∙ (λ i. g.given i ++ (l.given i ∷ [])) ∙ sym longer;
              stored = ap (λ (n : ℕ). take (at + n) after) far ∙ l.stored ∙ ap (λ (x : List ℕ). x ++ record_bytes r) g.stored
                  ∙ sym (bytes-one-more g.done r);
              leaves = onward
                  ∙ ap (λ (n : ℕ). prepend (g.done ++ (r ∷ [])) (check_from (at + n) a.after (drop (number + 1) (entries items)))) (sym far);
            }

  module _ (end : length items ≤ number) where
    all-checked : whole ≡ prepend g.done (end_of_sheet at g.os [])
    unfolding check_from
    all-checked =
        let past : length (entries items) ≤ number = omega (arith, entries-long) in
        g.leaves ∙ ap (λ (l : List RawRecord). prepend g.done (check_from at g.os l)) (drop_of_length-le (entries items) past)

    pub laying-open : (here.size ≡ 0 → ⊥) → refused 5 at ≡ measured whole
    unfolding end_of_sheet prepend measured
    laying-open h = go g.os (size_is g.os g.opens) ∙ sym (ap measured all-checked)
      where
        go : (os : List Open) → here.size ≡ length os → refused 5 at ≡ measured (prepend g.done (end_of_sheet at os []))
        go [] e = absurd (h e)
        go (o ∷ os) e = refl

    module _ (closed : here.size ≡ 0) where
      all_laid : whole ≡ ok g.done
      unfolding end_of_sheet prepend
      all_laid = all-checked ∙ go g.os (size_is g.os g.opens)
        where
          go : (os : List Open) → here.size ≡ length os → prepend g.done (end_of_sheet at os []) ≡ ok g.done
          go [] e = ap {B = Result (List M.Record)} ok (append-nil g.done)
          go (o ∷ os) e = absurd (omega arith)

      pub laying-done : ok at ≡ measured whole
      unfolding measured
      laying-done = ap {B = Result ℕ} ok g.offset ∙ sym (ap measured all_laid)

      pub laying-laid : {rs : List M.Record} → whole ≡ ok rs → SheetLaid items rs sheet
      laying-laid {rs} e =
          let same : g.done ≡ rs = ok-injective (sym all_laid ∙ e) in
          record {
            given = ap (map record_in) (sym same) ∙ g.given ∙ take_all number items end;
            stored = ap (λ (n : ℕ). take n sheet) (ap sheet_length (sym same) ∙ sym g.offset) ∙ g.stored ∙ ap sheet_bytes same;
            fits = omega (arith, g.near, g.few, g.offset, g.so_far, ap sheet_length same);
          }
