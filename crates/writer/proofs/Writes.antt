-- The writer as a whole: its answer, the buffer that it leaves, and that reading undoes it.
use mathlib.Core.Path.{◌≡◌, refl, sym, ap, ◌∙◌}
use mathlib.Core.List.{List, [], ◌++◌, map}
use mathlib.Core.Bool.{Bool}
use Prim.Native.Nat.{ℕ, ◌-◌, ◌<◌, ◌≤◌}
use native.Mathlib.Omega.{arith}
use lib.Dec.{leb, le→leb}
use lib.ListN.{length, take, drop, replicate, length-map}
use lib.Seq.{length-take-le}
use borrow.Author.Tests.{le-leb, lt-leb}
use Rattle.meaning.specs.Limits.{record_limit, sheet_length_limit}
use Rattle.meaning.specs.Record.{sheet_length, sheet_bytes}
use Rattle.meaning.specs.Reader.{Result, ok, refused, require, and_then, read}
use Rattle.meaning.specs.EarlierWriter.{WrittenAsBefore}
use Rattle.meaning.specs.Writer.{Written, check_from, check_up_to, store, fit_sheet, write, write_up_to}
use Rattle.meaning.specs.Record as M
use Rattle.meaning.proofs.Logic.{refused-is-not-ok, ok-injective, require-ok, require-yes}
use Rattle.meaning.proofs.LongerSheets.{written-as-before}
use Rattle.meaning.proofs.Written.{write-ok}
use Rattle.encoding.specs.Append.{Appended}
use Rattle.encoding.proofs.Appending.{from_start, length-written}
use Rattle.std.proofs.lemmas.List.{take-map}
use Rattle.records.specs.declared.Record.{Record}
use Rattle.records.specs.View.{blank_record, raw_record_of, record_in}
use Rattle.sheet.specs.Answers.{counted, with_blanks}
use Rattle.sheet.specs.Sheets.{records_in}
use Rattle.writer.specs.Writing.{measured, SheetLaid}

-- ---- a measured result

measured-refused : (x : Result (List M.Record)) {number place : ℕ} → refused number place ≡ measured x → x ≡ refused number place
unfolding measured
measured-refused (ok rs) e = refused-is-not-ok e
measured-refused (refused n p) {number} {place} e = let q : n ≡ number = cc in let r : p ≡ place = cc in λ i. refused (q i) (r i)

measured-ok : (x : Result (List M.Record)) {n : ℕ} → ok n ≡ measured x → (rs : List M.Record) × (x ≡ ok rs) × (n ≡ sheet_length rs)
unfolding measured
measured-ok (ok rs) e = (rs, refl, ok-injective e)
measured-ok (refused m p) e = refused-is-not-ok (sym e)

-- ---- the writer

module _ (records : List Record) (count : ℕ) (buffer : List ℕ) where
  abbrev outcome : Written
  outcome = write (map raw_record_of records) count buffer

  -- the records that are written
  abbrev items : List Record
  items = take count records

  abbrev whole : Result (List M.Record)
  whole = check_from 0 [] (map raw_record_of items)

  -- reading the first n bytes gives the records back
  abbrev Undone : List ℕ → ℕ → Type 0
  Undone left n =
      (counted (read (take n left)) ≡ ok count) × (with_blanks (read (take n left)) ≡ take count records ++ replicate (record_limit - count) (blank_record 0))

  -- what the writer's contract promises of an answer and of the buffer as it is left
  abbrev Promised : Result ℕ → List ℕ → Type 0
  Promised r left = (r ≡ outcome.result) × ((left ≡ outcome.buffer) × (((n : ℕ) → r ≡ ok n → Undone left n) × WrittenAsBefore (map raw_record_of records) count buffer))

  refusal : {number place : ℕ} → outcome ≡ store buffer (refused number place) → Promised (refused number place) buffer
  unfolding store
  refusal e = (sym (ap (λ (w : Written). w.result) e), (sym (ap (λ (w : Written). w.buffer) e), (λ n q. refused-is-not-ok q, written-as-before (map raw_record_of records) count buffer)))

  pub too_many : record_limit < count → Promised (refused 4 0) buffer
  unfolding write_up_to check_up_to require and_then
  too_many h =
      refusal (ap (λ (b : Bool). store buffer (and_then (require b 4 0 (check_from 0 [] (take count (map raw_record_of records)))) (fit_sheet buffer)))
      (lt-leb count record_limit h))

  -- the meaning takes the first of the entries, and the code the entries of the first records
  first-entries : check_from 0 [] (take count (map raw_record_of records)) ≡ whole
  first-entries = ap (check_from 0 []) (take-map raw_record_of count records)

  module _ (few : count ≤ record_limit) where
    with-check : {x : Result (List M.Record)} → whole ≡ x → outcome ≡ store buffer (and_then x (fit_sheet buffer))
    unfolding write_up_to check_up_to
    with-check e =
        ap (λ (y : Result (List M.Record)). store buffer (and_then y (fit_sheet buffer))) (require-yes (leb count record_limit) 4 0 _ (le→leb count record_limit few) ∙ first-entries ∙ e)

    pub not-laid-out : {number place : ℕ} → refused number place ≡ measured whole → Promised (refused number place) buffer
    unfolding and_then
    not-laid-out e = refusal (with-check (measured-refused whole e))

    module _ (all : length records ≡ record_limit) {sheet : List ℕ} (long : length sheet ≡ sheet_length_limit)
        (laid : (rs : List M.Record) → whole ≡ ok rs → SheetLaid items rs sheet) {n : ℕ} (e : ok n ≡ measured whole) where
      abbrev rs : List M.Record
      rs = (measured-ok whole e).0

      is-laid : SheetLaid items rs sheet
      is-laid = laid rs (measured-ok whole e).1

      pub length-fits : n ≤ sheet_length_limit
      length-fits = omega (arith, (measured-ok whole e).2, is-laid.fits)

      part-is : take n sheet ≡ sheet_bytes rs
      part-is = ap (λ (x : ℕ). take x sheet) (measured-ok whole e).2 ∙ is-laid.stored

      part-long : length (take n sheet) ≡ n
      part-long = length-take-le n sheet (omega (arith, length-fits))

      size : n ≡ length (sheet_bytes rs)
      size = sym part-long ∙ ap (λ (l : List ℕ). length l) part-is

      pub too_short : length buffer < n → Promised (refused 9 0) buffer
      unfolding and_then fit_sheet require
      too_short h =
          let no : length buffer < length (sheet_bytes rs) = omega (arith, size) in
          refusal (with-check (measured-ok whole e).1
          ∙ ap (λ (b : Bool). store buffer (require b 9 0 (ok (sheet_bytes rs)))) (lt-leb (length (sheet_bytes rs)) (length buffer) no))

      module _ (room : n ≤ length buffer) where
        stored : outcome ≡ store buffer (ok (sheet_bytes rs))
        unfolding and_then fit_sheet require
        stored =
            let yes : length (sheet_bytes rs) ≤ length buffer = omega (arith, size) in
            with-check (measured-ok whole e).1
            ∙ ap (λ (b : Bool). store buffer (require b 9 0 (ok (sheet_bytes rs)))) (le-leb (length (sheet_bytes rs)) (length buffer) yes)

        -- the sheet is put at the buffer's start
        module _ {left : List ℕ} {m : ℕ} (copied : Appended buffer 0 (take n sheet) left m) where
          answer-is : ok m ≡ outcome.result
          unfolding store
          answer-is = ap {B = Result ℕ} ok (length-written copied ∙ part-long ∙ size) ∙ sym (ap (λ (w : Written). w.result) stored)

          left_is : left ≡ outcome.buffer
          unfolding store
          left_is =
              from_start copied ∙ ap (λ (l : List ℕ). l ++ drop (length l) buffer) part-is ∙ sym (ap (λ (w : Written). w.buffer) stored)

          undone : (j : ℕ) → ok m ≡ ok j → Undone left j
          unfolding check_up_to counted with_blanks records_in
          undone j q =
              let w = write-ok (map raw_record_of records) count buffer j (sym answer-is ∙ q) in
              let checked : whole ≡ ok w.written = sym first-entries ∙ (require-ok (leb count record_limit) 4 0 _ w.written w.checked).1 in
              let given : map record_in w.written ≡ take count records = (laid w.written checked).given in
              let same : length w.written ≡ count =
              sym (length-map w.written record_in) ∙ ap (λ (l : List Record). length l) given ∙ length-take-le count records (omega (arith, all)) in
              let back : read (take j left) ≡ ok w.written = ap (λ (l : List ℕ). read (take j l)) left_is ∙ w.read_back in
              (ap counted back ∙ ap {B = Result ℕ} ok same, ap with_blanks back ∙ (λ i. given i ++ replicate (record_limit - same i) (blank_record 0)))

          pub written : Promised (ok m) left
          written = (answer-is, (left_is, (undone, written-as-before (map raw_record_of records) count buffer)))
