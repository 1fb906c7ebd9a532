-- The records that a sheet is read as: how many, in their place, and where each stands in the sheet.
use mathlib.Core.List.{◌++◌, List, [], ◌∷◌}
use mathlib.Core.Path.{ap, refl, sym, ◌∙◌, ◌≡◌}
use Prim.Native.Nat.{◌+◌, ◌<◌, suc, ℕ, ◌≤◌}
use native.Mathlib.Numerals.{add-one}
use native.Mathlib.Omega.{arith}
use lib.ListN.{drop, get_or, length, take}
use lib.Seq.{split_at, take-suc}
use Rattle.meaning.specs.Record.{Record, end_record, kind, kind_number, record_length, sheet_length}
use Rattle.meaning.specs.Reader.{Result, ok, read, refused}
use Rattle.meaning.specs.Limits.{record_limit}
use Rattle.meaning.proofs.Logic.{refused-is-not-ok, refused-number, refused-place}
use Rattle.meaning.proofs.Accepted.{InPlace, read-in-place, read_short}
use Rattle.meaning.proofs.RecordReader.{StandsAt, read-stands, record_head}
use Rattle.meaning.proofs.RecordBytes.{kind_of-kind_number}
pub use Rattle.meaning.proofs.RecordBytes.{sheet_length-append}
use Rattle.records.specs.View.{length_of, length_of_kind}
use Rattle.sheet.specs.Answers.{counted}
use Rattle.sheet.specs.Sheets.{records_in, records_of}
use Rattle.sheet.proofs.Heads.{head-stands}

-- ---- lengths

pub length-one-more : (rs : List Record) (r : Record) → sheet_length (rs ++ (r ∷ [])) ≡ sheet_length rs + record_length r
unfolding sheet_length
length-one-more rs r = sheet_length-append rs (r ∷ []) ∙ (let e : sheet_length rs + (record_length r + 0) ≡ sheet_length rs + record_length r = omega arith in e)

-- ---- a count, or a refusal

pub counted-ok : (x : Result (List Record)) (n : ℕ) → counted x ≡ ok n → (rs : List Record) × (x ≡ ok rs) × (n ≡ length rs)
unfolding counted
counted-ok (ok rs) n e = (rs, refl, (let z : n ≡ length rs = cc in z))
counted-ok (refused m p) n e = refused-is-not-ok e

pub counted-refused : (x : Result (List Record)) (number place : ℕ) → counted x ≡ refused number place → x ≡ refused number place
unfolding counted
counted-refused (ok rs) number place e = refused-is-not-ok (sym e)
counted-refused (refused m p) number place e = λ i. refused (refused-number e i) (refused-place e i)

-- ---- the records of a sheet

module _ (sheet : List ℕ) where
  pub few-records : length (records_of sheet) ≤ record_limit
  unfolding records_of records_in
  few-records = go (read sheet) refl
    where
      go : (r : Result (List Record)) → read sheet ≡ r → length (records_in r) ≤ record_limit
      go (ok rs) e = read_short sheet rs e
      go (refused number place) e = omega arith

  pub some_read : 0 < length (records_of sheet) → read sheet ≡ ok (records_of sheet)
  unfolding records_of records_in
  some_read = go (read sheet)
    where
      go : (r : Result (List Record)) → 0 < length (records_in r) → r ≡ ok (records_in r)
      go (ok rs) h = refl
      go (refused number place) h = absurd (omega arith)

  pub records-in-place : InPlace [] (records_of sheet)
  unfolding records_of records_in InPlace
  records-in-place = go (read sheet) refl
    where
      go : (r : Result (List Record)) → read sheet ≡ r → InPlace [] (records_in r)
      go (ok rs) e = read-in-place sheet rs e
      go (refused number place) e = refl

  module _ (n : ℕ) (there : n < length (records_of sheet)) where
    abbrev this : Record
    this = get_or (records_of sheet) n end_record

    abbrev at : ℕ
    at = sheet_length (take n (records_of sheet))

    pub around : records_of sheet ≡ take n (records_of sheet) ++ (this ∷ drop (suc n) (records_of sheet))
    around = split_at (records_of sheet) n end_record there

    pub record-stands : StandsAt sheet at this
    record-stands =
        read-stands sheet (take n (records_of sheet)) this (drop (suc n) (records_of sheet)) (some_read (omega arith) ∙ ap {B = Result (List Record)} ok around)

    pub kind-there : get_or sheet at 0 ≡ kind_number (kind this)
    unfolding record_head
    kind-there = sym (head-stands sheet at record-stands.head_there).number

    -- the record's bytes are in the sheet
    pub record-fits : at + record_length this ≤ length sheet
    unfolding record_head record_length
    record-fits = let s = head-stands sheet at record-stands.head_there in omega (arith, s.fits)

    pub one_more : take (n + 1) (records_of sheet) ≡ take n (records_of sheet) ++ (this ∷ [])
    one_more = ap (λ (m : ℕ). take m (records_of sheet)) (add-one n) ∙ take-suc (records_of sheet) n end_record there

    pub next-offset : sheet_length (take (n + 1) (records_of sheet)) ≡ at + record_length this
    next-offset = ap sheet_length one_more ∙ length-one-more (take n (records_of sheet)) this

pub length-by-number : (r : Record) → 1 + length_of_kind (kind_number (kind r)) ≡ record_length r
unfolding length_of_kind length_of record_length
length-by-number r = ap (λ o. 1 + length_of o) (kind_of-kind_number (kind r))
