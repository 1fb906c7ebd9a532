-- Writing what the reader read gives the sheet back.
use mathlib.Core.Path.{◌≡◌, refl, sym, ap, ◌∙◌}
use mathlib.Core.List.{List, [], ◌∷◌, ◌++◌, map, map-append}
use Prim.Native.Nat.{ℕ, suc, ◌-◌, ◌<◌, ◌≤◌}
use native.Mathlib.Omega.{arith}
use lib.Dec.{leb}
use lib.ListN.{length, get_or, take, replicate, length-map}
use lib.Seq.{take_at, take_all}
use Rattle.meaning.specs.Limits.{record_limit}
use Rattle.meaning.specs.Record.{kind_number, work_record, loop_record, end_record, choice_record, next_arm_record}
use Rattle.meaning.specs.Reader.{Result, ok, require, and_then, read}
use Rattle.meaning.specs.Writer.{RawRecord, check_from, check, check_up_to, store, write, write_up_to, fit_sheet}
use Rattle.meaning.specs.Record as M
use Rattle.meaning.proofs.Number.{Bytes}
use Rattle.meaning.proofs.Raw.{zero_form, raw_without, raw_of}
use Rattle.meaning.proofs.Written.{write_read}
use Rattle.records.specs.declared.Record.{Record}
use Rattle.records.specs.View.{blank_record, raw_record_of, record_in}
use Rattle.sheet.specs.Answers.{counted, with_blanks}
use Rattle.sheet.specs.Sheets.{records_in}
use Rattle.sheet.proofs.SheetRecords.{counted-ok}

raw-in : (r : M.Record) → raw_record_of (record_in r) ≡ raw_of r
unfolding record_in raw_of raw_without zero_form kind_number
raw-in (work_record least most) = refl
raw-in (loop_record l) = refl
raw-in end_record = refl
raw-in choice_record = refl
raw-in next_arm_record = refl

raws-in : (rs : List M.Record) → map raw_record_of (map record_in rs) ≡ map raw_of rs
raws-in [] = refl
raws-in (r ∷ rs) = λ i. raw-in r i ∷ raws-in rs i

-- entries past the count are not looked at
by_front : (es fs : List RawRecord) (n : ℕ) → take n es ≡ take n fs → check es n ≡ check fs n
unfolding check_up_to
by_front es fs n e = ap (λ (l : List RawRecord). require (leb n record_limit) 4 0 (check_from 0 [] l)) e

pub bytes-all : (bs : List ℕ) → ((i : ℕ) → get_or bs i 0 < 256) → Bytes bs
unfolding Bytes
bytes-all [] h = tt
bytes-all (b ∷ bs) h = (h 0, bytes-all bs λ i. h (suc i))

-- records with blank ones after them are checked as without
pub checked-without-blanks : (rs : List M.Record) {records : List Record} → records ≡ with_blanks (ok rs) →
    check (map raw_record_of records) (length rs) ≡ check (map raw_of rs) (length rs)
unfolding with_blanks records_in
checked-without-blanks rs {records} is =
    let blanks : List Record = replicate (record_limit - length rs) (blank_record 0) in
    let raws : map raw_record_of records ≡ map raw_of rs ++ map raw_record_of blanks =
    ap (map raw_record_of) is ∙ map-append raw_record_of (map record_in rs) blanks ∙ ap (λ (x : List RawRecord). x ++ map raw_record_of blanks) (raws-in rs) in
    let long : length (map raw_of rs) ≡ length rs = length-map rs raw_of in
    let front : take (length rs) (map raw_record_of records) ≡ take (length rs) (map raw_of rs) =
    ap (take (length rs)) raws ∙ take_at (map raw_of rs) (map raw_record_of blanks) (length rs) long ∙ sym (take_all (length rs) (map raw_of rs) (omega arith)) in
    by_front (map raw_record_of records) (map raw_of rs) (length rs) front

pub written_back : (sheet : List ℕ) → Bytes sheet → {records : List Record} {count : Result ℕ} → count ≡ counted (read sheet)
    → records ≡ with_blanks (read sheet) → (n : ℕ) (buffer : List ℕ) → count ≡ ok n → length sheet ≤ length buffer
    → write (map raw_record_of records) n buffer ≡ store buffer (ok sheet)
unfolding store write_up_to
written_back sheet bytes {records} {count} c l n buffer q room =
    let k = counted-ok (read sheet) n (sym c ∙ q) in
    let rs : List M.Record = k.0 in
    ap (λ (m : ℕ). write (map raw_record_of records) m buffer) k.2
    ∙ ap (λ (r : Result (List M.Record)). store buffer (and_then r (fit_sheet buffer))) (checked-without-blanks rs (l ∙ ap with_blanks k.1))
    ∙ write_read sheet rs buffer bytes k.1 room
