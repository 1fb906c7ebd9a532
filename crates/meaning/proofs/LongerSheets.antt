-- Where more records are allowed, a sheet is read, answered and written as it was, or was refused 4: at its first record more, if it is read now.
use mathlib.Core.Path.{◌≡◌, refl, sym, ap, ◌∙◌, subst}
use mathlib.Core.List.{List, [], ◌∷◌}
use mathlib.Core.Bool.{Bool, cond}
use mathlib.Core.Logic.{◌⊎◌, inl, inr}
use Prim.Native.Nat.{ℕ, zero, suc, ◌+◌, ◌≤◌, ◌<◌}
use native.Mathlib.Nat.{zero-add, add-zero}
use native.Mathlib.Omega.{arith}
use lib.IntN.{ℤ}
use lib.ListN.{length, take, drop}
use lib.Dec.{leb, ltb}
use borrow.Author.Tests.{le-leb, lt-leb}
use Rattle.meaning.specs.Limits.{record_limit, header_length}
use Rattle.meaning.specs.Record.{body_length, Record, kind, record_length, sheet_length, Open}
use Rattle.meaning.specs.Reader.{Result, ok, refused, require, and_then, Accepted, end_of_sheet, read_record, read_from_of, read_from, read}
use Rattle.meaning.specs.Writer.{RawRecord, check_from, check_up_to, store, fit_sheet, write_up_to}
use Rattle.meaning.specs.Converter.{add_skips, drop_skips, records_with_skips, records_without_skips, convert, with_skips, without_skips}
use Rattle.meaning.specs.Answer.{Figures, answer_by, answer}
use Rattle.meaning.specs.Program.{refused_line, answer_text, input_parameters, input_budget, input_sheet, reports_of, program_text_by, program_text}
use Rattle.meaning.specs.EarlierReaders.{earlier_record_limit, short_read, UnlessTooLong}
use Rattle.meaning.specs.EarlierWriter.{WrittenAsBefore}
use Rattle.meaning.proofs.Logic.{refused-is-not-ok, ok-injective, and_then-ok, and_then-yes, and_then-no}
use Rattle.meaning.proofs.Accepted.{end_of_sheet-ok}
use Rattle.meaning.proofs.Answers.{answer-of-reading}

-- ---- the reader

-- so many further records, or more of them
read-longer : (left larger at : ℕ) (os : List Open) (bytes : List ℕ) → left ≤ larger →
    (read_from left at os bytes ≡ read_from larger at os bytes) ⊎ ((place : ℕ) × (read_from left at os bytes ≡ refused 4 place))
unfolding read_from_of
read-longer zero zero at os bytes h = inl refl
read-longer zero (suc larger) at os [] h = inl refl
read-longer zero (suc larger) at os (k ∷ bytes) h = inr (at, refl)
read-longer (suc left) zero at os bytes h = absurd (omega arith)
read-longer (suc left) (suc larger) at os [] h = inl refl
read-longer (suc left) (suc larger) at os (k ∷ bytes) h = by_record (read_record at os k bytes) λ (a : Accepted).
    read-longer left larger (at + record_length a.accepted) a.after (drop (body_length (kind a.accepted)) bytes) (omega arith)
  where
    -- what is read after the record a, where so many are left
    rest : ℕ → Accepted → Result (List Record)
    rest n a = read_from n (at + record_length a.accepted) a.after (drop (body_length (kind a.accepted)) bytes)

    whole : ℕ → Result Accepted → Result (List Record)
    whole n r = and_then r λ a. and_then (rest n a) λ rs. ok (a.accepted ∷ rs)

    after_record : (a : Accepted) → (rest left a ≡ rest larger a) ⊎ ((place : ℕ) × (rest left a ≡ refused 4 place)) →
        (whole left (ok a) ≡ whole larger (ok a)) ⊎ ((place : ℕ) × (whole left (ok a) ≡ refused 4 place))
    after_record a (inl e) = unfold and_then in inl (ap (λ r. and_then r λ rs. ok (a.accepted ∷ rs)) e)
    after_record a (inr (place, e)) = unfold and_then in inr (place, and_then-no _ e)

    by_record : (r : Result Accepted) → ((a : Accepted) → (rest left a ≡ rest larger a) ⊎ ((place : ℕ) × (rest left a ≡ refused 4 place))) →
        (whole left r ≡ whole larger r) ⊎ ((place : ℕ) × (whole left r ≡ refused 4 place))
    by_record (refused number place) later = unfold and_then in inl refl
    by_record (ok a) later = after_record a (later a)

-- what a smaller limit makes of the records of a sheet: the same, or a refusal of the first one too many
unfoldable shortened : ℕ → ℕ → List Record → Result (List Record)
shortened left at [] = ok []
shortened zero at (r ∷ rs) = refused 4 at
shortened (suc left) at (r ∷ rs) = and_then (shortened left (at + record_length r) rs) λ others. ok (r ∷ others)

shortened-none : (left at : ℕ) (rs : List Record) → length rs ≤ left → shortened left at rs ≡ ok rs
unfolding shortened and_then
shortened-none left at [] h = refl
shortened-none zero at (r ∷ rs) h = absurd (omega arith)
shortened-none (suc left) at (r ∷ rs) h =
    ap (λ x. and_then x λ others. ok (r ∷ others)) (shortened-none left (at + record_length r) rs (omega arith))

shortened-more : (left at : ℕ) (rs : List Record) → left < length rs → shortened left at rs ≡ refused 4 (at + sheet_length (take left rs))
unfolding shortened sheet_length
shortened-more left at [] h = absurd (omega arith)
shortened-more zero at (r ∷ rs) h = ap (refused 4) (sym (add-zero at))
shortened-more (suc left) at (r ∷ rs) h =
    and_then-no _ (shortened-more left (at + record_length r) rs (omega arith)) ∙ ap (refused 4) (omega arith)

-- no bytes, no records
no_bytes : (left at : ℕ) (os : List Open) (rs : List Record) → end_of_sheet at os [] ≡ ok rs → end_of_sheet at os [] ≡ shortened left at rs
unfolding shortened
no_bytes left at os rs e = e ∙ subst (λ (x : List Record). ok x ≡ shortened left at x) (end_of_sheet-ok at os [] rs e).1 refl

read-shortened : (left larger at : ℕ) (os : List Open) (bytes : List ℕ) (rs : List Record) → read_from larger at os bytes ≡ ok rs →
    read_from left at os bytes ≡ shortened left at rs
unfolding read_from_of shortened
read-shortened zero zero at os [] rs e = no_bytes zero at os rs e
read-shortened (suc left) zero at os [] rs e = no_bytes (suc left) at os rs e
read-shortened zero (suc larger) at os [] rs e = no_bytes zero at os rs e
read-shortened (suc left) (suc larger) at os [] rs e = no_bytes (suc left) at os rs e
read-shortened left zero at os (k ∷ bytes) rs e = refused-is-not-ok e
read-shortened zero (suc larger) at os (k ∷ bytes) rs e =
    let f = and_then-ok (read_record at os k bytes) _ rs e in
    let a : Accepted = f.0 in
    let o = and_then-ok (read_from larger (at + record_length a.accepted) a.after (drop (body_length (kind a.accepted)) bytes)) _ rs f.2 in
    subst (λ (x : List Record). refused 4 at ≡ shortened zero at x) (ok-injective o.2) refl
read-shortened (suc left) (suc larger) at os (k ∷ bytes) rs e =
    let f = and_then-ok (read_record at os k bytes) _ rs e in
    let a : Accepted = f.0 in
    let from : ℕ = at + record_length a.accepted in
    let body : ℕ = body_length (kind a.accepted) in
    let o = and_then-ok (read_from larger from a.after (drop body bytes)) _ rs f.2 in
    and_then-yes _ f.1
    ∙ ap (λ r. and_then r λ rs. ok (a.accepted ∷ rs)) (read-shortened left larger from a.after (drop body bytes) o.0 o.1)
    ∙ ap (shortened (suc left) at) (ok-injective o.2)

-- ---- before C-19

pub alike-longer : (sheet : List ℕ) → UnlessTooLong sheet (short_read sheet ≡ read sheet)
unfolding short_read read
alike-longer sheet = read-longer earlier_record_limit record_limit 0 [] sheet (omega arith)

pub shorter-read : (sheet : List ℕ) (rs : List Record) → read sheet ≡ ok rs → length rs ≤ earlier_record_limit → short_read sheet ≡ ok rs
unfolding short_read read
shorter-read sheet rs e h = read-shortened earlier_record_limit record_limit 0 [] sheet rs e ∙ shortened-none earlier_record_limit 0 rs h

pub longer-refused : (sheet : List ℕ) (rs : List Record) → read sheet ≡ ok rs → earlier_record_limit < length rs →
    short_read sheet ≡ refused 4 (sheet_length (take earlier_record_limit rs))
unfolding short_read read
longer-refused sheet rs e h =
    read-shortened earlier_record_limit record_limit 0 [] sheet rs e ∙ shortened-more earlier_record_limit 0 rs h
    ∙ ap (refused 4) (zero-add (sheet_length (take earlier_record_limit rs)))

-- what depends on the sheet only by what is read of it stays, unless it was refused 4
unless-too-long : (A : Type 0) (sheet : List ℕ) → (short_read sheet ≡ read sheet → A) → UnlessTooLong sheet A
unless-too-long A sheet f = go (alike-longer sheet)
  where
    go : UnlessTooLong sheet (short_read sheet ≡ read sheet) → UnlessTooLong sheet A
    go (inl e) = inl (f e)
    go (inr refusal) = inr refusal

-- the library call's answer
pub answered-alike : (sheet : List ℕ) (ps : List ℤ) (budget : ℕ) (r : Result Figures) → r ≡ answer sheet ps budget →
    UnlessTooLong sheet (r ≡ answer_by short_read sheet ps budget)
answered-alike sheet ps budget r is = unless-too-long _ sheet λ e. is ∙ sym (answer-of-reading short_read read sheet sheet ps budget e)

-- what `bound` prints
pub printed-alike : (input : List ℕ) → UnlessTooLong (input_sheet input) (program_text input ≡ program_text_by short_read input)
unfolding program_text_by
printed-alike input = unless-too-long _ (input_sheet input) λ e t.
    cond (ltb (length input) header_length) (refused_line 1 0)
    (answer_text (answer-of-reading read short_read (input_sheet input) (input_sheet input) (input_parameters input) (input_budget input) (sym e) t)
    (reports_of (input_parameters input) (sym e t)))

-- the converters' sheets
module _ (sheet buffer : List ℕ) where
  pub with-skips-alike : UnlessTooLong sheet (with_skips sheet buffer ≡ convert (and_then (short_read sheet) add_skips) buffer)
  unfolding with_skips records_with_skips
  with-skips-alike = unless-too-long _ sheet λ e. ap (λ r. convert (and_then r add_skips) buffer) (sym e)

  pub without-skips-alike : UnlessTooLong sheet (without_skips sheet buffer ≡ convert (and_then (short_read sheet) (drop_skips 0)) buffer)
  unfolding without_skips records_without_skips
  without-skips-alike = unless-too-long _ sheet λ e. ap (λ r. convert (and_then r (drop_skips 0)) buffer) (sym e)

-- ---- the writer

pub written-as-before : (entries : List RawRecord) (count : ℕ) (buffer : List ℕ) → WrittenAsBefore entries count buffer
unfolding write_up_to check_up_to
written-as-before entries count buffer = record {
  alike = λ h. by-limit earlier_record_limit (le-leb count earlier_record_limit h) ∙ sym (by-limit record_limit (le-leb count record_limit (omega arith)));
  more = λ h. by-limit earlier_record_limit (lt-leb count earlier_record_limit h) ∙ unfold require and_then in refl;
}
  where
    by-limit : (limit : ℕ) {within : Bool} → leb count limit ≡ within →
        write_up_to limit entries count buffer ≡ store buffer (and_then (require within 4 0 (check_from 0 [] (take count entries))) (fit_sheet buffer))
    by-limit limit e = ap (λ b. store buffer (and_then (require b 4 0 (check_from 0 [] (take count entries))) (fit_sheet buffer))) e
