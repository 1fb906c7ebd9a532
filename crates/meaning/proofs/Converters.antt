-- What a converter does, and when; the new sheet that it leaves says what the old one says.
use mathlib.Core.Path.{◌≡◌, refl, sym, ap, ◌∙◌, subst}
use mathlib.Core.List.{List, map}
use Prim.Native.Nat.{ℕ, ◌≤◌, ◌<◌}
use native.Mathlib.Decide.{dec_le}
use native.Mathlib.Omega.{arith}
use lib.ListN.{length, take}
use Rattle.meaning.specs.Record.{Record, sheet_bytes}
use Rattle.meaning.specs.Reader.{Result, ok, refused, and_then, read}
use Rattle.meaning.specs.Writer.{Written, store, fit_sheet, write}
use Rattle.meaning.specs.Converter.{add_skips, drop_skips, records_with_skips, records_without_skips, convert, with_skips, without_skips}
use Rattle.meaning.specs.Moved.{SameSheet}
use Rattle.meaning.proofs.Logic.{refused-is-not-ok, ok-injective}
use Rattle.meaning.proofs.Raw.{raw_of}
use Rattle.meaning.proofs.Written.{IsWritten, write-ok}
use Rattle.meaning.proofs.Lents.{buffer-refused, buffer-ok}
use Rattle.meaning.proofs.ConvertedRecords.{Converted, with-skips-converted, without-skips-converted, converted-checked, converted-written}
use Rattle.meaning.proofs.ConvertedAnswers.{same-sheet}

-- ---- a converter that makes `change` of a sheet's records

module _ (change : List Record → Result (List Record)) where
  abbrev pub converter : List ℕ → List ℕ → Written
  converter sheet buffer = convert (and_then (read sheet) change) buffer

  module _ (sheet buffer : List ℕ) where
    -- what it does, and when, in document 02's order: 1 to 5, then its own refusal, then 9, then the new sheet
    pub data Outcome : Type 0 where
      sheet_refused : (number place : ℕ) → read sheet ≡ refused number place → converter sheet buffer ≡ store buffer (refused number place) → Outcome
      records_refused : (rs : List Record) (number place : ℕ) → read sheet ≡ ok rs → change rs ≡ refused number place →
          converter sheet buffer ≡ store buffer (refused number place) → Outcome
      buffer_refused : (rs new : List Record) → read sheet ≡ ok rs → change rs ≡ ok new → length buffer < length (sheet_bytes new) →
          converter sheet buffer ≡ store buffer (refused 9 0) → Outcome
      converted : (rs new : List Record) → read sheet ≡ ok rs → change rs ≡ ok new → length (sheet_bytes new) ≤ length buffer →
          converter sheet buffer ≡ store buffer (ok (sheet_bytes new)) → Outcome

    pub by-reading : {r : Result (List Record)} → read sheet ≡ r → converter sheet buffer ≡ store buffer (and_then (and_then r change) (fit_sheet buffer))
    unfolding convert
    by-reading e = ap (λ r. store buffer (and_then (and_then r change) (fit_sheet buffer))) e

    pub by-records : {rs : List Record} {r : Result (List Record)} → read sheet ≡ ok rs → change rs ≡ r →
        converter sheet buffer ≡ store buffer (and_then r (fit_sheet buffer))
    unfolding and_then
    by-records e f = by-reading e ∙ ap (λ r. store buffer (and_then r (fit_sheet buffer))) f

    pub by-buffer : {rs new : List Record} {r : Result (List ℕ)} → read sheet ≡ ok rs → change rs ≡ ok new → fit_sheet buffer new ≡ r →
        converter sheet buffer ≡ store buffer r
    unfolding and_then
    by-buffer e f g = by-records e f ∙ ap (store buffer) g

    pub outcome : Outcome
    unfolding and_then fit_sheet
    outcome = by_reading (read sheet) refl
      where
        by_buffer : (rs new : List Record) → read sheet ≡ ok rs → change rs ≡ ok new → Dec (length (sheet_bytes new) ≤ length buffer) → Outcome
        by_buffer rs new e f (yes h) = converted rs new e f h (by-buffer e f (buffer-ok (sheet_bytes new) buffer 9 h))
        by_buffer rs new e f (no h) =
            let h' : length buffer < length (sheet_bytes new) = omega arith in
            buffer_refused rs new e f h' (by-buffer e f (buffer-refused (sheet_bytes new) buffer 9 h'))

        by_records : (rs : List Record) → read sheet ≡ ok rs → (r : Result (List Record)) → change rs ≡ r → Outcome
        by_records rs e (ok new) f = by_buffer rs new e f (dec_le (length (sheet_bytes new)) (length buffer))
        by_records rs e (refused number place) f = records_refused rs number place e f (by-records e f)

        by_reading : (r : Result (List Record)) → read sheet ≡ r → Outcome
        by_reading (ok rs) e = by_records rs e (change rs) refl
        by_reading (refused number place) e = sheet_refused number place e (by-reading e)

-- ---- its answer

-- the buffer after the answer n: as the writer leaves it for the new records
pub record IsConverted (change : List Record → Result (List Record)) (sheet buffer : List ℕ) (n : ℕ) (left : List ℕ) : Type 0 where
  pub old : List Record
  pub new : List Record
  pub old_read : read sheet ≡ ok old
  pub changed : change old ≡ ok new
  pub written : IsWritten (map raw_of new) (length new) buffer n left
  pub new_read : read (take n left) ≡ ok new

module _ (change : List Record → Result (List Record)) (converts : (rs new : List Record) → change rs ≡ ok new → Converted rs new) (sheet buffer : List ℕ) where
  pub converter-ok : (n : ℕ) → (converter change sheet buffer).result ≡ ok n → IsConverted change sheet buffer n (converter change sheet buffer).buffer
  unfolding store
  converter-ok n a = go (outcome change sheet buffer)
    where
      left : List ℕ
      left = (converter change sheet buffer).buffer

      not-refused : {number place : ℕ} → converter change sheet buffer ≡ store buffer (refused number place) → IsConverted change sheet buffer n left
      not-refused e = refused-is-not-ok (ap (λ (w : Written). w.result) (sym e) ∙ a)

      go : Outcome change sheet buffer → IsConverted change sheet buffer n left
      go (sheet_refused number place r e) = not-refused e
      go (records_refused rs number place r f e) = not-refused e
      go (buffer_refused rs new r f h e) = not-refused e
      go (converted rs new r f h e) =
          let c = converts rs new f in
          let same : converter change sheet buffer ≡ write (map raw_of new) (length new) buffer =
          by-records change sheet buffer r f ∙ unfold convert and_then in sym (converted-written sheet rs r new c buffer) in
          let w = write-ok (map raw_of new) (length new) buffer n (ap (λ (x : Written). x.result) (sym same) ∙ a) in
          let kept : IsWritten (map raw_of new) (length new) buffer n left =
          subst (λ (x : Written). IsWritten (map raw_of new) (length new) buffer n x.buffer) (sym same) w in
          let records-same : kept.written ≡ new = ok-injective (sym kept.checked ∙ converted-checked sheet rs r new c) in
          record { old = rs; new = new; old_read = r; changed = f; written = kept; new_read = kept.read_back ∙ ap {B = Result (List Record)} ok records-same }

  -- the new sheet says what the old one says
  pub converter-same : (n : ℕ) → (converter change sheet buffer).result ≡ ok n → SameSheet sheet (take n (converter change sheet buffer).buffer)
  converter-same n a =
      let i = converter-ok n a in
      same-sheet sheet (take n (converter change sheet buffer).buffer) i.old i.new i.old_read i.new_read (converts i.old i.new i.changed)

-- ---- the two converters

pub add-skips-converted : (rs new : List Record) → add_skips rs ≡ ok new → Converted rs new
unfolding add_skips
add-skips-converted rs new e = subst (Converted rs) (ok-injective e) (with-skips-converted rs)

module _ (sheet buffer : List ℕ) (n : ℕ) where
  pub with-skips-ok : (with_skips sheet buffer).result ≡ ok n → IsConverted add_skips sheet buffer n (with_skips sheet buffer).buffer
  unfolding with_skips records_with_skips
  with-skips-ok a = converter-ok add_skips add-skips-converted sheet buffer n a

  pub without-skips-ok : (without_skips sheet buffer).result ≡ ok n → IsConverted (drop_skips 0) sheet buffer n (without_skips sheet buffer).buffer
  unfolding without_skips records_without_skips
  without-skips-ok a = converter-ok (drop_skips 0) (without-skips-converted 0) sheet buffer n a

  pub with-skips-same : (with_skips sheet buffer).result ≡ ok n → SameSheet sheet (take n (with_skips sheet buffer).buffer)
  unfolding with_skips records_with_skips
  with-skips-same a = converter-same add_skips add-skips-converted sheet buffer n a

  pub without-skips-same : (without_skips sheet buffer).result ≡ ok n → SameSheet sheet (take n (without_skips sheet buffer).buffer)
  unfolding without_skips records_without_skips
  without-skips-same a = converter-same (drop_skips 0) (without-skips-converted 0) sheet buffer n a
