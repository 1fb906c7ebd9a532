-- The promises of storing a converted sheet, and those of the converters' calls: the refusal of the sheet or its records, 9, or the new sheet.
use mathlib.Core.Path.{◌≡◌, sym, ap, subst, ◌∙◌}
use mathlib.Core.List.{List, ◌++◌}
use mathlib.Core.Bool.{Bool}
use Prim.Native.Nat.{ℕ, ◌≤◌, ◌<◌}
use native.Mathlib.Omega.{arith}
use lib.Dec.{leb}
use lib.ListN.{length, take, drop}
use lib.Seq.{take-append_seam}
use borrow.Author.Tests.{le-leb, lt-leb}
use Rattle.meaning.specs.Limits.{length_size}
use Rattle.meaning.specs.Number.{little_endian}
use Rattle.meaning.specs.Record.{Record, sheet_bytes}
use Rattle.meaning.specs.Reader.{Result, ok, refused, require, and_then}
use Rattle.meaning.specs.Writer.{Written, store, fit_sheet}
use Rattle.meaning.specs.Lent.{Lent, store_lent, lent_in}
use Rattle.meaning.specs.Converter.{convert}
use Rattle.meaning.specs.ConverterCall.{convert_call}
use Rattle.meaning.specs.Moved.{SameSheet, Turned}
use Rattle.meaning.proofs.Lents.{buffer-refused, buffer-ok}
use Rattle.meaning.proofs.ConverterCalls.{Converting}
use Rattle.encoding.specs.Append.{Appended}
use Rattle.encoding.proofs.Appending.{from_start, same_bytes}
use Rattle.converter.specs.Converting.{new_length}
use Rattle.converter.proofs.Conversions.{new-is-refused, there-are, front}
use Rattle.exports.proofs.Leaving.{Leaves, leaves_by}

-- ---- storing

module _ (new : Result (List Record)) (buffer area : List ℕ) where
  abbrev pub Left : ℕ → List ℕ → List ℕ → Type 0
  Left = Leaves (convert_call new buffer area)

  -- the refusal of the sheet or of its records
  pub left-refused : {number place : ℕ} → refused number place ≡ new_length new → Left number buffer area
  unfolding convert_call and_then store_lent
  left-refused {number} {place} e = leaves_by (ap (λ (r : Result (List Record)). convert_call r buffer area) (new-is-refused new e))

  module _ {n : ℕ} (long : ok n ≡ new_length new) where
    abbrev rs : List Record
    rs = (there-are new long).0

    by-room : {room : Bool} → leb length_size (length area) ≡ room → convert_call new buffer area ≡ store_lent buffer area (require room 9 0 (fit_sheet buffer rs))
    unfolding convert_call and_then
    by-room is =
        ap (λ (r : Result (List Record)). convert_call r buffer area) (there-are new long).1
        ∙ ap (λ (room : Bool). store_lent buffer area (require room 9 0 (fit_sheet buffer rs))) is

    -- 9 of the area
    pub left-area : length area < length_size → Left 9 buffer area
    unfolding require store_lent
    left-area h = leaves_by (by-room (lt-leb length_size (length area) h))

    module _ (room : length_size ≤ length area) where
      by-buffer : {r : Result (List ℕ)} → fit_sheet buffer rs ≡ r → convert_call new buffer area ≡ store_lent buffer area r
      unfolding require
      by-buffer e = by-room (le-leb length_size (length area) room) ∙ ap (store_lent buffer area) e

      -- 9 of the buffer
      pub left-short : length buffer < n → Left 9 buffer area
      unfolding fit_sheet store_lent
      left-short h =
          let short : length buffer < length (sheet_bytes rs) = omega (arith, (there-are new long).2) in
          leaves_by (by-buffer (buffer-refused (sheet_bytes rs) buffer 9 short))

      -- the new sheet, from where it was laid out, and its length
      pub left-sheet : n ≤ length buffer → (blank : List ℕ) {target : List ℕ} →
          ((new' : List Record) → new ≡ ok new' → target ≡ sheet_bytes new' ++ drop (length (sheet_bytes new')) blank) → {after filled : List ℕ} {end : ℕ} →
          Appended buffer 0 (take n target) after end → filled ≡ little_endian length_size n ++ drop length_size area → Left 0 after filled
      unfolding fit_sheet store_lent
      left-sheet h blank laid put f =
          let fits : length (sheet_bytes rs) ≤ length buffer = omega (arith, (there-are new long).2) in
          let stored = leaves_by (by-buffer (buffer-ok (sheet_bytes rs) buffer 9 fits)) in
          let bytes = from_start (same_bytes (front new long blank laid) put) in
          (stored.0, (bytes ∙ stored.1.0, f ∙ ap (λ (m : ℕ). little_endian length_size m ++ drop length_size area) (there-are new long).2 ∙ stored.1.1))

-- ---- the calls

module _ (new : Result (List Record)) (has_skip : Bool) (back : List ℕ → List ℕ → Written) (sheet buffer area : List ℕ) where
  abbrev called : Lent
  called = convert_call new buffer area

  abbrev Promised : ℕ → List ℕ → List ℕ → Type 0
  Promised number after left =
      (number ≡ called.number) × ((after ≡ called.buffer) × ((left ≡ called.area)
      × ((number ≡ 0 → SameSheet sheet (lent_in after left)) × (number ≡ 0 → Turned has_skip back sheet (lent_in after left)))))

  -- from what is promised of the definitions
  module _ (call : Converting sheet buffer area new called)
      (returns : (n : ℕ) → (convert new buffer).result ≡ ok n → Turned has_skip back sheet (take n (convert new buffer).buffer)) where
    turned : called.number ≡ 0 → Turned has_skip back sheet (lent_in called.buffer called.area)
    unfolding convert and_then fit_sheet store
    turned z =
        let f = call.number_zero.0 z in
        let bytes : List ℕ = sheet_bytes f.0 in
        let stored : convert new buffer ≡ store buffer (ok bytes) =
        ap (λ (r : Result (List Record)). convert r buffer) f.1 ∙ ap (store buffer) (buffer-ok bytes buffer 9 f.3) in
        let front = ap (λ (w : Written). take (length bytes) w.buffer) stored ∙ take-append_seam bytes (drop (length bytes) buffer) in
        subst (Turned has_skip back sheet) (front ∙ sym (call.read_back f.0 f.1 z)) (returns (length bytes) (ap (λ (w : Written). w.result) stored))

    pub promised : {number : ℕ} {after left : List ℕ} → Leaves called number after left → Promised number after left
    promised {number} {after} {left} is =
        let lent : lent_in called.buffer called.area ≡ lent_in after left = λ i. lent_in (sym is.1.0 i) (sym is.1.1 i) in (
          is.0,
          (
            is.1.0,
            (
              is.1.1,
              (λ z. subst (SameSheet sheet) lent (call.same (sym is.0 ∙ z)), λ z. subst (Turned has_skip back sheet) lent (turned (sym is.0 ∙ z))),
            ),
          ),
        )
