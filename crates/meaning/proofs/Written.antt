-- The writer: what it leaves in the buffer is read as the records that it checked, and a refusal leaves the buffer as it was.
use mathlib.Core.Path.{◌≡◌, refl, sym, ap, ◌∙◌}
use mathlib.Core.List.{List, ◌++◌, map}
use Prim.Native.Nat.{ℕ, ◌≤◌}
use native.Mathlib.Omega.{arith}
use lib.ListN.{length, take, drop, length-append, length-drop}
use lib.Seq.{take-append_seam, drop-append_seam}
use lib.Dec.{leb, leb→le, le→leb}
use Rattle.meaning.specs.Record.{Record, sheet_bytes}
use Rattle.meaning.specs.Reader.{Result, ok, refused, require, read}
use Rattle.meaning.specs.Writer.{RawRecord, check, store, write, write_up_to, fit_sheet}
use Rattle.meaning.proofs.Logic.{refused-is-not-ok, and_then-ok, require-ok, and_then-yes, require-yes}
use Rattle.meaning.proofs.Number.{Bytes}
use Rattle.meaning.proofs.RoundTrip.{written-as-read}
use Rattle.meaning.proofs.Raw.{raw_of, checked-read, read-checked}

-- ---- an answer

-- the buffer after the answer n: the sheet of the records rs that were checked, and the bytes past it as they were
pub record IsWritten (es : List RawRecord) (count : ℕ) (buffer : List ℕ) (n : ℕ) (left : List ℕ) : Type 0 where
  pub written : List Record
  pub checked : check es count ≡ ok written
  pub answered : n ≡ length (sheet_bytes written)
  pub sheet : take n left ≡ sheet_bytes written
  pub read_back : read (take n left) ≡ ok written
  pub past_sheet : drop n left ≡ drop n buffer
  pub length_kept : length left ≡ length buffer
  pub fits : n ≤ length buffer

store_ok : (buffer : List ℕ) (r : Result (List ℕ)) (n : ℕ) → (store buffer r).result ≡ ok n →
    (bytes : List ℕ) × (r ≡ ok bytes) × (n ≡ length bytes) × ((store buffer r).buffer ≡ bytes ++ drop (length bytes) buffer)
unfolding store
store_ok buffer (ok bytes) n e = (bytes, refl, (let z : length bytes ≡ n = cc in sym z), refl)
store_ok buffer (refused number place) n e = refused-is-not-ok e

pub write-ok : (es : List RawRecord) (count : ℕ) (buffer : List ℕ) (n : ℕ) → (write es count buffer).result ≡ ok n →
    IsWritten es count buffer n (write es count buffer).buffer
unfolding write_up_to fit_sheet
write-ok es count buffer n e =
    let s = store_ok buffer _ n e in
    let bytes : List ℕ = s.0 in
    let c = and_then-ok (check es count) _ bytes s.1 in
    let rs : List Record = c.0 in
    let q = require-ok (leb (length (sheet_bytes rs)) (length buffer)) 9 0 (ok (sheet_bytes rs)) bytes c.2 in
    let same : sheet_bytes rs ≡ bytes = cc q.1 in
    let length-same : length (sheet_bytes rs) ≡ length bytes = ap (λ (x : List ℕ). length x) same in
    let room = leb→le (length (sheet_bytes rs)) (length buffer) q.0 in
    let front : take n (write es count buffer).buffer ≡ sheet_bytes rs =
    (λ t. take (s.2 t) (s.3 t)) ∙ take-append_seam bytes (drop (length bytes) buffer) ∙ sym same in
    record {
      written = rs;
      checked = c.1;
      answered = s.2 ∙ sym length-same;
      sheet = front;
      read_back = ap read front ∙ checked-read es count rs c.1;
      past_sheet = (λ t. drop (s.2 t) (s.3 t)) ∙ drop-append_seam bytes (drop (length bytes) buffer) ∙ ap (λ (m : ℕ). drop m buffer) (sym s.2);
      length_kept = ap (λ (x : List ℕ). length x) s.3
          ∙ omega (arith, length-append bytes (drop (length bytes) buffer), length-drop (length bytes) buffer, length-same, room);
      fits = omega (arith, s.2, length-same, room);
    }

-- an accepted sheet is what the writer answers for its records, where the buffer is long enough
pub write_read : (sheet : List ℕ) (rs : List Record) (buffer : List ℕ) → Bytes sheet → read sheet ≡ ok rs → length sheet ≤ length buffer →
    write (map raw_of rs) (length rs) buffer ≡ record { result = ok (length sheet); buffer = sheet ++ drop (length sheet) buffer }
unfolding write_up_to store fit_sheet
write_read sheet rs buffer h e n =
    ap (store buffer) (and_then-yes _ (read-checked sheet rs e)
    ∙ ap (λ (x : List ℕ). require (leb (length x) (length buffer)) 9 0 (ok x)) (written-as-read sheet rs h e)
    ∙ require-yes (leb (length sheet) (length buffer)) 9 0 (ok sheet) (le→leb (length sheet) (length buffer) n))

-- ---- a refusal

pub store-refused : (buffer : List ℕ) (r : Result (List ℕ)) (number place : ℕ) → (store buffer r).result ≡ refused number place → (store buffer r).buffer ≡ buffer
unfolding store
store-refused buffer (ok bytes) number place e = refused-is-not-ok (sym e)
store-refused buffer (refused m p) number place e = refl

pub write-refused : (es : List RawRecord) (count : ℕ) (buffer : List ℕ) (number place : ℕ) → (write es count buffer).result ≡ refused number place →
    (write es count buffer).buffer ≡ buffer
unfolding write_up_to
write-refused es count buffer number place e = store-refused buffer _ number place e
