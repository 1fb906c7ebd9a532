-- The promises of the converters: the new sheet or a refusal, in document 02's order, and what it means.
use mathlib.Core.Path.{◌≡◌, refl, sym, ap, subst, ◌∙◌}
use mathlib.Core.List.{List, ◌++◌}
use mathlib.Core.Bool.{Bool}
use Prim.Native.Nat.{ℕ, ◌≤◌, ◌<◌}
use native.Mathlib.Omega.{arith}
use lib.ListN.{length, take, drop, length-append}
use lib.Seq.{take_at}
use Rattle.meaning.specs.Record.{Record, sheet_bytes}
use Rattle.meaning.specs.Reader.{Result, ok, refused, and_then, read}
use Rattle.meaning.specs.Writer.{Written, store, fit_sheet}
use Rattle.meaning.specs.Converter.{convert}
use Rattle.meaning.specs.Moved.{SameSheet, Turned}
use Rattle.meaning.proofs.Logic.{and_then-yes, and_then-no, refused-is-not-ok, refused-number, refused-place, ok-injective}
use Rattle.meaning.proofs.Lents.{buffer-refused, buffer-ok}
use Rattle.encoding.specs.Append.{Appended}
use Rattle.encoding.proofs.Appending.{same_bytes, from_start, length-written}
use Rattle.sheet.specs.Answers.{counted}
use Rattle.sheet.specs.Sheets.{records_in, records_of}
use Rattle.sheet.proofs.SheetRecords.{counted-ok, counted-refused}
use Rattle.converter.specs.Converting.{changed_from, new_records, new_length}

-- ---- the new records of a sheet that was read, or its refusal

module _ (sheet : List ℕ) where
  pub records-counted : {n : ℕ} → ok n ≡ counted (read sheet) → (n ≡ length (records_of sheet)) × (read sheet ≡ ok (records_of sheet))
  unfolding records_of records_in
  records-counted {n} e =
      let k = counted-ok (read sheet) n (sym e) in
      (k.2 ∙ sym (ap (λ r. length (records_in r)) k.1), k.1 ∙ sym (ap (λ r. ok (records_in r)) k.1))

  module _ (skips : Bool) where
    pub new-read : {n : ℕ} → ok n ≡ counted (read sheet) → new_records skips sheet ≡ changed_from skips 0 (records_of sheet)
    unfolding new_records
    new-read e = and_then-yes (changed_from skips 0) (records-counted e).1

    pub new-refused : {number place : ℕ} → refused number place ≡ counted (read sheet) → new_records skips sheet ≡ refused number place
    unfolding new_records
    new-refused {number} {place} e = and_then-no (changed_from skips 0) (counted-refused (read sheet) number place (sym e))

-- ---- from the answer

module _ (new : Result (List Record)) where
  pub new-is-refused : {number place : ℕ} → refused number place ≡ new_length new → new ≡ refused number place
  unfolding new_length
  new-is-refused {number} {place} e = go new e
    where
      go : (r : Result (List Record)) → refused number place ≡ new_length r → r ≡ refused number place
      go (ok rs) q = refused-is-not-ok q
      go (refused m p) q = λ i. refused (refused-number (sym q) i) (refused-place (sym q) i)

  module _ {n : ℕ} (long : ok n ≡ new_length new) where
    -- there are new records, whose sheet is so long
    pub there-are : (rs : List Record) × (new ≡ ok rs) × (n ≡ length (sheet_bytes rs))
    unfolding new_length
    there-are = go new long
      where
        go : (r : Result (List Record)) → ok n ≡ new_length r → (rs : List Record) × (r ≡ ok rs) × (n ≡ length (sheet_bytes rs))
        go (ok rs) q = (rs, refl, ok-injective q)
        go (refused m p) q = refused-is-not-ok (sym q)

    abbrev rs : List Record
    rs = there-are.0

    -- which stands first where it was laid out
    module _ (blank : List ℕ) {target : List ℕ} (laid : (new' : List Record) → new ≡ ok new' → target ≡ sheet_bytes new' ++ drop (length (sheet_bytes new')) blank) where
      pub length-fits : n ≤ length target
      length-fits =
          let all = ap length (laid rs there-are.1) in
          omega (arith, all, length-append (sheet_bytes rs) (drop (length (sheet_bytes rs)) blank), there-are.2)

      pub front : take n target ≡ sheet_bytes rs
      front = (λ i. take (there-are.2 i) (laid rs there-are.1 i)) ∙ take_at (sheet_bytes rs) (drop (length (sheet_bytes rs)) blank) (length (sheet_bytes rs)) refl

-- ---- the buffer

module _ (new : Result (List Record)) (buffer : List ℕ) where
  -- what is answered and left is what converting to these records says
  abbrev StoredAs : Result ℕ → List ℕ → Type 0
  StoredAs result left = (result ≡ (convert new buffer).result) × (left ≡ (convert new buffer).buffer)

  stored-by : {w : Written} → convert new buffer ≡ w → StoredAs w.result w.buffer
  stored-by e = (sym (ap (λ (w : Written). w.result) e), sym (ap (λ (w : Written). w.buffer) e))

  -- the refusal of the sheet or of its records
  pub stored_refused : {number place : ℕ} → refused number place ≡ new_length new → StoredAs (refused number place) buffer
  unfolding convert and_then store
  stored_refused e = stored-by (ap (λ (r : Result (List Record)). convert r buffer) (new-is-refused new e))

  module _ {n : ℕ} (long : ok n ≡ new_length new) where
    by-records : {r : Result (List ℕ)} → fit_sheet buffer (rs new long) ≡ r → convert new buffer ≡ store buffer r
    unfolding convert and_then
    by-records e = ap (λ (r : Result (List Record)). convert r buffer) (there-are new long).1 ∙ ap (store buffer) e

    -- 9
    pub stored_short : length buffer < n → StoredAs (refused 9 0) buffer
    unfolding fit_sheet store
    stored_short h =
        let short : length buffer < length (sheet_bytes (rs new long)) = omega (arith, (there-are new long).2) in
        stored-by (by-records (buffer-refused (sheet_bytes (rs new long)) buffer 9 short))

    -- the new sheet
    pub stored-sheet : (blank : List ℕ) {target : List ℕ} →
        ((new' : List Record) → new ≡ ok new' → target ≡ sheet_bytes new' ++ drop (length (sheet_bytes new')) blank) → n ≤ length buffer →
        {left : List ℕ} {end : ℕ} → Appended buffer 0 (take n target) left end → StoredAs (ok end) left
    unfolding fit_sheet store
    stored-sheet blank laid h put =
        let fits : length (sheet_bytes (rs new long)) ≤ length buffer = omega (arith, (there-are new long).2) in
        let s = stored-by (by-records (buffer-ok (sheet_bytes (rs new long)) buffer 9 fits)) in
        let p = same_bytes (front new long blank laid) put in
        (ap {B = Result ℕ} ok (length-written p) ∙ s.0, from_start p ∙ s.1)

-- ---- what the new sheet means

-- of an answer and the buffer that is left, from what is promised of the definition
pub promised : (has_skip : Bool) (back : List ℕ → List ℕ → Written) (sheet : List ℕ) {definition written : Written} {result : Result ℕ} {left : List ℕ} →
    ((n : ℕ) → definition.result ≡ ok n → SameSheet sheet (take n definition.buffer)) →
    ((n : ℕ) → definition.result ≡ ok n → Turned has_skip back sheet (take n definition.buffer)) →
    written ≡ definition → result ≡ written.result → left ≡ written.buffer →
    (result ≡ definition.result) × ((left ≡ definition.buffer)
    × (((n : ℕ) → result ≡ ok n → SameSheet sheet (take n left)) × ((n : ℕ) → result ≡ ok n → Turned has_skip back sheet (take n left))))
promised has_skip back sheet {definition} {left} same returns e r l =
    let answer = r ∙ ap (λ (w : Written). w.result) e in
    let bytes = l ∙ ap (λ (w : Written). w.buffer) e in (
      answer,
      (
        bytes,
        (
          λ n q. subst (λ (b : List ℕ). SameSheet sheet (take n b)) (sym bytes) (same n (sym answer ∙ q)),
          λ n q. subst (λ (b : List ℕ). Turned has_skip back sheet (take n b)) (sym bytes) (returns n (sym answer ∙ q)),
        ),
      ),
    )
