-- What the C calls of the converters do, and when; the new sheet is read back from what they leave, and all other bytes stay.
use mathlib.Core.Path.{◌≡◌, refl, sym, ap, ◌∙◌, subst}
use mathlib.Core.List.{List}
use mathlib.Core.Logic.{◌↔◌, ◌⊎◌, inl, inr}
use Prim.Native.Nat.{ℕ, ◌≤◌}
use native.Mathlib.Omega.{arith}
use lib.Dec.{leb}
use lib.ListN.{length}
use Rattle.meaning.specs.Limits.{length_size, sheet_length_limit}
use Rattle.meaning.specs.Record.{Record, sheet_bytes}
use Rattle.meaning.specs.Reader.{Result, ok, refused, require, and_then, read}
use Rattle.meaning.specs.Writer.{fit_sheet}
use Rattle.meaning.specs.Lent.{Lent, store_lent, lent_in}
use Rattle.meaning.specs.Converter.{add_skips, drop_skips, records_with_skips, records_without_skips}
use Rattle.meaning.specs.ConverterCall.{convert_call, with_skips_call, without_skips_call}
use Rattle.meaning.specs.Moved.{SameSheet}
use Rattle.meaning.proofs.Logic.{refused-is-not-ok, and_then-ok, and_then-refused}
use Rattle.meaning.proofs.Accepted.{WellFormed}
use Rattle.meaning.proofs.RecordBytes.{sheet_length-bound}
use Rattle.meaning.proofs.RoundTrip.{read-as-written}
use Rattle.meaning.proofs.RecordReader.{read_length}
use Rattle.meaning.proofs.Refusals.{read-refused}
use Rattle.meaning.proofs.Lents.{Stores, lending, lending-stores, lending-number-zero}
use Rattle.meaning.proofs.ConvertedRecords.{Converted, without-skips-converted, converted-well-formed}
use Rattle.meaning.proofs.ConvertedAnswers.{same-sheet}
use Rattle.meaning.proofs.Converters.{add-skips-converted}
use Rattle.meaning.proofs.ConverterRefusals.{drop-skips-refused}

-- the sheet of well-formed records is no longer than the longest
pub sheet-short : (rs : List Record) → WellFormed rs → length (sheet_bytes rs) ≤ sheet_length_limit
sheet-short rs w = omega (arith, read_length (sheet_bytes rs) rs (read-as-written rs w), sheet_length-bound rs, w.short)

-- ---- a call on what a converter makes of records

nine-refuses : ¬ (◌≡◌ {A = ℕ} 9 0)
nine-refuses z = omega arith

module _ (changed : Result (List Record)) (buffer area : List ℕ) where
  -- a refusal of the records is returned, and nothing written
  call-refused : (number place : ℕ) → changed ≡ refused number place →
      convert_call changed buffer area ≡ record { number = number; buffer = buffer; area = area }
  unfolding convert_call and_then store_lent
  call-refused number place e = ap (λ r. store_lent buffer area (and_then r λ rs. require (leb length_size (length area)) 9 0 (fit_sheet buffer rs))) e

  module _ (new : List Record) (e : changed ≡ ok new) where
    lent : convert_call changed buffer area ≡ lending (sheet_bytes new) buffer area 9 nine-refuses
    unfolding convert_call and_then fit_sheet
    lent = ap (λ r. store_lent buffer area (and_then r λ rs. require (leb length_size (length area)) 9 0 (fit_sheet buffer rs))) e

    -- otherwise it is a call that stores the new sheet
    call-stores : Stores (sheet_bytes new) buffer area (convert_call changed buffer area)
    call-stores = subst (Stores (sheet_bytes new) buffer area) (sym lent) (lending-stores (sheet_bytes new) buffer area 9 nine-refuses)

    call-zero : length_size ≤ length area → length (sheet_bytes new) ≤ length buffer → (convert_call changed buffer area).number ≡ 0
    call-zero h fits = ap (λ (c : Lent). c.number) lent ∙ (lending-number-zero (sheet_bytes new) buffer area 9 nine-refuses).1 (h, fits)

-- ---- the call of a converter

-- what a call returns and leaves, where `changed` is what the converter makes of the sheet's records
pub record Converting (sheet buffer area : List ℕ) (changed : Result (List Record)) (called : Lent) : Type 0 where
  -- it returns 0 exactly where there are new records, and the area has room for a length and the buffer for their sheet
  pub number_zero : (called.number ≡ 0) ↔ ((new : List Record) × (changed ≡ ok new) × (length_size ≤ length area) × (length (sheet_bytes new) ≤ length buffer))
  -- then the new sheet is read back, which says what the old one says
  pub read_back : (new : List Record) → changed ≡ ok new → called.number ≡ 0 → lent_in called.buffer called.area ≡ sheet_bytes new
  pub same : called.number ≡ 0 → SameSheet sheet (lent_in called.buffer called.area)
  -- all other bytes stay
  pub stores : (new : List Record) → changed ≡ ok new → Stores (sheet_bytes new) buffer area called
  -- a refusal of the sheet or of its records is returned, and no refusal writes anything
  pub refusal_returned : (number place : ℕ) → changed ≡ refused number place → called.number ≡ number
  pub refusal : ¬ (called.number ≡ 0) → (called.buffer ≡ buffer) × (called.area ≡ area)

module _ (change : List Record → Result (List Record)) (converts : (rs new : List Record) → change rs ≡ ok new → Converted rs new)
    (refuses : (rs : List Record) (number place : ℕ) → change rs ≡ refused number place → ¬ (number ≡ 0)) (sheet buffer area : List ℕ) where
  abbrev changed : Result (List Record)
  changed = and_then (read sheet) change

  abbrev called : Lent
  called = convert_call changed buffer area

  refusal-number : (number place : ℕ) → changed ≡ refused number place → ¬ (number ≡ 0)
  refusal-number number place e = go (and_then-refused (read sheet) change number place e)
    where
      go : (read sheet ≡ refused number place) ⊎ ((rs : List Record) × (read sheet ≡ ok rs) × (change rs ≡ refused number place)) → ¬ (number ≡ 0)
      go (inl r) z = let h = read-refused sheet number place r in omega arith
      go (inr (rs, r, f)) z = refuses rs number place f z

  number-zero : (called.number ≡ 0) ↔ ((new : List Record) × (changed ≡ ok new) × (length_size ≤ length area) × (length (sheet_bytes new) ≤ length buffer))
  number-zero = (λ z. go z changed refl, λ (new, e, h, fits). call-zero changed buffer area new e h fits)
    where
      go : called.number ≡ 0 → (r : Result (List Record)) → changed ≡ r →
          (new : List Record) × (changed ≡ ok new) × (length_size ≤ length area) × (length (sheet_bytes new) ≤ length buffer)
      go z (ok new) e = let room = (call-stores changed buffer area new e).room z in (new, e, room.0, room.1)
      go z (refused number place) e =
          absurd (refusal-number number place e (ap (λ (c : Lent). c.number) (sym (call-refused changed buffer area number place e)) ∙ z))

  -- the new records are well formed, so their sheet is short and is read as they are
  module _ (new : List Record) (e : changed ≡ ok new) (z : called.number ≡ 0) where
    abbrev old : (rs : List Record) × (read sheet ≡ ok rs) × (change rs ≡ ok new)
    old = and_then-ok (read sheet) change new e

    abbrev conversion : Converted old.0 new
    conversion = converts old.0 new old.2

    abbrev well_formed : WellFormed new
    well_formed = converted-well-formed sheet old.0 old.1 new conversion

    read_back : lent_in called.buffer called.area ≡ sheet_bytes new
    read_back = (call-stores changed buffer area new e).read_back z (omega (arith, sheet-short new well_formed))

    says_same : SameSheet sheet (lent_in called.buffer called.area)
    says_same =
        same-sheet sheet (lent_in called.buffer called.area) old.0 new old.1 (ap read read_back ∙ read-as-written new well_formed) conversion

  converting : Converting sheet buffer area changed called
  converting = record {
    number_zero = number-zero;
    read_back = read_back;
    same = λ z. let found = number-zero.0 z in says_same found.0 found.1 z;
    stores = call-stores changed buffer area;
    refusal_returned = λ number place e. ap (λ (c : Lent). c.number) (call-refused changed buffer area number place e);
    refusal = λ h. unwritten h changed refl;
  }
    where
      unwritten : ¬ (called.number ≡ 0) → (r : Result (List Record)) → changed ≡ r → (called.buffer ≡ buffer) × (called.area ≡ area)
      unwritten h (ok new) e = (call-stores changed buffer area new e).refusal h
      unwritten h (refused number place) e =
          let left = call-refused changed buffer area number place e in (ap (λ (c : Lent). c.buffer) left, ap (λ (c : Lent). c.area) left)

-- ---- the two converters

module _ (sheet buffer area : List ℕ) where
  pub with-skips-call : Converting sheet buffer area (records_with_skips sheet) (with_skips_call sheet buffer area)
  unfolding with_skips_call records_with_skips
  with-skips-call = converting add_skips add-skips-converted refuses sheet buffer area
    where
      refuses : (rs : List Record) (number place : ℕ) → add_skips rs ≡ refused number place → ¬ (number ≡ 0)
      refuses rs number place e = unfold add_skips in refused-is-not-ok (sym e)

  pub without-skips-call : Converting sheet buffer area (records_without_skips sheet) (without_skips_call sheet buffer area)
  unfolding without_skips_call records_without_skips
  without-skips-call = converting (drop_skips 0) (without-skips-converted 0) refuses sheet buffer area
    where
      refuses : (rs : List Record) (number place : ℕ) → drop_skips 0 rs ≡ refused number place → ¬ (number ≡ 0)
      refuses rs number place e z = let tenth = ((drop-skips-refused rs number place).0 e).0 in omega arith
