-- When the converters refuse: as the reader does; then 10, where a loop's skip differs from its start, at the first such loop; then 9.
use mathlib.Core.Path.{◌≡◌, refl, sym, ap, ◌∙◌, subst}
use mathlib.Core.List.{List, [], ◌∷◌, ◌++◌}
use mathlib.Core.Bool.{false}
use mathlib.Core.Logic.{◌⊎◌, inl, inr, ◌↔◌}
use Prim.Native.Nat.{ℕ, ◌+◌, ◌<◌}
use native.Mathlib.Nat.{zero-add, add_assoc, add-zero}
use native.Mathlib.Omega.{arith}
use lib.ListN.{length}
use lib.Dec.{T, eqb, eqb→eq}
use borrow.Author.Tests.{eq-eqb, ne_eqb, eqb-false}
use Rattle.meaning.specs.Record.{Loop, skip_cycles, Record, loop_record, record_length, sheet_bytes, sheet_length}
use Rattle.meaning.specs.Reader.{Result, ok, refused, and_then, read}
use Rattle.meaning.specs.Writer.{Written, store, fit_sheet}
use Rattle.meaning.specs.ReasonsTold.{Each, no_member, one_more}
use Rattle.meaning.specs.Converter.{without_skip, change_loop, skips_start, add_skips, drop_skips}
use Rattle.meaning.specs.Converter.{records_with_skips, records_without_skips, convert, with_skips, without_skips}
use Rattle.meaning.proofs.Logic.{true→T, refused-is-not-ok, refused-number, refused-place}
use Rattle.meaning.proofs.Logic.{and_then-refused, require-refused, and_then-no, require-no, require-yes}
use Rattle.meaning.proofs.Refusals.{ReaderRefusal, read-refused}
use Rattle.meaning.proofs.Written.{store-refused}
use Rattle.meaning.proofs.ConvertedRecords.{LoopOrNot, is_loop, no_loop, loop_or_not}
use Rattle.meaning.proofs.Converters.{converter, Outcome, sheet_refused, records_refused, buffer_refused, converted, outcome}
use Rattle.meaning.proofs.Converters.{by-reading, by-records, by-buffer}
use Rattle.meaning.proofs.Lents.{buffer-refused}

-- ---- the first loop whose skip differs from its start

-- if the record is a loop, its skip is its start
abbrev pub SkipIsStart : Record → Type 0
SkipIsStart r = (l : Loop) → r ≡ loop_record l → skip_cycles l ≡ l.start

pub record FirstOtherSkip (rs : List Record) (place : ℕ) : Type 0 where
  pub before : List Record
  pub other : Loop
  pub after : List Record
  pub split : rs ≡ before ++ (loop_record other ∷ after)
  pub before_start : Each SkipIsStart before
  pub differs : ¬ (skip_cycles other ≡ other.start)
  pub placed : place ≡ sheet_length before

tested-start : {r : Record} → T (skips_start r) → SkipIsStart r
tested-start t l e =
    let here : T (eqb (skip_cycles l) l.start) = unfold skips_start in subst (λ r. T (skips_start r)) e t in
    eqb→eq (skip_cycles l) l.start here

start-tested : {r : Record} → LoopOrNot r → SkipIsStart r → T (skips_start r)
unfolding skips_start
start-tested (is_loop l) h = true→T (eqb (skip_cycles l) l.start) (eq-eqb (skip_cycles l) l.start (h l refl))
start-tested (no_loop unchanged start) h = start

-- ---- 10

-- a further record before the first other
module _ {r : Record} {rs : List Record} {place : ℕ} where
  other-later : T (skips_start r) → FirstOtherSkip rs place → FirstOtherSkip (r ∷ rs) (record_length r + place)
  unfolding sheet_length
  other-later t first = record {
    before = r ∷ first.before;
    other = first.other;
    after = first.after;
    split = ap (λ xs. r ∷ xs) first.split;
    before_start = one_more (tested-start t) first.before_start;
    differs = first.differs;
    placed = ap (λ (n : ℕ). record_length r + n) first.placed;
  }

other-first : {r : Record} {rs : List Record} → LoopOrNot r → skips_start r ≡ false → FirstOtherSkip (r ∷ rs) 0
unfolding skips_start sheet_length
other-first {rs} (is_loop l) e =
    record { before = []; other = l; after = rs; split = refl; before_start = no_member; differs = eqb-false (skip_cycles l) l.start e; placed = refl }
other-first (no_loop unchanged start) e = absurd (subst T e start)

drop-refused : (rs : List Record) (at number place : ℕ) → drop_skips at rs ≡ refused number place →
    (number ≡ 10) × (offset : ℕ) × (place ≡ at + offset) × FirstOtherSkip rs offset
unfolding drop_skips
drop-refused [] at number place e = refused-is-not-ok (sym e)
drop-refused (r ∷ rs) at number place e =
    by_test (require-refused (skips_start r) 10 at _ number place e) (drop-refused rs (at + record_length r) number place)
  where
    others : Result (List Record)
    others = drop_skips (at + record_length r) rs

    Here : Type 0
    Here = (number ≡ 10) × (offset : ℕ) × (place ≡ at + offset) × FirstOtherSkip (r ∷ rs) offset

    Later : Type 0
    Later = others ≡ refused number place → (number ≡ 10) × (offset : ℕ) × (place ≡ at + record_length r + offset) × FirstOtherSkip rs offset

    by_others : T (skips_start r) → (others ≡ refused number place)
        ⊎ ((xs : List Record) × (others ≡ ok xs) × (ok (change_loop without_skip r ∷ xs) ≡ refused number place)) → Later → Here
    by_others t (inl f) later =
        let found = later f in
        (found.0, record_length r + found.1, found.2 ∙ add_assoc at (record_length r) found.1, other-later t found.3)
    by_others t (inr f) later = refused-is-not-ok (sym f.2)

    by_test : ((skips_start r ≡ false) × (number ≡ 10) × (place ≡ at))
        ⊎ (T (skips_start r) × (and_then others (λ xs. ok (change_loop without_skip r ∷ xs)) ≡ refused number place)) → Later → Here
    by_test (inl (fails, tenth, here)) later = (tenth, 0, here ∙ sym (add-zero at), other-first (loop_or_not r) fails)
    by_test (inr (passes, f)) later = by_others passes (and_then-refused others _ number place f) later

refused-drop : (before : List Record) (other : Loop) (after : List Record) (at : ℕ) → Each SkipIsStart before → ¬ (skip_cycles other ≡ other.start) →
    drop_skips at (before ++ (loop_record other ∷ after)) ≡ refused 10 (at + sheet_length before)
unfolding drop_skips sheet_length skips_start
refused-drop [] other after at each differs =
    require-no 10 at _ (ne_eqb (skip_cycles other) other.start differs) ∙ ap (refused 10) (sym (add-zero at))
refused-drop (r ∷ before) other after at (one_more first each) differs =
    require-yes (skips_start r) 10 at _ (start-tested (loop_or_not r) first)
    ∙ and_then-no _ (refused-drop before other after (at + record_length r) each differs)
    ∙ ap (refused 10) (add_assoc at (record_length r) (sheet_length before))

pub drop-skips-refused : (rs : List Record) (number place : ℕ) → (drop_skips 0 rs ≡ refused number place) ↔ ((number ≡ 10) × FirstOtherSkip rs place)
drop-skips-refused rs number place = (
  λ e. let found = drop-refused rs 0 number place e in (found.0, subst (FirstOtherSkip rs) (sym (found.2 ∙ zero-add found.1)) found.3),
  λ (tenth, first).
      ap (drop_skips 0) first.split ∙ refused-drop first.before first.other first.after 0 first.before_start first.differs
      ∙ (λ t. refused (sym tenth t) ((zero-add (sheet_length first.before) ∙ sym first.placed) t)),
)

-- ---- every refusal

module _ (change : List Record → Result (List Record)) (sheet buffer : List ℕ) (number place : ℕ) where
  -- why a converter refuses
  pub data Cause : Type 0 where
    by_sheet : read sheet ≡ refused number place → Cause
    by_records : (rs : List Record) → read sheet ≡ ok rs → change rs ≡ refused number place → Cause
    by_buffer : (rs new : List Record) → read sheet ≡ ok rs → change rs ≡ ok new → length buffer < length (sheet_bytes new) → number ≡ 9 → place ≡ 0 → Cause

  -- it refuses exactly then
  pub converter-refused : ((converter change sheet buffer).result ≡ refused number place) ↔ Cause
  unfolding store and_then fit_sheet
  converter-refused = (λ a. go a (outcome change sheet buffer), back)
    where
      same : {n p : ℕ} → (converter change sheet buffer).result ≡ refused number place → converter change sheet buffer ≡ store buffer (refused n p) →
          (n ≡ number) × (p ≡ place)
      same a e = let z : refused _ _ ≡ refused number place = ap (λ (w : Written). w.result) (sym e) ∙ a in (refused-number z, refused-place z)

      go : (converter change sheet buffer).result ≡ refused number place → Outcome change sheet buffer → Cause
      go a (sheet_refused n p r e) = let z = same a e in by_sheet (r ∙ (λ t. refused (z.0 t) (z.1 t)))
      go a (records_refused rs n p r f e) = let z = same a e in by_records rs r (f ∙ (λ t. refused (z.0 t) (z.1 t)))
      go a (buffer_refused rs new r f h e) = let z = same a e in by_buffer rs new r f h (sym z.0) (sym z.1)
      go a (converted rs new r f h e) = refused-is-not-ok (sym a ∙ ap (λ (w : Written). w.result) e)

      back : Cause → (converter change sheet buffer).result ≡ refused number place
      back (by_sheet r) = ap (λ (w : Written). w.result) (by-reading change sheet buffer r)
      back (by_records rs r f) = ap (λ (w : Written). w.result) (by-records change sheet buffer r f)
      back (by_buffer rs new r f h nine zeroth) =
          ap (λ (w : Written). w.result) (by-buffer change sheet buffer r f (buffer-refused (sheet_bytes new) buffer 9 h))
          ∙ (λ t. refused (sym nine t) (sym zeroth t))

-- ---- the two converters

module _ (sheet buffer : List ℕ) (number place : ℕ) where
  pub with-skips-refused : ((with_skips sheet buffer).result ≡ refused number place) ↔ Cause add_skips sheet buffer number place
  unfolding with_skips records_with_skips
  with-skips-refused = converter-refused add_skips sheet buffer number place

  pub without-skips-refused : ((without_skips sheet buffer).result ≡ refused number place) ↔ Cause (drop_skips 0) sheet buffer number place
  unfolding without_skips records_without_skips
  without-skips-refused = converter-refused (drop_skips 0) sheet buffer number place

  -- a refusal leaves the buffer as it was
  pub with-skips-kept : (with_skips sheet buffer).result ≡ refused number place → (with_skips sheet buffer).buffer ≡ buffer
  unfolding with_skips convert
  with-skips-kept a = store-refused buffer _ number place a

  pub without-skips-kept : (without_skips sheet buffer).result ≡ refused number place → (without_skips sheet buffer).buffer ≡ buffer
  unfolding without_skips convert
  without-skips-kept a = store-refused buffer _ number place a

  -- 1 to 5 inside the sheet, or 9 at 0
  pub with-skips-refusal : (with_skips sheet buffer).result ≡ refused number place → ReaderRefusal (length sheet) number place ⊎ ((number ≡ 9) × (place ≡ 0))
  with-skips-refusal a = go (with-skips-refused.0 a)
    where
      go : Cause add_skips sheet buffer number place → ReaderRefusal (length sheet) number place ⊎ ((number ≡ 9) × (place ≡ 0))
      go (by_sheet r) = inl (read-refused sheet number place r)
      go (by_records rs r f) = unfold add_skips in refused-is-not-ok (sym f)
      go (by_buffer rs new r f h nine zeroth) = inr (nine, zeroth)

  -- 1 to 5, 10 at the first loop whose skip differs from its start, or 9 at 0
  abbrev pub SkipRefusal : Type 0
  SkipRefusal = (number ≡ 10) × (rs : List Record) × (read sheet ≡ ok rs) × FirstOtherSkip rs place

  pub without-skips-refusal : (without_skips sheet buffer).result ≡ refused number place →
      ReaderRefusal (length sheet) number place ⊎ (SkipRefusal ⊎ ((number ≡ 9) × (place ≡ 0)))
  without-skips-refusal a = go (without-skips-refused.0 a)
    where
      go : Cause (drop_skips 0) sheet buffer number place → ReaderRefusal (length sheet) number place ⊎ (SkipRefusal ⊎ ((number ≡ 9) × (place ≡ 0)))
      go (by_sheet r) = inl (read-refused sheet number place r)
      go (by_records rs r f) = let found = (drop-skips-refused rs number place).0 f in inr (inl (found.0, rs, r, found.1))
      go (by_buffer rs new r f h nine zeroth) = inr (inr (nine, zeroth))

-- 10 exactly where the sheet is accepted and a loop's skip differs from its start; the first such loop
pub without-skips-refused-10 : (sheet buffer : List ℕ) (place : ℕ) →
    ((without_skips sheet buffer).result ≡ refused 10 place) ↔ ((rs : List Record) × (read sheet ≡ ok rs) × FirstOtherSkip rs place)
without-skips-refused-10 sheet buffer place = (
  λ a. go ((without-skips-refused sheet buffer 10 place).0 a),
  λ (rs, r, first). (without-skips-refused sheet buffer 10 place).1 (by_records rs r ((drop-skips-refused rs 10 place).1 (refl, first))),
)
  where
    go : Cause (drop_skips 0) sheet buffer 10 place → (rs : List Record) × (read sheet ≡ ok rs) × FirstOtherSkip rs place
    go (by_sheet r) = absurd (let h = read-refused sheet 10 place r in omega arith)
    go (by_records rs r f) = (rs, r, ((drop-skips-refused rs 10 place).0 f).1)
    go (by_buffer rs new r f h nine zeroth) = absurd (omega arith)
