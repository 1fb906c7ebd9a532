-- The writer's check accepts exactly the well-formed records: as the writer takes them, and as the reader reads what it writes.
use mathlib.Core.Path.{◌≡◌, refl, sym, ap, ◌∙◌, subst}
use mathlib.Core.List.{List, [], ◌∷◌, map}
use mathlib.Core.Option.{Option, none, some}
use Prim.Native.Nat.{ℕ, suc, ◌+◌}
use native.Mathlib.Omega.{arith}
use lib.IntN.{pos}
use lib.ListN.{length, take, length-take, length-map}
use lib.Seq.{take_all}
use lib.Dec.{T, eqb, leb, leb→le, le→leb}
use Rattle.meaning.specs.Limits.{record_limit}
use Rattle.meaning.specs.Form.{Form, is_zero, all_zero}
use Rattle.meaning.specs.Record.{Kind, work_kind, loop_kind, end_kind, choice_kind, next_arm_kind, kind_number, kind_of}
use Rattle.meaning.specs.Record.{Loop, is_given, skip_where, skip_or, Record, work_record, loop_record, end_record, choice_record, next_arm_record, kind, record_length, sheet_bytes}
use Rattle.meaning.specs.Record.{Open, fields_in_range, open_after}
use Rattle.meaning.specs.Reader.{ok, or_refuse, Accepted, accept, end_of_sheet, read}
use Rattle.meaning.specs.Writer.{RawRecord, work_fields_zero, form_zero, skip_zero, loop_fields_zero, foreign_fields_zero, loop_in, record_of, check_record, check_from, check, check_up_to}
use Rattle.meaning.proofs.Logic.{and_then-ok, require-ok, and_then-yes, require-yes, or_refuse-yes}
use Rattle.meaning.proofs.Accepted.{accept-ok, accept-in-place, end_of_sheet-ok, InPlace, WellFormed, read-well-formed}
use Rattle.meaning.proofs.RecordBytes.{kind_of-kind_number}
use Rattle.meaning.proofs.RoundTrip.{read-as-written}

-- ---- a record as the writer takes it

unfoldable pub zero_form : Form
zero_form = record { constant = pos 0; index = pos 0 ∷ pos 0 ∷ pos 0 ∷ []; parameter = pos 0 ∷ pos 0 ∷ pos 0 ∷ pos 0 ∷ [] }

-- a record of a kind that has no fields of a loop
unfoldable pub raw_without : Kind → (least most : ℕ) → RawRecord
raw_without k least most = record {
  kind_byte = kind_number k;
  least = least;
  most = most;
  start = 0;
  step = 0;
  stride = pos 0;
  lower = zero_form;
  upper = zero_form;
  skip = 0;
}

-- the fields that the record's kind does not have are zero
unfoldable pub raw_of : Record → RawRecord
raw_of (work_record least most) = raw_without work_kind least most
raw_of (loop_record l) = record {
  kind_byte = kind_number (kind (loop_record l));
  least = 0;
  most = 0;
  start = l.start;
  step = l.step;
  stride = l.stride;
  lower = l.lower;
  upper = l.upper;
  skip = skip_or l.skip 0;
}
raw_of end_record = raw_without end_kind 0 0
raw_of choice_record = raw_without choice_kind 0 0
raw_of next_arm_record = raw_without next_arm_kind 0 0

raw_of-kind_byte : (r : Record) → (raw_of r).kind_byte ≡ kind_number (kind r)
unfolding raw_of raw_without kind
raw_of-kind_byte (work_record least most) = refl
raw_of-kind_byte (loop_record l) = refl
raw_of-kind_byte end_record = refl
raw_of-kind_byte choice_record = refl
raw_of-kind_byte next_arm_record = refl

loop-foreign : (l : Loop) (s : Option ℕ) → l.skip ≡ s → T (foreign_fields_zero (loop_kind (is_given s)) (raw_of (loop_record l)))
unfolding foreign_fields_zero work_fields_zero skip_zero is_given raw_of
loop-foreign l none e = subst (λ (s : Option ℕ). T (eqb (skip_or s 0) 0)) (sym e) (unfold skip_or in tt)
loop-foreign l (some n) e = tt

raw_of-foreign : (r : Record) → T (foreign_fields_zero (kind r) (raw_of r))
unfolding foreign_fields_zero work_fields_zero loop_fields_zero skip_zero form_zero is_zero all_zero raw_of raw_without zero_form kind
raw_of-foreign (work_record least most) = tt
raw_of-foreign (loop_record l) = loop-foreign l l.skip refl
raw_of-foreign end_record = tt
raw_of-foreign choice_record = tt
raw_of-foreign next_arm_record = tt

skip-field : (s : Option ℕ) → skip_where (is_given s) (skip_or s 0) ≡ s
unfolding skip_where is_given skip_or
skip-field none = refl
skip-field (some n) = refl

record_of-raw_of : (r : Record) → record_of (kind r) (raw_of r) ≡ r
unfolding record_of loop_in raw_of raw_without kind
record_of-raw_of (work_record least most) = refl
record_of-raw_of (loop_record l) = λ t. loop_record (record { start = l.start; step = l.step; stride = l.stride; lower = l.lower; upper = l.upper; skip = skip-field l.skip t })
record_of-raw_of end_record = refl
record_of-raw_of choice_record = refl
record_of-raw_of next_arm_record = refl

-- ---- what the check accepts is well formed

check_record-ok : (at : ℕ) (os : List Open) (e : RawRecord) (a : Accepted) → check_record at os e ≡ ok a →
    T (fields_in_range os a.accepted) × (open_after os a.accepted ≡ some a.after)
unfolding check_record
check_record-ok at os e a q =
    let n = and_then-ok (or_refuse (kind_of e.kind_byte) 2 at) _ a q in
    let k : Kind = n.0 in
    let z = require-ok (foreign_fields_zero k e) 3 at _ a n.2 in
    let i = accept-ok at os (record_of k e) a z.1 in
    (subst (λ (x : Record). T (fields_in_range os x)) i.0 i.1, ap (open_after os) (sym i.0) ∙ i.2)

check_from-ok : (at : ℕ) (os : List Open) (es : List RawRecord) (rs : List Record) → check_from at os es ≡ ok rs → InPlace os rs × (length rs ≡ length es)
unfolding check_from InPlace
check_from-ok at os [] rs q =
    let n = end_of_sheet-ok at os [] rs q in
    subst (λ (x : List Record). InPlace os x × (length x ≡ 0)) n.1 (n.0, refl)
check_from-ok at os (e ∷ es) rs q =
    let f = and_then-ok (check_record at os e) _ rs q in
    let a : Accepted = f.0 in
    let o = and_then-ok (check_from (at + record_length a.accepted) a.after es) _ rs f.2 in
    let same : a.accepted ∷ o.0 ≡ rs = cc o.2 in
    let i = check_record-ok at os e a f.1 in
    let h = check_from-ok (at + record_length a.accepted) a.after es o.0 o.1 in
    subst (λ (x : List Record). InPlace os x × (length x ≡ suc (length es))) same ((a.after, i.1, i.0, h.0), ap suc h.1)

pub check-well-formed : (es : List RawRecord) (count : ℕ) (rs : List Record) → check es count ≡ ok rs → WellFormed rs
unfolding check_up_to
check-well-formed es count rs q =
    let c = require-ok (leb count record_limit) 4 0 _ rs q in
    let h = check_from-ok 0 [] (take count es) rs c.1 in
    record { in_place = h.0; short = omega (arith, leb→le count record_limit c.0, h.1, length-take count es) }

-- the reader accepts what the writer's check accepts
pub checked-read : (es : List RawRecord) (count : ℕ) (rs : List Record) → check es count ≡ ok rs → read (sheet_bytes rs) ≡ ok rs
checked-read es count rs q = read-as-written rs (check-well-formed es count rs q)

-- ---- the check accepts what is well formed

check_record-raw_of : (at : ℕ) (os : List Open) (r : Record) → check_record at os (raw_of r) ≡ accept at os r
unfolding check_record
check_record-raw_of at os r =
    and_then-yes _ (or_refuse-yes 2 at (ap kind_of (raw_of-kind_byte r) ∙ kind_of-kind_number (kind r)))
    ∙ require-yes (foreign_fields_zero (kind r) (raw_of r)) 3 at _ (raw_of-foreign r)
    ∙ ap (accept at os) (record_of-raw_of r)

check_from-in-place : (at : ℕ) (os : List Open) (rs : List Record) → InPlace os rs → check_from at os (map raw_of rs) ≡ ok rs
unfolding check_from InPlace end_of_sheet
check_from-in-place at os [] h = ap (λ (x : List Open). end_of_sheet at x []) h
check_from-in-place at os (r ∷ rs) (after, e, t, h) =
    and_then-yes _ (check_record-raw_of at os r ∙ accept-in-place at os after r t e) ∙ and_then-yes _ (check_from-in-place (at + record_length r) after rs h)

pub well-formed-checked : (rs : List Record) → WellFormed rs → check (map raw_of rs) (length rs) ≡ ok rs
unfolding check_up_to
well-formed-checked rs w =
    require-yes (leb (length rs) record_limit) 4 0 _ (le→leb (length rs) record_limit w.short)
    ∙ ap (check_from 0 []) (take_all (length rs) (map raw_of rs) (omega (arith, length-map rs raw_of)))
    ∙ check_from-in-place 0 [] rs w.in_place

-- the writer's check accepts what the reader accepts
pub read-checked : (sheet : List ℕ) (rs : List Record) → read sheet ≡ ok rs → check (map raw_of rs) (length rs) ≡ ok rs
read-checked sheet rs e = well-formed-checked rs (read-well-formed sheet rs e)
