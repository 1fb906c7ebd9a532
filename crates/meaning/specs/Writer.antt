-- The writer: the sheet's length and the buffer as it is left, or refusal 4, 2, 3, 5 or 9 with its place.
use Rattle.std.specs.Prelude.{List, [], ◌∷◌, ◌++◌, Bool, true, false, ◌&&◌, ℕ, ◌+◌, ℤ, leb, eqb, length, take, drop}
use Rattle.meaning.specs.Limits.{record_limit}
use Rattle.meaning.specs.Form.{Form, is_zero, all_zero}
use Rattle.meaning.specs.Record.{Kind, work_kind, loop_kind, end_kind, choice_kind, next_arm_kind, kind_of}
use Rattle.meaning.specs.Record.{Loop, skip_where, Record, work_record, loop_record, end_record, choice_record, next_arm_record, record_length, sheet_bytes, Open}
use Rattle.meaning.specs.Reader.{Result, ok, refused, require, or_refuse, and_then, Accepted, accept, end_of_sheet}

-- a record as the writer takes it: any kind number, and the fields of every kind
pub record RawRecord : Type 0 where
  pub kind_byte : ℕ
  pub least : ℕ
  pub most : ℕ
  pub start : ℕ
  pub step : ℕ
  pub stride : ℤ
  pub lower : Form
  pub upper : Form
  pub skip : ℕ

unfoldable pub work_fields_zero : RawRecord → Bool
work_fields_zero r = eqb r.least 0 && eqb r.most 0

unfoldable pub form_zero : Form → Bool
form_zero f = is_zero f.constant && all_zero f.index && all_zero f.parameter

unfoldable pub skip_zero : RawRecord → Bool
skip_zero r = eqb r.skip 0

-- all fields of a loop, the skip among them
unfoldable pub loop_fields_zero : RawRecord → Bool
loop_fields_zero r = eqb r.start 0 && eqb r.step 0 && is_zero r.stride && form_zero r.lower && form_zero r.upper && skip_zero r

-- "3 also for a nonzero field that its kind does not have"
unfoldable pub foreign_fields_zero : Kind → RawRecord → Bool
foreign_fields_zero work_kind r = loop_fields_zero r
foreign_fields_zero (loop_kind false) r = work_fields_zero r && skip_zero r
foreign_fields_zero (loop_kind true) r = work_fields_zero r
foreign_fields_zero end_kind r = work_fields_zero r && loop_fields_zero r
foreign_fields_zero choice_kind r = work_fields_zero r && loop_fields_zero r
foreign_fields_zero next_arm_kind r = work_fields_zero r && loop_fields_zero r

-- the fields of a loop that has a skip, or has none
unfoldable pub loop_in : Bool → RawRecord → Loop
loop_in has_skip r = record {
  start = r.start;
  step = r.step;
  stride = r.stride;
  lower = r.lower;
  upper = r.upper;
  skip = skip_where has_skip r.skip;
}

-- the record that the fields of its kind make
unfoldable pub record_of : Kind → RawRecord → Record
record_of work_kind r = work_record r.least r.most
record_of (loop_kind has_skip) r = loop_record (loop_in has_skip r)
record_of end_kind r = end_record
record_of choice_kind r = choice_record
record_of next_arm_kind r = next_arm_record

-- refusals 2, 3 and 5 of one record, in this order, at the offset that it would have
unfoldable pub check_record : ℕ → List Open → RawRecord → Result Accepted
check_record at os r =
    and_then (or_refuse (kind_of r.kind_byte) 2 at) λ k.
    require (foreign_fields_zero k r) 3 at (accept at os (record_of k r))

-- the records, or the first refusal
unfoldable pub check_from : ℕ → List Open → List RawRecord → Result (List Record)
check_from at os [] = end_of_sheet at os []
check_from at os (r ∷ rs) =
    and_then (check_record at os r) λ a.
    and_then (check_from (at + record_length a.accepted) a.after rs) λ records.
    ok (a.accepted ∷ records)

-- where a sheet may have so many records: 4 for a count above it, then record by record; entries past the count are not looked at
unfoldable pub check_up_to : ℕ → List RawRecord → ℕ → Result (List Record)
check_up_to limit entries count = require (leb count limit) 4 0 (check_from 0 [] (take count entries))

abbrev pub check : List RawRecord → ℕ → Result (List Record)
check = check_up_to record_limit

-- the writer's answer, and the buffer as it is left
pub record Written : Type 0 where
  pub result : Result ℕ
  pub buffer : List ℕ

unfoldable pub store : List ℕ → Result (List ℕ) → Written
store buffer (ok bytes) = record { result = ok (length bytes); buffer = bytes ++ drop (length bytes) buffer }
store buffer (refused number place) = record { result = refused number place; buffer = buffer }

-- 9: the buffer is shorter than the sheet of the records
unfoldable pub fit_sheet : List ℕ → List Record → Result (List ℕ)
fit_sheet buffer records = let sheet : List ℕ = sheet_bytes records in require (leb (length sheet) (length buffer)) 9 0 (ok sheet)

-- last 9
unfoldable pub write_up_to : ℕ → List RawRecord → ℕ → List ℕ → Written
write_up_to limit entries count buffer = store buffer (and_then (check_up_to limit entries count) (fit_sheet buffer))

-- document 01: the writer
abbrev pub write : List RawRecord → ℕ → List ℕ → Written
write = write_up_to record_limit
