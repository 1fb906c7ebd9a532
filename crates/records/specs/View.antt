-- The code's types as the meaning's.
use Rattle.std.specs.Prelude.{List, Bool, true, false, ℕ, pos}
use Rattle.std.proofs.Math.Option.{Option, none, some}
use Rattle.meaning.specs.Record as M
use Rattle.meaning.specs.Record.{Kind, kind_number, work_kind, loop_kind, end_kind, choice_kind, next_arm_kind, kind_of, body_length, decode_record}
use Rattle.meaning.specs.Record.{skip_where, skip_or, work_record, loop_record, end_record, choice_record, next_arm_record, kind}
use Rattle.meaning.specs.Number.{unsigned16}
use Rattle.meaning.specs.Writer.{RawRecord}
use Rattle.form.specs.Packed.{form_of, packed, blank_form}
use Rattle.std.specs.Prelude as prelude
use Rattle.std.specs.Prelude.{Some, None}
use Rattle.records.specs.declared.Kind as code_kind
use Rattle.records.specs.declared.Kind.TheVariants as variant
use Rattle.records.specs.declared.work.Work.{Work}
use Rattle.records.specs.declared.loops.Loop.{Loop}
use Rattle.records.specs.declared.Record.{Record}

-- the kind that a variant stands for, and one or none
abbrev pub meant_kind : code_kind.Kind → Kind
meant_kind variant.Work = work_kind
meant_kind variant.Loop = loop_kind false
meant_kind variant.End = end_kind
meant_kind variant.Choice = choice_kind
meant_kind variant.NextArm = next_arm_kind
meant_kind variant.SkipLoop = loop_kind true

abbrev pub meant : prelude.Option code_kind.Kind → Option Kind
meant (Some k) = some (meant_kind k)
meant None = none

-- fields that are all 0
abbrev pub blank_work : Work
blank_work = record { least = 0; most = 0 }

abbrev pub blank_loop : Loop
blank_loop = record { start = 0; step = 0; stride = pos 0; lower = blank_form; upper = blank_form; skip = 0 }

abbrev pub blank_record : ℕ → Record
blank_record kind = record { kind = kind; work = blank_work; looping = blank_loop }

-- the fields of a work as its record
abbrev pub work_of : Work → M.Record
work_of w = work_record w.least w.most

-- the fields of a loop that has a skip, or has none; and the other way
abbrev pub loop_of : Bool → Loop → M.Loop
loop_of has_skip l = record {
  start = l.start;
  step = l.step;
  stride = l.stride;
  lower = form_of l.lower;
  upper = form_of l.upper;
  skip = skip_where has_skip l.skip;
}

abbrev pub packed_loop : M.Loop → Loop
packed_loop l = record {
  start = l.start;
  step = l.step;
  stride = l.stride;
  lower = packed l.lower;
  upper = packed l.upper;
  skip = skip_or l.skip 0;
}

-- the skip cycles that a body says
abbrev pub skip_in : Bool → List ℕ → ℕ
skip_in has_skip body = skip_or (skip_where has_skip (unsigned16 body 24)) (unsigned16 body 0)

-- a record as the meaning's writer takes it: its kind's number and all fields
abbrev pub raw_record_of : Record → RawRecord
raw_record_of r = record {
  kind_byte = r.kind;
  least = r.work.least;
  most = r.work.most;
  start = r.looping.start;
  step = r.looping.step;
  stride = r.looping.stride;
  lower = form_of r.looping.lower;
  upper = form_of r.looping.upper;
  skip = r.looping.skip;
}

-- a record with its kind's fields, all others 0
unfoldable pub record_in : M.Record → Record
record_in (work_record least most) = record { kind = kind_number work_kind; work = record { least = least; most = most }; looping = blank_loop }
record_in (loop_record l) = record { kind = kind_number (kind (loop_record l)); work = blank_work; looping = packed_loop l }
record_in end_record = blank_record (kind_number end_kind)
record_in choice_record = blank_record (kind_number choice_kind)
record_in next_arm_record = blank_record (kind_number next_arm_kind)

-- the record that a body makes of a kind; a number that is no kind has no fields
unfoldable pub decoded_as : ℕ → List ℕ → Option Kind → Record
decoded_as kind body (some k) = record_in (decode_record k body)
decoded_as kind body none = blank_record kind

-- the record of a kind's number with this body
unfoldable pub decoded : ℕ → List ℕ → Record
decoded kind body = decoded_as kind body (kind_of kind)

-- what a kind is: one there is, and a loop's
unfoldable pub is_some_kind : Option Kind → Bool
is_some_kind (some k) = true
is_some_kind none = false

unfoldable pub is_loop_kind : Option Kind → Bool
is_loop_kind (some work_kind) = false
is_loop_kind (some (loop_kind has_skip)) = true
is_loop_kind (some end_kind) = false
is_loop_kind (some choice_kind) = false
is_loop_kind (some next_arm_kind) = false
is_loop_kind none = false

-- the same of a kind's number
abbrev pub is_kind : ℕ → Bool
is_kind number = is_some_kind (kind_of number)

abbrev pub is_loop : ℕ → Bool
is_loop kind = is_loop_kind (kind_of kind)

-- the length of a kind's body; no kind has none
unfoldable pub length_of : Option Kind → ℕ
length_of (some k) = body_length k
length_of none = 0

-- the length of the body that a kind's number asks for
unfoldable pub length_of_kind : ℕ → ℕ
length_of_kind kind = length_of (kind_of kind)
