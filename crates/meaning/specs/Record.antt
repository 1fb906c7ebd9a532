-- Records: kinds, bodies, fields in range, and what is open after a record.
use Rattle.std.specs.Prelude.{List, [], ◌∷◌, ◌++◌, Bool, true, false, cond, ◌&&◌, ℕ, zero, suc, ◌+◌, leb, ltb, eqb, length, ℤ, pos, nat_abs}
use Rattle.std.proofs.Math.Option.{Option, none, some}
use Rattle.std.specs.Int.Signed.{lt_z}
use Rattle.meaning.specs.Limits.{depth_limit, open_limit, cost_limit, stride_limit, constant_half}
use Rattle.meaning.specs.Number.{little_endian, encode_signed, unsigned16, signed16}
use Rattle.meaning.specs.Form.{Form, form_at, form_bytes, form_in_range}

-- kind 2 is a loop without a skip, kind 6 (document 02, C-12) one with a skip
pub data Kind : Type 0 where
  work_kind end_kind choice_kind next_arm_kind : Kind
  loop_kind : (has_skip : Bool) → Kind

unfoldable pub kind_number : Kind → ℕ
kind_number work_kind = 1
kind_number (loop_kind false) = 2
kind_number (loop_kind true) = 6
kind_number end_kind = 3
kind_number choice_kind = 4
kind_number next_arm_kind = 5

-- the kind that a byte names
unfoldable pub kind_of : ℕ → Option Kind
kind_of n =
    cond (eqb n 1) (some work_kind)
    (cond (eqb n 2) (some (loop_kind false))
    (cond (eqb n 3) (some end_kind) (cond (eqb n 4) (some choice_kind) (cond (eqb n 5) (some next_arm_kind) (cond (eqb n 6) (some (loop_kind true)) none)))))

-- "a body whose length the kind fixes"
unfoldable pub body_length : Kind → ℕ
body_length work_kind = 4
body_length (loop_kind false) = 24
body_length (loop_kind true) = 26
body_length end_kind = 0
body_length choice_kind = 0
body_length next_arm_kind = 0

-- a loop of either kind; one of kind 2 has no skip of its own
pub record Loop : Type 0 where
  pub start : ℕ
  pub step : ℕ
  pub stride : ℤ
  pub lower : Form
  pub upper : Form
  pub skip : Option ℕ

-- document 02, C-17: "The stride field becomes signed"; its size
unfoldable pub stride_size : Loop → ℕ
stride_size l = nat_abs l.stride

-- and the direction: a negative stride counts down
unfoldable pub counts_down : Loop → Bool
counts_down l = lt_z l.stride (pos zero)

unfoldable pub is_given : Option ℕ → Bool
is_given (some skip) = true
is_given none = false

-- a field as the skip of a loop of kind 6, or of kind 2, which has none
unfoldable pub skip_where : Bool → ℕ → Option ℕ
skip_where true field = some field
skip_where false field = none

unfoldable pub skip_or : Option ℕ → ℕ → ℕ
skip_or (some skip) start = skip
skip_or none start = start

-- document 02: skip cycles, "paid in place of start when there are no trips. Kind 2 means skip equal to start."
unfoldable pub skip_cycles : Loop → ℕ
skip_cycles l = skip_or l.skip l.start

-- document 01: record
pub data Record : Type 0 where
  work_record : (least most : ℕ) → Record
  loop_record : Loop → Record
  end_record : Record
  choice_record : Record
  next_arm_record : Record

unfoldable pub kind : Record → Kind
kind (work_record least most) = work_kind
kind (loop_record l) = loop_kind (is_given l.skip)
kind end_record = end_kind
kind choice_record = choice_kind
kind next_arm_record = next_arm_kind

-- the record's bytes: one of kind, then the body
unfoldable pub record_length : Record → ℕ
record_length r = 1 + body_length (kind r)

unfoldable pub decode_record : Kind → List ℕ → Record
decode_record work_kind body = work_record (unsigned16 body 0) (unsigned16 body 2)
decode_record (loop_kind has_skip) body =
    loop_record (record {
      start = unsigned16 body 0;
      step = unsigned16 body 2;
      stride = signed16 body 4;
      lower = form_at body 6;
      upper = form_at body 15;
      skip = skip_where has_skip (unsigned16 body 24);
    })
decode_record end_kind body = end_record
decode_record choice_kind body = choice_record
decode_record next_arm_kind body = next_arm_record

unfoldable pub skip_bytes : Option ℕ → List ℕ
skip_bytes (some skip) = little_endian 2 skip
skip_bytes none = []

unfoldable pub body_bytes : Record → List ℕ
body_bytes (work_record least most) = little_endian 2 least ++ little_endian 2 most
body_bytes (loop_record l) =
    little_endian 2 l.start ++ little_endian 2 l.step ++ little_endian 2 (encode_signed constant_half l.stride) ++ form_bytes l.lower ++ form_bytes l.upper
    ++ skip_bytes l.skip
body_bytes end_record = []
body_bytes choice_record = []
body_bytes next_arm_record = []

unfoldable pub record_bytes : Record → List ℕ
record_bytes r = kind_number (kind r) ∷ body_bytes r

-- the sheet that holds the records
unfoldable pub sheet_bytes : List Record → List ℕ
sheet_bytes [] = []
sheet_bytes (r ∷ rs) = record_bytes r ++ sheet_bytes rs

-- how many bytes the records take
unfoldable pub sheet_length : List Record → ℕ
sheet_length [] = zero
sheet_length (r ∷ rs) = record_length r + sheet_length rs

-- what a record can leave open
pub data Open : Type 0 where
  open_loop open_choice : Open

-- how many loops are open
unfoldable pub loop_depth : List Open → ℕ
loop_depth [] = zero
loop_depth (open_loop ∷ os) = suc (loop_depth os)
loop_depth (open_choice ∷ os) = loop_depth os

-- refusal 3 falls where this is false; a stride lies from -1,000 to 1,000 and is not 0. What is open stands innermost first.
unfoldable pub fields_in_range : List Open → Record → Bool
fields_in_range os (work_record least most) = leb least most && leb most cost_limit
fields_in_range os (loop_record l) =
    leb l.start cost_limit && leb l.step cost_limit && leb 1 (stride_size l) && leb (stride_size l) stride_limit
    && form_in_range (loop_depth os) l.lower && form_in_range (loop_depth os) l.upper && leb (skip_cycles l) cost_limit
fields_in_range os end_record = true
fields_in_range os choice_record = true
fields_in_range os next_arm_record = true

-- what is open after the record; nothing where refusal 5 falls: an end with nothing open, a misplaced next arm, a fifth loop depth, a
-- ninth open record
unfoldable pub open_after : List Open → Record → Option (List Open)
open_after os (work_record least most) = some os
open_after os (loop_record l) = cond (ltb (loop_depth os) depth_limit && ltb (length os) open_limit) (some (open_loop ∷ os)) none
open_after [] end_record = none
open_after (o ∷ os) end_record = some os
open_after os choice_record = cond (ltb (length os) open_limit) (some (open_choice ∷ os)) none
open_after [] next_arm_record = none
open_after (open_loop ∷ os) next_arm_record = none
open_after (open_choice ∷ os) next_arm_record = some (open_choice ∷ os)
