-- What is open, as the numbers in which the code keeps it; tests of a record by its kind's number and its body.
use Rattle.std.specs.Prelude.{List, [], ◌∷◌, Bool, true, false, not, cond, ◌&&◌, ◌||◌, ℕ, zero, ◌+◌, ◌*◌, ◌-◌, ◌/◌, ◌%◌, ◌^◌, length, leb, ltb, eqb}
use Rattle.std.proofs.Math.Option.{Option, none, some}
use Rattle.meaning.specs.Limits.{depth_limit, open_limit}
use Rattle.meaning.specs.Record.{Kind, work_kind, loop_kind, end_kind, choice_kind, next_arm_kind, kind_of, decode_record}
use Rattle.meaning.specs.Record.{Open, open_loop, open_choice, loop_depth, fields_in_range, open_after}
use Rattle.sheet.specs.declared.nesting.Nesting.{Nesting}

-- 1 for a loop, 0 for a choice
unfoldable pub loop_digit : Open → ℕ
loop_digit open_loop = 1
loop_digit open_choice = 0

-- which of the open records are loops, as binary digits, the innermost lowest
unfoldable pub loop_bits : List Open → ℕ
loop_bits [] = zero
loop_bits (o ∷ os) = 2 * loop_bits os + loop_digit o

-- what is open, in numbers
unfoldable pub nesting_of : List Open → Nesting
nesting_of os = record { size = length os; depth = loop_depth os; loops = loop_bits os }

-- the test of a body's fields by its kind; without a kind there are none
unfoldable pub fields_pass_as : List Open → List ℕ → Option Kind → Bool
fields_pass_as os body (some k) = fields_in_range os (decode_record k body)
fields_pass_as os body none = true

-- refusal 3 does not fall on a record of this kind with this body
unfoldable pub fields_pass : List Open → ℕ → List ℕ → Bool
fields_pass os kind body = fields_pass_as os body (kind_of kind)

-- what is open after a record by its kind; without a kind nothing changes
unfoldable pub open_after_as : List Open → Option Kind → Option (List Open)
open_after_as os (some k) = open_after os (decode_record k [])
open_after_as os none = some os

-- what is open after a record of this kind: its fields do not matter
unfoldable pub open_after_kind : List Open → ℕ → Option (List Open)
open_after_kind os kind = open_after_as os (kind_of kind)

-- whether there is a value
unfoldable pub is_there : {A : Type 0} → Option A → Bool
is_there (some a) = true
is_there none = false

-- refusal 5 does not fall on a record of this kind
unfoldable pub may_stand : List Open → ℕ → Bool
may_stand os kind = is_there (open_after_kind os kind)

-- ---- the same for any three numbers, also those of no list of open records

-- one more open record, whose digit is 1 for a loop and 0 for a choice; where as many are open or loops as may be, the same
unfoldable pub extended_nesting : Nesting → ℕ → Nesting
extended_nesting here digit =
    cond (leb open_limit here.size || leb open_limit here.depth) here
    (record { size = here.size + 1; depth = here.depth + digit; loops = here.loops % 2 ^ (open_limit - 1) * 2 + digit })

-- the innermost closed; where nothing is open, or a loop would close and none is open, the same
unfoldable pub closed_nesting : Nesting → Nesting
closed_nesting here =
    cond (eqb here.size 0 || ltb here.depth (here.loops % 2)) here
    (record { size = here.size - 1; depth = here.depth - here.loops % 2; loops = here.loops / 2 })

-- what is open after a record by its kind; a work, a next arm and what has no kind change nothing
unfoldable pub nesting_after_as : Nesting → Option Kind → Nesting
nesting_after_as here (some work_kind) = here
nesting_after_as here (some (loop_kind has_skip)) = extended_nesting here 1
nesting_after_as here (some end_kind) = closed_nesting here
nesting_after_as here (some choice_kind) = extended_nesting here 0
nesting_after_as here (some next_arm_kind) = here
nesting_after_as here none = here

-- what is open after a record of this kind
unfoldable pub nesting_after : Nesting → ℕ → Nesting
nesting_after here kind = nesting_after_as here (kind_of kind)

-- whether a record may stand by its kind: a loop needs room in both limits, a choice in one, an end something open, a next arm a choice
unfoldable pub may_stand_in_as : Nesting → Option Kind → Bool
may_stand_in_as here (some work_kind) = true
may_stand_in_as here (some (loop_kind has_skip)) = ltb here.depth depth_limit && ltb here.size open_limit
may_stand_in_as here (some end_kind) = not (eqb here.size 0)
may_stand_in_as here (some choice_kind) = ltb here.size open_limit
may_stand_in_as here (some next_arm_kind) = not (eqb here.size 0) && eqb (here.loops % 2) 0
may_stand_in_as here none = true

-- whether a record of this kind may stand
unfoldable pub may_stand_in : Nesting → ℕ → Bool
may_stand_in here kind = may_stand_in_as here (kind_of kind)
