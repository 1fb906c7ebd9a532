-- Rows: what the reader says of each record, as numbers, and the numbers read by position.
use Rattle.std.specs.Prelude.{List, [], ◌∷◌, ℕ, zero, suc, ◌+◌, ◌*◌, ◌-◌, ◌/◌, ◌%◌, min, cond, eqb, get_or, Option, Some, None}
use Rattle.meaning.specs.Limits.{record_limit, depth_limit, open_limit}
use Rattle.meaning.specs.Record.{Kind, work_kind, loop_kind, end_kind, choice_kind, next_arm_kind, skip_cycles, Record, work_record, loop_record, end_record, choice_record, next_arm_record, kind}
use Rattle.layout.specs.declared.rows.Row.{Row}
use Rattle.layout.specs.declared.rows.Role.{Role}
use Rattle.layout.specs.declared.rows.Role.TheVariants as roles
use Rattle.layout.specs.Loops.{loop_limit}

-- what a record is for the stages
abbrev pub straight_role : Role
straight_role = roles.Straight

abbrev pub loop_role : Role
loop_role = roles.Loop

abbrev pub end_role : Role
end_role = roles.End

abbrev pub choice_role : Role
choice_role = roles.Choice

abbrev pub next_arm_role : Role
next_arm_role = roles.NextArm

unfoldable pub role_number : Role → ℕ
role_number roles.Straight = 0
role_number roles.Loop = 1
role_number roles.End = 2
role_number roles.Choice = 3
role_number roles.NextArm = 4
role_number roles.Unknown = 5

-- the role that a number stands for; other numbers are in no sheet's plan
unfoldable pub role_named : ℕ → Role
role_named n =
    cond (eqb n 0) roles.Straight
    (cond (eqb n 1) roles.Loop (cond (eqb n 2) roles.End (cond (eqb n 3) roles.Choice (cond (eqb n 4) roles.NextArm roles.Unknown))))

-- the role of a kind's records
unfoldable pub role_of_kind : Kind → Role
role_of_kind work_kind = straight_role
role_of_kind (loop_kind has_skip) = loop_role
role_of_kind end_kind = end_role
role_of_kind choice_kind = choice_role
role_of_kind next_arm_kind = next_arm_role

unfoldable pub role_of : Record → Role
role_of r = role_of_kind (kind r)

-- the costs that a row has of a record: least and most of straight work, start and step of a loop
unfoldable pub first_cost : Record → ℕ
first_cost (work_record least most) = least
first_cost (loop_record l) = l.start
first_cost end_record = 0
first_cost choice_record = 0
first_cost next_arm_record = 0

unfoldable pub second_cost : Record → ℕ
second_cost (work_record least most) = most
second_cost (loop_record l) = l.step
second_cost end_record = 0
second_cost choice_record = 0
second_cost next_arm_record = 0

-- what a loop costs where it makes no trip
unfoldable pub skip_cost : Record → ℕ
skip_cost (work_record least most) = 0
skip_cost (loop_record l) = skip_cycles l
skip_cost end_record = 0
skip_cost choice_record = 0
skip_cost next_arm_record = 0

-- ---- the numbers of a row: three costs, and three that each hold what is small, the first of it below a room

abbrev pub row_width : ℕ
row_width = 6

abbrev pub rows_length : ℕ
rows_length = record_limit * row_width

-- the room of a record's number and of a number of loops, of one more than a record's number, of an offset and of a role: what a remainder cuts off
-- stands in no sheet
abbrev pub number_room : ℕ
number_room = record_limit

abbrev pub around_room : ℕ
around_room = 512

abbrev pub offset_room : ℕ
offset_room = 4096

abbrev pub role_room : ℕ
role_room = 16

-- the end and the record that it stands in
unfoldable pub end_numbers : Row → ℕ
end_numbers r = r.end % number_room + number_room * (r.enclosing % around_room)

-- the loops before it, and how deep it stands: the records open around it and the loops among them
unfoldable pub depth_numbers : Row → ℕ
depth_numbers r = r.loops % number_room + number_room * (r.frame % open_limit + open_limit * min r.depth depth_limit)

-- the offset and the role
unfoldable pub place_numbers : Row → ℕ
place_numbers r = r.offset % offset_room + offset_room * (r.role % role_room)

unfoldable pub row_numbers : Row → List ℕ
row_numbers r = r.first ∷ r.second ∷ r.skip ∷ end_numbers r ∷ depth_numbers r ∷ place_numbers r ∷ []

-- where the row of the record with this number begins
abbrev pub row_from : ℕ → ℕ
row_from number = number % record_limit * row_width

-- one number of its row
unfoldable pub number_in : List ℕ → ℕ → ℕ → ℕ
number_in rows number column = get_or rows (row_from number + column) 0

-- the record's number that this one more stands for; 0 stands for none
unfoldable pub around_named : ℕ → Option ℕ
around_named n = cond (eqb n 0) None (Some (n - 1))

-- ---- by name. What a remainder cuts off here stands in no sheet's plan: with it every list of numbers can be read.

module _ (rows : List ℕ) (number : ℕ) where
  abbrev pub role_at : ℕ
  role_at = number_in rows number 5 / offset_room

  abbrev pub first_at : ℕ
  first_at = number_in rows number 0

  abbrev pub second_at : ℕ
  second_at = number_in rows number 1

  -- what a loop costs where it makes no trip
  abbrev pub skip_at : ℕ
  skip_at = number_in rows number 2

  -- what entering a loop costs, where it makes so many trips
  unfoldable pub entry_cost_at : ℕ → ℕ
  entry_cost_at zero = skip_at
  entry_cost_at (suc trips) = first_at

  -- the number of the end of a loop or choice
  abbrev pub end_at : ℕ
  end_at = number_in rows number 3 % record_limit

  -- what follows the end of a loop
  abbrev pub after_end_at : ℕ
  after_end_at = end_at + 1

  -- the number of the record that it stands in, plus 1; 0 where it stands in none
  abbrev pub enclosing_at : ℕ
  enclosing_at = number_in rows number 3 / number_room

  -- the loop or choice that an end ends, and that a next arm belongs to
  abbrev pub opener_at : ℕ
  opener_at = (enclosing_at - 1) % record_limit

  -- the frame of a loop or choice
  abbrev pub frame_at : ℕ
  frame_at = number_in rows number 4 / number_room % open_limit

  -- how many loops are open around it
  abbrev pub depth_at : ℕ
  depth_at = min (number_in rows number 4 / (number_room * open_limit)) depth_limit

  -- how many loops stand before it
  abbrev pub loops_before_at : ℕ
  loops_before_at = number_in rows number 4 % number_room

  -- the number of a loop among the loops
  abbrev pub loop_at : ℕ
  loop_at = loops_before_at % loop_limit

  abbrev pub offset_at : ℕ
  offset_at = number_in rows number 5 % offset_room
