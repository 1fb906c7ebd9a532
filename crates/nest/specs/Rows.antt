-- The rows of a sheet's records, by a walk from the first record to the last.
use Rattle.std.specs.Prelude.{List, [], ◌∷◌, ℕ, zero, suc, ◌+◌, length}
use Rattle.meaning.specs.Record.{Record, work_record, loop_record, end_record, choice_record, next_arm_record, record_length, Open, loop_depth}
use Rattle.layout.specs.declared.rows.Row.{Row}
use Rattle.layout.specs.Numbers.{joined}
use Rattle.layout.specs.Rows.{role_number, role_of, first_cost, second_cost, skip_cost, row_numbers}
use Rattle.nest.specs.Walk.{opens_after, numbers_after, loops_after, records_inside}

-- the number of the end of the record with the number n, a loop or a choice, before the records rs; 0 of another record
unfoldable pub end_number : ℕ → Record → List Record → ℕ
end_number n (work_record least most) rs = zero
end_number n (loop_record l) rs = suc n + records_inside zero rs
end_number n end_record rs = zero
end_number n choice_record rs = suc n + records_inside zero rs
end_number n next_arm_record rs = zero

-- the number of the innermost open record, plus 1; 0 where none is open
unfoldable pub innermost : List ℕ → ℕ
innermost [] = zero
innermost (n ∷ ns) = suc n

-- What the walk has passed: how many records, how many loops, how many bytes, what is open, and the numbers of the open records.
pub record Position : Type 0 where
  pub number : ℕ
  pub loops : ℕ
  pub offset : ℕ
  pub opens : List Open
  pub numbers : List ℕ

abbrev pub sheet_start : Position
sheet_start = record { number = 0; loops = 0; offset = 0; opens = []; numbers = [] }

-- one record further
unfoldable pub onward : Position → Record → Position
onward p r = record {
  number = suc p.number;
  loops = loops_after p.loops r;
  offset = p.offset + record_length r;
  opens = opens_after p.opens r;
  numbers = numbers_after p.number p.numbers r;
}

-- the row of the record r at a position, before the records rs
unfoldable pub row_at : Position → Record → List Record → Row
row_at p r rs = record {
  role = role_number (role_of r);
  first = first_cost r;
  second = second_cost r;
  end = end_number p.number r rs;
  enclosing = innermost p.numbers;
  frame = length p.opens;
  depth = loop_depth p.opens;
  loops = p.loops;
  offset = p.offset;
  skip = skip_cost r;
}

-- from a position on
unfoldable pub rows_from : Position → List Record → List Row
rows_from p [] = []
rows_from p (r ∷ rs) = row_at p r rs ∷ rows_from (onward p r) rs

unfoldable pub rows_of : List Record → List Row
rows_of rs = rows_from sheet_start rs

-- as they are stored
unfoldable pub rows_stored : List Record → List ℕ
rows_stored rs = joined row_numbers (rows_of rs)
