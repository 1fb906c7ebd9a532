-- What the rows of a sheet's records say where they are read by a record's number.
use mathlib.Core.List.{◌++◌, List, [], ◌∷◌}
use mathlib.Core.Path.{ap, refl, ◌∙◌, ◌≡◌}
use Prim.Native.Nat.{◌%◌, ◌*◌, ◌+◌, ◌/◌, ◌<◌, min, suc, ℕ, ◌≤◌}
use native.Mathlib.Omega.{arith}
use native.Mathlib.Nat.{mod-eq_of_lt}
use lib.ListN.{get_or, length, length-append, length-drop}
use Rattle.meaning.specs.Record.{Loop, Open, Record, loop_depth, loop_record, sheet_length}
use Rattle.meaning.specs.Limits.{depth_limit, open_limit, record_limit}
use Rattle.meaning.proofs.Accepted.{InPlace}
use Rattle.meaning.proofs.RecordBytes.{sheet_length-bound}
use Rattle.layout.specs.declared.rows.Row.{Row}
use Rattle.layout.specs.Rows.{role_room, first_cost, role_number, role_of, second_cost, skip_cost}
use Rattle.layout.specs.Rows.{depth_numbers, end_numbers, number_in, number_room, offset_room, place_numbers, row_numbers, row_width}
use Rattle.layout.specs.Rows.{depth_at, enclosing_at, end_at, first_at, frame_at, loop_at, loops_before_at, offset_at, role_at, second_at, skip_at}
use Rattle.layout.specs.Loops.{loop_limit}
use Rattle.layout.proofs.Reading.{blank_row, row_number, depth-shared, enclosing-shared, end-shared, frame-shared, loops-shared, offset-shared, role-shared}
use Rattle.nest.specs.Rows.{end_number, innermost, row_at, rows_of, rows_stored, sheet_start}
use Rattle.nest.specs.Walk.{loops_after, records_inside}
use Rattle.nest.specs.Known.{RowsHeld}
use Rattle.nest.proofs.Walks.{loops-append, loops-at-most, loops-grow, loops_through, numbers_through, opens_through, position_after}
use Rattle.nest.proofs.OpenNumbers.{Below, below-through, innermost-below}
use Rattle.nest.proofs.Places.{end-in-place, loops-few}
use Rattle.layout.specs.declared.rows.Role.{Role}
use Rattle.layout.specs.declared.rows.Role.TheVariants as roles
use Rattle.nest.proofs.RowsOf.{row-at, rows-length}

role-small : (role : Role) → role_number role < role_room
unfolding role_number
role-small roles.Straight = omega arith
role-small roles.Loop = omega arith
role-small roles.End = omega arith
role-small roles.Choice = omega arith
role-small roles.NextArm = omega arith
role-small roles.Unknown = omega arith

module _ {rows : List ℕ} (xs : List Record) (r : Record) (ys : List Record) (held : RowsHeld rows (xs ++ (r ∷ ys)))
    (few : length (xs ++ (r ∷ ys)) ≤ record_limit) where
  reads : (column : ℕ) → column < row_width → number_in rows (length xs) column ≡ get_or (row_numbers (row_at (position_after xs) r ys)) column 0
  unfolding rows_stored
  reads column c =
      let size = length-append xs (r ∷ ys) in
      let long : length (rows_of (xs ++ (r ∷ ys))) ≡ length (xs ++ (r ∷ ys)) = (unfold rows_of in rows-length (xs ++ (r ∷ ys)) sheet_start) in
      ap (λ (l : List ℕ). number_in l (length xs) column) held.are
      ∙ row_number held.before (rows_of (xs ++ (r ∷ ys))) (length xs) column (omega arith) (omega arith) c
      ∙ ap (λ (x : Row). get_or (row_numbers x) column 0) (row-at xs r ys blank_row)

  -- the row, and its numbers that are shared
  abbrev here : Row
  here = row_at (position_after xs) r ys

  ends : number_in rows (length xs) 3 ≡ end_numbers here
  unfolding row_numbers
  ends = reads 3 (omega arith)

  depths : number_in rows (length xs) 4 ≡ depth_numbers here
  unfolding row_numbers
  depths = reads 4 (omega arith)

  places : number_in rows (length xs) 5 ≡ place_numbers here
  unfolding row_numbers
  places = reads 5 (omega arith)

  few-before : length xs < record_limit
  few-before = omega (arith, few, length-append xs (r ∷ ys))

  pub role-reads : role_at rows (length xs) ≡ role_number (role_of r)
  unfolding row_at
  role-reads = ap (λ (n : ℕ). n / offset_room) places ∙ role-shared here (role-small (role_of r))

  pub first_reads : first_at rows (length xs) ≡ first_cost r
  unfolding row_numbers row_at
  first_reads = reads 0 (omega arith)

  pub second_reads : second_at rows (length xs) ≡ second_cost r
  unfolding row_numbers row_at
  second_reads = reads 1 (omega arith)

  pub skip-reads : skip_at rows (length xs) ≡ skip_cost r
  unfolding row_numbers row_at
  skip-reads = reads 2 (omega arith)

  pub end_reads : end_at rows (length xs) ≡ end_number (length xs) r ys % record_limit
  unfolding row_at
  end_reads = ap (λ (n : ℕ). n % record_limit) ends ∙ end-shared here

  pub enclosing-reads : enclosing_at rows (length xs) ≡ innermost (numbers_through 0 [] xs)
  unfolding row_at
  enclosing-reads =
      let none : Below 0 [] = (unfold Below in tt) in
      ap (λ (n : ℕ). n / number_room) ends
      ∙ enclosing-shared here (omega (arith, few-before, innermost-below (0 + length xs) (numbers_through 0 [] xs) (below-through xs 0 [] none)))

  pub frame-reads : frame_at rows (length xs) ≡ length (opens_through [] xs) % open_limit
  unfolding row_at
  frame-reads = ap (λ (n : ℕ). n / number_room % open_limit) depths ∙ frame-shared here

  pub depth-reads : depth_at rows (length xs) ≡ min (loop_depth (opens_through [] xs)) depth_limit
  unfolding row_at
  depth-reads = ap (λ (n : ℕ). min (n / (number_room * open_limit)) depth_limit) depths ∙ depth-shared here

  pub offset-reads : offset_at rows (length xs) ≡ sheet_length xs
  unfolding row_at
  offset-reads = ap (λ (n : ℕ). n % offset_room) places ∙ offset-shared here (omega (arith, few-before, sheet_length-bound xs))

  pub loops-before-reads : loops_before_at rows (length xs) ≡ loops_through 0 xs
  unfolding row_at
  loops-before-reads = ap (λ (n : ℕ). n % number_room) depths ∙ loops-shared here (omega (arith, few-before, loops-at-most xs 0))

-- the end of what a record opens
pub opened-end : {rows : List ℕ} (xs : List Record) (r : Record) (ys : List Record) (os : List Open) → RowsHeld rows (xs ++ (r ∷ ys)) →
    length (xs ++ (r ∷ ys)) ≤ record_limit → end_number (length xs) r ys ≡ suc (length xs) + records_inside 0 ys → InPlace os ys → 0 < length os →
    end_at rows (length xs) ≡ suc (length xs) + records_inside 0 ys
opened-end xs r ys os held few opens inside some-open =
    let ended = ap length (end-in-place ys os 0 inside some-open) in
    let long = length-drop (records_inside 0 ys) ys in
    end_reads xs r ys held few ∙ ap (λ (n : ℕ). n % record_limit) opens ∙ mod-eq_of_lt (omega (arith, length-append xs (r ∷ ys)))

-- a loop's number among the loops of a sheet in place
pub loop-number-small : (xs : List Record) (l : Loop) (ys : List Record) → InPlace [] (xs ++ (loop_record l ∷ ys)) →
    length (xs ++ (loop_record l ∷ ys)) ≤ record_limit → loops_through 0 xs < loop_limit
loop-number-small xs l ys place few =
    let fewer = loops-few (xs ++ (loop_record l ∷ ys)) [] 0 place in
    let split = loops-append xs (loop_record l ∷ ys) 0 in
    let own : loops_through (loops_through 0 xs) (loop_record l ∷ ys) ≡ loops_through (suc (loops_through 0 xs)) ys = (unfold loops_through loops_after in refl) in
    omega (arith, loops-grow ys (suc (loops_through 0 xs)))

pub loop-reads : {rows : List ℕ} (xs : List Record) (l : Loop) (ys : List Record) → RowsHeld rows (xs ++ (loop_record l ∷ ys)) →
    InPlace [] (xs ++ (loop_record l ∷ ys)) → length (xs ++ (loop_record l ∷ ys)) ≤ record_limit → loop_at rows (length xs) ≡ loops_through 0 xs
loop-reads xs l ys held place few =
    ap (λ (n : ℕ). n % loop_limit) (loops-before-reads xs (loop_record l) ys held few) ∙ mod-eq_of_lt (loop-number-small xs l ys place few)
