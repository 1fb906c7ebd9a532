-- What the array of rows holds while it is filled, and afterwards.
use Rattle.std.specs.Prelude.{◌≡◌, List, ◌∷◌, ℕ, ◌+◌, ◌<◌, ◌≤◌, length, take}
use Rattle.meaning.specs.Limits.{open_limit}
use Rattle.meaning.specs.Record.{sheet_length, Record}
use Rattle.sheet.specs.declared.nesting.Nesting.{Nesting}
use Rattle.sheet.specs.Nestings.{nesting_of}
use Rattle.layout.specs.Numbers.{stored_in}
use Rattle.layout.specs.Rows.{enclosing_at}
use Rattle.sheet.specs.Sheets.{records_of}
use Rattle.nest.specs.Rows.{innermost, rows_stored, Position}

-- the row of the innermost of these open records has the next one's number plus 1
pub record InnersKnown (rows : List ℕ) (ns : List ℕ) : Type 0 where
  pub around : (n : ℕ) (ms : List ℕ) → ns ≡ n ∷ ms → enclosing_at rows n ≡ innermost ms

-- an array holds the rows of these records
pub record RowsHeld (rows : List ℕ) (rs : List Record) : Type 0 where
  pub before : List ℕ
  pub are : rows ≡ stored_in before (rows_stored rs)

-- the record with this number stands at an offset, among the records of a sheet that was read
pub record RecordAt (sheet : List ℕ) (count number at : ℕ) : Type 0 where
  pub all : count ≡ length (records_of sheet)
  pub there : number < count
  pub offset : at ≡ sheet_length (take number (records_of sheet))

-- what follows it stands at an offset
pub record RecordBefore (sheet : List ℕ) (count number next : ℕ) : Type 0 where
  pub all : count ≡ length (records_of sheet)
  pub there : number < count
  pub offset : next ≡ sheet_length (take (number + 1) (records_of sheet))

-- the numbers that the walk over a sheet's bytes carries are those of a position
pub record AtPosition (p : Position) (number at loops enclosing : ℕ) (here : Nesting) : Type 0 where
  pub number_is : number ≡ p.number
  pub offset_is : at ≡ p.offset
  pub loops_are : loops ≡ p.loops
  pub enclosing_is : enclosing ≡ innermost p.numbers
  pub opens_are : here ≡ nesting_of p.opens
  pub few_open : length p.opens ≤ open_limit
