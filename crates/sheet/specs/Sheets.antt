-- The records that a sheet is read as.
use Rattle.std.specs.Prelude.{List, [], ℕ}
use Rattle.meaning.specs.Record.{Record}
use Rattle.meaning.specs.Reader.{Result, ok, refused, read}

-- none where it is refused
unfoldable pub records_in : Result (List Record) → List Record
records_in (ok rs) = rs
records_in (refused number place) = []

unfoldable pub records_of : List ℕ → List Record
records_of sheet = records_in (read sheet)
