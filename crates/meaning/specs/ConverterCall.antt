-- The C calls of the converters: the number returned, and the lent buffer and the answer area as they are left.
use Rattle.std.specs.Prelude.{List, ℕ, leb, length}
use Rattle.meaning.specs.Limits.{length_size}
use Rattle.meaning.specs.Record.{Record}
use Rattle.meaning.specs.Reader.{Result, require, and_then}
use Rattle.meaning.specs.Writer.{fit_sheet}
use Rattle.meaning.specs.Lent.{Lent, store_lent}
use Rattle.meaning.specs.Converter.{records_with_skips, records_without_skips}

-- refusals 1 to 5 and 10 come first, then 9: the area is too short for a length, or the buffer for the new sheet
unfoldable pub convert_call : Result (List Record) → List ℕ → List ℕ → Lent
convert_call changed buffer area =
    store_lent buffer area (and_then changed λ rs. require (leb length_size (length area)) 9 0 (fit_sheet buffer rs))

unfoldable pub with_skips_call : List ℕ → List ℕ → List ℕ → Lent
with_skips_call sheet buffer area = convert_call (records_with_skips sheet) buffer area

unfoldable pub without_skips_call : List ℕ → List ℕ → List ℕ → Lent
without_skips_call sheet buffer area = convert_call (records_without_skips sheet) buffer area
