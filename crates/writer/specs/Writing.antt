-- What the writer has made of records in the sheet that it lays out.
use Rattle.std.specs.Prelude.{◌≡◌, List, ◌++◌, map, ℕ, ◌+◌, ◌≤◌, take}
use Rattle.meaning.specs.Record as M
use Rattle.meaning.specs.Record.{record_length, record_bytes, sheet_length, sheet_bytes}
use Rattle.meaning.specs.Reader.{Result, ok, refused}
use Rattle.records.specs.declared.Record.{Record}
use Rattle.meaning.specs.Limits.{sheet_length_limit}
use Rattle.records.specs.View.{record_in}

-- the length of the records' sheet, or the refusal
unfoldable pub measured : Result (List M.Record) → Result ℕ
measured (ok rs) = ok (sheet_length rs)
measured (refused number place) = refused number place

-- the record x stands at an offset, after the bytes that stood before it, and is the item that was given
pub record RecordLaid (item : Record) (at : ℕ) (x : M.Record) (before after : List ℕ) : Type 0 where
  pub given : record_in x ≡ item
  pub stored : take (at + record_length x) after ≡ take at before ++ record_bytes x

-- the sheet of rs stands first, and rs are the items that were given
pub record SheetLaid (items : List Record) (rs : List M.Record) (sheet : List ℕ) : Type 0 where
  pub given : map record_in rs ≡ items
  pub stored : take (sheet_length rs) sheet ≡ sheet_bytes rs
  pub fits : sheet_length rs ≤ sheet_length_limit
