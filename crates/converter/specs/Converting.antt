-- Both converters as one: with a skip, or without; from a record's body in the old sheet.
use Rattle.std.specs.Prelude.{◌≡◌, List, Bool, true, false, ℕ, length}
use Rattle.meaning.specs.Record.{Kind, body_length, Loop, Record, kind, decode_record, body_bytes, sheet_bytes}
use Rattle.meaning.specs.Reader.{Result, ok, refused, and_then, read}
use Rattle.meaning.specs.Converter.{with_skip, without_skip, skips_start, add_skips, drop_skips}

-- the loop with a skip, or without
unfoldable pub changed : Bool → Loop → Loop
changed true = with_skip
changed false = without_skip

-- the record can be changed so: no skip is lost that differs from its loop's start
unfoldable pub stays : Bool → Record → Bool
stays true x = true
stays false x = skips_start x

-- the new records, of which the first would stand at `at` in the old sheet
unfoldable pub changed_from : Bool → ℕ → List Record → Result (List Record)
changed_from true at = add_skips
changed_from false at = drop_skips at

-- of a sheet
unfoldable pub new_records : Bool → List ℕ → Result (List Record)
new_records skips sheet = and_then (read sheet) (changed_from skips 0)

-- the length of their sheet, or the refusal
unfoldable pub new_length : Result (List Record) → Result ℕ
new_length (ok new) = ok (length (sheet_bytes new))
new_length (refused number place) = refused number place

-- the kind and the body are those of a record
pub record BodyOf (x : Record) (k : Kind) (body : List ℕ) : Type 0 where
  pub named : k ≡ kind x
  pub decoded : decode_record (kind x) body ≡ x
  pub bytes : body_bytes x ≡ body
  pub long : length body ≡ body_length (kind x)
