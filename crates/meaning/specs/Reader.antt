-- The reader: a sheet's records, or refusal 1, 2, 3, 4 or 5 with its place.
use Rattle.std.specs.Prelude.{List, [], ◌∷◌, Bool, true, false, ℕ, zero, suc, ◌+◌, leb, length, take, drop}
use Rattle.std.proofs.Math.Option.{Option, none, some}
use Rattle.meaning.specs.Limits.{record_limit}
use Rattle.meaning.specs.Record.{Kind, kind_of, body_length, Record, kind, record_length, decode_record, Open, fields_in_range, open_after}

-- a value, or a refusal: its number and its place
pub data Result (A : Type 0) : Type 0 where
  ok : A → Result A
  refused : (number place : ℕ) → Result A

unfoldable pub require : {A : Type 0} → Bool → ℕ → ℕ → Result A → Result A
require true number place r = r
require false number place r = refused number place

unfoldable pub or_refuse : {A : Type 0} → Option A → ℕ → ℕ → Result A
or_refuse (some a) number place = ok a
or_refuse none number place = refused number place

unfoldable pub and_then : {A B : Type 0} → Result A → (A → Result B) → Result B
and_then (ok a) f = f a
and_then (refused number place) f = refused number place

-- a record that is in its place, and what is open after it
pub record Accepted : Type 0 where
  pub accepted : Record
  pub after : List Open

-- refusals 3 and 5, in this order, of a record that would stand at `at` where os is open
unfoldable pub accept : ℕ → List Open → Record → Result Accepted
accept at os r = require (fields_in_range os r) 3 at (and_then (or_refuse (open_after os r) 5 at) λ after. ok (record { accepted = r; after = after }))

-- what is open at the end of the sheet, whose length is `at`, is refused with 5
unfoldable pub end_of_sheet : {A : Type 0} → ℕ → List Open → A → Result A
end_of_sheet at [] a = ok a
end_of_sheet at (o ∷ os) a = refused 5 at

-- where a byte names one of these kinds, or none, and a body of a kind is decoded so
module _ (kinds : ℕ → Option Kind) (decode : Kind → List ℕ → Record) where
  -- one record at `at`, where its first byte is `kind_byte` and `bytes` follow: refusals 2, 1, 3 and 5 in this order
  unfoldable pub read_record_of : ℕ → List Open → ℕ → List ℕ → Result Accepted
  read_record_of at os kind_byte bytes =
      and_then (or_refuse (kinds kind_byte) 2 at) λ k.
      require (leb (body_length k) (length bytes)) 1 at (accept at os (decode k (take (body_length k) bytes)))

  -- from `at` on, where os is open, at most `left` further records
  unfoldable pub read_from_of : ℕ → ℕ → List Open → List ℕ → Result (List Record)
  read_from_of zero at os [] = end_of_sheet at os []
  read_from_of zero at os (kind_byte ∷ bytes) = refused 4 at
  read_from_of (suc left) at os [] = end_of_sheet at os []
  read_from_of (suc left) at os (kind_byte ∷ bytes) =
      and_then (read_record_of at os kind_byte bytes) λ a.
      and_then (read_from_of left (at + record_length a.accepted) a.after (drop (body_length (kind a.accepted)) bytes)) λ rs.
      ok (a.accepted ∷ rs)

-- with the kinds that there are, and the fields that they have
abbrev pub read_record : ℕ → List Open → ℕ → List ℕ → Result Accepted
read_record = read_record_of kind_of decode_record

abbrev pub read_from : ℕ → ℕ → List Open → List ℕ → Result (List Record)
read_from = read_from_of kind_of decode_record

-- document 01: the reader
unfoldable pub read : List ℕ → Result (List Record)
read sheet = read_from record_limit 0 [] sheet

-- ---- the record reader

-- a record's kind, and where its body begins and how long it is
pub record Head : Type 0 where
  pub kind_number : ℕ
  pub body_offset : ℕ
  pub body_length : ℕ

unfoldable pub head_of : ℕ → List ℕ → Result (Option Head)
head_of at [] = ok none
head_of at (kind_byte ∷ bytes) =
    and_then (or_refuse (kind_of kind_byte) 2 at) λ k.
    require (leb (body_length k) (length bytes)) 1 at (ok (some (record { kind_number = kind_byte; body_offset = at + 1; body_length = body_length k })))

-- what stands at an offset of the sheet: a record, the end, or what refusal 2 or 1 falls on
unfoldable pub head_at : List ℕ → ℕ → Result (Option Head)
head_at sheet at = head_of at (drop at sheet)

unfoldable pub body_of : List ℕ → Result (Option Head) → List ℕ
body_of sheet (ok (some h)) = take h.body_length (drop h.body_offset sheet)
body_of sheet (ok none) = []
body_of sheet (refused number place) = []

-- document 01: the record reader's body, a part of the sheet; empty where no record stands
unfoldable pub body_at : List ℕ → ℕ → List ℕ
body_at sheet at = body_of sheet (head_at sheet at)
