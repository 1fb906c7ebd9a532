-- What the results of the code are in the words of document 01.
use Rattle.std.specs.Prelude.{List, ◌++◌, map, ℕ, ◌+◌, ◌-◌, length, replicate}
use Rattle.std.proofs.Math.Option.{Option, none, some}
use Rattle.meaning.specs.Limits.{record_limit}
use Rattle.meaning.specs.Record as M
use Rattle.meaning.specs.Record.{record_length, open_loop}
use Rattle.meaning.specs.Reader.{Result, ok, refused, require, Accepted, Head}
use Rattle.std.specs.Prelude as prelude
use Rattle.std.specs.Prelude.{Some, None, Ok, Err}
use Rattle.sheet.specs.declared.head.Head as code
use Rattle.sheet.specs.declared.refusal.Refusal.{Refusal}
use Rattle.sheet.specs.declared.nesting.Nesting.{Nesting}
use Rattle.sheet.specs.declared.nesting.AcceptedRecord.{AcceptedRecord}
use Rattle.records.specs.declared.Record.{Record}
use Rattle.sheet.specs.Refusals.{refusal_number}
use Rattle.sheet.specs.Sheets.{records_in}
use Rattle.records.specs.View.{blank_record, record_in}
use Rattle.sheet.specs.Nestings.{nesting_of, fields_pass, nesting_after, may_stand_in}

-- a result of the code as document 01 has it: the value, or a refusal with its number and its place
abbrev pub refusable : {A : Type 0} → prelude.Result A Refusal → Result A
refusable (Ok a) = ok a
refusable (Err r) = refused (refusal_number r.kind) r.offset

-- the record reader's answer: a head, the end, or a refusal
abbrev pub HeadResult : Type 0
HeadResult = prelude.Result (prelude.Option code.Head) Refusal

abbrev pub head_result : HeadResult → Result (Option Head)
head_result (Ok (Some h)) = ok (some (record { kind_number = h.kind; body_offset = h.offset; body_length = h.length }))
head_result (Ok None) = ok none
head_result (Err r) = refused (refusal_number r.kind) r.offset

-- what the code keeps of an accepted record: its length, and what is open after it
unfoldable pub accepted_of : Result Accepted → Result AcceptedRecord
accepted_of (ok a) = ok (record { length = record_length a.accepted; after = nesting_of a.after })
accepted_of (refused number place) = refused number place

-- refusals 3 and 5, in this order, of a record that would stand at `at`, for any three numbers of what is open: to the fields only the number of
-- loops around the record matters
unfoldable pub accept_in : ℕ → Nesting → ℕ → List ℕ → Result AcceptedRecord
accept_in at here kind body =
    require (fields_pass (replicate here.depth open_loop) kind body) 3 at
    (require (may_stand_in here kind) 5 at (ok (record { length = 1 + length body; after = nesting_after here kind })))

-- how many records there are, or the refusal
unfoldable pub counted : Result (List M.Record) → Result ℕ
counted (ok rs) = ok (length rs)
counted (refused number place) = refused number place

-- a count, or 0 for a refusal
unfoldable pub or_zero : Result ℕ → ℕ
or_zero (ok n) = n
or_zero (refused number place) = 0

-- the records, and blank ones up to the limit
unfoldable pub with_blanks : Result (List M.Record) → List Record
with_blanks r = map record_in (records_in r) ++ replicate (record_limit - length (records_in r)) (blank_record 0)
