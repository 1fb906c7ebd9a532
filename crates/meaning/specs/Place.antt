-- Places in a sheet: what follows a loop or a choice.
use Rattle.std.specs.Prelude.{ℕ, ◌+◌}
use Rattle.meaning.specs.Record.{Loop, loop_record, end_record, choice_record, record_length, sheet_length}
use Rattle.meaning.specs.Tree.{Block, Arms, records, arms_records}

-- the offset after the end of a loop that stands at an offset
abbrev pub after_loop : ℕ → Loop → Block → ℕ
after_loop at l body = at + record_length (loop_record l) + sheet_length (records body) + record_length end_record

-- the same of a choice
abbrev pub after_choice : ℕ → Arms → ℕ
after_choice at arms = at + record_length choice_record + sheet_length (arms_records arms) + record_length end_record
