-- The converters of document 02, C-12: every kind 2 into kind 6, and every kind 6 into kind 2.
use Rattle.std.specs.Prelude.{List, [], ◌∷◌, map, Bool, true, ℕ, ◌+◌, eqb}
use Rattle.std.proofs.Math.Option.{none, some}
use Rattle.meaning.specs.Record.{Loop, skip_cycles, Record, work_record, loop_record, end_record, choice_record, next_arm_record, record_length}
use Rattle.meaning.specs.Reader.{Result, ok, require, and_then, read}
use Rattle.meaning.specs.Writer.{Written, store, fit_sheet}

-- of kind 6: "Kind 2 means skip equal to start"; a loop of kind 6 stays as it is
unfoldable pub with_skip : Loop → Loop
with_skip l = record { start = l.start; step = l.step; stride = l.stride; lower = l.lower; upper = l.upper; skip = some (skip_cycles l) }

-- of kind 2
unfoldable pub without_skip : Loop → Loop
without_skip l = record { start = l.start; step = l.step; stride = l.stride; lower = l.lower; upper = l.upper; skip = none }

-- the record with its loop changed; one of another kind stays
unfoldable pub change_loop : (Loop → Loop) → Record → Record
change_loop change (work_record least most) = work_record least most
change_loop change (loop_record l) = loop_record (change l)
change_loop change end_record = end_record
change_loop change choice_record = choice_record
change_loop change next_arm_record = next_arm_record

-- no loop, or one that kind 2 can say
unfoldable pub skips_start : Record → Bool
skips_start (work_record least most) = true
skips_start (loop_record l) = eqb (skip_cycles l) l.start
skips_start end_record = true
skips_start choice_record = true
skips_start next_arm_record = true

-- "every kind 2 into kind 6"
unfoldable pub add_skips : List Record → Result (List Record)
add_skips rs = ok (map (change_loop with_skip) rs)

-- "every kind 6 into kind 2", from `at` on: 10 "at the first loop whose skip differs from its start"
unfoldable pub drop_skips : ℕ → List Record → Result (List Record)
drop_skips at [] = ok []
drop_skips at (r ∷ rs) =
    require (skips_start r) 10 at (and_then (drop_skips (at + record_length r) rs) λ changed. ok (change_loop without_skip r ∷ changed))

-- the new sheet's records, or refusal 1 to 5, then 10
unfoldable pub records_with_skips : List ℕ → Result (List Record)
records_with_skips sheet = and_then (read sheet) add_skips

unfoldable pub records_without_skips : List ℕ → Result (List Record)
records_without_skips sheet = and_then (read sheet) (drop_skips 0)

-- "Both answer the new sheet's length, and bytes past it stay"; 9 comes last
unfoldable pub convert : Result (List Record) → List ℕ → Written
convert changed buffer = store buffer (and_then changed (fit_sheet buffer))

-- document 02: the converter to kind 6, and the one to kind 2
unfoldable pub with_skips : List ℕ → List ℕ → Written
with_skips sheet buffer = convert (records_with_skips sheet) buffer

unfoldable pub without_skips : List ℕ → List ℕ → Written
without_skips sheet buffer = convert (records_without_skips sheet) buffer
