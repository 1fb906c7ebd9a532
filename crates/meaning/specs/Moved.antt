-- What document 02 promises of a converted sheet: the answers of the old one, at each record's new offset; and the way back (C-12).
use Rattle.std.specs.Prelude.{◌≡◌, List, [], ◌∷◌, map, Bool, not, cond, ℕ, zero, suc, ◌-◌, ◌≤◌, ℤ, ltb, eqb, length, take}
use Rattle.std.proofs.Math.Option
use Rattle.meaning.specs.Record.{Kind, loop_kind, Record, kind, record_length, sheet_length}
use Rattle.meaning.specs.Reader.{Result, ok, refused, read}
use Rattle.meaning.specs.Writer.{Written, store}
use Rattle.meaning.specs.Reason.{Reason, holds_loop, too_few_trips, uneven_in}
use Rattle.meaning.specs.Report.{LoopReport}
use Rattle.meaning.specs.ReasonsTold.{Each}
use Rattle.meaning.specs.Answer.{Figures, sheet_reports, answer}

-- how many of the records stand before an offset
unfoldable pub record_number : List Record → ℕ → ℕ
record_number [] at = zero
record_number (r ∷ rs) at = cond (ltb at (record_length r)) zero (suc (record_number rs (at - record_length r)))

-- the offset among the new records of the record that stands at an offset among the old
unfoldable pub new_offset : (old new : List Record) → ℕ → ℕ
new_offset old new at = sheet_length (take (record_number old at) new)

-- where `place` says the new offset of each: a refusal 6, whose place is a record's
unfoldable pub moved_answer : (ℕ → ℕ) → Result Figures → Result Figures
moved_answer place (ok f) = ok f
moved_answer place (refused number at) = refused number (cond (eqb number 6) (place at) at)

-- a reason
unfoldable pub moved_reason : (ℕ → ℕ) → Reason → Reason
moved_reason place (holds_loop c) = holds_loop (place c)
moved_reason place (too_few_trips k) = too_few_trips (place k)
moved_reason place (uneven_in k m) = uneven_in (place k) (place m)

-- what is said of a loop: closed or not, with the same ceiling
unfoldable pub moved_report : (ℕ → ℕ) → LoopReport → LoopReport
moved_report place r = record {
  offset = place r.offset;
  class = r.class;
  ceiling = r.ceiling;
  reason = Option.map (moved_reason place) r.reason;
}

-- the sheet `new` says what `old` says: at all parameters and budgets the same figures, visits and refusals, 6 at the same record, and the same of each loop
pub record SameSheet (old new : List ℕ) : Type 0 where
  pub old_records : List Record
  pub new_records : List Record
  pub old_read : read old ≡ ok old_records
  pub new_read : read new ≡ ok new_records
  pub same_answer : (parameters : List ℤ) (budget : ℕ) →
      answer new parameters budget ≡ moved_answer (new_offset old_records new_records) (answer old parameters budget)
  pub same_reports : (parameters : List ℤ) →
      sheet_reports parameters new_records ≡ map (moved_report (new_offset old_records new_records)) (sheet_reports parameters old_records)

-- no record is of this kind
abbrev pub Without : Kind → List Record → Type 0
Without k rs = Each (λ r. ¬ (kind r ≡ k)) rs

-- every loop of `new` has a skip, or none has; and "there-and-back returns the old bytes of a sheet that has no" such loop, where the other converter has
-- room for them
pub record Turned (has_skip : Bool) (back : List ℕ → List ℕ → Written) (old new : List ℕ) : Type 0 where
  pub every_loop : (rs : List Record) → read new ≡ ok rs → Without (loop_kind (not has_skip)) rs
  pub comes_back : (rs : List Record) → read old ≡ ok rs → Without (loop_kind has_skip) rs → (buffer : List ℕ) → length old ≤ length buffer →
      back new buffer ≡ store buffer (ok old)
