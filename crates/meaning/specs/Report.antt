-- What is said of each loop, in sheet order: its offset, whether it is closed, ranked or walked, its ceiling, and why it is not closed.
use Rattle.std.specs.Prelude.{List, [], ◌∷◌, ◌++◌, Bool, true, false, ◌&&◌, ℕ, ◌+◌, ℤ, ltb}
use Rattle.std.proofs.Math.Option.{Option, none, some}
use Rattle.meaning.specs.Limits.{ceiling_limit}
use Rattle.meaning.specs.Record.{Loop, work_record, loop_record, choice_record, next_arm_record, record_length, sheet_length}
use Rattle.meaning.specs.Tree.{Block, Arms, empty, work, loop, choice, last_arm, arm, records}
use Rattle.meaning.specs.Place.{after_loop, after_choice}
use Rattle.meaning.specs.Range.{Range, inner_ranges, ceiling}
use Rattle.meaning.specs.Closed.{LoopClass, is_closed, loop_class}
use Rattle.meaning.specs.Reason.{Reason, reason_of}

pub record LoopReport : Type 0 where
  pub offset : ℕ
  pub class : LoopClass
  pub ceiling : ℕ
  pub reason : Option Reason

module _ (parameters : List ℤ) where
  -- of the loop at an offset
  abbrev pub report_of : Loop → Block → List Range → ℕ → LoopReport
  report_of l body ranges at = record {
    offset = at;
    class = loop_class parameters l body ranges;
    ceiling = ceiling parameters l ranges;
    reason = reason_of parameters l body ranges at;
  }

  -- the loops of a tree whose records stand at `at`
  unfoldable mutual
    pub loop_reports : Block → List Range → ℕ → List LoopReport
    loop_reports empty ranges at = []
    loop_reports (work least most rest) ranges at = loop_reports rest ranges (at + record_length (work_record least most))
    loop_reports (loop l body rest) ranges at =
        report_of l body ranges at
        ∷ (loop_reports body (inner_ranges parameters l ranges) (at + record_length (loop_record l)) ++ loop_reports rest ranges (after_loop at l body))
    loop_reports (choice arms rest) ranges at =
        arms_reports arms ranges (at + record_length choice_record) ++ loop_reports rest ranges (after_choice at arms)

    pub arms_reports : Arms → List Range → ℕ → List LoopReport
    arms_reports (last_arm b) ranges at = loop_reports b ranges at
    arms_reports (arm b arms) ranges at =
        loop_reports b ranges at ++ arms_reports arms ranges (at + sheet_length (records b) + record_length next_arm_record)

unfoldable pub or_else : Bool → ℕ → Option ℕ → Option ℕ
or_else true offset later = some offset
or_else false offset later = later

-- the offset of the first loop whose ceiling is above the limit
unfoldable pub first_over_ceiling : List LoopReport → Option ℕ
first_over_ceiling [] = none
first_over_ceiling (r ∷ rs) = or_else (ltb ceiling_limit r.ceiling) r.offset (first_over_ceiling rs)

unfoldable pub all_closed : List LoopReport → Bool
all_closed [] = true
all_closed (r ∷ rs) = is_closed r.class && all_closed rs
