-- What is said of each loop of a converted sheet is what was said of it before, at the new offset.
use mathlib.Core.Path.{◌≡◌, refl, sym, ap, ◌∙◌, subst}
use mathlib.Core.List.{List, [], ◌∷◌, map}
use Prim.Native.Nat.{ℕ, ◌+◌}
use lib.IntN.{ℤ}
use Rattle.meaning.specs.Record.{Loop, Record, loop_record, choice_record, next_arm_record, record_length, sheet_length}
use Rattle.meaning.specs.Tree.{Block, Arms, empty, work, loop, choice, last_arm, arm, tree, records, arms_records}
use Rattle.meaning.specs.Range.{Range, inner_ranges}
use Rattle.meaning.specs.Place.{after_loop, after_choice}
use Rattle.meaning.specs.Report.{loop_reports, arms_reports}
use Rattle.meaning.specs.Answer.{sheet_reports}
use Rattle.meaning.specs.Converter.{change_loop}
use Rattle.meaning.specs.Moved.{new_offset, moved_report}
use Rattle.meaning.proofs.Accepted.{WellFormed, in-place-formed}
use Rattle.meaning.proofs.SameLoops.{SameLoop}
use Rattle.meaning.proofs.ConvertedTrees.{change_block, change_arms, change_all, tree-changed, ranges-changed, ceiling-changed, class-changed}
use Rattle.meaning.proofs.NewOffsets.{Moves, loop-moves, choice-moves, arm-moves, new-offsets-move}
use Rattle.meaning.proofs.ConvertedReasons.{map-join, reason-moved}

module _ (ps : List ℤ) {change : Loop → Loop} (same : (l : Loop) → SameLoop l (change l)) where
  module _ (place : ℕ → ℕ) where
    mutual
      unfolding loop_reports change_block records arms_records Moves change_loop moved_report

      reports-moved : (b : Block) (ranges : List Range) (at to : ℕ) → Moves change place (records b) at to →
          loop_reports ps (change_block change b) ranges to ≡ map (moved_report place) (loop_reports ps b ranges at)
      reports-moved empty ranges at to m = refl
      reports-moved (work least most rest) ranges at to m = reports-moved rest ranges _ _ m.1
      reports-moved (loop l body rest) ranges at to m =
          let parts = loop-moves change place at to l body rest m in
          let inner = inner_ranges ps l ranges in
          let inside = (λ t. loop_reports ps (change_block change body) (ranges-changed ps same l ranges t) (to + record_length (loop_record (change l))))
          ∙ reports-moved body inner _ _ parts.1 in
          let others = map-join (moved_report place) (loop_reports ps body inner (at + record_length (loop_record l)))
          (loop_reports ps rest ranges (after_loop at l body)) inside (reports-moved rest ranges _ _ parts.2) in
          λ t. record {
            offset = sym parts.0 t;
            class = class-changed ps same l body ranges t;
            ceiling = ceiling-changed ps same l ranges t;
            reason = reason-moved ps same place l body ranges at to parts.0 parts.1 t;
          } ∷ others t
      reports-moved (choice arms rest) ranges at to m =
          let parts = choice-moves change place at to arms rest m in
          map-join (moved_report place) (arms_reports ps arms ranges (at + record_length choice_record)) (loop_reports ps rest ranges (after_choice at arms))
          (arms-reports-moved arms ranges _ _ parts.1) (reports-moved rest ranges _ _ parts.2)

      arms-reports-moved : (arms : Arms) (ranges : List Range) (at to : ℕ) → Moves change place (arms_records arms) at to →
          arms_reports ps (change_arms change arms) ranges to ≡ map (moved_report place) (arms_reports ps arms ranges at)
      arms-reports-moved (last_arm b) ranges at to m = reports-moved b ranges at to m
      arms-reports-moved (arm b arms) ranges at to m =
          let parts = arm-moves change place at to b arms m in
          map-join (moved_report place) (loop_reports ps b ranges at) (arms_reports ps arms ranges (at + sheet_length (records b) + record_length next_arm_record))
          (reports-moved b ranges at to parts.0) (arms-reports-moved arms ranges _ _ parts.1)

  pub sheet-reports-moved : (rs : List Record) → WellFormed rs →
      sheet_reports ps (change_all change rs) ≡ map (moved_report (new_offset rs (change_all change rs))) (sheet_reports ps rs)
  unfolding sheet_reports
  sheet-reports-moved rs w =
      let place : ℕ → ℕ = new_offset rs (change_all change rs) in
      let whole = subst (λ xs. Moves change place xs 0 0) (sym (in-place-formed rs w.in_place).same) (new-offsets-move change rs) in
      ap (λ b. loop_reports ps b [] 0) (tree-changed change rs w) ∙ reports-moved place (tree rs) [] 0 0 whole
