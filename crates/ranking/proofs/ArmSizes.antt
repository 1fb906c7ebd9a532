-- The arms of a ranked loop of a sheet: how many there are, and that their sums are below `value_limit`.
use Rattle.std.proofs.Common.{◌≡◌, ℕ, zero, suc, ◌+◌, ◌<◌, ◌≤◌, List, [], ◌∷◌, ◌++◌, length, get_or, ℤ, refl, ap, ◌∙◌, ap₂, mul-le-mul_left, arith, length-append}
use Rattle.meaning.specs.Limits.{record_limit, cost_limit}
use Rattle.meaning.specs.Record.{work_record, loop_record, end_record, choice_record, next_arm_record, record_length, sheet_length}
use Rattle.meaning.specs.Tree.{Block, Arms, empty, work, loop, choice, last_arm, arm, records, arms_records, height, arms_height}
use Rattle.meaning.specs.Time.{Bounds, exactly, time}
use Rattle.meaning.specs.Range.{Range, inner_ranges}
use Rattle.meaning.specs.Report.{loop_reports, arms_reports}
use Rattle.meaning.specs.Settled.{arm_count}
use Rattle.meaning.proofs.Sound.{Sound, ArmsSound}
use Rattle.meaning.proofs.Trips.{Inside}
use Rattle.meaning.proofs.Reports.{WithinCeiling, within-append}
use Rattle.meaning.proofs.SmallFigures.{record_bound, most-bound}
use Rattle.meaning.proofs.Runs.{least≤most}
use Rattle.meaning.proofs.RankedArms.{arms_times, choices_times}
use Rattle.ranking.specs.Series.{value_limit}
use Rattle.ranking.specs.Settled.{direct_arms}

-- ---- sums below the limit

pub record Below (b : Bounds) : Type 0 where
  pub least_below : b.least < value_limit
  pub most_below : b.most < value_limit

unfoldable pub AllBelow : List Bounds → Type 0
AllBelow [] = Unit {0}
AllBelow (b ∷ bs) = Below b × AllBelow bs

below-append : (xs ys : List Bounds) → AllBelow xs → AllBelow ys → AllBelow (xs ++ ys)
unfolding AllBelow
below-append [] ys h k = k
below-append (x ∷ xs) ys h k = (h.0, below-append xs ys h.1 k)

pub below_at : (bs : List Bounds) (j : ℕ) → AllBelow bs → Below (get_or bs j (exactly 0))
unfolding AllBelow
below_at [] j h = record { least_below = omega arith; most_below = omega arith }
below_at (b ∷ bs) zero h = h.0
below_at (b ∷ bs) (suc j) h = below_at bs j h.1

module _ (ps : List ℤ) where
  -- loops at most three deep, and no more records than a sheet has: 128 * 4,095 * 2,048 ^ 3 is below 2 ^ 52
  arm-small : (b : Block) → Sound b → (ranges : List Range) (indexes : List ℤ) (at : ℕ) → Inside indexes ranges →
      WithinCeiling (loop_reports ps b ranges at) → height b ≤ 3 → length (records b) ≤ record_limit → Below (time ps b indexes)
  arm-small b s ranges indexes at inside within shallow short =
      let bound = most-bound ps b s ranges indexes at 3 inside within shallow in
      let all = mul-le-mul_left (record_bound cost_limit 3) short in
      record { least_below = omega (arith, least≤most b s ps indexes); most_below = omega arith }

  arms-small : (arms : Arms) → ArmsSound arms → (ranges : List Range) (indexes : List ℤ) (at : ℕ) → Inside indexes ranges →
      WithinCeiling (arms_reports ps arms ranges at) → arms_height arms ≤ 3 → length (arms_records arms) ≤ record_limit → AllBelow (arms_times ps arms indexes)
  unfolding AllBelow arms_times Sound loop_reports height records
  arms-small (last_arm b) s ranges indexes at inside within shallow short = (arm-small b s ranges indexes at inside within shallow short, tt)
  arms-small (arm b arms) s ranges indexes at inside within shallow short =
      let after_next_arm = at + sheet_length (records b) + record_length next_arm_record in
      let parts = within-append (loop_reports ps b ranges at) (arms_reports ps arms ranges after_next_arm) within in
      let size = length-append (records b) (next_arm_record ∷ arms_records arms) in (
        arm-small b s.0 ranges indexes at inside parts.0 (omega arith) (omega arith),
        arms-small arms s.1 ranges indexes after_next_arm inside parts.1 (omega arith) (omega arith),
      )

  -- the arms of all choices that stand directly in a body
  pub choices-small : (b : Block) → Sound b → (ranges : List Range) (indexes : List ℤ) (at : ℕ) → Inside indexes ranges →
      WithinCeiling (loop_reports ps b ranges at) → height b ≤ 3 → length (records b) ≤ record_limit → AllBelow (choices_times ps b indexes)
  unfolding AllBelow choices_times Sound loop_reports height records WithinCeiling
  choices-small empty s ranges indexes at inside within shallow short = tt
  choices-small (work least most rest) s ranges indexes at inside within shallow short =
      choices-small rest s.1 ranges indexes (at + record_length (work_record least most)) inside within shallow (omega arith)
  choices-small (loop l body rest) s ranges indexes at inside (ceiling, within) shallow short =
      let after_loop = at + record_length (loop_record l) in
      let after_end = after_loop + sheet_length (records body) + record_length end_record in
      let parts = within-append (loop_reports ps body (inner_ranges ps l ranges) after_loop) (loop_reports ps rest ranges after_end) within in
      let size = length-append (records body) (end_record ∷ records rest) in
      choices-small rest s.2 ranges indexes after_end inside parts.1 (omega arith) (omega arith)
  choices-small (choice arms rest) s ranges indexes at inside within shallow short =
      let after_choice = at + record_length choice_record in
      let after_end = after_choice + sheet_length (arms_records arms) + record_length end_record in
      let parts = within-append (arms_reports ps arms ranges after_choice) (loop_reports ps rest ranges after_end) within in
      let size = length-append (arms_records arms) (end_record ∷ records rest) in
      below-append (arms_times ps arms indexes) (choices_times ps rest indexes)
      (arms-small arms s.0 ranges indexes after_choice inside parts.0 (omega arith) (omega arith))
      (choices-small rest s.1 ranges indexes after_end inside parts.1 (omega arith) (omega arith))

  -- ---- how many there are

  arms-times-length : (arms : Arms) (indexes : List ℤ) → length (arms_times ps arms indexes) ≡ arm_count arms
  unfolding arms_times arm_count
  arms-times-length (last_arm b) indexes = refl
  arms-times-length (arm b arms) indexes = ap suc (arms-times-length arms indexes)

  pub choices-times-length : (b : Block) (indexes : List ℤ) → length (choices_times ps b indexes) ≡ direct_arms b
  unfolding choices_times direct_arms
  choices-times-length empty indexes = refl
  choices-times-length (work least most rest) indexes = choices-times-length rest indexes
  choices-times-length (loop l body rest) indexes = choices-times-length rest indexes
  choices-times-length (choice arms rest) indexes =
      length-append (arms_times ps arms indexes) (choices_times ps rest indexes) ∙ ap₂ ◌+◌ (arms-times-length arms indexes) (choices-times-length rest indexes)
