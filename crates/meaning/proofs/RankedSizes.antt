-- What a ranked loop keeps is little: how many arms its choices may have.
use mathlib.Core.List.{List, ◌∷◌}
use Prim.Native.Nat.{ℕ, zero, suc, ◌+◌, ◌*◌, ◌-◌, ◌≤◌, ◌<◌}
use native.Mathlib.Omega.{arith}
use lib.IntN.{ℤ}
use lib.ListN.{length, length-append}
use Rattle.meaning.specs.Limits.{record_limit, depth_limit}
use Rattle.meaning.specs.Record.{end_record, next_arm_record}
use Rattle.meaning.specs.Tree.{Block, Arms, empty, work, loop, choice, last_arm, arm, records, arms_records, height, arms_height}
use Rattle.meaning.proofs.RankedArms.{arms_times, choices_times}

-- the choices that stand directly in a body
unfoldable pub choice_count : Block → ℕ
choice_count empty = zero
choice_count (work least most rest) = choice_count rest
choice_count (loop l body rest) = choice_count rest
choice_count (choice arms rest) = suc (choice_count rest)

mutual
  unfolding height records

  -- a loop has a record of its own and an end
  height-records : (b : Block) → 2 * height b ≤ length (records b)
  height-records empty = omega arith
  height-records (work least most rest) = omega (arith, height-records rest)
  height-records (loop l body rest) = omega (arith, height-records body, height-records rest, length-append (records body) (end_record ∷ records rest))
  height-records (choice arms rest) = omega (arith, arms-height-records arms, height-records rest, length-append (arms_records arms) (end_record ∷ records rest))

  arms-height-records : (arms : Arms) → 2 * arms_height arms ≤ length (arms_records arms)
  arms-height-records (last_arm b) = height-records b
  arms-height-records (arm b arms) = omega (arith, height-records b, arms-height-records arms, length-append (records b) (next_arm_record ∷ arms_records arms))

module _ (ps : List ℤ) where
  -- the arms of a choice: one, and one for each next arm
  arms-records : (arms : Arms) (indexes : List ℤ) → length (arms_times ps arms indexes) + 2 * arms_height arms ≤ suc (length (arms_records arms))
  unfolding arms_times height records
  arms-records (last_arm b) indexes = omega (arith, height-records b)
  arms-records (arm b arms) indexes = omega (arith, height-records b, arms-records arms indexes, length-append (records b) (next_arm_record ∷ arms_records arms))

  -- the arms kept of one trip, by the body's records: a choice's arms, itself, and two for each loop of the height
  pub arms-few : (b : Block) (indexes : List ℤ) → length (choices_times ps b indexes) + choice_count b + 2 * height b ≤ length (records b)
  unfolding choices_times choice_count height records
  arms-few empty indexes = omega arith
  arms-few (work least most rest) indexes = omega (arith, arms-few rest indexes)
  arms-few (loop l body rest) indexes = omega (arith, height-records body, arms-few rest indexes, length-append (records body) (end_record ∷ records rest))
  arms-few (choice arms rest) indexes =
      omega (
        arith,
        arms-records arms indexes,
        arms-few rest indexes,
        length-append (arms_times ps arms indexes) (choices_times ps rest indexes),
        length-append (arms_records arms) (end_record ∷ records rest),
      )

  -- where there is an arm there is a choice
  pub arms-choices : (b : Block) (indexes : List ℤ) → 1 ≤ length (choices_times ps b indexes) → 1 ≤ choice_count b
  unfolding choices_times choice_count
  arms-choices empty indexes h = h
  arms-choices (work least most rest) indexes h = arms-choices rest indexes h
  arms-choices (loop l body rest) indexes h = arms-choices rest indexes h
  arms-choices (choice arms rest) indexes h = omega arith

  -- so the arms of a loop of a sheet leave room for its own two records, a choice's and two for each loop of the height
  pub arms-in-sheet : (b : Block) (indexes : List ℤ) → 2 + length (records b) ≤ record_limit → 1 ≤ length (choices_times ps b indexes) →
      length (choices_times ps b indexes) + 2 * height b + 3 ≤ record_limit
  arms-in-sheet b indexes small some = omega (arith, arms-few b indexes, arms-choices b indexes some)

-- so many arms in each of the first height + 1 trips: most where the height is greatest
pub arms-kept-few : (arms h : ℕ) → arms + 2 * h + 3 ≤ record_limit → h < depth_limit → suc h * arms ≤ depth_limit * (record_limit - 9)
arms-kept-few arms zero few small = omega arith
arms-kept-few arms (suc zero) few small = omega arith
arms-kept-few arms (suc (suc zero)) few small = omega arith
arms-kept-few arms (suc (suc (suc zero))) few small = omega arith
arms-kept-few arms (suc (suc (suc (suc h)))) few small = absurd (omega arith)
