-- The arms kept of the open ranked loop: how many, then each, in the order in which they are passed.
use Rattle.std.specs.Prelude.{ℕ, suc, ◌%◌, min, cond, nat_lt, slice_index_or, slice_set}
use Rattle.state.specs.declared.bounds.Bounds.{Bounds}
use Rattle.state.specs.declared.open.Arms.{Arms}
use Rattle.state.specs.Bounds.{no_bounds}
use Rattle.state.specs.Open.{kept_arms_limit, blanked}

module _ (arms : Arms) where
  -- how many arms are kept
  unfoldable pub arm_count_in : ℕ
  arm_count_in = min arms.count kept_arms_limit

  -- one of them
  unfoldable pub arm_at : ℕ → Bounds
  arm_at number = slice_index_or arms.bounds (number % kept_arms_limit) no_bounds

  -- one more arm is kept, where there is room for it
  unfoldable pub arm_kept : Bounds → Arms
  arm_kept arm =
      cond (nat_lt arm_count_in kept_arms_limit) (record { count = suc arm_count_in; bounds = slice_set arms.bounds arm_count_in arm }) arms

  -- no arm is kept
  unfoldable pub arms_dropped : Arms
  arms_dropped = record { count = 0; bounds = blanked no_bounds arms.bounds 0 arm_count_in }
