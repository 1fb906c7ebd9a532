-- What the reader's tests leave true of a tree: works ordered and small, loops with a stride and small costs.
use Prim.Native.Nat.{ℕ, ◌≤◌}
use Rattle.meaning.specs.Limits.{cost_limit}
use Rattle.meaning.specs.Record.{Loop, stride_size}
use Rattle.meaning.specs.Tree.{Block, Arms, empty, work, loop, choice, last_arm, arm}
use Rattle.meaning.specs.Time.{entry_cost}

pub record WorkSound (least most : ℕ) : Type 0 where
  pub ordered : least ≤ most
  pub most_small : most ≤ cost_limit

pub record LoopSound (l : Loop) : Type 0 where
  pub moves : 1 ≤ stride_size l
  pub entry_small : (trips : ℕ) → entry_cost l trips ≤ cost_limit
  pub step_small : l.step ≤ cost_limit

unfoldable mutual
  pub Sound : Block → Type 0
  Sound empty = Unit {0}
  Sound (work least most rest) = WorkSound least most × Sound rest
  Sound (loop l body rest) = LoopSound l × Sound body × Sound rest
  Sound (choice arms rest) = ArmsSound arms × Sound rest

  pub ArmsSound : Arms → Type 0
  ArmsSound (last_arm b) = Sound b
  ArmsSound (arm b arms) = Sound b × ArmsSound arms
