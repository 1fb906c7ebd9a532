-- Visits, by the definition.
use Rattle.std.specs.Prelude.{List, cond, ℕ, zero, suc, ◌+◌, min, ℤ}
use Rattle.meaning.specs.Record.{Loop}
use Rattle.meaning.specs.Tree.{Block, Arms, empty, work, loop, choice, last_arm, arm, height}
use Rattle.meaning.specs.Time.{trips, inner_indexes}
use Rattle.meaning.specs.Range.{Range, inner_ranges}
use Rattle.meaning.specs.Settled.{summed}

-- f 0 + .. + f (n - 1)
unfoldable pub count_over : ℕ → (ℕ → ℕ) → ℕ
count_over zero f = zero
count_over (suc n) f = count_over n f + f n

module _ (parameters : List ℤ) where
  -- document 01: visits of an entry: for each trip visited, 1 plus those of the body; all arms count. `visited` is how many of n trips of an
  -- entered loop are visited
  module _ (visited : Loop → Block → List Range → List ℤ → ℕ → ℕ) where
    unfoldable mutual
      pub visits_by : Block → List Range → List ℤ → ℕ
      visits_by empty ranges indexes = zero
      visits_by (work least most rest) ranges indexes = visits_by rest ranges indexes
      visits_by (loop l body rest) ranges indexes =
          count_over (visited l body ranges indexes (trips parameters l indexes))
          (λ trip. suc (visits_by body (inner_ranges parameters l ranges) (inner_indexes parameters l indexes trip)))
          + visits_by rest ranges indexes
      visits_by (choice arms rest) ranges indexes = arms_visits_by arms ranges indexes + visits_by rest ranges indexes

      pub arms_visits_by : Arms → List Range → List ℤ → ℕ
      arms_visits_by (last_arm b) ranges indexes = visits_by b ranges indexes
      arms_visits_by (arm b arms) ranges indexes = visits_by b ranges indexes + arms_visits_by arms ranges indexes

  -- the first min(n, height + 1) where the rest is summed, otherwise all
  unfoldable pub visited_trips : Loop → Block → List Range → List ℤ → ℕ → ℕ
  visited_trips l body ranges indexes n = cond (summed parameters l body ranges indexes n) (min n (suc (height body))) n

  abbrev pub visits : Block → List Range → List ℤ → ℕ
  visits = visits_by visited_trips

  abbrev pub arms_visits : Arms → List Range → List ℤ → ℕ
  arms_visits = arms_visits_by visited_trips
