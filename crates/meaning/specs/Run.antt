-- Runs: what the works and choices of a tree may come to.
use Rattle.std.specs.Prelude.{◌≡◌, List, ◌⊎◌, ℕ, zero, suc, ◌+◌, ◌≤◌, ℤ}
use Rattle.meaning.specs.Tree.{Block, Arms, empty, work, loop, choice, last_arm, arm}
use Rattle.meaning.specs.Time.{entry_cost, trips, inner_indexes}

-- trips 0 to n - 1 in turn take so many cycles: each a run of its own of the body (`Body trip`), and one step
unfoldable pub TripsRun : ℕ → (ℕ → ℕ → Type 0) → ℕ → ℕ → Type 0
TripsRun step Body zero cycles = cycles ≡ 0
TripsRun step Body (suc n) cycles = (before last : ℕ) × TripsRun step Body n before × Body n last × (cycles ≡ before + (last + step))

module _ (parameters : List ℤ) where
  -- document 01: run. Some run of the tree takes so many cycles.
  unfoldable mutual
    pub Run : Block → List ℤ → ℕ → Type 0
    Run empty indexes cycles = cycles ≡ 0
    Run (work least most rest) indexes cycles =
        (taken after : ℕ) × (least ≤ taken) × (taken ≤ most) × Run rest indexes after × (cycles ≡ taken + after)
    Run (loop l body rest) indexes cycles =
        (taken after : ℕ) × TripsRun l.step (λ trip. Run body (inner_indexes parameters l indexes trip)) (trips parameters l indexes) taken
        × Run rest indexes after × (cycles ≡ entry_cost l (trips parameters l indexes) + taken + after)
    Run (choice arms rest) indexes cycles = (taken after : ℕ) × ArmRun arms indexes taken × Run rest indexes after × (cycles ≡ taken + after)

    -- a run of one of the arms
    pub ArmRun : Arms → List ℤ → ℕ → Type 0
    ArmRun (last_arm b) indexes cycles = Run b indexes cycles
    ArmRun (arm b arms) indexes cycles = Run b indexes cycles ⊎ ArmRun arms indexes cycles
