-- How many trips a loop makes at most, and which of them are visited.
use Rattle.std.proofs.Common.{◌≡◌, ℕ, zero, suc, ◌+◌, ◌/◌, ◌^◌, ◌≤◌, min, max, Bool, true, false, cond, ltb, List, refl, arith}
use Rattle.meaning.specs.Limits.{depth_limit, ceiling_limit}
use Rattle.trips.specs.Trips.{trips_over, trips_at, limit_within, visited_by}

module _ (d stride : ℕ) where
  few : (b : Bool) → cond b (min (d / max stride 1 + 1) ceiling_limit) zero ≤ ceiling_limit
  few true = omega arith
  few false = omega arith

  trips-within : trips_over stride d ≤ ceiling_limit
  unfolding trips_over
  trips-within = few (ltb d (2 ^ 63))

module _ (differences counters : List ℕ) (number : ℕ) where
  -- a loop makes no more trips than the ceiling's limit
  pub trips-few : trips_at differences counters number ≤ ceiling_limit
  unfolding trips_at
  trips-few = trips-within _ _

-- ---- the limit

-- with the loops around it, it is at most the depth limit
pub limit-few : (limits : List ℕ) (number depth : ℕ) (walked : Bool) → depth ≤ depth_limit → cond walked 0 (limit_within limits number depth) + depth ≤ depth_limit
unfolding limit_within
limit-few limits number depth true h = omega arith
limit-few limits number depth false h = omega arith

-- ---- visited trips

pub closed-visits : (limit n : ℕ) → (limit ≡ 0 → ⊥) → min n limit ≡ visited_by limit n
unfolding visited_by
closed-visits zero n h = absurd (h refl)
closed-visits (suc limit) n h = refl
