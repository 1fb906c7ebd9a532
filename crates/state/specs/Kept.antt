-- The trips kept of the open closed loops, and of a ranked one in its first trips. A loop has room for as many as there can be loops inside it.
use Rattle.std.specs.Prelude.{ℕ, zero, suc, ◌+◌, ◌-◌, ◌*◌, ◌/◌, ◌%◌, ◌^◌, min, List, [], ◌∷◌, map, slice_index_or, slice_set}
use Rattle.whole.specs.Integer.{floor_remainder}
use Rattle.meaning.specs.Limits.{depth_limit}
use Rattle.newton.specs.Weights.{weights_of, weighted_sum}
use Rattle.state.specs.declared.bounds.Bounds.{Bounds}
use Rattle.state.specs.Bounds.{bounds, no_bounds}
use Rattle.state.specs.Open.{blanked}

-- how many trips a loop with so many loops around it has room for
abbrev pub kept_room : ℕ → ℕ
kept_room depth = depth_limit - 1 - depth

-- where they begin: behind those of the loops around it
unfoldable pub kept_from : ℕ → ℕ
kept_from depth = depth * (2 * depth_limit - 1 - depth) / 2

-- the open trip is kept, `held` trips before it
unfoldable pub trip_kept : List Bounds → ℕ → ℕ → Bounds → List Bounds
trip_kept kept depth held trip = slice_set kept (kept_from depth + held) trip

-- how many trips of a closed or ranked loop are held before the open one: the trips begun before it, one less than the limit at most
unfoldable pub held_trips : ℕ → ℕ → ℕ
held_trips limit counter = min counter (limit - 1)

-- trips of a loop with so many loops around it
module _ (kept : List Bounds) (depth : ℕ) where
  -- a kept one, by its number from 0 on
  unfoldable pub kept_trip : ℕ → Bounds
  kept_trip number = slice_index_or kept (kept_from depth + number) no_bounds

  -- the least or the most of so many kept ones, added up
  unfoldable pub kept_total : (Bounds → ℕ) → ℕ → ℕ
  kept_total figure zero = 0
  kept_total figure (suc held) = kept_total figure held + figure (kept_trip held)

  -- both, modulo 2^64
  abbrev pub kept_sum : ℕ → Bounds
  kept_sum held = bounds (kept_total (λ b. b.least) held % 2 ^ 64) (kept_total (λ b. b.most) held % 2 ^ 64)

  -- the first trips: `held` kept ones, then the open one; four in all
  unfoldable pub first_trips : ℕ → Bounds → List Bounds
  first_trips zero last = last ∷ no_bounds ∷ no_bounds ∷ no_bounds ∷ []
  first_trips (suc zero) last = kept_trip 0 ∷ last ∷ no_bounds ∷ no_bounds ∷ []
  first_trips (suc (suc zero)) last = kept_trip 0 ∷ kept_trip 1 ∷ last ∷ no_bounds ∷ []
  first_trips (suc (suc (suc held))) last = kept_trip 0 ∷ kept_trip 1 ∷ kept_trip 2 ∷ last ∷ []

-- equations 3 and 4 of document 003, modulo 2^64: the sum of n trips from the first ones, of which `held` are kept
unfoldable pub trips_sum : ℕ → ℕ → List ℕ → ℕ
trips_sum n held trips = floor_remainder (weighted_sum (weights_of n (held + 1)) trips) (2 ^ 64)

-- the least and the most of that sum
abbrev pub trips_bounds : ℕ → ℕ → List Bounds → Bounds
trips_bounds n held trips = bounds (trips_sum n held (map (λ b. b.least) trips)) (trips_sum n held (map (λ b. b.most) trips))

-- the kept trips of a loop that is left
unfoldable pub forgotten : List Bounds → ℕ → ℕ → List Bounds
forgotten kept depth held = blanked no_bounds kept (kept_from depth) held
