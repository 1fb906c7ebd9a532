-- A loop's trips, from the counters of the loops around it, and how many of them are visited.
use Rattle.std.specs.Prelude.{ℕ, zero, suc, ◌+◌, ◌-◌, ◌*◌, ◌/◌, ◌%◌, ◌^◌, min, max, cond, ◌&&◌, List, nat_le, nat_lt, slice_index}
use Rattle.meaning.specs.Limits.{depth_limit, ceiling_limit}
use Rattle.layout.specs.Loops.{stride_at, base_at, push_word_at, limit_at, ranked_at}

-- the trips at a D: none where it is negative; a stride 0 counts as 1; more than a loop of an answered sheet makes are cut off
unfoldable pub trips_over : ℕ → ℕ → ℕ
trips_over stride d = cond (nat_lt d (2 ^ 63)) (min (d / max stride 1 + 1) ceiling_limit) zero

-- of the loop with this number among the loops
module _ (differences counters : List ℕ) (number : ℕ) where
  -- what a trip of the loop with m loops around it adds to D, times its counter
  abbrev pub pushed : ℕ → ℕ
  pushed m = push_word_at differences number m * slice_index counters m

  -- D, in two's complement
  unfoldable pub difference_word : ℕ
  difference_word = (base_at differences number + (pushed 0 + (pushed 1 + pushed 2))) % 2 ^ 64

  unfoldable pub trips_at : ℕ
  trips_at = trips_over (stride_at differences number) difference_word

-- how many trips a closed or ranked loop with so many loops around it visits at most where the rest is summed; 0 where it is walked. Its height and
-- these are below the depth limit.
unfoldable pub limit_within : List ℕ → ℕ → ℕ → ℕ
limit_within limits number depth = min (limit_at limits number) (depth_limit - depth)

-- the same at the trip that the counter counts: a ranked loop in a trip after its first ones is walked
unfoldable pub limit_now : List ℕ → ℕ → ℕ → ℕ → ℕ
limit_now limits number depth counter =
    let limit : ℕ = limit_within limits number depth in
    cond (ranked_at limits number && nat_le limit counter) 0 limit

-- how many of n trips are visited: all of a walked loop's
unfoldable pub visited_by : ℕ → ℕ → ℕ
visited_by zero n = n
visited_by (suc limit) n = min n (suc limit)
