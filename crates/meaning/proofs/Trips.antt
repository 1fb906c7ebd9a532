-- The words in which the theorems speak of a loop's trips: indexes inside their ranges, one trip's time and visits; and what so many trips come to at most.
use mathlib.Core.List.{List, [], ◌∷◌}
use Prim.Native.Nat.{ℕ, zero, suc, ◌*◌, ◌≤◌, ◌<◌}
use native.Mathlib.Nat.{add-mul}
use native.Mathlib.Omega.{arith}
use lib.IntN.{ℤ}
use lib.Signed.{◌≤ℤ◌}
use Rattle.meaning.specs.Record.{Loop}
use Rattle.meaning.specs.Tree.{Block}
use Rattle.meaning.specs.Time.{Bounds, exactly, ◌⊕◌, inner_indexes, time}
use Rattle.meaning.specs.Range.{Range, inner_ranges}
use Rattle.meaning.specs.Visits.{count_over, visits}

-- each index lies in its range
unfoldable pub Inside : List ℤ → List Range → Type 0
Inside [] [] = Unit {0}
Inside [] (r ∷ rs) = ⊥
Inside (x ∷ xs) [] = ⊥
Inside (x ∷ xs) (r ∷ rs) = (r.lo ≤ℤ x) × (x ≤ℤ r.hi) × Inside xs rs

-- n amounts, each at most c
pub count-over-bound : (n : ℕ) (f : ℕ → ℕ) (c : ℕ) → ((k : ℕ) → k < n → f k ≤ c) → count_over n f ≤ n * c
unfolding count_over
count-over-bound zero f c h = omega arith
count-over-bound (suc n) f c h =
    let i = count-over-bound n f c (λ k l. h k (omega arith)) in
    let j = h n (omega arith) in
    omega (arith, add-mul n 1 c)

module _ (parameters : List ℤ) where
  -- the time of one trip: the body and one step
  abbrev pub trip_time : Loop → Block → List ℤ → ℕ → Bounds
  trip_time l body indexes trip = time parameters body (inner_indexes parameters l indexes trip) ⊕ exactly l.step

  -- the visits of one visited trip
  abbrev pub trip_visits : Loop → Block → List Range → List ℤ → ℕ → ℕ
  trip_visits l body ranges indexes trip = suc (visits parameters body (inner_ranges parameters l ranges) (inner_indexes parameters l indexes trip))
