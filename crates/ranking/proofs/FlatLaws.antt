-- The arms of trips, one after the other, keep their sums; what stands after them does not matter.
use Rattle.std.proofs.Common.{◌≡◌, ℕ, zero, suc, ◌+◌, ◌*◌, ◌<◌, ◌≤◌, List, [], ◌∷◌, ◌++◌, length, get_or, sym, refl, ap, ◌∙◌, append_assoc, append-nil, arith, get_or-append-add}
use lib.ListN.{get_or-append}
use Rattle.state.specs.declared.bounds.Bounds.{Bounds as ArmBounds}
use Rattle.state.specs.Bounds.{no_bounds}
use Rattle.meaning.specs.Time.{Bounds, exactly}
use Rattle.ranking.specs.Series.{value_limit}
use Rattle.ranking.specs.Settled.{trip_arms_limit, arm_in, bounds_of, arms_bounds, trips_arms, sums_at, Kept}

pub arms-bounds-length : (bs : List Bounds) → length (arms_bounds bs) ≡ length bs
arms-bounds-length [] = refl
arms-bounds-length (b ∷ bs) = ap suc (arms-bounds-length bs)

arm-at : (bs : List Bounds) (j : ℕ) → get_or (arms_bounds bs) j no_bounds ≡ bounds_of (get_or bs j (exactly 0))
arm-at [] j = refl
arm-at (b ∷ bs) zero = refl
arm-at (b ∷ bs) (suc j) = arm-at bs j

module _ (arms_per_trip : ℕ) (rest : List ArmBounds) where
  arms-kept : (trips : List (List Bounds)) → ((t : ℕ) → t < length trips → length (get_or trips t []) ≡ arms_per_trip) → (t j : ℕ) → t < length trips → j < arms_per_trip →
      arm_in (trips_arms trips ++ rest) arms_per_trip t j ≡ bounds_of (sums_at trips t j)
  unfolding trips_arms arm_in
  arms-kept [] even t j h k = absurd (omega arith)
  arms-kept (sums ∷ trips) even zero j h k =
      let e : 0 * arms_per_trip + j ≡ j = omega arith in
      let size = even 0 (omega arith) in
      ap (λ n. get_or ((arms_bounds sums ++ trips_arms trips) ++ rest) n no_bounds) e
      ∙ ap (λ l. get_or l j no_bounds) (append_assoc (arms_bounds sums) (trips_arms trips) rest)
      ∙ get_or-append (arms_bounds sums) (trips_arms trips ++ rest) no_bounds j (omega (arith, arms-bounds-length sums))
      ∙ arm-at sums j
  arms-kept (sums ∷ trips) even (suc t) j h k =
      let size = even 0 (omega arith) in
      let e : suc t * arms_per_trip + j ≡ length (arms_bounds sums) + (t * arms_per_trip + j) = omega (arith, arms-bounds-length sums) in
      ap (λ n. get_or ((arms_bounds sums ++ trips_arms trips) ++ rest) n no_bounds) e
      ∙ ap (λ l. get_or l (length (arms_bounds sums) + (t * arms_per_trip + j)) no_bounds) (append_assoc (arms_bounds sums) (trips_arms trips) rest)
      ∙ get_or-append-add (arms_bounds sums) (trips_arms trips ++ rest) (t * arms_per_trip + j) no_bounds
      ∙ arms-kept trips (λ u i. even (suc u) (omega arith)) t j (omega arith) k

-- the trips' arms, with any others after them
pub kept-arms : (arms_per_trip : ℕ) (trips : List (List Bounds)) (rest : List ArmBounds) → length trips ≤ 4 → arms_per_trip ≤ trip_arms_limit →
    ((t : ℕ) → t < length trips → length (get_or trips t []) ≡ arms_per_trip) →
    ((t j : ℕ) → t < length trips → j < arms_per_trip → (sums_at trips t j).least < value_limit) →
    ((t j : ℕ) → t < length trips → j < arms_per_trip → (sums_at trips t j).most < value_limit) →
    Kept (trips_arms trips ++ rest) arms_per_trip trips
kept-arms arms_per_trip trips rest few_trips few_arms even least_small most_small = record {
  few_trips = few_trips;
  few_arms = few_arms;
  kept = arms-kept arms_per_trip rest trips even;
  least_small = least_small;
  most_small = most_small;
}

-- the arms of the visited trips, and after them those of the open one
pub trips-arms-last : (visited : List (List Bounds)) (last : List Bounds) → trips_arms (visited ++ (last ∷ [])) ≡ trips_arms visited ++ arms_bounds last
unfolding trips_arms
trips-arms-last [] last = append-nil (arms_bounds last)
trips-arms-last (sums ∷ visited) last =
    ap (λ xs. arms_bounds sums ++ xs) (trips-arms-last visited last) ∙ sym (append_assoc (arms_bounds sums) (trips_arms visited) (arms_bounds last))
