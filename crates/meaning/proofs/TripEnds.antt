-- What the stages find at the end of a visited trip: whether a further one is visited, and where the loop is left, the sum of its trips and the arms.
use mathlib.Core.Path.{◌≡◌, refl, sym, ap, ◌∙◌, subst}
use mathlib.Core.List.{List, [], ◌∷◌, ◌++◌}
use mathlib.Core.Bool.{Bool, true, false, ◌&&◌, ◌||◌, cond, true≢false}
use mathlib.Core.Logic.{◌⊎◌, inl, inr}
use Prim.Native.Nat.{ℕ, zero, suc, min, ◌≤◌, ◌<◌}
use native.Mathlib.Omega.{arith}
use lib.IntN.{ℤ}
use lib.Dec.{T, leb, ltb}
use borrow.Author.Tests.{lt-ltb, le-ltb, le-leb, lt-leb}
use Rattle.meaning.specs.Record.{Loop}
use Rattle.meaning.specs.Tree.{Block, height}
use Rattle.meaning.specs.Time.{Bounds, sum_over, trips, inner_indexes}
use Rattle.meaning.specs.Range.{Range}
use Rattle.meaning.specs.Closed.{closed, ranked}
use Rattle.meaning.specs.ClosedSum.{first_sums, closed_sum, loop_sum, add_trip}
use Rattle.meaning.specs.Settled.{all_settled, settled, summed, choices_of, choices_sums}
use Rattle.meaning.specs.Visits.{visited_trips}
use Rattle.meaning.specs.Stage.{KeptArms, kept_arms, no_arms, trips_kept, summing, further, trips_sum, next_arms, arms_left}
use Rattle.meaning.proofs.Logic.{T→true}
use Rattle.meaning.proofs.Sound.{Sound}
use Rattle.meaning.proofs.Trips.{Inside, trip_time}
use Rattle.meaning.proofs.RankedArms.{choices_times, kept-choices}
use Rattle.meaning.proofs.KeptTrips.{kept_sums, kept_sums-each, kept_sums-all, keep_all, keep_all-none, keep_all-each, further-agrees, LastSummed, LastOfAll, last-agrees}
use Rattle.meaning.proofs.ClosedLoops.{exact-sum}
use Rattle.meaning.proofs.VisitedTrips.{summed-figures-exact}

-- A loop with the body b that is entered with the arms a kept.
module _ (ps : List ℤ) (l : Loop) (b : Block) (ranges : List Range) (indexes : List ℤ) (a : KeptArms) where
  abbrev made : ℕ
  made = trips ps l indexes

  abbrev visited : ℕ
  visited = visited_trips ps l b ranges indexes made

  abbrev trip_times : ℕ → Bounds
  trip_times = trip_time ps l b indexes

  abbrev body_arms : ℕ → List Bounds
  body_arms k = choices_times ps b (inner_indexes ps l indexes k)

  abbrev is_closed : Bool
  is_closed = closed ps l b ranges

  abbrev is_ranked : Bool
  is_ranked = ranked ps l b ranges

  abbrev is_settled : Bool
  is_settled = settled ps l b indexes made

  -- ---- what is kept

  -- trip k is kept by itself
  abbrev keeps_trip : ℕ → Bool
  keeps_trip k = is_closed || (is_ranked && ltb k (height b))

  -- the trips kept where trip k opens
  unfoldable pub sums_before : ℕ → List Bounds
  sums_before k = kept_sums keeps_trip trip_times k

  -- the arms kept at the end of trip k, where it opens with these
  abbrev pub arms_with : KeptArms → ℕ → KeptArms
  arms_with before k = keep_all (is_ranked && leb k (height b)) (body_arms k) before

  -- the arms kept where trip k opens
  unfoldable pub arms_before : ℕ → KeptArms
  arms_before zero = a
  arms_before (suc k) = next_arms ps l b ranges made k (arms_with (arms_before k) k)

  -- and at its end
  abbrev pub arms_after : ℕ → KeptArms
  arms_after k = arms_with (arms_before k) k

  -- of a loop that is not ranked the arms stay as they are
  pub arms_stay : is_ranked ≡ false → (k : ℕ) → arms_before k ≡ a
  unfolding arms_before next_arms
  arms_stay e zero = refl
  arms_stay e (suc k) =
      ap (λ (x : Bool). cond x (cond (ltb k (height b)) (kept_arms (trips_kept (keep_all (x && leb k (height b)) (body_arms k) (arms_before k))) []) no_arms)
      (keep_all (x && leb k (height b)) (body_arms k) (arms_before k))) e
      ∙ keep_all-none (body_arms k) (arms_before k) ∙ arms_stay e k

  -- of a ranked loop those of the first trips are kept
  pub arms-with : is_ranked ≡ true → (k : ℕ) → k ≤ height b → arms_before k ≡ kept_arms (first_sums k body_arms) [] →
      arms_after k ≡ kept_arms (first_sums k body_arms) (body_arms k)
  arms-with e k small before =
      ap (λ (x : Bool). keep_all (x && leb k (height b)) (body_arms k) (arms_before k)) e
      ∙ ap (λ (x : Bool). keep_all x (body_arms k) (arms_before k)) (le-leb k (height b) small)
      ∙ ap (keep_all true (body_arms k)) before
      ∙ keep_all-each (body_arms k) (kept_arms (first_sums k body_arms) [])

  pub arms-first : is_ranked ≡ true → a ≡ no_arms → (k : ℕ) → k ≤ height b → arms_before k ≡ kept_arms (first_sums k body_arms) []
  unfolding arms_before next_arms trips_kept first_sums
  arms-first e free zero small = free
  arms-first e free (suc k) small =
      ap (λ (x : Bool). cond x (cond (ltb k (height b)) (kept_arms (trips_kept (arms_after k)) []) no_arms) (arms_after k)) e
      ∙ ap (λ (x : Bool). cond x (kept_arms (trips_kept (arms_after k)) []) no_arms) (lt-ltb k (height b) small)
      ∙ ap (λ (x : KeptArms). kept_arms (trips_kept x) []) (arms-with e k (omega arith) (arms-first e free k (omega arith)))

  -- and after those none
  pub arms-later : is_ranked ≡ true → (k : ℕ) → height b < k → arms_after k ≡ no_arms
  unfolding arms_before next_arms
  arms-later e zero later = absurd (omega arith)
  arms-later e (suc k) later =
      ap (λ (x : Bool). keep_all (x && leb (suc k) (height b)) (body_arms (suc k)) (cond x (cond (ltb k (height b)) (kept_arms (trips_kept (arms_after k)) []) no_arms) (arms_after k))) e
      ∙ (λ i. keep_all (lt-leb (suc k) (height b) later i) (body_arms (suc k)) (cond (le-ltb k (height b) (omega arith) i) (kept_arms (trips_kept (arms_after k)) []) no_arms))
      ∙ keep_all-none (body_arms (suc k)) no_arms

  -- ---- what is found at the end of trip k, where a ranked loop was entered with no arms kept

  module _ (free : is_ranked ≡ true → a ≡ no_arms) where
    abbrev settled_by : ℕ → Bool
    settled_by k = all_settled (choices_of (trips_kept (arms_after k)) zero b)

    -- by the trips that decide it
    settled-agrees : (k : ℕ) → T is_ranked → k ≤ height b → suc k ≡ min made (suc (height b)) → settled_by k ≡ is_settled
    unfolding settled trips_kept first_sums
    settled-agrees k t small last =
        let e : is_ranked ≡ true = T→true is_ranked t in
        ap (λ (x : KeptArms). all_settled (choices_of (trips_kept x) zero b)) (arms-with e k small (arms-first e (free e) k small))
        ∙ ap all_settled (kept-choices ps (suc k) (inner_indexes ps l indexes) b)
        ∙ ap (λ (m : ℕ). all_settled (choices_sums ps m (inner_indexes ps l indexes) b)) last

    -- a further trip is visited
    pub trip-further : (k : ℕ) → suc k < visited → further ps l b ranges made k (arms_after k) ≡ true
    unfolding further summing visited_trips summed
    trip-further k h =
        let more = further-agrees made (height b) is_closed is_ranked is_settled settled_by settled-agrees k h in
        lt-ltb (suc k) (cond (is_closed || (is_ranked && leb k (height b) && settled_by k)) (min made (suc (height b))) made) more

    -- the arms that the loop leaves are those that it found
    pub arms-left : (k : ℕ) → arms_left ps l b ranges made k (arms_after k) ≡ a
    unfolding arms_left
    arms-left k = go is_ranked refl
      where
        go : (x : Bool) → is_ranked ≡ x → arms_left ps l b ranges made k (arms_after k) ≡ a
        go true e = ap (λ (y : Bool). cond y no_arms (arms_after k)) e ∙ sym (free e)
        go false e =
            ap (λ (y : Bool). cond y no_arms (keep_all (y && leb k (height b)) (body_arms k) (arms_before k))) e
            ∙ keep_all-none (body_arms k) (arms_before k) ∙ arms_stay e k

    -- where the rest is summed, each trip was kept
    each-kept : (closed_so ranked_so settled_so within : Bool) → closed_so || (ranked_so && settled_so) ≡ true → within ≡ true →
        closed_so || (ranked_so && within) ≡ true
    each-kept true ranked_so settled_so within e d = refl
    each-kept false true settled_so within e d = d
    each-kept false false settled_so within e d = absurd (true≢false (sym e))

    module _ (sound : Sound b) (inside : Inside indexes ranges) where
      abbrev summing_after : ℕ → Bool
      summing_after k = is_closed || (is_ranked && leb k (height b) && settled_by k)

      -- no further trip, and the sum of all trips
      abbrev LastFound : ℕ → Type 0
      LastFound k = (ltb (suc k) (cond (summing_after k) (min made (suc (height b))) made) ≡ false)
          × (loop_sum (summing_after k) made (add_trip (summing_after k) (sums_before k) (trip_times k)) ≡ sum_over made trip_times)

      summed-last : (k : ℕ) → LastSummed made (height b) k (is_closed || (is_ranked && is_settled)) (summing_after k) → LastFound k
      unfolding loop_sum add_trip first_sums summed sums_before
      summed-last k x =
          let first = x.first in
          let each : sums_before k ≡ first_sums k trip_times =
          kept_sums-each keeps_trip trip_times k (λ j i. each-kept is_closed is_ranked is_settled (ltb j (height b)) x.defined (lt-ltb j (height b) (omega arith))) in (
            ap (λ (y : Bool). ltb (suc k) (cond y (min made (suc (height b))) made)) x.found ∙ le-ltb (suc k) (min made (suc (height b))) (omega arith),
            ap (λ (y : Bool). loop_sum y made (add_trip y (sums_before k) (trip_times k))) x.found
                ∙ ap (λ (sums : List Bounds). closed_sum made (sums ++ (trip_times k ∷ []))) each
                ∙ ap (λ (m : ℕ). closed_sum made (first_sums m trip_times)) (sym first)
                ∙ exact-sum _ _ _ (summed-figures-exact ps l b ranges indexes sound inside (subst T (sym x.defined) tt)),
          )

      all-last : (k : ℕ) → LastOfAll made k (summing_after k) → LastFound k
      unfolding loop_sum sums_before
      all-last k x =
          let all = x.all in (
            ap (λ (y : Bool). ltb (suc k) (cond y (min made (suc (height b))) made)) x.found ∙ le-ltb (suc k) made (omega arith),
            ap (λ (y : Bool). loop_sum y made (add_trip y (sums_before k) (trip_times k))) x.found
                ∙ kept_sums-all keeps_trip trip_times k
                ∙ ap (λ (m : ℕ). sum_over m trip_times) (sym all),
          )

      -- the loop is left
      pub trip-last : (k : ℕ) → visited ≡ suc k → (further ps l b ranges made k (arms_after k) ≡ false)
          × (trips_sum ps l b ranges made k (arms_after k) (sums_before k) (trip_times k) ≡ sum_over made trip_times)
      unfolding visited_trips summed further trips_sum summing
      trip-last k e = go (last-agrees made (height b) is_closed is_ranked is_settled settled_by settled-agrees k e)
        where
          go : LastSummed made (height b) k (is_closed || (is_ranked && is_settled)) (summing_after k) ⊎ LastOfAll made k (summing_after k) → LastFound k
          go (inl x) = summed-last k x
          go (inr x) = all-last k x
