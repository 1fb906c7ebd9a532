-- The trips kept of a loop give the sum of all its trips, modulo 2^64 and so exactly.
use mathlib.Core.List.{◌++◌, List, [], map, ◌∷◌}
use mathlib.Core.Path.{ap, refl, ◌∙◌, ◌≡◌}
use Prim.Native.Nat.{◌+◌, ◌<◌, ◌^◌, suc, zero, ℕ, ◌≤◌}
use native.Mathlib.Omega.{arith}
use native.Mathlib.Nat.{mod-eq_of_lt}
use lib.ListN.{length, take}
use lib.IntN.{pos, ℤ}
use Rattle.std.proofs.Math.Seq.{get_or-append_seam}
use Rattle.whole.specs.Integer.{floor_remainder}
use Rattle.whole.specs.Newton.{newton_sum}
use Rattle.meaning.specs.Time.{Bounds}
use Rattle.newton.specs.Weights.{weighted_sum, weights_of}
use Rattle.newton.proofs.Sum.{weights-newton}
use Rattle.state.specs.declared.bounds.Bounds as declared
use Rattle.state.specs.Bounds.{no_bounds}
use Rattle.state.specs.Kept.{first_trips, kept_from, kept_trip, trips_sum}
use Rattle.state.proofs.Innermost.{get_d-behind}
use Rattle.ranking.specs.Settled.{bounds_of}
use Rattle.stages.specs.Represent.{each_of}

-- one of the two figures, least or most: the sum of n trips that the state gives, `held` trips kept, then the open one
pub sum-exact : (figure : Bounds → ℕ) (n held : ℕ) (first : List Bounds) (sum : Bounds) → newton_sum n (map (λ b. pos (figure b)) first) ≡ pos (figure sum) →
    held < 4 → (p : List ℕ) → length p ≡ 4 → take (suc held) (map pos p) ≡ map (λ b. pos (figure b)) first → figure sum < 2 ^ 64 →
    trips_sum n held p ≡ figure sum
unfolding trips_sum floor_remainder
sum-exact figure n held first sum exact few p four same small =
    let more : held + 1 ≡ suc held = omega arith in
    ap (λ (m : ℕ). floor_remainder (weighted_sum (weights_of n m) p) (2 ^ 64)) more
    ∙ ap (λ (z : ℤ). floor_remainder z (2 ^ 64)) (weights-newton n (suc held) p (omega arith) four ∙ ap (newton_sum n) same ∙ exact)
    ∙ mod-eq_of_lt small

-- ---- the kept trips

module _ (before : List declared.Bounds) (depth : ℕ) (from : length before ≡ kept_from depth) where
  -- a trip behind others
  kept-trip : (sums : List declared.Bounds) (b : declared.Bounds) (after : List declared.Bounds) →
      kept_trip (before ++ (sums ++ (b ∷ after))) depth (length sums) ≡ b
  unfolding kept_trip
  kept-trip sums b after =
      get_d-behind before (sums ++ (b ∷ after)) (kept_from depth + length sums) (length sums) no_bounds (omega arith)
      ∙ get_or-append_seam sums b after no_bounds

-- of either figure
module _ (kept_figure : declared.Bounds → ℕ) where
  pub first_trips-length : (kept : List declared.Bounds) (depth held : ℕ) (last : declared.Bounds) →
      length (map kept_figure (first_trips kept depth held last)) ≡ 4
  unfolding first_trips
  first_trips-length kept depth zero last = refl
  first_trips-length kept depth (suc zero) last = refl
  first_trips-length kept depth (suc (suc zero)) last = refl
  first_trips-length kept depth (suc (suc (suc held))) last = refl

  -- the kept trips and the open one
  pub first-trips : (before : List declared.Bounds) (depth : ℕ) → length before ≡ kept_from depth → (sums : List Bounds) (after : List declared.Bounds) (last : declared.Bounds) →
      length sums ≤ 3 →
      take (suc (length sums)) (map pos (map kept_figure (first_trips (before ++ (each_of sums ++ after)) depth (length sums) last)))
      ≡ map (λ b. pos (kept_figure (bounds_of b))) sums ++ (pos (kept_figure last) ∷ [])
  unfolding first_trips
  first-trips before depth from [] after last h = refl
  first-trips before depth from (a ∷ []) after last h = let p = kept-trip before depth from [] (bounds_of a) after in λ i. pos (kept_figure (p i)) ∷ pos (kept_figure last) ∷ []
  first-trips before depth from (a ∷ b ∷ []) after last h =
      let p = kept-trip before depth from [] (bounds_of a) (bounds_of b ∷ after) in
      let q = kept-trip before depth from (bounds_of a ∷ []) (bounds_of b) after in
      λ i. pos (kept_figure (p i)) ∷ pos (kept_figure (q i)) ∷ pos (kept_figure last) ∷ []
  first-trips before depth from (a ∷ b ∷ c ∷ []) after last h =
      let p = kept-trip before depth from [] (bounds_of a) (bounds_of b ∷ bounds_of c ∷ after) in
      let q = kept-trip before depth from (bounds_of a ∷ []) (bounds_of b) (bounds_of c ∷ after) in
      let r = kept-trip before depth from (bounds_of a ∷ bounds_of b ∷ []) (bounds_of c) after in
      λ i. pos (kept_figure (p i)) ∷ pos (kept_figure (q i)) ∷ pos (kept_figure (r i)) ∷ pos (kept_figure last) ∷ []
  first-trips before depth from (a ∷ b ∷ c ∷ d ∷ sums) after last h = absurd (omega arith)
