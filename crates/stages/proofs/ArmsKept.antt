-- The arms that a state keeps, as the struct has them: with one more, from one trip to the next, and where none is kept.
use mathlib.Core.Path.{◌≡◌, refl, sym, ap, ◌∙◌}
use mathlib.Core.Bool.{true}
use mathlib.Core.List.{List, [], ◌∷◌, ◌++◌, append_assoc, append-nil, map-append}
use Prim.Native.Nat.{ℕ, ◌+◌, ◌≤◌, ◌<◌}
use native.Mathlib.Omega.{arith}
use lib.ListN.{length, length-append, length-map}
use Rattle.meaning.specs.Time.{Bounds}
use Rattle.meaning.specs.Stage.{KeptArms, kept_arms, no_arms, keep_arm, trips_kept}
use Rattle.state.specs.declared.bounds.Bounds as declared
use Rattle.state.specs.Open.{kept_arms_limit}
use Rattle.state.specs.Arms.{arm_kept, arms_dropped}
use Rattle.state.proofs.ArmLaws.{all_arms, arms-dropped, arm-kept}
use Rattle.ranking.specs.Settled.{bounds_of, trips_arms}
use Rattle.stages.specs.Represent.{arms_of, each_of}

-- how many arms there are in the trips
abbrev pub arm_total : List (List Bounds) → ℕ
arm_total trips = length (trips_arms trips)

pub arms-append : (xs ys : List (List Bounds)) → trips_arms (xs ++ ys) ≡ trips_arms xs ++ trips_arms ys
unfolding trips_arms
arms-append [] ys = refl
arms-append (x ∷ xs) ys =
    ap (λ (bs : List declared.Bounds). each_of x ++ bs) (arms-append xs ys) ∙ sym (append_assoc (each_of x) (trips_arms xs) (trips_arms ys))

-- those of one trip
arms-of-trip : (x : List Bounds) → trips_arms (x ∷ []) ≡ each_of x
unfolding trips_arms
arms-of-trip x = append-nil (each_of x)

pub total-append : (xs : List (List Bounds)) (x : List Bounds) → arm_total (xs ++ (x ∷ [])) ≡ arm_total xs + length x
total-append xs x =
    omega (
      arith,
      ap (λ (bs : List declared.Bounds). length bs) (arms-append xs (x ∷ []) ∙ ap (λ (bs : List declared.Bounds). trips_arms xs ++ bs) (arms-of-trip x)),
      length-append (trips_arms xs) (each_of x),
      length-map x bounds_of,
    )

-- by the visited trips and the open one
arms-kept : (a : KeptArms) → trips_arms (trips_kept a) ≡ trips_arms a.passed_trips ++ each_of a.open_trip
unfolding trips_kept
arms-kept a =
    arms-append a.passed_trips (a.open_trip ∷ []) ∙ ap (λ (bs : List declared.Bounds). trips_arms a.passed_trips ++ bs) (arms-of-trip a.open_trip)

-- one more arm is kept
pub arm-keeps : (a : KeptArms) (b : Bounds) → arm_total (trips_kept a) < kept_arms_limit →
    arm_kept (arms_of a) (bounds_of b) ≡ arms_of (keep_arm true a b)
unfolding arms_of keep_arm
arm-keeps a b h =
    let more : KeptArms = kept_arms a.passed_trips (a.open_trip ++ (b ∷ [])) in
    let all : trips_arms (trips_kept a) ++ (bounds_of b ∷ []) ≡ trips_arms (trips_kept more) =
    ap (λ (bs : List declared.Bounds). bs ++ (bounds_of b ∷ [])) (arms-kept a)
    ∙ append_assoc (trips_arms a.passed_trips) (each_of a.open_trip) (bounds_of b ∷ [])
    ∙ ap (λ (bs : List declared.Bounds). trips_arms a.passed_trips ++ bs) (sym (map-append bounds_of a.open_trip (b ∷ [])))
    ∙ sym (arms-kept more) in
    arm-kept (trips_arms (trips_kept a)) (bounds_of b) h ∙ ap all_arms all

-- from one trip to the next they stay
pub next-trip-arms : (a : KeptArms) → arms_of (kept_arms (trips_kept a) []) ≡ arms_of a
unfolding arms_of
next-trip-arms a = ap all_arms (arms-kept (kept_arms (trips_kept a) []) ∙ append-nil (trips_arms (trips_kept a)))

-- the arms are dropped
pub arms-drop : (a : KeptArms) → arm_total (trips_kept a) ≤ kept_arms_limit → arms_dropped (arms_of a) ≡ arms_of no_arms
unfolding arms_of trips_kept trips_arms
arms-drop a few = arms-dropped (trips_arms (trips_kept a)) few
