-- The arms of the first trips of a sheet's loop decide whether its choices are settled, as the definition does.
use Rattle.std.proofs.Common.{◌≡◌, ℕ, zero, suc, ◌<◌, ◌≤◌, Bool, true, false, ltb, List, [], ◌∷◌, ◌++◌, length, get_or, ℤ, sym, refl, ap, ◌∙◌, arith, length-append, ltb-false, ltb-true}
use lib.ListN.{get_or-append}
use lib.Seq.{get_or_at}
use Rattle.meaning.specs.Tree.{Block}
use Rattle.meaning.specs.Time.{Bounds}
use Rattle.meaning.specs.ClosedSum.{first_sums}
use Rattle.meaning.specs.Settled.{all_settled, choices_sums}
use Rattle.meaning.proofs.RankedArms.{choices_times, kept-choices}
use Rattle.state.specs.declared.bounds.Bounds.{Bounds as ArmBounds}
use Rattle.ranking.specs.Settled.{trip_arms_limit, settled_choices, direct_arms, trips_arms, sums_at, Kept}
use Rattle.ranking.proofs.ArmSizes.{AllBelow, Below, below_at, choices-times-length}
use Rattle.ranking.proofs.KeptLaws.{settled-choices}
use Rattle.ranking.proofs.FlatLaws.{kept-arms}

-- ---- the first trips' lists

first-length : {A : Type 0} (n : ℕ) (f : ℕ → A) → length (first_sums n f) ≡ n
unfolding first_sums
first-length zero f = refl
first-length (suc n) f = let e = first-length n f in let a = length-append (first_sums n f) (f n ∷ []) in omega arith

first-at : {A : Type 0} (default : A) (n : ℕ) (f : ℕ → A) (t : ℕ) → t < n → get_or (first_sums n f) t default ≡ f t
unfolding first_sums
first-at default zero f t h = absurd (omega arith)
first-at default (suc n) f t h = by-test (ltb t n) refl (λ i. first-at default n f t i)
  where
    by-test : (b : Bool) → ltb t n ≡ b → (t < n → get_or (first_sums n f) t default ≡ f t) → get_or (first_sums n f ++ (f n ∷ [])) t default ≡ f t
    by-test true e earlier =
        let i = ltb-true t n e in let size = first-length n f in
        get_or-append (first_sums n f) (f n ∷ []) default t (omega arith) ∙ earlier i
    by-test false e earlier =
        let i = ltb-false t n e in let last : n ≡ t = omega arith in
        get_or_at (first_sums n f) (f n) [] default t (first-length n f ∙ last) ∙ ap f last

-- ---- the choices

module _ (ps : List ℤ) where
  -- the arms of the first trips, wherever their sums are below the limit
  pub first-trips-settled : (count : ℕ) (indexes_at : ℕ → List ℤ) (body : Block) (rest : List ArmBounds) → count ≤ 4 → direct_arms body ≤ trip_arms_limit →
      ((k : ℕ) → k < count → AllBelow (choices_times ps body (indexes_at k))) →
      settled_choices (trips_arms (first_sums count (λ k. choices_times ps body (indexes_at k))) ++ rest) count (direct_arms body) 0 body
      ≡ all_settled (choices_sums ps count indexes_at body)
  first-trips-settled count indexes_at body rest few fits below =
      ap (λ n. settled_choices (trips_arms trips ++ rest) n (direct_arms body) 0 body) (sym size)
      ∙ settled-choices (trips_arms trips ++ rest) (direct_arms body) trips kept body 0 (omega arith)
      ∙ ap all_settled (kept-choices ps count indexes_at body)
    where
      trips : List (List Bounds)
      trips = first_sums count (λ k. choices_times ps body (indexes_at k))

      size : length trips ≡ count
      size = first-length count (λ k. choices_times ps body (indexes_at k))

      at : (t : ℕ) → t < length trips → get_or trips t [] ≡ choices_times ps body (indexes_at t)
      at t h = first-at [] count (λ k. choices_times ps body (indexes_at k)) t (let e = size in omega arith)

      small : (t j : ℕ) → t < length trips → Below (sums_at trips t j)
      small t j h = rw (at t h) (below_at (choices_times ps body (indexes_at t)) j (below t (let e = size in omega arith)))

      kept : Kept (trips_arms trips ++ rest) (direct_arms body) trips
      kept = kept-arms (direct_arms body) trips rest (let e = size in omega arith) fits (λ t h. ap length (at t h) ∙ choices-times-length ps body (indexes_at t))
          (λ t j h k. (small t j h).least_below) (λ t j h k. (small t j h).most_below)
