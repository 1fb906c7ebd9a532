-- How many trips a loop visits: at most all of them, and enough for their sum.
use mathlib.Core.Path.{◌≡◌, refl, sym, ap, ◌∙◌}
use mathlib.Core.List.{List, [], map}
use mathlib.Core.Bool.{Bool, true, false, ◌&&◌, ◌||◌, cond}
use mathlib.Core.Logic.{◌⊎◌, inl, inr}
use Prim.Native.Nat.{ℕ, suc, ◌+◌, min, ◌≤◌}
use native.Mathlib.Omega.{arith}
use lib.IntN.{ℤ, pos}
use lib.Dec.{T}
use Rattle.whole.specs.Newton.{newton_sum}
use Rattle.whole.proofs.Newton.{newton-sum}
use Rattle.meaning.specs.Record.{Loop}
use Rattle.meaning.specs.Tree.{Block, height}
use Rattle.meaning.specs.Time.{Bounds, exactly, ◌⊕◌, sum_over, trips}
use Rattle.meaning.specs.Range.{Range}
use Rattle.meaning.specs.Closed.{closed, ranked}
use Rattle.meaning.specs.ClosedSum.{first_sums}
use Rattle.meaning.specs.Settled.{settled, summed}
use Rattle.meaning.specs.Visits.{visited_trips}
use Rattle.meaning.proofs.Logic.{T_and}
use Rattle.meaning.proofs.Sound.{Sound}
use Rattle.meaning.proofs.Trips.{Inside, trip_time}
use Rattle.meaning.proofs.ClosedLoops.{FiguresExact, closed-figures-exact, figure-first_sums, figure-sum_over}
use Rattle.meaning.proofs.RankedLoops.{T-or, settled-figures-exact}
use Rattle.meaning.proofs.Rankable.{ranked-tests}

module _ (ps : List ℤ) (l : Loop) (b : Block) (ranges : List Range) (indexes : List ℤ) where
  module _ (n : ℕ) where
    pub visited-most : visited_trips ps l b ranges indexes n ≤ n
    unfolding visited_trips
    visited-most = go (summed ps l b ranges indexes n)
      where
        go : (is_summed : Bool) → cond is_summed (min n (suc (height b))) n ≤ n
        go true = omega arith
        go false = omega arith

    pub visited-some : 1 ≤ n → 1 ≤ visited_trips ps l b ranges indexes n
    unfolding visited_trips
    visited-some h = go (summed ps l b ranges indexes n)
      where
        go : (is_summed : Bool) → 1 ≤ cond is_summed (min n (suc (height b))) n
        go true = omega arith
        go false = omega arith

    -- of a closed loop
    pub closed-visited : T (closed ps l b ranges) → visited_trips ps l b ranges indexes n ≡ min n (suc (height b))
    unfolding visited_trips summed
    closed-visited t = go (closed ps l b ranges) t
      where
        go : (c : Bool) → T c → cond (c || (ranked ps l b ranges && settled ps l b indexes n)) (min n (suc (height b))) n ≡ min n (suc (height b))
        go true t = refl
        go false t = absurd t

  -- where the rest is summed, the sum from the first trips is the sum trip by trip
  pub summed-figures-exact : Sound b → Inside indexes ranges → T (summed ps l b ranges indexes (trips ps l indexes)) →
      FiguresExact (trips ps l indexes) (first_sums (min (trips ps l indexes) (suc (height b))) (trip_time ps l b indexes))
      (sum_over (trips ps l indexes) (trip_time ps l b indexes))
  unfolding summed
  summed-figures-exact sound inside t =
      go (T-or (closed ps l b ranges) (ranked ps l b ranges && settled ps l b indexes (trips ps l indexes)) t)
    where
      go : T (closed ps l b ranges) ⊎ T (ranked ps l b ranges && settled ps l b indexes (trips ps l indexes)) →
          FiguresExact (trips ps l indexes) (first_sums (min (trips ps l indexes) (suc (height b))) (trip_time ps l b indexes))
          (sum_over (trips ps l indexes) (trip_time ps l b indexes))
      go (inl u) = closed-figures-exact ps l b ranges indexes sound inside u
      go (inr u) =
          let tests = T_and (ranked ps l b ranges) (settled ps l b indexes (trips ps l indexes)) u in
          settled-figures-exact ps l b ranges indexes sound inside (ranked-tests ps l b ranges tests.0).1 tests.1

-- so it is where all trips are visited, whatever they take
pub all-figures-exact : (n : ℕ) (f : ℕ → Bounds) → FiguresExact n (first_sums n f) (sum_over n f)
all-figures-exact n f = record { least_exact = exact (λ b. b.least) (λ a b. refl) (λ m. refl); most_exact = exact (λ b. b.most) (λ a b. refl) (λ m. refl) }
  where
    exact : (figure : Bounds → ℕ) → ((a b : Bounds) → figure (a ⊕ b) ≡ figure a + figure b) → ((m : ℕ) → figure (exactly m) ≡ m) →
        newton_sum n (map (λ b. pos (figure b)) (first_sums n f)) ≡ pos (figure (sum_over n f))
    exact figure figure-⊕ figure-exactly =
        ap (newton_sum n) (figure-first_sums [] figure figure-⊕ figure-exactly n f)
        ∙ newton-sum n n (λ k. pos (figure (f k))) (λ k. pos (figure (f k))) (omega arith) (λ k made. refl) (inl (omega arith))
        ∙ sym (figure-sum_over [] figure figure-⊕ figure-exactly n f)
