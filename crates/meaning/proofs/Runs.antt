-- Every run of a tree takes no fewer cycles than its least and no more than its most, and runs of a sound tree reach both.
use mathlib.Core.Path.{◌≡◌, refl, sym, subst}
use mathlib.Core.List.{List}
use mathlib.Core.Logic.{◌⊎◌, inl, inr}
use Prim.Native.Nat.{ℕ, zero, suc, min, max, ◌≤◌}
use native.Mathlib.Nat.{le_refl}
use native.Mathlib.Decide.{dec_le}
use native.Mathlib.Omega.{arith}
use lib.IntN.{ℤ}
use Rattle.meaning.specs.Tree.{Block, Arms, empty, work, loop, choice, last_arm, arm}
use Rattle.meaning.specs.Time.{Bounds, exactly, ◌⊕◌, sum_over, trips, inner_indexes, time, arms_time}
use Rattle.meaning.specs.Run.{TripsRun, Run, ArmRun}
use Rattle.meaning.proofs.Sound.{Sound, ArmsSound}

-- ---- between the least and the most

pub record Between (b : Bounds) (cycles : ℕ) : Type 0 where
  pub low : b.least ≤ cycles
  pub high : cycles ≤ b.most

-- trips add up: each lies between its own bounds, and takes one step more
pub trips-between : (step : ℕ) (Body : ℕ → ℕ → Type 0) (f : ℕ → Bounds) → ((trip cycles : ℕ) → Body trip cycles → Between (f trip) cycles) →
    (n cycles : ℕ) → TripsRun step Body n cycles → Between (sum_over n (λ trip. f trip ⊕ exactly step)) cycles
unfolding TripsRun sum_over
trips-between step Body f h zero cycles e = record { low = omega arith; high = omega arith }
trips-between step Body f h (suc n) cycles (before, last, runs, run, e) =
    let i = trips-between step Body f h n before runs in
    let j = h n last run in
    record { low = omega arith; high = omega arith }

mutual
  unfolding Run time

  pub run-between : (b : Block) (ps indexes : List ℤ) (cycles : ℕ) → Run ps b indexes cycles → Between (time ps b indexes) cycles
  run-between empty ps indexes cycles e = record { low = omega arith; high = omega arith }
  run-between (work least most rest) ps indexes cycles (taken, after, p, q, run, e) =
      let i = run-between rest ps indexes after run in record { low = omega arith; high = omega arith }
  run-between (loop l body rest) ps indexes cycles (taken, after, runs, run, e) =
      let i = run-between rest ps indexes after run in
      let j = trips-between l.step (λ trip. Run ps body (inner_indexes ps l indexes trip)) (λ trip. time ps body (inner_indexes ps l indexes trip))
      (λ trip. run-between body ps (inner_indexes ps l indexes trip)) (trips ps l indexes) taken runs in
      record { low = omega arith; high = omega arith }
  run-between (choice arms rest) ps indexes cycles (taken, after, arm_run, run, e) =
      let i = run-between rest ps indexes after run in
      let j = arm-run-between arms ps indexes taken arm_run in
      record { low = omega arith; high = omega arith }

  pub arm-run-between : (arms : Arms) (ps indexes : List ℤ) (cycles : ℕ) → ArmRun ps arms indexes cycles → Between (arms_time ps arms indexes) cycles
  arm-run-between (last_arm b) ps indexes cycles run = run-between b ps indexes cycles run
  arm-run-between (arm b arms) ps indexes cycles (inl run) =
      let i = run-between b ps indexes cycles run in record { low = omega arith; high = omega arith }
  arm-run-between (arm b arms) ps indexes cycles (inr arm_run) =
      let i = arm-run-between arms ps indexes cycles arm_run in record { low = omega arith; high = omega arith }

-- ---- both are reached

-- `Runs` has one run that takes exactly the least and one that takes exactly the most
pub record BothReached (Runs : ℕ → Type 0) (b : Bounds) : Type 0 where
  pub fastest : Runs b.least
  pub slowest : Runs b.most

pub trips-reached : (step : ℕ) (Body : ℕ → ℕ → Type 0) (f : ℕ → Bounds) → ((trip : ℕ) → BothReached (Body trip) (f trip)) →
    (n : ℕ) → BothReached (TripsRun step Body n) (sum_over n (λ trip. f trip ⊕ exactly step))
unfolding TripsRun sum_over
trips-reached step Body f h zero = record { fastest = refl; slowest = refl }
trips-reached step Body f h (suc n) =
    let i = trips-reached step Body f h n in
    record { fastest = (_, _, i.fastest, (h n).fastest, refl); slowest = (_, _, i.slowest, (h n).slowest, refl) }

min-is-one : (x y : ℕ) → (min x y ≡ x) ⊎ (min x y ≡ y)
min-is-one x y = elim (dec_le x y) [ yes h ↦ inl (omega arith) | no h ↦ inr (omega arith) ]

max-is-one : (x y : ℕ) → (max x y ≡ x) ⊎ (max x y ≡ y)
max-is-one x y = elim (dec_le x y) [ yes h ↦ inr (omega arith) | no h ↦ inl (omega arith) ]

-- of two arms the one that z comes from
choose-arm : (A B : ℕ → Type 0) (x y z : ℕ) → (z ≡ x) ⊎ (z ≡ y) → A x → B y → A z ⊎ B z
choose-arm A B x y z (inl e) p q = inl (subst A (sym e) p)
choose-arm A B x y z (inr e) p q = inr (subst B (sym e) q)

mutual
  unfolding Run time Sound

  pub run-reached : (b : Block) → Sound b → (ps indexes : List ℤ) → BothReached (Run ps b indexes) (time ps b indexes)
  run-reached empty s ps indexes = record { fastest = refl; slowest = refl }
  run-reached (work least most rest) s ps indexes =
      let i = run-reached rest s.1 ps indexes in
      record {
        fastest = (least, _, le_refl least, s.0.ordered, i.fastest, refl);
        slowest = (most, _, s.0.ordered, le_refl most, i.slowest, refl);
      }
  run-reached (loop l body rest) s ps indexes =
      let i = run-reached rest s.2 ps indexes in
      let j = trips-reached l.step (λ trip. Run ps body (inner_indexes ps l indexes trip)) (λ trip. time ps body (inner_indexes ps l indexes trip))
      (λ trip. run-reached body s.1 ps (inner_indexes ps l indexes trip)) (trips ps l indexes) in
      record { fastest = (_, _, j.fastest, i.fastest, refl); slowest = (_, _, j.slowest, i.slowest, refl) }
  run-reached (choice arms rest) s ps indexes =
      let i = run-reached rest s.1 ps indexes in
      let j = arm-run-reached arms s.0 ps indexes in
      record { fastest = (_, _, j.fastest, i.fastest, refl); slowest = (_, _, j.slowest, i.slowest, refl) }

  pub arm-run-reached : (arms : Arms) → ArmsSound arms → (ps indexes : List ℤ) → BothReached (ArmRun ps arms indexes) (arms_time ps arms indexes)
  arm-run-reached (last_arm b) s ps indexes = let i = run-reached b s ps indexes in record { fastest = i.fastest; slowest = i.slowest }
  arm-run-reached (arm b arms) s ps indexes =
      let i = run-reached b s.0 ps indexes in
      let j = arm-run-reached arms s.1 ps indexes in
      record {
        fastest = choose-arm (Run ps b indexes) (ArmRun ps arms indexes) _ _ _ (min-is-one _ _) i.fastest j.fastest;
        slowest = choose-arm (Run ps b indexes) (ArmRun ps arms indexes) _ _ _ (max-is-one _ _) i.slowest j.slowest;
      }

-- the least of a sound tree is at most its most: the run that takes the least lies below the most
pub least≤most : (b : Block) → Sound b → (ps indexes : List ℤ) → (time ps b indexes).least ≤ (time ps b indexes).most
least≤most b s ps indexes = (run-between b ps indexes _ (run-reached b s ps indexes).fastest).high
