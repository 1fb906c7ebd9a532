-- Where the first best of a list's numbers stands: the smallest, or the largest.
use Rattle.std.proofs.Common.{ℕ, ltb, List, length, arith}
use Rattle.std.specs.List.{IsFirstBest}
use Rattle.std.proofs.lemmas.Bool.{ltb-true, ltb-false}
use Rattle.ranges.specs.Extremes.{smallest, largest}
use Rattle.ranges.proofs.Positions.{FirstAt, smallest-is, largest-is}

module _ (ns : List ℕ) {place : ℕ} where
  pub first-smallest : IsFirstBest (λ a b. ltb a b) ns (length ns) place → FirstAt (smallest ns) ns place
  first-smallest (inside, best, first) =
      let is = smallest-is ns inside (λ j h. ltb-false _ _ (best j 0 h)) in
      record { within = inside; there = is; not_before = λ j h e. let above = ltb-true _ _ (first j 0 h) in omega (arith, is, e) }

  pub first-largest : IsFirstBest (λ a b. ltb b a) ns (length ns) place → FirstAt (largest ns) ns place
  first-largest (inside, best, first) =
      let is = largest-is ns inside (λ j h. ltb-false _ _ (best j 0 h)) in
      record { within = inside; there = is; not_before = λ j h e. let below = ltb-true _ _ (first j 0 h) in omega (arith, is, e) }
