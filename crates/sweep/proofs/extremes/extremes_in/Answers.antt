-- Where the smallest of the leasts stands first, and the largest of the mosts.
use Rattle.std.proofs.Common.{ltb, rules, tests, ap, ◌∙◌}
use Rattle.std.proofs.lemmas.List.MinMax.{IsStrictWeakOrder-by_number, IsStrictWeakOrder-flip}
use Rattle.ranges.specs.ParameterRange.{value_at}
use Rattle.ranges.specs.Extremes.{extremes_found, extremes_in}
use Rattle.ranges.proofs.Positions.{first-position}
use Rattle.sweep.specs.Values.{range_of}
use Rattle.sweep.proofs.Places.{first-smallest, first-largest}
use Rattle.sweep.proofs.extremes.extremes_in.Goals as goal

pub extreme_at-requires-clause-inside : goal.extreme_at-requires-clause-inside
extreme_at-requires-clause-inside c =
    let low =
    first-smallest c.args.leasts.now
    (c.first_best.ensures (λ a b. ltb a b) (IsStrictWeakOrder-by_number (λ n. n)) (λ a b r ha hb k. search (rules, tests))) in
    (low.within, c.requires.counted.0)

pub extreme_at-requires-2-clause-inside : goal.extreme_at-requires-2-clause-inside
extreme_at-requires-2-clause-inside c =
    let high =
    first-largest c.args.mosts.now
    (c.first_best-2.ensures (λ a b. ltb b a) (IsStrictWeakOrder-flip (λ a b. ltb a b) (IsStrictWeakOrder-by_number (λ n. n))) (λ a b r ha hb k. search (rules, tests))) in
    (high.within, c.requires.counted.1)

pub returns : goal.returns
unfolding extremes_in
returns c =
    let a = c.args in
    let low =
    first-smallest a.leasts.now
    (c.first_best.ensures (λ a b. ltb a b) (IsStrictWeakOrder-by_number (λ n. n)) (λ a b r ha hb k. search (rules, tests))) in
    let high =
    first-largest a.mosts.now
    (c.first_best-2.ensures (λ a b. ltb b a) (IsStrictWeakOrder-flip (λ a b. ltb a b) (IsStrictWeakOrder-by_number (λ n. n))) (λ a b r ha hb k. search (rules, tests))) in
    let least = c.extreme_at.ensures.cycles ∙ low.there in
    let least_at = c.extreme_at.ensures.value ∙ ap (value_at (range_of a.range)) (first-position low) in
    let most = c.extreme_at-2.ensures.cycles ∙ high.there in
    let most_at = c.extreme_at-2.ensures.value ∙ ap (value_at (range_of a.range)) (first-position high) in
    λ t. extremes_found (least t) (least_at t) (most t) (most_at t) a.visits
