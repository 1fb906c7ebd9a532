-- What is no choice is not settled; otherwise both comparisons say so.
use Rattle.std.proofs.Common.{arith}
use Rattle.ranking.proofs.LeadSteps.{settled-by, not-settled}
use Rattle.ranking.proofs.settled_choice.Goals as goal
use Rattle.ranking.proofs.settled_choice.Goals.{then-own-eq0-via-then-own-eq0, then-own-eq0-via-else-own-eq0+then-kept-gt-MAX_TRIP_ARMS, then-own-eq0-via-else-own-eq0+else-kept-gt-MAX_TRIP_ARMS+then-kept-own, then-own-eq0-via-else-own-eq0+else-kept-gt-MAX_TRIP_ARMS+else-kept-own+then-kept-own-2}

pub returns-then-own-eq0 : goal.returns-then-own-eq0
returns-then-own-eq0 c =
    let k = c.args.kept in
    let none = not-settled k.arms.now k.trips k.per_trip c.args.first c.args.own in
    elim c.then-own-eq0.branch [
      | then-own-eq0-via-then-own-eq0 w ↦ none (λ some small fits. omega arith)
      | then-own-eq0-via-else-own-eq0+then-kept-gt-MAX_TRIP_ARMS w ↦ none (λ some small fits. omega arith)
      | then-own-eq0-via-else-own-eq0+else-kept-gt-MAX_TRIP_ARMS+then-kept-own w ↦ none (λ some small fits. omega arith)
      | then-own-eq0-via-else-own-eq0+else-kept-gt-MAX_TRIP_ARMS+else-kept-own+then-kept-own-2 w ↦ none (λ some small fits. omega arith)
    ]

pub returns : goal.returns
returns c = let k = c.args.kept in
    settled-by k.arms.now k.trips k.per_trip c.args.first c.args.own _ _ (omega arith) (omega arith) (omega arith) c.leads_over.ensures c.both_attained.ensures
