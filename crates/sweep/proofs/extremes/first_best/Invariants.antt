-- Among the numbers so far the place is that of the best.
use Rattle.std.proofs.Common.{ℕ, ◌<◌, Bool}
use Rattle.std.specs.Cmp.{IsStrictWeakOrder}
use Rattle.std.specs.List.{IsFirstBest}
use Rattle.sweep.specs.Tests.{Tests}
use Rattle.sweep.proofs.extremes.first_best.Given as goal

abbrev pub invariant-loop-k : goal.invariant-loop-k
invariant-loop-k g l =
    (l.best < l.k)
    × ((test : ℕ → ℕ → Bool) → IsStrictWeakOrder test → Tests (λ a b r. g.F.Fn.post l.beats (a, (b, tt)) r) test → IsFirstBest test l.numbers l.k l.best)
