-- Where nothing is open, or a loop would close and none is open, it stays; else each number is one record less, without wrapping.
use mathlib.Core.Logic.{inl, inr, ⊎_elim}
use native.Mathlib.Omega.{arith}
use borrow.Author.Tests.{ltb-true, ltb-false}
use Rattle.sheet.proofs.Openings.{closed_same, closed-one}
use Rattle.sheet.proofs.nesting.Nesting.closed.Goals as goal

pub returns-then-self-eq0 : goal.returns-then-self-eq0
returns-then-self-eq0 c = closed_same c.args.self (⊎_elim (λ w. inl (omega arith)) (λ w. inr (omega (arith, ltb-true))) c.then-self-eq0.either)

pub returns : goal.returns
returns c = closed-one c.args.self (λ z. omega arith) (omega (arith, ltb-false))
