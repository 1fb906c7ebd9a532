-- Beyond the most open records it stays; else each number is one record more, and fits.
use mathlib.Core.Path.{◌≡◌, refl}
use mathlib.Core.Bool.{Bool, true, false, cond}
use mathlib.Core.Logic.{inl, inr, ⊎_elim}
use mir.Val.{bool_byte}
use native.Mathlib.Omega.{arith}
use borrow.Author.Tests.{leb-true, leb-false}
use Rattle.sheet.proofs.Openings.{extended-same, extended-one}
use Rattle.sheet.proofs.nesting.Nesting.extended.Goals as goal

digit-is : (b : Bool) → bool_byte b ≡ cond b 1 0
digit-is true = refl
digit-is false = refl

pub returns-then-self-ge-MAX_OPEN : goal.returns-then-self-ge-MAX_OPEN
returns-then-self-ge-MAX_OPEN c =
    let a = c.args in
    extended-same a.self (cond a.is_loop 1 0) (⊎_elim (λ w. inl (omega arith)) (λ w. inr (omega (arith, leb-true))) c.then-self-ge-MAX_OPEN.either)

pub returns : goal.returns
returns c =
    let a = c.args in
    rw (c.from.ensures, c.from-2.ensures, digit-is a.is_loop) (extended-one a.self (cond a.is_loop 1 0) (omega (arith, leb-false)) (omega (arith, leb-false)))
