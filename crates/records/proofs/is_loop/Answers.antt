-- The numbers 2 and 6 are those of loops.
use mathlib.Core.Path.{sym, ap, ◌∙◌}
use mathlib.Core.Bool.{Bool, ◌||◌}
use Prim.Native.Nat.{ℕ}
use borrow.Author.Tests.{eq-eqb, ne_eqb}
use lib.Dec.{eqb}
use Rattle.meaning.specs.Record.{kind_number}
use Rattle.records.proofs.ByKind.{loop-numbers}
use Rattle.records.proofs.is_loop.Goals as goal

pub returns-then-kind-number : goal.returns-then-kind-number
unfolding kind_number
returns-then-kind-number c =
    let n = c.args.kind in
    eq-eqb n c.number.result c.if-kind-number.true
    ∙ sym (ap (λ (b : Bool). b || eqb n 6) (eq-eqb n 2 (c.if-kind-number.true ∙ c.number.ensures))) ∙ loop-numbers n

pub returns-else-kind-number : goal.returns-else-kind-number
unfolding kind_number
returns-else-kind-number c =
    let n = c.args.kind in
    ap (λ (m : ℕ). eqb n m) c.number-else-kind-number.ensures
    ∙ sym (ap (λ (b : Bool). b || eqb n 6) (ne_eqb n 2 (λ e. c.if-kind-number.false (e ∙ sym c.number.ensures)))) ∙ loop-numbers n
