-- The tests of the costs, of the stride and of both forms' factors are together those of the definition.
use mathlib.Core.Path.{ap, ◌∙◌}
use mathlib.Core.Logic.{inl, inr, ⊎_elim}
use native.Mathlib.Omega.{arith}
use mir.Syntax.{w16}
use lib.IntN.{nat_abs}
use borrow.Author.Tests.{ltb-true, ltb-false}
use Rattle.encoding.proofs.Patterns.{kept}
use Rattle.records.proofs.Ranges.{cost-over, skip-over, stride-off, lower-bad, upper-decides}
use Rattle.records.proofs.loops.Loop.in_range.Goals as goal

pub returns-then-start-gt-MAX_COST : goal.returns-then-start-gt-MAX_COST
returns-then-start-gt-MAX_COST c os d =
    let step = c in
    let start = step in
    let a = start.args in
    cost-over os d a.body.now a.skips start.unsigned16_at-start.ensures step.unsigned16_at-step.ensures
    (⊎_elim (λ w. inl (omega arith)) (λ w. inr (omega (arith, ltb-true))) c.then-start-gt-MAX_COST.either)

pub returns-then-skip-gt-MAX_COST : goal.returns-then-skip-gt-MAX_COST
returns-then-skip-gt-MAX_COST c os d =
    let skip = c in
    let a = skip.args in
    skip-over os d a.body.now a.skips skip.skip_cycles-skip.ensures c.if-skip-gt-MAX_COST.true

pub returns-then-size-lt-MIN_STRIDE : goal.returns-then-size-lt-MIN_STRIDE
returns-then-size-lt-MIN_STRIDE c os d =
    let field = c in
    let a = field.args in
    stride-off os d a.body.now a.skips (c.stride_size-size.ensures ∙ ap nat_abs (kept {w = w16} (record { sfits = field.signed16_at.type_inv }) field.signed16_at.ensures))
    (⊎_elim (λ w. inl (omega arith)) (λ w. inr (omega (arith, ltb-true))) c.then-size-lt-MIN_STRIDE.either)

pub returns-then-factors_enclosed : goal.returns-then-factors_enclosed
returns-then-factors_enclosed c os d =
    let lower = c in
    let stride = lower in
    let field = stride in
    let skip = field in
    let step = skip in
    let start = step in
    let a = start.args in
    upper-decides os d a.body.now a.skips start.unsigned16_at-start.ensures step.unsigned16_at-step.ensures skip.skip_cycles-skip.ensures
    (stride.stride_size-size.ensures ∙ ap nat_abs (kept {w = w16} (record { sfits = field.signed16_at.type_inv }) field.signed16_at.ensures))
    (omega arith) (omega (arith, ltb-false)) field.if-skip-gt-MAX_COST.false (omega arith) (omega (arith, ltb-false))
    lower.factors_enclosed.ensures c.if-factors_enclosed.true c.factors_enclosed-then-factors_enclosed.ensures

pub returns-else-factors_enclosed : goal.returns-else-factors_enclosed
returns-else-factors_enclosed c os d =
    let lower = c in
    let stride = lower in
    let field = stride in
    let skip = field in
    let step = skip in
    let start = step in
    let a = start.args in
    lower-bad os d a.body.now a.skips start.unsigned16_at-start.ensures step.unsigned16_at-step.ensures skip.skip_cycles-skip.ensures
    (stride.stride_size-size.ensures ∙ ap nat_abs (kept {w = w16} (record { sfits = field.signed16_at.type_inv }) field.signed16_at.ensures))
    (omega arith) (omega (arith, ltb-false)) field.if-skip-gt-MAX_COST.false (omega arith) (omega (arith, ltb-false))
    lower.factors_enclosed.ensures c.if-factors_enclosed.false
