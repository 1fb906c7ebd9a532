-- The invariant: the loop that is searched for stands before the last record that was passed. A record that is none leaves those before it.
use native.Mathlib.Omega.{arith}
use mathlib.Core.Path.{ap, sym, ◌∙◌, ◌≡◌}
use Prim.Native.Nat.{ℕ, ◌+◌, ◌-◌}
use Rattle.planner.specs.Reasons.{loop_around}
use Rattle.planner.proofs.Searching.{around-found, around-next}
use Rattle.planner.proofs.reason.loop_around.Goals as goal

pub returns-then-is_loop_with : goal.returns-then-is_loop_with
returns-then-is_loop_with c =
    let given = c.args in
    let i : ℕ = given.number - 1 - c.loop-back.back in
    let passed : i + 1 ≡ given.number - c.loop-back.back = omega (arith, c.loop-back-test.true) in
    around-found given.rows.now given.m i c.is_loop_with.ensures c.if-is_loop_with.true
    ∙ ap (loop_around given.rows.now given.m) passed
    ∙ sym c.loop-back.invariant

pub loop-back-preserved : goal.loop-back-preserved
loop-back-preserved c =
    let given = c.args in
    let i : ℕ = given.number - 1 - c.loop-back.back in
    let passed : given.number - c.loop-back.back ≡ i + 1 = omega (arith, c.loop-back-test.true) in
    let left : i ≡ given.number - (c.loop-back.back + 1) = omega (arith, c.loop-back-test.true) in
    c.loop-back.invariant
    ∙ ap (loop_around given.rows.now given.m) passed
    ∙ sym (around-next given.rows.now given.m i c.is_loop_with.ensures c.if-is_loop_with.false)
    ∙ ap (loop_around given.rows.now given.m) left

pub returns : goal.returns
unfolding loop_around
returns c =
    let given = c.args in
    let none : given.number - c.loop-back.back ≡ 0 = omega (arith, c.loop-back-test.false) in
    sym (c.loop-back.invariant ∙ ap (loop_around given.rows.now given.m) none)
