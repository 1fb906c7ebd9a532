-- The invariants: the tests of the records from K on settle what is found, and those of K against the loops from M on settle what is found of K.
use mathlib.Core.Path.{refl, sym, ap, ◌∙◌}
use Prim.Native.Nat.{ℕ, min}
use Rattle.meaning.specs.Limits.{index_factors}
use Rattle.layout.specs.Rows.{role_number, loop_role}
use Rattle.layout.proofs.Roles.{role-found, role-other}
use Rattle.planner.specs.Reasons.{loop_tests_at, loop_tests_inside}
use Rattle.planner.proofs.Searching.{search-done, search-found, search-next, search-start-at}
use Rattle.planner.proofs.Searching.{even-passes, few-fails, left-around, other-passes, uneven-fails}
use Rattle.planner.proofs.reason.first_loop.Goals as goal

pub loop-k-init : goal.loop-k-init
unfolding loop_tests_inside
loop-k-init c =
    let arrays = c.args.arrays.now in
    search-start-at (loop_tests_at arrays.rows arrays.differences arrays.facts) c.args.number c.depth_at-depth.result c.depth_at-depth.ensures c.end_at-k-end.ensures

pub loop-k-preserved-then-ne : goal.loop-k-preserved-then-ne
unfolding role_number
loop-k-preserved-then-ne c =
    let arrays = c.args.arrays.now in
    search-next c.loop-k.invariant c.loop-k-test.true
    (other-passes arrays.rows arrays.differences arrays.facts c.depth_at-depth.result c.loop-k.k (role-other loop_role refl _ c.role_at.ensures c.ne.ensures c.if-ne.true))

pub loop-m-preserved : goal.loop-m-preserved
loop-m-preserved c =
    let arrays = c.args.arrays.now in
    search-next c.loop-m.invariant c.loop-m-test.true
    (even-passes arrays.rows arrays.differences c.loop-k.k c.loop-m.m c.loop_at-of_k.ensures c.uneven_in.ensures c.if-uneven_in.false)

pub loop-k-preserved : goal.loop-k-preserved
unfolding role_number
loop-k-preserved c =
    let arrays = c.args.arrays.now in
    search-next c.loop-k.invariant c.loop-k-test.true
    (left-around arrays.rows arrays.differences arrays.facts c.depth_at-depth.result c.loop-k.k (role-found loop_role refl _ c.role_at.ensures c.ne.ensures c.if-ne.false) c.loop_at-of_k.ensures c.enough_at.ensures c.if-not-enough_at.false
    (c.min-last.ensures ∙ ap (λ (n : ℕ). min n index_factors) c.depth_at.ensures)
    ∙ sym (search-done c.loop-m.invariant c.loop-m-test.false))

pub returns : goal.returns
returns c = search-done c.loop-k.invariant c.loop-k-test.false

pub returns-then-not-enough_at : goal.returns-then-not-enough_at
unfolding role_number
returns-then-not-enough_at c =
    let arrays = c.args.arrays.now in
    search-found c.loop-k.invariant c.loop-k-test.true
    (few-fails arrays.rows arrays.differences arrays.facts c.depth_at-depth.result c.loop-k.k (role-found loop_role refl _ c.role_at.ensures c.ne.ensures c.if-ne.false) c.loop_at-of_k.ensures c.enough_at.ensures c.if-not-enough_at.true
    c.place_at.ensures)

pub returns-then-uneven_in : goal.returns-then-uneven_in
unfolding role_number
returns-then-uneven_in c =
    let arrays = c.args.arrays.now in
    let test =
    uneven-fails arrays.rows arrays.differences c.loop-k.k c.loop-m.m c.loop_at-of_k.ensures
    c.uneven_in.ensures c.if-uneven_in.true c.place_at-then-uneven_in.ensures
    c.loop_around-outer.ensures c.place_at-then-uneven_in-2.ensures in
    search-found c.loop-k.invariant c.loop-k-test.true
    (left-around arrays.rows arrays.differences arrays.facts c.depth_at-depth.result c.loop-k.k (role-found loop_role refl _ c.role_at.ensures c.ne.ensures c.if-ne.false) c.loop_at-of_k.ensures c.enough_at.ensures c.if-not-enough_at.false
    (c.min-last.ensures ∙ ap (λ (n : ℕ). min n index_factors) c.depth_at.ensures)
    ∙ sym (search-found c.loop-m.invariant c.loop-m-test.true test))
