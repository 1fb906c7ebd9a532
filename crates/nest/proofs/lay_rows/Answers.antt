-- The invariant: the rows of the records before `number` are stored, and the numbers carried are those of its position.
use native.Mathlib.Omega.{arith}
use mathlib.Core.Path.{ap, ◌∙◌}
use Rattle.nest.specs.Roles.{role_by, role_of_byte}
use Rattle.nest.proofs.RowWalk.{laying-start, laying-done, laying-at, laying-next}
use Rattle.sheet.proofs.SheetRecords.{few-records}
use Rattle.nest.proofs.Endings.{present, next-by-kind, next-inside}
use Rattle.nest.proofs.lay_rows.Goals as goal

pub loop-number-init : goal.loop-number-init
loop-number-init c = laying-start c.args.rows.now c.requires c.nothing.ensures

pub enclosing_after-requires : goal.enclosing_after-requires
enclosing_after-requires c =
    omega (arith, present (laying-at c.loop-number.invariant c.loop-number-test.true), few-records c.args.sheet.now)

pub loops_after-requires : goal.loops_after-requires
loops_after-requires c =
    omega (arith, present (laying-at c.loop-number.invariant c.loop-number-test.true), c.loop-number.invariant.loops-few, few-records c.args.sheet.now)

pub overflow_add-place : goal.overflow_add-place
overflow_add-place c =
    let here = laying-at c.loop-number.invariant c.loop-number-test.true in
    let next = next-by-kind here c.byte_at-kind.ensures c.body_length.ensures in
    record { fits = omega (arith, next, next-inside here, c.well_formed) }

pub overflow_add-place-in-loop-number : goal.overflow_add-place-in-loop-number
overflow_add-place-in-loop-number c =
    let here = laying-at c.loop-number.invariant c.loop-number-test.true in
    let next = next-by-kind here c.byte_at-kind.ensures c.body_length.ensures in
    record { fits = omega (arith, next, next-inside here, c.well_formed) }

pub loop-number-preserved : goal.loop-number-preserved
unfolding role_of_byte
loop-number-preserved c =
    let row = c.row_of-row.ensures _ c.loop-number.invariant.position in
    laying-next c.loop-number.invariant c.loop-number-test.true row c.put_row.ensures c.byte_at-kind.ensures (c.role_of-role.ensures ∙ ap role_by c.of.ensures)
    c.enclosing_after.ensures c.loops_after.ensures c.after-place.ensures.«open» c.body_length.ensures

pub returns : goal.returns
returns c = laying-done c.loop-number.invariant c.loop-number-test.false
