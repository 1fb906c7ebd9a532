-- The invariant: the records before `at` are read, and what stands from there on settles the rest. The measure is what is left of the sheet.
use mathlib.Core.Path.{◌∙◌}
use native.Mathlib.Omega.{arith}
use Rattle.sheet.proofs.Refused.{passed-on}
use Rattle.sheet.proofs.Reading.{reading-start, reading-full, reading-refused, reading-forward, reading-next, reading-open, reading-done}
use Rattle.sheet.proofs.reader.check_sheet.Goals as goal

pub loop-at-init : goal.loop-at-init
loop-at-init c = reading-start c.args.sheet.now c.nothing-here.ensures

pub returns-then-count-ge-MAX_RECORDS : goal.returns-then-count-ge-MAX_RECORDS
returns-then-count-ge-MAX_RECORDS c = reading-full c.loop-at.invariant c.loop-at-test.true c.if-count-ge-MAX_RECORDS.true

pub overflow_add-at : goal.overflow_add-at
overflow_add-at c =
    let inv = c.loop-at.invariant in
    let told = c.in_ok-record.ensures inv.os inv.opens in
    let next = reading-next inv c.loop-at-test.true c.if-count-ge-MAX_RECORDS.false told in
    omega (arith, next.inside, c.well_formed)

pub loop-at-smaller : goal.loop-at-smaller
loop-at-smaller c =
    let inv = c.loop-at.invariant in
    let told = c.in_ok-record.ensures inv.os inv.opens in
    let forward = reading-forward inv c.loop-at-test.true c.if-count-ge-MAX_RECORDS.false told in
    omega (arith, forward, c.loop-at-test.true)

pub loop-at-preserved : goal.loop-at-preserved
loop-at-preserved c =
    let inv = c.loop-at.invariant in
    reading-next inv c.loop-at-test.true c.if-count-ge-MAX_RECORDS.false (c.in_ok-record.ensures inv.os inv.opens)

pub returns-in_err-record : goal.returns-in_err-record
returns-in_err-record c =
    let inv = c.loop-at.invariant in
    passed-on c.from_residual.result _ c.from_residual.ensures.1
    ∙ reading-refused inv c.loop-at-test.true c.if-count-ge-MAX_RECORDS.false (c.in_err-record.ensures inv.os inv.opens)

pub returns-then-here-ne0 : goal.returns-then-here-ne0
returns-then-here-ne0 c = reading-open c.loop-at.invariant c.loop-at-test.false c.if-here-ne0.true

pub returns : goal.returns
returns c = reading-done c.loop-at.invariant c.loop-at-test.false c.if-here-ne0.false
