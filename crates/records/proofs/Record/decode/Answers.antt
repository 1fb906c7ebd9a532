-- A blank record of the kind gets the fields of a work or of a loop; any other kind has none.
use mathlib.Core.Path.{sym}
use native.Mathlib.Omega.{arith}
use Rattle.records.proofs.ByKind.{decoded-work, decoded-loop, decoded-end, decoded-choice, decoded-next_arm, decoded-none}
use Rattle.records.proofs.Record.decode.Goals as goal

pub returns-in-Some-Work : goal.returns-in-Some-Work
returns-in-Some-Work c =
    let a = c.args in
    decoded-work a.kind a.body.now c.blank-blank.ensures (sym (rw c.in-Some-Work.field-0-is at c.in-Some-Work.ensures)) c.decode.ensures

pub returns-in-Some-Loop : goal.returns-in-Some-Loop
returns-in-Some-Loop c =
    let a = c.args in
    decoded-loop a.kind a.body.now c.blank-blank.ensures (sym (rw c.in-Some-Loop.field-0-is at c.in-Some-Loop.ensures)) c.decode-in-Some-Loop.ensures.fields
    c.decode-in-Some-Loop.ensures.blank

pub returns-in-Some-SkipLoop : goal.returns-in-Some-SkipLoop
returns-in-Some-SkipLoop c =
    let a = c.args in
    decoded-loop a.kind a.body.now c.blank-blank.ensures (sym (rw c.in-Some-SkipLoop.field-0-is at c.in-Some-SkipLoop.ensures)) c.decode-in-Some-SkipLoop.ensures.fields
    c.decode-in-Some-SkipLoop.ensures.blank

pub returns-in-Some-End : goal.returns-in-Some-End
returns-in-Some-End c =
    let a = c.args in
    let b = c.blank-blank.ensures in
    grind (arith, decoded-end a.kind a.body.now b, decoded-choice a.kind a.body.now b, decoded-next_arm a.kind a.body.now b)

pub returns-in-Some-End-2 : goal.returns-in-Some-End-2
returns-in-Some-End-2 c =
    let a = c.args in
    let none_named = decoded-none a.kind a.body.now c.blank-blank.ensures in
    grind (arith, none_named)
