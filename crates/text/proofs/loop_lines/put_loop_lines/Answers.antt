-- A record's lines follow those of the records before it, and there is room for them as later records have no fewer reports.
use mathlib.Core.Path.{◌≡◌, refl, ap}
use Prim.Native.Nat.{◌+◌, ◌-◌}
use native.Mathlib.Omega.{arith}
use lib.ListN.{length}
use Rattle.meaning.specs.Program.{loop_lines}
use Rattle.text.specs.Reports.{reports_before}
use Rattle.encoding.proofs.Appending.{nothing, same_bytes, and_then, keeps-length}
use Rattle.text.proofs.LoopLines.{count-grows, next-count, next-lines, no_lines}
use Rattle.text.proofs.loop_lines.put_loop_lines.Goals as goal

pub loop-number-init : goal.loop-number-init
loop-number-init c =
    let a = c.args in
    (same_bytes (no_lines a.arrays.now) (nothing (omega arith)), omega arith, refl)

pub put_record_lines-at-requires : goal.put_record_lines-at-requires
put_record_lines-at-requires c =
    let l = c.loop-number in
    let a = c.args in
    let left = a.count - (l.number + 1) in
    let grows = count-grows a.arrays.now (l.number + 1) left in
    let all = ap (λ n. length (reports_before a.arrays.now n))
    (let e : l.number + 1 + left ≡ a.count = omega (arith, c.loop-number-test.true) in e) in
    omega (arith, next-count a.arrays.now l.number, grows, all, l.invariant, c.requires)

pub loop-number-preserved : goal.loop-number-preserved
loop-number-preserved c =
    let l = c.loop-number in
    let a = c.args in
    let line = c.put_record_lines-at.ensures in
    let added = and_then l.invariant.0 line.appended in (
      same_bytes (next-lines a.arrays.now l.number) added,
      omega (arith, line.short, l.invariant.1, next-count a.arrays.now l.number),
      keeps-length added,
    )

pub returns : goal.returns
returns c =
    let l = c.loop-number in
    let a = c.args in
    let all : l.number ≡ a.count = omega (arith, c.loop-number-test.false) in
    same_bytes (ap (λ n. loop_lines (reports_before a.arrays.now n)) all) l.invariant.0
