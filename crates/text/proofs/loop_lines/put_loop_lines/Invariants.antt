-- The invariant: the lines of the first `number` records are appended.
use mathlib.Core.Path.{◌≡◌}
use Prim.Native.Nat.{◌+◌, ◌*◌, ◌≤◌}
use lib.ListN.{length}
use Rattle.meaning.specs.Program.{loop_lines}
use Rattle.encoding.specs.Append.{Appended}
use Rattle.text.specs.Limits.{report_limit}
use Rattle.text.specs.Reports.{reports_before}
use Rattle.text.proofs.loop_lines.put_loop_lines.Given as goal

abbrev pub invariant-loop-number : goal.invariant-loop-number
invariant-loop-number l =
    Appended l.initial.buffer l.start (loop_lines (reports_before l.arrays l.number)) l.buffer l.at
    × (l.at ≤ l.start + report_limit * length (reports_before l.arrays l.number))
    × (length l.buffer ≡ length l.initial.buffer)
