-- The line of the reason is put where the loop's own ends.
use native.Mathlib.Omega.{arith}
use Rattle.meaning.specs.Program.{report_lines}
use Rattle.encoding.proofs.Appending.{and_then}
use Rattle.text.proofs.lines.put_report.Goals as goal

pub returns : goal.returns
unfolding report_lines
returns c =
    record {
      appended = and_then c.put_loop_line-at.ensures.appended c.put_reason.ensures.appended;
      short = omega (arith, c.put_loop_line-at.ensures.short, c.put_reason.ensures.short);
    }
