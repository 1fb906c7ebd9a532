-- A loop's report is put as its lines; a record without a report puts nothing, which is the text of no report.
use mathlib.Core.Path.{sym, ap, ◌∙◌}
use native.Mathlib.Omega.{arith}
use lib.ListN.{length}
use Rattle.meaning.specs.Program.{loop_lines}
use Rattle.planner.specs.Reports.{loop_report_in, report_in}
use Rattle.encoding.proofs.Appending.{nothing, same_bytes}
use Rattle.text.proofs.LoopLines.{one-report}
use Rattle.text.proofs.loop_lines.put_record_lines.Goals as goal

pub put_report-requires : goal.put_report-requires
put_report-requires c =
    let one = ap length (sym (ap report_in c.in-Some.is) ∙ c.report_of.ensures) in
    omega (arith, one, c.requires)

pub returns-in-Some : goal.returns-in-Some
returns-in-Some c =
    let reported = sym (ap report_in c.in-Some.is) ∙ c.report_of.ensures in record {
      appended = same_bytes (one-report (loop_report_in c.in-Some.report) ∙ ap loop_lines reported) c.put_report.ensures.appended;
      short = omega (arith, ap length reported, c.put_report.ensures.short);
    }

pub returns-in-None : goal.returns-in-None
unfolding loop_lines
returns-in-None c =
    let none = sym (ap report_in c.in-None.is) ∙ c.report_of.ensures in
    record {
      appended = same_bytes (ap loop_lines none) (nothing (omega arith));
      short = omega arith;
    }
