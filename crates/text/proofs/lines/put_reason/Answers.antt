-- A reason is put as its line; where there is none, nothing is put.
use mathlib.Core.Path.{sym, ap}
use native.Mathlib.Omega.{arith}
use Rattle.meaning.specs.ReasonLine.{reason_lines}
use Rattle.reasons.specs.View.{found_in}
use Rattle.encoding.proofs.Appending.{nothing, same_bytes}
use Rattle.text.proofs.lines.put_reason.Goals as goal

pub returns-in-Some : goal.returns-in-Some
unfolding reason_lines
returns-in-Some c =
    record {
      appended = same_bytes (sym (ap (λ f. reason_lines (found_in f)) c.in-Some.is)) c.put_reason_line.ensures.appended;
      short = c.put_reason_line.ensures.short.1;
    }

pub returns-in-None : goal.returns-in-None
unfolding reason_lines
returns-in-None c = record {
  appended = same_bytes (sym (ap (λ f. reason_lines (found_in f)) c.in-None.is)) (nothing (omega arith));
  short = omega arith;
}
