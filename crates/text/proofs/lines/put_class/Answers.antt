-- For each class the bytes put are those of its word, and no more than six.
use mathlib.Core.Path.{sym, ap}
use mathlib.Core.List.{List}
use Prim.Native.Nat.{ℕ}
use native.Mathlib.Omega.{arith}
use Rattle.meaning.specs.Text.{text}
use Rattle.meaning.specs.Program.{class_name}
use Rattle.planner.specs.declared.report.Class.{Class}
use Rattle.planner.specs.Reports.{class_in}
use Rattle.encoding.proofs.Appending.{same_bytes}
use Rattle.text.proofs.lines.put_class.Goals as goal

abbrev word : Class → List ℕ
word class = text (class_name (class_in class))

pub returns-in-Closed : goal.returns-in-Closed
unfolding text class_name
returns-in-Closed c =
    record {
      appended = same_bytes (ap word (sym c.in-Closed.is)) c.put.ensures;
      short = omega arith;
    }

pub returns-in-Ranked : goal.returns-in-Ranked
unfolding text class_name
returns-in-Ranked c =
    record {
      appended = same_bytes (ap word (sym c.in-Ranked.is)) c.put-in-Ranked.ensures;
      short = omega arith;
    }

pub returns-in-Walked : goal.returns-in-Walked
unfolding text class_name
returns-in-Walked c =
    record {
      appended = same_bytes (ap word (sym c.in-Walked.is)) c.put-in-Walked.ensures;
      short = omega arith;
    }
