-- A loop's report, from the numbers of a plan.
use Rattle.std.specs.Prelude.{List, [], ◌∷◌, cond, ℕ, eqb}
use Rattle.std.specs.Prelude as Std
use Rattle.std.specs.Prelude.{Some, None}
use Rattle.std.proofs.Math.Option.{Option, none}
use Rattle.meaning.specs.Closed.{LoopClass, closed_class, ranked_class, walked_class}
use Rattle.meaning.specs.Reason.{Reason}
use Rattle.reasons.specs.View.{found_in}
use Rattle.layout.specs.Rows.{role_number, loop_role, role_at, loop_at, offset_at}
use Rattle.layout.specs.Loops.{ceiling_at, limit_at, ranked_at}
use Rattle.planner.specs.declared.report.Class.{Class}
use Rattle.planner.specs.declared.report.Class.TheVariants as class
use Rattle.planner.specs.declared.report.LoopReport as Code
use Rattle.planner.specs.Closing.{class_by}
use Rattle.planner.specs.Reasons.{reason_at}
use Rattle.meaning.specs.Report.{LoopReport}

-- the code's class and report as the meaning's
abbrev pub class_in : Class → LoopClass
class_in class.Closed = closed_class
class_in class.Ranked = ranked_class
class_in class.Walked = walked_class

abbrev pub loop_report_in : Code.LoopReport → LoopReport
loop_report_in r = record { offset = r.offset; class = class_in r.class; ceiling = r.ceiling; reason = found_in r.reason }

abbrev pub report_in : Std.Option Code.LoopReport → List LoopReport
report_in (Some r) = loop_report_in r ∷ []
report_in None = []

-- the reason of a loop of this class, where one is found; a closed loop has none
unfoldable pub reason_by : LoopClass → Option Reason → Option Reason
reason_by closed_class found = none
reason_by ranked_class found = found
reason_by walked_class found = found

-- of the record with the number n: a loop's offset, its class, its ceiling, why it is not closed
unfoldable pub report_at : List ℕ → List ℕ → List ℕ → List ℕ → ℕ → List LoopReport
report_at rows differences facts limits n =
    let class : LoopClass = class_by (limit_at limits (loop_at rows n)) (ranked_at limits (loop_at rows n)) in
    cond (eqb (role_at rows n) (role_number loop_role))
    (record {
      offset = offset_at rows n;
      class = class;
      ceiling = ceiling_at facts (loop_at rows n);
      reason = reason_by class (reason_at rows differences facts n);
    } ∷ []) []
