-- For each reason its parts are put one after another, so that together they are its line.
use mathlib.Core.Path.{sym, ap}
use mathlib.Core.List.{List}
use Prim.Native.Nat.{ℕ}
use native.Mathlib.Omega.{arith}
use Rattle.meaning.specs.Text.{text, decimal}
use Rattle.meaning.specs.ReasonLine.{reason_line}
use Rattle.encoding.proofs.Appending.{same_bytes, and_then}
use Rattle.reasons.specs.declared.Reason.{Reason}
use Rattle.reasons.specs.View.{reason_in}
use Rattle.reasons.proofs.line.put_reason_line.Goals as goal

abbrev line_of : Reason → List ℕ
line_of reason = reason_line (reason_in reason)

pub returns-in-HoldsLoop : goal.returns-in-HoldsLoop
unfolding reason_line text
returns-in-HoldsLoop c =
    let line = and_then c.put_numbered-at.ensures.appended c.put.ensures in
    let whole = same_bytes (ap line_of (sym c.in-HoldsLoop.is)) line in
    record {
      appended = whole;
      short = (whole.ends, omega arith);
    }

pub returns-in-TooFewTrips : goal.returns-in-TooFewTrips
unfolding reason_line text
returns-in-TooFewTrips c =
    let line = and_then c.put_numbered-at-in-TooFewTrips.ensures.appended c.put-in-TooFewTrips.ensures in
    let whole = same_bytes (ap line_of (sym c.in-TooFewTrips.is)) line in
    record {
      appended = whole;
      short = (whole.ends, omega arith);
    }

pub returns-in-UnevenIn : goal.returns-in-UnevenIn
unfolding reason_line text
returns-in-UnevenIn c =
    let line = and_then (and_then c.put_uneven_start-at.ensures.appended (same_bytes (ap decimal c.from.ensures) c.put_decimal-at.ensures.appended))
    c.put-in-UnevenIn.ensures in
    let whole = same_bytes (ap line_of (sym c.in-UnevenIn.is)) line in
    record {
      appended = whole;
      short = (whole.ends, omega arith);
    }
