-- The offsets of the code's reasons have 16 bits, and so are below the limit.
use mathlib.Core.List.{List}
use native.Mathlib.Omega.{arith}
use mir.Val.{Val}
use denote.Laws.{Is}
use Rattle.meaning.specs.ReasonLine.{OffsetsBelow}
use Rattle.reasons.specs.declared.Reason.{Reason}
use Rattle.reasons.specs.declared.Reason.TheVariants.{HoldsLoop, TooFewTrips, UnevenIn}
use Rattle.reasons.specs.View.{reason_in}
use Rattle.reasons.specs.contracts.Reason as reason-row

pub reason-fits : (r : Reason) (vs : List Val) → Is reason-row.the_row r vs → OffsetsBelow (reason_in r)
unfolding OffsetsBelow
reason-fits (HoldsLoop c) vs h = omega arith
reason-fits (TooFewTrips k) vs h = omega arith
reason-fits (UnevenIn k m) vs h = (omega arith, omega arith)
