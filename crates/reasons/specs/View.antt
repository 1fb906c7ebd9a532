-- The code's reason, and what was found, as the meaning's.
use Rattle.std.specs.Prelude as Std
use Rattle.std.specs.Prelude.{Some, None}
use Rattle.std.proofs.Math.Option.{Option, none, some}
use Rattle.meaning.specs.Reason.{Reason, holds_loop, too_few_trips, uneven_in}
use Rattle.reasons.specs.declared.Reason as Code
use Rattle.reasons.specs.declared.Reason.TheVariants as reason

abbrev pub reason_in : Code.Reason → Reason
reason_in (reason.HoldsLoop c) = holds_loop c
reason_in (reason.TooFewTrips k) = too_few_trips k
reason_in (reason.UnevenIn k m) = uneven_in k m

abbrev pub found_in : Std.Option Code.Reason → Option Reason
found_in (Some r) = some (reason_in r)
found_in None = none
