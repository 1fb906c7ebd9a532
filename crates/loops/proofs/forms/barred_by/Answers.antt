-- The digits of the loops inside the innermost choice are the lowest ones.
use native.Mathlib.Omega.{arith}
use Rattle.loops.proofs.Choices.{barred-read}
use Rattle.loops.proofs.forms.barred_by.Goals as goal

pub returns : goal.returns
returns c os e =
    barred-read c.args.here os e (omega (arith, c.well_formed)) c.trailing_ones-inside.ensures c.saturating_sub-choice.ensures c.checked_shr.result c.checked_shr.ensures
    c.unwrap_or-beyond.ensures c.saturating_sub.ensures
