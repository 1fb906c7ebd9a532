-- No trip where the largest D is negative; else its quotient by the stride plus 1.
use mathlib.Core.Path.{◌∙◌, ap}
use Prim.Native.Nat.{ℕ, ◌/◌, ◌+◌}
use Rattle.loops.proofs.Words.{no-trips, some-trips}
use Rattle.loops.proofs.forms.trips_over.Goals as goal

pub returns-then-most-lt0 : goal.returns-then-most-lt0
returns-then-most-lt0 c = no-trips c.args.most c.ranges.most c.if-most-lt0.true c.args.stride

pub returns : goal.returns
returns c =
    ap (λ (n : ℕ). n / c.args.stride + 1) c.unsigned_abs.ensures.value ∙ some-trips c.args.most c.ranges.most c.if-most-lt0.false c.args.stride
