-- A negative factor takes the upper end, any other the lower one.
use mathlib.Core.Path.{sym, ap, ◌∙◌}
use mathlib.Core.Bool.{Bool, cond}
use mir.Facts.{to_z-of_z}
use Rattle.form.proofs.end.Goals as goal

pub returns-then-factor-lt0 : goal.returns-then-factor-lt0
returns-then-factor-lt0 c =
    let start = c in
    to_z-of_z start.ranges.hi ∙ sym (ap (λ (b : Bool). cond b start.args.hi start.args.lo) (rw (to_z-of_z start.ranges.factor) at c.if-factor-lt0.true))

pub returns-else-factor-lt0 : goal.returns-else-factor-lt0
returns-else-factor-lt0 c =
    let start = c in
    to_z-of_z start.ranges.lo ∙ sym (ap (λ (b : Bool). cond b start.args.hi start.args.lo) (rw (to_z-of_z start.ranges.factor) at c.if-factor-lt0.false))
