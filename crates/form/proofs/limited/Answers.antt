-- A number beyond the limit is 0, any other is itself, as in the definition.
use Rattle.std.proofs.Common.{◌≤◌, ◌<◌, nat_abs, sym, ap, ◌∙◌, arith}
use mir.Facts.{to_z-of_z}
use Rattle.form.specs.Forms.{size_limit}
use Rattle.form.proofs.Reckoned.{bounded-small, bounded-large}
use Rattle.form.proofs.limited.Goals as goal

pub returns-then-unsigned_abs-le-LIMIT : goal.returns-then-unsigned_abs-le-LIMIT
returns-then-unsigned_abs-le-LIMIT c =
    let exact = to_z-of_z c.ranges.x in
    exact ∙ sym (bounded-small c.args.x (let h : nat_abs c.args.x ≤ size_limit = omega (arith, ap nat_abs exact) in h))

pub returns-else-unsigned_abs-le-LIMIT : goal.returns-else-unsigned_abs-le-LIMIT
returns-else-unsigned_abs-le-LIMIT c =
    let exact = to_z-of_z c.ranges.x in
    sym (bounded-large c.args.x (let h : size_limit < nat_abs c.args.x = omega (arith, ap nat_abs exact) in h))
