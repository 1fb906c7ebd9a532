-- The rows of the three loops that can stand around get their pushes on the new index; then its own row is stored, with its stride alone.
use mathlib.Core.Path.{◌≡◌, ap, ◌∙◌}
use mathlib.Core.List.{[], ◌∷◌}
use native.Mathlib.Omega.{arith}
use lib.IntN.{pos}
use lib.ListN.{set}
use mir.Facts.{to_z-of_z}
use Rattle.form.specs.Forms.{wide_form}
use Rattle.loops.specs.Reckoned.{pushes_with, own_row}
use Rattle.loops.proofs.Pushes.{pushed_rows}
use mir.Syntax.{w64}
use Rattle.loops.proofs.forms.pushes_with.Goals as goal

pub returns : goal.returns
unfolding pushes_with own_row
returns c =
    let given = c.args in
    let own = to_z-of_z {w = w64} (record { sfits = c.struct_told-1.given.1.0.1 }) in
    let all : c.loop-m.m ≡ 3 = omega (arith, c.loop-m-test.false, c.loop-m.auto.m-end) in
    let rows = c.loop-m.invariant ∙ ap (pushed_rows (wide_form given.forms.lower) given.pushes given.depth) all in
    λ i. set (rows i) given.depth (set (pos 0 ∷ pos 0 ∷ pos 0 ∷ pos 0 ∷ []) given.depth (own i))
