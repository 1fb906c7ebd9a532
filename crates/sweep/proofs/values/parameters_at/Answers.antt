-- The value takes its parameter's place.
use mathlib.Core.Path.{ap, ◌∙◌}
use Prim.Native.Nat.{◌-◌}
use lib.IntN.{ℤ}
use lib.ListN.{set}
use mir.Facts.{to_z-of_z}
use Rattle.ranges.specs.ParameterRange.{parameters_with}
use mir.Syntax.{w16}
use Rattle.sweep.proofs.values.parameters_at.Goals as goal

pub returns : goal.returns
unfolding parameters_with
returns c =
    let a = c.args in
    ap (λ (z : ℤ). set a.parameters (a.range.number - 1) z) (to_z-of_z {w = w16} (record { sfits = c.value_at.type_inv }) ∙ c.value_at.ensures)
