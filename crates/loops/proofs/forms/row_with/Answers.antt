-- Row `m` stays but for the entry at `depth`, which is the push that the form says.
use mathlib.Core.Path.{◌∙◌, ap}
use mathlib.Core.List.{[]}
use lib.ListN.{set, get_or}
use Rattle.loops.specs.Reckoned.{row_with}
use mir.Facts.{to_z-of_z}
use mir.Syntax.{w64}
use Rattle.loops.proofs.forms.row_with.Goals as goal

pub returns : goal.returns
unfolding row_with
returns c =
    let given = c.args in
    ap (set (get_or given.pushes given.m []) given.depth) (to_z-of_z {w = w64} (record { sfits = c.push.type_inv }) ∙ c.push.ensures)
