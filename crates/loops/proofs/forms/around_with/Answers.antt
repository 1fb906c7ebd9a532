-- The entry at `depth` is set to the smallest and the largest index and the start that the forms give; the other entries stay.
use mathlib.Core.Path.{◌∙◌, ap}
use mathlib.Core.Bool.{cond}
use lib.ListN.{set}
use mir.Facts.{to_z-of_z}
use Rattle.meaning.specs.Range.{Range, range_up, range_down}
use Rattle.loops.specs.Reckoned.{around_with}
use mir.Syntax.{w64}
use Rattle.loops.proofs.forms.around_with.Goals as goal

pub returns : goal.returns
unfolding around_with
returns c =
    let given = c.args in
    let index =
    c.index_range-index.ensures
    ∙ (λ i. cond given.forms.down range_down range_up (c.range-low.ensures i) (c.range-up.ensures i)) in
    let least = to_z-of_z {w = w64} (record { sfits = c.struct_told-1.given.0.1 }) ∙ ap (λ (r : Range). r.lo) index in
    let most = to_z-of_z {w = w64} (record { sfits = c.struct_told-2-1.given.1.0.1 }) ∙ ap (λ (r : Range). r.hi) index in
    let start = to_z-of_z {w = w64} (record { sfits = c.at.type_inv }) ∙ c.at.ensures in
    λ i. record {
      lo = set given.around.lo given.depth (least i);
      hi = set given.around.hi given.depth (most i);
      starts = set given.around.starts given.depth (start i);
    }
