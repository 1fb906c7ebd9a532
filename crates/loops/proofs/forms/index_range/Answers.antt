-- By the loop's direction, one end is that of the lower form, the other the larger or the smaller of two.
use mathlib.Core.Path.{◌∙◌, ap₂}
use mir.Facts.{to_z-of_z}
use Rattle.whole.specs.Integer.{larger, smaller}
use Rattle.form.specs.Forms.{range_of}
use Rattle.form.proofs.Reckoned.{held}
use Rattle.loops.proofs.Words.{held_same, min-smaller, max-larger, index-range-down, index-range-up}
use mir.Syntax.{w64}
use Rattle.loops.proofs.forms.index_range.Goals as goal

pub returns-then-down : goal.returns-then-down
returns-then-down c =
    let up = held_same c.args.upper.lo (record { sfits = c.struct_told-1.given.0.1 }) in
    let low = held_same c.args.lower.hi (record { sfits = c.struct_told-then-down-1.given.1.0.1 }) in
    index-range-down (range_of c.args.lower) (range_of c.args.upper) c.if-down.true
    (to_z-of_z {w = w64} (record { sfits = c.min.type_inv }) ∙ c.min.ensures.value ∙ min-smaller (held w64 c.args.upper.lo) (held w64 c.args.lower.hi) ∙ ap₂ smaller up low) low

pub returns-else-down : goal.returns-else-down
returns-else-down c =
    let low = held_same c.args.lower.lo (record { sfits = c.struct_told-else-down-1.given.0.1 }) in
    let up = held_same c.args.upper.hi (record { sfits = c.struct_told-else-down-2-1.given.1.0.1 }) in
    index-range-up (range_of c.args.lower) (range_of c.args.upper) c.if-down.false
    low (to_z-of_z {w = w64} (record { sfits = c.max.type_inv }) ∙ c.max.ensures.value ∙ max-larger (held w64 c.args.lower.lo) (held w64 c.args.upper.hi) ∙ ap₂ larger low up)
