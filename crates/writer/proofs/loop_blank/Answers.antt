-- Equality with the blank loop compares field by field with 0.
use mathlib.Core.Path.{◌∙◌}
use Rattle.writer.proofs.Fits.{record-fits}
use Rattle.writer.proofs.Blanks.{loop-blank}
use Rattle.writer.proofs.loop_blank.Goals as goal

pub returns : goal.returns
returns c =
    let item = c.args.item in
    (rw c.blank.ensures at c.eq.ensures) ∙ loop-blank item (record-fits item _ c.well_formed.0).loop_fits
