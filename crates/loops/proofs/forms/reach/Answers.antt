-- The ceiling is the trips up to the largest D; the smallest D is compared with the one that closing asks.
use mathlib.Core.Path.{◌∙◌, ap, ap₂}
use lib.IntN.{ℤ}
use lib.Signed.{le_z}
use mir.Facts.{to_z-of_z}
use Rattle.meaning.specs.Time.{trip_count}
use Rattle.meaning.specs.Range.{Range}
use Rattle.loops.specs.Reckoned.{ceiling_within, enough_within}
use mir.Syntax.{w64}
use Rattle.loops.proofs.forms.reach.Goals as goal

pub returns : goal.returns
unfolding ceiling_within enough_within
returns c =
    let d = c.range-d.ensures in
    let least = to_z-of_z {w = w64} (record { sfits = c.struct_told-2-1.given.0.1 }) ∙ ap (λ (r : Range). r.lo) d in
    let most = to_z-of_z {w = w64} (record { sfits = c.struct_told-1.given.1.0.1 }) ∙ ap (λ (r : Range). r.hi) d in
    let asked = to_z-of_z c.ranges.asked in (
      c.trips_over.ensures ∙ ap (λ (z : ℤ). trip_count z c.args.stride) most,
      ap₂ le_z asked least,
    )
