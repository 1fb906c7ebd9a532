-- What storing the answer over a range leaves. The promise follows from the number and the area.
use mathlib.Core.Path.{◌∙◌}
use mathlib.Core.List.{[], ◌∷◌}
use mir.Facts.{to_z-of_z}
use Rattle.ranges.specs.ParameterRange.{parameter_range}
use Rattle.exports.proofs.RangeCalls.{promised}
use Rattle.exports.proofs.pumdalin_range.Goals as goal

pub returns : goal.returns
returns c =
    let a = c.args in
    let f = c.ranges in
    let number =
    rw (to_z-of_z f.p1, to_z-of_z f.p2, to_z-of_z f.p3, to_z-of_z f.p4, to_z-of_z f.first, to_z-of_z f.last) at c.store_extremes.ensures.number in
    let bytes =
    rw (to_z-of_z f.p1, to_z-of_z f.p2, to_z-of_z f.p3, to_z-of_z f.p4, to_z-of_z f.first, to_z-of_z f.last) at c.store_extremes.ensures.bytes in
    let l =
    promised a.sheet.now (a.p1 ∷ a.p2 ∷ a.p3 ∷ a.p4 ∷ []) a.budget (parameter_range a.number a.first a.last) a.answer.now
    f.first.sfits f.last.sfits f.budget.fits (c.returned.ensures ∙ number, bytes) in
    record { number = l.0; bytes = l.1.0; promise = l.1.1 }
