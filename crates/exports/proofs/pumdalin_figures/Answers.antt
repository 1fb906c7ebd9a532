-- What storing the figures leaves. Demand 3 follows from the number and the area.
use mathlib.Core.Path.{◌∙◌}
use mathlib.Core.List.{[], ◌∷◌}
use mir.Facts.{to_z-of_z}
use Rattle.planner.proofs.Parameters.{small-16}
use Rattle.exports.proofs.FiguresCalls.{promised}
use Rattle.exports.proofs.pumdalin_figures.Goals as goal

pub returns : goal.returns
returns c =
    let a = c.args in
    let f = c.ranges in
    let number = rw (to_z-of_z f.p1, to_z-of_z f.p2, to_z-of_z f.p3, to_z-of_z f.p4) at c.store_figures.ensures.number in
    let bytes = rw (to_z-of_z f.p1, to_z-of_z f.p2, to_z-of_z f.p3, to_z-of_z f.p4) at c.store_figures.ensures.bytes in
    let l =
    promised a.sheet.now (a.p1 ∷ a.p2 ∷ a.p3 ∷ a.p4 ∷ []) a.budget a.answer.now (small-16 a.p1 a.p2 a.p3 a.p4 f.p1 f.p2 f.p3 f.p4)
    (c.returned.ensures ∙ number, bytes) in
    record { number = l.0; bytes = l.1.0; demand3 = l.1.1.0; before = l.1.1.1.0; fewer = l.1.1.1.1 }
