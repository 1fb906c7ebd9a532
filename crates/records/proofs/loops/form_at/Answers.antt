-- The constant and the seven factors are those that stand one after the other from the offset on.
use mathlib.Core.List.{[], ◌∷◌}
use mir.Syntax.{w8, w16}
use Rattle.meaning.specs.Form.{form_at}
use Rattle.encoding.proofs.Patterns.{kept}
use Rattle.records.proofs.loops.form_at.Goals as goal

pub returns : goal.returns
unfolding form_at
returns c =
    let k0 = kept {w = w16} (record { sfits = c.signed16_at.type_inv }) c.signed16_at.ensures in
    let k1 = kept {w = w8} (record { sfits = c.signed8_at.type_inv }) c.signed8_at.ensures in
    let k2 = kept {w = w8} (record { sfits = c.signed8_at-2.type_inv }) c.signed8_at-2.ensures in
    let k3 = kept {w = w8} (record { sfits = c.signed8_at-3.type_inv }) c.signed8_at-3.ensures in
    let k4 = kept {w = w8} (record { sfits = c.signed8_at-4.type_inv }) c.signed8_at-4.ensures in
    let k5 = kept {w = w8} (record { sfits = c.signed8_at-5.type_inv }) c.signed8_at-5.ensures in
    let k6 = kept {w = w8} (record { sfits = c.signed8_at-6.type_inv }) c.signed8_at-6.ensures in
    let k7 = kept {w = w8} (record { sfits = c.signed8_at-7.type_inv }) c.signed8_at-7.ensures in
    λ i. record { constant = k0 i; index = k1 i ∷ k2 i ∷ k3 i ∷ []; parameter = k4 i ∷ k5 i ∷ k6 i ∷ k7 i ∷ [] }
