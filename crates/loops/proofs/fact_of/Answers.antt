-- Below the limit the fact has the loop's ceiling, how many loops are barred and whether its smallest D is enough.
use mathlib.Core.Path.{sym, ap, ◌∙◌}
use lib.IntN.{ℤ}
use mir.Facts.{to_z-of_z}
use mir.Syntax.{w64}
use borrow.Author.Tests.{le-ltb}
use lib.Dec.{ltb}
use Rattle.std.specs.Prelude.{Some}
use Rattle.form.specs.Forms.{wide_form}
use Rattle.meaning.specs.Limits.{ceiling_limit}
use Rattle.loops.specs.Reckoned.{enough_within, fact_within}
use Rattle.loops.proofs.fact_of.Goals as goal

pub returns : goal.returns
unfolding fact_within
returns c =
    let given = c.args in
    let found = c.reach-found.ensures in
    let asked = to_z-of_z {w = w64} (record { sfits = c.struct_told-1.given.1.1.0.1 }) in
    let enough = found.1 ∙ ap (λ (z : ℤ). enough_within (wide_form given.forms.difference) z given.around) asked in
    let under = sym (ap (ltb ceiling_limit) found.0) ∙ le-ltb ceiling_limit _ c.if-found-gt-MAX_CEILING.false in
    rw under (λ i. Some (record { ceiling = found.0 i; choice = given.barred.choice; rank = given.barred.rank; enough = enough i }))
