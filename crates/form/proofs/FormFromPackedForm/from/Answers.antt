-- A form less the blank one is the same form.
use mathlib.Core.Path.{◌≡◌, ap, ◌∙◌}
use lib.ListN.{length}
use borrow.Author.Rules.{rules}
use Rattle.meaning.specs.Limits.{index_factors, parameter_factors}
use Rattle.meaning.specs.Form as M
use Rattle.form.specs.Packed.{form_of}
use Rattle.form.proofs.FormLists.{subtract-blank}
use Rattle.form.proofs.FormFromPackedForm.from.Goals as goal

pub returns : goal.returns
returns c =
    let f = c.args.form in
    let hi : length f.index ≡ index_factors = search rules in
    let hp : length f.parameter ≡ parameter_factors = search rules in
    c.subtract.ensures ∙ ap (λ g. M.subtract (form_of f) (form_of g)) c.blank.ensures ∙ subtract-blank (form_of f) hi hp
