-- Past the last row nothing is added; else the sum of the products with row `m`.
use Rattle.std.proofs.Common.{◌≡◌, [], map, length, get_or, rules, ap, ◌∙◌}
use borrow.Author.Tests.{ltb-false}
use mir.Syntax.{w64}
use Rattle.whole.specs.Integer.{dot}
use Rattle.meaning.specs.Closed.{push}
use Rattle.form.specs.Forms.{bounded, wide_form, push_of}
use Rattle.form.proofs.Reckoned.{InWidth}
use Rattle.form.proofs.FormLists.{at, dot-read, push-none}
use Rattle.form.proofs.Form.push.Goals as goal

pub returns-in_default : goal.returns-in_default
returns-in_default c =
    push-none (wide_form c.args.self) c.args.pushes c.args.m (ltb-false c.args.m (length c.args.pushes) (search rules))

pub returns : goal.returns
unfolding push_of push
returns c =
    let row = c.in-Some.field-0.now in
    let is : row ≡ get_or c.args.pushes c.args.m [] = search rules in
    let x : InWidth w64 (at row 0) = search rules in
    let y : InWidth w64 (at row 1) = search rules in
    let z : InWidth w64 (at row 2) = search rules in
    (dot-read c.args.self.index row (search rules) x y z c.dot.ensures).same ∙ ap (λ r. dot c.args.self.index (map bounded r)) is
