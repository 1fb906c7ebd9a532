-- The two forms and their difference are folded with the parameters; the stride and its size, which have 16 bits, fit 64.
use mathlib.Core.Path.{sym, ◌∙◌, ap}
use mir.Facts.{to_z-of_z}
use mathlib.Core.Bool.{Bool, cond}
use Rattle.meaning.specs.Form.{Form, subtract}
use Rattle.meaning.specs.Record.{stride_size, counts_down}
use Rattle.meaning.specs.Time.{difference}
use Rattle.form.specs.Forms.{folded}
use Rattle.form.specs.Packed.{form_of}
use Rattle.loops.proofs.Words.{field-size, field-sign}
use mir.Syntax.{w16, w64}
use Rattle.loops.proofs.forms.forms_of.Goals as goal

pub returns : goal.returns
unfolding difference stride_size counts_down
returns c =
    let given = c.args in
    let lower : Form = form_of given.source.lower in
    let upper : Form = form_of given.source.upper in
    let down = c.counts_down-down.ensures ∙ sym (field-sign given.source.stride (record { sfits = c.struct_told-1.given.1.1.0.1 })) in
    record {
      size_is = c.from.ensures ∙ c.stride_size.ensures ∙ field-size given.source.stride (record { sfits = c.struct_told-1.given.1.1.0.1 });
      stride_is = to_z-of_z {w = w64} (record { sfits = c.from-2.type_inv }) ∙ c.from-2.ensures ∙ to_z-of_z {w = w16} (record { sfits = c.struct_told-1.given.1.1.0.1 });
      down_is = down;
      asked_is = to_z-of_z {w = w64} (record { sfits = c.asked_difference.type_inv }) ∙ c.asked_difference.ensures;
      lower_is = c.fold.ensures ∙ ap (folded given.parameters) c.from-3.ensures;
      upper_is = c.fold-2.ensures ∙ ap (folded given.parameters) c.from-4.ensures;
      difference_is =
          c.fold-3.ensures
          ∙ ap (folded given.parameters) (c.difference_of-apart.ensures ∙ ap (λ (b : Bool). cond b (subtract lower upper) (subtract upper lower)) down);
    }
