-- Forms at the widths of a sheet as the meaning's.
use Rattle.std.specs.Prelude.{pos, replicate}
use Rattle.meaning.specs.Limits.{index_factors, parameter_factors}
use Rattle.meaning.specs.Form.{Form}
use Rattle.form.specs.declared.packed.PackedForm.{PackedForm}

-- a form of the meaning has just these three parts
abbrev pub form_of : PackedForm → Form
form_of f = record { constant = f.constant; index = f.index; parameter = f.parameter }

-- the same the other way
abbrev pub packed : Form → PackedForm
packed f = record { constant = f.constant; index = f.index; parameter = f.parameter }

-- the form whose every part is 0
abbrev pub blank_form : PackedForm
blank_form = record { constant = pos 0; index = replicate index_factors (pos 0); parameter = replicate parameter_factors (pos 0) }
