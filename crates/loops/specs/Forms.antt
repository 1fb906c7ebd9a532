-- What the code takes from a loop's record: its stride and its forms, with the parameters' shares in their constants.
use Rattle.std.specs.Prelude.{◌≡◌, List, ℤ}
use Rattle.meaning.specs.Record.{Loop, stride_size, counts_down}
use Rattle.meaning.specs.Time.{difference}
use Rattle.meaning.specs.Closed.{asked_difference}
use Rattle.form.specs.Forms.{wide_form, folded}
use Rattle.loops.specs.declared.forms.Forms.{Forms}

pub record FormsOf (l : Loop) (parameters : List ℤ) (forms : Forms) : Type 0 where
  pub size_is : forms.size ≡ stride_size l
  pub stride_is : forms.stride ≡ l.stride
  pub down_is : forms.down ≡ counts_down l
  pub asked_is : forms.asked ≡ asked_difference l
  pub lower_is : wide_form forms.lower ≡ folded parameters l.lower
  pub upper_is : wide_form forms.upper ≡ folded parameters l.upper
  pub difference_is : wide_form forms.difference ≡ folded parameters (difference l)
