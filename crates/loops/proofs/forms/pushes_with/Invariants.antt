-- The invariant: the rows of the first `m` loops have their pushes on the new index.
use mathlib.Core.Path.{◌≡◌}
use Rattle.form.specs.Forms.{wide_form}
use Rattle.loops.proofs.Pushes.{pushed_rows}
use Rattle.loops.proofs.forms.pushes_with.Given as goal

abbrev pub invariant-loop-m : goal.invariant-loop-m
invariant-loop-m l = l.next ≡ pushed_rows (wide_form l.fn.forms.lower) l.fn.pushes l.fn.depth l.m
