-- Where no head is found the body is empty; else it is the part of the sheet that the head says, which lies within it.
use native.Mathlib.Omega.{arith}
use mathlib.Core.Path.{◌∙◌, ap}
use Rattle.std.specs.Prelude.{Ok}
use Rattle.sheet.proofs.Heads.{answer-stands, answer-body, answer-none}
use Rattle.sheet.proofs.head.body_at.Goals.{in_default-via-in-Ok+in_default, in_default-via-in_default}
use Rattle.sheet.proofs.head.body_at.Goals as goal

pub returns-in_default : goal.returns-in_default
returns-in_default c = answer-none c.args.sheet.now c.args.at c.head_at.result c.head_at.ensures λ h e.
    elim c.in_default.branch [
      | in_default-via-in-Ok+in_default w ↦ grind arith
      | in_default-via-in_default w ↦ let is = w.in_default.is in cc
    ]

pub overflow_add-result : goal.overflow_add-result
overflow_add-result c =
    let s = answer-stands c.args.sheet.now c.args.at c.head_at.ensures (c.in-Ok-Some.is ∙ ap Ok c.in-Ok-Some.field-0-is) in
    omega (arith, s.fits)

pub slice_bounds-result-end-2 : goal.slice_bounds-result-end-2
slice_bounds-result-end-2 c = (answer-stands c.args.sheet.now c.args.at c.head_at.ensures (c.in-Ok-Some.is ∙ ap Ok c.in-Ok-Some.field-0-is)).fits

pub returns : goal.returns
returns c = answer-body c.args.sheet.now c.args.at c.head_at.ensures (c.in-Ok-Some.is ∙ ap Ok c.in-Ok-Some.field-0-is)
