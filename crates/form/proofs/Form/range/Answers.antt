-- Both ends are the constant within the limit plus the smallest sum, once with the ends of each index exchanged, and fit 64 bits.
use mathlib.Core.Path.{◌∙◌}
use native.Mathlib.Omega.{arith}
use Rattle.form.specs.Forms.{wide_form}
use Rattle.form.proofs.Reckoned.{limited, known, add}
use Rattle.form.proofs.FormLists.{range-lo, range-hi}
use Rattle.form.proofs.Form.range.Goals as goal

pub overflow_add-result : goal.overflow_add-result
overflow_add-result c =
    let told = c in
    let start = told in
    let within = limited {z = start.args.self.constant} (record { sfits = told.struct_told-1.given.0.1 }) c.limited-within.ensures in
    let low = known c.smallest.ensures.0 c.smallest.ensures.1 (omega arith) in
    (add within low (omega arith)).fits

pub overflow_add-result-2 : goal.overflow_add-result-2
overflow_add-result-2 c =
    let told = c in
    let start = told in
    let within = limited {z = start.args.self.constant} (record { sfits = told.struct_told-1.given.0.1 }) c.limited-within.ensures in
    let high = known c.smallest-2.ensures.0 c.smallest-2.ensures.1 (omega arith) in
    (add within high (omega arith)).fits

pub returns : goal.returns
returns c =
    let told = c in
    let start = told in
    let within = limited {z = start.args.self.constant} (record { sfits = told.struct_told-1.given.0.1 }) c.limited-within.ensures in
    let low = known c.smallest.ensures.0 c.smallest.ensures.1 (omega arith) in
    let high = known c.smallest-2.ensures.0 c.smallest-2.ensures.1 (omega arith) in
    let f = wide_form start.args.self in
    let p = (add within low (omega arith)).same ∙ range-lo f start.args.lo start.args.hi in
    let q = (add within high (omega arith)).same ∙ range-hi f start.args.lo start.args.hi in
    λ i. record { lo = p i; hi = q i }
