-- The constants of 16 bits subtract within 64, and the factors one by one.
use Rattle.std.proofs.Common.{◌≡◌, ◌-ℤ◌, arith, rules}
use Rattle.std.proofs.lemmas.Int.{ints}
use mir.Syntax.{w16, w64}
use mir.Val.{SFits}
use Rattle.meaning.specs.Form as M
use Rattle.form.proofs.Reckoned.{held}
use Rattle.form.proofs.Form.subtract.Goals as goal

pub returns : goal.returns
unfolding M.subtract
returns c =
    let upper : SFits w16 c.args.upper.constant = search rules in
    let lower : SFits w16 c.args.lower.constant = search rules in
    let e : held w64 (held w64 c.from.result -ℤ held w64 c.from-2.result) ≡ c.args.upper.constant -ℤ c.args.lower.constant = omega (arith, ints) in
    λ i. record { constant = e i; index = c.differences.ensures i; parameter = c.differences-2.ensures i }
