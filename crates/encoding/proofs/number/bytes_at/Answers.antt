-- Each byte is the one that the call at its index gave: that of the slice so far behind the offset.
use Rattle.std.proofs.Common.{◌≡◌, ℕ, rules, arith, get_or, drop}
use Rattle.std.proofs.lemmas.Grind.{common_steps}
use Rattle.encoding.proofs.Made.{each-made}
use Rattle.encoding.proofs.number.bytes_at.Goals as goal

pub returns : goal.returns
returns g c k h =
    each-made _ (λ i y. y ≡ get_or (drop c.args.at c.args.s.now) i 0) _ (λ i y q called. (grind (arith, common_steps), search rules)) c.from_fn.ensures.items 0 k h
