-- The slice of the kept trips is filled with blank ones, as the definition says; the others stay.
use Rattle.std.proofs.Common.{◌≡◌, ◌-◌, arith}
use Rattle.state.specs.Open.{blanked}
use Rattle.state.specs.Kept.{kept_from, forgotten}
use Rattle.state.proofs.open.Open.forget.Goals as goal

pub returns : goal.returns
unfolding forgotten blanked
returns c =
    let f = c.fill.ensures.after (λ y p. p) in let l = c.fill.ensures.len in
    let from : c.kept_at.result ≡ kept_from c.args.depth = omega (arith, c.kept_at.ensures.value) in
    let many : c.kept_at-2.result - c.kept_at.result ≡ c.args.held = omega (arith, c.kept_at.ensures.value, c.kept_at-2.ensures.value) in cc
