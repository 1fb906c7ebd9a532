-- Where skips stay nothing is lost; otherwise a loop of kind 6 loses its own.
use mathlib.Core.Path.{sym, ap, ◌∙◌, subst}
use mathlib.Core.Bool.{Bool, not}
use native.Mathlib.Omega.{arith}
use Rattle.records.specs.declared.Kind.{Kind}
use Rattle.records.specs.View.{meant_kind}
use Rattle.converter.specs.Converting.{BodyOf, stays}
use Rattle.converter.proofs.Bodies.{own-skip, none_lost}
use Rattle.converter.proofs.record.loses_skip.Goals as goal

pub returns-then-not-skips : goal.returns-then-not-skips
unfolding stays
returns-then-not-skips c x b =
    own-skip c.skip_cycles.ensures c.unsigned16_at.ensures x (subst (λ (k : Kind). BodyOf x (meant_kind k) c.args.body.now) c.in-SkipLoop.is b)
    ∙ sym (ap (λ (s : Bool). not (stays s x)) c.if-not-skips.true)

pub returns-else-not-skips : goal.returns-else-not-skips
unfolding stays
returns-else-not-skips c x b = (λ i. not (c.if-not-skips.false i)) ∙ sym (ap (λ (s : Bool). not (stays s x)) c.if-not-skips.false)

pub returns-in-Work : goal.returns-in-Work
returns-in-Work c x b = none_lost c.args.skips (λ e. grind arith) x b
