-- The number that has the bits as its pattern.
use Rattle.std.proofs.Common.{ap, ◌∙◌, rules}
use mir.Syntax.{w16}
use mir.Val.{SFits}
use Rattle.meaning.specs.Limits.{constant_half}
use Rattle.meaning.specs.Number.{decode_signed, signed16}
use Rattle.encoding.proofs.Patterns.{bits16, decoded, kept}
use Rattle.encoding.proofs.number.signed16_at.Goals as goal

pub returns : goal.returns
unfolding signed16
returns c =
    let fits : SFits w16 c.cast_signed.result = search rules in
    kept fits (c.cast_signed.ensures ∙ decoded bits16 c.unsigned16_at.result ∙ ap (decode_signed constant_half) c.unsigned16_at.ensures)
