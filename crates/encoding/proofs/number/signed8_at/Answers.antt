-- The number that has the bits as its pattern.
use Rattle.std.proofs.Common.{ap, ◌∙◌, rules}
use mir.Syntax.{w8}
use mir.Val.{SFits}
use Rattle.meaning.specs.Limits.{factor_half}
use Rattle.meaning.specs.Number.{decode_signed, signed8}
use Rattle.encoding.proofs.Patterns.{bits8, decoded, kept}
use Rattle.encoding.proofs.number.signed8_at.Goals as goal

pub returns : goal.returns
unfolding signed8
returns c =
    let fits : SFits w8 c.cast_signed.result = search rules in
    kept fits (c.cast_signed.ensures ∙ decoded bits8 c.byte_at.result ∙ ap (decode_signed factor_half) c.byte_at.ensures)
