-- The cycles are put, and then the value by its pattern of 64 bits.
use Rattle.std.proofs.Common.{ap, ◌∙◌, rules}
use Rattle.std.proofs.lemmas.Int.{to_z-of_z}
use mir.Syntax.{w16, w64}
use mir.Val.{SFits}
use Rattle.meaning.specs.Limits.{answer_half}
use Rattle.meaning.specs.Number.{little_endian, encode_signed}
use Rattle.ranges.specs.RangeCall.{value_bytes}
use Rattle.encoding.proofs.Appending.{and_then, same_bytes}
use Rattle.encoding.proofs.Fields.{numbered}
use Rattle.encoding.proofs.Patterns.{bits64, encoded_of}
use Rattle.exports.proofs.area.put_extreme.Goals as goal

pub returns : goal.returns
unfolding value_bytes
returns c =
    let e = c.args.e in
    let narrow : SFits w16 e.value = search rules in
    let wide : SFits w64 c.from.result = search rules in
    let pattern = encoded_of bits64 wide c.cast_unsigned-value.ensures ∙ ap (encode_signed answer_half) (c.from.ensures ∙ to_z-of_z w16 e.value narrow) in
    and_then (numbered w64 e.cycles c.to_le_bytes.ensures c.put-at.ensures)
    (same_bytes (ap (little_endian 8) pattern) (numbered w64 c.cast_unsigned-value.result c.to_le_bytes-2.ensures c.put.ensures))
