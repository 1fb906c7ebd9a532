-- Each part is put where the one before it ends, so that together they are the refusal; a number has at most 20 digits.
use mathlib.Core.Path.{ap, ◌∙◌}
use native.Mathlib.Omega.{arith}
use Rattle.meaning.specs.Text.{text, decimal}
use Rattle.meaning.specs.Program.{refused_line}
use Rattle.encoding.proofs.Appending.{and_then, same_bytes}
use Rattle.text.proofs.lines.put_refusal_line.Goals as goal

pub returns : goal.returns
unfolding refused_line text
returns c =
    let number = and_then c.put-at.ensures (same_bytes (ap decimal (c.from.ensures ∙ c.number.ensures)) c.put_decimal-at.ensures.appended) in
    let offset = and_then (and_then number c.put-at-2.ensures) c.put_decimal-at-2.ensures.appended in
    record {
      appended = and_then offset c.put.ensures;
      short = omega arith;
    }
