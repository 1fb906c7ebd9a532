-- The offset is put where the phrase ends; it has at most 20 digits.
use mathlib.Core.Path.{ap}
use native.Mathlib.Omega.{arith}
use Rattle.meaning.specs.Text.{decimal}
use Rattle.encoding.proofs.Appending.{same_bytes, and_then}
use Rattle.reasons.proofs.line.put_numbered.Goals as goal

pub returns : goal.returns
returns c =
    record {
      appended = and_then c.put-at.ensures (same_bytes (ap decimal c.from.ensures) c.put_decimal.ensures.appended);
      short = omega arith;
    }
