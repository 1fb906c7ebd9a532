-- The second phrase is put where the offset of loop K ends.
use native.Mathlib.Omega.{arith}
use Rattle.meaning.specs.Text.{text}
use Rattle.meaning.specs.ReasonLine.{uneven_line_start}
use Rattle.encoding.proofs.Appending.{and_then}
use Rattle.reasons.proofs.line.put_uneven_start.Goals as goal

pub returns : goal.returns
unfolding uneven_line_start text
returns c =
    record {
      appended = and_then c.put_numbered-at.ensures.appended c.put.ensures;
      short = omega arith;
    }
