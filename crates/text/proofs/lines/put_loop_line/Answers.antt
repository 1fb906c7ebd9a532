-- Each part is put where the one before it ends, so that together they are the loop's line; a number has at most 20 digits.
use native.Mathlib.Omega.{arith}
use Rattle.meaning.specs.Text.{text}
use Rattle.meaning.specs.Program.{loop_line}
use Rattle.encoding.proofs.Appending.{and_then}
use Rattle.text.proofs.lines.put_loop_line.Goals as goal

pub returns : goal.returns
unfolding loop_line text
returns c =
    let named = and_then (and_then (and_then c.put-at.ensures c.put_decimal-at.ensures.appended) c.put-at-2.ensures) c.put_class-at.ensures.appended in
    record {
      appended = and_then (and_then (and_then named c.put-at-3.ensures) c.put_decimal-at-2.ensures.appended) c.put.ensures;
      short = omega arith;
    }
