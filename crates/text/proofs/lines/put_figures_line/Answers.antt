-- Each part is put where the one before it ends, so that together they are the line; a number has at most 20 digits.
use native.Mathlib.Omega.{arith}
use Rattle.meaning.specs.Text.{text}
use Rattle.meaning.specs.Program.{figures_line}
use Rattle.encoding.proofs.Appending.{and_then}
use Rattle.text.proofs.lines.put_figures_line.Goals as goal

pub returns : goal.returns
unfolding figures_line text
returns c =
    let least = and_then c.put-at.ensures c.put_decimal-at.ensures.appended in
    let most = and_then (and_then least c.put-at-2.ensures) c.put_decimal-at-2.ensures.appended in
    let visits = and_then (and_then most c.put-at-3.ensures) c.put_decimal-at-3.ensures.appended in
    record {
      appended = and_then visits c.put.ensures;
      short = omega arith;
    }
