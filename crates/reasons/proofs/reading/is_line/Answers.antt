-- The reason's line stands at the buffer's start, and is compared with the other.
use mathlib.Core.Path.{ap, ◌∙◌}
use mathlib.Core.List.{List}
use lib.Dec.{eqb}
use lib.Pointwise.{pointwise}
use Prim.Native.Nat.{ℕ}
use Rattle.meaning.specs.ReasonLine.{reason_line}
use Rattle.encoding.proofs.Appending.{up-to-end}
use Rattle.reasons.specs.View.{reason_in}
use Rattle.reasons.proofs.Answers.{same_pointwise}
use Rattle.reasons.proofs.reading.is_line.Goals as goal

pub returns : goal.returns
returns c =
    let line = c.args.line.now in
    c.eq.ensures ∙ ap (λ (start : List ℕ). pointwise eqb start line) (up-to-end c.put_reason_line-length.ensures.appended)
    ∙ same_pointwise (reason_line (reason_in c.args.reason)) line
