-- The three reasons are tried in the order of the definition, each with the numbers that stand in the line.
use mathlib.Core.Path.{◌≡◌, refl, sym, ap, ◌∙◌}
use mathlib.Core.Option.{some}
use Prim.Native.Nat.{ℕ}
use Rattle.meaning.specs.Text.{text}
use Rattle.meaning.specs.Reason.{holds_loop, too_few_trips}
use Rattle.meaning.specs.ReasonLine.{number_at, read_reason}
use Rattle.reasons.specs.View.{found_in}
use Rattle.reasons.proofs.Answers.{exact_found, reads-choice, reads-few, reads-last}
use Rattle.reasons.proofs.reading.read_reason.Goals as goal

pub returns-then-is_line : goal.returns-then-is_line
unfolding text
returns-then-is_line c =
    let line = c.args.line.now in
    let found : some (holds_loop c.number_at.result) ≡ read_reason line =
    reads-choice line c.number_at.ensures refl refl (sym c.is_line.ensures ∙ c.if-is_line.true) in
    record {
      found = found;
      exact = exact_found line found;
    }

pub returns-then-is_line-2 : goal.returns-then-is_line-2
unfolding text
returns-then-is_line-2 c =
    let line = c.args.line.now in
    let found : some (too_few_trips c.number_at-k.result) ≡ read_reason line =
    reads-few line c.number_at.ensures c.number_at-k.ensures refl
    (sym c.is_line.ensures ∙ c.if-is_line.false)
    (sym c.is_line-2.ensures ∙ c.if-is_line-2.true) in
    record {
      found = found;
      exact = exact_found line found;
    }

pub returns : goal.returns
unfolding text
returns c =
    let line = c.args.line.now in
    let found : found_in c.then_some.result ≡ read_reason line =
    ap found_in c.then_some.ensures
    ∙ reads-last line c.number_at.ensures c.number_at-k.ensures
    (c.number_at-2.ensures ∙ ap (λ (n : ℕ). number_at n line) c.uneven_position.ensures)
    (sym c.is_line.ensures ∙ c.if-is_line.false)
    (sym c.is_line-2.ensures ∙ c.if-is_line-2.false)
    c.is_line-3.ensures in
    record {
      found = found;
      exact = exact_found line found;
    }
