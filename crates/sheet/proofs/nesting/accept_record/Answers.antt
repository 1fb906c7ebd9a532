-- Refusal 3, refusal 5, or the length and what is open after; where the numbers are those of a list, as the meaning accepts the record.
use mathlib.Core.Path.{sym, ◌∙◌}
use lib.ListN.{replicate}
use Rattle.meaning.specs.Record.{open_loop}
use Rattle.sheet.proofs.OneRecord.{loops-around, number-3, number-5, number-none, accept-is}
use Rattle.sheet.proofs.nesting.accept_record.Goals as goal

pub returns-then-not-fields_in_range : goal.returns-then-not-fields_in_range
returns-then-not-fields_in_range c =
    let fields = c.fields_in_range in
    let a = c.args in
    let depth = a.here.depth in
    let n =
    number-3 a.at a.here a.kind a.body.now
    (sym c.if-not-fields_in_range.true ∙ fields.ensures (replicate depth open_loop) (loops-around depth)) in
    record {
      numbers = n;
      records = λ os k e named long. n ∙ accept-is a.at a.here a.kind a.body.now os k e named long;
    }

pub returns-then-not-allows : goal.returns-then-not-allows
returns-then-not-allows c =
    let allows = c.allows in
    let fields = c.fields_in_range in
    let a = c.args in
    let depth = a.here.depth in
    let n =
    number-5 a.at a.here a.kind a.body.now
    (sym c.if-not-fields_in_range.false ∙ fields.ensures (replicate depth open_loop) (loops-around depth))
    (sym c.if-not-allows.true ∙ allows.ensures) in
    record {
      numbers = n;
      records = λ os k e named long. n ∙ accept-is a.at a.here a.kind a.body.now os k e named long;
    }

pub returns : goal.returns
returns c =
    let allows = c.allows in
    let fields = c.fields_in_range in
    let a = c.args in
    let depth = a.here.depth in
    let n =
    number-none a.at a.here a.kind a.body.now
    (sym c.if-not-fields_in_range.false ∙ fields.ensures (replicate depth open_loop) (loops-around depth))
    (sym c.if-not-allows.false ∙ allows.ensures) c.after.ensures.numbers in
    record {
      numbers = n;
      records = λ os k e named long. n ∙ accept-is a.at a.here a.kind a.body.now os k e named long;
    }
