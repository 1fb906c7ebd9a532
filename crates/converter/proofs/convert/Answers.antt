-- The reader's refusal, or what is laid out of the records that it counts.
use mathlib.Core.Path.{sym, ap, ◌∙◌}
use Rattle.meaning.proofs.Logic.{refused-is-not-ok}
use Rattle.sheet.proofs.Refused.{passed-on}
use Rattle.converter.specs.Converting.{new_length}
use Rattle.converter.proofs.Conversions.{records-counted, new-read, new-refused}
use borrow.Author.Rules.{rules}
use Rattle.converter.proofs.convert.Goals as goal

pub returns-in_err-count : goal.returns-in_err-count
unfolding new_length
returns-in_err-count c =
    let given = c.args in
    let is = new-refused given.sheet.now given.skips c.in_err-count.ensures in
    record {
      answer = passed-on c.from_residual.result _ c.from_residual.ensures.1 ∙ sym (ap new_length is);
      laid = λ new e. refused-is-not-ok (sym is ∙ e);
    }

pub lay_out-requires : goal.lay_out-requires
lay_out-requires c = ((records-counted c.args.sheet.now c.in_ok-count.ensures).0, search rules)

pub returns : goal.returns
returns c =
    let given = c.args in
    let is = new-read given.sheet.now given.skips c.in_ok-count.ensures in
    record {
      answer = c.lay_out.ensures.answer ∙ sym (ap new_length is);
      laid = λ new e. c.lay_out.ensures.laid new (sym is ∙ e);
    }
