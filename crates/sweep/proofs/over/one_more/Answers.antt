-- By what is answered for the value at the budget that is left.
use Rattle.std.proofs.Common.{ap, sym, ◌∙◌}
use Rattle.meaning.specs.Answer.{answer}
use Rattle.sheet.specs.Refusals.{refusal_number}
use Rattle.figures.specs.Answers.{figures_of, answer_result}
use Rattle.sweep.proofs.OneValue.{made-figures, made-spent, made-refused, visits-fit, other-number}
use Rattle.sweep.proofs.over.one_more.Goals as goal

pub overflow_add-result : goal.overflow_add-result
overflow_add-result c =
    let a = c.args in
    visits-fit a.sheet.now a.parameters c.budget_left.result {f = figures_of c.in-Ok.figures}
    (sym (ap answer_result c.in-Ok.is) ∙ c.cycles.ensures.answers) c.requires.1

pub returns-in-Ok : goal.returns-in-Ok
returns-in-Ok c =
    let a = c.args in
    let made = made-figures a.budget a.total a.k a.leasts.now a.mosts.now (figures_of c.in-Ok.figures)
    (sym (ap answer_result c.in-Ok.is) ∙ c.cycles.ensures.answers ∙ ap (answer a.sheet.now a.parameters) c.budget_left.ensures) in
    record { visits = made.0; leasts = made.1.0; mosts = made.1.1 }

pub returns-in-TooManyVisits : goal.returns-in-TooManyVisits
returns-in-TooManyVisits c =
    let a = c.args in
    let made = made-spent a.budget a.total a.k a.leasts.now a.mosts.now
    (sym (ap answer_result c.in-Err.is) ∙ c.cycles.ensures.answers ∙ ap (answer a.sheet.now a.parameters) c.budget_left.ensures)
    (ap refusal_number c.in-TooManyVisits.is) c.from-over_budget.ensures in
    record { visits = made.0; leasts = made.1.0; mosts = made.1.1 }

pub returns-in_default : goal.returns-in_default
returns-in_default c =
    let a = c.args in
    let made = made-refused a.budget a.total a.k a.leasts.now a.mosts.now
    (sym (ap answer_result c.in-Err.is) ∙ c.cycles.ensures.answers ∙ ap (answer a.sheet.now a.parameters) c.budget_left.ensures)
    (other-number c.in-Err.refusal.kind c.in_default.not-TooManyVisits) in
    record { visits = made.0; leasts = made.1.0; mosts = made.1.1 }
