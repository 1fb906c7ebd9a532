-- An answer with figures is of a sheet that is not refused, so that the loops' lines follow; of a refused one the refusal is all.
use mathlib.Core.Path.{sym, ap, ◌∙◌}
use Rattle.sheet.specs.Refusals.{refusal_number}
use Rattle.figures.specs.Answers.{figures_of, answer_result}
use Rattle.encoding.proofs.Appending.{same_bytes, and_then}
use Rattle.text.proofs.Answering.{figures-text, refusal-text}
use Rattle.text.proofs.put_answer.Goals as goal

pub returns-in-Ok : goal.returns-in-Ok
returns-in-Ok c =
    let a = c.args in
    same_bytes (figures-text a.sheet.now a.parameters a.budget (figures_of c.in-Ok.figures) (sym (ap answer_result c.in-Ok.is) ∙ c.cycles.ensures.answers))
    (and_then c.put_figures_line-at.ensures.appended c.put_loops.ensures)

pub returns-in-Err : goal.returns-in-Err
returns-in-Err c =
    let a = c.args in
    let r = c.in-Err.refusal in
    same_bytes (refusal-text a.sheet.now a.parameters a.budget (refusal_number r.kind) r.offset (sym (ap answer_result c.in-Err.is) ∙ c.cycles.ensures.answers))
    c.put_refusal_line.ensures.appended
