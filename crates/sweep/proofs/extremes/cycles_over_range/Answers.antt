-- The extremes of the figures over the range, or their refusal; and what is promised of either.
use Rattle.std.proofs.Common.{sym, ◌∙◌, arith}
use Rattle.std.proofs.lemmas.List.{length-take-le}
use Rattle.sweep.specs.Values.{range_of}
use Rattle.sweep.proofs.Answering.{promised, answer-refused, count-in-range, answer-found, passed_on}
use Rattle.sweep.proofs.extremes.cycles_over_range.Goals as goal

pub returns-in_err-visits : goal.returns-in_err-visits
returns-in_err-visits c =
    let a = c.args in
    let p = promised a.sheet.now a.parameters a.budget (range_of a.range)
    (passed_on c.from_residual.result _ c.from_residual.ensures.1
    ∙ answer-refused a.sheet.now a.parameters a.budget (range_of a.range) c.in_err-visits.ensures.visits) in
    record { answers = p.0; promise = p.1 }

pub slice_bounds-leasts-end : goal.slice_bounds-leasts-end
slice_bounds-leasts-end c =
    let a = c.args in
    let count = count-in-range a.sheet.now a.parameters a.budget (range_of a.range) c.in_ok-visits.ensures.visits c.value_count-count.ensures in
    omega (arith, c.figures_over.array_long, count.1)

pub slice_bounds-extremes_in-end : goal.slice_bounds-extremes_in-end
slice_bounds-extremes_in-end c =
    let a = c.args in
    let count = count-in-range a.sheet.now a.parameters a.budget (range_of a.range) c.in_ok-visits.ensures.visits c.value_count-count.ensures in
    sym (length-take-le _ _ (omega (arith, c.figures_over.array_long, count.1)))

pub slice_bounds-mosts-end : goal.slice_bounds-mosts-end
slice_bounds-mosts-end c =
    let a = c.args in
    let count = count-in-range a.sheet.now a.parameters a.budget (range_of a.range) c.in_ok-visits.ensures.visits c.value_count-count.ensures in
    omega (arith, c.figures_over.array_long2, count.1)

pub slice_bounds-extremes_in-end-2 : goal.slice_bounds-extremes_in-end-2
slice_bounds-extremes_in-end-2 c =
    let a = c.args in
    let count = count-in-range a.sheet.now a.parameters a.budget (range_of a.range) c.in_ok-visits.ensures.visits c.value_count-count.ensures in
    sym (length-take-le _ _ (omega (arith, c.figures_over.array_long2, count.1)))

pub extremes_in-requires : goal.extremes_in-requires
extremes_in-requires c =
    let a = c.args in
    let count = count-in-range a.sheet.now a.parameters a.budget (range_of a.range) c.in_ok-visits.ensures.visits c.value_count-count.ensures in
    record {
      some = omega (arith, count.0, c.value_count-count.ensures);
      counted = (
        length-take-le _ _ (omega (arith, c.figures_over.array_long, count.1)) ∙ c.value_count-count.ensures,
        length-take-le _ _ (omega (arith, c.figures_over.array_long2, count.1)) ∙ c.value_count-count.ensures,
      );
      few = omega (arith, count.1, c.value_count-count.ensures);
    }

pub returns : goal.returns
returns c =
    let a = c.args in
    let found = answer-found a.sheet.now a.parameters a.budget (range_of a.range) c.in_ok-visits.ensures.visits c.value_count-count.ensures
    c.figures_over.ensures.leasts c.figures_over.ensures.mosts c.extremes_in.ensures in
    let p = promised a.sheet.now a.parameters a.budget (range_of a.range) found in
    record { answers = p.0; promise = p.1 }
