-- What fills the arrays says what they hold; where the range is refused they are cleared.
use Rattle.std.proofs.Common.{sym, ◌∙◌}
use Rattle.ranges.specs.Extremes.{leasts_of, mosts_of}
use Rattle.sweep.proofs.Overs.{arrays-filled, arrays-blank, refusal_in, visits_in}
use Rattle.sweep.proofs.over.figures_over.Goals as goal

pub returns-then-is_err : goal.returns-then-is_err
returns-then-is_err c =
    let filled = c.fill_range-over.ensures in
    let e = (refusal_in c.fill_range-over.result (sym c.is_err.ensures.value ∙ c.if-is_err.true)).2 in
    record { visits = filled.visits; leasts = arrays-blank leasts_of e filled; mosts = arrays-blank mosts_of e filled }

pub returns-else-is_err : goal.returns-else-is_err
returns-else-is_err c =
    let filled = c.fill_range-over.ensures in
    let arrays = arrays-filled (visits_in c.fill_range-over.result (sym c.is_err.ensures.value ∙ c.if-is_err.false)).1 filled in
    record { visits = filled.visits; leasts = arrays.0; mosts = arrays.1 }
