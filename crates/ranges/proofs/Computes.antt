-- All that an answer over a range computes by: a computed example unfolds it.
use Rattle.meaning.proofs.Computes as Sheet
use Rattle.ranges.specs.ParameterRange.{value_count, value_at, parameters_with, range_allowed}
use Rattle.ranges.specs.FiguresOver.{total_visits, figures_from, check_total, figures_over}
use Rattle.ranges.specs.Extremes.{smallest, largest, position, extremes_in, extremes}
use Rattle.ranges.specs.RangeCall.{value_bytes, extremes_bytes, range_call}

unfoldable pub computes : Unit {0}
unfolding Sheet.computes value_count value_at parameters_with range_allowed total_visits figures_from check_total figures_over smallest largest position extremes_in extremes
    value_bytes extremes_bytes range_call
computes = tt
