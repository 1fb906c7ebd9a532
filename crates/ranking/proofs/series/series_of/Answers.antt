-- Each word is that of a difference of the values, and its rank is that of the coefficient.
use Rattle.ranking.proofs.SeriesSteps.{series-words}
use Rattle.ranking.proofs.series.series_of.Goals as goal

pub returns : goal.returns
returns c = let a = c.args in
    series-words a.count a.values c.differences.ensures c.rank_known.ensures c.rank_known-2.ensures c.rank_known-3.ensures c.rank_known-4.ensures
