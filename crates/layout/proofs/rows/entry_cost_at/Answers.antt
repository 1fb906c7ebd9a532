-- With no trip the cost of entering a loop is the skip of its row, otherwise the first cost.
use mathlib.Core.Path.{◌≡◌, ◌∙◌}
use borrow.Author.Rules.{rules}
use Rattle.layout.specs.Rows.{number_in, first_at, skip_at}
use Rattle.layout.proofs.EntryCosts.{no-trip, some-trip}
use Rattle.layout.proofs.rows.entry_cost_at.Goals as goal
use Rattle.layout.proofs.rows.entry_cost_at.Goals.{then-trips-eq0, else-trips-eq0}

pub returns : goal.returns
unfolding number_in
returns c =
    let a = c.args in
    elim c.if-trips-eq0.branch [
      | then-trips-eq0 w ↦ (let e : c.from.result ≡ skip_at a.rows.now a.number = search rules in e ∙ no-trip a.rows.now a.number w.if-trips-eq0.true)
      | else-trips-eq0 w ↦ (let e : c.from.result ≡ first_at a.rows.now a.number = search rules in e ∙ some-trip a.rows.now a.number w.if-trips-eq0.false)
    ]
