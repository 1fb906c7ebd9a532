-- The first choice that fails, or else what is found of the loops: the first test that fails of both, one after the other.
use mathlib.Core.Path.{◌∙◌}
use borrow.Author.Rules.{rules}
use borrow.Author.Tests.{tests}
use Rattle.planner.proofs.Searching.{reason-read}
use Rattle.planner.proofs.ReasonRead.{reason-among}
use Rattle.planner.proofs.reason.reason_of.Goals as goal

pub returns-clause-found : goal.returns-clause-found
returns-clause-found c =
    let arrays = c.args.arrays.now in
    reason-read arrays.rows arrays.differences arrays.facts c.args.number c.first_choice.result c.or_else.result c.first_choice.ensures c.or_else.ensures
    (λ h. search (rules, tests))

pub returns-clause-reason : goal.returns-clause-reason
returns-clause-reason c sheet parameters xs l ys among = returns-clause-found c ∙ reason-among among
