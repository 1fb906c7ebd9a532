-- The first record that is such a choice is the first test that fails.
use mathlib.Core.Path.{refl, ◌∙◌}
use mathlib.Core.Path.{ap}
use borrow.Author.Rules.{rules}
use borrow.Author.Tests.{tests}
use Rattle.std.proofs.lemmas.Iterator.{YieldsList-from_range}
use Rattle.std.proofs.lemmas.Iterator.Search.{find_from_yields_List}
use Rattle.planner.proofs.Searching.{choice_found, found_as, choice-read, choices-inside, holds}
use Rattle.planner.proofs.reason.first_choice.Goals as goal

pub returns : goal.returns
returns c =
    let rows = c.args.rows.now in
    choice-read rows c.find.result c.map.result c.map.ensures.cases (λ i r h. search (rules, tests))
    ∙ ap (choice_found rows) (found_as c.find.result
    ∙ find_from_yields_List (holds rows) _ _ c.find.result c.find.ensures.ran (YieldsList-from_range _ _ _ refl refl) (λ x b q k. search (rules, tests)))
    ∙ choices-inside rows c.args.number c.end_at.ensures
