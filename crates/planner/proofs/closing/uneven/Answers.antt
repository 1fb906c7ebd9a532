-- The search goes over the loops from the one with `depth` loops around it inward.
use mathlib.Core.Path.{refl, ◌∙◌}
use borrow.Author.Rules.{rules}
use borrow.Author.Tests.{tests}
use Rattle.std.proofs.lemmas.Iterator.{YieldsList-from_range}
use Rattle.std.proofs.lemmas.Iterator.Search.{any_from_yields_List}
use Rattle.planner.specs.Closing.{uneven_at}
use Rattle.planner.proofs.Preventing.{uneven-among}
use Rattle.planner.proofs.closing.uneven.Goals as goal

pub returns : goal.returns
returns c facts f known =
    any_from_yields_List (uneven_at c.args.differences.now c.args.loop_number) _ _ c.any.result c.any.ensures.ran (YieldsList-from_range c.args.depth 3 _ refl refl) (λ x b q k. search (rules, tests))
    ∙ uneven-among known _ c.args.depth refl
