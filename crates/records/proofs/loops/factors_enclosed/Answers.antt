-- The factors from `depth` on are 0 exactly where their bytes are.
use mathlib.Core.Path.{refl, ◌∙◌}
use borrow.Author.Rules.{rules}
use borrow.Author.Tests.{tests}
use Prim.Native.Nat.{ℕ, ◌+◌}
use lib.Dec.{eqb}
use lib.ListN.{get_or}
use Rattle.std.proofs.lemmas.Iterator.{YieldsList-from_range}
use Rattle.std.proofs.lemmas.Iterator.Search.{all_from_yields_List}
use Rattle.records.proofs.Ranges.{by-depth}
use Rattle.records.proofs.loops.factors_enclosed.Goals as goal

pub returns : goal.returns
returns c =
    let a = c.args in
    all_from_yields_List (λ (i : ℕ). eqb (get_or a.body.now (a.at + i) 0) 0) _ _ _ c.all.ensures.ran (YieldsList-from_range a.depth 3 _ refl refl) (λ x b q k. search (rules, tests))
    ∙ by-depth a.body.now a.at a.depth
