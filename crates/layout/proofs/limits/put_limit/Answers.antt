-- Each number that is written is one that is pasted; the loop's place lies within the limits.
use mathlib.Core.Path.{◌≡◌, ap, ap₂, ◌∙◌}
use mathlib.Core.List.{List, [], ◌∷◌}
use Prim.Native.Nat.{ℕ, ◌<◌}
use lib.ListN.{length, set}
use lib.Seq.{paste}
use borrow.Author.Rules.{rules}
use Rattle.layout.specs.Loops.{limit_from}
use Rattle.layout.proofs.Storing.{set_paste}
use Rattle.layout.proofs.limits.put_limit.Goals as goal

pub returns : goal.returns
returns c =
    let given = c.args in
    let there : limit_from given.number < length given.limits.now = search rules in
    let stored : set given.limits.now c.limit_from.result given.limit ≡ paste given.limits.now (limit_from given.number) (given.limit ∷ []) 1 =
    ap (λ (i : ℕ). set given.limits.now i given.limit) c.limit_from.ensures ∙ set_paste given.limits.now (limit_from given.number) given.limit there in
    ap₂ (λ (numbers : List ℕ) (n : ℕ). set numbers 0 n) stored c.max-largest.ensures ∙ set_paste _ 0 _ (search rules)
