-- The buffer begins with the bytes just where they are what it begins with, and the part that is looked at then is all that follows.
use Rattle.std.proofs.Common.{◌≡◌, rules, List, ℕ, ◌-◌, length, take, drop, length-drop, arith}
use Rattle.std.proofs.lemmas.List.{take_all}
use Rattle.std.proofs.lemmas.Bool.Decides.{Decides-eqb}
use Rattle.std.proofs.lemmas.Slice.Eq.{starts_is}
use Rattle.cases.proofs.answers.holds.Goals as goal

whole-rest : (n : ℕ) (xs : List ℕ) → take (length xs - n) (drop n xs) ≡ drop n xs
whole-rest n xs = take_all _ _ (omega (arith, length-drop n xs))

pub returns-then-starts_with : goal.returns-then-starts_with
returns-then-starts_with c =
    let begins = (starts_is Decides-eqb c.args.buffer.now c.args.bytes.now _ c.starts_with.ensures.value).0 c.if-starts_with.true in
    let filled = rw (whole-rest (length c.args.bytes.now) c.args.buffer.now) at c.is_filled.ensures in
    ((λ t. (begins, filled.0 t)), (λ p. filled.1 p.1))

pub returns-else-starts_with : goal.returns-else-starts_with
returns-else-starts_with c =
    let begins = (starts_is Decides-eqb c.args.buffer.now c.args.bytes.now _ c.starts_with.ensures.value).1 in
    ((λ t. search (rules, c.if-starts_with.false, t)), (λ p. search (rules, begins _ p.0)))
