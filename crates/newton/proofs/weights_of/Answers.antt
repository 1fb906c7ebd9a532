-- Each weight comes of the one before by a product that fits and a quotient that is exact; those past the known values are 0.
use Rattle.std.proofs.Common.{sym, ◌∙◌, arith}
use Rattle.whole.proofs.Choose.{choose_one}
use Rattle.newton.proofs.Binomial.{next-is, next-size, weight-known, weight-unknown, weight-if-known, weights-are}
use Rattle.newton.proofs.weights_of.Goals as goal

pub returns-then-known-lt2 : goal.returns-then-known-lt2
returns-then-known-lt2 c =
    let known = c.args.known in
    weights-are _ known
    (weight-if-known _ known 1 (c.min-one.ensures ∙ sym (choose_one _)) c.if_known.ensures)
    (weight-unknown _ known 2 (omega arith))
    (weight-unknown _ known 3 (omega arith))
    (weight-unknown _ known 4 (omega arith))

pub overflow_mul-three : goal.overflow_mul-three
overflow_mul-three c =
    record { fits = next-size 2 c.min-one.ensures c.pairs-two.ensures c.saturating_sub.ensures (omega arith) (omega arith) }

pub overflow_mul-four : goal.overflow_mul-four
overflow_mul-four c = let e = c.min-one.ensures in
    record { fits = next-size 3 e (next-is 2 e c.pairs-two.ensures c.saturating_sub.ensures) c.saturating_sub-2.ensures (omega arith) (omega arith) }

pub returns : goal.returns
returns c =
    let known = c.args.known in
    let one = c.min-one.ensures in
    let two = c.pairs-two.ensures in
    let three = next-is 2 one two c.saturating_sub.ensures in
    weights-are _ known
    (weight-known _ known 1 (omega arith) (one ∙ sym (choose_one _)))
    (weight-known _ known 2 (omega arith) two)
    (weight-if-known _ known 3 three c.if_known-2.ensures)
    (weight-if-known _ known 4 (next-is 3 one three c.saturating_sub-2.ensures) c.if_known-3.ensures)
