-- What is still to be read decides the number, whatever was read; it ends with the line or before what is no digit.
use Rattle.std.proofs.Common.{ℕ, ◌+◌, drop, refl, ap, ◌∙◌}
use Rattle.meaning.specs.ReasonLine.{number_after, number_at}
use Rattle.reasons.proofs.Numbers.{from-position, at-end, before-other, next-digit}
use Rattle.reasons.proofs.reading.number_at.Goals as goal

pub loop-character-init : goal.loop-character-init
unfolding number_at
loop-character-init c =
    ap (number_after 0) (from-position c.args.line.now c.args.at _ c.get.result c.get.ensures.lookup c.unwrap_or-character-items.ensures refl)

pub loop-character-preserved : goal.loop-character-preserved
loop-character-preserved c =
    let xs = c.unwrap_or-character-items.result.now in
    let i = c.loop-character.character-index in
    ap (λ (n : ℕ). number_after n (drop (i + 1) xs)) c.with_digit-number.ensures
    ∙ next-digit xs c.loop-character.number i c.loop-character-test.true c.is_ascii_digit.ensures.value c.if-not-is_ascii_digit.false
    ∙ c.loop-character.invariant

pub returns-after-loop-character : goal.returns-after-loop-character
returns-after-loop-character c =
    at-end c.unwrap_or-character-items.result.now c.loop-character.number c.loop-character.character-index c.loop-character-test.false
    ∙ c.loop-character.invariant

pub returns-then-not-is_ascii_digit : goal.returns-then-not-is_ascii_digit
returns-then-not-is_ascii_digit c =
    before-other c.unwrap_or-character-items.result.now c.loop-character.number c.loop-character.character-index c.loop-character-test.true
    c.is_ascii_digit.ensures.value c.if-not-is_ascii_digit.true
    ∙ c.loop-character.invariant
