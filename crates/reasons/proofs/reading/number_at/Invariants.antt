-- What is still to be read decides the number, whatever was read.
use Rattle.std.proofs.Common.{◌≡◌, drop}
use Rattle.meaning.specs.ReasonLine.{number_after, number_at}
use Rattle.reasons.proofs.reading.number_at.Given as goal

abbrev pub invariant-loop-character : goal.invariant-loop-character
invariant-loop-character l = number_after l.number (drop l.character-index l.character-items) ≡ number_at l.at l.line
