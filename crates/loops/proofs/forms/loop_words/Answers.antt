-- The five words one by one: the stride, the word of D where every counter is 0, and the words of the three pushes.
use mathlib.Core.Path.{◌∙◌, ap}
use mathlib.Core.List.{[], ◌∷◌}
use Rattle.layout.specs.Loops.{word_of}
use Rattle.loops.specs.Reckoned.{loop_words}
use Rattle.loops.proofs.Words.{word-handed}
use Rattle.loops.proofs.forms.loop_words.Goals as goal

pub returns : goal.returns
unfolding loop_words
returns c =
    let base = word-handed (record { sfits = c.at.type_inv }) c.cast_unsigned.ensures ∙ ap word_of c.at.ensures in
    λ i. c.args.stride ∷ base i ∷ c.push_word.ensures i ∷ c.push_word-2.ensures i ∷ c.push_word-3.ensures i ∷ []
