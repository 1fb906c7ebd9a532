-- 0 where no loop with `m` loops around it is open; else the word of the push that the form says.
use mathlib.Core.Path.{◌∙◌, ap}
use Rattle.layout.specs.Loops.{word_of}
use Rattle.loops.specs.Reckoned.{push_word}
use Rattle.loops.proofs.Words.{word-handed}
use borrow.Author.Tests.{lt-ltb, le-ltb}
use Rattle.loops.proofs.forms.push_word.Goals as goal

pub returns-then-depth-m : goal.returns-then-depth-m
unfolding push_word
returns-then-depth-m c = rw (le-ltb c.args.m c.args.depth c.if-depth-m.true)

pub returns : goal.returns
unfolding push_word
returns c =
    let given = c.args in
    rw (lt-ltb given.m given.depth c.if-depth-m.false) (word-handed (record { sfits = c.push.type_inv }) c.cast_unsigned.ensures ∙ ap word_of c.push.ensures)
