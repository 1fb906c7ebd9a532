-- Of the empty list of open records all three numbers are 0.
use mathlib.Core.Path.{refl}
use Rattle.meaning.specs.Record.{loop_depth}
use Rattle.sheet.specs.Nestings.{nesting_of, loop_bits}
use Rattle.sheet.proofs.nesting.Nesting.nothing.Goals as goal

pub returns : goal.returns
unfolding nesting_of loop_depth loop_bits
returns c = refl
