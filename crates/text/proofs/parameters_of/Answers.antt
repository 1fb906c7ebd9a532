-- The four parameters are the numbers in the first eight bytes of the input, as in the definition.
use Rattle.std.proofs.Common.{rules}
use Rattle.meaning.specs.Program.{input_parameters}
use Rattle.text.proofs.parameters_of.Goals as goal

pub returns : goal.returns
unfolding input_parameters
returns c = search (rules, c.signed16_at-p1.ensures, c.signed16_at-p2.ensures, c.signed16_at-p3.ensures, c.signed16_at-p4.ensures)
