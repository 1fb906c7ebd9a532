-- The four parameters are in the range that the code's numbers have.
use Rattle.std.proofs.Common.{rules}
use Rattle.meaning.specs.Program.{input_parameters}
use Rattle.cases.proofs.numbers.parameters_in.Goals as goal

pub returns : goal.returns
unfolding input_parameters
returns c = search (rules, c.signed16_at-p1.ensures, c.signed16_at-p2.ensures, c.signed16_at-p3.ensures, c.signed16_at-p4.ensures)
