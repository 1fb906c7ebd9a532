-- The budget is the number in the four bytes from offset 8 on.
use Rattle.meaning.specs.Program.{input_budget}
use Rattle.cases.proofs.numbers.budget_in.Goals as goal

pub returns : goal.returns
unfolding input_budget
returns c = c.unsigned32_at.ensures
