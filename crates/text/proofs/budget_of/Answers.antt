-- The budget is the number in the four bytes from offset 8 of the input on, as in the definition.
use Rattle.meaning.specs.Program.{input_budget}
use Rattle.text.proofs.budget_of.Goals as goal

pub returns : goal.returns
unfolding input_budget
returns c = c.unsigned32_at.ensures
