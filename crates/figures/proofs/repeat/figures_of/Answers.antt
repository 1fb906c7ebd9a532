-- The code compares the visits with the budget as the definition does: refusal 8 where they are more, otherwise the sums' three numbers.
use Rattle.std.proofs.Common.{sym, arith}
use Rattle.figures.specs.Repeat.{figures_at}
use Rattle.figures.proofs.Answering.{check-within, check-spent}
use Rattle.figures.proofs.repeat.figures_of.Goals as goal

pub returns-then-from-sums : goal.returns-then-from-sums
returns-then-from-sums c = sym (check-spent c.args.budget (figures_at c.args.sums) (omega (arith, c.from.ensures)))

pub returns : goal.returns
returns c = sym (check-within c.args.budget (figures_at c.args.sums) (omega (arith, c.from.ensures)))
