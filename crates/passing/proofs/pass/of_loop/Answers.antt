-- An end is of a loop where its opener is one; any other record where it is one itself.
use Rattle.passing.proofs.ChoiceLaws.{end-of-loop, loop-itself}
use Rattle.passing.proofs.pass.of_loop.Goals as goal

pub returns-in-End : goal.returns-in-End
returns-in-End c = end-of-loop c.args.rows.now c.args.number c.role_at.ensures c.in-End.is c.opener_at.ensures c.role_at-in-End.ensures c.eq.ensures

pub returns-in_default : goal.returns-in_default
returns-in_default c = loop-itself c.args.rows.now c.args.number c.role_at.ensures c.in_default.not-End c.eq-in_default.ensures
