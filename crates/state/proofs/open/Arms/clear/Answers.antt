-- The slice of the arms that are kept is filled with blank ones, as the definition says.
use Rattle.state.specs.Open.{blanked}
use Rattle.state.specs.Arms.{arms_dropped}
use Rattle.state.proofs.open.Arms.clear.Goals as goal

pub returns : goal.returns
unfolding arms_dropped blanked
returns c = let f = c.fill.ensures.after (λ y p. p) in let l = c.fill.ensures.len in cc
