-- The invariant: the state is that after some number of stages from the first. The measure, from the visits that the budget still allows, falls each time.
use Rattle.std.proofs.Common.{sym, ap, inl, inr, suc, ◌∙◌, arith}
use Rattle.state.specs.declared.State.{State}
use Rattle.figures.specs.Repeat.{states_on}
use Rattle.figures.proofs.Repeats.{one-stage-more, fewer-left}
use Rattle.figures.proofs.repeat.repeat_stages.Goals.{then-loop-state-test+else-state-from, else-loop-state-test}
use Rattle.figures.proofs.repeat.repeat_stages.Goals as goal

pub loop-state-init : goal.loop-state-init
unfolding states_on
loop-state-init c = (0, c.first-state.ensures)

pub loop-state-smaller : goal.loop-state-smaller
loop-state-smaller c =
    fewer-left c.requires c.args.budget c.loop-state.invariant.0 c.loop-state.state c.advance.new.state c.loop-state.invariant.1
    c.advance.ensures c.loop-state-test.true (omega (arith, c.if-state-from.true, c.from.ensures))

pub loop-state-preserved : goal.loop-state-preserved
loop-state-preserved c = (suc c.loop-state.invariant.0, one-stage-more c.args.arrays.now c.args.count c.loop-state.invariant.0 c.loop-state.invariant.1 c.advance.ensures)

pub returns : goal.returns
returns c =
    let l = c.loop-state in
    record {
      stages = l.invariant.0;
      sums_are = ap (λ (s : State). s.sums) l.invariant.1;
      stopped = elim c.loop-state-test.branch [
        | then-loop-state-test+else-state-from w ↦ inr (omega (arith, w.if-state-from.false, w.from.ensures))
        | else-loop-state-test w ↦ inl (sym (ap (λ (s : State). s.at) l.invariant.1) ∙ w.loop-state-test.false)
      ];
    }
