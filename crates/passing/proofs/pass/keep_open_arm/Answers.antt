-- Where no loop is ranked all stays; otherwise one more arm is kept where the test says so.
use Rattle.std.proofs.Common.{sym, refl}
use Rattle.passing.specs.Pass.{open_arm_kept}
use Rattle.passing.proofs.ChoiceLaws.{none_kept}
use Rattle.passing.proofs.pass.keep_open_arm.Goals as goal
use Rattle.passing.proofs.pass.keep_open_arm.Goals.{else-some_ranked-via-then-some_ranked+else-keeps_arms, else-some_ranked-via-else-some_ranked}

pub returns-then-keeps_arms : goal.returns-then-keeps_arms
unfolding open_arm_kept
returns-then-keeps_arms c = rw (sym c.keeps_arms.ensures, c.if-keeps_arms.true) cc

pub returns-else-some_ranked : goal.returns-else-some_ranked
unfolding open_arm_kept
returns-else-some_ranked c = elim c.else-some_ranked.branch [
  | else-some_ranked-via-then-some_ranked+else-keeps_arms w ↦ rw (sym w.keeps_arms.ensures, w.if-keeps_arms.false) refl
  | else-some_ranked-via-else-some_ranked w ↦
      none_kept c.args.arrays.now.rows c.args.arrays.now.limits c.args.choice c.args.opened.now c.args.arm c.some_ranked.ensures w.if-some_ranked.false
]
