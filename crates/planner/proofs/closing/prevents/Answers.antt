-- A choice between the two loops, a difference that may be too small, or a push that the stride does not divide: the tests of the definition.
use mathlib.Core.Path.{sym, ◌∙◌}
use borrow.Author.Tests.{lt-ltb, not-true, not-false}
use Rattle.meaning.proofs.Logic.{true-is-not-false}
use Rattle.planner.proofs.Preventing.{prevents-choice, prevents-short, prevents-uneven}
use Rattle.planner.proofs.closing.prevents.Goals as goal
use Rattle.planner.proofs.closing.prevents.Goals.{then-depth-rank_depth_at, else-depth-rank_depth_at}

pub returns-then-not-enough_at : goal.returns-then-not-enough_at
returns-then-not-enough_at c f known =
    c.if-not-enough_at.true
    ∙ elim c.if-depth-rank_depth_at.branch [
      | then-depth-rank_depth_at w ↦ prevents-choice known c.rank_depth_at.ensures w.if-depth-rank_depth_at.true
      | else-depth-rank_depth_at w ↦ prevents-short known c.rank_depth_at.ensures w.if-depth-rank_depth_at.false w.enough_at.ensures
          (not-true _ (sym w.value-is ∙ c.if-not-enough_at.true))
    ]

pub returns-else-not-enough_at : goal.returns-else-not-enough_at
returns-else-not-enough_at c f known =
    elim c.if-depth-rank_depth_at.branch [
      | then-depth-rank_depth_at w ↦ true-is-not-false (sym (lt-ltb _ _ w.if-depth-rank_depth_at.true) ∙ sym w.value-is ∙ c.if-not-enough_at.false)
      | else-depth-rank_depth_at w ↦ prevents-uneven known c.rank_depth_at.ensures w.if-depth-rank_depth_at.false w.enough_at.ensures
          (not-false _ (sym w.value-is ∙ c.if-not-enough_at.false)) (c.uneven.ensures _ f known)
    ]
