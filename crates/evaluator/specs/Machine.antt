-- The stage on a plan's numbers: the body evaluator and the loop evaluator, by the records still to pass and the loops that are open.
use Rattle.std.specs.Prelude.{List, Bool, true, false, cond, ℕ, zero, suc, min, ltb}
use Rattle.meaning.specs.Limits.{record_limit}
use Rattle.layout.specs.Rows.{depth_at}
use Rattle.state.specs.declared.State.{State}
use Rattle.passing.specs.Pass.{Passage, goes_on, pass_straight_work, pass_choice, is_of_loop, pass_loop}

-- what is to follow, from a depth and a state on
abbrev pub Further : Type 0
Further = ℕ → State → Passage

-- it follows at the depth that is reached, unless a visit begins
unfoldable pub unless_begun : Bool → Further → Passage → Passage
unless_begun true further p = p
unless_begun false further p = further p.depth p.after

-- what stands where straight work ends
pub data Following : Type 0 where
  nothing of_loop of_choice : Following

unfoldable pub following_at : List ℕ → ℕ → ℕ → Following
following_at rows count at = cond (ltb at count) (cond (is_of_loop rows at) of_loop of_choice) nothing

module _ (rows differences limits : List ℕ) where
  -- The loop evaluator: a loop's record or its end; then what is to follow, unless a visit begins.
  unfoldable pub loop_evaluator : Further → Further
  loop_evaluator further depth s = let p : Passage = pass_loop rows differences limits depth s in unless_begun p.begun further p

  unfoldable pub pass_following : Following → Further → Further
  pass_following nothing further depth s = goes_on depth s
  pass_following of_loop further depth s = loop_evaluator further depth s
  pass_following of_choice further depth s = further depth (pass_choice rows limits s)

  module _ (count : ℕ) where
    -- The body evaluator: what follows one another, with at most so many records that are no straight work.
    unfoldable pub body_evaluator : ℕ → Further
    body_evaluator zero depth s = goes_on depth (pass_straight_work rows count s)
    body_evaluator (suc left) depth s =
        let t : State = pass_straight_work rows count s in
        pass_following (following_at rows count t.at) (body_evaluator left) depth t

module _ (rows differences limits : List ℕ) (count : ℕ) where
  -- a stage on a plan with so many records, no more than a sheet has; of a sheet's plan it passes each at most once
  unfoldable pub stage_on : State → Passage
  stage_on s =
      let records : ℕ = min count record_limit in
      body_evaluator rows differences limits records records (depth_at rows s.at) s

  -- the next state on a plan
  unfoldable pub next_on : State → State
  next_on s = (stage_on s).after
