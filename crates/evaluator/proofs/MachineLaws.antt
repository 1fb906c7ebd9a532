-- The two evaluators, unrolled once.
use mathlib.Core.Path.{◌≡◌, sym, ap, ◌∙◌}
use mathlib.Core.Bool.{Bool, true, false}
use mathlib.Core.List.{List}
use Prim.Native.Nat.{ℕ, suc, ◌-◌, ◌<◌, ◌≤◌, min}
use native.Mathlib.Omega.{arith}
use borrow.Author.Tests.{lt-ltb, le-ltb}
use Rattle.meaning.specs.Limits.{record_limit}
use Rattle.layout.specs.Rows.{depth_at}
use Rattle.state.specs.declared.State.{State}
use Rattle.passing.specs.Pass.{Passage, at_next, pass_straight_work, pass_choice, is_of_loop, pass_loop}
use Rattle.evaluator.specs.Machine.{Further, unless_begun, Following, nothing, of_loop, of_choice}
use Rattle.evaluator.specs.Machine.{loop_evaluator, following_at, pass_following, body_evaluator, stage_on, next_on}
use Rattle.passing.proofs.LoopLaws.{shallow}

module _ (rows differences limits : List ℕ) (count : ℕ) where
  abbrev body : ℕ → Further
  body = body_evaluator rows differences limits count

  abbrev following : Following → Further → Further
  following = pass_following rows differences limits

  module _ (left depth : ℕ) (s : State) {t : State} (w : pass_straight_work rows count s ≡ t) where
    pub body-done : left ≡ 0 → (body left depth s).after ≡ t
    unfolding body_evaluator
    body-done e = ap (λ (n : ℕ). (body n depth s).after) e ∙ w

    module _ (more : left ≡ 0 → ⊥) where
      onward : {f : Following} → following_at rows count t.at ≡ f → body left depth s ≡ following f (body (left - 1)) depth t
      unfolding body_evaluator
      onward e =
          let m : left ≡ suc (left - 1) = omega arith in
          ap (λ (n : ℕ). body n depth s) m
          ∙ ap (λ (t : State). following (following_at rows count t.at) (body (left - 1)) depth t) w
          ∙ ap (λ (f : Following). following f (body (left - 1)) depth t) e

      pub body-past : count ≤ t.at → (body left depth s).after ≡ t
      unfolding pass_following following_at
      body-past h = ap (λ (p : Passage). p.after) (onward {f = nothing} (simp (le-ltb t.at count h)))

      pub body-loop : {u : State} → t.at < count → is_of_loop rows t.at ≡ true
          → (loop_evaluator rows differences limits (body (left - 1)) depth t).after ≡ u → (body left depth s).after ≡ u
      unfolding pass_following following_at
      body-loop h e p = ap (λ (p : Passage). p.after) (onward {f = of_loop} (simp (lt-ltb t.at count h, e))) ∙ p

      pub body-choice : (v : State) {u : State} → t.at < count → is_of_loop rows t.at ≡ false → pass_choice rows limits t ≡ at_next v
          → (body (left - 1) depth (at_next v)).after ≡ u → (body left depth s).after ≡ u
      unfolding pass_following following_at
      body-choice v h e c p =
          ap (λ (p : Passage). p.after) (onward {f = of_choice} (simp (lt-ltb t.at count h, e)))
          ∙ ap (λ (v : State). (body (left - 1) depth v).after) c
          ∙ p

  module _ (further : Further) (depth : ℕ) (s : State) {t : State} {b : Bool} {d : ℕ}
      (p : pass_loop rows differences limits depth s ≡ record { begun = b; depth = d; after = t }) where
    -- the depth falls or stays where no visit begins
    pub loop-shallow : b ≡ false → d ≤ depth
    loop-shallow e = let h = shallow rows differences limits depth s (ap (λ (q : Passage). q.begun) p ∙ e) in omega (arith, ap (λ (q : Passage). q.depth) p)

    abbrev passage : Passage
    passage = record { begun = b; depth = d; after = t }

    turned : (c : Bool) → b ≡ c → loop_evaluator rows differences limits further depth s ≡ unless_begun c further passage
    unfolding loop_evaluator
    turned c e = ap (λ (q : Passage). unless_begun q.begun further q) p ∙ ap (λ (c : Bool). unless_begun c further passage) e

    pub loop-begun : b ≡ true → (loop_evaluator rows differences limits further depth s).after ≡ t
    unfolding unless_begun
    loop-begun e = ap (λ (q : Passage). q.after) (turned true e)

    pub loop-on : {u : State} → b ≡ false → (further d t).after ≡ u → (loop_evaluator rows differences limits further depth s).after ≡ u
    unfolding unless_begun
    loop-on e q = ap (λ (q : Passage). q.after) (turned false e) ∙ q

  -- a stage is the body evaluator with all records left
  pub stage-made : (s : State) {records depth : ℕ} {t : State} → records ≡ min count record_limit → depth ≡ depth_at rows s.at
      → (body_evaluator rows differences limits records records depth s).after ≡ t → next_on rows differences limits count s ≡ t
  unfolding next_on stage_on
  stage-made s e d p = sym (λ i. (body_evaluator rows differences limits (e i) (e i) (d i) s).after) ∙ p
