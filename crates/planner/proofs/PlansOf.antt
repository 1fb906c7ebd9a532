-- Each loop's plan, by the records before it and after it: its facts, its class and its height.
use mathlib.Core.List.{◌++◌, List, [], ◌∷◌}
use mathlib.Core.Option.{Option, none, some}
use mathlib.Core.Path.{ap, ap₂, refl, sym, ◌∙◌, ◌≡◌}
use Prim.Native.Nat.{◌+◌, ◌<◌, suc, zero, ℕ, ◌≤◌}
use native.Mathlib.Omega.{arith}
use lib.ListN.{drop, get_or, length, take}
use lib.IntN.{ℤ}
use Rattle.meaning.specs.Tree.{height, tree, Block}
use Rattle.meaning.specs.Record.{Loop, loop_depth, loop_record, open_loop, Record, Open}
use Rattle.meaning.specs.Limits.{depth_limit}
use Rattle.meaning.specs.Closed.{loop_class}
use Rattle.meaning.proofs.Accepted.{InPlace}
use Rattle.meaning.proofs.Trees.{tree-before-end}
use Rattle.nest.specs.Walk.{opens_after, records_inside}
use Rattle.nest.proofs.RowsOf.{get_d-from}
use Rattle.nest.proofs.Places.{in-place-through, loop-body}
use Rattle.nest.proofs.Walks.{opens_through}
use Rattle.loops.specs.Enclosing.{Enclosing, enclosing_after, enter, loops_around, nothing_open}
use Rattle.loops.specs.Facts.{LoopFacts, facts_at, facts_from, loop_facts, loops_in, sheet_facts}
use Rattle.loops.proofs.Facts.{facts-after, facts-length}
use Rattle.loops.proofs.Enclosings.{nothing-open, open-loops-through}
use Rattle.planner.specs.Closing.{LoopPlan, class_among, height_above, limit_of, plan_at, plans_from}
use Rattle.planner.specs.Plan.{sheet_plans}
use Rattle.planner.proofs.Limits.{class-among, height-among, limit-small}

plans-none : (rs : List Record) → plans_from rs [] ≡ []
unfolding plans_from
plans-none [] = refl
plans-none (r ∷ rs) = refl

plans-after : (xs ys : List Record) (fs : List (Option LoopFacts)) → drop (length xs) (plans_from (xs ++ ys) fs) ≡ plans_from ys (drop (length xs) fs)
unfolding plans_from
plans-after [] ys fs = refl
plans-after (x ∷ xs) ys [] = sym (plans-none ys)
plans-after (x ∷ xs) ys (f ∷ fs) = plans-after xs ys fs

-- each record's plan comes from its facts and those of the records up to its end
pub plans-get : (rs : List Record) (fs : List (Option LoopFacts)) (n : ℕ) → length rs ≡ length fs → n < length rs →
    get_or (plans_from rs fs) n none ≡ plan_at (get_or fs n none) (take (records_inside zero (drop (suc n) rs)) (drop (suc n) fs))
unfolding plans_from
plans-get [] fs n e h = absurd (omega arith)
plans-get (r ∷ rs) [] n e h = absurd (omega arith)
plans-get (r ∷ rs) (f ∷ fs) zero e h = refl
plans-get (r ∷ rs) (f ∷ fs) (suc n) e h = plans-get rs fs n (omega arith) (omega arith)

plans-size : (rs : List Record) (fs : List (Option LoopFacts)) → length rs ≡ length fs → length (plans_from rs fs) ≡ length rs
unfolding plans_from
plans-size [] fs e = refl
plans-size (r ∷ rs) [] e = sym e
plans-size (r ∷ rs) (f ∷ fs) e = ap suc (plans-size rs fs (omega arith))

-- the loops with a plan are those with facts
loops-planned : (rs : List Record) (fs : List (Option LoopFacts)) (n : ℕ) → length rs ≡ length fs →
    length (loops_in (take n (plans_from rs fs))) ≡ length (loops_in (take n fs))
unfolding plans_from plan_at loops_in
loops-planned rs fs zero e = refl
loops-planned [] [] (suc n) e = refl
loops-planned [] (f ∷ fs) (suc n) e = absurd (omega arith)
loops-planned (r ∷ rs) [] (suc n) e = refl
loops-planned (r ∷ rs) (none ∷ fs) (suc n) e = loops-planned rs fs n (omega arith)
loops-planned (r ∷ rs) (some f ∷ fs) (suc n) e = ap suc (loops-planned rs fs n (omega arith))

module _ (ps : List ℤ) where
  facts-size : (rs : List Record) → length rs ≡ length (sheet_facts ps rs)
  unfolding sheet_facts
  facts-size rs = sym (facts-length ps [] nothing_open rs)

  pub plans-length : (rs : List Record) → length (sheet_plans ps rs) ≡ length rs
  unfolding sheet_plans
  plans-length rs = plans-size rs (sheet_facts ps rs) (facts-size rs)

  pub plan-of-record : (rs : List Record) (n : ℕ) → n < length rs →
      get_or (sheet_plans ps rs) n none ≡ plan_at (get_or (sheet_facts ps rs) n none) (take (records_inside zero (drop (suc n) rs)) (drop (suc n) (sheet_facts ps rs)))
  unfolding sheet_plans
  plan-of-record rs n there = plans-get rs (sheet_facts ps rs) n (facts-size rs) there

  pub loops-before-plans : (rs : List Record) (n : ℕ) → length (loops_in (take n (sheet_plans ps rs))) ≡ length (loops_in (take n (sheet_facts ps rs)))
  unfolding sheet_plans
  loops-before-plans rs n = loops-planned rs (sheet_facts ps rs) n (facts-size rs)

  -- of loop l, before the records ys, where os and the loops e are open
  unfoldable pub defined_plan : Loop → List Record → List Open → Enclosing → LoopPlan
  defined_plan l ys os e = record { facts = loop_facts ps os e l; class = loop_class ps l (tree ys) e.ranges; height = height (tree ys) }

  -- of a sheet in place, each loop's plan is the defined one
  pub loop-plan : (xs : List Record) (l : Loop) (ys : List Record) → InPlace [] (xs ++ (loop_record l ∷ ys)) →
      get_or (sheet_plans ps (xs ++ (loop_record l ∷ ys))) (length xs) none ≡ some (defined_plan l ys (opens_through [] xs) (loops_around ps xs))
  unfolding defined_plan sheet_plans plans_from plan_at sheet_facts facts_from facts_at loop_facts opens_after enclosing_after
  loop-plan xs l ys h =
      let os : List Open = opens_through [] xs in
      let e : Enclosing = loops_around ps xs in
      let fs : List (Option LoopFacts) = sheet_facts ps (xs ++ (loop_record l ∷ ys)) in
      let found = loop-body l ys os (in-place-through xs (loop_record l ∷ ys) [] h) in
      let body : Block = found.body in
      let q : List Record = found.following in
      let same : body ≡ tree ys = sym (ap tree found.split ∙ tree-before-end body q) in
      let inside : List Record → List (Option LoopFacts) = λ rs. take (records_inside zero rs) (facts_from ps (open_loop ∷ os) (enter ps l e) rs) in
      let class : class_among (loop_depth os) (inside ys) ≡ loop_class ps l (tree ys) e.ranges =
      ap (λ rs. class_among (loop_depth os) (inside rs)) found.split
      ∙ class-among ps l body os e q (open-loops-through ps xs [] nothing_open nothing-open) ∙ ap (λ b. loop_class ps l b e.ranges) same in
      let high : height_above (loop_depth os) (inside ys) ≡ height (tree ys) =
      ap (λ rs. height_above (loop_depth os) (inside rs)) found.split ∙ height-among ps l body os e q ∙ ap height same in
      get_d-from (length xs) (plans_from (xs ++ (loop_record l ∷ ys)) fs) none
      ∙ ap (λ plans. get_or plans 0 none) (plans-after xs (loop_record l ∷ ys) fs ∙ ap (plans_from (loop_record l ∷ ys)) (facts-after ps xs (loop_record l ∷ ys) [] nothing_open))
      ∙ ap₂ {C = Option LoopPlan} (λ c n. some (record { facts = loop_facts ps os e l; class = c; height = n })) class high

  -- its limit is small: with d loops around a loop, at most depth_limit - d
  pub limit-below : (xs : List Record) (l : Loop) (ys : List Record) → InPlace [] (xs ++ (loop_record l ∷ ys)) →
      limit_of (loop_class ps l (tree ys) (loops_around ps xs).ranges) (height (tree ys)) + loop_depth (opens_through [] xs) ≤ depth_limit
  limit-below xs l ys h =
      let os : List Open = opens_through [] xs in
      let here = in-place-through xs (loop_record l ∷ ys) [] h in
      let found = loop-body l ys os here in
      let same : height (tree ys) ≡ height found.body = ap height (ap tree found.split ∙ tree-before-end found.body found.following) in
      let high = found.shallow in
      omega (arith, limit-small (loop_class ps l (tree ys) (loops_around ps xs).ranges) (height (tree ys)), same)
