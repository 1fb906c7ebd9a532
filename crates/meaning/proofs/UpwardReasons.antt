-- Why a loop of the nest that counts up is walked is why the other is: the tests for closing are the same, in the same order.
use mathlib.Core.Path.{◌≡◌, refl, ap, ◌∙◌}
use mathlib.Core.List.{List, [], ◌∷◌, ◌++◌, map, map-map}
use mathlib.Core.Bool.{Bool, not}
use Prim.Native.Nat.{ℕ, zero, ◌+◌}
use lib.IntN.{ℤ, pos}
use lib.Signed.{le_z}
use lib.Dec.{eqb}
use lib.ListN.{length, replicate, length-replicate}
use Rattle.whole.specs.Integer.{divides}
use Rattle.meaning.specs.Record.{Loop, counts_down, work_record, loop_record, choice_record, record_length}
use Rattle.meaning.specs.Tree.{Block, Arms, empty, work, loop, choice, last_arm, arm}
use Rattle.meaning.specs.Range.{Range, inner_ranges}
use Rattle.meaning.specs.Closed.{push, push_own, push_inner}
use Rattle.meaning.specs.Reason.{holds_loop, too_few_trips, uneven_in, first_failing, choice_tests, arms_choice_tests, Around, around_with}
use Rattle.meaning.specs.Reason.{uneven_tests, own_tests, loop_tests, arms_loop_tests, closing_tests, reason_of}
use Rattle.meaning.specs.ReasonsTold.{Each, no_member, one_more}
use Rattle.meaning.proofs.Upward.{turn, turn_range, turn_each, upward_loop, downs_inside, upward, upward_arms}
use Rattle.meaning.proofs.TestLists.{each_append, each_map}
use Rattle.meaning.proofs.UpwardForms.{turn-length, append-one-length}
use Rattle.meaning.proofs.UpwardLoops.{size-upward, asked-upward, push-upward, push-own-upward, push-inner-upward}
use Rattle.meaning.proofs.UpwardLoops.{difference-range-upward, inner-ranges-upward, inner-ranges-length}
use Rattle.meaning.proofs.UpwardTrees.{arms-loops-upward, start-upward, after-loop-upward, after-choice-upward, after-arm-upward}

-- ---- choices

mutual
  unfolding choice_tests upward

  choice-tests-upward : (b : Block) (downs : List Bool) (at : ℕ) → choice_tests (upward downs b) at ≡ choice_tests b at
  choice-tests-upward empty downs at = refl
  choice-tests-upward (work least most rest) downs at = choice-tests-upward rest downs (at + record_length (work_record least most))
  choice-tests-upward (loop l body rest) downs at =
      λ t. choice-tests-upward body (downs_inside l downs) (start-upward downs at l t) t
      ++ choice-tests-upward rest downs (after-loop-upward downs at l body t) t
  choice-tests-upward (choice arms rest) downs at =
      λ t. record { reason = holds_loop at; fails = not (eqb (arms-loops-upward arms downs t) zero) }
      ∷ (arms-choice-tests-upward arms downs (at + record_length choice_record) t ++ choice-tests-upward rest downs (after-choice-upward downs at arms t) t)

  arms-choice-tests-upward : (arms : Arms) (downs : List Bool) (at : ℕ) → arms_choice_tests (upward_arms downs arms) at ≡ arms_choice_tests arms at
  arms-choice-tests-upward (last_arm b) downs at = choice-tests-upward b downs at
  arms-choice-tests-upward (arm b arms) downs at =
      λ t. choice-tests-upward b downs at t ++ arms-choice-tests-upward arms downs (after-arm-upward downs at b t) t

-- ---- the loops around

-- a loop around, with its pushes on the exchanged indexes
unfoldable turn_around : List Bool → Around → Around
turn_around downs m = record { offset = m.offset; pushes = turn_each turn downs m.pushes }

-- each has a push on the index of each loop around
abbrev PushEach : List Bool → List Around → Type 0
PushEach downs around = Each (λ m. length m.pushes ≡ length downs) around

module _ (downs : List Bool) (k : Loop) (depth : ℕ) (same : depth ≡ length downs) (at : ℕ) where
  around-upward : {around : List Around} → PushEach downs around →
      around_with (upward_loop downs k) depth at (map (turn_around downs) around) ≡ map (turn_around (downs_inside k downs)) (around_with k depth at around)
  unfolding around_with turn_around
  around-upward no_member = λ t. record { offset = at; pushes = push-own-upward downs k depth same t } ∷ []
  around-upward (one_more {x} first others) =
      λ t. record { offset = x.offset; pushes = push-inner-upward downs k x.pushes first t } ∷ around-upward others t

  push-each-inside : {around : List Around} → PushEach downs around → PushEach (downs_inside k downs) (around_with k depth at around)
  unfolding around_with push_inner push_own downs_inside
  push-each-inside each =
      each_append (each_map _ (λ m e. append-one-length m.pushes downs (push k.lower m.pushes) (counts_down k) e) each)
      (one_more (append-one-length (replicate depth (pos zero)) downs k.stride (counts_down k) (length-replicate depth (pos zero) ∙ same)) no_member)

-- ---- the tests of loops

module _ (ps : List ℤ) where
  module _ (downs : List Bool) (k : Loop) (at : ℕ) (around : List Around) where
    uneven-upward : uneven_tests (upward_loop downs k) at (map (turn_around downs) around) ≡ uneven_tests k at around
    unfolding uneven_tests turn_around
    uneven-upward =
        map-map _ (turn_around downs) around
        ∙ (λ t. map (λ (m : Around). record {
          reason = uneven_in at m.offset;
          fails = not (divides (size-upward downs k t) (push-upward downs k m.pushes t));
        }) around)

    own-upward : (ranges : List Range) →
        own_tests ps (upward_loop downs k) (turn_each turn_range downs ranges) (map (turn_around downs) around) at ≡ own_tests ps k ranges around at
    unfolding own_tests
    own-upward ranges =
        λ t. record { reason = too_few_trips at; fails = not (le_z (asked-upward downs k t) (difference-range-upward downs k ps ranges t).lo) } ∷ uneven-upward t

    -- where the tests of the body of k begin
    enter-upward : (ranges : List Range) → length ranges ≡ length downs → PushEach downs around → (body : Block) →
        loop_tests ps body (inner_ranges ps (upward_loop downs k) (turn_each turn_range downs ranges))
        (around_with (upward_loop downs k) (length (turn_each turn_range downs ranges)) at (map (turn_around downs) around))
        (at + record_length (loop_record (upward_loop downs k)))
        ≡ loop_tests ps body (turn_each turn_range (downs_inside k downs) (inner_ranges ps k ranges))
        (map (turn_around (downs_inside k downs)) (around_with k (length ranges) at around)) (at + record_length (loop_record k))
    enter-upward ranges same each body =
        let depth = ap (λ n. around_with (upward_loop downs k) n at (map (turn_around downs) around)) (turn-length turn_range downs ranges) in
        λ t. loop_tests ps body (inner-ranges-upward downs k ps ranges same t) ((depth ∙ around-upward downs k (length ranges) same at each) t)
        (start-upward downs at k t)

  mutual
    unfolding loop_tests upward

    loop-tests-upward : (b : Block) (downs : List Bool) (ranges : List Range) (around : List Around) (at : ℕ) →
        length ranges ≡ length downs → PushEach downs around →
        loop_tests ps (upward downs b) (turn_each turn_range downs ranges) (map (turn_around downs) around) at ≡ loop_tests ps b ranges around at
    loop-tests-upward empty downs ranges around at same each = refl
    loop-tests-upward (work least most rest) downs ranges around at same each =
        loop-tests-upward rest downs ranges around (at + record_length (work_record least most)) same each
    loop-tests-upward (loop k body rest) downs ranges around at same each =
        let inside = downs_inside k downs in
        let inner = enter-upward downs k at around ranges same each (upward inside body)
        ∙ loop-tests-upward body inside (inner_ranges ps k ranges) (around_with k (length ranges) at around) (at + record_length (loop_record k))
        (inner-ranges-length downs k ps ranges same) (push-each-inside downs k (length ranges) same at each) in
        λ t. own-upward downs k at around ranges t ++ inner t ++ loop-tests-upward rest downs ranges around (after-loop-upward downs at k body t) same each t
    loop-tests-upward (choice arms rest) downs ranges around at same each =
        λ t. arms-loop-tests-upward arms downs ranges around (at + record_length choice_record) same each t
        ++ loop-tests-upward rest downs ranges around (after-choice-upward downs at arms t) same each t

    arms-loop-tests-upward : (arms : Arms) (downs : List Bool) (ranges : List Range) (around : List Around) (at : ℕ) →
        length ranges ≡ length downs → PushEach downs around →
        arms_loop_tests ps (upward_arms downs arms) (turn_each turn_range downs ranges) (map (turn_around downs) around) at ≡ arms_loop_tests ps arms ranges around at
    arms-loop-tests-upward (last_arm b) downs ranges around at same each = loop-tests-upward b downs ranges around at same each
    arms-loop-tests-upward (arm b arms) downs ranges around at same each =
        λ t. loop-tests-upward b downs ranges around at same each t
        ++ arms-loop-tests-upward arms downs ranges around (after-arm-upward downs at b t) same each t

  -- ---- the reason

  pub reason-upward : (downs : List Bool) (l : Loop) (body : Block) (ranges : List Range) (at : ℕ) → length ranges ≡ length downs →
      reason_of ps (upward_loop downs l) (upward (downs_inside l downs) body) (turn_each turn_range downs ranges) at ≡ reason_of ps l body ranges at
  unfolding reason_of closing_tests
  reason-upward downs l body ranges at same =
      let inside = downs_inside l downs in
      let loops = enter-upward downs l at [] ranges same no_member (upward inside body)
      ∙ loop-tests-upward body inside (inner_ranges ps l ranges) (around_with l (length ranges) at []) (at + record_length (loop_record l))
      (inner-ranges-length downs l ps ranges same) (push-each-inside downs l (length ranges) same at no_member) in
      λ t. first_failing (choice-tests-upward body inside (start-upward downs at l t) t ++ loops t)
