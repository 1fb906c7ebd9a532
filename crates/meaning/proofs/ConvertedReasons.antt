-- Why a loop of a converted sheet is walked is what it was before, with the new offsets: the tests for closing are the same, in the same order.
use mathlib.Core.Path.{◌≡◌, refl, sym, ap, ◌∙◌}
use mathlib.Core.List.{List, [], ◌∷◌, ◌++◌, map, map-append, map-map}
use mathlib.Core.Bool.{Bool, true, false, not, cond}
use mathlib.Core.Option
use mathlib.Core.Option.{some}
use Prim.Native.Nat.{ℕ, zero, ◌+◌}
use lib.IntN.{ℤ}
use lib.Signed.{le_z}
use lib.Dec.{eqb}
use lib.ListN.{length}
use Rattle.whole.specs.Integer.{divides}
use Rattle.meaning.specs.Record.{Loop, stride_size, counts_down, loop_record, choice_record, next_arm_record, record_length, sheet_length}
use Rattle.meaning.specs.Tree.{Block, Arms, empty, work, loop, choice, last_arm, arm, records, arms_records}
use Rattle.meaning.specs.Time.{difference}
use Rattle.meaning.specs.Range.{Range, inner_ranges, difference_range}
use Rattle.meaning.specs.Closed.{push, push_own, push_inner}
use Rattle.meaning.specs.Place.{after_loop, after_choice}
use Rattle.meaning.specs.Reason.{holds_loop, too_few_trips, uneven_in, Test, first_failing, choice_tests, arms_choice_tests, Around, around_with}
use Rattle.meaning.specs.Reason.{uneven_tests, own_tests, loop_tests, arms_loop_tests, closing_tests, reason_of}
use Rattle.meaning.specs.Converter.{with_skip, change_loop}
use Rattle.meaning.specs.Moved.{moved_reason}
use Rattle.meaning.proofs.SameLoops.{SameLoop, same-with-skip, same_asked}
use Rattle.meaning.proofs.ConvertedTrees.{change_block, change_arms, arms-loops-changed, ranges-changed}
use Rattle.meaning.proofs.NewOffsets.{Moves, loop-moves, choice-moves, arm-moves}

-- what follows one another changes part by part
pub map-join : {A B : Type 0} (f : A → B) (xs ys : List A) {us vs : List B} → us ≡ map f xs → vs ≡ map f ys → us ++ vs ≡ map f (xs ++ ys)
map-join f xs ys e g = (λ t. e t ++ g t) ∙ sym (map-append f xs ys)

-- ---- a test with its offsets moved

module _ (place : ℕ → ℕ) where
  unfoldable moved_test : Test → Test
  moved_test t = record { reason = moved_reason place t.reason; fails = t.fails }

  unfoldable moved_around : Around → Around
  moved_around m = record { offset = place m.offset; pushes = m.pushes }

  first-failing-moved : (ts : List Test) → first_failing (map moved_test ts) ≡ Option.map (moved_reason place) (first_failing ts)
  unfolding first_failing moved_test
  first-failing-moved [] = refl
  first-failing-moved (t ∷ ts) = go t.fails (first-failing-moved ts)
    where
      go : (fails : Bool) → first_failing (map moved_test ts) ≡ Option.map (moved_reason place) (first_failing ts) →
          cond fails (some (moved_reason place t.reason)) (first_failing (map moved_test ts)) ≡ Option.map (moved_reason place) (cond fails (some t.reason) (first_failing ts))
      go true others = refl
      go false others = others

-- ---- the tests of changed loops

module _ (ps : List ℤ) {change : Loop → Loop} (same : (l : Loop) → SameLoop l (change l)) (place : ℕ → ℕ) where
  mutual
    unfolding choice_tests change_block records arms_records Moves change_loop moved_test moved_reason

    choice-tests-moved : (b : Block) (at to : ℕ) → Moves change place (records b) at to →
        choice_tests (change_block change b) to ≡ map (moved_test place) (choice_tests b at)
    choice-tests-moved empty at to m = refl
    choice-tests-moved (work least most rest) at to m = choice-tests-moved rest _ _ m.1
    choice-tests-moved (loop l body rest) at to m =
        let parts = loop-moves change place at to l body rest m in
        map-join (moved_test place) (choice_tests body (at + record_length (loop_record l))) (choice_tests rest (after_loop at l body))
        (choice-tests-moved body _ _ parts.1) (choice-tests-moved rest _ _ parts.2)
    choice-tests-moved (choice arms rest) at to m =
        let parts = choice-moves change place at to arms rest m in
        let others = map-join (moved_test place) (arms_choice_tests arms (at + record_length choice_record)) (choice_tests rest (after_choice at arms))
        (arms-choice-tests-moved arms _ _ parts.1) (choice-tests-moved rest _ _ parts.2) in
        λ t. record { reason = holds_loop (sym parts.0 t); fails = not (eqb (arms-loops-changed change arms t) zero) } ∷ others t

    arms-choice-tests-moved : (arms : Arms) (at to : ℕ) → Moves change place (arms_records arms) at to →
        arms_choice_tests (change_arms change arms) to ≡ map (moved_test place) (arms_choice_tests arms at)
    arms-choice-tests-moved (last_arm b) at to m = choice-tests-moved b at to m
    arms-choice-tests-moved (arm b arms) at to m =
        let parts = arm-moves change place at to b arms m in
        map-join (moved_test place) (choice_tests b at) (arms_choice_tests arms (at + sheet_length (records b) + record_length next_arm_record))
        (choice-tests-moved b at to parts.0) (arms-choice-tests-moved arms _ _ parts.1)

  module _ (k : Loop) (at to : ℕ) (moved : place at ≡ to) where
    abbrev both : with_skip (change k) ≡ with_skip k
    both = same-with-skip (same k)

    around-moved : (depth : ℕ) (around : List Around) →
        around_with (change k) depth to (map (moved_around place) around) ≡ map (moved_around place) (around_with k depth at around)
    unfolding around_with moved_around push_own push_inner with_skip
    around-moved depth around =
        map-join (moved_around place) (map (λ m. record { offset = m.offset; pushes = push_inner k m.pushes }) around) _
        (map-map _ (moved_around place) around
        ∙ (λ t. map (λ (m : Around). record { offset = place m.offset; pushes = push_inner (both t) m.pushes }) around)
        ∙ sym (map-map (moved_around place) _ around))
        (λ t. record { offset = sym moved t; pushes = push_own (both t) depth } ∷ [])

    uneven-moved : (around : List Around) → uneven_tests (change k) to (map (moved_around place) around) ≡ map (moved_test place) (uneven_tests k at around)
    unfolding uneven_tests moved_around moved_test moved_reason difference stride_size counts_down with_skip
    uneven-moved around =
        map-map _ (moved_around place) around
        ∙ (λ t. map (λ (m : Around). record {
          reason = uneven_in (sym moved t) (place m.offset);
          fails = not (divides (stride_size (both t)) (push (difference (both t)) m.pushes));
        }) around)
        ∙ sym (map-map (moved_test place) _ around)

    own-moved : (ranges : List Range) (around : List Around) →
        own_tests ps (change k) ranges (map (moved_around place) around) to ≡ map (moved_test place) (own_tests ps k ranges around at)
    unfolding own_tests moved_test moved_reason difference_range difference counts_down with_skip
    own-moved ranges around =
        λ t. record { reason = too_few_trips (sym moved t); fails = not (le_z (same_asked (same k) t) (difference_range ps (both t) ranges).lo) }
        ∷ uneven-moved around t

  mutual
    unfolding loop_tests change_block records arms_records Moves change_loop

    loop-tests-moved : (b : Block) (ranges : List Range) (around : List Around) (at to : ℕ) → Moves change place (records b) at to →
        loop_tests ps (change_block change b) ranges (map (moved_around place) around) to ≡ map (moved_test place) (loop_tests ps b ranges around at)
    loop-tests-moved empty ranges around at to m = refl
    loop-tests-moved (work least most rest) ranges around at to m = loop-tests-moved rest ranges around _ _ m.1
    loop-tests-moved (loop k body rest) ranges around at to m =
        let parts = loop-moves change place at to k body rest m in
        let within : List Around = around_with k (length ranges) at around in
        let inner = loop_tests ps body (inner_ranges ps k ranges) within (at + record_length (loop_record k)) in
        map-join (moved_test place) (own_tests ps k ranges around at ++ inner) (loop_tests ps rest ranges around (after_loop at k body))
        (map-join (moved_test place) (own_tests ps k ranges around at) inner (own-moved k at to parts.0 ranges around)
        ((λ t. loop_tests ps (change_block change body) (ranges-changed ps same k ranges t) (around-moved k at to parts.0 (length ranges) around t)
        (to + record_length (loop_record (change k))))
        ∙ loop-tests-moved body (inner_ranges ps k ranges) within _ _ parts.1))
        (loop-tests-moved rest ranges around _ _ parts.2)
    loop-tests-moved (choice arms rest) ranges around at to m =
        let parts = choice-moves change place at to arms rest m in
        map-join (moved_test place) (arms_loop_tests ps arms ranges around (at + record_length choice_record))
        (loop_tests ps rest ranges around (after_choice at arms))
        (arms-loop-tests-moved arms ranges around _ _ parts.1) (loop-tests-moved rest ranges around _ _ parts.2)

    arms-loop-tests-moved : (arms : Arms) (ranges : List Range) (around : List Around) (at to : ℕ) → Moves change place (arms_records arms) at to →
        arms_loop_tests ps (change_arms change arms) ranges (map (moved_around place) around) to ≡ map (moved_test place) (arms_loop_tests ps arms ranges around at)
    arms-loop-tests-moved (last_arm b) ranges around at to m = loop-tests-moved b ranges around at to m
    arms-loop-tests-moved (arm b arms) ranges around at to m =
        let parts = arm-moves change place at to b arms m in
        map-join (moved_test place) (loop_tests ps b ranges around at)
        (arms_loop_tests ps arms ranges around (at + sheet_length (records b) + record_length next_arm_record))
        (loop-tests-moved b ranges around at to parts.0) (arms-loop-tests-moved arms ranges around _ _ parts.1)

  -- ---- the reason

  module _ (l : Loop) (body : Block) (ranges : List Range) (at to : ℕ) (moved : place at ≡ to)
      (m : Moves change place (records body) (at + record_length (loop_record l)) (to + record_length (loop_record (change l)))) where
    closing-tests-moved : closing_tests ps (change l) (change_block change body) ranges to ≡ map (moved_test place) (closing_tests ps l body ranges at)
    unfolding closing_tests
    closing-tests-moved =
        let start : ℕ = at + record_length (loop_record l) in
        let new_start : ℕ = to + record_length (loop_record (change l)) in
        let around : List Around = around_with l (length ranges) at [] in
        map-join (moved_test place) (choice_tests body start) (loop_tests ps body (inner_ranges ps l ranges) around start)
        (choice-tests-moved body start new_start m)
        ((λ t. loop_tests ps (change_block change body) (ranges-changed ps same l ranges t) (around-moved l at to moved (length ranges) [] t) new_start)
        ∙ loop-tests-moved body (inner_ranges ps l ranges) around start new_start m)

    pub reason-moved : reason_of ps (change l) (change_block change body) ranges to ≡ Option.map (moved_reason place) (reason_of ps l body ranges at)
    unfolding reason_of
    reason-moved = ap first_failing closing-tests-moved ∙ first-failing-moved place (closing_tests ps l body ranges at)
