-- The tests for closing a loop that fail are what fails of document 01's definition of closed, and nothing else fails of it.
use mathlib.Core.Path.{◌≡◌, refl, sym, ap, ◌∙◌}
use mathlib.Core.List.{List, [], ◌∷◌, ◌++◌, map, map-append, map-map, map-id, append_assoc, append-nil}
use mathlib.Core.Bool.{not}
use Prim.Native.Nat.{ℕ, zero, ◌+◌}
use lib.IntN.{ℤ}
use lib.Dec.{T, eqb, eqb→eq, T_not, not_T}
use lib.ListN.{length}
use Rattle.whole.specs.Integer.{divides}
use Rattle.meaning.specs.Record.{Loop, stride_size, loop_record, record_length}
use Rattle.meaning.specs.Tree.{Block, Arms, empty, work, loop, choice, last_arm, arm, arms_loops}
use Rattle.meaning.specs.Time.{difference}
use Rattle.meaning.specs.Range.{Range, inner_ranges, ranges_inside}
use Rattle.meaning.specs.Closed.{push, push_own, nest_pushes}
use Rattle.meaning.specs.Place.{after_loop}
use Rattle.meaning.specs.Reason.{Reason, holds_loop, too_few_trips, uneven_in, Test, Around, around_with, uneven_tests}
use Rattle.meaning.specs.Reason.{choice_tests, arms_choice_tests, own_tests, loop_tests, arms_loop_tests, closing_tests}
use Rattle.meaning.specs.ReasonOrder.{ChoiceIn, choice_here, choice_in_arms, choice_after_choice, choice_in_body, choice_after_loop, choice_after_work}
use Rattle.meaning.specs.ReasonOrder.{ChoiceInArms, choice_in_last_arm, choice_in_arm, choice_in_later_arm}
use Rattle.meaning.specs.ReasonOrder.{Placed, LoopIn, loop_here, loop_in_body, loop_after_loop, loop_in_arms, loop_after_choice, loop_after_work}
use Rattle.meaning.specs.ReasonOrder.{LoopInArms, loop_in_last_arm, loop_in_arm, loop_in_later_arm, loops_of, Fails, choice_fails, smallest_fails, division_fails}
use Rattle.meaning.specs.ReasonsTold.{Each, no_member, one_more}
use Rattle.meaning.proofs.TestLists.{each_append, each_first, each-split, IfFails}

-- ---- the tests of choices are those of each choice inside

-- the test of a choice at an offset
abbrev choice_test : ℕ → Arms → Test
choice_test c arms = record { reason = holds_loop c; fails = not (eqb (arms_loops arms) zero) }

module _ (P : Test → Type 0) where
  mutual
    unfolding choice_tests

    each-choice-test : (b : Block) (at : ℕ) → ((c : ℕ) (found : Arms) → ChoiceIn b at c found → P (choice_test c found)) → Each P (choice_tests b at)
    each-choice-test empty at holds = no_member
    each-choice-test (work least most rest) at holds = each-choice-test rest _ (λ c found i. holds c found (choice_after_work i))
    each-choice-test (loop l body rest) at holds =
        each_append (each-choice-test body _ (λ c found i. holds c found (choice_in_body i)))
        (each-choice-test rest _ (λ c found i. holds c found (choice_after_loop i)))
    each-choice-test (choice arms rest) at holds =
        one_more (holds at arms choice_here) (each_append (each-arms-choice-test arms _ (λ c found i. holds c found (choice_in_arms i)))
        (each-choice-test rest _ (λ c found i. holds c found (choice_after_choice i))))

    each-arms-choice-test : (arms : Arms) (at : ℕ) → ((c : ℕ) (found : Arms) → ChoiceInArms arms at c found → P (choice_test c found)) →
        Each P (arms_choice_tests arms at)
    each-arms-choice-test (last_arm b) at holds = each-choice-test b at (λ c found i. holds c found (choice_in_last_arm i))
    each-arms-choice-test (arm b arms) at holds =
        each_append (each-choice-test b at (λ c found i. holds c found (choice_in_arm i)))
        (each-arms-choice-test arms _ (λ c found i. holds c found (choice_in_later_arm i)))

  mutual
    unfolding choice_tests

    choice-in-tests : {b : Block} {at c : ℕ} {found : Arms} → ChoiceIn b at c found → Each P (choice_tests b at) → P (choice_test c found)
    choice-in-tests choice_here (one_more first others) = first
    choice-in-tests (choice_in_arms i) (one_more first others) = choice-in-arms-tests i (each-split _ _ others).0
    choice-in-tests (choice_after_choice {arms} i) (one_more first others) = choice-in-tests i (each-split (arms_choice_tests arms _) _ others).1
    choice-in-tests (choice_in_body i) each = choice-in-tests i (each-split _ _ each).0
    choice-in-tests (choice_after_loop {body} i) each = choice-in-tests i (each-split (choice_tests body _) _ each).1
    choice-in-tests (choice_after_work i) each = choice-in-tests i each

    choice-in-arms-tests : {arms : Arms} {at c : ℕ} {found : Arms} → ChoiceInArms arms at c found → Each P (arms_choice_tests arms at) → P (choice_test c found)
    choice-in-arms-tests (choice_in_last_arm i) each = choice-in-tests i each
    choice-in-arms-tests (choice_in_arm i) each = choice-in-tests i (each-split _ _ each).0
    choice-in-arms-tests (choice_in_later_arm {b} i) each = choice-in-arms-tests i (each-split (choice_tests b _) _ each).1

-- ---- the tests of loops are those of each loop inside

module _ (ps : List ℤ) where
  -- the loops around what stands inside several more, outermost first
  around_inside : List Placed → List Range → List Around → List Around
  around_inside [] ranges around = around
  around_inside (p ∷ inner) ranges around = around_inside inner (inner_ranges ps p.placed ranges) (around_with p.placed (length ranges) p.offset around)

  -- the tests of a loop inside those between
  tests_inside : List Placed → Loop → List Range → List Around → ℕ → List Test
  tests_inside between k ranges around at = own_tests ps k (ranges_inside ps (loops_of between) ranges) (around_inside between ranges around) at

  module _ (P : Test → Type 0) where
    mutual
      unfolding loop_tests tests_inside around_inside ranges_inside

      each-loop-test : (b : Block) (ranges : List Range) (around : List Around) (at : ℕ) →
          ((between : List Placed) (k : ℕ) (found : Loop) → LoopIn b at between k found → Each P (tests_inside between found ranges around k)) →
          Each P (loop_tests ps b ranges around at)
      each-loop-test empty ranges around at hold = no_member
      each-loop-test (work least most rest) ranges around at hold = each-loop-test rest ranges around _ (λ between k found i. hold between k found (loop_after_work i))
      each-loop-test (loop l body rest) ranges around at hold =
          each_append (each_append (hold [] at l loop_here)
          (each-loop-test body _ _ _ (λ between k found i. hold (record { offset = at; placed = l } ∷ between) k found (loop_in_body i))))
          (each-loop-test rest ranges around _ (λ between k found i. hold between k found (loop_after_loop i)))
      each-loop-test (choice arms rest) ranges around at hold =
          each_append (each-arms-loop-test arms ranges around _ (λ between k found i. hold between k found (loop_in_arms i)))
          (each-loop-test rest ranges around _ (λ between k found i. hold between k found (loop_after_choice i)))

      each-arms-loop-test : (arms : Arms) (ranges : List Range) (around : List Around) (at : ℕ) →
          ((between : List Placed) (k : ℕ) (found : Loop) → LoopInArms arms at between k found → Each P (tests_inside between found ranges around k)) →
          Each P (arms_loop_tests ps arms ranges around at)
      each-arms-loop-test (last_arm b) ranges around at hold = each-loop-test b ranges around at (λ between k found i. hold between k found (loop_in_last_arm i))
      each-arms-loop-test (arm b arms) ranges around at hold =
          each_append (each-loop-test b ranges around at (λ between k found i. hold between k found (loop_in_arm i)))
          (each-arms-loop-test arms ranges around _ (λ between k found i. hold between k found (loop_in_later_arm i)))

    -- the tests of a loop with its body and what follows it, taken apart
    loop-parts : (l : Loop) (body rest : Block) (ranges : List Range) (around : List Around) (at : ℕ) → Each P (loop_tests ps (loop l body rest) ranges around at) →
        Each P (own_tests ps l ranges around at)
        × Each P (loop_tests ps body (inner_ranges ps l ranges) (around_with l (length ranges) at around) (at + record_length (loop_record l)))
        × Each P (loop_tests ps rest ranges around (after_loop at l body))
    unfolding loop_tests
    loop-parts l body rest ranges around at each =
        let own : List Test = own_tests ps l ranges around at in
        let inside : List Test = loop_tests ps body (inner_ranges ps l ranges) (around_with l (length ranges) at around) (at + record_length (loop_record l)) in
        let two = each-split (own ++ inside) (loop_tests ps rest ranges around (after_loop at l body)) each in
        let one = each-split own inside two.0 in
        (one.0, one.1, two.1)

    mutual
      unfolding loop_tests tests_inside around_inside ranges_inside

      loop-in-tests : (b : Block) (ranges : List Range) (around : List Around) {at k : ℕ} {between : List Placed} {found : Loop} → LoopIn b at between k found →
          Each P (loop_tests ps b ranges around at) → Each P (tests_inside between found ranges around k)
      loop-in-tests empty ranges around {at = at} {k = k} {between = between} {found = found} i each = elim i [ ]
      loop-in-tests (work least most rest) ranges around (loop_after_work i) each = loop-in-tests rest ranges around i each
      loop-in-tests (loop l body rest) ranges around loop_here each = (loop-parts l body rest ranges around _ each).0
      loop-in-tests (loop l body rest) ranges around (loop_in_body i) each = loop-in-tests body _ _ i (loop-parts l body rest ranges around _ each).1
      loop-in-tests (loop l body rest) ranges around (loop_after_loop i) each = loop-in-tests rest ranges around i (loop-parts l body rest ranges around _ each).2
      loop-in-tests (choice arms rest) ranges around (loop_in_arms i) each = loop-in-arms-tests arms ranges around i (each-split _ _ each).0
      loop-in-tests (choice arms rest) ranges around (loop_after_choice i) each =
          loop-in-tests rest ranges around i (each-split (arms_loop_tests ps arms _ _ _) _ each).1

      loop-in-arms-tests : (arms : Arms) (ranges : List Range) (around : List Around) {at k : ℕ} {between : List Placed} {found : Loop} →
          LoopInArms arms at between k found → Each P (arms_loop_tests ps arms ranges around at) → Each P (tests_inside between found ranges around k)
      loop-in-arms-tests (last_arm b) ranges around (loop_in_last_arm i) each = loop-in-tests b ranges around i each
      loop-in-arms-tests (arm b arms) ranges around (loop_in_arm i) each = loop-in-tests b ranges around i (each-split _ _ each).0
      loop-in-arms-tests (arm b arms) ranges around (loop_in_later_arm i) each = loop-in-arms-tests arms ranges around i (each-split (loop_tests ps b _ _ _) _ each).1

-- ---- the tests for an uneven loop are those of each loop around it

module _ (ps : List ℤ) where
  -- loops inside one another, outermost first: each with its pushes on the indexes up to that of the innermost
  movers : List Range → List Placed → List Around
  movers ranges [] = []
  movers ranges (p ∷ inner) =
      record { offset = p.offset; pushes = nest_pushes (loops_of inner) (push_own p.placed (length ranges)) } ∷ movers (inner_ranges ps p.placed ranges) inner

  inside-movers : (between : List Placed) (ranges : List Range) (around : List Around) →
      around_inside ps between ranges around
      ≡ map (λ m. record { offset = m.offset; pushes = nest_pushes (loops_of between) m.pushes }) around ++ movers ranges between
  unfolding around_inside movers nest_pushes around_with
  inside-movers [] ranges around = sym (append-nil _ ∙ map-id around)
  inside-movers (p ∷ between) ranges around = inside-movers between (inner_ranges ps p.placed ranges) _ ∙ simp (map-append, map-map, append_assoc)

  module _ (P : Test → Type 0) (k : Loop) (at : ℕ) where
    uneven_test : Placed → List Placed → List Range → Test
    uneven_test m inner ranges = record {
      reason = uneven_in at m.offset;
      fails = not (divides (stride_size k) (push (difference k) (nest_pushes (loops_of inner) (push_own m.placed (length ranges)))));
    }

    each-uneven : (placed : List Placed) (ranges : List Range) →
        ((outer : List Placed) (m : Placed) (inner : List Placed) → placed ≡ outer ++ (m ∷ inner) →
        P (uneven_test m inner (ranges_inside ps (loops_of outer) ranges))) → Each P (uneven_tests k at (movers ranges placed))
    unfolding uneven_tests movers uneven_test ranges_inside
    each-uneven [] ranges holds = no_member
    each-uneven (p ∷ inner) ranges holds =
        one_more (holds [] p inner refl) (each-uneven inner _ (λ outer m i e. holds (p ∷ outer) m i (ap (λ ms. p ∷ ms) e)))

    uneven-in : (outer : List Placed) (m : Placed) (inner : List Placed) (ranges : List Range) → Each P (uneven_tests k at (movers ranges (outer ++ (m ∷ inner)))) →
        P (uneven_test m inner (ranges_inside ps (loops_of outer) ranges))
    unfolding uneven_tests movers uneven_test ranges_inside
    uneven-in [] m inner ranges (one_more first others) = first
    uneven-in (o ∷ outer) m inner ranges (one_more first others) = uneven-in outer m inner _ others

-- ---- the tests that fail

some-loop : (n : ℕ) → T (not (eqb n zero)) → n ≡ zero → ⊥
some-loop n t e = T_not (eqb n zero) t (rw e tt)

loop-fails : (n : ℕ) → (n ≡ zero → ⊥) → T (not (eqb n zero))
loop-fails n h = not_T (eqb n zero) (λ t. h (eqb→eq n zero t))

module _ (ps : List ℤ) (l : Loop) (body : Block) (ranges : List Range) (at : ℕ) where
  -- the loops around one that stands inside the loops between: l and these
  around-own : (between : List Placed) →
      around_inside ps between (inner_ranges ps l ranges) (around_with l (length ranges) at []) ≡ movers ps ranges (record { offset = at; placed = l } ∷ between)
  unfolding around_inside
  around-own between = inside-movers ps (record { offset = at; placed = l } ∷ between) ranges []

  -- what holds of whatever fails holds of the reason of each test that fails
  pub each-failing : (P : Reason → Type 0) → ((r : Reason) → Fails ps l body ranges at r → P r) → Each (IfFails P) (closing_tests ps l body ranges at)
  unfolding closing_tests tests_inside own_tests uneven_test ranges_inside
  each-failing P holds =
      each_append (each-choice-test (IfFails P) body _ (λ c arms i t. holds (holds_loop c) (choice_fails arms i (some-loop (arms_loops arms) t))))
      (each-loop-test ps (IfFails P) body _ _ _ (λ between k found i.
      one_more (λ t. holds (too_few_trips k) (smallest_fails between found i t))
      (rw around-own (each-uneven ps (IfFails P) found k (record { offset = at; placed = l } ∷ between) ranges
      (λ outer m inner e t. holds (uneven_in k m.offset) (division_fails between outer m inner found i e t))))))

  -- and what holds of the reason of each test that fails holds of whatever fails
  pub failing-each : (P : Reason → Type 0) → Each (IfFails P) (closing_tests ps l body ranges at) → (r : Reason) → Fails ps l body ranges at r → P r
  unfolding closing_tests tests_inside own_tests uneven_test ranges_inside
  failing-each P each r (choice_fails arms i holds_some) =
      choice-in-tests (IfFails P) i (each-split _ _ each).0 (loop-fails (arms_loops arms) holds_some)
  failing-each P each r (smallest_fails between found i t) =
      (each_first (loop-in-tests ps (IfFails P) body _ _ i (each-split (choice_tests body _) _ each).1)).0 t
  failing-each P each r (division_fails {k} between outer m inner found i e t) =
      let uneven = (each_first (loop-in-tests ps (IfFails P) body _ _ i (each-split (choice_tests body _) _ each).1)).1 in
      uneven-in ps (IfFails P) found k outer m inner ranges (rw (around-own between, e) at uneven) t
