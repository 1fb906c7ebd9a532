-- A loop is closed exactly where none of the tests for closing it fails: it then has no reason.
use mathlib.Core.Path.{◌≡◌, refl, sym, ap, ◌∙◌}
use mathlib.Core.List.{List, [], ◌∷◌, ◌++◌, map, map-append}
use mathlib.Core.Bool.{Bool, true, false, ◌&&◌, and_assoc, and_comm, not-not}
use mathlib.Core.Logic.{◌↔◌}
use mathlib.Core.Option.{none}
use Prim.Native.Nat.{ℕ, zero, ◌+◌}
use native.Mathlib.Omega.{arith}
use lib.IntN.{ℤ}
use lib.Signed.{le_z}
use lib.Dec.{T, eqb, eqb→eq}
use lib.ListN.{length}
use Rattle.whole.specs.Integer.{divides}
use Rattle.meaning.specs.Record.{Loop, stride_size, work_record, loop_record, choice_record, next_arm_record, record_length, sheet_length}
use Rattle.meaning.specs.Tree.{Block, Arms, empty, work, loop, choice, last_arm, arm, records, loops, arms_loops}
use Rattle.meaning.specs.Time.{difference}
use Rattle.meaning.specs.Range.{Range, inner_ranges, difference_range}
use Rattle.meaning.specs.Closed.{push, push_own, push_inner, stride_divides, asked_difference, closable, closed}
use Rattle.meaning.specs.Place.{after_loop, after_choice}
use Rattle.meaning.specs.Reason.{Around, around_with, uneven_tests, choice_tests, arms_choice_tests, own_tests, loop_tests, arms_loop_tests, closing_tests, reason_of}
use Rattle.meaning.proofs.TestLists.{all_pass, all_pass-append, none-fails}

and-left-comm : (a b c : Bool) → (a && (b && c)) ≡ (b && (a && c))
and-left-comm true b c = refl
and-left-comm false true c = refl
and-left-comm false false c = refl

-- ---- the pushes of the loops around

-- the pushes of the loops around, innermost first as `closable` has them
pushes_of : List Around → List (List ℤ)
pushes_of [] = []
pushes_of (m ∷ around) = pushes_of around ++ (m.pushes ∷ [])

pushes-with : (l : Loop) (depth at : ℕ) (around : List Around) →
    pushes_of (around_with l depth at around) ≡ push_own l depth ∷ map (push_inner l) (pushes_of around)
unfolding pushes_of around_with
pushes-with l depth at [] = refl
pushes-with l depth at (m ∷ around) =
    ap (λ pushes. pushes ++ (push_inner l m.pushes ∷ [])) (pushes-with l depth at around)
    ∙ ap (λ pushes. push_own l depth ∷ pushes) (sym (map-append (push_inner l) (pushes_of around) (m.pushes ∷ [])))

stride_divides-last : (k : Loop) (pushes : List (List ℤ)) (last : List ℤ) →
    stride_divides k (pushes ++ (last ∷ [])) ≡ (divides (stride_size k) (push (difference k) last) && stride_divides k pushes)
unfolding stride_divides
stride_divides-last k [] last = refl
stride_divides-last k (p ∷ pushes) last = simp (stride_divides-last k pushes last, and-left-comm)

uneven-pass : (k : Loop) (at : ℕ) (around : List Around) → all_pass (uneven_tests k at around) ≡ stride_divides k (pushes_of around)
unfolding all_pass uneven_tests pushes_of stride_divides
uneven-pass k at [] = refl
uneven-pass k at (m ∷ around) = simp (not-not, stride_divides-last, ← uneven-pass k at around)

own-pass : (ps : List ℤ) (k : Loop) (ranges : List Range) (around : List Around) (at : ℕ) →
    all_pass (own_tests ps k ranges around at) ≡ (le_z (asked_difference k) (difference_range ps k ranges).lo && stride_divides k (pushes_of around))
unfolding own_tests all_pass
own-pass ps k ranges around at = simp (not-not, uneven-pass)

-- ---- the tests of a block

-- the tests of a loop, of its body and of what follows it, sorted by kind
sorted : (own choices loops choices' loops' : Bool) → (own && (choices && loops) && (choices' && loops')) ≡ ((choices && choices') && (own && loops && loops'))
sorted own choices loops choices' loops' = simp (and_assoc, and-left-comm)

-- a test that is asked only where another passes
asked-after : (first second others : Bool) → (T first → second ≡ true) → (first && others) ≡ (first && (second && others))
asked-after true second others passes = simp (passes tt)
asked-after false second others passes = refl

module _ (ps : List ℤ) where
  -- where there is no loop, no test fails
  mutual
    unfolding loops choice_tests loop_tests all_pass

    loopless-pass : (b : Block) (ranges : List Range) (around : List Around) (at : ℕ) → loops b ≡ zero →
        (all_pass (choice_tests b at) ≡ true) × (all_pass (loop_tests ps b ranges around at) ≡ true)
    loopless-pass empty ranges around at h = (refl, refl)
    loopless-pass (work least most rest) ranges around at h = loopless-pass rest ranges around (at + record_length (work_record least most)) h
    loopless-pass (loop l body rest) ranges around at h = absurd (omega arith)
    loopless-pass (choice arms rest) ranges around at h =
        let in_arms : arms_loops arms ≡ zero = omega arith in
        let first = loopless-arms-pass arms ranges around (at + record_length choice_record) in_arms in
        let others = loopless-pass rest ranges around (after_choice at arms) (omega arith) in
        (simp (all_pass-append, first.0, others.0, in_arms), simp (all_pass-append, first.1, others.1))

    loopless-arms-pass : (arms : Arms) (ranges : List Range) (around : List Around) (at : ℕ) → arms_loops arms ≡ zero →
        (all_pass (arms_choice_tests arms at) ≡ true) × (all_pass (arms_loop_tests ps arms ranges around at) ≡ true)
    loopless-arms-pass (last_arm b) ranges around at h = loopless-pass b ranges around at h
    loopless-arms-pass (arm b arms) ranges around at h =
        let first = loopless-pass b ranges around at (omega arith) in
        let others = loopless-arms-pass arms ranges around (at + sheet_length (records b) + record_length next_arm_record) (omega arith) in
        (simp (all_pass-append, first.0, others.0), simp (all_pass-append, first.1, others.1))

  closable-passes : (b : Block) (ranges : List Range) (around : List Around) (at : ℕ) →
      closable ps b ranges (pushes_of around) ≡ (all_pass (choice_tests b at) && all_pass (loop_tests ps b ranges around at))
  unfolding closable choice_tests loop_tests all_pass
  closable-passes empty ranges around at = refl
  closable-passes (work least most rest) ranges around at = closable-passes rest ranges around (at + record_length (work_record least most))
  closable-passes (loop l body rest) ranges around at =
      let inside = closable-passes body (inner_ranges ps l ranges) (around_with l (length ranges) at around) (at + record_length (loop_record l)) in
      let after = closable-passes rest ranges around (after_loop at l body) in
      simp (← pushes-with l (length ranges) at around, ← own-pass ps l ranges around at, inside, after, all_pass-append, sorted)
  closable-passes (choice arms rest) ranges around at =
      let in_arms : ℕ = at + record_length choice_record in
      asked-after (eqb (arms_loops arms) zero) (all_pass (arms_choice_tests arms in_arms) && all_pass (arms_loop_tests ps arms ranges around in_arms))
      (closable ps rest ranges (pushes_of around))
      (λ t. let passes = loopless-arms-pass arms ranges around in_arms (eqb→eq (arms_loops arms) zero t) in simp (passes.0, passes.1))
      ∙ simp (closable-passes rest ranges around (after_choice at arms), all_pass-append, not-not, and_assoc, and_comm, and-left-comm)

  closed-passes : (l : Loop) (body : Block) (ranges : List Range) (at : ℕ) → closed ps l body ranges ≡ all_pass (closing_tests ps l body ranges at)
  unfolding closed closing_tests pushes_of around_with
  closed-passes l body ranges at =
      let start : ℕ = at + record_length (loop_record l) in
      let around : List Around = around_with l (length ranges) at [] in
      closable-passes body (inner_ranges ps l ranges) around start
      ∙ sym (all_pass-append (choice_tests body start) (loop_tests ps body (inner_ranges ps l ranges) around start))

  pub closed-without-reason : (l : Loop) (body : Block) (ranges : List Range) (at : ℕ) → (reason_of ps l body ranges at ≡ none) ↔ T (closed ps l body ranges)
  unfolding reason_of
  closed-without-reason l body ranges at = rw (closed-passes l body ranges at) (none-fails (closing_tests ps l body ranges at))
