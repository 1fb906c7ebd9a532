-- What closing a loop asks of what is inside it, taken apart; and that all loops inside what may be closed are closed.
use mathlib.Core.Path.{◌≡◌, refl, sym, ap, ap₂, subst}
use mathlib.Core.List.{List, [], ◌∷◌, ◌++◌, map, map-append}
use mathlib.Core.Bool.{Bool, true, false, cond, ◌&&◌}
use Prim.Native.Nat.{ℕ, zero, ◌+◌}
use native.Mathlib.Omega.{arith}
use lib.IntN.{ℤ}
use lib.Signed.{le_z}
use lib.Dec.{T, eqb, eqb→eq}
use lib.ListN.{length}
use Rattle.whole.specs.Integer.{divides}
use Rattle.meaning.specs.Record.{Loop, stride_size, work_record, loop_record, end_record, choice_record, next_arm_record, record_length, sheet_length}
use Rattle.meaning.specs.Tree.{Block, Arms, empty, work, loop, choice, last_arm, arm, loops, arms_loops, records, arms_records}
use Rattle.meaning.specs.Time.{difference}
use Rattle.meaning.specs.Range.{Range, inner_ranges, difference_range}
use Rattle.meaning.specs.Closed.{push, push_own, push_inner, stride_divides, asked_difference}
use Rattle.meaning.specs.Closed.{LoopClass, closed_class, ranked_class, walked_class, is_closed, closable, closed, ranked, loop_class}
use Rattle.meaning.specs.Report.{LoopReport, all_closed, loop_reports, arms_reports}
use Rattle.meaning.proofs.Logic.{T_and, and_t}
use Rattle.meaning.proofs.Reports.{all_closed-append}

-- fewer pushes to divide
stride_divides-fewer : (l : Loop) (kept dropped : List (List ℤ)) → T (stride_divides l (kept ++ dropped)) → T (stride_divides l kept)
unfolding stride_divides
stride_divides-fewer l [] dropped t = tt
stride_divides-fewer l (p ∷ kept) dropped t =
    let first = divides (stride_size l) (push (difference l) p) in
    let tests = T_and first (stride_divides l (kept ++ dropped)) t in
    and_t first (stride_divides l kept) tests.0 (stride_divides-fewer l kept dropped tests.1)

module _ (ps : List ℤ) where
  -- ---- the tests

  -- of a loop inside, and of what follows it
  pub record LoopClosable (l : Loop) (body rest : Block) (ranges : List Range) (pushes : List (List ℤ)) : Type 0 where
    pub smallest : T (le_z (asked_difference l) (difference_range ps l ranges).lo)
    pub divided : T (stride_divides l pushes)
    pub body_closable : T (closable ps body (inner_ranges ps l ranges) (push_own l (length ranges) ∷ map (push_inner l) pushes))
    pub rest_closable : T (closable ps rest ranges pushes)

  pub closable-loop : (l : Loop) (body rest : Block) (ranges : List Range) (pushes : List (List ℤ)) →
      T (closable ps (loop l body rest) ranges pushes) → LoopClosable l body rest ranges pushes
  unfolding closable
  closable-loop l body rest ranges pushes t =
      let smallest = le_z (asked_difference l) (difference_range ps l ranges).lo in
      let divided = stride_divides l pushes in
      let inside = closable ps body (inner_ranges ps l ranges) (push_own l (length ranges) ∷ map (push_inner l) pushes) in
      let three = T_and (smallest && divided && inside) (closable ps rest ranges pushes) t in
      let two = T_and (smallest && divided) inside three.0 in
      let one = T_and smallest divided two.0 in
      record { smallest = one.0; divided = one.1; body_closable = two.1; rest_closable = three.1 }

  pub loop-closable : (l : Loop) (body rest : Block) (ranges : List Range) (pushes : List (List ℤ)) →
      LoopClosable l body rest ranges pushes → T (closable ps (loop l body rest) ranges pushes)
  unfolding closable
  loop-closable l body rest ranges pushes tests =
      let smallest = le_z (asked_difference l) (difference_range ps l ranges).lo in
      let divided = stride_divides l pushes in
      let inside = closable ps body (inner_ranges ps l ranges) (push_own l (length ranges) ∷ map (push_inner l) pushes) in
      let two = and_t smallest divided tests.smallest tests.divided in
      let three = and_t (smallest && divided) inside two tests.body_closable in
      and_t (smallest && divided && inside) (closable ps rest ranges pushes) three tests.rest_closable

  -- of a choice: no loop in an arm
  pub closable-choice : (arms : Arms) (rest : Block) (ranges : List Range) (pushes : List (List ℤ)) →
      T (closable ps (choice arms rest) ranges pushes) → (arms_loops arms ≡ zero) × T (closable ps rest ranges pushes)
  unfolding closable
  closable-choice arms rest ranges pushes t =
      let both = T_and (eqb (arms_loops arms) zero) (closable ps rest ranges pushes) t in
      (eqb→eq (arms_loops arms) zero both.0, both.1)

  -- ---- a loop's class

  pub class-closed : (l : Loop) (body : Block) (ranges : List Range) → T (is_closed (loop_class ps l body ranges)) → T (closed ps l body ranges)
  unfolding loop_class
  class-closed l body ranges t = go (closed ps l body ranges) t
    where
      other : (b : Bool) → T (is_closed (cond b ranked_class walked_class)) → ⊥
      other true t = unfold is_closed in t
      other false t = unfold is_closed in t

      go : (b : Bool) → T (is_closed (cond b closed_class (cond (ranked ps l body ranges) ranked_class walked_class))) → T b
      go true t = tt
      go false t = absurd (other (ranked ps l body ranges) t)

  pub closed-class : (l : Loop) (body : Block) (ranges : List Range) → T (closed ps l body ranges) → T (is_closed (loop_class ps l body ranges))
  unfolding loop_class
  closed-class l body ranges t = go (closed ps l body ranges) t
    where
      go : (b : Bool) → T b → T (is_closed (cond b closed_class (cond (ranked ps l body ranges) ranked_class walked_class)))
      go true t = unfold is_closed in tt
      go false t = absurd t

  -- a walked loop is neither closed nor ranked
  pub class-walked : (l : Loop) (body : Block) (ranges : List Range) → loop_class ps l body ranges ≡ walked_class →
      (closed ps l body ranges ≡ false) × (ranked ps l body ranges ≡ false)
  unfolding loop_class
  class-walked l body ranges e = go (closed ps l body ranges) (ranked ps l body ranges) e
    where
      number : LoopClass → ℕ
      number closed_class = 0
      number ranked_class = 1
      number walked_class = 2

      go : (c r : Bool) → cond c closed_class (cond r ranked_class walked_class) ≡ walked_class → (c ≡ false) × (r ≡ false)
      go true r e = absurd (let z = ap number e in omega arith)
      go false true e = absurd (let z = ap number e in omega arith)
      go false false e = (refl, refl)

  -- and one that is neither is walked
  pub walked-class : (l : Loop) (body : Block) (ranges : List Range) → closed ps l body ranges ≡ false → ranked ps l body ranges ≡ false →
      loop_class ps l body ranges ≡ walked_class
  unfolding loop_class
  walked-class l body ranges c r = λ i. cond (c i) closed_class (cond (r i) ranked_class walked_class)

  -- ---- loops inside are closed

  -- the pushes of outer loops left out, less is asked
  pub closable-fewer : (b : Block) (ranges : List Range) (kept dropped : List (List ℤ)) → T (closable ps b ranges (kept ++ dropped)) →
      T (closable ps b ranges kept)
  unfolding closable
  closable-fewer empty ranges kept dropped t = tt
  closable-fewer (work least most rest) ranges kept dropped t = closable-fewer rest ranges kept dropped t
  closable-fewer (loop l body rest) ranges kept dropped t =
      let tests = closable-loop l body rest ranges (kept ++ dropped) t in
      let inner : List Range = inner_ranges ps l ranges in
      let own : List ℤ = push_own l (length ranges) in
      let split = subst (λ (pushes : List (List ℤ)). T (closable ps body inner (own ∷ pushes))) (map-append (push_inner l) kept dropped) tests.body_closable in
      loop-closable l body rest ranges kept (record {
        smallest = tests.smallest;
        divided = stride_divides-fewer l kept dropped tests.divided;
        body_closable = closable-fewer body inner (own ∷ map (push_inner l) kept) (map (push_inner l) dropped) split;
        rest_closable = closable-fewer rest ranges kept dropped tests.rest_closable;
      })
  closable-fewer (choice arms rest) ranges kept dropped t =
      let none = eqb (arms_loops arms) zero in
      let tests = T_and none (closable ps rest ranges (kept ++ dropped)) t in
      and_t none (closable ps rest ranges kept) tests.0 (closable-fewer rest ranges kept dropped tests.1)

  -- where there is no loop, nothing is reported
  mutual
    unfolding loops loop_reports

    no-reports : (b : Block) (ranges : List Range) (at : ℕ) → loops b ≡ zero → loop_reports ps b ranges at ≡ []
    no-reports empty ranges at h = refl
    no-reports (work least most rest) ranges at h = no-reports rest ranges (at + record_length (work_record least most)) h
    no-reports (loop l body rest) ranges at h = absurd (omega arith)
    no-reports (choice arms rest) ranges at h =
        let after : ℕ = at + record_length choice_record + sheet_length (arms_records arms) + record_length end_record in
        ap₂ ◌++◌ (no-arms_reports arms ranges (at + record_length choice_record) (omega arith)) (no-reports rest ranges after (omega arith))

    no-arms_reports : (arms : Arms) (ranges : List Range) (at : ℕ) → arms_loops arms ≡ zero → arms_reports ps arms ranges at ≡ []
    no-arms_reports (last_arm b) ranges at h = no-reports b ranges at h
    no-arms_reports (arm b arms) ranges at h =
        ap₂ ◌++◌ (no-reports b ranges at (omega arith)) (no-arms_reports arms ranges (at + sheet_length (records b) + record_length next_arm_record) (omega arith))

  pub closable-closed : (b : Block) (ranges : List Range) (pushes : List (List ℤ)) (at : ℕ) → T (closable ps b ranges pushes) →
      T (all_closed (loop_reports ps b ranges at))
  unfolding loop_reports all_closed closed closable
  closable-closed empty ranges pushes at t = tt
  closable-closed (work least most rest) ranges pushes at t = closable-closed rest ranges pushes (at + record_length (work_record least most)) t
  closable-closed (loop l body rest) ranges pushes at t =
      let tests = closable-loop l body rest ranges pushes t in
      let inner : List Range = inner_ranges ps l ranges in
      let own : List ℤ = push_own l (length ranges) in
      let body_at : ℕ = at + record_length (loop_record l) in
      let rest_at : ℕ = body_at + sheet_length (records body) + record_length end_record in
      let inside = closable-closed body inner (own ∷ map (push_inner l) pushes) body_at tests.body_closable in
      let after = closable-closed rest ranges pushes rest_at tests.rest_closable in
      and_t (is_closed (loop_class ps l body ranges)) (all_closed (loop_reports ps body inner body_at ++ loop_reports ps rest ranges rest_at))
      (closed-class l body ranges (closable-fewer body inner (own ∷ []) (map (push_inner l) pushes) tests.body_closable))
      ((all_closed-append (loop_reports ps body inner body_at) (loop_reports ps rest ranges rest_at)).1 (inside, after))
  closable-closed (choice arms rest) ranges pushes at t =
      let tests = closable-choice arms rest ranges pushes t in
      let rest_at : ℕ = at + record_length choice_record + sheet_length (arms_records arms) + record_length end_record in
      let none = no-arms_reports arms ranges (at + record_length choice_record) tests.0 in
      subst (λ (reports : List LoopReport). T (all_closed (reports ++ loop_reports ps rest ranges rest_at))) (sym none)
      (closable-closed rest ranges pushes rest_at tests.1)
