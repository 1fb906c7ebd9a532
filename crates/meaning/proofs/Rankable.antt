-- What ranking a loop asks is less than closing asks; all loops inside a ranked loop are closed, and all around it are walked.
use mathlib.Core.Path.{◌≡◌, refl, sym, subst}
use mathlib.Core.List.{List, [], ◌∷◌, map}
use mathlib.Core.Bool.{Bool, true, false, not, cond}
use mathlib.Core.Logic.{◌⊎◌, inl, inr}
use Prim.Native.Nat.{ℕ, zero}
use native.Mathlib.Omega.{arith}
use lib.IntN.{ℤ}
use lib.Dec.{T, eqb, eqb_refl}
use lib.ListN.{length}
use Rattle.meaning.specs.Record.{Loop}
use Rattle.meaning.specs.Tree.{Block, Arms, empty, work, loop, choice, last_arm, arm, loops, arms_loops}
use Rattle.meaning.specs.Range.{Range, inner_ranges}
use Rattle.meaning.specs.Closed.{closed_class, ranked_class, walked_class, push_own, push_inner, closable, closed, arms_closable, rankable, ranked, loop_class}
use Rattle.meaning.proofs.Logic.{T_and, and_t}
use Rattle.meaning.proofs.Closable.{closable-loop, loop-closable, closable-choice, closable-fewer}

module _ (ps : List ℤ) where
  -- ---- choices directly in the body are the only difference

  no-loops : (n : ℕ) → n ≡ zero → T (eqb n zero)
  no-loops n e = subst (λ (m : ℕ). T (eqb m zero)) (sym e) (eqb_refl zero)

  mutual
    unfolding closable loops

    without-loops-closable : (b : Block) (ranges : List Range) (pushes : List (List ℤ)) → loops b ≡ zero → T (closable ps b ranges pushes)
    without-loops-closable empty ranges pushes h = tt
    without-loops-closable (work least most rest) ranges pushes h = without-loops-closable rest ranges pushes h
    without-loops-closable (loop l body rest) ranges pushes h = absurd (omega arith)
    without-loops-closable (choice arms rest) ranges pushes h =
        and_t (eqb (arms_loops arms) zero) (closable ps rest ranges pushes) (no-loops (arms_loops arms) (omega arith)) (without-loops-closable rest ranges pushes (omega arith))

  arms-without-loops-closable : (arms : Arms) (ranges : List Range) (pushes : List (List ℤ)) → arms_loops arms ≡ zero → T (arms_closable ps arms ranges pushes)
  unfolding arms_closable loops
  arms-without-loops-closable (last_arm b) ranges pushes h = without-loops-closable b ranges pushes h
  arms-without-loops-closable (arm b arms) ranges pushes h =
      and_t (closable ps b ranges pushes) (arms_closable ps arms ranges pushes) (without-loops-closable b ranges pushes (omega arith)) (arms-without-loops-closable arms ranges pushes (omega arith))

  -- what may be closed may be ranked
  pub closable-rankable : (b : Block) (ranges : List Range) (pushes : List (List ℤ)) → T (closable ps b ranges pushes) → T (rankable ps b ranges pushes)
  unfolding rankable closable
  closable-rankable empty ranges pushes t = tt
  closable-rankable (work least most rest) ranges pushes t = closable-rankable rest ranges pushes t
  closable-rankable (loop l body rest) ranges pushes t =
      let tests = closable-loop ps l body rest ranges pushes t in
      and_t (closable ps (loop l body empty) ranges pushes) (rankable ps rest ranges pushes)
      (loop-closable ps l body empty ranges pushes (record { smallest = tests.smallest; divided = tests.divided; body_closable = tests.body_closable; rest_closable = tt }))
      (closable-rankable rest ranges pushes tests.rest_closable)
  closable-rankable (choice arms rest) ranges pushes t =
      let tests = closable-choice ps arms rest ranges pushes t in
      and_t (arms_closable ps arms ranges pushes) (rankable ps rest ranges pushes) (arms-without-loops-closable arms ranges pushes tests.0) (closable-rankable rest ranges pushes tests.1)

  -- ---- all loops inside are closed

  unfoldable mutual
    pub LoopsClosed : Block → List Range → Type 0
    LoopsClosed empty ranges = Unit {0}
    LoopsClosed (work least most rest) ranges = LoopsClosed rest ranges
    LoopsClosed (loop l body rest) ranges = T (closed ps l body ranges) × LoopsClosed body (inner_ranges ps l ranges) × LoopsClosed rest ranges
    LoopsClosed (choice arms rest) ranges = ArmsClosed arms ranges × LoopsClosed rest ranges

    pub ArmsClosed : Arms → List Range → Type 0
    ArmsClosed (last_arm b) ranges = LoopsClosed b ranges
    ArmsClosed (arm b arms) ranges = LoopsClosed b ranges × ArmsClosed arms ranges

  mutual
    unfolding LoopsClosed loops

    without-loops : (b : Block) (ranges : List Range) → loops b ≡ zero → LoopsClosed b ranges
    without-loops empty ranges h = tt
    without-loops (work least most rest) ranges h = without-loops rest ranges h
    without-loops (loop l body rest) ranges h = absurd (omega arith)
    without-loops (choice arms rest) ranges h = (arms-without-loops arms ranges (omega arith), without-loops rest ranges (omega arith))

    arms-without-loops : (arms : Arms) (ranges : List Range) → arms_loops arms ≡ zero → ArmsClosed arms ranges
    arms-without-loops (last_arm b) ranges h = without-loops b ranges h
    arms-without-loops (arm b arms) ranges h = (without-loops b ranges (omega arith), arms-without-loops arms ranges (omega arith))

  closable-loops : (b : Block) (ranges : List Range) (pushes : List (List ℤ)) → T (closable ps b ranges pushes) → LoopsClosed b ranges
  unfolding LoopsClosed closable closed
  closable-loops empty ranges pushes t = tt
  closable-loops (work least most rest) ranges pushes t = closable-loops rest ranges pushes t
  closable-loops (loop l body rest) ranges pushes t =
      let tests = closable-loop ps l body rest ranges pushes t in (
        closable-fewer ps body (inner_ranges ps l ranges) (push_own l (length ranges) ∷ []) (map (push_inner l) pushes) tests.body_closable,
        closable-loops body (inner_ranges ps l ranges) (push_own l (length ranges) ∷ map (push_inner l) pushes) tests.body_closable,
        closable-loops rest ranges pushes tests.rest_closable,
      )
  closable-loops (choice arms rest) ranges pushes t =
      let tests = closable-choice ps arms rest ranges pushes t in
      (arms-without-loops arms ranges tests.0, closable-loops rest ranges pushes tests.1)

  arms-closable-loops : (arms : Arms) (ranges : List Range) (pushes : List (List ℤ)) → T (arms_closable ps arms ranges pushes) → ArmsClosed arms ranges
  unfolding LoopsClosed arms_closable
  arms-closable-loops (last_arm b) ranges pushes t = closable-loops b ranges pushes t
  arms-closable-loops (arm b arms) ranges pushes t =
      let tests = T_and (closable ps b ranges pushes) (arms_closable ps arms ranges pushes) t in
      (closable-loops b ranges pushes tests.0, arms-closable-loops arms ranges pushes tests.1)

  pub rankable-loops : (b : Block) (ranges : List Range) (pushes : List (List ℤ)) → T (rankable ps b ranges pushes) → LoopsClosed b ranges
  unfolding LoopsClosed rankable
  rankable-loops empty ranges pushes t = tt
  rankable-loops (work least most rest) ranges pushes t = rankable-loops rest ranges pushes t
  rankable-loops (loop l body rest) ranges pushes t =
      let tests = T_and (closable ps (loop l body empty) ranges pushes) (rankable ps rest ranges pushes) t in
      let first = closable-loops (loop l body empty) ranges pushes tests.0 in
      (first.0, first.1, rankable-loops rest ranges pushes tests.1)
  rankable-loops (choice arms rest) ranges pushes t =
      let tests = T_and (arms_closable ps arms ranges pushes) (rankable ps rest ranges pushes) t in
      (arms-closable-loops arms ranges pushes tests.0, rankable-loops rest ranges pushes tests.1)

  -- a ranked loop passes the tests, and is not closed
  pub ranked-tests : (l : Loop) (body : Block) (ranges : List Range) → T (ranked ps l body ranges) →
      T (not (closed ps l body ranges)) × T (rankable ps body (inner_ranges ps l ranges) (push_own l (length ranges) ∷ []))
  unfolding ranked
  ranked-tests l body ranges t = T_and (not (closed ps l body ranges)) (rankable ps body (inner_ranges ps l ranges) (push_own l (length ranges) ∷ [])) t

  pub ranked-open : (l : Loop) (body : Block) (ranges : List Range) → T (ranked ps l body ranges) → closed ps l body ranges ≡ false
  ranked-open l body ranges t = go (closed ps l body ranges) (ranked-tests l body ranges t).0
    where
      go : (c : Bool) → T (not c) → c ≡ false
      go true t = absurd t
      go false t = refl

  -- all loops inside a ranked loop are closed, and so are those inside a closed one
  pub ranked-loops : (l : Loop) (body : Block) (ranges : List Range) → T (ranked ps l body ranges) → LoopsClosed body (inner_ranges ps l ranges)
  ranked-loops l body ranges t = rankable-loops body (inner_ranges ps l ranges) (push_own l (length ranges) ∷ []) (ranked-tests l body ranges t).1

  pub closed-loops : (l : Loop) (body : Block) (ranges : List Range) → T (closed ps l body ranges) → LoopsClosed body (inner_ranges ps l ranges)
  unfolding closed
  closed-loops l body ranges t = closable-loops body (inner_ranges ps l ranges) (push_own l (length ranges) ∷ []) t

  -- ---- loops around a ranked loop stay walked

  -- a ranked loop stands in the block, however deep
  unfoldable mutual
    pub RankedInside : Block → List Range → Type 0
    RankedInside empty ranges = T false
    RankedInside (work least most rest) ranges = RankedInside rest ranges
    RankedInside (loop l body rest) ranges = T (ranked ps l body ranges) ⊎ (RankedInside body (inner_ranges ps l ranges) ⊎ RankedInside rest ranges)
    RankedInside (choice arms rest) ranges = RankedInArms arms ranges ⊎ RankedInside rest ranges

    pub RankedInArms : Arms → List Range → Type 0
    RankedInArms (last_arm b) ranges = RankedInside b ranges
    RankedInArms (arm b arms) ranges = RankedInside b ranges ⊎ RankedInArms arms ranges

  mutual
    unfolding RankedInside LoopsClosed

    not-all-closed : (b : Block) (ranges : List Range) → RankedInside b ranges → LoopsClosed b ranges → T false
    not-all-closed empty ranges r all = r
    not-all-closed (work least most rest) ranges r all = not-all-closed rest ranges r all
    not-all-closed (loop l body rest) ranges (inl r) all = subst T (ranked-open l body ranges r) all.0
    not-all-closed (loop l body rest) ranges (inr (inl r)) all = not-all-closed body (inner_ranges ps l ranges) r all.1
    not-all-closed (loop l body rest) ranges (inr (inr r)) all = not-all-closed rest ranges r all.2
    not-all-closed (choice arms rest) ranges (inl r) all = not-all-arms-closed arms ranges r all.0
    not-all-closed (choice arms rest) ranges (inr r) all = not-all-closed rest ranges r all.1

    not-all-arms-closed : (arms : Arms) (ranges : List Range) → RankedInArms arms ranges → ArmsClosed arms ranges → T false
    not-all-arms-closed (last_arm b) ranges r all = not-all-closed b ranges r all
    not-all-arms-closed (arm b arms) ranges (inl r) all = not-all-closed b ranges r all.0
    not-all-arms-closed (arm b arms) ranges (inr r) all = not-all-arms-closed arms ranges r all.1

  pub around-ranked-walked : (l : Loop) (body : Block) (ranges : List Range) → RankedInside body (inner_ranges ps l ranges) → loop_class ps l body ranges ≡ walked_class
  unfolding loop_class
  around-ranked-walked l body ranges r =
      go (closed ps l body ranges) (ranked ps l body ranges) (λ t. not-all-closed body (inner_ranges ps l ranges) r (closed-loops l body ranges t))
      (λ t. not-all-closed body (inner_ranges ps l ranges) r (ranked-loops l body ranges t))
    where
      go : (c k : Bool) → (T c → T false) → (T k → T false) → cond c closed_class (cond k ranked_class walked_class) ≡ walked_class
      go true k h i = absurd (h tt)
      go false true h i = absurd (i tt)
      go false false h i = refl
