-- What is found among the loops between a loop and its end is the loop's class and height.
use mathlib.Core.Bool.{◌&&◌, ◌||◌, cond, not, Bool, false, true, or_assoc, or_comm, or-false}
use mathlib.Core.List.{◌++◌, List, [], append_assoc, map, map-append, ◌∷◌}
use mathlib.Core.Option.{Option, none, some}
use mathlib.Core.Path.{ap, ap₂, refl, sym, ◌∙◌, ◌≡◌}
use Prim.Native.Nat.{◌+◌, ◌-◌, ◌<◌, max, suc, ℕ, ◌≤◌, zero}
use native.Mathlib.Omega.{arith}
use native.Mathlib.Nat.{max-zero, suc-max-suc, zero-max}
use lib.ListN.{drop, length, length-map, take}
use lib.Seq.{take-append_seam, drop-append_seam}
use lib.Dec.{eqb}
use lib.Signed.{le_z}
use lib.IntN.{ℤ}
use borrow.Author.Tests.{lt-ltb, le-ltb, ne_eqb}
use Rattle.whole.specs.Integer.{divides}
use Rattle.meaning.specs.Tree.{Arms, Block, arm, arms_height, arms_loops, arms_records, choice, empty, height, last_arm, loop, loops, records, work}
use Rattle.meaning.specs.Record.{Loop, stride_size, Open, Record, end_record, loop_depth, next_arm_record, open_choice, open_loop}
use Rattle.meaning.specs.Closed.{LoopClass, arms_closable, asked_difference, closable, closed, closed_class, loop_class, push, push_inner, push_own, rankable, ranked, ranked_class, stride_divides, walked_class}
use Rattle.meaning.specs.Time.{difference}
use Rattle.meaning.specs.Range.{Range, difference_range, inner_ranges}
use Rattle.meaning.proofs.Logic.{T→true, true→T}
use Rattle.meaning.proofs.Rankable.{closable-rankable}
use Rattle.nest.specs.Walk.{opens_after, records_inside}
use Rattle.nest.proofs.RowsOf.{records_inside-body}
use Rattle.loops.specs.Enclosing.{Enclosing, choice_depth, enclosing_after, enter, rank_depth}
use Rattle.loops.specs.Facts.{LoopFacts, facts_at, facts_from, loop_facts}
use Rattle.loops.proofs.Enclosings.{OpenLoops}
use Rattle.loops.proofs.Choices.{choice_depth-small, rank-closing}
use Rattle.loops.proofs.Facts.{facts-choice, facts-length, facts-loop, facts-records}
use Rattle.planner.specs.Closing.{bars_closing, bars_ranking, class_among, class_by, height_above, is_ranked, limit_of, prevents, some_prevents, some_uneven}

-- ---- lists and tests

-- the same elements, the first last
unfoldable pub backwards : {A : Type 0} → List A → List A
backwards [] = []
backwards (x ∷ xs) = backwards xs ++ (x ∷ [])

pub map-backwards : {A B : Type 0} (f : A → B) (xs : List A) → map f (backwards xs) ≡ backwards (map f xs)
unfolding backwards
map-backwards f [] = refl
map-backwards {B = B} f (x ∷ xs) = map-append f (backwards xs) (x ∷ []) ∙ ap (λ (ys : List B). ys ++ (f x ∷ [])) (map-backwards f xs)

-- some of two fails where not both hold
not-and : (a b : Bool) → not (a && b) ≡ not a || not b
not-and true b = refl
not-and false b = refl

-- ---- facts that follow one another

prevents-append : (barred : LoopFacts → ℕ) (d : ℕ) (fs gs : List (Option LoopFacts)) →
    some_prevents barred d (fs ++ gs) ≡ some_prevents barred d fs || some_prevents barred d gs
unfolding some_prevents
prevents-append barred d [] gs = refl
prevents-append barred d (none ∷ fs) gs = prevents-append barred d fs gs
prevents-append barred d (some f ∷ fs) gs =
    ap (λ c. prevents (barred f) d f || c) (prevents-append barred d fs gs)
    ∙ sym (or_assoc (prevents (barred f) d f) (some_prevents barred d fs) (some_prevents barred d gs))

height_above-append : (d : ℕ) (fs gs : List (Option LoopFacts)) → height_above d (fs ++ gs) ≡ max (height_above d fs) (height_above d gs)
unfolding height_above
height_above-append d [] gs = omega arith
height_above-append d (none ∷ fs) gs = height_above-append d fs gs
height_above-append d (some f ∷ fs) gs = let i = height_above-append d fs gs in omega arith

-- ---- choices

-- Among the open records, a number of loops that choices bar closing or ranking to: a loop K has it in its facts; a loop around K changes nothing, and
-- more choices and loops around K bar no fewer.
record Barring (bars : List Open → ℕ) (barred : LoopFacts → ℕ) : Type 0 where
  of_facts : (ps : List ℤ) (os : List Open) (e : Enclosing) (l : Loop) → barred (loop_facts ps os e l) ≡ bars os
  in_loop : (os : List Open) → bars (open_loop ∷ os) ≡ bars os
  in_choice : (os : List Open) → bars os ≤ bars (open_choice ∷ os)
  choice_in_loop : (os : List Open) → bars (open_choice ∷ os) ≤ bars (open_choice ∷ open_loop ∷ os)

closing-barred : Barring choice_depth bars_closing
unfolding loop_facts choice_depth loop_depth
closing-barred = record {
  of_facts = λ ps os e l. refl;
  in_loop = λ os. refl;
  in_choice = choice_depth-small;
  choice_in_loop = λ os. omega arith;
}

rank-small : (os : List Open) → rank_depth os ≤ loop_depth os
rank-small os = omega (arith, rank-closing os, choice_depth-small os)

-- one choice more bars ranking to no fewer loops
rank-in-choice : (os : List Open) → rank_depth os ≤ rank_depth (open_choice ∷ os)
unfolding rank_depth loop_depth
rank-in-choice [] = omega arith
rank-in-choice (open_loop ∷ os) = rank-small os
rank-in-choice (open_choice ∷ os) = rank-small (open_choice ∷ os)

rank-choice-in-loop : (os : List Open) → rank_depth (open_choice ∷ os) ≤ rank_depth (open_choice ∷ open_loop ∷ os)
unfolding rank_depth loop_depth
rank-choice-in-loop os = rank-small (open_choice ∷ os)

ranking-barred : Barring rank_depth bars_ranking
unfolding loop_facts rank_depth loop_depth
ranking-barred = record {
  of_facts = λ ps os e l. refl;
  in_loop = λ os. refl;
  in_choice = rank-in-choice;
  choice_in_loop = rank-choice-in-loop;
}

-- some loops of two
some-loops : (m n : ℕ) → not (eqb m 0) || not (eqb n 0) ≡ not (eqb (m + n) 0)
some-loops zero n = ap (λ (k : ℕ). not (eqb k 0)) (let e : n ≡ zero + n = omega arith in e)
some-loops (suc m) n = ap (λ c. not c || not (eqb n 0)) (ne_eqb (suc m) 0 (λ e. omega arith)) ∙ sym (ap not (ne_eqb (suc m + n) 0 (λ e. omega arith)))

-- a loop in the arm of a choice that bars a loop prevents that one
module _ {bars : List Open → ℕ} {barred : LoopFacts → ℕ} (barring : Barring bars barred) (ps : List ℤ) where
  mutual
    unfolding facts_from facts_at opens_after enclosing_after records loops some_prevents prevents

    prevents-in-arm : (b : Block) (os : List Open) (e : Enclosing) (d : ℕ) → d < bars os → some_prevents barred d (facts_from ps os e (records b)) ≡ not (eqb (loops b) 0)
    prevents-in-arm empty os e d h = refl
    prevents-in-arm (work least most rest) os e d h = prevents-in-arm rest os e d h
    prevents-in-arm (loop l body rest) os e d h =
        rw (barring.of_facts ps os e l, lt-ltb d (bars os) h) (sym (ap not (ne_eqb (suc (loops body) + loops rest) 0 (λ e. omega arith))))
    prevents-in-arm (choice arms rest) os e d h =
        ap (some_prevents barred d) (facts-choice ps arms os e (records rest))
        ∙ prevents-append barred d (facts_from ps (open_choice ∷ os) e (arms_records arms)) (none ∷ facts_from ps os e (records rest))
        ∙ ap₂ ◌||◌ (prevents-in-arms arms os e d (omega (arith, barring.in_choice os))) (prevents-in-arm rest os e d h)
        ∙ some-loops (arms_loops arms) (loops rest)

    prevents-in-arms : (arms : Arms) (os : List Open) (e : Enclosing) (d : ℕ) → d < bars (open_choice ∷ os) →
        some_prevents barred d (facts_from ps (open_choice ∷ os) e (arms_records arms)) ≡ not (eqb (arms_loops arms) 0)
    prevents-in-arms (last_arm b) os e d h = prevents-in-arm b (open_choice ∷ os) e d h
    prevents-in-arms (arm b arms) os e d h =
        ap (some_prevents barred d) (facts-records ps b (open_choice ∷ os) e (next_arm_record ∷ arms_records arms))
        ∙ prevents-append barred d (facts_from ps (open_choice ∷ os) e (records b)) (none ∷ facts_from ps (open_choice ∷ os) e (arms_records arms))
        ∙ ap₂ ◌||◌ (prevents-in-arm b (open_choice ∷ os) e d h) (prevents-in-arms arms os e d h)
        ∙ some-loops (loops b) (arms_loops arms)

-- ---- uneven loops

some_uneven-append : (stride : ℕ) (xs ys : List ℤ) → some_uneven stride (xs ++ ys) ≡ some_uneven stride xs || some_uneven stride ys
unfolding some_uneven
some_uneven-append stride [] ys = refl
some_uneven-append stride (x ∷ xs) ys =
    ap (λ c. not (divides stride x) || c) (some_uneven-append stride xs ys) ∙ sym (or_assoc (not (divides stride x)) (some_uneven stride xs) (some_uneven stride ys))

uneven-backwards : (l : Loop) (pushes : List (List ℤ)) → some_uneven (stride_size l) (backwards (map (push (difference l)) pushes)) ≡ not (stride_divides l pushes)
unfolding some_uneven stride_divides backwards
uneven-backwards l [] = refl
uneven-backwards l (p ∷ pushes) =
    let x : ℤ = push (difference l) p in
    let c : Bool = divides (stride_size l) x in
    let others : List ℤ = backwards (map (push (difference l)) pushes) in
    some_uneven-append (stride_size l) others (x ∷ [])
    ∙ ap (λ u. u || (not c || false)) (uneven-backwards l pushes)
    ∙ ap (λ u. not (stride_divides l pushes) || u) (or-false (not c)) ∙ or_comm (not (stride_divides l pushes)) (not c) ∙ sym (not-and c (stride_divides l pushes))

-- the pushes of the loops from the tested one inward, of which `outer` are the loops around it
uneven-inside : (l : Loop) (outer pushes all : List (List ℤ)) (d : ℕ) → length outer ≡ d → all ≡ outer ++ backwards pushes →
    some_uneven (stride_size l) (drop d (map (push (difference l)) all)) ≡ not (stride_divides l pushes)
uneven-inside l outer pushes all d size split =
    let f : List ℤ → ℤ = push (difference l) in
    ap (λ xs. some_uneven (stride_size l) (drop d (map f xs))) split
    ∙ ap₂ (λ (n : ℕ) (xs : List ℤ). some_uneven (stride_size l) (drop n xs)) (sym (length-map outer f ∙ size)) (map-append f outer (backwards pushes))
    ∙ ap (some_uneven (stride_size l)) (drop-append_seam (map f outer) (map f (backwards pushes)) ∙ map-backwards f pushes)
    ∙ uneven-backwards l pushes

-- ---- closed

module _ (ps : List ℤ) where
  -- one loop more between
  enter-split : (l : Loop) (e : Enclosing) (outer pushes : List (List ℤ)) → e.pushes ≡ outer ++ backwards pushes →
      (enter ps l e).pushes ≡ map (push_inner l) outer ++ backwards (push_own l (length e.ranges) ∷ map (push_inner l) pushes)
  unfolding enter backwards
  enter-split l e outer pushes split =
      let own : List (List ℤ) = push_own l (length e.ranges) ∷ [] in
      ap (λ (xs : List (List ℤ)). map (push_inner l) xs ++ own) split
      ∙ ap (λ (xs : List (List ℤ)). xs ++ own)
      (map-append (push_inner l) outer (backwards pushes) ∙ ap (λ (xs : List (List ℤ)). map (push_inner l) outer ++ xs) (map-backwards (push_inner l) pushes))
      ∙ append_assoc (map (push_inner l) outer) (backwards (map (push_inner l) pushes)) own

  module _ {bars : List Open → ℕ} {barred : LoopFacts → ℕ} (barring : Barring bars barred) where
    -- a loop K that no choice keeps from the loop with d loops around it, by K's own tests, what is inside K and what follows it
    loop-prevents : (l : Loop) (body rest : Block) (os : List Open) (e : Enclosing) (d : ℕ) (outer pushes : List (List ℤ)) →
        bars os ≤ d → length outer ≡ d → e.pushes ≡ outer ++ backwards pushes → (inside after : Bool) →
        some_prevents barred d (facts_from ps (open_loop ∷ os) (enter ps l e) (records body)) ≡ not inside → some_prevents barred d (facts_from ps os e (records rest)) ≡ not after →
        some_prevents barred d (facts_from ps os e (records (loop l body rest)))
        ≡ not (le_z (asked_difference l) (difference_range ps l e.ranges).lo && stride_divides l pushes && inside && after)
    unfolding facts_from facts_at loop_facts opens_after enclosing_after records some_prevents prevents
    loop-prevents l body rest os e d outer pushes near size split inside after i r =
        let a : Bool = le_z (asked_difference l) (difference_range ps l e.ranges).lo in
        let f : LoopFacts = loop_facts ps os e l in
        let fs : List (Option LoopFacts) = facts_from ps (open_loop ∷ os) (enter ps l e) (records body) in
        let first : prevents (barred f) d f ≡ not a || not (stride_divides l pushes) =
        ap₂ (λ c u. c || not a || u) (le-ltb d (barred f) (omega (arith, barring.of_facts ps os e l))) (uneven-inside l outer pushes e.pushes d size split) in
        ap (λ xs. prevents (barred f) d f || some_prevents barred d xs) (facts-loop ps l body os e (records rest))
        ∙ ap (λ c. prevents (barred f) d f || c) (prevents-append barred d fs (none ∷ facts_from ps os e (records rest)))
        ∙ ap₂ (λ x y. x || y) first (ap₂ ◌||◌ i r)
        ∙ four a (stride_divides l pushes) inside after
      where
        four : (a b c r : Bool) → ((not a || not b) || (not c || not r)) ≡ not (a && b && c && r)
        four true true true r = refl
        four true true false r = refl
        four true false c r = refl
        four false b c r = refl

    -- Below a loop with d loops around it, where no choice bars it and one more would: no loop prevents it exactly where what is inside may be closed.
    prevents-closable : (b : Block) (os : List Open) (e : Enclosing) (d : ℕ) (outer pushes : List (List ℤ)) →
        d < bars (open_choice ∷ os) → bars os ≤ d → length outer ≡ d → e.pushes ≡ outer ++ backwards pushes →
        some_prevents barred d (facts_from ps os e (records b)) ≡ not (closable ps b e.ranges pushes)
    unfolding facts_from facts_at opens_after enclosing_after records closable enter some_prevents
    prevents-closable empty os e d outer pushes below near size split = refl
    prevents-closable (work least most rest) os e d outer pushes below near size split = prevents-closable rest os e d outer pushes below near size split
    prevents-closable (loop l body rest) os e d outer pushes below near size split =
        let own : List (List ℤ) = push_own l (length e.ranges) ∷ map (push_inner l) pushes in
        loop-prevents l body rest os e d outer pushes near size split (closable ps body (inner_ranges ps l e.ranges) own) (closable ps rest e.ranges pushes)
        (prevents-closable body (open_loop ∷ os) (enter ps l e) d (map (push_inner l) outer) own
        (omega (arith, barring.choice_in_loop os)) (omega (arith, barring.in_loop os)) (length-map outer (push_inner l) ∙ size) (enter-split l e outer pushes split))
        (prevents-closable rest os e d outer pushes below near size split)
    prevents-closable (choice arms rest) os e d outer pushes below near size split =
        ap (some_prevents barred d) (facts-choice ps arms os e (records rest))
        ∙ prevents-append barred d (facts_from ps (open_choice ∷ os) e (arms_records arms)) (none ∷ facts_from ps os e (records rest))
        ∙ ap₂ ◌||◌ (prevents-in-arms barring ps arms os e d below) (prevents-closable rest os e d outer pushes below near size split)
        ∙ sym (not-and (eqb (arms_loops arms) 0) (closable ps rest e.ranges pushes))

  -- ---- ranked

  module _ (os : List Open) (outer : List (List ℤ)) (size : length outer ≡ loop_depth os) where
    abbrev d : ℕ
    d = loop_depth os

    -- an arm of a choice that stands directly in the loop's body stands as in the choice's place
    prevents-arms : (arms : Arms) (e : Enclosing) (pushes : List (List ℤ)) → e.pushes ≡ outer ++ backwards pushes →
        some_prevents bars_ranking d (facts_from ps (open_choice ∷ open_loop ∷ os) e (arms_records arms)) ≡ not (arms_closable ps arms e.ranges pushes)
    unfolding facts_from facts_at opens_after enclosing_after records arms_closable some_prevents rank_depth loop_depth
    prevents-arms (last_arm b) e pushes split =
        prevents-closable ranking-barred b (open_choice ∷ open_loop ∷ os) e d outer pushes (omega arith) (omega arith) size split
    prevents-arms (arm b arms) e pushes split =
        ap (some_prevents bars_ranking d) (facts-records ps b (open_choice ∷ open_loop ∷ os) e (next_arm_record ∷ arms_records arms))
        ∙ prevents-append bars_ranking d (facts_from ps (open_choice ∷ open_loop ∷ os) e (records b))
        (none ∷ facts_from ps (open_choice ∷ open_loop ∷ os) e (arms_records arms))
        ∙ ap₂ ◌||◌ (prevents-closable ranking-barred b (open_choice ∷ open_loop ∷ os) e d outer pushes (omega arith) (omega arith) size split)
        (prevents-arms arms e pushes split)
        ∙ sym (not-and (closable ps b e.ranges pushes) (arms_closable ps arms e.ranges pushes))

    -- directly in the loop's body: no loop prevents its ranking exactly where the body may be ranked
    prevents-rankable : (b : Block) (e : Enclosing) (pushes : List (List ℤ)) → e.pushes ≡ outer ++ backwards pushes →
        some_prevents bars_ranking d (facts_from ps (open_loop ∷ os) e (records b)) ≡ not (rankable ps b e.ranges pushes)
    unfolding facts_from facts_at opens_after enclosing_after records enter closable rankable some_prevents rank_depth loop_depth
    prevents-rankable empty e pushes split = refl
    prevents-rankable (work least most rest) e pushes split = prevents-rankable rest e pushes split
    prevents-rankable (loop l body rest) e pushes split =
        let own : List (List ℤ) = push_own l (length e.ranges) ∷ map (push_inner l) pushes in
        let inside : Bool = closable ps body (inner_ranges ps l e.ranges) own in
        let tests : Bool = le_z (asked_difference l) (difference_range ps l e.ranges).lo && stride_divides l pushes && inside in
        loop-prevents ranking-barred l body rest (open_loop ∷ os) e d outer pushes (rank-small os) size split inside (rankable ps rest e.ranges pushes)
        (prevents-closable ranking-barred body (open_loop ∷ open_loop ∷ os) (enter ps l e) d (map (push_inner l) outer) own
        (omega arith) (rank-small os) (length-map outer (push_inner l) ∙ size) (enter-split l e outer pushes split))
        (prevents-rankable rest e pushes split)
        ∙ ap not (with-empty tests (rankable ps rest e.ranges pushes))
      where
        with-empty : (c r : Bool) → c && r ≡ c && true && r
        with-empty true r = refl
        with-empty false r = refl
    prevents-rankable (choice arms rest) e pushes split =
        ap (some_prevents bars_ranking d) (facts-choice ps arms (open_loop ∷ os) e (records rest))
        ∙ prevents-append bars_ranking d (facts_from ps (open_choice ∷ open_loop ∷ os) e (arms_records arms)) (none ∷ facts_from ps (open_loop ∷ os) e (records rest))
        ∙ ap₂ ◌||◌ (prevents-arms arms e pushes split) (prevents-rankable rest e pushes split)
        ∙ sym (not-and (arms_closable ps arms e.ranges pushes) (rankable ps rest e.ranges pushes))

-- ---- height

-- the height above a loop of a tree with height h whose outermost loops are n deeper than the loop
raised : ℕ → ℕ → ℕ
raised n zero = zero
raised n (suc h) = n + h

raised-max : (n g h : ℕ) → max (raised n g) (raised n h) ≡ raised n (max g h)
unfolding raised
raised-max n zero h = simp zero-max
raised-max n (suc g) zero = simp max-zero
raised-max n (suc g) (suc h) = simp suc-max-suc (let z : max (n + g) (n + h) ≡ n + max g h = omega arith in z)

-- a loop and its body
raised-loop : (n m h : ℕ) → m ≡ suc n → max n (raised m h) ≡ raised n (suc h)
unfolding raised
raised-loop n m zero e = omega arith
raised-loop n m (suc h) e = omega arith

raised-one : (h : ℕ) → raised 1 h ≡ h
unfolding raised
raised-one zero = refl
raised-one (suc h) = omega arith

module _ (ps : List ℤ) where
  mutual
    unfolding facts_from facts_at loop_facts opens_after enclosing_after records height height_above loop_depth raised

    height-above : (b : Block) (os : List Open) (e : Enclosing) (d : ℕ) → d ≤ loop_depth os →
        height_above d (facts_from ps os e (records b)) ≡ raised (loop_depth os - d) (height b)
    height-above empty os e d h = refl
    height-above (work least most rest) os e d h = height-above rest os e d h
    height-above (loop l body rest) os e d h =
        let n : ℕ = loop_depth os - d in
        let fs : List (Option LoopFacts) = facts_from ps (open_loop ∷ os) (enter ps l e) (records body) in
        let gs : List (Option LoopFacts) = facts_from ps os e (records rest) in
        let inside : height_above d fs ≡ raised (suc (loop_depth os) - d) (height body) = height-above body (open_loop ∷ os) (enter ps l e) d (omega arith) in
        let after : height_above d gs ≡ raised n (height rest) = height-above rest os e d h in
        let own : max n (raised (suc (loop_depth os) - d) (height body)) ≡ raised n (suc (height body)) = raised-loop n (suc (loop_depth os) - d) (height body) (omega arith) in
        let both : max (raised n (suc (height body))) (raised n (height rest)) ≡ raised n (max (suc (height body)) (height rest)) =
        raised-max n (suc (height body)) (height rest) in
        let split : height_above d (facts_from ps (open_loop ∷ os) (enter ps l e) (records body ++ (end_record ∷ records rest))) ≡ max (height_above d fs) (height_above d gs) =
        ap (height_above d) (facts-loop ps l body os e (records rest)) ∙ height_above-append d fs (none ∷ gs) in
        omega arith
    height-above (choice arms rest) os e d h =
        ap (height_above d) (facts-choice ps arms os e (records rest))
        ∙ height_above-append d (facts_from ps (open_choice ∷ os) e (arms_records arms)) (none ∷ facts_from ps os e (records rest))
        ∙ ap₂ max (arms-height-above arms os e d h) (height-above rest os e d h)
        ∙ raised-max (loop_depth os - d) (arms_height arms) (height rest)

    arms-height-above : (arms : Arms) (os : List Open) (e : Enclosing) (d : ℕ) → d ≤ loop_depth os →
        height_above d (facts_from ps (open_choice ∷ os) e (arms_records arms)) ≡ raised (loop_depth os - d) (arms_height arms)
    arms-height-above (last_arm b) os e d h = height-above b (open_choice ∷ os) e d h
    arms-height-above (arm b arms) os e d h =
        ap (height_above d) (facts-records ps b (open_choice ∷ os) e (next_arm_record ∷ arms_records arms))
        ∙ height_above-append d (facts_from ps (open_choice ∷ os) e (records b)) (none ∷ facts_from ps (open_choice ∷ os) e (arms_records arms))
        ∙ ap₂ max (height-above b (open_choice ∷ os) e d h) (arms-height-above arms os e d h)
        ∙ raised-max (loop_depth os - d) (height b) (arms_height arms)

-- ---- class and height

-- the facts inside a loop, found by its end
facts-inside : (ps : List ℤ) (l : Loop) (body : Block) (os : List Open) (e : Enclosing) (q : List Record) →
    take (records_inside zero (records body ++ (end_record ∷ q))) (facts_from ps (open_loop ∷ os) (enter ps l e) (records body ++ (end_record ∷ q)))
    ≡ facts_from ps (open_loop ∷ os) (enter ps l e) (records body)
facts-inside ps l body os e q =
    let inside : List (Option LoopFacts) = facts_from ps (open_loop ∷ os) (enter ps l e) (records body) in
    ap₂ take (records_inside-body body q ∙ sym (facts-length ps (open_loop ∷ os) (enter ps l e) (records body))) (facts-loop ps l body os e q)
    ∙ take-append_seam inside (none ∷ facts_from ps os e q)

module _ (ps : List ℤ) (l : Loop) (body : Block) (os : List Open) (e : Enclosing) (q : List Record) where
  -- of the records between the loop and its end
  abbrev within : List (Option LoopFacts)
  within = take (records_inside zero (records body ++ (end_record ∷ q))) (facts_from ps (open_loop ∷ os) (enter ps l e) (records body ++ (end_record ∷ q)))

  pub height-among : height_above (loop_depth os) within ≡ height body
  unfolding loop_depth
  height-among =
      let d : ℕ = loop_depth os in
      let deep : suc d - d ≡ 1 = omega arith in
      ap (height_above d) (facts-inside ps l body os e q)
      ∙ height-above ps body (open_loop ∷ os) (enter ps l e) d (omega arith) ∙ ap (λ (n : ℕ). raised n (height body)) deep ∙ raised-one (height body)

  pub class-among : OpenLoops os e → class_among (loop_depth os) within ≡ loop_class ps l body e.ranges
  unfolding class_among loop_class closed ranked enter loop_depth choice_depth backwards
  class-among h =
      let d : ℕ = loop_depth os in
      let outer : List (List ℤ) = map (push_inner l) e.pushes in
      let own : List (List ℤ) = push_own l (length e.ranges) ∷ [] in
      let size : length outer ≡ d = length-map e.pushes (push_inner l) ∙ h.push_count in
      let inner : List Range = inner_ranges ps l e.ranges in
      ap (class_among d) (facts-inside ps l body os e q)
      ∙ ap₂ (λ a b. cond a walked_class (cond b ranked_class closed_class)) (prevents-rankable ps os outer size body (enter ps l e) own refl)
      (prevents-closable ps closing-barred body (open_loop ∷ os) (enter ps l e) d outer own (omega arith) (choice_depth-small os) size refl)
      ∙ by_tests (closable ps body inner own) (rankable ps body inner own)
      (λ t. T→true _ (closable-rankable ps body inner own (true→T _ t)))
    where
      by_tests : (c r : Bool) → (c ≡ true → r ≡ true) → cond (not r) walked_class (cond (not c) ranked_class closed_class) ≡ cond c closed_class (cond (not c && r) ranked_class walked_class)
      by_tests true r h = ap (λ (t : Bool). cond (not t) walked_class closed_class) (h refl)
      by_tests false true h = refl
      by_tests false false h = refl

-- a limit, and whether the loop is ranked, say the class again
pub class-of-limit : (c : LoopClass) (h : ℕ) → class_by (limit_of c h) (is_ranked c) ≡ c
unfolding class_by limit_of is_ranked
class-of-limit closed_class h = refl
class-of-limit ranked_class h = refl
class-of-limit walked_class h = refl

pub limit-small : (c : LoopClass) (h : ℕ) → limit_of c h ≤ suc h
unfolding limit_of
limit-small closed_class h = omega arith
limit-small ranked_class h = omega arith
limit-small walked_class h = omega arith
