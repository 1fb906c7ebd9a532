-- A loop is closed exactly where what document 01 asks holds of each loop inside it, taken by itself: neither a stricter nor a laxer definition would do.
use mathlib.Core.Path.{◌≡◌}
use mathlib.Core.List.{List, [], ◌∷◌, ◌++◌, map}
use Prim.Native.Nat.{ℕ, zero}
use lib.IntN.{ℤ, pos, neg_ℤ, ◌*ℤ◌}
use lib.Signed.{le_z}
use lib.Dec.{T, eqb, eqb_refl}
use lib.ListN.{length}
use Rattle.whole.specs.Integer.{divides}
use Rattle.whole.proofs.Floor.{divides-quotient, quotient-divides}
use Rattle.meaning.specs.Record.{Loop, stride_size, skip_cycles}
use Rattle.meaning.specs.Tree.{Block, Arms, empty, work, loop, choice, arms_loops}
use Rattle.meaning.specs.Time.{difference}
use Rattle.meaning.specs.Range.{Range, inner_ranges, ranges_inside, difference_range}
use Rattle.meaning.specs.Closed.{push, push_own, push_inner, nest_pushes, stride_divides, asked_difference, closable, closed}
use Rattle.meaning.proofs.Logic.{T_and, and_t}
use Rattle.meaning.proofs.Skips.{asked-stride, asked-skip, stride-asked}
use Rattle.meaning.proofs.Closable.{closable-loop, loop-closable, closable-choice}

-- the block has loop k, inside the loops between, outermost first; a loop in an arm is none of these
pub data Has : Block → List Loop → Loop → Type 0 where
  here : {k : Loop} {body rest : Block} → Has (loop k body rest) [] k
  in_body : {l k : Loop} {body rest : Block} {between : List Loop} → Has body between k → Has (loop l body rest) (l ∷ between) k
  after_loop : {l k : Loop} {body rest : Block} {between : List Loop} → Has rest between k → Has (loop l body rest) between k
  after_work : {least most : ℕ} {k : Loop} {rest : Block} {between : List Loop} → Has rest between k → Has (work least most rest) between k
  after_choice : {arms : Arms} {k : Loop} {rest : Block} {between : List Loop} → Has rest between k → Has (choice arms rest) between k

-- no choice inside, at any depth, has a loop in an arm, directly or deeper
unfoldable pub NoLoopInArms : Block → Type 0
NoLoopInArms empty = Unit {0}
NoLoopInArms (work least most rest) = NoLoopInArms rest
NoLoopInArms (loop l body rest) = NoLoopInArms body × NoLoopInArms rest
NoLoopInArms (choice arms rest) = (arms_loops arms ≡ zero) × NoLoopInArms rest

-- the loop's stride divides what such moves of the indexes add to its D
pub record Divided (k : Loop) (moves : List ℤ) : Type 0 where
  pub quotient : ℤ
  pub multiple : push (difference k) moves ≡ quotient *ℤ pos (stride_size k)

-- of each of several moves
unfoldable pub EachDivided : Loop → List Loop → List (List ℤ) → Type 0
EachDivided k between [] = Unit {0}
EachDivided k between (p ∷ pushes) = Divided k (nest_pushes between p) × EachDivided k between pushes

each-divides : (k : Loop) (pushes : List (List ℤ)) → EachDivided k [] pushes → T (stride_divides k pushes)
unfolding EachDivided stride_divides nest_pushes
each-divides k [] each = tt
each-divides k (p ∷ pushes) (first, others) =
    and_t (divides (stride_size k) (push (difference k) p)) (stride_divides k pushes)
    (quotient-divides (stride_size k) (push (difference k) p) first.quotient first.multiple) (each-divides k pushes others)

divides-each : (k : Loop) (pushes : List (List ℤ)) → T (stride_divides k pushes) → EachDivided k [] pushes
unfolding EachDivided stride_divides nest_pushes
divides-each k [] t = tt
divides-each k (p ∷ pushes) t =
    let tests = T_and (divides (stride_size k) (push (difference k) p)) (stride_divides k pushes) t in
    let first = divides-quotient (stride_size k) (push (difference k) p) tests.0 in
    (record { quotient = first.0; multiple = first.1 }, divides-each k pushes tests.1)

each-outer : (l k : Loop) (between : List Loop) (pushes : List (List ℤ)) → EachDivided k between (map (push_inner l) pushes) → EachDivided k (l ∷ between) pushes
unfolding EachDivided nest_pushes
each-outer l k between [] each = tt
each-outer l k between (p ∷ pushes) (first, others) = (first, each-outer l k between pushes others)

each-inner : (l k : Loop) (between : List Loop) (pushes : List (List ℤ)) → EachDivided k (l ∷ between) pushes → EachDivided k between (map (push_inner l) pushes)
unfolding EachDivided nest_pushes
each-inner l k between [] each = tt
each-inner l k between (p ∷ pushes) (first, others) = (first, each-inner l k between pushes others)

-- the pushes on the indexes up to loop l's own, where `depth` loops are around it: its own first, then those of the loops around
abbrev pushes_in : Loop → ℕ → List (List ℤ) → List (List ℤ)
pushes_in l depth pushes = push_own l depth ∷ map (push_inner l) pushes

module _ (ps : List ℤ) where
  -- what closing asks of a block inside the tested loop, where `pushes` are those of that loop and of each loop between it and the block
  record Asked (b : Block) (ranges : List Range) (pushes : List (List ℤ)) : Type 0 where
    no_loop_in_arms : NoLoopInArms b
    smallest : (between : List Loop) (k : Loop) → Has b between k →
        T (le_z (asked_difference k) (difference_range ps k (ranges_inside ps between ranges)).lo)
    around : (between : List Loop) (k : Loop) → Has b between k → EachDivided k between pushes
    inside : (outer : List Loop) (m : Loop) (inner : List Loop) (k : Loop) → Has b (outer ++ (m ∷ inner)) k →
        Divided k (nest_pushes inner (push_own m (length (ranges_inside ps outer ranges))))

  -- of a part of the block the same is asked
  asked-part : {b part : Block} {ranges : List Range} {pushes : List (List ℤ)} → ((between : List Loop) (k : Loop) → Has part between k → Has b between k) →
      NoLoopInArms part → Asked b ranges pushes → Asked part ranges pushes
  asked-part within plain a = record {
    no_loop_in_arms = plain;
    smallest = λ between k h. a.smallest between k (within between k h);
    around = λ between k h. a.around between k (within between k h);
    inside = λ outer m inner k h. a.inside outer m inner k (within (outer ++ (m ∷ inner)) k h);
  }

  asked-closable : (b : Block) (ranges : List Range) (pushes : List (List ℤ)) → Asked b ranges pushes → T (closable ps b ranges pushes)
  unfolding closable NoLoopInArms ranges_inside EachDivided
  asked-closable empty ranges pushes a = tt
  asked-closable (work least most rest) ranges pushes a =
      asked-closable rest ranges pushes (asked-part (λ between k h. after_work h) a.no_loop_in_arms a)
  asked-closable (loop l body rest) ranges pushes a =
      loop-closable ps l body rest ranges pushes (record {
        smallest = a.smallest [] l here;
        divided = each-divides l pushes (a.around [] l here);
        body_closable = asked-closable body (inner_ranges ps l ranges) (pushes_in l (length ranges) pushes) (record {
          no_loop_in_arms = a.no_loop_in_arms.0;
          smallest = λ between k h. a.smallest (l ∷ between) k (in_body h);
          around = λ between k h. (a.inside [] l between k (in_body h), each-inner l k between pushes (a.around (l ∷ between) k (in_body h)));
          inside = λ outer m inner k h. a.inside (l ∷ outer) m inner k (in_body h);
        });
        rest_closable = asked-closable rest ranges pushes (asked-part (λ between k h. after_loop h) a.no_loop_in_arms.1 a);
      })
  asked-closable (choice arms rest) ranges pushes a =
      and_t (eqb (arms_loops arms) zero) (closable ps rest ranges pushes) (rw a.no_loop_in_arms.0 (eqb_refl zero))
      (asked-closable rest ranges pushes (asked-part (λ between k h. after_choice h) a.no_loop_in_arms.1 a))

  -- document 01: "A loop is closed when no choice inside it, at any depth, has a loop in an arm, directly or deeper, and each loop K inside it has
  -- smallest D ≥ minus K's stride, and K's stride divides the push on K's D of that loop and of each loop between"; document 02: "Where skip and
  -- start differ, an enclosing loop is closed only if the inner loop's smallest D is 0 or more"
  pub record ClosingAsked (l : Loop) (body : Block) (ranges : List Range) : Type 0 where
    pub no_loop_in_arms : NoLoopInArms body
    pub smallest : (between : List Loop) (k : Loop) → Has body between k →
        T (le_z (neg_ℤ (pos (stride_size k))) (difference_range ps k (ranges_inside ps (l ∷ between) ranges)).lo)
    pub skipping : (between : List Loop) (k : Loop) → Has body between k → ¬ (skip_cycles k ≡ k.start) →
        T (le_z (pos zero) (difference_range ps k (ranges_inside ps (l ∷ between) ranges)).lo)
    pub of_that_loop : (between : List Loop) (k : Loop) → Has body between k → Divided k (nest_pushes between (push_own l (length ranges)))
    pub of_loop_between : (outer : List Loop) (m : Loop) (inner : List Loop) (k : Loop) → Has body (outer ++ (m ∷ inner)) k →
        Divided k (nest_pushes inner (push_own m (length (ranges_inside ps (l ∷ outer) ranges))))

  pub closes : (l : Loop) (body : Block) (ranges : List Range) → ClosingAsked l body ranges → T (closed ps l body ranges)
  unfolding closed ranges_inside EachDivided
  closes l body ranges a = asked-closable body (inner_ranges ps l ranges) (push_own l (length ranges) ∷ []) (record {
    no_loop_in_arms = a.no_loop_in_arms;
    smallest = λ between k h. stride-asked k (difference_range ps k (ranges_inside ps (l ∷ between) ranges)).lo (a.smallest between k h) (a.skipping between k h);
    around = λ between k h. (a.of_that_loop between k h, tt);
    inside = a.of_loop_between;
  })

  -- ---- and nowhere else

  closable-arms : (b : Block) (ranges : List Range) (pushes : List (List ℤ)) → T (closable ps b ranges pushes) → NoLoopInArms b
  unfolding closable NoLoopInArms
  closable-arms empty ranges pushes t = tt
  closable-arms (work least most rest) ranges pushes t = closable-arms rest ranges pushes t
  closable-arms (loop l body rest) ranges pushes t =
      let tests = closable-loop ps l body rest ranges pushes t in
      (closable-arms body _ _ tests.body_closable, closable-arms rest ranges pushes tests.rest_closable)
  closable-arms (choice arms rest) ranges pushes t =
      let tests = closable-choice ps arms rest ranges pushes t in
      (tests.0, closable-arms rest ranges pushes tests.1)

  -- what is asked of a loop with none between
  own-tests : {b : Block} {k : Loop} → Has b [] k → (ranges : List Range) (pushes : List (List ℤ)) → T (closable ps b ranges pushes) →
      T (le_z (asked_difference k) (difference_range ps k ranges).lo) × T (stride_divides k pushes)
  unfolding closable
  own-tests (here {k} {body} {rest}) ranges pushes t = let tests = closable-loop ps k body rest ranges pushes t in (tests.smallest, tests.divided)
  own-tests (after_loop {l} {k} {body} {rest} h) ranges pushes t = own-tests h ranges pushes (closable-loop ps l body rest ranges pushes t).rest_closable
  own-tests (after_work h) ranges pushes t = own-tests h ranges pushes t
  own-tests (after_choice {arms} {k} {rest} h) ranges pushes t = own-tests h ranges pushes (closable-choice ps arms rest ranges pushes t).1

  -- what is asked inside the first loop between
  record Entered (l : Loop) (between : List Loop) (k : Loop) (ranges : List Range) (pushes : List (List ℤ)) : Type 0 where
    body : Block
    has : Has body between k
    is_closable : T (closable ps body (inner_ranges ps l ranges) (pushes_in l (length ranges) pushes))

  entered : {b : Block} {l : Loop} {between : List Loop} {k : Loop} → Has b (l ∷ between) k → (ranges : List Range) (pushes : List (List ℤ)) →
      T (closable ps b ranges pushes) → Entered l between k ranges pushes
  unfolding closable
  entered (in_body {l} {k} {body} {rest} h) ranges pushes t =
      record { body = body; has = h; is_closable = (closable-loop ps l body rest ranges pushes t).body_closable }
  entered (after_loop {l} {k} {body} {rest} h) ranges pushes t = entered h ranges pushes (closable-loop ps l body rest ranges pushes t).rest_closable
  entered (after_work h) ranges pushes t = entered h ranges pushes t
  entered (after_choice {arms} {k} {rest} h) ranges pushes t = entered h ranges pushes (closable-choice ps arms rest ranges pushes t).1

  closable-smallest : (b : Block) (between : List Loop) (k : Loop) → Has b between k → (ranges : List Range) (pushes : List (List ℤ)) →
      T (closable ps b ranges pushes) → T (le_z (asked_difference k) (difference_range ps k (ranges_inside ps between ranges)).lo)
  unfolding ranges_inside
  closable-smallest b [] k h ranges pushes t = (own-tests h ranges pushes t).0
  closable-smallest b (l ∷ between) k h ranges pushes t =
      let e = entered h ranges pushes t in
      closable-smallest e.body between k e.has (inner_ranges ps l ranges) (pushes_in l (length ranges) pushes) e.is_closable

  closable-around : (b : Block) (between : List Loop) (k : Loop) → Has b between k → (ranges : List Range) (pushes : List (List ℤ)) →
      T (closable ps b ranges pushes) → EachDivided k between pushes
  unfolding EachDivided
  closable-around b [] k h ranges pushes t = divides-each k pushes (own-tests h ranges pushes t).1
  closable-around b (l ∷ between) k h ranges pushes t =
      let e = entered h ranges pushes t in
      each-outer l k between pushes
      (closable-around e.body between k e.has (inner_ranges ps l ranges) (pushes_in l (length ranges) pushes) e.is_closable).1

  closable-inside : (b : Block) (outer : List Loop) (m : Loop) (inner : List Loop) (k : Loop) → Has b (outer ++ (m ∷ inner)) k →
      (ranges : List Range) (pushes : List (List ℤ)) → T (closable ps b ranges pushes) →
      Divided k (nest_pushes inner (push_own m (length (ranges_inside ps outer ranges))))
  unfolding EachDivided ranges_inside
  closable-inside b [] m inner k h ranges pushes t =
      let e = entered h ranges pushes t in
      (closable-around e.body inner k e.has (inner_ranges ps m ranges) (pushes_in m (length ranges) pushes) e.is_closable).0
  closable-inside b (l ∷ outer) m inner k h ranges pushes t =
      let e = entered h ranges pushes t in
      closable-inside e.body outer m inner k e.has (inner_ranges ps l ranges) (pushes_in l (length ranges) pushes) e.is_closable

  pub closed-asks : (l : Loop) (body : Block) (ranges : List Range) → T (closed ps l body ranges) → ClosingAsked l body ranges
  unfolding closed ranges_inside EachDivided
  closed-asks l body ranges t =
      let inner : List Range = inner_ranges ps l ranges in
      let own : List (List ℤ) = push_own l (length ranges) ∷ [] in
      record {
        no_loop_in_arms = closable-arms body inner own t;
        smallest = λ between k h. asked-stride k _ (closable-smallest body between k h inner own t);
        skipping = λ between k h. asked-skip k _ (closable-smallest body between k h inner own t);
        of_that_loop = λ between k h. (closable-around body between k h inner own t).0;
        of_loop_between = λ outer m within k h. closable-inside body outer m within k h inner own t;
      }
