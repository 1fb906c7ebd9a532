-- What the rows, words and facts of a sheet's loops say of one loop, by the records before it and after it.
use mathlib.Core.List.{◌++◌, List, [], map, ◌∷◌}
use mathlib.Core.Option.{Option, none, some}
use mathlib.Core.Path.{ap, refl, subst, sym, ◌∙◌, ◌≡◌}
use Prim.Native.Nat.{◌+◌, ◌<◌, ◌^◌, suc, zero, ℕ, ◌≤◌}
use native.Mathlib.Omega.{arith}
use lib.ListN.{drop, get_or, length, length-append, length-map, take}
use lib.Seq.{take_at}
use lib.IntN.{nat_abs, pos, ℤ}
use Rattle.meaning.specs.Record.{Loop, Open, loop_depth, loop_record, open_loop, Record, sheet_length}
use Rattle.meaning.specs.Time.{difference}
use Rattle.meaning.specs.Limits.{depth_limit, index_factors, record_limit}
use Rattle.meaning.specs.Closed.{push}
use Rattle.meaning.proofs.Accepted.{InPlace, loop-in-range}
use Rattle.layout.specs.Loops.{base_at, ceiling_at, choice_depth_at, enough_at, loop_limit, push_word_at, rank_depth_at, stride_at, word_of}
use Rattle.layout.specs.Rows.{depth_at, end_at, loop_at, offset_at, role_at, role_number, role_of}
use Rattle.nest.specs.Known.{RowsHeld}
use Rattle.nest.specs.Rows.{end_number}
use Rattle.nest.specs.Walk.{opens_after, records_inside}
use Rattle.nest.proofs.RowsOf.{get_d-from}
use Rattle.nest.proofs.RowsRead.{depth-reads, loop-number-small, loop-reads, offset-reads, opened-end, role-reads}
use Rattle.nest.proofs.Places.{in-place-next, in-place-through, loop-in-place}
use Rattle.nest.proofs.Walks.{loops_through, opens_through}
use Rattle.loops.specs.Enclosing.{Enclosing, loops_around, nothing_open}
use Rattle.loops.specs.Facts.{LoopFacts, facts_at, facts_from, loop_facts, loops_in, sheet_facts}
use Rattle.loops.specs.Known.{LoopsHeld}
use Rattle.loops.proofs.LoopsRead.{base-reads, ceiling-reads, choice-reads, enough-reads, loop-among, push-reads, rank-reads, stride-reads}
use Rattle.loops.proofs.Facts.{facts-after, facts-length, facts-take, loops-counted}
use Rattle.loops.proofs.Enclosings.{nothing-open, open-loops-through}
use Rattle.loops.proofs.AtRecord.{in-range-of}
use Rattle.loops.proofs.Sizes.{AllBelow, SmallParameters, loop-small-at, stride-moves}
use Rattle.planner.specs.Known.{KnownFacts, SheetHeld}

below_at : (b : ℕ) (xs : List ℤ) (m : ℕ) → 0 < b → AllBelow b xs → nat_abs (get_or xs m (pos zero)) < b
unfolding AllBelow
below_at b [] m p h = omega arith
below_at b (x ∷ xs) zero p h = h.0
below_at b (x ∷ xs) (suc m) p h = below_at b xs m p h.1

module _ {ps : List ℤ} {rs : List Record} {rows differences facts : List ℕ} (held : SheetHeld ps rs rows differences facts) (place : InPlace [] rs)
    (few : length rs ≤ record_limit) where
  -- a record of the sheet, between those before it and those after it
  module _ (xs : List Record) (r : Record) (ys : List Record) (split : rs ≡ xs ++ (r ∷ ys)) where
    pub rows-here : RowsHeld rows (xs ++ (r ∷ ys))
    rows-here = subst (RowsHeld rows) split held.rows_are

    pub place_here : InPlace [] (xs ++ (r ∷ ys))
    place_here = subst (InPlace []) split place

    pub few-here : length (xs ++ (r ∷ ys)) ≤ record_limit
    few-here = subst (λ (x : List Record). length x ≤ record_limit) split few

    pub place-before : InPlace (opens_through [] xs) (r ∷ ys)
    place-before = in-place-through xs (r ∷ ys) [] place_here

    pub role-here : role_at rows (length xs) ≡ role_number (role_of r)
    role-here = role-reads xs r ys rows-here few-here

    pub offset-here : offset_at rows (length xs) ≡ sheet_length xs
    offset-here = offset-reads xs r ys rows-here few-here

  -- a loop of it
  module _ (xs : List Record) (l : Loop) (ys : List Record) (split : rs ≡ xs ++ (loop_record l ∷ ys)) where
    abbrev os : List Open
    os = opens_through [] xs

    abbrev es : Enclosing
    es = loops_around ps xs

    -- its facts, between those of the loops before it and after it
    abbrev own : LoopFacts
    own = loop_facts ps os es l

    abbrev before : List LoopFacts
    before = loops_in (take (length xs) (sheet_facts ps rs))

    abbrev after : List LoopFacts
    after = loops_in (drop (suc (length xs)) (sheet_facts ps rs))

    pub there : length xs < length rs
    there = omega (arith, ap length split, length-append xs (loop_record l ∷ ys))

    pub shallow : loop_depth os < depth_limit
    shallow = (loop-in-place l ys os (place-before xs (loop_record l) ys split)).0

    pub loop-depth : depth_at rows (length xs) ≡ loop_depth os
    loop-depth = depth-reads xs (loop_record l) ys (rows-here xs (loop_record l) ys split) (few-here xs (loop_record l) ys split) ∙ omega (arith, shallow)

    pub loop-end : end_at rows (length xs) ≡ suc (length xs) + records_inside zero ys
    unfolding end_number opens_after
    loop-end =
        let inside : InPlace (open_loop ∷ os) ys = in-place-next (loop_record l) ys os (place-before xs (loop_record l) ys split) in
        opened-end xs (loop_record l) ys (open_loop ∷ os) (rows-here xs (loop_record l) ys split) (few-here xs (loop_record l) ys split) refl inside (omega arith)

    fact-here : get_or (sheet_facts ps rs) (length xs) none ≡ some own
    unfolding sheet_facts facts_from facts_at
    fact-here =
        ap (λ (r : List Record). get_or (facts_from ps [] nothing_open r) (length xs) none) split
        ∙ get_d-from (length xs) (facts_from ps [] nothing_open (xs ++ (loop_record l ∷ ys))) none
        ∙ ap (λ (fs : List (Option LoopFacts)). get_or fs 0 none) (facts-after ps xs (loop_record l ∷ ys) [] nothing_open)

    facts-long : length (sheet_facts ps rs) ≡ length rs
    unfolding sheet_facts
    facts-long = facts-length ps [] nothing_open rs

    before-count : length before ≡ loops_through 0 xs
    unfolding sheet_facts
    before-count =
        ap (λ (fs : List (Option LoopFacts)). length (loops_in fs)) (facts-take ps (length xs) rs [] nothing_open)
        ∙ ap (λ (r : List Record). length (loops_in (facts_from ps [] nothing_open r))) (ap (take (length xs)) split ∙ take_at xs (loop_record l ∷ ys) (length xs) refl)
        ∙ loops-counted ps xs [] nothing_open

    -- its number among the loops
    pub number : loop_at rows (length xs) ≡ length before
    number = loop-reads xs l ys (rows-here xs (loop_record l) ys split) (place_here xs (loop_record l) ys split) (few-here xs (loop_record l) ys split) ∙ sym before-count

    pub small : length before < loop_limit
    small = omega (arith, before-count, loop-number-small xs l ys (place_here xs (loop_record l) ys split) (few-here xs (loop_record l) ys split))

    loops-here : LoopsHeld differences facts (before ++ (own ∷ after))
    loops-here = subst (LoopsHeld differences facts) (loop-among (sheet_facts ps rs) (length xs) own (omega (arith, there, facts-long)) fact-here) held.loops_are

    pub loop-stride : stride_at differences (loop_at rows (length xs)) ≡ own.stride
    loop-stride = ap (stride_at differences) number ∙ stride-reads before own after loops-here small

    pub loop-base : base_at differences (loop_at rows (length xs)) ≡ word_of own.base
    loop-base = ap (base_at differences) number ∙ base-reads before own after loops-here small

    pub loop-push : (m : ℕ) → m < index_factors → push_word_at differences (loop_at rows (length xs)) m ≡ word_of (get_or own.pushes m (pos zero))
    loop-push m h = ap (λ (j : ℕ). push_word_at differences j m) number ∙ push-reads before own after loops-here small m h

    pub loop-ceiling : ceiling_at facts (loop_at rows (length xs)) ≡ own.ceiling
    loop-ceiling = ap (ceiling_at facts) number ∙ ceiling-reads before own after loops-here small

    -- at small parameters, what the tests for closing ask of it
    pub loop-known : SmallParameters ps → KnownFacts differences facts (loop_at rows (length xs)) own
    unfolding loop_facts
    loop-known sized =
        let fits = loop-small-at ps sized xs l ys (place_here xs (loop_record l) ys split) in
        record {
          stride_is = loop-stride;
          pushes_are = loop-push;
          choice_is = ap (choice_depth_at facts) number ∙ choice-reads before own after loops-here small;
          rank_is = ap (rank_depth_at facts) number ∙ rank-reads before own after loops-here small;
          enough_is = ap (enough_at facts) number ∙ enough-reads before own after loops-here small;
          moves = stride-moves (loop-in-range os l (in-range-of l ys os (place-before xs (loop_record l) ys split)));
          few = omega (arith, length-map es.pushes (push (difference l)), (open-loops-through ps xs [] nothing_open nothing-open).push_count, shallow);
          small = λ m. let b = below_at (2 ^ 32) (map (push (difference l)) es.pushes) m (omega arith) fits.pushes_small in omega (arith, b);
        }
