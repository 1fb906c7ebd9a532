-- What a sheet's plan says of each record, by the records before it, and of each loop's trips at the counters of the loops around it.
use mathlib.Core.List.{◌++◌, List, [], map, map-append, ◌∷◌}
use mathlib.Core.Bool.{Bool, cond, false, not, true, true≢false, ◌&&◌, ◌||◌}
use mathlib.Core.Option.{none}
use mathlib.Core.Path.{ap, ap₂, refl, subst, sym, ◌∙◌, ◌≡◌}
use Prim.Native.Nat.{◌%◌, ◌*◌, ◌+◌, ◌-◌, ◌/◌, ◌<◌, ◌^◌, max, min, suc, zero, ℕ, ◌≤◌}
use native.Mathlib.Omega.{arith}
use native.Mathlib.Nat.{mod-lt}
use lib.IntN.{◌*ℤ◌, ◌+ℤ◌, nat_abs, pos, ℤ}
use lib.ListN.{get_or-map, get_or, length, length-append, length-map}
use native.Mathlib.Decide.{dec_le}
use lib.Dec.{T, leb, ltb}
use borrow.Author.Tests.{le-leb, lt-leb}
use Rattle.whole.specs.Integer.{dot, floor_remainder}
use Rattle.whole.proofs.Residue.{congruent-mod, congruent-unique}
use Rattle.meaning.specs.Stage.{Frame, choice_frame, indexes_of, loop_frame, ranges_of}
use Rattle.meaning.specs.Record.{Loop, stride_size, Open, loop_depth, loop_record, Record}
use Rattle.meaning.specs.Closed.{closed, closed_class, loop_class, push, push_inner, push_own, rankable, ranked, ranked_class, walked_class}
use Rattle.meaning.specs.Range.{Range, ceiling, inner_ranges}
use Rattle.meaning.specs.Limits.{ceiling_limit, depth_limit, figure_limit, index_factors, open_limit, record_limit}
use Rattle.meaning.specs.Time.{difference, time, trips}
use Rattle.meaning.specs.Report.{first_over_ceiling}
use Rattle.meaning.specs.Tree.{Block, height, tree}
use Rattle.meaning.specs.Answer.{sheet_reports}
use Rattle.meaning.specs.Form.{value}
use Rattle.meaning.proofs.Accepted.{InPlace}
use Rattle.meaning.proofs.Trips.{Inside}
use Rattle.meaning.proofs.Reports.{WithinCeiling, first-over-none}
use Rattle.meaning.proofs.Ranges.{trips-ceiling}
use Rattle.meaning.proofs.Rankable.{ranked-open}
use Rattle.layout.specs.Rows.{after_end_at, enclosing_at, end_at, first_at, first_cost, frame_at, loop_at, depth_at, opener_at, role_at, role_number, role_of, second_at, second_cost, skip_at, skip_cost}
use Rattle.layout.specs.Loops.{base_at, limit_at, push_word_at, ranked_at, stride_at, word_of}
use Rattle.nest.specs.Known.{RowsHeld}
use Rattle.nest.specs.Rows.{end_number, innermost}
use Rattle.nest.proofs.RowsRead.{enclosing-reads, end_reads, first_reads, frame-reads, depth-reads, role-reads, second_reads, skip-reads}
use Rattle.nest.proofs.Places.{in-place-through, loop-in-place}
use Rattle.nest.proofs.Walks.{opens_through}
use Rattle.loops.specs.Enclosing.{Enclosing, enter, loops_around, nothing_open}
use Rattle.loops.proofs.Sizes.{SmallLoop, SmallParameters, difference-value-small, loop-small-at}
use Rattle.loops.proofs.Enclosings.{nothing-open, open-loops-through}
use Rattle.planner.specs.Closing.{is_ranked, limit_of}
use Rattle.planner.specs.Known.{PlanHeld}
use Rattle.planner.proofs.PlansOf.{defined_plan, limit-below}
use Rattle.planner.proofs.PlanRead.{plan-base, plan-limit, plan-push, plan-ranked, plan-stride}
use Rattle.planner.proofs.PlanReports.{ceiling-within, reports_from, sheet-reports}
use Rattle.state.specs.Open.{filled}
use Rattle.trips.specs.Trips.{difference_word, limit_now, limit_within, trips_at, trips_over}
use Rattle.state.proofs.Innermost.{filled_at}
use Rattle.stages.specs.Represent.{counter_numbers, keeps_each}
use Rattle.stages.proofs.Steps.{limit_for}
use Rattle.stages.proofs.Places.{Stands, opens_of}
use Rattle.stages.proofs.Affine.{counters_of, difference-dot, difference-word, difference_at, enclosing-ranges, enclosing_of, trips-of-word, value-affine}

-- counters of further loops have no pushes
dot-around : (xs ys zs : List ℤ) → length xs ≤ length ys → dot xs (ys ++ zs) ≡ dot xs ys
dot-around [] ys zs h = refl
dot-around (x ∷ xs) [] zs h = absurd (omega arith)
dot-around (x ∷ xs) (y ∷ ys) zs h = ap (λ (z : ℤ). x *ℤ y +ℤ z) (dot-around xs ys zs (omega arith))

pub loops-count : (fs : List Frame) → loop_depth (opens_of fs) ≡ length (counter_numbers fs)
unfolding opens_of loop_depth counter_numbers
loops-count [] = refl
loops-count (loop_frame l body counter sums enclosing ∷ fs) = let i = loops-count fs in omega (arith, length-append (counter_numbers fs) (counter ∷ []))
loops-count (choice_frame passed enclosing ∷ fs) = loops-count fs

module _ (ps : List ℤ) (l : Loop) (b : Block) (ranges : List Range) where
  -- a loop's class says whether it is ranked
  ranked-class : is_ranked (loop_class ps l b ranges) ≡ ranked ps l b ranges
  unfolding loop_class ranked
  ranked-class = go (closed ps l b ranges) (rankable ps b (inner_ranges ps l ranges) (push_own l (length ranges) ∷ []))
    where
      go : (c x : Bool) → is_ranked (cond c closed_class (cond (not c && x) ranked_class walked_class)) ≡ not c && x
      go true x = unfold is_ranked in refl
      go false true = unfold is_ranked in refl
      go false false = unfold is_ranked in refl

  pub ranked-not-closed : ranked ps l b ranges ≡ true → closed ps l b ranges ≡ false
  ranked-not-closed e = ranked-open ps l b ranges (subst T (sym e) tt)

-- what is known of a sheet that is not refused 1 to 6, at parameters of 16 bits, and of the arrays that hold its plan
pub record KnownPlan (ps : List ℤ) (rs : List Record) (rows differences limits : List ℕ) : Type 0 where
  pub placed : InPlace [] rs
  pub short : length rs ≤ record_limit
  pub small : SmallParameters ps
  pub within : first_over_ceiling (sheet_reports ps rs) ≡ none
  pub ordered : (time ps (tree rs) []).least ≤ (time ps (tree rs) []).most
  pub small_most : (time ps (tree rs) []).most < figure_limit
  pub facts : List ℕ
  pub held : PlanHeld ps rs rows differences facts limits

module _ {ps : List ℤ} {rs : List Record} {rows differences limits : List ℕ} (known : KnownPlan ps rs rows differences limits) where
  -- ---- rows

  -- the row of a record of the sheet, with the number n where os with the numbers ns are open
  pub record RowIs (n : ℕ) (r : Record) (ys : List Record) (os : List Open) (ns : List ℕ) : Type 0 where
    pub below : n < length rs
    pub role_is : role_at rows n ≡ role_number (role_of r)
    pub first_is : first_at rows n ≡ first_cost r
    pub second_is : second_at rows n ≡ second_cost r
    pub skip_is : skip_at rows n ≡ skip_cost r
    pub after_end_is : after_end_at rows n ≡ end_number n r ys % record_limit + 1
    pub enclosing_is : enclosing_at rows n ≡ innermost ns
    pub opener_is : opener_at rows n ≡ (innermost ns - 1) % record_limit
    pub frame_is : frame_at rows n ≡ length os % open_limit
    pub depth_is : depth_at rows n ≡ min (loop_depth os) depth_limit

  module _ {r : Record} {ys : List Record} {n : ℕ} {os : List Open} {ns : List ℕ} {e : Enclosing} (h : Stands ps rs r ys n os ns e) where
    stands-below : n < length rs
    stands-below = omega (arith, h.number, ap (λ (xs : List Record). length xs) h.split, length-append h.outer (r ∷ ys))

    rows-here : RowsHeld rows (h.outer ++ (r ∷ ys))
    rows-here = subst (RowsHeld rows) h.split known.held.sheet_is.rows_are

    few-here : length (h.outer ++ (r ∷ ys)) ≤ record_limit
    few-here = subst (λ (xs : List Record). length xs ≤ record_limit) h.split known.short

    pub row_is : RowIs n r ys os ns
    row_is =
        let at : n ≡ length h.outer = sym h.number in
        let around = ap (enclosing_at rows) at ∙ enclosing-reads h.outer r ys rows-here few-here ∙ ap innermost h.leaves.numbers_are in
        record {
          below = stands-below;
          role_is = ap (role_at rows) at ∙ role-reads h.outer r ys rows-here few-here;
          first_is = ap (first_at rows) at ∙ first_reads h.outer r ys rows-here few-here;
          second_is = ap (second_at rows) at ∙ second_reads h.outer r ys rows-here few-here;
          skip_is = ap (skip_at rows) at ∙ skip-reads h.outer r ys rows-here few-here;
          after_end_is =
              ap (λ (m : ℕ). end_at rows m + 1) at ∙ ap (λ (m : ℕ). m + 1) (end_reads h.outer r ys rows-here few-here)
              ∙ ap (λ (m : ℕ). end_number m r ys % record_limit + 1) h.number;
          enclosing_is = around;
          opener_is = ap (λ (m : ℕ). (m - 1) % record_limit) around;
          frame_is = ap (frame_at rows) at ∙ frame-reads h.outer r ys rows-here few-here ∙ ap (λ (x : List Open). length x % open_limit) h.leaves.opens_are;
          depth_is =
              ap (depth_at rows) at ∙ depth-reads h.outer r ys rows-here few-here ∙ ap (λ (x : List Open). min (loop_depth x) depth_limit) h.leaves.opens_are;
        }

  -- ---- loops

  -- the counters, as the state has them
  counters-same : (fs : List Frame) → counters_of fs ≡ map pos (counter_numbers fs)
  unfolding counters_of counter_numbers
  counters-same [] = refl
  counters-same (loop_frame l body counter sums enclosing ∷ fs) =
      ap (λ (xs : List ℤ). xs ++ (pos counter ∷ [])) (counters-same fs) ∙ sym (map-append pos (counter_numbers fs) (counter ∷ []))
  counters-same (choice_frame passed enclosing ∷ fs) = counters-same fs

  -- there are as many pushes as counters
  pushes-count : (fs : List Frame) → length (enclosing_of ps fs).pushes ≡ length (counters_of fs)
  unfolding enclosing_of enter counters_of
  pushes-count [] = refl
  pushes-count (loop_frame l body counter sums enclosing ∷ fs) =
      let e : Enclosing = enclosing_of ps fs in
      omega (
        arith,
        pushes-count fs,
        length-append (map (push_inner l) e.pushes) (push_own l (length e.ranges) ∷ []),
        length-map e.pushes (push_inner l),
        length-append (counters_of fs) (pos counter ∷ []),
      )
  pushes-count (choice_frame passed enclosing ∷ fs) = pushes-count fs

  -- the loop at record n, with fs open around it
  module _ {l : Loop} {body : List Record} {n : ℕ} (fs : List Frame) {ns : List ℕ}
      (h : Stands ps rs (loop_record l) body n (opens_of fs) ns (enclosing_of ps fs)) where
    abbrev e : Enclosing
    e = enclosing_of ps fs

    sheet_in_place : InPlace [] (h.outer ++ (loop_record l ∷ body))
    sheet_in_place = subst (InPlace []) h.split known.placed

    abbrev pushes : List ℤ
    pushes = map (push (difference l)) (enclosing_of ps fs).pushes

    abbrev base : ℤ
    base = value ps (difference l) (enclosing_of ps fs).starts

    shallow : loop_depth (opens_of fs) < depth_limit
    shallow =
        let here = in-place-through h.outer (loop_record l ∷ body) [] sheet_in_place in
        subst (λ (os : List Open). loop_depth os < depth_limit) h.leaves.opens_are (loop-in-place l body (opens_through [] h.outer) here).0

    few-around : length pushes ≤ index_factors
    few-around =
        let counted = (open-loops-through ps h.outer [] nothing_open nothing-open).push_count in
        let same = ap (λ (x : Enclosing). length x.pushes) h.leaves.loops_are in
        let depth = ap loop_depth h.leaves.opens_are in
        omega (arith, length-map (enclosing_of ps fs).pushes (push (difference l)), shallow)

    number-at : loop_at rows n ≡ loop_at rows (length h.outer)
    number-at = ap (loop_at rows) (sym h.number)

    module _ (inside : Inside (indexes_of ps fs) (ranges_of ps fs)) where
      -- D
      abbrev d : ℤ
      d = value ps (difference l) (indexes_of ps fs)

      d_small : nat_abs d < 2 ^ 63
      d_small =
          let sized = subst (SmallLoop ps l) h.leaves.loops_are (loop-small-at ps known.small h.outer l body sheet_in_place) in
          let inner-ranges = subst (Inside (indexes_of ps fs)) (sym (enclosing-ranges ps fs)) inside in
          omega (arith, difference-value-small ps l (enclosing_of ps fs) (indexes_of ps fs) sized inner-ranges)

      made-few : trips ps l (indexes_of ps fs) ≤ ceiling_limit
      made-few =
          let all : WithinCeiling (reports_from ps 0 [] nothing_open rs) =
          subst WithinCeiling (sym (sheet-reports ps rs known.placed)) ((first-over-none (sheet_reports ps rs)).0 known.within) in
          let own = ceiling-within ps h.outer l body 0 [] nothing_open (subst (λ (x : List Record). WithinCeiling (reports_from ps 0 [] nothing_open x)) h.split all) in
          let same : ceiling ps l (loops_around ps h.outer).ranges ≡ ceiling ps l (ranges_of ps fs) =
          ap (λ (x : Enclosing). ceiling ps l x.ranges) h.leaves.loops_are ∙ ap (ceiling ps l) (enclosing-ranges ps fs) in
          omega (arith, own, same, trips-ceiling ps l (ranges_of ps fs) (indexes_of ps fs) inside)

      -- the counters of the loops around it, and of itself where it is open
      module _ (inner : List ℕ) where
        abbrev counters : List ℕ
        counters = filled 0 depth_limit (counter_numbers fs ++ inner)

        abbrev signed_counters : List ℤ
        signed_counters = counters_of fs ++ map pos inner

        counter-same : (i : ℕ) → i < depth_limit → get_or signed_counters i (pos zero) ≡ pos (get_or counters i 0)
        counter-same i less =
            ap (λ (xs : List ℤ). get_or xs i (pos zero)) (ap (λ (xs : List ℤ). xs ++ map pos inner) (counters-same fs) ∙ sym (map-append pos (counter_numbers fs) inner))
            ∙ get_or-map pos (counter_numbers fs ++ inner) i 0 ∙ ap pos (sym (filled_at 0 depth_limit (counter_numbers fs ++ inner) i less))

        difference-is : difference_at base pushes (pos (get_or counters 0 0) ∷ pos (get_or counters 1 0) ∷ pos (get_or counters 2 0) ∷ []) ≡ d
        difference-is =
            same-counters ∙ difference-dot base pushes signed_counters few-around
            ∙ ap (λ (z : ℤ). base +ℤ z) (dot-around pushes (counters_of fs) (map pos inner) (omega (arith, pushes-count fs, length-map (enclosing_of ps fs).pushes (push (difference l)))))
            ∙ sym (value-affine ps (difference l) fs)
          where
            same-counters : difference_at base pushes (pos (get_or counters 0 0) ∷ pos (get_or counters 1 0) ∷ pos (get_or counters 2 0) ∷ []) ≡ difference_at base pushes signed_counters
            same-counters = unfold difference_at in (
                let c0 = sym (counter-same 0 (omega arith)) in
                let c1 = sym (counter-same 1 (omega arith)) in
                let c2 = sym (counter-same 2 (omega arith)) in
                λ i. base +ℤ (get_or pushes 0 (pos zero) *ℤ c0 i +ℤ (get_or pushes 1 (pos zero) *ℤ c1 i +ℤ get_or pushes 2 (pos zero) *ℤ c2 i)))

        difference-word-is : difference_word differences counters (loop_at rows n) ≡ word_of d
        unfolding difference_word word_of
        difference-word-is =
            let c0 : ℕ = get_or counters 0 0 in
            let c1 : ℕ = get_or counters 1 0 in
            let c2 : ℕ = get_or counters 2 0 in
            let place = known.placed in
            let xs : List Record = h.outer in
            let push_at : (m : ℕ) → m < index_factors → push_word_at differences (loop_at rows n) m ≡ word_of (get_or pushes m (pos zero)) =
            λ m less. ap (λ (j : ℕ). push_word_at differences j m) number-at ∙ plan-push known.held place known.short xs l body h.split m less
            ∙ ap (λ (x : Enclosing). word_of (get_or (map (push (difference l)) x.pushes) m (pos zero))) h.leaves.loops_are in
            let b : base_at differences (loop_at rows n) ≡ word_of base =
            ap (base_at differences) number-at ∙ plan-base known.held place known.short xs l body h.split
            ∙ ap (λ (x : Enclosing). word_of (value ps (difference l) x.starts)) h.leaves.loops_are in
            let p0 = push_at 0 (omega arith) in
            let p1 = push_at 1 (omega arith) in
            let p2 = push_at 2 (omega arith) in
            let same : difference_word differences counters (loop_at rows n)
            ≡ (word_of base + (word_of (get_or pushes 0 (pos zero)) * c0 + (word_of (get_or pushes 1 (pos zero)) * c1 + word_of (get_or pushes 2 (pos zero)) * c2))) % 2 ^ 64 =
            λ i. (b i + (p0 i * c0 + (p1 i * c1 + p2 i * c2))) % 2 ^ 64 in
            same
            ∙ congruent-unique (2 ^ 64) (mod-lt _ (omega arith)) (congruent-mod (2 ^ 64) (difference-word base pushes c0 c1 c2))
            ∙ ap (λ (z : ℤ). floor_remainder z (2 ^ 64)) difference-is

        pub trips-are : 0 < stride_size l → trips_at differences counters (loop_at rows n) ≡ trips ps l (indexes_of ps fs)
        unfolding trips_at trips_over trips
        trips-are moves =
            let stride : stride_at differences (loop_at rows n) ≡ stride_size l =
            ap (stride_at differences) number-at ∙ plan-stride known.held known.placed known.short h.outer l body h.split in
            let one : max (stride_size l) 1 ≡ stride_size l = omega arith in
            let few = made-few in
            let w : ℕ = word_of d in
            let made = trips-of-word d (stride_size l) d_small in
            ap₂ (λ (n : ℕ) (m : ℕ). trips_over n m) stride difference-word-is
            ∙ ap (λ (m : ℕ). cond (ltb w (2 ^ 63)) (min (w / m + 1) ceiling_limit) zero) one
            ∙ go (ltb w (2 ^ 63)) made few
          where
            go : (c : Bool) → trips ps l (indexes_of ps fs) ≡ cond c (suc (word_of d / stride_size l)) 0 → trips ps l (indexes_of ps fs) ≤ ceiling_limit →
                cond c (min (word_of d / stride_size l + 1) ceiling_limit) zero ≡ trips ps l (indexes_of ps fs)
            go true made few = omega arith
            go false made few = omega arith

    -- its limit, of which nothing is cut off
    pub limit_is : limit_within limits (loop_at rows n) (length (counter_numbers fs)) ≡ limit_of (loop_class ps l (tree body) (ranges_of ps fs)) (height (tree body))
    unfolding limit_within defined_plan
    limit_is =
        let xs : List Record = h.outer in
        let read = ap (limit_at limits) number-at ∙ plan-limit known.held known.placed known.short xs l body h.split in
        let below = limit-below ps xs l body sheet_in_place in
        let depth : loop_depth (opens_through [] xs) ≡ length (counter_numbers fs) = ap loop_depth h.leaves.opens_are ∙ loops-count fs in
        let limit : ℕ = limit_of (loop_class ps l (tree body) (loops_around ps xs).ranges) (height (tree body)) in
        let whole : min limit (depth_limit - length (counter_numbers fs)) ≡ limit = omega arith in
        ap (λ (m : ℕ). min m (depth_limit - length (counter_numbers fs))) read ∙ whole
        ∙ ap (λ (x : List Range). limit_of (loop_class ps l (tree body) x) (height (tree body))) (ap (λ (x : Enclosing). x.ranges) h.leaves.loops_are ∙ enclosing-ranges ps fs)

    -- whether it is ranked
    pub ranked-is : ranked_at limits (loop_at rows n) ≡ ranked ps l (tree body) (ranges_of ps fs)
    ranked-is =
        ap (ranked_at limits) number-at ∙ plan-ranked known.held known.placed known.short h.outer l body h.split
        ∙ ap (λ (x : List Range). is_ranked (loop_class ps l (tree body) x)) (ap (λ (x : Enclosing). x.ranges) h.leaves.loops_are ∙ enclosing-ranges ps fs)
        ∙ ranked-class ps l (tree body) (ranges_of ps fs)

    -- its limit in the trip with the counter j
    pub limit-now-is : (j : ℕ) → limit_now limits (loop_at rows n) (length (counter_numbers fs)) j
        ≡ limit_for (keeps_each ps l (tree body) (ranges_of ps fs) j) (height (tree body))
    unfolding limit_now keeps_each loop_class
    limit-now-is j =
        ap₂ (λ (r : Bool) (m : ℕ). cond (r && leb m j) 0 m) ranked-is limit_is
        ∙ go (closed ps l (tree body) (ranges_of ps fs)) (ranked ps l (tree body) (ranges_of ps fs)) (ranked-not-closed ps l (tree body) (ranges_of ps fs))
      where
        later : (m : ℕ) → Dec (j ≤ m) → cond (leb (suc m) j) 0 (suc m) ≡ limit_for (leb j m) m
        later m (yes first) = unfold limit_for in (ap (λ (x : Bool). cond x 0 (suc m)) (lt-leb (suc m) j (omega arith)) ∙ ap (λ (x : Bool). limit_for x m) (sym (le-leb j m first)))
        later m (no past) = unfold limit_for in (ap (λ (x : Bool). cond x 0 (suc m)) (le-leb (suc m) j (omega arith)) ∙ ap (λ (x : Bool). limit_for x m) (sym (lt-leb j m (omega arith))))

        go : (c r : Bool) → (r ≡ true → c ≡ false) →
            let m : ℕ = limit_of (cond c closed_class (cond r ranked_class walked_class)) (height (tree body)) in
            cond (r && leb m j) 0 m ≡ limit_for (c || (r && leb j (height (tree body)))) (height (tree body))
        go true true e = absurd (true≢false (e refl))
        go true false e = unfold limit_of limit_for in refl
        go false true e = unfold limit_of in later (height (tree body)) (dec_le j (height (tree body)))
        go false false e = unfold limit_of limit_for in refl
