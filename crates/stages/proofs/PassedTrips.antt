-- The end of a loop's trip, passed by the code's steps, is its end passed by the definition.
use mathlib.Core.List.{◌++◌, List, [], map, map-append, ◌∷◌}
use mathlib.Core.Bool.{Bool, cond, false, true, true≢false, ◌&&◌, ◌||◌}
use mathlib.Core.Path.{ap, ap₂, refl, subst, sym, ◌∙◌, ◌≡◌}
use mathlib.Core.Logic.{◌⊎◌, inl, inr}
use Prim.Native.Nat.{◌+◌, ◌-◌, ◌/◌, ◌<◌, ◌^◌, min, suc, zero, ℕ, ◌≤◌}
use native.Mathlib.Decide.{dec_le}
use native.Mathlib.Omega.{arith}
use borrow.Author.Tests.{le-leb, le-ltb, lt-ltb, ltb-true}
use lib.Dec.{T, leb, leb→le, ltb}
use lib.ListN.{length, length-append, length-map, replicate, take}
use lib.IntN.{pos, ℤ}
use Rattle.std.proofs.lemmas.Bool.{and_parts, or_cases}
use Rattle.whole.specs.Newton.{newton_sum}
use Rattle.meaning.specs.Time.{exactly, inner_indexes, sum_over, time, trips, ◌⊕◌, Bounds}
use Rattle.meaning.specs.Stage.{Frame, KeptArms, arms_left, further, indexes_of, kept_arms, loop_frame, next_arms, next_sums, no_arms, pass, pass_record, ranges_of, state_keeping, summing, trips_kept, trips_sum}
use Rattle.meaning.specs.Stage as Meaning
use Rattle.meaning.specs.Record.{Loop, Record, end_record, kind, loop_record}
use Rattle.meaning.specs.Closed.{closed, ranked}
use Rattle.meaning.specs.ClosedSum.{add_all, add_trip, first_sums, loop_sum}
use Rattle.meaning.specs.Settled.{all_settled, choices_of, settled, summed}
use Rattle.meaning.specs.Limits.{depth_limit, open_limit}
use Rattle.meaning.specs.Range.{Range}
use Rattle.meaning.specs.Tree.{Block, height, loop, records, tree}
use Rattle.meaning.specs.Visits.{count_over, visited_trips, visits}
use Rattle.meaning.proofs.Trips.{Inside, trip_time, trip_visits}
use Rattle.meaning.proofs.Sound.{Sound}
use Rattle.meaning.proofs.Trees.{tree-before-end}
use Rattle.meaning.proofs.SumsOfBounds.{first-terms-at-most, term-at-most, ⊕-zero}
use Rattle.meaning.proofs.ClosedLoops.{FiguresExact}
use Rattle.meaning.proofs.Rankable.{LoopsClosed}
use Rattle.meaning.proofs.KeptTrips.{keep_all, kept_sums-all, kept_sums-each}
use Rattle.meaning.proofs.RankedArms.{choices_times}
use Rattle.meaning.proofs.VisitedTrips.{all-figures-exact, summed-figures-exact, visited-most}
use Rattle.meaning.proofs.TripEnds.{arms_after, arms-first, arms-later, arms-with, sums_before, trip-further, trip-last}
use Rattle.meaning.proofs.Levels.{AllWalked, LoopLevel, Total, closer-level, frames-inside}
use Rattle.meaning.proofs.AddingUp.{StepAddsUp, ranked-free}
use Rattle.layout.specs.Rows.{end_role, loop_at, role_at, role_number, role_of, role_of_kind, second_at, second_cost}
use Rattle.layout.specs.Loops.{ranked_at}
use Rattle.ranking.specs.Body.{settled_at}
use Rattle.state.specs.declared.bounds.Bounds as declared
use Rattle.state.specs.Bounds.{bounds, no_bounds}
use Rattle.state.specs.Open.{kept_arms_limit, kept_limit, filled}
use Rattle.state.specs.Kept.{first_trips, kept_from, kept_room, trips_sum as state_sum}
use Rattle.state.specs.Arms.{arm_count_in}
use Rattle.state.proofs.Innermost.{all_counters, all_kept, kept_top}
use Rattle.trips.specs.Trips.{limit_now, trips_at}
use Rattle.passing.specs.Pass.{Passage, begins, goes_on, goes_unsettled, pass_loop}
use Rattle.ranking.specs.Settled.{bounds_of}
use Rattle.stages.specs.Represent.{arms_of, counter_numbers, each_of, keeps_each, kept_of, struct_of}
use Rattle.stages.specs.Laws.{defined_visits}
use Rattle.stages.proofs.ArmsKept.{arm_total, next-trip-arms}
use Rattle.stages.proofs.Steps.{Fits, TripsCome, limit_for, loop-left, next-trip-opens, one-loop-more, open_loops, unsettled-trip-opens}
use Rattle.stages.proofs.PlanLaws.{KnownPlan, RowIs, limit-now-is, ranked-is, ranked-not-closed, row_is, trips-are}
use Rattle.stages.proofs.Standing.{Opener, Regular, body-shallow, current-fits, frame-of, kept-length, loop-opener, loop-room}
use Rattle.stages.proofs.Standing.{passage_of, place-next, row_here, struct_at, total-fits, whole}
use Rattle.stages.proofs.Places.{opens_of}
use Rattle.stages.proofs.SummedFigures.{first-trips, first_trips-length, sum-exact}
use Rattle.stages.proofs.KeptChoices.{loop-has-room}
use Rattle.stages.proofs.SettledTrips.{settled-now}
use Rattle.stages.proofs.AfterTrips.{Further, Left, Outcome, Unsettled, after-trip}
use Rattle.stages.proofs.PassedRecords.{next-adds, struct-here, struct-next}

first_count : {A : Type 0} (n : ℕ) (f : ℕ → A) → length (first_sums n f) ≡ n
unfolding first_sums
first_count zero f = refl
first_count (suc n) f = let i = first_count n f in omega (arith, length-append (first_sums n f) (f n ∷ []))

-- one of two tests, or two together
one_of : (a b c : Bool) → a || (b && c) ≡ true → (a ≡ true) ⊎ ((b ≡ true) × (c ≡ true))
one_of a b c e = elim (or_cases a (b && c) e) [ inl x ↦ inl x | inr y ↦ inr (and_parts b c y) ]

module _ {ps : List ℤ} {rs : List Record} {rows differences limits : List ℕ} (known : KnownPlan ps rs rows differences limits)
    (ys : List Record) (l : Loop) (body : List Record) (j : ℕ) (sums : List Bounds) (enclosing c : Bounds) (fs : List Frame) (a : KeptArms) (v : ℕ)
    (g : Regular known (state_keeping a (end_record ∷ ys) c (loop_frame l body j sums enclosing ∷ fs) v)) where
  abbrev frames : List Frame
  frames = loop_frame l body j sums enclosing ∷ fs

  abbrev here : Meaning.State
  here = state_keeping a (end_record ∷ ys) c frames v

  abbrev b : Block
  b = tree body

  abbrev ranges : List Range
  ranges = ranges_of ps fs

  abbrev indexes : List ℤ
  indexes = indexes_of ps fs

  abbrev n : ℕ
  n = trips ps l indexes

  abbrev f : ℕ → Bounds
  f = trip_time ps l b indexes

  abbrev h : ℕ
  h = height b

  abbrev is_closed : Bool
  is_closed = closed ps l b ranges

  abbrev is_ranked : Bool
  is_ranked = ranked ps l b ranges

  abbrev visited : ℕ
  visited = visited_trips ps l b ranges indexes n

  abbrev trip : Bounds
  trip = c ⊕ exactly l.step

  abbrev d : ℕ
  d = open_loops fs

  abbrev each : Bool
  each = keeps_each ps l b ranges j

  -- ---- what adds up

  level : LoopLevel ps (λ t x m p. Total ps (whole known) (defined_visits ps rs) fs t x m p) (AllWalked ps fs) (Meaning.keeps_arms ps fs) ranges indexes
      l body j sums enclosing (end_record ∷ ys) c v a
  unfolding Total
  level = closer-level ps (whole known) (defined_visits ps rs) end_record ys c frames v a (inl refl) g.adds

  abbrev outer : KeptArms
  outer = level.outer_arms

  same_block : level.block ≡ b
  same_block = sym (ap tree level.body_is ∙ tree-before-end level.block ys)

  body_is : body ≡ records b ++ (end_record ∷ ys)
  body_is = level.body_is ∙ ap (λ (x : Block). records x ++ (end_record ∷ ys)) same_block

  trip-is : trip ≡ f j
  trip-is = ap (λ (x : Bounds). x ⊕ exactly l.step) (level.total_is ∙ ap (λ x. time ps x (inner_indexes ps l indexes j)) same_block)

  trip-visited : j < visited
  trip-visited = subst (λ x. j < visited_trips ps l x ranges indexes n) same_block level.trip_visited

  trip-made : j < n
  trip-made = omega (arith, trip-visited, visited-most ps l b ranges indexes n)

  sums-are : sums ≡ sums_before ps l b ranges indexes outer j
  sums-are = level.sums_are ∙ ap (λ x. sums_before ps l x ranges indexes outer j) same_block

  arms-are : a ≡ arms_after ps l b ranges indexes outer j
  arms-are = level.arms_are ∙ ap (λ x. arms_after ps l x ranges indexes outer j) same_block

  ready : (AllWalked ps fs × (outer ≡ no_arms)) ⊎ LoopsClosed ps (loop l b level.after) ranges
  ready = subst (λ x. (AllWalked ps fs × (outer ≡ no_arms)) ⊎ LoopsClosed ps (loop l x level.after) ranges) same_block level.ready

  free : is_ranked ≡ true → outer ≡ no_arms
  free = ranked-free ps outer ranges l b level.after (AllWalked ps fs) ready

  sound : Sound b
  sound = subst Sound same_block level.block_sound

  abbrev count_around : ℕ
  count_around =
      level.entered + count_over (visited_trips ps l level.block ranges indexes n) (trip_visits ps l level.block ranges indexes) + visits ps level.after ranges indexes

  abbrev arms_around : KeptArms
  arms_around = keep_all (Meaning.keeps_arms ps fs) (choices_times ps level.after indexes) outer

  sum-around : Total ps (whole known) (defined_visits ps rs) fs level.outer_tail (enclosing ⊕ sum_over n f ⊕ time ps level.after indexes) count_around arms_around
  sum-around =
      subst (λ x. Total ps (whole known) (defined_visits ps rs) fs level.outer_tail (enclosing ⊕ sum_over n (trip_time ps l x indexes) ⊕ time ps level.after indexes) count_around arms_around)
      same_block level.around

  inside : Inside indexes ranges
  inside = frames-inside ps (whole known) (defined_visits ps rs) fs level.outer_tail _ _ _ sum-around

  -- ---- what fits in 64 bits

  sum_fits : Fits (sum_over n f)
  sum_fits =
      let i = total-fits known fs level.outer_tail _ _ _ sum-around in
      record { least_fits = omega (arith, i.least_fits); most_fits = omega (arith, i.most_fits) }

  -- what is at most the sum of all trips
  within-sum : (x y : Bounds) → x ≡ y → (y.least ≤ (sum_over n f).least) × (y.most ≤ (sum_over n f).most) → Fits x
  within-sum x y e k =
      let least = ap (λ (z : Bounds). z.least) e in
      let most = ap (λ (z : Bounds). z.most) e in
      record { least_fits = omega (arith, k.0, sum_fits.least_fits); most_fits = omega (arith, k.1, sum_fits.most_fits) }

  trip-fits : Fits trip
  trip-fits = within-sum trip (f j) trip-is (term-at-most n f j trip-made)

  -- the trips kept and the open one come to the first trips' sum
  trips-so-far : add_all sums ⊕ trip ≡ sum_over (suc j) f
  unfolding sums_before add_trip add_all
  trips-so-far =
      sym (⊕-zero (add_all sums ⊕ trip)) ∙ (λ i. add_all (add_trip false (sums-are i) (trip-is i))) ∙ kept_sums-all (λ k. is_closed || (is_ranked && ltb k h)) f j

  so-far-fits : Fits (add_all sums ⊕ trip)
  so-far-fits = within-sum (add_all sums ⊕ trip) (sum_over (suc j) f) trips-so-far (first-terms-at-most (suc j) n f trip-made)

  -- ---- where each trip before is kept

  opener : Opener known (length g.place.before) (loop_record l) body fs
  opener = loop-opener known fs g.place

  shallow : h + suc d ≤ depth_limit
  shallow = body-shallow known fs opener.stands

  each-low : each ≡ true → j ≤ h
  unfolding keeps_each
  each-low e = go (one_of is_closed is_ranked (leb j h) e)
    where
      go : (is_closed ≡ true) ⊎ ((is_ranked ≡ true) × (leb j h ≡ true)) → j ≤ h
      go (inl x) = unfold visited_trips summed in
          omega (arith, trip-visited, ap (λ (y : Bool). cond (y || (is_ranked && settled ps l b indexes n)) (min n (suc h)) n) x)
      go (inr x) = leb→le j h (subst T (sym x.1) tt)

  each-kept : each ≡ true → sums ≡ first_sums j f
  unfolding sums_before keeps_each
  each-kept e =
      sums-are ∙ kept_sums-each (λ k. is_closed || (is_ranked && ltb k h)) f j
      (λ k less. kept-so (one_of is_closed is_ranked (leb j h) e) (lt-ltb k h (omega (arith, each-low e))))
    where
      kept-so : {x : Bool} → (is_closed ≡ true) ⊎ ((is_ranked ≡ true) × (leb j h ≡ true)) → x ≡ true → is_closed || (is_ranked && x) ≡ true
      kept-so {x} (inl y) less = ap (λ (z : Bool). z || (is_ranked && x)) y
      kept-so {x} (inr y) less = go is_closed y.0 less
        where
          go : (z : Bool) → is_ranked ≡ true → x ≡ true → z || (is_ranked && x) ≡ true
          go true r t = refl
          go false r t = λ i. r i && t i

  rooms : (length fs < open_limit) × (d < depth_limit)
  rooms = loop-room known fs opener.stands

  kept-now : length (kept_of ps fs) ≡ kept_from d
  kept-now = kept-length ps fs (omega (arith, rooms.1))

  abbrev kept_trips : List declared.Bounds
  kept_trips = all_kept (kept_of ps fs ++ filled no_bounds (kept_room d) (each_of sums))

  -- the sum of m trips from those kept and the open one, where Newton's sum of these is exact
  module _ (e : each ≡ true) (m : ℕ) (sum : Bounds) (exact : FiguresExact m (first_sums (suc j) f) sum) (fits : Fits sum) where
    counted : length sums ≡ j
    counted = ap (λ (xs : List Bounds). length xs) (each-kept e) ∙ first_count j f

    fitting : j ≤ kept_room d
    fitting = omega (arith, each-low e, shallow)

    figure-sum : (figure : declared.Bounds → ℕ) → newton_sum m (map (λ x. pos (figure (bounds_of x))) (first_sums (suc j) f)) ≡ pos (figure (bounds_of sum)) →
        figure (bounds_of sum) < 2 ^ 64 → state_sum m j (map figure (first_trips kept_trips d j (bounds_of trip))) ≡ figure (bounds_of sum)
    unfolding first_sums
    figure-sum figure newton small =
        let size = length-map sums bounds_of in
        let low = each-low e in
        let tail : List declared.Bounds = replicate (kept_limit - kept_from d - length (each_of sums)) no_bounds in
        let form : kept_trips ≡ kept_of ps fs ++ (each_of sums ++ tail) = kept_top (kept_of ps fs) d kept-now rooms.1 (each_of sums) (omega (arith, counted, fitting)) in
        let values : take (suc j) (map pos (map figure (first_trips kept_trips d j (bounds_of trip)))) ≡ map (λ x. pos (figure (bounds_of x))) (first_sums (suc j) f) =
        (λ i. take (suc (sym counted i)) (map pos (map figure (first_trips (form i) d (sym counted i) (bounds_of trip)))))
        ∙ first-trips figure (kept_of ps fs) d kept-now sums tail (bounds_of trip) (omega (arith, shallow, counted))
        ∙ ap₂ (λ (xs : List Bounds) (x : Bounds). map (λ y. pos (figure (bounds_of y))) xs ++ (pos (figure (bounds_of x)) ∷ [])) (each-kept e) trip-is
        ∙ sym (map-append (λ x. pos (figure (bounds_of x))) (first_sums j f) (f j ∷ [])) in
        sum-exact (λ x. figure (bounds_of x)) m j (first_sums (suc j) f) sum newton (omega (arith, shallow)) (map figure (first_trips kept_trips d j (bounds_of trip)))
        (first_trips-length figure kept_trips d j (bounds_of trip)) values small

  -- ---- the plan's numbers of the loop

  abbrev end : ℕ
  end = length g.place.before

  abbrev q : ℕ
  q = opener.number

  row : RowIs known q (loop_record l) body (opens_of fs) opener.outer_numbers
  row = row_is known opener.stands

  step_is : second_at rows q ≡ l.step
  unfolding second_cost
  step_is = row.second_is

  end-role : role_at rows end ≡ role_number end_role
  unfolding role_of role_of_kind kind
  end-role = (row_here known frames g.place).role_is

  trips-now : trips_at differences (all_counters (counter_numbers fs ++ (j ∷ []))) (loop_at rows q) ≡ n
  trips-now = trips-are known fs opener.stands inside (j ∷ []) level.loop_sound.moves

  ranked-now : ranked_at limits (loop_at rows q) ≡ is_ranked
  ranked-now = ranked-is known fs opener.stands

  limit-now : limit_now limits (loop_at rows q) d j ≡ limit_for each h
  limit-now = limit-now-is known fs opener.stands j

  arms-little : is_ranked ≡ true → arm_total (trips_kept a) ≤ kept_arms_limit
  arms-little r = loop-has-room known fs opener.stands b level.after ys body_is a outer j ready arms-are r

  come : (m : ℕ) (sum : Bounds) → each ≡ true → FiguresExact m (first_sums (suc j) f) sum → Fits sum →
      TripsCome ps rows differences limits end q l body j h n sums enclosing c v fs a end-role opener.found (frame-of known fs row rooms.0) step_is rooms.0 rooms.1
      kept-now trips-now trip-fits is_ranked ranked-now m sum
  come m sum e exact fits = record {
    counted = counted e m sum exact fits;
    low = each-low e;
    fitting = fitting e m sum exact fits;
    sum_is =
        λ i. bounds (figure-sum e m sum exact fits (λ x. x.least) exact.least_exact fits.least_fits i) (figure-sum e m sum exact fits (λ x. x.most) exact.most_exact fits.most_fits i);
  }

  -- ---- what is decided

  abbrev found : Bool
  found = settled_at rows q (arms_of a).bounds (suc j) (arm_count_in (arms_of a) / suc j)

  abbrev settled_so : Bool
  settled_so = all_settled (choices_of (trips_kept a) zero b)

  found-so : is_ranked ≡ true → j ≤ h → found ≡ settled_so
  unfolding trips_kept first_sums
  found-so r small =
      let kept = arms-are ∙ arms-with ps l b ranges indexes outer r j small (arms-first ps l b ranges indexes outer r (free r) j small) in
      settled-now known fs opener.stands inside b ys body_is sound j a (ap trips_kept kept) (omega (arith, shallow)) (omega (arith, shallow)) trip-made (arms-little r)

  outcome : Outcome is_closed is_ranked found settled_so n h j
  outcome = after-trip is_closed is_ranked found settled_so n h j (ranked-not-closed ps l b ranges) found-so

  -- where the loop is left all trips to be visited are
  all-visited : further ps l b ranges n j a ≡ false → visited ≡ suc j
  all-visited e = go (dec_le (suc (suc j)) visited)
    where
      go : Dec (suc (suc j) ≤ visited) → visited ≡ suc j
      go (yes more) =
          absurd (true≢false (sym (trip-further ps l b ranges indexes outer free j more) ∙ ap (further ps l b ranges n j) (sym arms-are) ∙ e))
      go (no last) = omega (arith, trip-visited)

  last-exact : visited ≡ suc j → FiguresExact n (first_sums (suc j) f) (sum_over n f)
  unfolding visited_trips
  last-exact e = go (summed ps l b ranges indexes n) refl
    where
      go : (x : Bool) → summed ps l b ranges indexes n ≡ x → FiguresExact n (first_sums (suc j) f) (sum_over n f)
      go true s =
          let first : min n (suc h) ≡ suc j = sym (ap (λ (y : Bool). cond y (min n (suc h)) n) s) ∙ e in
          subst (λ (m : ℕ). FiguresExact n (first_sums m f) (sum_over n f)) first (summed-figures-exact ps l b ranges indexes sound inside (subst T (sym s) tt))
      go false s =
          let all : n ≡ suc j = sym (ap (λ (y : Bool). cond y (min n (suc h)) n) s) ∙ e in
          subst (λ (m : ℕ). FiguresExact n (first_sums m f) (sum_over n f)) all (all-figures-exact n f)

  left-sum : visited ≡ suc j → trips_sum ps l b ranges n j a sums trip ≡ sum_over n f
  left-sum e =
      (λ i. trips_sum ps l b ranges n j (arms-are i) (sums-are i) (trip-is i)) ∙ (trip-last ps l b ranges indexes outer free sound inside j e).1

  -- the arms that a further trip opens with are the same
  next-arms : (is_closed || (is_ranked && ltb j h)) ≡ each → arms_of a ≡ arms_of (next_arms ps l b ranges n j a)
  unfolding next_arms keeps_each
  next-arms same = go is_ranked refl (ltb j h) refl
    where
      go : (r : Bool) → is_ranked ≡ r → (w : Bool) → ltb j h ≡ w → arms_of a ≡ arms_of (cond r (cond w (kept_arms (trips_kept a) []) no_arms) a)
      go false e w t = refl
      go true e true t = sym (next-trip-arms a)
      go true e false t =
          let open-so = ranked-not-closed ps l b ranges e in
          let later : leb j h ≡ false = sym (λ i. open-so i || (e i && leb j h)) ∙ sym same ∙ (λ i. open-so i || (e i && t i)) in
          ap arms_of (arms-are ∙ arms-later ps l b ranges indexes outer e j (past (dec_le j h) later))
        where
          past : Dec (j ≤ h) → leb j h ≡ false → h < j
          past (yes small) x = absurd (true≢false (sym (le-leb j h small) ∙ x))
          past (no large) x = omega arith

  -- ---- the three ways on

  abbrev next_state : Meaning.State
  next_state = state_keeping (next_arms ps l b ranges n j a) body (exactly zero) (loop_frame l body (suc j) (next_sums ps l b ranges n j sums trip) enclosing ∷ fs) (suc v)

  abbrev left_state : Meaning.State
  left_state = state_keeping (arms_left ps l b ranges n j a) ys (enclosing ⊕ trips_sum ps l b ranges n j a sums trip) fs v

  abbrev passed : Passage
  passed = pass_loop rows differences limits (open_loops frames) (struct_of ps rs here)

  abbrev next_passage : Passage
  next_passage = begins (open_loops next_state.frames) (struct_of ps rs next_state)

  -- the record after the loop's own
  place : length rs - length body ≡ q + 1
  place = place-next known opener.stands.outer (loop_record l) body opener.stands.split ∙ ap (λ (m : ℕ). m + 1) opener.stands.number

  starts : passed ≡ pass_loop rows differences limits (d + 1) (struct_of ps rs here)
  starts = ap (λ (m : ℕ). pass_loop rows differences limits m (struct_of ps rs here)) (sym (one-loop-more l body j sums enclosing fs))

  further-in-step : Further is_closed is_ranked found settled_so n h j → passed ≡ next_passage
  unfolding next_sums keeps_each goes_unsettled
  further-in-step o =
      let room : each ≡ true → j + 1 ≤ kept_room d = λ x. (let w = each-low-next o x in omega (arith, shallow)) in
      let after = sym (struct_at known (q + 1) body (exactly zero) (loop_frame l body (suc j) (add_trip each sums trip) enclosing ∷ fs) (next_arms ps l b ranges n j a) (suc v) place) in
      starts ∙ ap (pass_loop rows differences limits (d + 1)) (struct-here known c frames a v g.place)
      ∙ next-trip-opens ps rows differences limits end q l body j h n sums enclosing c v fs a end-role opener.found (frame-of known fs row rooms.0)
      step_is rooms.0 rooms.1 kept-now trips-now trip-fits is_ranked ranked-now each refl limit-now o.made o.stays g.few (λ x. so-far-fits)
      (λ x. (ap (λ (xs : List Bounds). length xs) (each-kept x) ∙ first_count j f, room x)) (next_arms ps l b ranges n j a) (next-arms o.joins)
      ∙ (λ i. begins (one-loop-more l body (suc j) (add_trip each sums trip) enclosing fs i) (after i))
      ∙ ap (λ (x : Bool). begins (open_loops (loop_frame l body (suc j) (add_trip x sums trip) enclosing ∷ fs))
      (struct_of ps rs (state_keeping (next_arms ps l b ranges n j a) body (exactly zero) (loop_frame l body (suc j) (add_trip x sums trip) enclosing ∷ fs) (suc v)))) (sym o.joins)
    where
      -- a kept trip more has room, where the next one is one of the first
      each-low-next : Further is_closed is_ranked found settled_so n h j → each ≡ true → suc j ≤ h
      each-low-next o e = go (one_of is_closed is_ranked (ltb j h) (o.joins ∙ e))
        where
          go : (is_closed ≡ true) ⊎ ((is_ranked ≡ true) × (ltb j h ≡ true)) → suc j ≤ h
          go (inl x) =
              let more = sym (ap (λ (y : Bool). ltb (suc j) (cond (y || (is_ranked && leb j h && settled_so)) (min n (suc h)) n)) x) ∙ o.defined in
              let less = ltb-true (suc j) (min n (suc h)) more in omega arith
          go (inr x) = ltb-true j h x.1

  unsettled-in-step : Unsettled is_closed is_ranked found settled_so n h j → passed ≡ next_passage
  unfolding next_sums next_arms keeps_each goes_unsettled
  unsettled-in-step o =
      let after = sym (struct_at known (q + 1) body (exactly zero) (loop_frame l body (suc j) (add_trip false sums trip) enclosing ∷ fs) no_arms (suc v) place) in
      let exact = subst (λ (x : Bounds). FiguresExact (suc j) (first_sums (suc j) f) x) (sym trips-so-far) (all-figures-exact (suc j) f) in
      let dropped : no_arms ≡ cond is_ranked (cond (ltb j h) (kept_arms (trips_kept a) []) no_arms) a =
      sym (λ i. cond (o.ranked i) (cond (le-ltb j h o.last i) (kept_arms (trips_kept a) []) no_arms) a) in
      starts ∙ ap (pass_loop rows differences limits (d + 1)) (struct-here known c frames a v g.place)
      ∙ unsettled-trip-opens ps rows differences limits end q l body j h n sums enclosing c v fs a end-role opener.found (frame-of known fs row rooms.0)
      step_is rooms.0 rooms.1 kept-now trips-now trip-fits is_ranked ranked-now each refl limit-now o.made o.before o.after g.few so-far-fits
      (come (suc j) (add_all sums ⊕ trip) o.before exact so-far-fits) (arms-little o.ranked)
      ∙ (λ i. begins (one-loop-more l body (suc j) (add_trip false sums trip) enclosing fs i) (after i))
      ∙ (λ i. begins (open_loops (loop_frame l body (suc j) (add_trip (sym o.joined i) sums trip) enclosing ∷ fs))
      (struct_of ps rs (state_keeping (dropped i) body (exactly zero) (loop_frame l body (suc j) (add_trip (sym o.joined i) sums trip) enclosing ∷ fs) (suc v))))

  left-in-step : Left is_closed is_ranked found settled_so n h j → Fits (enclosing ⊕ trips_sum ps l b ranges n j a sums trip) →
      passed ≡ goes_on d (struct_of ps rs left_state)
  unfolding arms_left keeps_each goes_unsettled further summing
  left-in-step o fits =
      let e = all-visited o.defined in
      let sum : Bounds = trips_sum ps l b ranges n j a sums trip in
      let exact = subst (λ (x : Bounds). FiguresExact n (first_sums (suc j) f) x) (sym (left-sum e)) (last-exact e) in
      let sum-small : Fits sum = within-sum sum (sum_over n f) (left-sum e) (omega arith, omega arith) in
      starts ∙ ap (pass_loop rows differences limits (d + 1)) (struct-here known c frames a v g.place)
      ∙ loop-left ps rows differences limits end q l body j h n sums enclosing c v fs a end-role opener.found (frame-of known fs row rooms.0)
      step_is rooms.0 rooms.1 kept-now trips-now trip-fits is_ranked ranked-now each refl limit-now o.made sum fits
      (λ x. (so-far-fits, walked-sum x)) (λ x. come n sum x exact sum-small) arms-little
      ∙ ap (goes_on d) (struct-next known frames g.place (enclosing ⊕ sum) fs (cond is_ranked no_arms a) v)
    where
      -- where only their sum is kept, it is what the trips come to
      walked-sum : each ≡ false → add_all (add_trip false sums trip) ≡ trips_sum ps l b ranges n j a sums trip
      walked-sum x = unfold trips_sum loop_sum in
          ap (λ (y : Bool). loop_sum y n (add_trip y sums trip)) (sym (not-summing is_closed (is_ranked && leb j h) settled_so x))
        where
          not-summing : (p r s : Bool) → p || r ≡ false → p || (r && s) ≡ false
          not-summing true r s e = e
          not-summing false true s e = absurd (true≢false e)
          not-summing false false s e = refl

  left-fits : Left is_closed is_ranked found settled_so n h j → Fits (enclosing ⊕ trips_sum ps l b ranges n j a sums trip)
  unfolding pass pass_record further summing Meaning.end_trip StepAddsUp
  left-fits o =
      current-fits known left_state
      (subst (λ (x : Bool). StepAddsUp ps (whole known) (defined_visits ps rs) (Meaning.end_trip x next_state left_state)) o.defined (next-adds known here g))

  pub passed-loop-end : passed ≡ passage_of ps rs (pass ps here)
  unfolding pass pass_record further summing passage_of Meaning.end_trip
  passed-loop-end = go outcome
    where
      go : Outcome is_closed is_ranked found settled_so n h j → passed ≡ passage_of ps rs (Meaning.end_trip (further ps l b ranges n j a) next_state left_state)
      go (inl o) = further-in-step o ∙ ap (λ (x : Bool). passage_of ps rs (Meaning.end_trip x next_state left_state)) (sym o.defined)
      go (inr (inl o)) = unsettled-in-step o ∙ ap (λ (x : Bool). passage_of ps rs (Meaning.end_trip x next_state left_state)) (sym o.defined)
      go (inr (inr o)) = left-in-step o (left-fits o) ∙ ap (λ (x : Bool). passage_of ps rs (Meaning.end_trip x next_state left_state)) (sym o.defined)
