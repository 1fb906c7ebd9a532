-- Passing a record turns a definition's state, as the struct has it, into the next one, where the plan's numbers are the record's and no sum wraps.
use mathlib.Core.List.{◌++◌, List, [], map-append, ◌∷◌}
use mathlib.Core.Bool.{Bool, false, true, cond}
use mathlib.Core.Option as Defined
use mathlib.Core.Path.{ap, ap₂, refl, sym, ◌∙◌, ◌≡◌}
use Prim.Native.Nat.{◌+◌, ◌-◌, ◌<◌, ◌^◌, suc, ℕ, ◌≤◌, min, zero}
use native.Mathlib.Omega.{arith}
use native.Mathlib.Nat.{mod-eq_of_lt}
use lib.Dec.{eqb, ltb}
use lib.ListN.{get_or, length, length-append, length-map, set}
use lib.IntN.{ℤ}
use Rattle.meaning.specs.Time.{bounds, entry_cost, exactly, ◌⊕◌, Bounds}
use Rattle.meaning.specs.Stage.{Frame, KeptArms, add_arm, choice_frame, keep_arm, loop_frame, no_arms, ranges_of, trips_kept}
use Rattle.meaning.specs.Record.{Loop, Record}
use Rattle.meaning.specs.ClosedSum.{add_all, add_trip}
use Rattle.meaning.specs.Limits.{depth_limit, open_limit}
use Rattle.meaning.specs.Tree.{tree}
use Rattle.meaning.proofs.SumsOfBounds.{zero-⊕, ⊕-zero}
use Rattle.layout.specs.Rows.{after_end_at, choice_role, end_role, entry_cost_at, first_at, frame_at, loop_at, loop_role, next_arm_role, opener_at, role_at, role_number, second_at, straight_role}
use Rattle.layout.specs.Loops.{ranked_at}
use Rattle.state.specs.declared.State.{State}
use Rattle.state.specs.declared.bounds.Bounds as declared
use Rattle.state.specs.declared.sums.Sums.{Sums}
use Rattle.state.specs.declared.open.Passed.{Passed}
use Rattle.state.specs.declared.open.Frame as opened
use Rattle.state.specs.declared.open.Arms.{Arms}
use Rattle.state.specs.declared.open.Open.{Open}
use Rattle.state.specs.Bounds.{bounds as kept_bounds, no_bounds, plus, wrapped_sum}
use Rattle.state.specs.Open.{kept_arms_limit, nothing_passed, counter_at, filled, with_arms, with_frames}
use Rattle.state.specs.States.{state_with}
use Rattle.state.specs.Sums.{added, from_zero, visit_begins, with_sums}
use Rattle.state.specs.Frames.{arm_joins, arm_passed, arms_passed, frame_left, frame_opened, frame_with, passed_around, sums_around, trip_joins, trip_passed, trips_passed}
use Rattle.state.specs.Kept.{kept_from, kept_room, first_trips, forgotten, held_trips, trip_kept, trips_bounds}
use Rattle.state.specs.Arms.{arm_kept, arms_dropped}
use Rattle.trips.specs.Trips.{limit_now, trips_at, visited_by}
use Rattle.state.proofs.Innermost.{all_counters, all_frames, all_kept, counter-blank, counter-set, counter-top, frame-blanked, frame-opened, kept-blank, kept-forgotten}
use Rattle.state.proofs.Innermost.{arm-joins, passed-around, sums-around, trip-joins, trip-kept}
use Rattle.passing.specs.Pass.{begins, goes_on, open_choice, pass_choice, pass_choice_where, pass_straight_work, straight_work_from, straight_work_on, StraightWork, Passage}
use Rattle.passing.specs.Pass.{keeps_arms_at, open_arm_kept, leave_arm, enter_loop, enter_with, pass_loop, pass_loop_where, end_trip, end_trip_where, AfterTrip, further_trip, unsettled_trip, loop_left}
use Rattle.passing.specs.Pass.{goes_unsettled, arms_left, left_parts, left_sums, next_parts, summed_trips, trip_joined, unsettled_parts}
use Rattle.ranking.specs.Settled.{bounds_of}
use Rattle.stages.specs.Represent.{arms_of, counter_numbers, each_of, each_trip_of, frames_of, keeps_each, kept_of, open_of, passed_arms_of, passed_trips_of, sums_of}
use Rattle.stages.proofs.ArmsKept.{arm-keeps, arm_total, arms-drop}

wrapped_exact : (a b : ℕ) → a + b < 2 ^ 64 → wrapped_sum a b ≡ a + b
unfolding wrapped_sum
wrapped_exact a b h = mod-eq_of_lt h

-- both figures are numbers of 64 bits
pub record Fits (b : Bounds) : Type 0 where
  pub least_fits : b.least < 2 ^ 64
  pub most_fits : b.most < 2 ^ 64

plus_exact : (b c : Bounds) → Fits (b ⊕ c) → plus (bounds_of b) (bounds_of c) ≡ bounds_of (b ⊕ c)
plus_exact b c fits = λ i. kept_bounds (wrapped_exact b.least c.least fits.least_fits i) (wrapped_exact b.most c.most fits.most_fits i)

one-visit-more : (v : ℕ) → suc v < 2 ^ 64 → wrapped_sum v 1 ≡ suc v
one-visit-more v more = wrapped_exact v 1 (omega arith) ∙ (let e : v + 1 ≡ suc v = omega arith in e)

-- how many loops are open
abbrev pub open_loops : List Frame → ℕ
open_loops fs = length (counter_numbers fs)

-- a loop that opens is one more
pub one-loop-more : (l : Loop) (body : List Record) (counter : ℕ) (sums : List Bounds) (enclosing : Bounds) (fs : List Frame) →
    open_loops fs + 1 ≡ open_loops (loop_frame l body counter sums enclosing ∷ fs)
unfolding counter_numbers
one-loop-more l body counter sums enclosing fs = sym (length-append (counter_numbers fs) (counter ∷ []))

-- how many trips are visited at most, where each trip before is kept; 0 where only their sum is
unfoldable pub limit_for : Bool → ℕ → ℕ
limit_for true h = suc h
limit_for false h = 0

-- ---- what was passed

-- with the open arm
arm-added : (passed : Defined.Option Bounds) (c : Bounds) → arm_joins (passed_arms_of passed) (bounds_of c) ≡ passed_arms_of (Defined.some (add_arm passed c))
unfolding passed_arms_of add_arm
arm-added Defined.none c = refl
arm-added (Defined.some p) c = refl

-- of a loop of which no trip was visited
trips_none : (each : Bool) → passed_trips_of each [] ≡ nothing_passed
unfolding passed_trips_of add_all
trips_none true = refl
trips_none false = refl

each_none : (each : Bool) → each_trip_of each [] ≡ []
unfolding each_trip_of
each_none true = refl
each_none false = refl

-- the sum of those visited
trips-passed : (sums : List Bounds) → (passed_trips_of false sums).bounds ≡ bounds_of (add_all sums)
unfolding passed_trips_of
trips-passed sums = refl

-- and one more
trip-added : (sums : List Bounds) (trip : Bounds) → passed_trips_of false (add_trip false sums trip) ≡ trips_passed (bounds_of (add_all sums ⊕ trip))
unfolding passed_trips_of add_trip add_all
trip-added sums trip = ap (λ (b : Bounds). trips_passed (bounds_of b)) (⊕-zero (add_all sums ⊕ trip))

joined-exact : (sums : List Bounds) (trip : Bounds) → Fits (add_all sums ⊕ trip) →
    trip_joins (passed_trips_of false sums) (bounds_of trip) ≡ passed_trips_of false (add_trip false sums trip)
unfolding passed_trips_of
joined-exact sums trip fits =
    ap (λ (b : declared.Bounds). trips_passed b) (plus_exact (add_all sums) trip fits) ∙ sym (trip-added sums trip)

one_longer : (fs : List opened.Frame) (f : opened.Frame) → length (fs ++ (f ∷ [])) ≡ suc (length fs)
one_longer fs f = omega (arith, length-append fs (f ∷ []))

module _ (ps : List ℤ) where
  -- a frame for each open record
  frames-length : (fs : List Frame) → length (frames_of ps fs) ≡ length fs
  unfolding frames_of
  frames-length [] = refl
  frames-length (loop_frame l body counter sums enclosing ∷ fs) =
      one_longer (frames_of ps fs) (frame_with (bounds_of enclosing) (passed_trips_of (keeps_each ps l (tree body) (ranges_of ps fs) counter) sums)) ∙ ap suc (frames-length fs)
  frames-length (choice_frame passed enclosing ∷ fs) =
      one_longer (frames_of ps fs) (frame_with (bounds_of enclosing) (passed_arms_of passed)) ∙ ap suc (frames-length fs)

  -- what stands at record n
  abbrev pub standing : ℕ → Bounds → ℕ → List Frame → KeptArms → State
  standing n c v fs a = state_with n (sums_of c v) (open_of ps fs a)

  module _ (rows : List ℕ) where
    -- ---- straight work

    module _ (count n : ℕ) (c : Bounds) (v : ℕ) (fs : List Frame) (a : KeptArms) where
      abbrev worked : ℕ → State
      worked many = let w : StraightWork = straight_work_from rows many n c.least c.most in state_with w.at (with_sums (sums_of c v) (kept_bounds w.least w.most)) (open_of ps fs a)

      pub work-passed : (least most : ℕ) → n < count → role_at rows n ≡ role_number straight_role → first_at rows n ≡ least → second_at rows n ≡ most →
          Fits (c ⊕ bounds least most) → pass_straight_work rows count (standing n c v fs a) ≡ pass_straight_work rows count (standing (n + 1) (c ⊕ bounds least most) v fs a)
      unfolding pass_straight_work straight_work_from straight_work_on role_number
      work-passed least most h role first second fits =
          let m : ℕ = count - (n + 1) in
          let many : count - n ≡ suc m = omega arith in
          let l = ap (wrapped_sum c.least) first ∙ wrapped_exact c.least least fits.least_fits in
          let k = ap (wrapped_sum c.most) second ∙ wrapped_exact c.most most fits.most_fits in
          let end : straight_work_from rows (count - n) n c.least c.most ≡ straight_work_from rows m (n + 1) (c.least + least) (c.most + most) =
          ap (λ (i : ℕ). straight_work_from rows i n c.least c.most) many
          ∙ ap (λ (i : ℕ). straight_work_on rows (eqb i 0) (λ next x y. straight_work_from rows m next x y) n c.least c.most) role
          ∙ ap₂ (λ (x : ℕ) (y : ℕ). straight_work_from rows m (n + 1) x y) l k in
          ap (λ (w : StraightWork). state_with w.at (with_sums (sums_of c v) (kept_bounds w.least w.most)) (open_of ps fs a)) end

      -- none stands there
      pub no-work : eqb (role_at rows n) (role_number straight_role) ≡ false → pass_straight_work rows count (standing n c v fs a) ≡ standing n c v fs a
      unfolding pass_straight_work
      no-work other = go (count - n)
        where
          go : (many : ℕ) → worked many ≡ standing n c v fs a
          go zero = unfold straight_work_from in refl
          go (suc many) = unfold straight_work_from straight_work_on in
              ap (λ (b : Bool). let w : StraightWork = straight_work_on rows b (λ next x y. straight_work_from rows many next x y) n c.least c.most in
              state_with w.at (with_sums (sums_of c v) (kept_bounds w.least w.most)) (open_of ps fs a)) other

      -- the sheet ends there
      pub no_record : count ≤ n → pass_straight_work rows count (standing n c v fs a) ≡ standing n c v fs a
      unfolding pass_straight_work straight_work_from
      no_record h = ap worked (let e : count - n ≡ 0 = omega arith in e)

    -- ---- choices

    pub choice-opens : (limits : List ℕ) (n : ℕ) (c : Bounds) (v : ℕ) (fs : List Frame) (a : KeptArms) → role_at rows n ≡ role_number choice_role → frame_at rows n ≡ length fs →
        length fs < open_limit → pass_choice rows limits (standing n c v fs a) ≡ standing (n + 1) (exactly zero) v (choice_frame Defined.none c ∷ fs) a
    unfolding pass_choice pass_choice_where open_choice from_zero role_number open_of frames_of counter_numbers kept_of passed_arms_of
    choice-opens limits n c v fs a role frame room =
        let s : State = standing n c v fs a in
        ap (λ (m : ℕ). pass_choice_where rows limits (eqb m 3) s) role
        ∙ ap (λ (f : List opened.Frame). state_with (n + 1) (sums_of (exactly zero) v) (with_frames (open_of ps fs a) f))
        (ap (λ (o : ℕ). frame_opened (all_frames (frames_of ps fs)) o (bounds_of c)) frame
        ∙ frame-opened (frames_of ps fs) (length fs) (frames-length fs) room (bounds_of c))

    -- the open arm among those passed
    arm-passed : (passed : Defined.Option Bounds) (enclosing c : Bounds) (fs : List Frame) → length fs < open_limit →
        arm_passed (all_frames (frames_of ps (choice_frame passed enclosing ∷ fs))) (length fs) (bounds_of c)
        ≡ all_frames (frames_of ps (choice_frame (Defined.some (add_arm passed c)) enclosing ∷ fs))
    unfolding frames_of passed_arms_of
    arm-passed passed enclosing c fs room =
        arm-joins (frames_of ps fs) (length fs) (frames-length fs) room (bounds_of enclosing) (passed_arms_of passed) (bounds_of c)
        ∙ ap (λ (p : Passed). all_frames (frames_of ps fs ++ (frame_with (bounds_of enclosing) p ∷ []))) (arm-added passed c)

    -- the open arm is kept, where there is room
    arm-kept-so : (limits : List ℕ) (q : ℕ) (c : Bounds) (gs : List Frame) (a : KeptArms) (keeps : Bool) →
        keeps_arms_at rows limits q (open_of ps gs a) ≡ keeps → (keeps ≡ true → arm_total (trips_kept a) < kept_arms_limit) →
        open_arm_kept rows limits q (bounds_of c) (open_of ps gs a) ≡ open_of ps gs (keep_arm keeps a c)
    unfolding open_arm_kept
    arm-kept-so limits q c gs a keeps e room =
        ap (λ (x : Bool). cond x (with_arms (open_of ps gs a) (arm_kept (open_of ps gs a).arms (bounds_of c))) (open_of ps gs a)) e ∙ go keeps room
      where
        go : (x : Bool) → (x ≡ true → arm_total (trips_kept a) < kept_arms_limit) →
            cond x (with_arms (open_of ps gs a) (arm_kept (open_of ps gs a).arms (bounds_of c))) (open_of ps gs a) ≡ open_of ps gs (keep_arm x a c)
        go true h = unfold open_of in ap (λ (arms : Arms). with_arms (open_of ps gs a) arms) (arm-keeps a c (h refl))
        go false h = unfold keep_arm in refl

    module _ (limits : List ℕ) (n q : ℕ) (passed : Defined.Option Bounds) (enclosing c : Bounds) (v : ℕ) (fs : List Frame) (a : KeptArms)
        (opener : opener_at rows n ≡ q) (frame : frame_at rows q ≡ length fs) (room : length fs < open_limit) (keeps : Bool)
        (kept : keeps_arms_at rows limits q (open_of ps (choice_frame passed enclosing ∷ fs) a) ≡ keeps)
        (arm_room : keeps ≡ true → arm_total (trips_kept a) < kept_arms_limit) where
      abbrev arm_frames : List Frame
      arm_frames = choice_frame passed enclosing ∷ fs

      abbrev arm_state : State
      arm_state = standing n c v arm_frames a

      -- the arm is left, after it was kept
      arm-leaves : (role : ℕ) → role_at rows n ≡ role → eqb role 3 ≡ false →
          pass_choice rows limits arm_state ≡ leave_arm rows (eqb role 2) (length fs) (standing n c v arm_frames (keep_arm keeps a c))
      unfolding pass_choice pass_choice_where role_number
      arm-leaves role e other =
          ap (λ (x : Bool). pass_choice_where rows limits x arm_state) (ap (λ (m : ℕ). eqb m 3) e ∙ other)
          ∙ ap₂ (λ (m : ℕ) (o : ℕ). leave_arm rows (eqb m 2) (frame_at rows o) (state_with n (sums_of c v) (open_arm_kept rows limits o (bounds_of c) (open_of ps arm_frames a)))) e opener
          ∙ ap₂ (λ (o : ℕ) (opened : Open). leave_arm rows (eqb role 2) o (state_with n (sums_of c v) opened)) frame
          (arm-kept-so limits q c arm_frames a keeps kept arm_room)

      pub next-arm-opens : role_at rows n ≡ role_number next_arm_role →
          pass_choice rows limits arm_state ≡ standing (n + 1) (exactly zero) v (choice_frame (Defined.some (add_arm passed c)) enclosing ∷ fs) (keep_arm keeps a c)
      unfolding leave_arm from_zero role_number open_of counter_numbers kept_of
      next-arm-opens role =
          arm-leaves 4 role refl
          ∙ ap (λ (f : List opened.Frame). state_with (n + 1) (sums_of (exactly zero) v) (with_frames (open_of ps fs (keep_arm keeps a c)) f)) (arm-passed passed enclosing c fs room)

      pub choice-left : role_at rows n ≡ role_number end_role → Fits (enclosing ⊕ add_arm passed c) →
          pass_choice rows limits arm_state ≡ standing (n + 1) (enclosing ⊕ add_arm passed c) v fs (keep_arm keeps a c)
      unfolding leave_arm role_number open_of counter_numbers kept_of frames_of passed_arms_of
      choice-left role fits =
          let p : Bounds = add_arm passed c in
          let xs : List opened.Frame = frames_of ps fs in
          let around = passed-around xs (length fs) (frames-length fs) room (bounds_of enclosing) (arms_passed (bounds_of p)) (sums_of c v)
          ∙ ap (λ (b : declared.Bounds). with_sums (sums_of c v) b) (plus_exact enclosing p fits) in
          let blank = frame-blanked xs (length fs) (frames-length fs) room (bounds_of enclosing) (arms_passed (bounds_of p)) in
          arm-leaves 2 role refl
          ∙ ap (λ (f : List opened.Frame). state_with (n + 1) (passed_around f (length fs) (sums_of c v)) (with_frames (open_of ps fs (keep_arm keeps a c)) (frame_left f (length fs)))) (arm-passed passed enclosing c fs room)
          ∙ ap₂ (λ (x : Sums) (f : List opened.Frame). state_with (n + 1) x (with_frames (open_of ps fs (keep_arm keeps a c)) f)) around blank

    -- ---- loops

    module _ (differences limits : List ℕ) where
      module _ (n : ℕ) (c : Bounds) (v : ℕ) (l : Loop) (ys : List Record) (fs : List Frame) (a : KeptArms) (role : role_at rows n ≡ role_number loop_role)
          (trips : ℕ) (made : trips_at differences (open_of ps fs a).counters (loop_at rows n) ≡ trips) (cost : entry_cost_at rows n trips ≡ entry_cost l trips)
          (fits : Fits (c ⊕ exactly (entry_cost l trips))) where
        abbrev entered : Sums
        entered = sums_of (c ⊕ exactly (entry_cost l trips)) v

        loop-starts : (depth : ℕ) → pass_loop rows differences limits depth (standing n c v fs a) ≡ enter_with rows trips entered depth (standing n c v fs a)
        unfolding pass_loop pass_loop_where enter_loop added role_number
        loop-starts depth =
            let s : State = standing n c v fs a in
            let price = ap (entry_cost_at rows n) made ∙ cost in
            let sum = ap (λ (x : ℕ). plus (bounds_of c) (kept_bounds x x)) price ∙ plus_exact c (exactly (entry_cost l trips)) fits in
            ap (λ (m : ℕ). pass_loop_where rows differences limits depth (eqb m 1) s) role
            ∙ (λ i. enter_with rows (made i) (record { passed = sum i; visits = v }) depth s)

        -- no trip is made
        pub loop-skipped : (depth : ℕ) → trips ≡ 0 →
            pass_loop rows differences limits depth (standing n c v fs a) ≡ goes_on depth (standing (after_end_at rows n) (c ⊕ exactly (entry_cost l trips)) v fs a)
        unfolding enter_with
        loop-skipped depth e = loop-starts depth ∙ ap (λ (m : ℕ). enter_with rows m entered depth (standing n c v fs a)) e

        -- the first trip opens
        pub loop-opens : (m : ℕ) → trips ≡ suc m → frame_at rows n ≡ length fs → length fs < open_limit → open_loops fs < depth_limit →
            length (kept_of ps fs) ≡ kept_from (open_loops fs) → suc v < 2 ^ 64 →
            pass_loop rows differences limits (open_loops fs) (standing n c v fs a)
            ≡ begins (open_loops fs + 1) (standing (n + 1) (exactly zero) (suc v) (loop_frame l ys zero [] (c ⊕ exactly (entry_cost l trips)) ∷ fs) a)
        unfolding enter_with visit_begins open_of frames_of counter_numbers kept_of
        loop-opens m e frame room depth kept more =
            let each : Bool = keeps_each ps l (tree ys) (ranges_of ps fs) zero in
            let d : ℕ = open_loops fs in
            let around : declared.Bounds = bounds_of (c ⊕ exactly (entry_cost l trips)) in
            let visits = one-visit-more v more in
            let frames = ap (λ (o : ℕ). frame_opened (all_frames (frames_of ps fs)) o around) frame
            ∙ frame-opened (frames_of ps fs) (length fs) (frames-length fs) room around
            ∙ ap (λ (p : Passed). all_frames (frames_of ps fs ++ (frame_with around p ∷ []))) (sym (trips_none each)) in
            let counters = sym (counter-blank (counter_numbers fs) d refl depth) in
            let trips-kept = sym (ap (λ (bs : List declared.Bounds). all_kept (kept_of ps fs ++ filled no_bounds (kept_room d) bs)) (each_none each) ∙ kept-blank (kept_of ps fs) d kept depth) in
            loop-starts d ∙ ap (λ (i : ℕ). enter_with rows i entered d (standing n c v fs a)) e
            ∙ (λ i. begins (d + 1) (state_with (n + 1) (sums_of (exactly zero) (visits i)) (record { counters = counters i; frames = frames i; kept = trips-kept i; arms = arms_of a })))

      -- The end of the trip with the counter j of loop q, in the frame after those of fs, the arms a kept; of a loop with the height h, ranked or not,
      -- that keeps each trip before or only their sum.
      module _ (n q : ℕ) (l : Loop) (body : List Record) (j h trips : ℕ) (sums : List Bounds) (enclosing c : Bounds) (v : ℕ) (fs : List Frame) (a : KeptArms)
          (role : role_at rows n ≡ role_number end_role) (opener : opener_at rows n ≡ q) (frame : frame_at rows q ≡ length fs)
          (second : second_at rows q ≡ l.step) (room : length fs < open_limit) (depth : open_loops fs < depth_limit)
          (kept : length (kept_of ps fs) ≡ kept_from (open_loops fs))
          (made : trips_at differences (all_counters (counter_numbers fs ++ (j ∷ []))) (loop_at rows q) ≡ trips) (fits : Fits (c ⊕ exactly l.step))
          (is_ranked : Bool) (ranked_is : ranked_at limits (loop_at rows q) ≡ is_ranked) where
        abbrev d : ℕ
        d = open_loops fs

        -- the whole trip
        abbrev trip : Bounds
        trip = c ⊕ exactly l.step

        abbrev trip_sums : Sums
        trip_sums = sums_of trip v

        -- the frame, and the kept trips with those of the loop
        abbrev frames_with : Passed → List opened.Frame
        frames_with passed = all_frames (frames_of ps fs ++ (frame_with (bounds_of enclosing) passed ∷ []))

        abbrev kept_with : List declared.Bounds → List declared.Bounds
        kept_with bs = all_kept (kept_of ps fs ++ filled no_bounds (kept_room d) bs)

        -- what is open in a trip
        abbrev open_in_trip : Bool → ℕ → List Bounds → KeptArms → Open
        open_in_trip each i xs p = record {
          counters = all_counters (counter_numbers fs ++ (i ∷ []));
          frames = frames_with (passed_trips_of each xs);
          kept = kept_with (each_trip_of each xs);
          arms = arms_of p;
        }

        abbrev in_trip : Bool → ℕ → Bounds → ℕ → ℕ → List Bounds → KeptArms → State
        in_trip each m e w i xs p = state_with m (sums_of e w) (open_in_trip each i xs p)

        -- what follows the trip
        abbrev next : ℕ → AfterTrip
        next limit =
            cond (ltb (suc j) (visited_by limit trips)) further_trip (cond (goes_unsettled rows is_ranked q trips j (arms_of a)) unsettled_trip loop_left)

        counter-is : get_or (all_counters (counter_numbers fs ++ (j ∷ []))) d 0 ≡ j
        counter-is = counter-top (counter_numbers fs) d refl depth j

        trip-ends : (each : Bool) → limit_now limits (loop_at rows q) d j ≡ limit_for each h →
            pass_loop rows differences limits (d + 1) (in_trip each n c v j sums a)
            ≡ end_trip_where rows (d + 1) (next (limit_for each h)) is_ranked q (limit_for each h) trips trip_sums (in_trip each n c v j sums a)
        unfolding pass_loop pass_loop_where end_trip added role_number
        trip-ends each limit =
            let s : State = in_trip each n c v j sums a in
            let sum = ap (λ (x : ℕ). plus (bounds_of c) (kept_bounds x x)) second ∙ plus_exact c (exactly l.step) fits in
            let outer : d + 1 - 1 ≡ d = omega arith in
            let counter : get_or (all_counters (counter_numbers fs ++ (j ∷ []))) (d + 1 - 1) 0 ≡ j =
            ap (λ (m : ℕ). get_or (all_counters (counter_numbers fs ++ (j ∷ []))) m 0) outer ∙ counter-is in
            let within : limit_now limits (loop_at rows q) (d + 1 - 1) (counter_at s.opened (d + 1 - 1)) ≡ limit_for each h =
            ap₂ (λ (m : ℕ) (k : ℕ). limit_now limits (loop_at rows q) m k) outer counter ∙ limit in
            let at : (o : ℕ) → Passage = λ o.
            let m : ℕ = trips_at differences s.opened.counters (loop_at rows o) in
            let k : ℕ = counter_at s.opened (d + 1 - 1) in
            let bound : ℕ = limit_now limits (loop_at rows o) (d + 1 - 1) k in
            let r : Bool = ranked_at limits (loop_at rows o) in
            end_trip_where rows (d + 1) (cond (ltb (suc k) (visited_by bound m)) further_trip (cond (goes_unsettled rows r o m k s.opened.arms) unsettled_trip loop_left)) r o bound m
            (record { passed = plus (bounds_of c) (kept_bounds (second_at rows o) (second_at rows o)); visits = v }) s in
            ap (λ (m : ℕ). pass_loop_where rows differences limits (d + 1) (eqb m 1) s) role
            ∙ ap at opener
            ∙ (λ i. end_trip_where rows (d + 1)
            (cond (ltb (suc (counter i)) (visited_by (within i) (made i))) further_trip
            (cond (goes_unsettled rows (ranked_is i) q (made i) (counter i) s.opened.arms) unsettled_trip loop_left)) (ranked_is i) q (within i) (made i)
            (record { passed = sum i; visits = v }) s)

        counters-more : set (all_counters (counter_numbers fs ++ (j ∷ []))) d (get_or (all_counters (counter_numbers fs ++ (j ∷ []))) d 0 + 1) ≡ all_counters (counter_numbers fs ++ (suc j ∷ []))
        counters-more =
            ap (λ (m : ℕ). set (all_counters (counter_numbers fs ++ (j ∷ []))) d m) (ap (λ (m : ℕ). m + 1) counter-is ∙ (let e : j + 1 ≡ suc j = omega arith in e))
            ∙ counter-set (counter_numbers fs) d refl depth j (suc j)

        counters-left : set (all_counters (counter_numbers fs ++ (j ∷ []))) d 0 ≡ all_counters (counter_numbers fs)
        counters-left = counter-set (counter_numbers fs) d refl depth j 0 ∙ counter-blank (counter_numbers fs) d refl depth

        -- the frame with this trip too, where only the sum of the trips is kept
        trip-joins-sum : Fits (add_all sums ⊕ trip) →
            trip_passed (frames_with (passed_trips_of false sums)) (length fs) (bounds_of trip) ≡ frames_with (passed_trips_of false (add_trip false sums trip))
        trip-joins-sum sum_fits =
            trip-joins (frames_of ps fs) (length fs) (frames-length fs) room (bounds_of enclosing) (passed_trips_of false sums) (bounds_of trip)
            ∙ ap frames_with (joined-exact sums trip sum_fits)

        -- ---- a further trip opens

        trip-follows : (each : Bool) → suc v < 2 ^ 64 → (each ≡ false → Fits (add_all sums ⊕ trip)) →
            (each ≡ true → (length sums ≡ j) × (j + 1 ≤ kept_room d)) → (p : KeptArms) → arms_of a ≡ arms_of p →
            state_with (q + 1) (visit_begins trip_sums) (next_parts d (length fs) (bounds_of trip) (open_in_trip each j sums a) (limit_for each h))
            ≡ in_trip each (q + 1) (exactly zero) (suc v) (suc j) (add_trip each sums trip) p
        unfolding next_parts trip_joined limit_for visit_begins each_trip_of
        trip-follows false more walked kept_fits p same =
            let frames = trip-joins-sum (walked refl) in
            λ i. state_with (q + 1) (sums_of (exactly zero) (one-visit-more v more i))
            (record { counters = counters-more i; frames = frames i; kept = kept_with []; arms = same i })
        trip-follows true more walked kept_fits p same = unfold passed_trips_of add_trip in
            let few = kept_fits refl in
            let size = length-map sums bounds_of in
            let keeps = ap (λ (m : ℕ). trip_kept (kept_with (each_of sums)) d m (bounds_of trip)) counter-is
            ∙ trip-kept (kept_of ps fs) d kept depth (each_of sums) j (bounds_of trip) (omega (arith, size, few.0)) (omega (arith, size, few.0, few.1))
            ∙ ap kept_with (sym (map-append bounds_of sums (trip ∷ []))) in
            λ i. state_with (q + 1) (sums_of (exactly zero) (one-visit-more v more i))
            (record { counters = counters-more i; frames = frames_with nothing_passed; kept = keeps i; arms = same i })

        -- ---- the sum of trips from those kept and the open one

        -- of m trips
        pub record TripsCome (m : ℕ) (sum : Bounds) : Type 0 where
          pub counted : length sums ≡ j
          pub low : j ≤ h
          pub fitting : j ≤ kept_room d
          pub sum_is : trips_bounds m j (first_trips (kept_with (each_of sums)) d j (bounds_of trip)) ≡ bounds_of sum

        held-is : j ≤ h → held_trips (suc h) (get_or (all_counters (counter_numbers fs ++ (j ∷ []))) d 0) ≡ j
        unfolding held_trips
        held-is low = ap (λ (m : ℕ). min m (suc h - 1)) counter-is ∙ (let e : min j (suc h - 1) ≡ j = omega arith in e)

        forgets : length sums ≡ j → j ≤ kept_room d → forgotten (kept_with (each_of sums)) d j ≡ all_kept (kept_of ps fs)
        forgets counted fitting =
            let size = length-map sums bounds_of in
            kept-forgotten (kept_of ps fs) d kept depth (each_of sums) j (omega arith) (omega arith)

        -- ---- the choices are found unsettled: the trips become their sum, and the arms are dropped

        trip-unsettled : suc v < 2 ^ 64 → Fits (add_all sums ⊕ trip) → TripsCome (suc j) (add_all sums ⊕ trip) → arm_total (trips_kept a) ≤ kept_arms_limit →
            state_with (q + 1) (visit_begins trip_sums) (unsettled_parts d (length fs) (bounds_of trip) (open_in_trip true j sums a) (suc h))
            ≡ in_trip false (q + 1) (exactly zero) (suc v) (suc j) (add_trip false sums trip) no_arms
        unfolding unsettled_parts summed_trips visit_begins each_trip_of passed_trips_of
        trip-unsettled more sum_fits come few =
            let x : Bounds = add_all sums ⊕ trip in
            let held = held-is come.low in
            let held-trips : List declared.Bounds = kept_with (each_of sums) in
            let sum : ℕ → ℕ → declared.Bounds = λ k o. trips_bounds (suc k) o (first_trips held-trips d o (bounds_of trip)) in
            let all : plus no_bounds (sum (get_or (all_counters (counter_numbers fs ++ (j ∷ []))) d 0) (held_trips (suc h) (get_or (all_counters (counter_numbers fs ++ (j ∷ []))) d 0))) ≡ bounds_of x =
            ap₂ (λ (k : ℕ) (o : ℕ). plus no_bounds (sum k o)) counter-is held ∙ ap (plus no_bounds) come.sum_is
            ∙ plus_exact (exactly zero) x (record { least_fits = omega (arith, sum_fits.least_fits); most_fits = omega (arith, sum_fits.most_fits) })
            ∙ ap bounds_of (zero-⊕ x) in
            let frames = trip-joins (frames_of ps fs) (length fs) (frames-length fs) room (bounds_of enclosing) nothing_passed _
            ∙ ap (λ (b : declared.Bounds). frames_with (trips_passed b)) all ∙ ap frames_with (sym (trip-added sums trip)) in
            let blank = ap (forgotten held-trips d) held ∙ forgets come.counted come.fitting ∙ sym (kept-blank (kept_of ps fs) d kept depth) in
            λ i. state_with (q + 1) (sums_of (exactly zero) (one-visit-more v more i))
            (record { counters = counters-more i; frames = frames i; kept = blank i; arms = arms-drop a few i })

        -- ---- the loop is left, and its trips come to `sum`

        -- the arms of a ranked loop are dropped
        arms-are-left : (opened : Open) → opened.arms ≡ arms_of a → (is_ranked ≡ true → arm_total (trips_kept a) ≤ kept_arms_limit) →
            arms_left is_ranked opened ≡ with_arms opened (arms_of (cond is_ranked no_arms a))
        unfolding arms_left
        arms-are-left opened same few = go is_ranked few
          where
            go : (r : Bool) → (r ≡ true → arm_total (trips_kept a) ≤ kept_arms_limit) → cond r (with_arms opened (arms_dropped opened.arms)) opened ≡ with_arms opened (arms_of (cond r no_arms a))
            go true f = ap (with_arms opened) (ap arms_dropped same ∙ arms-drop a (f refl))
            go false f = ap (with_arms opened) same

        trips-left : (each : Bool) (sum : Bounds) → Fits (enclosing ⊕ sum) →
            (each ≡ false → Fits (add_all sums ⊕ trip) × (add_all (add_trip false sums trip) ≡ sum)) → (each ≡ true → TripsCome trips sum) →
            state_with (n + 1) (left_sums d (length fs) (bounds_of trip) (open_in_trip each j sums a) (limit_for each h) trips trip_sums)
            (left_parts d (length fs) (bounds_of trip) (open_in_trip each j sums a) (limit_for each h))
            ≡ standing (n + 1) (enclosing ⊕ sum) v fs a
        unfolding left_sums left_parts limit_for open_of summed_trips each_trip_of
        trips-left false sum sum_fits walked kept_fits =
            let xs : List opened.Frame = frames_of ps fs in
            let given = walked refl in
            let frames = trip-joins-sum given.0 in
            let passed : Passed = passed_trips_of false (add_trip false sums trip) in
            let around = passed-around xs (length fs) (frames-length fs) room (bounds_of enclosing) passed trip_sums
            ∙ ap (λ (b : declared.Bounds). with_sums trip_sums (plus (bounds_of enclosing) b)) (trips-passed (add_trip false sums trip) ∙ ap bounds_of given.1)
            ∙ ap (λ (b : declared.Bounds). with_sums trip_sums b) (plus_exact enclosing sum sum_fits) in
            let blank = frame-blanked xs (length fs) (frames-length fs) room (bounds_of enclosing) passed in
            ap (λ (f : List opened.Frame). state_with (n + 1) (passed_around f (length fs) trip_sums)
            (record { counters = set (all_counters (counter_numbers fs ++ (j ∷ []))) d 0; frames = frame_left f (length fs); kept = kept_with []; arms = arms_of a })) frames
            ∙ (λ i. state_with (n + 1) (around i) (record { counters = counters-left i; frames = blank i; kept = kept-blank (kept_of ps fs) d kept depth i; arms = arms_of a }))
        trips-left true sum sum_fits walked kept_fits =
            let xs : List opened.Frame = frames_of ps fs in
            let held : List declared.Bounds = kept_with (each_of sums) in
            let come = kept_fits refl in
            let passed : Passed = passed_trips_of true sums in
            let frames : List opened.Frame = frames_with passed in
            let around = ap (λ (b : declared.Bounds). sums_around frames (length fs) b trip_sums) come.sum_is
            ∙ sums-around xs (length fs) (frames-length fs) room (bounds_of enclosing) passed (bounds_of sum) trip_sums
            ∙ ap (λ (b : declared.Bounds). with_sums trip_sums b) (plus_exact enclosing sum sum_fits) in
            let blank = frame-blanked xs (length fs) (frames-length fs) room (bounds_of enclosing) passed in
            let forgotten-trips = forgets come.counted come.fitting in
            ap (λ (m : ℕ). state_with (n + 1)
            (sums_around frames (length fs) (trips_bounds trips m (first_trips held d m (bounds_of trip))) trip_sums)
            (record { counters = set (all_counters (counter_numbers fs ++ (j ∷ []))) d 0; frames = frame_left frames (length fs); kept = forgotten held d m; arms = arms_of a })) (held-is come.low)
            ∙ (λ i. state_with (n + 1) (around i) (record { counters = counters-left i; frames = blank i; kept = forgotten-trips i; arms = arms_of a }))

        -- ---- the same of the state

        -- each trip before is kept, where this trip is open, and where the next one is
        abbrev each_now : Bool
        each_now = keeps_each ps l (tree body) (ranges_of ps fs) j

        abbrev each_next : Bool
        each_next = keeps_each ps l (tree body) (ranges_of ps fs) (suc j)

        outer-depth : d + 1 - 1 ≡ d
        outer-depth = omega arith

        module _ (each : Bool) (now : each_now ≡ each) (limit : limit_now limits (loop_at rows q) d j ≡ limit_for each h) where
          abbrev here : State
          here = standing n c v (loop_frame l body j sums enclosing ∷ fs) a

          ends : pass_loop rows differences limits (d + 1) here
              ≡ end_trip_where rows (d + 1) (next (limit_for each h)) is_ranked q (limit_for each h) trips trip_sums (in_trip each n c v j sums a)
          unfolding open_of frames_of counter_numbers kept_of
          ends = ap (λ (x : Bool). pass_loop rows differences limits (d + 1) (in_trip x n c v j sums a)) now ∙ trip-ends each limit

          -- a further trip opens
          pub next-trip-opens : next (limit_for each h) ≡ further_trip → each_next ≡ each → suc v < 2 ^ 64 → (each ≡ false → Fits (add_all sums ⊕ trip)) →
              (each ≡ true → (length sums ≡ j) × (j + 1 ≤ kept_room d)) → (p : KeptArms) → arms_of a ≡ arms_of p →
              pass_loop rows differences limits (d + 1) here
              ≡ begins (d + 1) (standing (q + 1) (exactly zero) (suc v) (loop_frame l body (suc j) (add_trip each sums trip) enclosing ∷ fs) p)
          unfolding open_of frames_of counter_numbers kept_of end_trip_where
          next-trip-opens more later few walked kept_fits p same =
              ends
              ∙ ap (λ (x : AfterTrip). end_trip_where rows (d + 1) x is_ranked q (limit_for each h) trips trip_sums (in_trip each n c v j sums a)) more
              ∙ (λ i. begins (d + 1) (state_with (q + 1) (visit_begins trip_sums) (next_parts (outer-depth i) (frame i) (bounds_of trip) (open_in_trip each j sums a) (limit_for each h))))
              ∙ ap (begins (d + 1)) (trip-follows each few walked kept_fits p same)
              ∙ ap (λ (x : Bool). begins (d + 1) (in_trip x (q + 1) (exactly zero) (suc v) (suc j) (add_trip each sums trip) p)) (sym later)

          -- it opens with the choices found unsettled
          pub unsettled-trip-opens : next (limit_for each h) ≡ unsettled_trip → each ≡ true → each_next ≡ false → suc v < 2 ^ 64 → Fits (add_all sums ⊕ trip) →
              TripsCome (suc j) (add_all sums ⊕ trip) → arm_total (trips_kept a) ≤ kept_arms_limit →
              pass_loop rows differences limits (d + 1) here
              ≡ begins (d + 1) (standing (q + 1) (exactly zero) (suc v) (loop_frame l body (suc j) (add_trip false sums trip) enclosing ∷ fs) no_arms)
          unfolding open_of frames_of counter_numbers kept_of end_trip_where limit_for
          unsettled-trip-opens more keeps later few sum_fits come little =
              ends
              ∙ ap (λ (x : AfterTrip). end_trip_where rows (d + 1) x is_ranked q (limit_for each h) trips trip_sums (in_trip each n c v j sums a)) more
              ∙ (λ i. begins (d + 1) (state_with (q + 1) (visit_begins trip_sums) (unsettled_parts (outer-depth i) (frame i) (bounds_of trip) (open_in_trip (keeps i) j sums a) (limit_for (keeps i) h))))
              ∙ ap (begins (d + 1)) (trip-unsettled few sum_fits come little)
              ∙ ap (λ (x : Bool). begins (d + 1) (in_trip x (q + 1) (exactly zero) (suc v) (suc j) (add_trip false sums trip) no_arms)) (sym later)

          -- the loop is left
          pub loop-left : next (limit_for each h) ≡ loop_left → (sum : Bounds) → Fits (enclosing ⊕ sum) →
              (each ≡ false → Fits (add_all sums ⊕ trip) × (add_all (add_trip false sums trip) ≡ sum)) → (each ≡ true → TripsCome trips sum) →
              (is_ranked ≡ true → arm_total (trips_kept a) ≤ kept_arms_limit) →
              pass_loop rows differences limits (d + 1) here ≡ goes_on d (standing (n + 1) (enclosing ⊕ sum) v fs (cond is_ranked no_arms a))
          unfolding open_of end_trip_where
          loop-left more sum sum_fits walked kept_fits few =
              ends
              ∙ ap (λ (x : AfterTrip). end_trip_where rows (d + 1) x is_ranked q (limit_for each h) trips trip_sums (in_trip each n c v j sums a)) more
              ∙ (λ i. goes_on (outer-depth i) (state_with (n + 1) (left_sums (outer-depth i) (frame i) (bounds_of trip) (open_in_trip each j sums a) (limit_for each h) trips trip_sums)
              (arms_left is_ranked (left_parts (outer-depth i) (frame i) (bounds_of trip) (open_in_trip each j sums a) (limit_for each h)))))
              ∙ ap (λ (t : State). goes_on d (state_with t.at t.sums (arms_left is_ranked t.opened))) (trips-left each sum sum_fits walked kept_fits)
              ∙ ap (λ (opened : Open). goes_on d (state_with (n + 1) (sums_of (enclosing ⊕ sum) v) opened)) (arms-are-left (open_of ps fs a) refl few)
