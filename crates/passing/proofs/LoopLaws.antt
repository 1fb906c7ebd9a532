-- A loop's record and its end, passed step by step.
use Rattle.std.proofs.Common.{◌≡◌, ℕ, zero, suc, ◌+◌, ◌-◌, ◌/◌, ◌^◌, ◌<◌, ◌≤◌, min, Bool, true, false, cond, not, ◌&&◌, ltb, List, [], ◌∷◌, map, get_or, sym, refl, ap, ◌∙◌, add-one, arith, ltb-true}
use native.Mathlib.Nat.{min-eq_left}
use Rattle.whole.specs.Integer.{floor_remainder}
use Rattle.meaning.specs.Limits.{depth_limit, ceiling_limit}
use Rattle.meaning.proofs.Logic.{T_and, T→true, true→T, true-is-not-false}
use Rattle.newton.specs.declared.Weights.{Weights}
use Rattle.newton.specs.Weights.{weights_of, weighted_sum}
use Rattle.layout.specs.Loops.{ranked_at}
use Rattle.layout.specs.declared.rows.Role.{Role}
use Rattle.layout.proofs.Roles.{role-true, role-false}
use Rattle.layout.specs.Rows.{role_named, loop_role, role_at, second_at, entry_cost_at, after_end_at, opener_at, frame_at, loop_at}
use Rattle.ranking.specs.Body.{settled_at}
use Rattle.state.specs.declared.State.{State}
use Rattle.state.specs.declared.bounds.Bounds.{Bounds}
use Rattle.state.specs.declared.sums.Sums.{Sums}
use Rattle.state.specs.declared.open.Arms.{Arms}
use Rattle.state.specs.declared.open.Open.{Open}
use Rattle.state.specs.Bounds.{bounds, no_bounds}
use Rattle.state.specs.Open.{with_frames, with_kept, with_arms, counter_at, with_counter}
use Rattle.state.specs.Sums.{added, visit_begins}
use Rattle.state.specs.Frames.{frame_opened, frame_left, sums_around, passed_around, trip_passed}
use Rattle.state.specs.Kept.{trip_kept, held_trips, kept_sum, first_trips, trips_sum, forgotten}
use Rattle.state.specs.Arms.{arm_count_in, arms_dropped}
use Rattle.trips.specs.Trips.{trips_at, limit_within, visited_by}
use Rattle.state.specs.States.{state_with}
use Rattle.trips.proofs.TripLaws.{trips-few, limit-few, closed-visits}
use Rattle.passing.specs.declared.loops.Outcome.{Outcome}
use Rattle.passing.specs.Pass.{Passage, goes_on, begins, enter_with, enter_loop}
use Rattle.passing.specs.Pass.{summed_trips, trip_joined, next_parts, left_parts, left_sums, kept_joined, kept_dropped, arms_left, goes_unsettled}
use Rattle.passing.specs.Pass.{AfterTrip, further_trip, unsettled_trip, loop_left, end_trip_where, end_trip, end_trip_by, pass_loop_where, pass_loop}

-- the sum of n trips, from their weights and the first ones
sum-made : (n held : ℕ) {trips firsts : List ℕ} {w : Weights} {r : ℕ}
    → n ≤ ceiling_limit → w ≡ weights_of (min n ceiling_limit) (held + 1) → firsts ≡ trips → r ≡ floor_remainder (weighted_sum w firsts) (2 ^ 64)
    → r ≡ trips_sum n held trips
unfolding trips_sum
sum-made n held h e t r = let m : min n ceiling_limit ≡ n = min-eq_left h in cc

-- the first trips are four
first-four : (figure : Bounds → ℕ) (kept : List Bounds) (depth held : ℕ) (last : Bounds) (firsts : List Bounds) → firsts ≡ first_trips kept depth held last
    → figure (get_or firsts 0 no_bounds) ∷ figure (get_or firsts 1 no_bounds) ∷ figure (get_or firsts 2 no_bounds) ∷ figure (get_or firsts 3 no_bounds) ∷ []
    ≡ map figure (first_trips kept depth held last)
unfolding first_trips
first-four figure kept depth zero last firsts e = rw e refl
first-four figure kept depth (suc zero) last firsts e = rw e refl
first-four figure kept depth (suc (suc zero)) last firsts e = rw e refl
first-four figure kept depth (suc (suc (suc held))) last firsts e = rw e refl

pub trips-summed :
    (around : ℕ) (trip : Bounds) (parts : Open) (n held : ℕ) {w : Weights} (firsts : List Bounds) {least most : ℕ}
    → n ≤ ceiling_limit → w ≡ weights_of (min n ceiling_limit) (held + 1) → firsts ≡ first_trips parts.kept around held trip
    → least ≡ floor_remainder (weighted_sum w ((get_or firsts 0 no_bounds).least ∷ (get_or firsts 1 no_bounds).least ∷ (get_or firsts 2 no_bounds).least ∷ (get_or firsts 3 no_bounds).least ∷ [])) (2 ^ 64)
    → most ≡ floor_remainder (weighted_sum w ((get_or firsts 0 no_bounds).most ∷ (get_or firsts 1 no_bounds).most ∷ (get_or firsts 2 no_bounds).most ∷ (get_or firsts 3 no_bounds).most ∷ [])) (2 ^ 64)
    → bounds least most ≡ summed_trips around trip parts n held
unfolding summed_trips
trips-summed around trip parts n held firsts h e f u v =
    let least = sum-made n held h e (first-four (λ b. b.least) parts.kept around held trip firsts f) u in
    let most = sum-made n held h e (first-four (λ b. b.most) parts.kept around held trip firsts f) v in λ i. bounds (least i) (most i)

-- ---- the end of a trip

module _ (around frame : ℕ) (trip : Bounds) (parts : Open) where
  abbrev joined : ℕ → Open
  joined = trip_joined around frame trip parts

  abbrev restarted : Open
  restarted = with_counter parts around 0

  -- of a walked loop
  module _ {limit : ℕ} (walked : limit ≡ 0) where
    pub walked-joined : {after : Open} → after ≡ with_frames parts (trip_passed parts.frames frame trip) → after ≡ joined limit
    unfolding trip_joined
    walked-joined p = p ∙ ap joined (sym walked)

    pub walked-left :
        (n : ℕ) (sums : Sums) {start passed after : Open} {outside : Sums}
        → start ≡ restarted → passed ≡ with_frames start (trip_passed start.frames frame trip) → outside ≡ passed_around passed.frames frame sums
        → after ≡ with_frames passed (frame_left passed.frames frame)
        → (outside ≡ left_sums around frame trip parts limit n sums) × (after ≡ left_parts around frame trip parts limit)
    unfolding left_sums left_parts
    walked-left n sums {after = after} {outside = outside} p q r s =
        let o : outside ≡ left_sums around frame trip parts 0 n sums = cc in
        let a : after ≡ left_parts around frame trip parts 0 = cc in
        (o ∙ ap (λ (m : ℕ). left_sums around frame trip parts m n sums) (sym walked), a ∙ ap (left_parts around frame trip parts) (sym walked))

  -- of a closed loop
  module _ {counter : ℕ} (counts : counter ≡ counter_at parts around) (limit : ℕ) (closed : limit ≡ 0 → ⊥) where
    positive : limit ≡ suc (limit - 1)
    positive = omega arith

    pub closed-joined : {after : Open} → after ≡ with_kept parts (trip_kept parts.kept around counter trip) → after ≡ joined limit
    unfolding trip_joined
    closed-joined {after} p = let e : after ≡ joined (suc (limit - 1)) = cc in e ∙ ap joined (sym positive)

    pub closed-left :
        (n : ℕ) (sums : Sums) {start forgot after : Open} {held : ℕ} {summed : Bounds} {outside : Sums}
        → start ≡ restarted → held ≡ min counter (limit - 1) → summed ≡ summed_trips around trip start n held
        → forgot ≡ with_kept start (forgotten start.kept around held)
        → outside ≡ sums_around forgot.frames frame summed sums
        → after ≡ with_frames forgot (frame_left forgot.frames frame)
        → (outside ≡ left_sums around frame trip parts limit n sums) × (after ≡ left_parts around frame trip parts limit)
    unfolding left_sums left_parts held_trips summed_trips
    closed-left n sums {start} {forgot} {after} {held} {summed} {outside} p k u f o a =
        let same : suc (limit - 1) - 1 ≡ limit - 1 = omega arith in
        let h : ℕ = held_trips (suc (limit - 1)) (counter_at parts around) in
        let held-is : held ≡ h = k ∙ (λ i. min (counts i) (sym same i)) in
        let forgot-is : forgot ≡ with_kept restarted (forgotten parts.kept around h) = f ∙ (λ i. with_kept (p i) (forgotten (p i).kept around (held-is i))) in
        let summed-is : summed ≡ summed_trips around trip parts n h = u ∙ (λ i. summed_trips around trip (p i) n (held-is i)) in
        let q : outside ≡ left_sums around frame trip parts (suc (limit - 1)) n sums = o ∙ (λ i. sums_around (forgot-is i).frames frame (summed-is i) sums) in
        let r : after ≡ left_parts around frame trip parts (suc (limit - 1)) = a ∙ (λ i. with_frames (forgot-is i) (frame_left (forgot-is i).frames frame)) in
        (q ∙ ap (λ (m : ℕ). left_sums around frame trip parts m n sums) (sym positive), r ∙ ap (left_parts around frame trip parts) (sym positive))

-- of a loop whose kept trips join the open one
module _ (around held : ℕ) (parts : Open) where
  pub kept-joins : (sums : Sums) {kept : Bounds} {after : Sums} → kept ≡ kept_sum parts.kept around held → after ≡ added sums kept → after ≡ kept_joined around held parts sums
  unfolding kept_joined
  kept-joins sums k a = a ∙ ap (added sums) k

  pub kept-drops :
      {forgot : Open} {dropped : Arms} → forgot ≡ with_kept parts (forgotten parts.kept around held) → dropped ≡ arms_dropped forgot.arms
      → with_arms forgot dropped ≡ kept_dropped around held parts
  unfolding kept_dropped
  kept-drops {forgot} f a = ap (with_arms forgot) a ∙ ap (λ (p : Open). with_arms p (arms_dropped p.arms)) f

-- ---- whether the choices are unsettled, test by test

module _ (rows : List ℕ) (opener n counter : ℕ) (arms : Arms) where
  abbrev goes : Bool
  goes = goes_unsettled rows true opener n counter arms

  module _ {b : Bool} (f : b ≡ ltb (suc counter) n) where
    pub last-settles : b ≡ false → false ≡ goes
    unfolding goes_unsettled
    last-settles e = cc

    pub asks-settled :
        {count : ℕ} {answer : Bool} → b ≡ true → count ≡ arm_count_in arms
        → answer ≡ settled_at rows opener arms.bounds (counter + 1) (count / (counter + 1)) → not answer ≡ goes
    unfolding goes_unsettled
    asks-settled e c a = cc (add-one counter)

  -- some trip follows an unsettled one
  pub unsettled-follows : {u : Bool} → u ≡ goes → u ≡ true → suc counter < n
  unfolding goes_unsettled
  unsettled-follows e t =
      ltb-true (suc counter) n (T→true (ltb (suc counter) n) (T_and (ltb (suc counter) n) unsettled (true→T (ltb (suc counter) n && unsettled) (sym e ∙ t))).0)
    where
      unsettled : Bool
      unsettled = not (settled_at rows opener arms.bounds (suc counter) (arm_count_in arms / suc counter))

-- ---- which trip follows

-- a further trip's counter: above it there is one more, and of a closed loop the trips before it have room
pub counts-on : (counter visited : ℕ) {b : Bool} → b ≡ ltb (suc counter) visited → b ≡ true → suc counter < visited
counts-on counter visited e t = ltb-true (suc counter) visited (sym e ∙ t)

-- a loop's limit and the loops around it
pub limit-below :
    (limits : List ℕ) (number depth : ℕ) (walked : Bool) {around limit : ℕ} → depth ≤ depth_limit → around ≡ depth - 1
    → limit ≡ cond walked 0 (limit_within limits number around) → limit + around ≤ depth_limit
limit-below limits number depth walked {around} h d l = let few = limit-few limits number around walked (omega arith) in omega arith

pub has_room :
    (counter n around : ℕ) {limit visited : ℕ} {b : Bool}
    → limit + around ≤ depth_limit → visited ≡ visited_by limit n → b ≡ ltb (suc counter) visited → b ≡ true
    → (limit ≡ 0 → ⊥) → suc (around + counter) < depth_limit
has_room counter n around {limit} {visited} l v e t closed =
    let h = counts-on counter visited e t in let m = closed-visits limit n closed in omega arith

-- what leaving a loop asks
pub leaves-within :
    (differences counters : List ℕ) (number depth limit : ℕ) {around n : ℕ}
    → depth ≤ depth_limit → around ≡ depth - 1 → n ≡ trips_at differences counters number → limit + around ≤ depth_limit
    → (around < depth_limit) × ((limit + around ≤ depth_limit) × (n ≤ ceiling_limit))
leaves-within differences counters number depth limit h d t l = let few = trips-few differences counters number in omega arith

module _ (rows differences limits : List ℕ) (depth : ℕ) (walked : Bool) (s : State) {whole : Passage}
    {opener frame number around n limit step counter visited : ℕ} {inside : Sums} {b : Bool}
    (w : whole ≡ end_trip_by rows differences limits depth (cond walked 0 (limit_within limits (loop_at rows (opener_at rows s.at)) (depth - 1))) s)
    (o : opener ≡ opener_at rows s.at) (f : frame ≡ frame_at rows opener) (j : number ≡ loop_at rows opener) (d : around ≡ depth - 1)
    (t : n ≡ trips_at differences s.opened.counters number) {added_step : Bounds} (p : step ≡ second_at rows opener) (x : added_step ≡ bounds step step)
    (a : inside ≡ added s.sums added_step) (c : counter ≡ counter_at s.opened around) (l : limit ≡ cond walked 0 (limit_within limits number around))
    (v : visited ≡ visited_by limit n) (e : b ≡ ltb (suc counter) visited) where
  abbrev ends : AfterTrip → Bool → Passage
  ends next ranked = end_trip_where rows depth next ranked opener limit n inside s

  trip-ends : {ranked : Bool} → ranked ≡ ranked_at limits number → whole ≡ ends (cond b further_trip loop_left) ranked
  unfolding end_trip_by
  trip-ends r = cc

  pub trip-follows :
      {passed counted : Open} {after : State} → b ≡ true → passed ≡ trip_joined around frame inside.passed s.opened limit
      → counted ≡ with_counter passed around (counter + 1) → after ≡ state_with (opener + 1) (visit_begins inside) counted
      → whole ≡ begins depth after
  unfolding end_trip_where next_parts
  trip-follows h q r z =
      trip-ends refl ∙ ap (λ (b : Bool). ends (cond b further_trip loop_left) (ranked_at limits number)) h ∙ cc

  pub trip-leaves :
      {ranked : Bool} {left : State} {after : Open} → b ≡ false
      → left ≡ state_with s.at (left_sums around frame inside.passed s.opened limit n inside) (left_parts around frame inside.passed s.opened limit)
      → ranked ≡ ranked_at limits number → after ≡ arms_left ranked left.opened
      → whole ≡ goes_on around (state_with (left.at + 1) left.sums after)
  unfolding end_trip_where
  trip-leaves {ranked} {left} {after} h q r k =
      let left-is :
      left ≡ state_with s.at (left_sums (depth - 1) (frame_at rows opener) inside.passed s.opened limit n inside) (left_parts (depth - 1) (frame_at rows opener) inside.passed s.opened limit) =
      q ∙ (λ i. state_with s.at (left_sums (d i) (f i) inside.passed s.opened limit n inside) (left_parts (d i) (f i) inside.passed s.opened limit)) in
      let after-is = k ∙ ap (λ (x : State). arms_left ranked x.opened) left-is in
      trip-ends r ∙ ap (λ (b : Bool). ends (cond b further_trip loop_left) ranked) h
      ∙ sym (λ i. goes_on (d i) (state_with ((left-is i).at + 1) (left-is i).sums (after-is i)))

-- the answer where a trip opens
pub trip-answered :
    {p : Passage} {depth : ℕ} {after : State} {answer : Outcome} → p ≡ begins depth after → answer ≡ record { depth = depth; begun = true }
    → p ≡ record { begun = answer.begun; depth = answer.depth; after = after }
trip-answered e r = cc

-- ---- a loop's record

module _ (rows differences : List ℕ) (depth : ℕ) (s : State)
    {number n cost : ℕ} {inside : Sums} {paid : Bounds}
    (j : number ≡ loop_at rows s.at) (t : n ≡ trips_at differences s.opened.counters number) (p : cost ≡ entry_cost_at rows s.at n)
    (x : paid ≡ bounds cost cost) (a : inside ≡ added s.sums paid) where
  starts : enter_loop rows differences depth s ≡ enter_with rows n inside depth s
  unfolding enter_loop
  starts = cc

  pub enters_none : {next : ℕ} → n ≡ 0 → next ≡ after_end_at rows s.at → enter_loop rows differences depth s ≡ goes_on depth (state_with next inside s.opened)
  unfolding enter_with
  enters_none z e = starts ∙ ap (λ (m : ℕ). enter_with rows m inside depth s) z ∙ cc

  pub enters-some :
      {frame : ℕ} {opened : Open} {after : State} → (n ≡ 0 → ⊥) → frame ≡ frame_at rows s.at
      → opened ≡ with_frames s.opened (frame_opened s.opened.frames frame inside.passed) → after ≡ state_with (s.at + 1) (visit_begins inside) opened
      → enter_loop rows differences depth s ≡ begins (depth + 1) after
  unfolding enter_with
  enters-some h f q v =
      let m : n ≡ suc (n - 1) = omega arith in
      starts ∙ ap (λ (m : ℕ). enter_with rows m inside depth s) m ∙ cc

-- ---- either

module _ (rows differences limits : List ℕ) (depth : ℕ) (s : State) {role : Role} (named : role ≡ role_named (role_at rows s.at)) where
  pub at-loop : role ≡ loop_role → pass_loop rows differences limits depth s ≡ enter_loop rows differences depth s
  unfolding pass_loop pass_loop_where
  at-loop e = ap (λ (b : Bool). pass_loop_where rows differences limits depth b s) (sym (role-true loop_role refl (role_at rows s.at) named e))

  pub at-end : (role ≡ loop_role → ⊥) → pass_loop rows differences limits depth s ≡ end_trip rows differences limits depth s
  unfolding pass_loop pass_loop_where
  at-end h = ap (λ (b : Bool). pass_loop_where rows differences limits depth b s) (sym (role-false loop_role refl (role_at rows s.at) named h))

-- ---- the depth

-- where no visit begins the depth that is reached is no larger
module _ (rows differences limits : List ℕ) (depth : ℕ) (s : State) where
  -- no visit begins here
  abbrev Shallow : Passage → Type 0
  Shallow p = p.begun ≡ false → p.depth ≤ depth

  ends-shallow : (next : AfterTrip) (ranked : Bool) (opener limit n : ℕ) (sums : Sums) → Shallow (end_trip_where rows depth next ranked opener limit n sums s)
  unfolding end_trip_where
  ends-shallow further_trip ranked opener limit n sums h = true-is-not-false h
  ends-shallow unsettled_trip ranked opener limit n sums h = true-is-not-false h
  ends-shallow loop_left ranked opener limit n sums h = omega arith

  enters-shallow : (n : ℕ) (sums : Sums) → Shallow (enter_with rows n sums depth s)
  unfolding enter_with
  enters-shallow zero sums h = omega arith
  enters-shallow (suc n) sums h = true-is-not-false h

  either-shallow : (b : Bool) → Shallow (pass_loop_where rows differences limits depth b s)
  unfolding pass_loop_where enter_loop end_trip
  either-shallow true = enters-shallow _ _
  either-shallow false = ends-shallow _ _ _ _ _ _

  pub shallow : Shallow (pass_loop rows differences limits depth s)
  unfolding pass_loop
  shallow = either-shallow _
