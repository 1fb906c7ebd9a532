-- Passing a record, on a plan's numbers.
use Rattle.std.specs.Prelude.{ℕ, zero, suc, ◌+◌, ◌-◌, ◌/◌, Bool, true, false, cond, not, ◌&&◌, List, ◌==◌, nat_lt}
use Rattle.meaning.specs.Limits.{depth_limit}
use Rattle.layout.specs.Rows.{role_number, straight_role, loop_role, end_role, choice_role}
use Rattle.layout.specs.Rows.{role_at, first_at, second_at, entry_cost_at, after_end_at, enclosing_at, opener_at, frame_at, depth_at, loop_at}
use Rattle.layout.specs.Loops.{ranked_at}
use Rattle.ranking.specs.Body.{settled_at}
use Rattle.state.specs.declared.State.{State}
use Rattle.state.specs.declared.bounds.Bounds.{Bounds}
use Rattle.state.specs.declared.sums.Sums.{Sums}
use Rattle.state.specs.declared.open.Frame.{Frame}
use Rattle.state.specs.declared.open.Arms.{Arms}
use Rattle.state.specs.declared.open.Open.{Open}
use Rattle.state.specs.Bounds.{bounds, wrapped_sum}
use Rattle.state.specs.Open.{with_frames, with_kept, with_arms, counter_at, with_counter}
use Rattle.state.specs.Sums.{with_sums, added, from_zero, visit_begins}
use Rattle.state.specs.Frames.{frame_opened, frame_left, sums_around, passed_around, arm_passed, trip_passed}
use Rattle.state.specs.Kept.{trip_kept, held_trips, kept_sum, first_trips, trips_bounds, forgotten}
use Rattle.state.specs.Arms.{arm_count_in, arm_kept, arms_dropped}
use Rattle.state.specs.States.{state_with}
use Rattle.trips.specs.Trips.{trips_at, limit_within, limit_now, visited_by}

-- what passing comes to: whether a visit begins, how many loops are open then, and the state
pub record Passage : Type 0 where
  pub begun : Bool
  pub depth : ℕ
  pub after : State

abbrev pub goes_on : ℕ → State → Passage
goes_on depth s = record { begun = false; depth = depth; after = s }

abbrev pub begins : ℕ → State → Passage
begins depth s = record { begun = true; depth = depth; after = s }

-- the same at the next record
abbrev pub at_next : State → State
at_next s = state_with (s.at + 1) s.sums s.opened

-- ---- straight work

-- where it ends, and the least and the most with its own
pub record StraightWork : Type 0 where
  pub at : ℕ
  pub least : ℕ
  pub most : ℕ

abbrev pub straight_work : ℕ → ℕ → ℕ → StraightWork
straight_work at least most = record { at = at; least = least; most = most }

module _ (rows : List ℕ) where
  -- a straight record is passed and what `further` says follows; another record is not
  unfoldable pub straight_work_on : Bool → (ℕ → ℕ → ℕ → StraightWork) → ℕ → ℕ → ℕ → StraightWork
  straight_work_on true further at least most = further (at + 1) (wrapped_sum least (first_at rows at)) (wrapped_sum most (second_at rows at))
  straight_work_on false further at least most = straight_work at least most

  -- from record `at` on, at most so many records
  unfoldable pub straight_work_from : ℕ → ℕ → ℕ → ℕ → StraightWork
  straight_work_from zero at least most = straight_work at least most
  straight_work_from (suc many) at least most =
      straight_work_on (role_at rows at == role_number straight_role) (λ next l m. straight_work_from many next l m) at least most

  -- from where the state stands on, before record `count`
  unfoldable pub pass_straight_work : ℕ → State → State
  pass_straight_work count s =
      let w : StraightWork = straight_work_from (count - s.at) s.at s.sums.passed.least s.sums.passed.most in
      state_with w.at (with_sums s.sums (bounds w.least w.most)) s.opened

  -- ---- choices

  -- a choice opens its first arm
  unfoldable pub open_choice : State → State
  open_choice s =
      state_with (s.at + 1) (from_zero s.sums) (with_frames s.opened (frame_opened s.opened.frames (frame_at rows s.at) s.sums.passed))

  -- the open arm of the choice with a frame is left: at a next arm another opens, at the choice's end the arms passed go to what is around it
  unfoldable pub leave_arm : Bool → ℕ → State → State
  leave_arm false frame s = state_with (s.at + 1) (from_zero s.sums) (with_frames s.opened (arm_passed s.opened.frames frame s.sums.passed))
  leave_arm true frame s =
      let frames : List Frame = arm_passed s.opened.frames frame s.sums.passed in
      state_with (s.at + 1) (passed_around frames frame s.sums) (with_frames s.opened (frame_left frames frame))

  module _ (limits : List ℕ) where
    -- whether the arms of a choice are kept: it stands directly in a trip of a ranked loop, one of the first
    unfoldable pub keeps_arms_at : ℕ → Open → Bool
    keeps_arms_at choice parts =
        let around : ℕ = opener_at rows choice in
        let depth : ℕ = depth_at rows around in
        ranked_at limits (loop_at rows around)
        && (not (enclosing_at rows choice == 0)
        && (role_at rows around == role_number loop_role
        && (nat_lt depth depth_limit && nat_lt (counter_at parts depth) (limit_within limits (loop_at rows around) depth))))

    -- the open arm of a choice is kept, where its arms are
    unfoldable pub open_arm_kept : ℕ → Bounds → Open → Open
    open_arm_kept choice arm parts = cond (keeps_arms_at choice parts) (with_arms parts (arm_kept parts.arms arm)) parts

    -- and joins the arms passed of its choice, where the state stands at the record that ends it
    abbrev pub open_arm_joined : State → State
    open_arm_joined s =
        let choice : ℕ = opener_at rows s.at in
        let kept : Open = open_arm_kept choice s.sums.passed s.opened in
        state_with s.at s.sums (with_frames kept (arm_passed kept.frames (frame_at rows choice) s.sums.passed))

    unfoldable pub pass_choice_where : Bool → State → State
    pass_choice_where true s = open_choice s
    pass_choice_where false s =
        let choice : ℕ = opener_at rows s.at in
        leave_arm (role_at rows s.at == role_number end_role) (frame_at rows choice)
        (state_with s.at s.sums (open_arm_kept choice s.sums.passed s.opened))

    -- a choice, a next arm or a choice's end
    unfoldable pub pass_choice : State → State
    pass_choice s = pass_choice_where (role_at rows s.at == role_number choice_role) s

  -- ---- loops

  -- whether a record is a loop or a loop's end
  unfoldable pub is_of_loop : ℕ → Bool
  is_of_loop number =
      cond (role_at rows number == role_number end_role) (role_at rows (opener_at rows number) == role_number loop_role)
      (role_at rows number == role_number loop_role)

  -- a loop that makes so many trips, what entering it costs added: with no trip the stage goes on after its end, otherwise the first trip opens
  unfoldable pub enter_with : ℕ → Sums → ℕ → State → Passage
  enter_with zero sums depth s = goes_on depth (state_with (after_end_at rows s.at) sums s.opened)
  enter_with (suc n) sums depth s =
      begins (depth + 1)
      (state_with (s.at + 1) (visit_begins sums) (with_frames s.opened (frame_opened s.opened.frames (frame_at rows s.at) sums.passed)))

  unfoldable pub enter_loop : List ℕ → ℕ → State → Passage
  enter_loop differences depth s =
      let n : ℕ = trips_at differences s.opened.counters (loop_at rows s.at) in
      enter_with n (added s.sums (bounds (entry_cost_at rows s.at n) (entry_cost_at rows s.at n))) depth s

-- the sums of n trips of a loop with so many loops around it, from the first ones: `held` kept ones, and the open one
unfoldable pub summed_trips : ℕ → Bounds → Open → ℕ → ℕ → Bounds
summed_trips around trip parts n held = trips_bounds n held (first_trips parts.kept around held trip)

-- The end of a trip of a loop with its limit, so many loops around it and its frame, and its open trip, the step added.
module _ (around frame : ℕ) (trip : Bounds) (parts : Open) where
  -- the open trip joins those visited before if the loop is walked, otherwise it is kept
  unfoldable pub trip_joined : ℕ → Open
  trip_joined zero = with_frames parts (trip_passed parts.frames frame trip)
  trip_joined (suc limit) = with_kept parts (trip_kept parts.kept around (counter_at parts around) trip)

  -- what is open where a further trip opens
  unfoldable pub next_parts : ℕ → Open
  next_parts limit = with_counter (trip_joined limit) around (counter_at parts around + 1)

  -- what is open where the loop goes on unsettled: the sum of the trips visited, and none of their arms
  unfoldable pub unsettled_parts : ℕ → Open
  unsettled_parts limit =
      let counter : ℕ = counter_at parts around in
      let held : ℕ = held_trips limit counter in
      with_arms
      (with_kept (with_frames (with_counter parts around (counter + 1)) (trip_passed parts.frames frame (summed_trips around trip parts (suc counter) held)))
      (forgotten parts.kept around held))
      (arms_dropped parts.arms)

  -- what is open where the loop is left
  unfoldable pub left_parts : ℕ → Open
  left_parts zero = with_frames (with_counter parts around 0) (frame_left (trip_passed parts.frames frame trip) frame)
  left_parts (suc limit) =
      with_kept (with_frames (with_counter parts around 0) (frame_left parts.frames frame))
      (forgotten parts.kept around (held_trips (suc limit) (counter_at parts around)))

  -- and the sum of its n trips goes to what is around it
  unfoldable pub left_sums : ℕ → ℕ → Sums → Sums
  left_sums zero n sums = passed_around (trip_passed parts.frames frame trip) frame sums
  left_sums (suc limit) n sums =
      sums_around parts.frames frame (summed_trips around trip parts n (held_trips (suc limit) (counter_at parts around))) sums

-- the kept trips of a loop join the open one, which has these sums
unfoldable pub kept_joined : ℕ → ℕ → Open → Sums → Sums
kept_joined around held parts sums = added sums (kept_sum parts.kept around held)

-- none of them is kept then, and none of their arms
unfoldable pub kept_dropped : ℕ → ℕ → Open → Open
kept_dropped around held parts = with_arms (with_kept parts (forgotten parts.kept around held)) (arms_dropped parts.arms)

-- the arms of a ranked loop that is left are dropped
unfoldable pub arms_left : Bool → Open → Open
arms_left ranked parts = cond ranked (with_arms parts (arms_dropped parts.arms)) parts

-- what follows a trip of a loop: a further trip, one with the choices found unsettled, or what follows the loop
pub data AfterTrip : Type 0 where
  further_trip unsettled_trip loop_left : AfterTrip

-- whether the choices of loop `opener`, if it is ranked, are unsettled after the trip that the counter counts, and some of its n trips follow
unfoldable pub goes_unsettled : List ℕ → Bool → ℕ → ℕ → ℕ → Arms → Bool
goes_unsettled rows ranked opener n counter arms =
    ranked && (nat_lt (suc counter) n && not (settled_at rows opener arms.bounds (suc counter) (arm_count_in arms / suc counter)))

-- Where so many loops are open: of these the innermost ends, and one less are around it.
module _ (rows : List ℕ) (depth : ℕ) where
  -- the end of loop `opener`, with n trips
  unfoldable pub end_trip_where : AfterTrip → Bool → ℕ → ℕ → ℕ → Sums → State → Passage
  end_trip_where further_trip ranked opener limit n sums s =
      begins depth (state_with (opener + 1) (visit_begins sums) (next_parts (depth - 1) (frame_at rows opener) sums.passed s.opened limit))
  end_trip_where unsettled_trip ranked opener limit n sums s =
      begins depth (state_with (opener + 1) (visit_begins sums) (unsettled_parts (depth - 1) (frame_at rows opener) sums.passed s.opened limit))
  end_trip_where loop_left ranked opener limit n sums s =
      goes_on (depth - 1)
      (state_with (s.at + 1) (left_sums (depth - 1) (frame_at rows opener) sums.passed s.opened limit n sums)
      (arms_left ranked (left_parts (depth - 1) (frame_at rows opener) sums.passed s.opened limit)))

module _ (rows differences limits : List ℕ) (depth : ℕ) where
  unfoldable pub end_trip : State → Passage
  end_trip s =
      let opener : ℕ = opener_at rows s.at in
      let n : ℕ = trips_at differences s.opened.counters (loop_at rows opener) in
      let counter : ℕ = counter_at s.opened (depth - 1) in
      let limit : ℕ = limit_now limits (loop_at rows opener) (depth - 1) counter in
      let ranked : Bool = ranked_at limits (loop_at rows opener) in
      let next : AfterTrip =
      cond (nat_lt (suc counter) (visited_by limit n)) further_trip
      (cond (goes_unsettled rows ranked opener n counter s.opened.arms) unsettled_trip loop_left) in
      end_trip_where rows depth next ranked opener limit n (added s.sums (bounds (second_at rows opener) (second_at rows opener))) s

  -- the same of a loop that is walked or closed, with this limit: a further trip opens, or the loop is left
  unfoldable pub end_trip_by : ℕ → State → Passage
  end_trip_by limit s =
      let opener : ℕ = opener_at rows s.at in
      let n : ℕ = trips_at differences s.opened.counters (loop_at rows opener) in
      let next : AfterTrip = cond (nat_lt (suc (counter_at s.opened (depth - 1))) (visited_by limit n)) further_trip loop_left in
      end_trip_where rows depth next (ranked_at limits (loop_at rows opener)) opener limit n (added s.sums (bounds (second_at rows opener) (second_at rows opener))) s

  unfoldable pub pass_loop_where : Bool → State → Passage
  pass_loop_where true s = enter_loop rows differences depth s
  pass_loop_where false s = end_trip s

  -- a loop's record, or its end, where so many loops are open
  unfoldable pub pass_loop : State → Passage
  pass_loop s = pass_loop_where (role_at rows s.at == role_number loop_role) s
