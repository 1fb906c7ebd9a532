-- States and stages.
use Rattle.std.specs.Prelude.{List, [], ◌∷◌, ◌++◌, Bool, true, false, ◌&&◌, ◌||◌, cond, ℕ, zero, suc, ◌+◌, min, ℤ, leb, ltb, length}
use Rattle.std.proofs.Math.Option.{Option, none, some}
use Rattle.meaning.specs.Record.{Loop, Record, work_record, loop_record, end_record, choice_record, next_arm_record}
use Rattle.meaning.specs.Tree.{Block, tree, height}
use Rattle.meaning.specs.Time.{entry_cost, Bounds, bounds, exactly, ◌⊕◌, hull, trips, inner_indexes}
use Rattle.meaning.specs.Range.{Range, inner_ranges}
use Rattle.meaning.specs.Closed.{closed, ranked}
use Rattle.meaning.specs.ClosedSum.{loop_sum, add_trip}
use Rattle.meaning.specs.Settled.{all_settled, choices_of}

-- What is open. A trip of a loop: the loop, the records after the loop's own, the counter (trips begun before this one) and the visited
-- trips, as far as the sum needs them. An arm of a choice: the arms already passed. Both: what was passed just around.
pub data Frame : Type 0 where
  loop_frame : (l : Loop) (body : List Record) (counter : ℕ) (visited_sums : List Bounds) (enclosing : Bounds) → Frame
  choice_frame : (passed_arms : Option Bounds) (enclosing : Bounds) → Frame

-- Of the ranked loop that is open, if one is, in its first trips, which decide: the least and the most of each arm of its choices, in the order
-- in which they are passed, in each of its passed trips and in the open one. Around a ranked loop all loops are walked and
-- in it all are closed, so no two are open.
pub record KeptArms : Type 0 where
  pub passed_trips : List (List Bounds)
  pub open_trip : List Bounds

abbrev pub kept_arms : List (List Bounds) → List Bounds → KeptArms
kept_arms passed_trips open_trip = record { passed_trips = passed_trips; open_trip = open_trip }

abbrev pub no_arms : KeptArms
no_arms = kept_arms [] []

-- document 01: state. Where it stands (the records still to pass), what was passed in the innermost open trip or arm, or else in the
-- sheet, what is open, innermost first, and the visits so far.
pub record State : Type 0 where
  pub remaining : List Record
  pub current : Bounds
  pub frames : List Frame
  pub arms : KeptArms
  pub visits : ℕ

abbrev pub state_keeping : KeptArms → List Record → Bounds → List Frame → ℕ → State
state_keeping arms remaining current frames visits = record { remaining = remaining; current = current; frames = frames; arms = arms; visits = visits }

-- no arms kept
abbrev pub state : List Record → Bounds → List Frame → ℕ → State
state remaining current frames visits = state_keeping no_arms remaining current frames visits

-- "The first state stands at the sheet's start with sums and visits 0"
unfoldable pub first_state : List Record → State
first_state rs = state rs (exactly zero) [] zero

-- what follows the end of what is open, `inside` further things being open in it
unfoldable pub after_end : ℕ → List Record → List Record
after_end inside [] = []
after_end inside (work_record least most ∷ rs) = after_end inside rs
after_end inside (loop_record l ∷ rs) = after_end (suc inside) rs
after_end zero (end_record ∷ rs) = rs
after_end (suc inside) (end_record ∷ rs) = after_end inside rs
after_end inside (choice_record ∷ rs) = after_end (suc inside) rs
after_end inside (next_arm_record ∷ rs) = after_end inside rs

-- the arms passed, with one more: the smallest least and the largest most
unfoldable pub add_arm : Option Bounds → Bounds → Bounds
add_arm none b = b
add_arm (some passed) b = hull passed b

-- one more arm passed in the open trip, where it is kept
unfoldable pub keep_arm : Bool → KeptArms → Bounds → KeptArms
keep_arm true arms b = kept_arms arms.passed_trips (arms.open_trip ++ (b ∷ []))
keep_arm false arms b = arms

-- the trips whose arms are kept, at the end of the open one
unfoldable pub trips_kept : KeptArms → List (List Bounds)
trips_kept arms = arms.passed_trips ++ (arms.open_trip ∷ [])

-- what passing one record comes to: a state from which the stage goes on, the beginning of a visit, the sheet's end, or a state in which
-- no record can be passed, which no stage reaches
pub data Step : Type 0 where
  going : State → Step
  begins_visit : State → Step
  at_end : State → Step
  stuck : State → Step

unfoldable pub state_of : Step → State
state_of (going s) = s
state_of (begins_visit s) = s
state_of (at_end s) = s
state_of (stuck s) = s

-- 1 where a visit begins
unfoldable pub visit_begun : Step → ℕ
visit_begun (going s) = 0
visit_begun (begins_visit s) = 1
visit_begun (at_end s) = 0
visit_begun (stuck s) = 0

unfoldable pub and_on : (State → Step) → Step → Step
and_on f (going s) = f s
and_on f (begins_visit s) = begins_visit s
and_on f (at_end s) = at_end s
and_on f (stuck s) = stuck s

-- a loop's end: a further trip opens in the same way, or the loop is left and the sum of its trips goes to what is around it
unfoldable pub end_trip : Bool → State → State → Step
end_trip true next left = begins_visit next
end_trip false next left = going left

module _ (parameters : List ℤ) where
  -- the indexes and the ranges of the open loops, outermost first
  unfoldable pub indexes_of : List Frame → List ℤ
  indexes_of [] = []
  indexes_of (loop_frame l body counter visited_sums enclosing ∷ fs) = inner_indexes parameters l (indexes_of fs) counter
  indexes_of (choice_frame passed_arms enclosing ∷ fs) = indexes_of fs

  unfoldable pub ranges_of : List Frame → List Range
  ranges_of [] = []
  ranges_of (loop_frame l body counter visited_sums enclosing ∷ fs) = inner_ranges parameters l (ranges_of fs)
  ranges_of (choice_frame passed_arms enclosing ∷ fs) = ranges_of fs

  -- an arm just inside what is innermost open is kept: that is a trip of a ranked loop, one of the first height + 1
  unfoldable pub keeps_arms : List Frame → Bool
  keeps_arms [] = false
  keeps_arms (loop_frame l body counter visited_sums enclosing ∷ fs) = ranked parameters l (tree body) (ranges_of fs) && leb counter (height (tree body))
  keeps_arms (choice_frame passed_arms enclosing ∷ fs) = false

  -- a loop that makes so many trips: what entering it costs is added; its first trip opens with sums 0, or with no trip the stage goes on after
  -- its end
  unfoldable pub enter_loop : ℕ → Loop → List Record → Bounds → List Frame → KeptArms → ℕ → Step
  enter_loop zero l rs current fs arms v = going (state_keeping arms (after_end zero rs) (current ⊕ exactly (entry_cost l zero)) fs v)
  enter_loop (suc n) l rs current fs arms v =
      begins_visit (state_keeping arms rs (exactly zero) (loop_frame l rs zero [] (current ⊕ exactly (entry_cost l (suc n))) ∷ fs) (suc v))

  -- The end of a trip, the step added, of a loop that makes n trips, with its body. A closed loop's trips are summed after the first
  -- height + 1, and a ranked one's where these settle its choices.
  module _ (l : Loop) (body : Block) (ranges : List Range) (n counter : ℕ) where
    unfoldable pub summing : KeptArms → Bool
    summing arms =
        closed parameters l body ranges
        || (ranked parameters l body ranges && leb counter (height body) && all_settled (choices_of (trips_kept arms) zero body))

    -- whether a further trip is to be visited
    unfoldable pub further : KeptArms → Bool
    further arms = ltb (suc counter) (cond (summing arms) (min n (suc (height body))) n)

    -- the sum of its trips, where the loop is left
    unfoldable pub trips_sum : KeptArms → List Bounds → Bounds → Bounds
    trips_sum arms visited_sums trip = loop_sum (summing arms) n (add_trip (summing arms) visited_sums trip)

    -- the trips kept for the next one: each of a closed loop's, and of the first height + 1 of a ranked loop's; otherwise only their sum
    unfoldable pub next_sums : List Bounds → Bounds → List Bounds
    next_sums visited_sums trip = add_trip (closed parameters l body ranges || (ranked parameters l body ranges && ltb counter (height body))) visited_sums trip

    -- the arms kept for the next one
    unfoldable pub next_arms : KeptArms → KeptArms
    next_arms arms = cond (ranked parameters l body ranges) (cond (ltb counter (height body)) (kept_arms (trips_kept arms) []) no_arms) arms

    -- the arms kept where the loop is left
    unfoldable pub arms_left : KeptArms → KeptArms
    arms_left arms = cond (ranked parameters l body ranges) no_arms arms

  -- one record passed
  unfoldable pub pass_record : List Record → Bounds → List Frame → KeptArms → ℕ → Step
  pass_record [] current fs arms v = at_end (state_keeping arms [] current fs v)
  pass_record (work_record least most ∷ rs) current fs arms v = going (state_keeping arms rs (current ⊕ bounds least most) fs v)
  pass_record (loop_record l ∷ rs) current fs arms v = enter_loop (trips parameters l (indexes_of fs)) l rs current fs arms v
  pass_record (choice_record ∷ rs) current fs arms v = going (state_keeping arms rs (exactly zero) (choice_frame none current ∷ fs) v)
  pass_record (next_arm_record ∷ rs) current [] arms v = stuck (state_keeping arms (next_arm_record ∷ rs) current [] v)
  pass_record (next_arm_record ∷ rs) current (loop_frame l body counter visited_sums enclosing ∷ fs) arms v =
      stuck (state_keeping arms (next_arm_record ∷ rs) current (loop_frame l body counter visited_sums enclosing ∷ fs) v)
  pass_record (next_arm_record ∷ rs) current (choice_frame passed_arms enclosing ∷ fs) arms v =
      going (state_keeping (keep_arm (keeps_arms fs) arms current) rs (exactly zero) (choice_frame (some (add_arm passed_arms current)) enclosing ∷ fs) v)
  pass_record (end_record ∷ rs) current [] arms v = stuck (state_keeping arms (end_record ∷ rs) current [] v)
  pass_record (end_record ∷ rs) current (choice_frame passed_arms enclosing ∷ fs) arms v =
      going (state_keeping (keep_arm (keeps_arms fs) arms current) rs (enclosing ⊕ add_arm passed_arms current) fs v)
  pass_record (end_record ∷ rs) current (loop_frame l body counter visited_sums enclosing ∷ fs) arms v =
      let n : ℕ = trips parameters l (indexes_of fs) in
      let b : Block = tree body in
      let ranges : List Range = ranges_of fs in
      let trip : Bounds = current ⊕ exactly l.step in
      end_trip (further l b ranges n counter arms)
      (state_keeping (next_arms l b ranges n counter arms) body (exactly zero) (loop_frame l body (suc counter) (next_sums l b ranges n counter visited_sums trip) enclosing ∷ fs) (suc v))
      (state_keeping (arms_left l b ranges n counter arms) rs (enclosing ⊕ trips_sum l b ranges n counter arms visited_sums trip) fs v)

  unfoldable pub pass : State → Step
  pass s = pass_record s.remaining s.current s.frames s.arms s.visits

  -- records passed, at most `left`, until a visit begins or the sheet's end
  unfoldable pub pass_from : ℕ → State → Step
  pass_from zero s = stuck s
  pass_from (suc left) s = and_on (λ t. pass_from left t) (pass s)

  -- document 01: stage. Each record passed leaves fewer to pass.
  unfoldable pub stage : State → Step
  stage s = pass_from (suc (length s.remaining)) s

  -- the state after n stages
  unfoldable pub stages : ℕ → State → State
  stages zero s = s
  stages (suc n) s = state_of (stage (stages n s))

  -- how many of the first n stages begin a visit
  unfoldable pub visits_begun : ℕ → State → ℕ
  visits_begun zero s = zero
  visits_begun (suc n) s = visits_begun n s + visit_begun (stage (stages n s))
