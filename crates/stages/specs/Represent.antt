-- The state that stands for a state of the definition: its numbers as they are, none of them modulo 2^64, and blank where nothing is open.
use Rattle.std.specs.Prelude.{List, [], ◌∷◌, ◌++◌, map, Bool, true, false, ◌&&◌, ◌||◌, ℕ, ◌-◌, ℤ, leb, length}
use Rattle.std.proofs.Math.Option as Defined
use Rattle.meaning.specs.Record.{Loop, Record}
use Rattle.meaning.specs.Tree.{Block, tree, height}
use Rattle.meaning.specs.Limits.{depth_limit, open_limit}
use Rattle.meaning.specs.Time.{Bounds}
use Rattle.meaning.specs.Range.{Range}
use Rattle.meaning.specs.Closed.{closed, ranked}
use Rattle.meaning.specs.ClosedSum.{add_all}
use Rattle.meaning.specs.Stage as Meaning
use Rattle.meaning.specs.Stage.{Frame, loop_frame, choice_frame, KeptArms, trips_kept, ranges_of}
use Rattle.ranking.specs.Settled.{bounds_of, trips_arms}
use Rattle.state.specs.declared.State.{State}
use Rattle.state.specs.declared.bounds.Bounds as declared
use Rattle.state.specs.declared.open.Passed.{Passed}
use Rattle.state.specs.declared.open.Frame as opened
use Rattle.state.specs.declared.open.Arms.{Arms}
use Rattle.state.specs.declared.open.Open.{Open}
use Rattle.state.specs.declared.sums.Sums.{Sums}
use Rattle.state.specs.Bounds.{no_bounds}
use Rattle.state.specs.Sums.{sums}
use Rattle.state.specs.Open.{kept_limit, kept_arms_limit, nothing_passed, blank_frame, filled}
use Rattle.state.specs.Frames.{frame_with, arms_passed, trips_passed}
use Rattle.state.specs.Kept.{kept_room}
use Rattle.state.specs.States.{state_with}

-- what was passed in the innermost open trip or arm, or else in the sheet, and the visits
abbrev pub sums_of : Bounds → ℕ → Sums
sums_of current visits = sums current.least current.most visits

-- the least and the most of each trip
abbrev pub each_of : List Bounds → List declared.Bounds
each_of trips = map bounds_of trips

-- the counters of the open loops, outermost first
unfoldable pub counter_numbers : List Frame → List ℕ
counter_numbers [] = []
counter_numbers (loop_frame l body counter visited_sums enclosing ∷ fs) = counter_numbers fs ++ (counter ∷ [])
counter_numbers (choice_frame passed_arms enclosing ∷ fs) = counter_numbers fs

-- the arms passed of an open choice, where one was
unfoldable pub passed_arms_of : Defined.Option Bounds → Passed
passed_arms_of Defined.none = nothing_passed
passed_arms_of (Defined.some passed) = arms_passed (bounds_of passed)

-- of an open loop: the trips visited before, where each is kept, and otherwise their sum
unfoldable pub passed_trips_of : Bool → List Bounds → Passed
passed_trips_of true visited_sums = nothing_passed
passed_trips_of false visited_sums = trips_passed (bounds_of (add_all visited_sums))

unfoldable pub each_trip_of : Bool → List Bounds → List declared.Bounds
each_trip_of true visited_sums = each_of visited_sums
each_trip_of false visited_sums = []

-- the arms that are kept: how many, and each
unfoldable pub arms_of : KeptArms → Arms
arms_of arms = record {
  count = length (trips_arms (trips_kept arms));
  bounds = filled no_bounds kept_arms_limit (trips_arms (trips_kept arms));
}

module _ (parameters : List ℤ) where
  -- an open loop keeps each of the trips visited before: it is closed, or ranked and in one of its first trips
  unfoldable pub keeps_each : Loop → Block → List Range → ℕ → Bool
  keeps_each l body ranges counter = closed parameters l body ranges || (ranked parameters l body ranges && leb counter (height body))

  -- a frame for each open record, outermost first
  unfoldable pub frames_of : List Frame → List opened.Frame
  frames_of [] = []
  frames_of (loop_frame l body counter visited_sums enclosing ∷ fs) =
      frames_of fs
      ++ (frame_with (bounds_of enclosing) (passed_trips_of (keeps_each l (tree body) (ranges_of parameters fs) counter) visited_sums) ∷ [])
  frames_of (choice_frame passed_arms enclosing ∷ fs) = frames_of fs ++ (frame_with (bounds_of enclosing) (passed_arms_of passed_arms) ∷ [])

  -- the kept trips of the open loops, outermost first, each with room for as many trips as there can be loops inside it
  unfoldable pub kept_of : List Frame → List declared.Bounds
  kept_of [] = []
  kept_of (loop_frame l body counter visited_sums enclosing ∷ fs) =
      kept_of fs
      ++ filled no_bounds (kept_room (length (counter_numbers fs)))
      (each_trip_of (keeps_each l (tree body) (ranges_of parameters fs) counter) visited_sums)
  kept_of (choice_frame passed_arms enclosing ∷ fs) = kept_of fs

  -- what is open, and the arms that are kept
  unfoldable pub open_of : List Frame → KeptArms → Open
  open_of fs arms = record {
    counters = filled 0 depth_limit (counter_numbers fs);
    frames = filled blank_frame open_limit (frames_of fs);
    kept = filled no_bounds kept_limit (kept_of fs);
    arms = arms_of arms;
  }

  -- of a sheet with the records rs
  unfoldable pub struct_of : List Record → Meaning.State → State
  struct_of rs s = state_with (length rs - length s.remaining) (sums_of s.current s.visits) (open_of s.frames s.arms)
