-- Frames, one for each open record, outermost first: what was passed around it, and what it passed itself: its arms, or the trips visited before if it
-- is a walked loop; and 0 where it passed no arm.
use Rattle.std.specs.Prelude.{ℕ, zero, suc, ◌%◌, List, slice_index_or, slice_set}
use Rattle.meaning.specs.Limits.{open_limit}
use Rattle.state.specs.declared.bounds.Bounds.{Bounds}
use Rattle.state.specs.declared.open.Passed.{Passed}
use Rattle.state.specs.declared.open.Frame.{Frame}
use Rattle.state.specs.declared.sums.Sums.{Sums}
use Rattle.state.specs.Bounds.{plus, joined}
use Rattle.state.specs.Open.{blank_frame}
use Rattle.state.specs.Sums.{with_sums}

abbrev pub frame_with : Bounds → Passed → Frame
frame_with around passed = record { around = around; passed = passed }

-- what was passed where an arm was, and where no arm was
abbrev pub arms_passed : Bounds → Passed
arms_passed b = record { bounds = b; arm = 1 }

abbrev pub trips_passed : Bounds → Passed
trips_passed b = record { bounds = b; arm = 0 }

-- an arm joins the arms passed: it is the first where none was passed
abbrev pub arm_joins_where : ℕ → Bounds → Bounds → Passed
arm_joins_where zero passed arm = arms_passed arm
arm_joins_where (suc n) passed arm = record { bounds = joined passed arm; arm = suc n }

abbrev pub arm_joins : Passed → Bounds → Passed
arm_joins passed arm = arm_joins_where passed.arm passed.bounds arm

-- a trip joins the trips passed
abbrev pub trip_joins : Passed → Bounds → Passed
trip_joins passed trip = record { bounds = plus passed.bounds trip; arm = passed.arm }

module _ (frames : List Frame) (number : ℕ) where
  abbrev pub frame_in : Frame
  frame_in = slice_index_or frames (number % open_limit) blank_frame

  abbrev pub with_frame : Frame → List Frame
  with_frame frame = slice_set frames (number % open_limit) frame

  -- it opens: it keeps what is around it
  unfoldable pub frame_opened : Bounds → List Frame
  frame_opened around = with_frame (frame_with around frame_in.passed)

  -- it is left
  unfoldable pub frame_left : List Frame
  frame_left = with_frame blank_frame

  -- a least and a most go to what is around it
  unfoldable pub sums_around : Bounds → Sums → Sums
  sums_around more s = with_sums s (plus frame_in.around more)

  -- what it passed goes to what is around it
  unfoldable pub passed_around : Sums → Sums
  passed_around s = sums_around frame_in.passed.bounds s

  -- the open arm joins its arms passed, the first of them or a further one
  unfoldable pub arm_passed : Bounds → List Frame
  arm_passed arm = with_frame (frame_with frame_in.around (arm_joins frame_in.passed arm))

  -- the open trip joins the trips visited before of its walked loop
  unfoldable pub trip_passed : Bounds → List Frame
  trip_passed trip = with_frame (frame_with frame_in.around (trip_joins frame_in.passed trip))
