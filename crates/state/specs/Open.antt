-- What is open: the counters of the open loops, the frames of the open records, the kept trips of the open closed and ranked loops, and the kept arms
-- of the open ranked loop. What is not open is blank.
use Rattle.std.specs.Prelude.{ℕ, ◌-◌, ◌*◌, ◌/◌, List, ◌++◌, take, drop, replicate, slice_index, slice_set}
use Rattle.meaning.specs.Limits.{record_limit, depth_limit, open_limit}
use Rattle.state.specs.declared.open.Passed.{Passed}
use Rattle.state.specs.declared.open.Frame.{Frame}
use Rattle.state.specs.declared.open.Arms.{Arms}
use Rattle.state.specs.declared.open.Open.{Open}
use Rattle.state.specs.declared.bounds.Bounds.{Bounds}
use Rattle.state.specs.Bounds.{no_bounds}

-- how many trips are kept at most: of a loop as many as there can be loops inside it
abbrev pub kept_limit : ℕ
kept_limit = depth_limit * (depth_limit - 1) / 2

-- how many arms are kept at most: in as many trips as loops can be deep, all arms of a loop. A loop with a choice of m arms and with three loops
-- nested inside it takes m + 9 records.
abbrev pub kept_arms_limit : ℕ
kept_arms_limit = depth_limit * (record_limit - 9)

-- ---- lists of which a part is blank

-- so many elements from a position on become blank
unfoldable pub blanked : {A : Type 0} → A → List A → ℕ → ℕ → List A
blanked blank xs from count = take from xs ++ (replicate count blank ++ drop count (drop from xs))

-- so many elements: blank ones follow where there are fewer
unfoldable pub filled : {A : Type 0} → A → ℕ → List A → List A
filled blank count xs = take count (xs ++ replicate count blank)

-- ---- nothing open

abbrev pub nothing_passed : Passed
nothing_passed = record { bounds = no_bounds; arm = 0 }

abbrev pub blank_frame : Frame
blank_frame = record { around = no_bounds; passed = nothing_passed }

abbrev pub blank_arms : Arms
blank_arms = record { count = 0; bounds = replicate kept_arms_limit no_bounds }

abbrev pub nothing_open : Open
nothing_open = record {
  counters = replicate depth_limit 0;
  frames = replicate open_limit blank_frame;
  kept = replicate kept_limit no_bounds;
  arms = blank_arms;
}

-- ---- others in the place of a part

module _ (o : Open) where
  abbrev pub with_counters : List ℕ → Open
  with_counters counters = record { counters = counters; frames = o.frames; kept = o.kept; arms = o.arms }

  abbrev pub with_frames : List Frame → Open
  with_frames frames = record { counters = o.counters; frames = frames; kept = o.kept; arms = o.arms }

  abbrev pub with_kept : List Bounds → Open
  with_kept kept = record { counters = o.counters; frames = o.frames; kept = kept; arms = o.arms }

  abbrev pub with_arms : Arms → Open
  with_arms arms = record { counters = o.counters; frames = o.frames; kept = o.kept; arms = arms }

-- the counter of the open loop that has so many loops around it, and another in its place
module _ (o : Open) (depth : ℕ) where
  abbrev pub counter_at : ℕ
  counter_at = slice_index o.counters depth

  abbrev pub with_counter : ℕ → Open
  with_counter counter = with_counters o (slice_set o.counters depth counter)
