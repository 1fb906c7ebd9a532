-- The whole state after every stage of some sheets, from raw bytes, from 0 to visits + 2 stages: what the stages' laws say there is.
use mathlib.Core.List.{◌++◌, List, [], ◌∷◌}
use mathlib.Core.Path.{refl, ◌∙◌, ◌≡◌}
use Prim.Native.Nat.{◌-◌, ℕ}
use native.Mathlib.Omega.{arith}
use lib.ListN.{length, replicate}
use Rattle.meaning.specs.Limits.{depth_limit, open_limit}
use Rattle.meaning.specs.Answer.{accepted}
use Rattle.meaning.specs.Stage as Meaning
use Rattle.meaning.specs.Reader.{ok}
use Rattle.meaning.proofs.Computes.{computes}
use Rattle.meaning.proofs.Vocabulary.{hex, zero_parameters}
use Rattle.sheet.specs.Sheets.{records_in, records_of}
use Rattle.loops.proofs.Sizes.{SmallParameters, sum}
use Rattle.ranking.specs.Settled.{trips_arms}
use Rattle.state.specs.declared.State.{State}
use Rattle.state.specs.declared.bounds.Bounds.{Bounds}
use Rattle.state.specs.declared.sums.Sums.{Sums}
use Rattle.state.specs.declared.open.Frame.{Frame}
use Rattle.state.specs.Bounds.{bounds, no_bounds}
use Rattle.state.specs.Sums.{sums}
use Rattle.state.specs.Open.{nothing_passed, blank_frame, filled, kept_arms_limit, kept_limit}
use Rattle.state.specs.Frames.{frame_with, arms_passed, trips_passed}
use Rattle.state.specs.States.{state_with}
use Rattle.stages.specs.Represent.{arms_of, counter_numbers, each_trip_of, frames_of, keeps_each, kept_of, open_of, passed_arms_of, passed_trips_of, struct_of}
use Rattle.stages.specs.Next.{states_after}
use Rattle.stages.proofs.Laws.{stage_laws}

-- Unfolding this unfolds every definition of the state that stands for one of the definition.
unfoldable struct_computes : Unit {0}
unfolding computes records_of records_in trips_arms counter_numbers passed_arms_of passed_trips_of each_trip_of keeps_each arms_of frames_of kept_of open_of struct_of filled
struct_computes = tt

-- blank ones up to a length
abbrev up_to : {A : Type 0} → A → ℕ → List A → List A
up_to blank n xs = xs ++ replicate (n - length xs) blank

-- a frame that passed nothing, one that passed trips, and one that passed an arm: the least and the most around it, and those that it passed
abbrev open_around : ℕ → ℕ → Frame
open_around least most = frame_with (bounds least most) nothing_passed

abbrev open_passed : ℕ → ℕ → ℕ → ℕ → Frame
open_passed least most passed_least passed_most = frame_with (bounds least most) (trips_passed (bounds passed_least passed_most))

abbrev arm_passed : ℕ → ℕ → ℕ → ℕ → Frame
arm_passed least most passed_least passed_most = frame_with (bounds least most) (arms_passed (bounds passed_least passed_most))

-- a state, what is not open left out: where it stands, the sums, the counters, the frames, the kept trips, the kept arms
abbrev arms_written : ℕ → Sums → List ℕ → List Frame → List Bounds → List Bounds → State
arms_written at sums counters frames kept arms =
    state_with at sums
    (record {
      counters = up_to 0 depth_limit counters;
      frames = up_to blank_frame open_limit frames;
      kept = up_to no_bounds kept_limit kept;
      arms = record { count = length arms; bounds = up_to no_bounds kept_arms_limit arms };
    })

-- with no arms kept
abbrev written_state : ℕ → Sums → List ℕ → List Frame → List Bounds → State
written_state at sums counters frames kept = arms_written at sums counters frames kept []

small-zero : SmallParameters zero_parameters
unfolding SmallParameters sum
small-zero = omega arith

-- by the laws, the state after n stages is the one that stands for the definition's
after : (sheet : List ℕ) → accepted sheet zero_parameters ≡ ok (records_of sheet) → (n : ℕ) {s : State} →
    struct_of zero_parameters (records_of sheet) (Meaning.stages zero_parameters n (Meaning.first_state (records_of sheet))) ≡ s → states_after sheet zero_parameters n ≡ s
after sheet e n h = (stage_laws sheet zero_parameters (records_of sheet) small-zero e).in_step n ∙ h

-- i 0 to 9, j 0 to i - 1: both closed
abbrev sheet_three : List ℕ
sheet_three = hex "0200000000010000000000000000000009000000000000000002000000000100000000000000000000ffff0100000000000001010001000303"

pub states-three :
    (states_after sheet_three zero_parameters 0 ≡ written_state 0 (sums 0 0 0) [] [] [])
    × (states_after sheet_three zero_parameters 1 ≡ written_state 1 (sums 0 0 1) (0 ∷ []) (open_around 0 0 ∷ []) [])
    × (states_after sheet_three zero_parameters 2 ≡ written_state 1 (sums 0 0 2) (1 ∷ []) (open_around 0 0 ∷ []) [])
    × (states_after sheet_three zero_parameters 3 ≡ written_state 2 (sums 0 0 3) (1 ∷ 0 ∷ []) (open_around 0 0 ∷ open_around 0 0 ∷ []) [])
    × (states_after sheet_three zero_parameters 4 ≡ written_state 5 (sums 45 45 3) [] [] [])
    × (states_after sheet_three zero_parameters 5 ≡ written_state 5 (sums 45 45 3) [] [] [])
unfolding struct_computes
states-three = (
  after sheet_three refl 0 refl,
  after sheet_three refl 1 refl,
  after sheet_three refl 2 refl,
  after sheet_three refl 3 refl,
  after sheet_three refl 4 refl,
  after sheet_three refl 5 refl,
)

-- i 0 to 9 over a choice of (j 0 to i - 1) and work 4 to 4: i is walked
abbrev sheet_nine : List ℕ
sheet_nine = hex "020000000001000000000000000000000900000000000000000402000000000100000000000000000000ffff010000000000000101000100030501040004000303"

pub states-nine :
    (states_after sheet_nine zero_parameters 0 ≡ written_state 0 (sums 0 0 0) [] [] [])
    × (states_after sheet_nine zero_parameters 1 ≡ written_state 1 (sums 0 0 1) (0 ∷ []) (open_around 0 0 ∷ []) [])
    × (states_after sheet_nine zero_parameters 2 ≡ arms_written 1 (sums 0 0 2) (1 ∷ []) (open_around 0 0 ∷ []) (bounds 0 4 ∷ []) (bounds 0 0 ∷ bounds 4 4 ∷ []))
    × (states_after sheet_nine zero_parameters 3 ≡ arms_written 3 (sums 0 0 3) (1 ∷ 0 ∷ []) (open_around 0 0 ∷ open_around 0 0 ∷ open_around 0 0 ∷ []) (bounds 0 4 ∷ []) (bounds 0 0 ∷ bounds 4 4 ∷ []))
    × (states_after sheet_nine zero_parameters 4 ≡ written_state 1 (sums 0 0 4) (2 ∷ []) (open_passed 0 0 1 8 ∷ []) [])
    × (states_after sheet_nine zero_parameters 5 ≡ written_state 3 (sums 0 0 5) (2 ∷ 0 ∷ []) (open_passed 0 0 1 8 ∷ open_around 0 0 ∷ open_around 0 0 ∷ []) [])
    × (states_after sheet_nine zero_parameters 6 ≡ written_state 1 (sums 0 0 6) (3 ∷ []) (open_passed 0 0 3 12 ∷ []) [])
    × (states_after sheet_nine zero_parameters 7 ≡ written_state 3 (sums 0 0 7) (3 ∷ 0 ∷ []) (open_passed 0 0 3 12 ∷ open_around 0 0 ∷ open_around 0 0 ∷ []) [])
    × (states_after sheet_nine zero_parameters 8 ≡ written_state 1 (sums 0 0 8) (4 ∷ []) (open_passed 0 0 6 16 ∷ []) [])
    × (states_after sheet_nine zero_parameters 9 ≡ written_state 3 (sums 0 0 9) (4 ∷ 0 ∷ []) (open_passed 0 0 6 16 ∷ open_around 0 0 ∷ open_around 0 0 ∷ []) [])
    × (states_after sheet_nine zero_parameters 10 ≡ written_state 1 (sums 0 0 10) (5 ∷ []) (open_passed 0 0 10 20 ∷ []) [])
    × (states_after sheet_nine zero_parameters 11 ≡ written_state 3 (sums 0 0 11) (5 ∷ 0 ∷ []) (open_passed 0 0 10 20 ∷ open_around 0 0 ∷ open_around 0 0 ∷ []) [])
    × (states_after sheet_nine zero_parameters 12 ≡ written_state 1 (sums 0 0 12) (6 ∷ []) (open_passed 0 0 14 25 ∷ []) [])
    × (states_after sheet_nine zero_parameters 13 ≡ written_state 3 (sums 0 0 13) (6 ∷ 0 ∷ []) (open_passed 0 0 14 25 ∷ open_around 0 0 ∷ open_around 0 0 ∷ []) [])
    × (states_after sheet_nine zero_parameters 14 ≡ written_state 1 (sums 0 0 14) (7 ∷ []) (open_passed 0 0 18 31 ∷ []) [])
    × (states_after sheet_nine zero_parameters 15 ≡ written_state 3 (sums 0 0 15) (7 ∷ 0 ∷ []) (open_passed 0 0 18 31 ∷ open_around 0 0 ∷ open_around 0 0 ∷ []) [])
    × (states_after sheet_nine zero_parameters 16 ≡ written_state 1 (sums 0 0 16) (8 ∷ []) (open_passed 0 0 22 38 ∷ []) [])
    × (states_after sheet_nine zero_parameters 17 ≡ written_state 3 (sums 0 0 17) (8 ∷ 0 ∷ []) (open_passed 0 0 22 38 ∷ open_around 0 0 ∷ open_around 0 0 ∷ []) [])
    × (states_after sheet_nine zero_parameters 18 ≡ written_state 1 (sums 0 0 18) (9 ∷ []) (open_passed 0 0 26 46 ∷ []) [])
    × (states_after sheet_nine zero_parameters 19 ≡ written_state 3 (sums 0 0 19) (9 ∷ 0 ∷ []) (open_passed 0 0 26 46 ∷ open_around 0 0 ∷ open_around 0 0 ∷ []) [])
    × (states_after sheet_nine zero_parameters 20 ≡ written_state 9 (sums 30 55 19) [] [] [])
    × (states_after sheet_nine zero_parameters 21 ≡ written_state 9 (sums 30 55 19) [] [] [])
unfolding struct_computes
states-nine = (
  after sheet_nine refl 0 refl,
  after sheet_nine refl 1 refl,
  after sheet_nine refl 2 refl,
  after sheet_nine refl 3 refl,
  after sheet_nine refl 4 refl,
  after sheet_nine refl 5 refl,
  after sheet_nine refl 6 refl,
  after sheet_nine refl 7 refl,
  after sheet_nine refl 8 refl,
  after sheet_nine refl 9 refl,
  after sheet_nine refl 10 refl,
  after sheet_nine refl 11 refl,
  after sheet_nine refl 12 refl,
  after sheet_nine refl 13 refl,
  after sheet_nine refl 14 refl,
  after sheet_nine refl 15 refl,
  after sheet_nine refl 16 refl,
  after sheet_nine refl 17 refl,
  after sheet_nine refl 18 refl,
  after sheet_nine refl 19 refl,
  after sheet_nine refl 20 refl,
  after sheet_nine refl 21 refl,
)

-- a ranked loop around a closed nest, costs and starts
abbrev sheet_mixed : List ℕ
sheet_mixed = hex "0203000100010000000000000000000002000000000000000004020100020001000000000000000000000300010000000000000200000100010000000000000000000000000001000000000001010002000303050106003c000303"

pub states-mixed :
    (states_after sheet_mixed zero_parameters 0 ≡ written_state 0 (sums 0 0 0) [] [] [])
    × (states_after sheet_mixed zero_parameters 1 ≡ written_state 1 (sums 0 0 1) (0 ∷ []) (open_around 3 3 ∷ []) [])
    × (states_after sheet_mixed zero_parameters 2 ≡ written_state 3 (sums 0 0 2) (0 ∷ 0 ∷ []) (open_around 3 3 ∷ open_around 0 0 ∷ open_around 1 1 ∷ []) [])
    × (states_after sheet_mixed zero_parameters 3 ≡ written_state 4 (sums 0 0 3) (0 ∷ 0 ∷ 0 ∷ []) (open_around 3 3 ∷ open_around 0 0 ∷ open_around 1 1 ∷ open_around 0 0 ∷ []) [])
    × (states_after sheet_mixed zero_parameters 4 ≡ written_state 3 (sums 0 0 4) (0 ∷ 1 ∷ []) (open_around 3 3 ∷ open_around 0 0 ∷ open_around 1 1 ∷ []) (bounds 0 0 ∷ bounds 0 0 ∷ bounds 0 0 ∷ bounds 4 5 ∷ []))
    × (states_after sheet_mixed zero_parameters 5 ≡ written_state 4 (sums 0 0 5) (0 ∷ 1 ∷ 0 ∷ []) (open_around 3 3 ∷ open_around 0 0 ∷ open_around 1 1 ∷ open_around 0 0 ∷ []) (bounds 0 0 ∷ bounds 0 0 ∷ bounds 0 0 ∷ bounds 4 5 ∷ []))
    × (states_after sheet_mixed zero_parameters 6 ≡ arms_written 1 (sums 0 0 6) (1 ∷ []) (open_around 3 3 ∷ []) (bounds 7 61 ∷ []) (bounds 29 39 ∷ bounds 6 60 ∷ []))
    × (states_after sheet_mixed zero_parameters 7 ≡ arms_written 3 (sums 0 0 7) (1 ∷ 0 ∷ []) (open_around 3 3 ∷ open_around 0 0 ∷ open_around 1 1 ∷ []) (bounds 7 61 ∷ []) (bounds 29 39 ∷ bounds 6 60 ∷ []))
    × (states_after sheet_mixed zero_parameters 8 ≡ arms_written 4 (sums 0 0 8) (1 ∷ 0 ∷ 0 ∷ []) (open_around 3 3 ∷ open_around 0 0 ∷ open_around 1 1 ∷ open_around 0 0 ∷ []) (bounds 7 61 ∷ []) (bounds 29 39 ∷ bounds 6 60 ∷ []))
    × (states_after sheet_mixed zero_parameters 9 ≡ arms_written 3 (sums 0 0 9) (1 ∷ 1 ∷ []) (open_around 3 3 ∷ open_around 0 0 ∷ open_around 1 1 ∷ []) (bounds 7 61 ∷ bounds 0 0 ∷ bounds 0 0 ∷ bounds 4 5 ∷ []) (bounds 29 39 ∷ bounds 6 60 ∷ []))
    × (states_after sheet_mixed zero_parameters 10 ≡ arms_written 4 (sums 0 0 10) (1 ∷ 1 ∷ 0 ∷ []) (open_around 3 3 ∷ open_around 0 0 ∷ open_around 1 1 ∷ open_around 0 0 ∷ []) (bounds 7 61 ∷ bounds 0 0 ∷ bounds 0 0 ∷ bounds 4 5 ∷ []) (bounds 29 39 ∷ bounds 6 60 ∷ []))
    × (states_after sheet_mixed zero_parameters 11 ≡ arms_written 1 (sums 0 0 11) (2 ∷ []) (open_around 3 3 ∷ []) (bounds 7 61 ∷ bounds 7 61 ∷ []) (bounds 29 39 ∷ bounds 6 60 ∷ bounds 41 56 ∷ bounds 6 60 ∷ []))
    × (states_after sheet_mixed zero_parameters 12 ≡ arms_written 3 (sums 0 0 12) (2 ∷ 0 ∷ []) (open_around 3 3 ∷ open_around 0 0 ∷ open_around 1 1 ∷ []) (bounds 7 61 ∷ bounds 7 61 ∷ []) (bounds 29 39 ∷ bounds 6 60 ∷ bounds 41 56 ∷ bounds 6 60 ∷ []))
    × (states_after sheet_mixed zero_parameters 13 ≡ arms_written 4 (sums 0 0 13) (2 ∷ 0 ∷ 0 ∷ []) (open_around 3 3 ∷ open_around 0 0 ∷ open_around 1 1 ∷ open_around 0 0 ∷ []) (bounds 7 61 ∷ bounds 7 61 ∷ []) (bounds 29 39 ∷ bounds 6 60 ∷ bounds 41 56 ∷ bounds 6 60 ∷ []))
    × (states_after sheet_mixed zero_parameters 14 ≡ arms_written 3 (sums 0 0 14) (2 ∷ 1 ∷ []) (open_around 3 3 ∷ open_around 0 0 ∷ open_around 1 1 ∷ []) (bounds 7 61 ∷ bounds 7 61 ∷ bounds 0 0 ∷ bounds 4 5 ∷ []) (bounds 29 39 ∷ bounds 6 60 ∷ bounds 41 56 ∷ bounds 6 60 ∷ []))
    × (states_after sheet_mixed zero_parameters 15 ≡ arms_written 4 (sums 0 0 15) (2 ∷ 1 ∷ 0 ∷ []) (open_around 3 3 ∷ open_around 0 0 ∷ open_around 1 1 ∷ open_around 0 0 ∷ []) (bounds 7 61 ∷ bounds 7 61 ∷ bounds 0 0 ∷ bounds 4 5 ∷ []) (bounds 29 39 ∷ bounds 6 60 ∷ bounds 41 56 ∷ bounds 6 60 ∷ []))
    × (states_after sheet_mixed zero_parameters 16 ≡ written_state 11 (sums 24 202 15) [] [] [])
    × (states_after sheet_mixed zero_parameters 17 ≡ written_state 11 (sums 24 202 15) [] [] [])
unfolding struct_computes
states-mixed = (
  after sheet_mixed refl 0 refl,
  after sheet_mixed refl 1 refl,
  after sheet_mixed refl 2 refl,
  after sheet_mixed refl 3 refl,
  after sheet_mixed refl 4 refl,
  after sheet_mixed refl 5 refl,
  after sheet_mixed refl 6 refl,
  after sheet_mixed refl 7 refl,
  after sheet_mixed refl 8 refl,
  after sheet_mixed refl 9 refl,
  after sheet_mixed refl 10 refl,
  after sheet_mixed refl 11 refl,
  after sheet_mixed refl 12 refl,
  after sheet_mixed refl 13 refl,
  after sheet_mixed refl 14 refl,
  after sheet_mixed refl 15 refl,
  after sheet_mixed refl 16 refl,
  after sheet_mixed refl 17 refl,
)

-- choices in choices, empty arms, in a walked loop
abbrev sheet_choices : List ℕ
sheet_choices = hex "0200000100010001000000000000000002000000000000000004040102000300050301010001000504030200000000020003000000000000000003000100000000000001010001000303010400040003"

pub states-choices :
    (states_after sheet_choices zero_parameters 0 ≡ written_state 0 (sums 0 0 0) [] [] [])
    × (states_after sheet_choices zero_parameters 1 ≡ written_state 1 (sums 0 0 1) (0 ∷ []) (open_around 0 0 ∷ []) [])
    × (states_after sheet_choices zero_parameters 2 ≡ written_state 11 (sums 0 0 2) (0 ∷ 0 ∷ []) (open_around 0 0 ∷ arm_passed 0 0 1 4 ∷ open_around 0 0 ∷ []) [])
    × (states_after sheet_choices zero_parameters 3 ≡ written_state 1 (sums 0 0 3) (1 ∷ []) (open_passed 0 0 6 9 ∷ []) [])
    × (states_after sheet_choices zero_parameters 4 ≡ written_state 11 (sums 0 0 4) (1 ∷ 0 ∷ []) (open_passed 0 0 6 9 ∷ arm_passed 0 0 1 4 ∷ open_around 0 0 ∷ []) [])
    × (states_after sheet_choices zero_parameters 5 ≡ written_state 16 (sums 12 18 4) [] [] [])
    × (states_after sheet_choices zero_parameters 6 ≡ written_state 16 (sums 12 18 4) [] [] [])
unfolding struct_computes
states-choices = (
  after sheet_choices refl 0 refl,
  after sheet_choices refl 1 refl,
  after sheet_choices refl 2 refl,
  after sheet_choices refl 3 refl,
  after sheet_choices refl 4 refl,
  after sheet_choices refl 5 refl,
  after sheet_choices refl 6 refl,
)
