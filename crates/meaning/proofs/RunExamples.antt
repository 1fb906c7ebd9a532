-- Runs that are neither fastest nor slowest, with their works and choices written out, and one that is not there.
use mathlib.Core.Path.{refl}
use mathlib.Core.List.{List, [], ◌∷◌}
use mathlib.Core.Logic.{inl, inr}
use mathlib.Core.Option.{none}
use Prim.Native.Nat.{ℕ}
use native.Mathlib.Omega.{arith}
use lib.IntN.{ℤ, pos}
use Rattle.meaning.specs.Form.{Form}
use Rattle.meaning.specs.Record.{Loop}
use Rattle.meaning.specs.Tree.{Block, empty, work, loop, choice, last_arm, arm}
use Rattle.meaning.specs.Time.{time}
use Rattle.meaning.specs.Run.{Run}
use Rattle.meaning.proofs.Computes.{computes}
use Rattle.meaning.proofs.Runs.{run-between}

abbrev constant_form : ℕ → Form
constant_form n = record { constant = pos n; index = pos 0 ∷ pos 0 ∷ pos 0 ∷ []; parameter = pos 0 ∷ pos 0 ∷ pos 0 ∷ pos 0 ∷ [] }

abbrev outer_index : Form
outer_index = record { constant = pos 0; index = pos 1 ∷ pos 0 ∷ pos 0 ∷ []; parameter = pos 0 ∷ pos 0 ∷ pos 0 ∷ pos 0 ∷ [] }

-- i 0 to 1
abbrev two_trips : Loop
two_trips = record { start = 0; step = 0; stride = pos 1; lower = constant_form 0; upper = constant_form 1; skip = none }

-- j 0 to i
abbrev up_to_outer : Loop
up_to_outer = record { start = 0; step = 0; stride = pos 1; lower = constant_form 0; upper = outer_index; skip = none }

-- the parameters are of no matter here
abbrev ps : List ℤ
ps = pos 0 ∷ pos 0 ∷ pos 0 ∷ pos 0 ∷ []

abbrev work3to5 : Block
work3to5 = work 3 5 empty

-- a work takes any number of cycles from its least to its most
pub work-takes-4 : Run ps work3to5 [] 4
unfolding computes
work-takes-4 = (4, 0, omega arith, omega arith, refl, refl)

-- two meetings with one work: 3 cycles, then 5
pub loop-takes-3-then-5 : Run ps (loop two_trips work3to5 empty) [] 8
unfolding computes
loop-takes-3-then-5 = (
  8,
  0,
  (
    3,
    5,
    (0, 3, refl, (3, 0, omega arith, omega arith, refl, refl), refl),
    (5, 0, omega arith, omega arith, refl, refl),
    refl,
  ),
  refl,
  refl,
)

-- two meetings with one choice: the first arm, then the other
pub choice-takes-1-then-8 : Run ps (loop two_trips (choice (arm (work 1 1 empty) (last_arm (work 7 9 empty))) empty) empty) [] 9
unfolding computes
choice-takes-1-then-8 = (
  9,
  0,
  (
    1,
    8,
    (0, 1, refl, (1, 0, inl (1, 0, omega arith, omega arith, refl, refl), refl, refl), refl),
    (8, 0, inr (8, 0, omega arith, omega arith, refl, refl), refl, refl),
    refl,
  ),
  refl,
  refl,
)

-- each trip runs at its own index: i 0 to 1 over j 0 to i takes one trip of j, then two
pub later-trip-takes-2 : Run ps (loop two_trips (loop up_to_outer (work 1 1 empty) empty) empty) [] 3
unfolding computes
later-trip-takes-2 = (
  3,
  0,
  (
    1,
    2,
    (0, 1, refl, (1, 0, (0, 1, refl, one, refl), refl, refl), refl),
    (2, 0, (1, 1, (0, 1, refl, one, refl), one, refl), refl, refl),
    refl,
  ),
  refl,
  refl,
)
  where
    one : Run ps (work 1 1 empty) [] 1
    one = (1, 0, omega arith, omega arith, refl, refl)

-- no run takes more than the most
pub work-never-takes-6 : ¬ Run ps work3to5 [] 6
unfolding time
work-never-takes-6 run = let h = (run-between work3to5 ps [] 6 run).high in omega arith
