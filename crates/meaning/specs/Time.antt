-- Trips, and the time trip by trip (equation 1 of document 003): least and most together.
use Rattle.std.specs.Prelude.{List, [], ◌∷◌, ◌++◌, cond, ℕ, zero, suc, ◌+◌, min, max, ℤ, pos, ◌+ℤ◌, ◌*ℤ◌}
use Rattle.std.proofs.Math.IntN.{suc_ℤ}
use Rattle.whole.specs.Integer.{at_least_zero, floor_divide}
use Rattle.meaning.specs.Form.{Form, value, subtract}
use Rattle.meaning.specs.Record.{Loop, stride_size, counts_down, skip_cycles}
use Rattle.meaning.specs.Tree.{Block, Arms, empty, work, loop, choice, last_arm, arm}

-- "Let D be upper minus lower form"
abbrev pub difference_up : Form → Form → Form
difference_up lower upper = subtract upper lower

-- document 02: "For a negative stride D is lower form minus upper form"
abbrev pub difference_down : Form → Form → Form
difference_down lower upper = subtract lower upper

-- document 01: D
unfoldable pub difference : Loop → Form
difference l = cond (counts_down l) (difference_down l.lower l.upper) (difference_up l.lower l.upper)

-- what entering the loop costs, where it makes so many trips: "Its time is start, plus .."; document 02: skip "in place of start when there are
-- no trips"
unfoldable pub entry_cost : Loop → ℕ → ℕ
entry_cost l zero = skip_cycles l
entry_cost l (suc trips) = l.start

-- max(0, floor(D ÷ stride) + 1), by the stride's size
unfoldable pub trip_count : ℤ → ℕ → ℕ
trip_count d stride = at_least_zero (suc_ℤ (floor_divide d stride))

-- a least and a most
pub record Bounds : Type 0 where
  pub least : ℕ
  pub most : ℕ

abbrev pub bounds : ℕ → ℕ → Bounds
bounds least most = record { least = least; most = most }

abbrev pub exactly : ℕ → Bounds
exactly n = bounds n n

-- what follows one another adds up
infixl 6 ◌⊕◌
abbrev pub ◌⊕◌ : Bounds → Bounds → Bounds
a ⊕ b = bounds (a.least + b.least) (a.most + b.most)

-- of two arms: the smaller least and the larger most
abbrev pub hull : Bounds → Bounds → Bounds
hull a b = bounds (min a.least b.least) (max a.most b.most)

-- f 0 ⊕ .. ⊕ f (n - 1)
unfoldable pub sum_over : ℕ → (ℕ → Bounds) → Bounds
sum_over zero f = exactly zero
sum_over (suc n) f = sum_over n f ⊕ f n

module _ (parameters : List ℤ) where
  -- document 01: trips of a loop, at the indexes of the loops around it, outermost first
  unfoldable pub trips : Loop → List ℤ → ℕ
  trips l indexes = trip_count (value parameters (difference l) indexes) (stride_size l)

  -- the index in a trip, trips counted from 0: it starts at the lower form, and "A trip moves it by the stride, sign kept"
  unfoldable pub index_at : Loop → List ℤ → ℕ → ℤ
  index_at l indexes trip = value parameters l.lower indexes +ℤ pos trip *ℤ l.stride

  -- the indexes inside loop l in one of its trips
  unfoldable pub inner_indexes : Loop → List ℤ → ℕ → List ℤ
  inner_indexes l indexes trip = indexes ++ (index_at l indexes trip ∷ [])

  -- document 01: time. A loop's is what entering it costs, plus for each trip the body and one step.
  unfoldable mutual
    pub time : Block → List ℤ → Bounds
    time empty indexes = exactly zero
    time (work least most rest) indexes = bounds least most ⊕ time rest indexes
    time (loop l body rest) indexes =
        exactly (entry_cost l (trips l indexes)) ⊕ sum_over (trips l indexes) (λ trip. time body (inner_indexes l indexes trip) ⊕ exactly l.step)
        ⊕ time rest indexes
    time (choice arms rest) indexes = arms_time arms indexes ⊕ time rest indexes

    pub arms_time : Arms → List ℤ → Bounds
    arms_time (last_arm b) indexes = time b indexes
    arms_time (arm b arms) indexes = hull (time b indexes) (arms_time arms indexes)
