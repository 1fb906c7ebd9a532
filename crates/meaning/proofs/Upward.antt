-- A nest that counts up in place of one whose loops count down (document 02, C-17): the index of a loop that counts down is exchanged for its negative.
use mathlib.Core.List.{List, [], ◌∷◌, ◌++◌, map}
use mathlib.Core.Bool.{Bool, true, false, not, ◌&&◌}
use lib.IntN.{ℤ, pos, neg_ℤ}
use Rattle.meaning.specs.Form.{Form}
use Rattle.meaning.specs.Record.{Loop, stride_size, counts_down}
use Rattle.meaning.specs.Tree.{Block, Arms, empty, work, loop, choice, last_arm, arm}
use Rattle.meaning.specs.Range.{Range}

-- the form whose value is minus the form's; as a form of whole numbers, which need not fit the fields of a record
unfoldable pub negate : Form → Form
negate f = record { constant = neg_ℤ f.constant; index = map neg_ℤ f.index; parameter = map neg_ℤ f.parameter }

-- of a loop that counts down minus the number, of another the number
unfoldable pub turn : Bool → ℤ → ℤ
turn true z = neg_ℤ z
turn false z = z

-- the same of a form
unfoldable pub turn_form : Bool → Form → Form
turn_form true f = negate f
turn_form false f = f

-- and of a range: both ends negated and exchanged
unfoldable pub turn_range : Bool → Range → Range
turn_range true r = record { lo = neg_ℤ r.hi; hi = neg_ℤ r.lo }
turn_range false r = r

-- each member by the direction of its own loop: `downs` says which loops count down, outermost first; members past those stay
unfoldable pub turn_each : {A : Type 0} → (Bool → A → A) → List Bool → List A → List A
turn_each turned [] xs = xs
turn_each turned (down ∷ downs) [] = []
turn_each turned (down ∷ downs) (x ∷ xs) = turned down x ∷ turn_each turned downs xs

-- the form over the exchanged indexes of the loops around: only the factors of those indexes change
unfoldable pub turn_indexes : List Bool → Form → Form
turn_indexes downs f = record { constant = f.constant; index = turn_each turn downs f.index; parameter = f.parameter }

-- the loop that counts up, where `downs` says which loops around it counted down
unfoldable pub upward_loop : List Bool → Loop → Loop
upward_loop downs l = record {
  start = l.start;
  step = l.step;
  stride = pos (stride_size l);
  lower = turn_form (counts_down l) (turn_indexes downs l.lower);
  upper = turn_form (counts_down l) (turn_indexes downs l.upper);
  skip = l.skip;
}

-- the loop that counts up over the negated forms, the indexes around it as they are
unfoldable pub over_negated : Loop → Loop
over_negated l = record {
  start = l.start;
  step = l.step;
  stride = pos (stride_size l);
  lower = negate l.lower;
  upper = negate l.upper;
  skip = l.skip;
}

-- which loops count down around the body of loop l
unfoldable pub downs_inside : Loop → List Bool → List Bool
downs_inside l downs = downs ++ (counts_down l ∷ [])

-- the nest with each of its loops counting up
unfoldable mutual
  pub upward : List Bool → Block → Block
  upward downs empty = empty
  upward downs (work least most rest) = work least most (upward downs rest)
  upward downs (loop l body rest) = loop (upward_loop downs l) (upward (downs_inside l downs) body) (upward downs rest)
  upward downs (choice arms rest) = choice (upward_arms downs arms) (upward downs rest)

  pub upward_arms : List Bool → Arms → Arms
  upward_arms downs (last_arm b) = last_arm (upward downs b)
  upward_arms downs (arm b arms) = arm (upward downs b) (upward_arms downs arms)

-- no loop of the nest counts down
unfoldable mutual
  pub counts_up : Block → Bool
  counts_up empty = true
  counts_up (work least most rest) = counts_up rest
  counts_up (loop l body rest) = not (counts_down l) && counts_up body && counts_up rest
  counts_up (choice arms rest) = arms_count_up arms && counts_up rest

  pub arms_count_up : Arms → Bool
  arms_count_up (last_arm b) = counts_up b
  arms_count_up (arm b arms) = counts_up b && arms_count_up arms
