-- The loops that are open before a record: the ranges of their indexes, their starts and their pushes.
use Rattle.std.specs.Prelude.{List, [], ◌∷◌, ◌++◌, map, ℕ, zero, ℤ, length}
use Rattle.meaning.specs.Form.{value}
use Rattle.meaning.specs.Record.{Loop, Record, work_record, loop_record, Open, open_loop, open_choice, loop_depth, end_record, choice_record, next_arm_record}
use Rattle.meaning.specs.Range.{Range, inner_ranges}
use Rattle.meaning.specs.Closed.{push_own, push_inner}
use Rattle.nest.specs.Walk.{opens_after}

-- The open loops, outermost first: the ranges of their indexes; their indexes where every counter is 0; and of each loop the pushes on
-- the indexes at depths 1, 2, ..
pub record Enclosing : Type 0 where
  pub ranges : List Range
  pub starts : List ℤ
  pub pushes : List (List ℤ)

abbrev pub nothing_open : Enclosing
nothing_open = record { ranges = []; starts = []; pushes = [] }

unfoldable pub without_last : {A : Type 0} → List A → List A
without_last [] = []
without_last (x ∷ []) = []
without_last (x ∷ y ∷ rest) = x ∷ without_last (y ∷ rest)

-- outside the innermost open loop
unfoldable pub leave : Enclosing → Enclosing
leave e = record { ranges = without_last e.ranges; starts = without_last e.starts; pushes = map without_last (without_last e.pushes) }

-- how many loops stand around the innermost open choice; 0 where none is open
unfoldable pub choice_depth : List Open → ℕ
choice_depth [] = zero
choice_depth (open_loop ∷ os) = choice_depth os
choice_depth (open_choice ∷ os) = loop_depth os

-- how many of these are kept from being ranked: the loop that the choice stands directly in is not
unfoldable pub rank_depth : List Open → ℕ
rank_depth [] = zero
rank_depth (open_loop ∷ os) = rank_depth os
rank_depth (open_choice ∷ []) = zero
rank_depth (open_choice ∷ open_loop ∷ os) = loop_depth os
rank_depth (open_choice ∷ open_choice ∷ os) = loop_depth os

module _ (parameters : List ℤ) where
  -- inside loop l
  unfoldable pub enter : Loop → Enclosing → Enclosing
  enter l e = record {
    ranges = inner_ranges parameters l e.ranges;
    starts = e.starts ++ (value parameters l.lower e.starts ∷ []);
    pushes = map (push_inner l) e.pushes ++ (push_own l (length e.ranges) ∷ []);
  }

  -- the open loops after a record, where os was open before it
  unfoldable pub enclosing_after : List Open → Enclosing → Record → Enclosing
  enclosing_after os e (work_record least most) = e
  enclosing_after os e (loop_record l) = enter l e
  enclosing_after [] e end_record = e
  enclosing_after (open_loop ∷ os) e end_record = leave e
  enclosing_after (open_choice ∷ os) e end_record = e
  enclosing_after os e choice_record = e
  enclosing_after os e next_arm_record = e

  -- after records
  unfoldable pub enclosing_through : List Open → Enclosing → List Record → Enclosing
  enclosing_through os e [] = e
  enclosing_through os e (r ∷ rs) = enclosing_through (opens_after os r) (enclosing_after os e r) rs

  -- the open loops before the record that follows the records xs of a sheet
  abbrev pub loops_around : List Record → Enclosing
  loops_around xs = enclosing_through [] nothing_open xs
