-- What the parameters make of each loop of a sheet, by a walk from the first record to the last with the loops open around it.
use Rattle.std.specs.Prelude.{List, [], ◌∷◌, map, Bool, cond, ℕ, ℤ, ltb}
use Rattle.std.specs.Prelude as Std
use Rattle.std.specs.Prelude.{Some, None}
use Rattle.std.proofs.Math.Option.{Option, none, some}
use Rattle.std.specs.Int.Signed.{le_z}
use Rattle.meaning.specs.Form.{value}
use Rattle.meaning.specs.Record.{Loop, stride_size, Record, work_record, loop_record, Open, loop_depth, end_record, choice_record, next_arm_record}
use Rattle.meaning.specs.Time.{difference}
use Rattle.meaning.specs.Range.{difference_range, ceiling}
use Rattle.meaning.specs.Closed.{push, asked_difference}
use Rattle.meaning.specs.Limits.{ceiling_limit}
use Rattle.meaning.specs.Report.{or_else}
use Rattle.layout.specs.declared.rows.Row.{Row}
use Rattle.layout.specs.declared.facts.Fact.{Fact}
use Rattle.layout.specs.Loops.{difference_words, fact_numbers}
use Rattle.layout.specs.Numbers.{joined}
use Rattle.nest.specs.Walk.{opens_after}
use Rattle.loops.specs.Enclosing.{Enclosing, nothing_open, enclosing_after, choice_depth, rank_depth}

-- What closing and the stages ask of one loop: its stride's size, its ceiling, whether its smallest D is as large as closing a loop around it
-- asks, D where every counter is 0, the pushes on D of the loops around it, outermost first, how many loops stand around it and around the
-- innermost choice around it, and how many of these the choices around it keep from being ranked.
pub record LoopFacts : Type 0 where
  pub stride : ℕ
  pub ceiling : ℕ
  pub enough : Bool
  pub base : ℤ
  pub pushes : List ℤ
  pub depth : ℕ
  pub choice_depth : ℕ
  pub rank_depth : ℕ

-- as they are stored
unfoldable pub words_of : LoopFacts → List ℕ
words_of f = difference_words f.stride f.base f.pushes

unfoldable pub fact_of : LoopFacts → Fact
fact_of f = record { ceiling = f.ceiling; choice = f.choice_depth; rank = f.rank_depth; enough = f.enough }

module _ (parameters : List ℤ) where
  unfoldable pub loop_facts : List Open → Enclosing → Loop → LoopFacts
  loop_facts os e l = record {
    stride = stride_size l;
    ceiling = ceiling parameters l e.ranges;
    enough = le_z (asked_difference l) (difference_range parameters l e.ranges).lo;
    base = value parameters (difference l) e.starts;
    pushes = map (push (difference l)) e.pushes;
    depth = loop_depth os;
    choice_depth = choice_depth os;
    rank_depth = rank_depth os;
  }

  unfoldable pub facts_at : List Open → Enclosing → Record → Option LoopFacts
  facts_at os e (work_record least most) = none
  facts_at os e (loop_record l) = some (loop_facts os e l)
  facts_at os e end_record = none
  facts_at os e choice_record = none
  facts_at os e next_arm_record = none

  -- the facts of each record, where os and the loops e are open before the first
  unfoldable pub facts_from : List Open → Enclosing → List Record → List (Option LoopFacts)
  facts_from os e [] = []
  facts_from os e (r ∷ rs) = facts_at os e r ∷ facts_from (opens_after os r) (enclosing_after parameters os e r) rs

  -- of a sheet's records
  unfoldable pub sheet_facts : List Record → List (Option LoopFacts)
  sheet_facts rs = facts_from [] nothing_open rs

-- those of loops alone
unfoldable pub loops_in : {A : Type 0} → List (Option A) → List A
loops_in [] = []
loops_in (none ∷ xs) = loops_in xs
loops_in (some x ∷ xs) = x ∷ loops_in xs

-- the loops before the first one whose ceiling is above the limit
unfoldable pub within_ceiling : List (Option LoopFacts) → List LoopFacts
within_ceiling [] = []
within_ceiling (none ∷ fs) = within_ceiling fs
within_ceiling (some f ∷ fs) = cond (ltb ceiling_limit f.ceiling) [] (f ∷ within_ceiling fs)

-- the numbers that are stored
unfoldable pub words_stored : List LoopFacts → List ℕ
words_stored fs = joined words_of fs

unfoldable pub facts_stored : List LoopFacts → List ℕ
facts_stored fs = joined fact_numbers (map fact_of fs)

-- ---- refusal 6, by the walk

-- the offset of the first loop whose ceiling is above the limit
unfoldable pub over_ceiling : List Row → List (Option LoopFacts) → Option ℕ
over_ceiling [] fs = none
over_ceiling (r ∷ rows) [] = none
over_ceiling (r ∷ rows) (none ∷ fs) = over_ceiling rows fs
over_ceiling (r ∷ rows) (some f ∷ fs) = or_else (ltb ceiling_limit f.ceiling) r.offset (over_ceiling rows fs)

-- the same, as the code answers it
abbrev pub place_in : Std.Option ℕ → Option ℕ
place_in None = none
place_in (Some at) = some at
