-- What the arrays of a plan hold between the walks that fill them.
use Rattle.std.specs.Prelude.{◌≡◌, List, ◌∷◌, ◌++◌, ℕ, zero, ◌^◌, ◌<◌, ◌≤◌, ℤ, pos, nat_abs, length, get_or}
use Rattle.std.proofs.Math.Option.{Option, none, some}
use Rattle.meaning.specs.Limits.{index_factors}
use Rattle.meaning.specs.Record.{Loop, Record, loop_record}
use Rattle.layout.specs.Rows.{role_number, loop_role, role_at, end_at, depth_at, loop_at}
use Rattle.layout.specs.Loops.{word_of, stride_at, push_word_at, choice_depth_at, rank_depth_at, enough_at}
use Rattle.layout.specs.Numbers.{stored_in}
use Rattle.sheet.specs.Sheets.{records_of}
use Rattle.nest.specs.Known.{RowsHeld}
use Rattle.loops.specs.Reckoned.{FourSmall}
use Rattle.loops.specs.Facts.{LoopFacts, loops_in, sheet_facts}
use Rattle.loops.specs.Known.{LoopsHeld}
use Rattle.planner.specs.Plan.{limits_stored, sheet_plans}

-- what is stored of the loop with the number j are its facts, as they are on an accepted sheet
pub record KnownFacts (differences facts : List ℕ) (j : ℕ) (f : LoopFacts) : Type 0 where
  pub stride_is : stride_at differences j ≡ f.stride
  pub pushes_are : (m : ℕ) → m < index_factors → push_word_at differences j m ≡ word_of (get_or f.pushes m (pos zero))
  pub choice_is : choice_depth_at facts j ≡ f.choice_depth
  pub rank_is : rank_depth_at facts j ≡ f.rank_depth
  pub enough_is : enough_at facts j ≡ f.enough
  pub moves : 0 < f.stride
  pub few : length f.pushes ≤ index_factors
  pub small : (m : ℕ) → nat_abs (get_or f.pushes m (pos zero)) < 2 ^ 63

-- what the arrays have of the record with the number n and of the records up to its end are the facts fs of the sheet's records
pub record KnownInside (rows differences facts : List ℕ) (n : ℕ) (fs : List (Option LoopFacts)) : Type 0 where
  pub ends : end_at rows n ≤ length fs
  pub loops : (i : ℕ) (f : LoopFacts) → n < i → get_or fs i none ≡ some f →
      (role_at rows i ≡ role_number loop_role) × ((depth_at rows i ≡ f.depth) × KnownFacts differences facts (loop_at rows i) f)
  pub others : (i : ℕ) → n < i → i < length fs → get_or fs i none ≡ none → role_at rows i ≡ role_number loop_role → ⊥

-- arrays hold the rows of these records, and what the parameters make of their loops
pub record SheetHeld (parameters : List ℤ) (rs : List Record) (rows differences facts : List ℕ) : Type 0 where
  pub rows_are : RowsHeld rows rs
  pub loops_are : LoopsHeld differences facts (loops_in (sheet_facts parameters rs))

-- those of an accepted sheet, at small parameters
pub record Surveyed (sheet : List ℕ) (parameters : List ℤ) (count : ℕ) (rows differences facts : List ℕ) : Type 0 where
  pub small : FourSmall parameters
  pub all : count ≡ length (records_of sheet)
  pub sheet_is : SheetHeld parameters (records_of sheet) rows differences facts

-- in them loop l is the record with this number, after the records xs and before ys
pub record LoopAmong (sheet : List ℕ) (parameters : List ℤ) (rows differences facts : List ℕ) (number : ℕ) (xs : List Record) (l : Loop) (ys : List Record) : Type 0 where
  pub surveyed : Surveyed sheet parameters (length (records_of sheet)) rows differences facts
  pub split : records_of sheet ≡ xs ++ (loop_record l ∷ ys)
  pub number_is : number ≡ length xs

-- arrays hold the plan of these records
pub record PlanHeld (parameters : List ℤ) (rs : List Record) (rows differences facts limits : List ℕ) : Type 0 where
  pub sheet_is : SheetHeld parameters rs rows differences facts
  pub limits_before : List ℕ
  pub limits_are : limits ≡ stored_in limits_before (limits_stored (loops_in (sheet_plans parameters rs)))
