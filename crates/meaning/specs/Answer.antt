-- The library call's answer: three figures, or a refusal with its place.
use Rattle.std.specs.Prelude.{List, [], ◌&&◌, ℕ, ℤ, leb}
use Rattle.std.proofs.Math.Option.{Option, none, some}
use Rattle.meaning.specs.Limits.{budget_limit}
use Rattle.meaning.specs.Record.{Record}
use Rattle.meaning.specs.Reader.{Result, ok, refused, require, and_then, read}
use Rattle.meaning.specs.Tree.{Block, tree}
use Rattle.meaning.specs.Time.{time}
use Rattle.meaning.specs.Visits.{visits}
use Rattle.meaning.specs.Report.{LoopReport, loop_reports, first_over_ceiling}

pub record Figures : Type 0 where
  pub least : ℕ
  pub most : ℕ
  pub visits : ℕ

abbrev pub figures : ℕ → ℕ → ℕ → Figures
figures least most visits = record { least = least; most = most; visits = visits }

-- the reports of a whole sheet's loops
unfoldable pub sheet_reports : List ℤ → List Record → List LoopReport
sheet_reports parameters rs = loop_reports parameters (tree rs) [] 0

-- 6: a ceiling above the limit; the first such loop
unfoldable pub check_ceilings : {A : Type 0} → Option ℕ → A → Result A
check_ceilings none a = ok a
check_ceilings (some offset) a = refused 6 offset

-- the sheet's figures: the time trip by trip, and the visits of its outermost loops, each entered once
unfoldable pub figures_of : List ℤ → Block → Figures
figures_of parameters b = figures (time parameters b []).least (time parameters b []).most (visits parameters b [] [])

-- 8: more visits than the budget
unfoldable pub check_visits : ℕ → Figures → Result Figures
check_visits budget f = require (leb f.visits budget) 8 0 (ok f)

-- where a sheet is read so
module _ (reader : List ℕ → Result (List Record)) where
  -- the records of a sheet that is not refused 1 to 6 at these parameters
  unfoldable pub accepted_by : List ℕ → List ℤ → Result (List Record)
  accepted_by sheet parameters = and_then (reader sheet) λ rs. check_ceilings (first_over_ceiling (sheet_reports parameters rs)) rs

  -- 7, then 1 to 5, then 6, then 8, where a tree has these figures
  unfoldable pub answer_with : (List ℤ → Block → Figures) → List ℕ → List ℤ → ℕ → Result Figures
  answer_with figures_for sheet parameters budget =
      require (leb 1 budget && leb budget budget_limit) 7 0
      (and_then (accepted_by sheet parameters) λ rs. check_visits budget (figures_for parameters (tree rs)))

  abbrev pub answer_by : List ℕ → List ℤ → ℕ → Result Figures
  answer_by = answer_with figures_of

-- by the reader that there is
abbrev pub accepted : List ℕ → List ℤ → Result (List Record)
accepted = accepted_by read

-- document 01: the library call
abbrev pub answer : List ℕ → List ℤ → ℕ → Result Figures
answer = answer_by read
