-- What document 02 promises of the reasons that are told of a sheet's loops (C-11).
use Rattle.std.specs.Prelude.{◌≡◌, List, [], ◌∷◌, ◌↔◌, ℕ, ℤ, T}
use Rattle.std.proofs.Math.Option.{none, some}
use Rattle.meaning.specs.Record.{Loop, Record}
use Rattle.meaning.specs.Tree.{Block}
use Rattle.meaning.specs.Reader.{Result, ok, refused}
use Rattle.meaning.specs.Range.{Range}
use Rattle.meaning.specs.Closed.{is_closed}
use Rattle.meaning.specs.Reason.{Reason}
use Rattle.meaning.specs.ReasonOrder.{Stands, Explained}
use Rattle.meaning.specs.ReasonLine.{reason_line, read_reason}
use Rattle.meaning.specs.Report.{LoopReport}
use Rattle.meaning.specs.Answer.{sheet_reports}

-- this holds of each member of a list
pub data Each {A : Type 0} (P : A → Type 0) : List A → Type 0 where
  no_member : Each P []
  one_more : {x : A} {xs : List A} → P x → Each P xs → Each P (x ∷ xs)

-- of one loop among a sheet's records: it is said to be closed exactly where no reason is told; a reason has the offsets of records of the sheet, and its
-- line reads back to it
pub record ReasonTold (rs : List Record) (report : LoopReport) : Type 0 where
  pub exactly : T (is_closed report.class) ↔ (report.reason ≡ none)
  pub stands : (r : Reason) → report.reason ≡ some r → Stands rs 0 r
  pub reads_back : (r : Reason) → report.reason ≡ some r → read_reason (reason_line r) ≡ some r

-- of each loop of a sheet that the reader accepts
unfoldable pub EachTold : List ℤ → Result (List Record) → Type 0
EachTold parameters (ok rs) = Each (ReasonTold rs) (sheet_reports parameters rs)
EachTold parameters (refused number place) = Unit {0}

-- all that is promised, at given parameters
pub record ReasonsTold (parameters : List ℤ) (sheet : Result (List Record)) : Type 0 where
  pub explained : (l : Loop) (body : Block) (ranges : List Range) (at : ℕ) → Explained parameters l body ranges at
  pub told : EachTold parameters sheet
