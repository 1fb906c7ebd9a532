-- The program `bound`: the text that it prints for its input.
use Rattle.std.specs.Prelude.{List, [], ◌∷◌, ◌++◌, cond, ℕ, ℤ, ltb, length, take, drop}
use Prim.Native.String.{String}
use Rattle.meaning.specs.Limits.{header_length}
use Rattle.meaning.specs.Text.{text, decimal}
use Rattle.meaning.specs.Number.{unsigned, signed16}
use Rattle.meaning.specs.Record.{Record}
use Rattle.meaning.specs.Reader.{Result, ok, refused, read}
use Rattle.meaning.specs.Closed.{LoopClass, closed_class, ranked_class, walked_class}
use Rattle.meaning.specs.Report.{LoopReport}
use Rattle.meaning.specs.ReasonLine.{reason_lines}
use Rattle.meaning.specs.Answer.{Figures, sheet_reports, answer_by}

-- `best B worst W visits V`
unfoldable pub figures_line : Figures → List ℕ
figures_line f = text "best " ++ decimal f.least ++ text " worst " ++ decimal f.most ++ text " visits " ++ decimal f.visits ++ text "\n"

-- the word for a loop's class
unfoldable pub class_name : LoopClass → String
class_name closed_class = "closed"
class_name ranked_class = "ranked"
class_name walked_class = "walked"

-- `loop O closed ceiling C`, or ranked or walked
unfoldable pub loop_line : LoopReport → List ℕ
loop_line r = text "loop " ++ decimal r.offset ++ text " " ++ text (class_name r.class) ++ text " ceiling " ++ decimal r.ceiling ++ text "\n"

-- document 02: a loop's line, and after that of a loop that is not closed the line of its reason
unfoldable pub report_lines : LoopReport → List ℕ
report_lines r = loop_line r ++ reason_lines r.reason

unfoldable pub loop_lines : List LoopReport → List ℕ
loop_lines [] = []
loop_lines (r ∷ rs) = report_lines r ++ loop_lines rs

-- `refused R at P`
unfoldable pub refused_line : ℕ → ℕ → List ℕ
refused_line number place = text "refused " ++ decimal number ++ text " at " ++ decimal place ++ text "\n"

unfoldable pub answer_text : Result Figures → List LoopReport → List ℕ
answer_text (ok f) reports = figures_line f ++ loop_lines reports
answer_text (refused number place) reports = refused_line number place

-- ---- the input: four parameters of 2 bytes, a budget of 4 bytes, the sheet

unfoldable pub input_parameters : List ℕ → List ℤ
input_parameters input = signed16 input 0 ∷ signed16 input 2 ∷ signed16 input 4 ∷ signed16 input 6 ∷ []

unfoldable pub input_budget : List ℕ → ℕ
input_budget input = unsigned (take 4 (drop 8 input))

unfoldable pub input_sheet : List ℕ → List ℕ
input_sheet input = drop header_length input

-- the reports of the loops of a sheet that the reader accepts
unfoldable pub reports_of : List ℤ → Result (List Record) → List LoopReport
reports_of parameters (ok rs) = sheet_reports parameters rs
reports_of parameters (refused number place) = []

-- what is printed where a sheet is read so; with less than a header, `refused 1 at 0`
unfoldable pub program_text_by : (List ℕ → Result (List Record)) → List ℕ → List ℕ
program_text_by reader input =
    cond (ltb (length input) header_length) (refused_line 1 0)
    (answer_text (answer_by reader (input_sheet input) (input_parameters input) (input_budget input)) (reports_of (input_parameters input) (reader (input_sheet input))))

-- document 01: what `bound` prints
abbrev pub program_text : List ℕ → List ℕ
program_text = program_text_by read
