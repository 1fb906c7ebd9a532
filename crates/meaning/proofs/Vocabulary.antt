-- Short words in which the computed examples are written.
use mathlib.Core.List as L
use mathlib.Core.List.{List}
use mathlib.Core.Bool.{Bool, true, false}
use Prim.Native.Nat.{ℕ, ◌+◌, ◌*◌, ◌-◌}
use Prim.Native.Char.{Char, code}
use Prim.Native.String.{String, [], ◌∷◌}
use lib.IntN.{ℤ, pos}
use lib.Dec.{ltb}
use mathlib.Core.Option.{Option, none, some}
use Rattle.meaning.specs.Form.{Form}
use Rattle.meaning.specs.Record.{Loop, Record}
use Rattle.meaning.specs.Reader.{Result, ok, refused, read, Head}
use Rattle.meaning.specs.Writer.{RawRecord, Written}
use Rattle.meaning.specs.Closed.{closed_class, ranked_class, walked_class}
use Rattle.meaning.specs.Reason.{Reason}
use Rattle.meaning.specs.Report.{LoopReport}
use Rattle.meaning.specs.Stage.{State, first_state, stages}
use Rattle.meaning.specs.CCall.{Called}
use Rattle.meaning.specs.Program.{reports_of}
use Rattle.meaning.specs.Lent.{Lent}

unfoldable digit_value : Bool → ℕ → ℕ
digit_value true c = c - 48
digit_value false c = c - 87

-- the value of a hexadecimal digit, 0 to 9 or a to f
unfoldable pub hex_digit : Char → ℕ
unfolding digit_value
hex_digit c = digit_value (ltb (code c) 58) (code c)

-- bytes written in hexadecimal, two digits each
unfoldable pub hex : String → List ℕ
hex [] = L.[]
hex (c ∷ []) = L.[]
hex (c ∷ d ∷ s) = L.◌∷◌ (16 * hex_digit c + hex_digit d) (hex s)

abbrev pub zero_parameters : List ℤ
zero_parameters = L.◌∷◌ (pos 0) (L.◌∷◌ (pos 0) (L.◌∷◌ (pos 0) (L.◌∷◌ (pos 0) L.[])))

abbrev pub form : ℤ → List ℤ → List ℤ → Form
form constant index parameter = record { constant = constant; index = index; parameter = parameter }

-- of kind 2
abbrev pub loop_of : ℕ → ℕ → ℤ → Form → Form → Loop
loop_of start step stride lower upper =
    record { start = start; step = step; stride = stride; lower = lower; upper = upper; skip = none }

-- of kind 6
abbrev pub skip_loop_of : ℕ → ℕ → ℤ → Form → Form → ℕ → Loop
skip_loop_of start step stride lower upper skip =
    record { start = start; step = step; stride = stride; lower = lower; upper = upper; skip = some skip }

abbrev pub raw : ℕ → ℕ → ℕ → ℕ → ℕ → ℤ → Form → Form → ℕ → RawRecord
raw kind_byte least most start step stride lower upper skip = record {
  kind_byte = kind_byte;
  least = least;
  most = most;
  start = start;
  step = step;
  stride = stride;
  lower = lower;
  upper = upper;
  skip = skip;
}

abbrev pub closed_loop : ℕ → ℕ → LoopReport
closed_loop offset ceiling = record { offset = offset; class = closed_class; ceiling = ceiling; reason = none }

abbrev pub walked_loop : ℕ → ℕ → Reason → LoopReport
walked_loop offset ceiling reason = record { offset = offset; class = walked_class; ceiling = ceiling; reason = some reason }

abbrev pub ranked_loop : ℕ → ℕ → Reason → LoopReport
ranked_loop offset ceiling reason = record { offset = offset; class = ranked_class; ceiling = ceiling; reason = some reason }

unfoldable pub sheet_reports_of : List ℕ → List ℤ → List LoopReport
sheet_reports_of sheet parameters = reports_of parameters (read sheet)

unfoldable pub state_after : ℕ → List Record → List ℤ → State
state_after n rs parameters = stages parameters n (first_state rs)

abbrev pub written : ℕ → List ℕ → Written
written length buffer = record { result = ok length; buffer = buffer }

abbrev pub not_written : ℕ → ℕ → List ℕ → Written
not_written number place buffer = record { result = refused number place; buffer = buffer }

abbrev pub called : ℕ → List ℕ → Called
called number area = record { number = number; area = area }

abbrev pub lent : ℕ → List ℕ → List ℕ → Lent
lent number buffer area = record { number = number; buffer = buffer; area = area }

abbrev pub found : ℕ → ℕ → ℕ → Result (Option Head)
found kind_number body_offset body_length = ok (some (record { kind_number = kind_number; body_offset = body_offset; body_length = body_length }))

abbrev pub sheet_end : Result (Option Head)
sheet_end = ok none
