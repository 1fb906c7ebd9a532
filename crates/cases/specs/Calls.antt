-- What a case calls, by its header's first byte.
use Rattle.std.specs.Prelude.{◌≡◌, ◌≢◌, ℕ, Option, MatchOption}
use Rattle.cases.specs.declared.calls.Conversion.TheVariants.{WithSkips, WithoutSkips}
use Rattle.cases.specs.declared.calls.Call.{Call}
use Rattle.cases.specs.declared.calls.Call.TheVariants.{Reader, Writer, Plan, Figures, Stages, Text, ReasonLine, Converter, Range}

-- the byte that stands for a call
abbrev pub number_of : Call → ℕ
number_of Reader = 1
number_of Writer = 2
number_of Plan = 3
number_of Figures = 4
number_of Stages = 5
number_of Text = 6
number_of ReasonLine = 7
number_of (Converter WithSkips) = 8
number_of (Converter WithoutSkips) = 9
number_of Range = 10

-- the call with this number, or none where no call has it
abbrev pub IsCallOf : ℕ → Option Call → Type 0
IsCallOf number result = MatchOption result ((call : Call) → number_of call ≢ number) (λ call. number_of call ≡ number)
