-- The number and the values that document 01 gives to each case of the library call's answer.
use Rattle.std.specs.Prelude as prelude
use Rattle.std.specs.Prelude.{Ok, Err}
use Rattle.meaning.specs.Reader.{Result, ok, refused}
use Rattle.meaning.specs.Answer as Meaning
use Rattle.meaning.specs.Answer.{figures}
use Rattle.sheet.specs.declared.refusal.Refusal.{Refusal}
use Rattle.sheet.specs.Refusals.{refusal_number}
use Rattle.figures.specs.declared.Figures.{Figures}

-- the three numbers
abbrev pub figures_of : Figures → Meaning.Figures
figures_of f = figures f.least f.most f.visits

-- figures, or a refusal with its number and its place
abbrev pub answer_result : prelude.Result Figures Refusal → Result Meaning.Figures
answer_result (Ok f) = ok (figures_of f)
answer_result (Err r) = refused (refusal_number r.kind) r.offset
