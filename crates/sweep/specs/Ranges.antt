-- The number and the values that document 02 gives to each case of the answer over a range.
use Rattle.std.specs.Prelude as prelude
use Rattle.std.specs.Prelude.{Ok, Err}
use Rattle.meaning.specs.Reader.{Result, ok, refused}
use Rattle.ranges.specs.Extremes as Meaning
use Rattle.ranges.specs.Extremes.{extremes_found}
use Rattle.sheet.specs.declared.refusal.Refusal.{Refusal}
use Rattle.sheet.specs.Refusals.{refusal_number}
use Rattle.sweep.specs.declared.extremes.Extremes.{Extremes}

abbrev pub extremes_is : Extremes → Meaning.Extremes
extremes_is e = extremes_found e.least.cycles e.least.value e.most.cycles e.most.value e.visits

-- the five numbers, or a refusal with its number and its place
abbrev pub range_result : prelude.Result Extremes Refusal → Result Meaning.Extremes
range_result (Ok e) = ok (extremes_is e)
range_result (Err r) = refused (refusal_number r.kind) r.offset
