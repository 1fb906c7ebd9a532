-- The code's range as the meaning's.
use Rattle.ranges.specs.ParameterRange as Meaning
use Rattle.sweep.specs.declared.values.ParameterRange.{ParameterRange}

abbrev pub range_of : ParameterRange → Meaning.ParameterRange
range_of r = record { number = r.number; first = r.first; last = r.last }
