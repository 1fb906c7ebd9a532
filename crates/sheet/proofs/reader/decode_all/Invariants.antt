-- The invariant: the records before this one are stored, and this one stands at `at`.
use Rattle.sheet.proofs.Decoding.{Decoding}
use Rattle.sheet.proofs.reader.decode_all.Given as goal

abbrev pub invariant-loop-record : goal.invariant-loop-record
invariant-loop-record l = Decoding l.sheet l.count l.record-items l.at l.record-index
