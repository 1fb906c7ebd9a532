-- The invariant: the records before `at` are read, and what stands from there on settles the rest. The measure is what is left of the sheet.
use Prim.Native.Nat.{◌-◌}
use lib.ListN.{length}
use Rattle.sheet.proofs.Reading.{Reading}
use Rattle.sheet.proofs.reader.check_sheet.Given as goal

abbrev pub invariant-loop-at : goal.invariant-loop-at
invariant-loop-at l = Reading l.sheet l.at l.count l.here

abbrev pub decreases-loop-at : goal.decreases-loop-at
decreases-loop-at l = length l.sheet - l.at
