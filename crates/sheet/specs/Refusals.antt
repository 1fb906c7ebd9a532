-- Refusals as document 01 numbers them.
use Rattle.std.specs.Prelude.{ℕ}
use Rattle.sheet.specs.declared.refusal.RefusalKind.{RefusalKind}
use Rattle.sheet.specs.declared.refusal.RefusalKind.TheVariants as kind

abbrev pub refusal_number : RefusalKind → ℕ
refusal_number kind.CutShort = 1
refusal_number kind.UnknownKind = 2
refusal_number kind.FieldOutOfRange = 3
refusal_number kind.TooManyRecords = 4
refusal_number kind.Misplaced = 5
refusal_number kind.OverCeiling = 6
refusal_number kind.BadBudget = 7
refusal_number kind.TooManyVisits = 8
refusal_number kind.ShortBuffer = 9
refusal_number kind.LosesSkip = 10
refusal_number kind.BadRange = 11
refusal_number kind.ShortText = 12
