-- The number that C is told.
use Rattle.std.specs.Prelude as prelude
use Rattle.std.specs.Prelude.{ℕ, Ok, Err}
use Rattle.sheet.specs.declared.refusal.RefusalKind.{RefusalKind}
use Rattle.sheet.specs.Refusals.{refusal_number}

-- 0 of a call that answered, otherwise the number of the refusal
abbrev pub returned_of : {A : Type 0} → prelude.Result A RefusalKind → ℕ
returned_of (Ok a) = 0
returned_of (Err kind) = refusal_number kind
