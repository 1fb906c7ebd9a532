-- A refusal that a `?` passes on stays what it is.
use mathlib.Core.Path.{◌≡◌}
use Rattle.std.specs.Prelude.{Ok, Err}
use Rattle.std.specs.Prelude as prelude
use Rattle.std.specs.Result.{IsErrAnd}
use Rattle.meaning.specs.Reader.{refused}
use Rattle.sheet.specs.declared.refusal.Refusal.{Refusal}
use Rattle.sheet.specs.Refusals.{refusal_number}
use Rattle.sheet.specs.Answers.{refusable}

pub passed-on : {A : Type 0} (r : prelude.Result A Refusal) (e : Refusal) → IsErrAnd r (λ y. y ≡ e) → refusable r ≡ refused (refusal_number e.kind) e.offset
passed-on (Ok x) e h = absurd h
passed-on (Err y) e h = λ i. refused (refusal_number (h i).kind) (h i).offset
