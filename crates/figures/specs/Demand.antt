-- Demand 3, about an answer with figures, over the stages that the stage's own contract cites.
use Rattle.std.specs.Prelude.{◌≡◌, List, ℕ, ℤ, length}
use Rattle.meaning.specs.Record.{Record}
use Rattle.meaning.specs.Reader.{Result, ok, refused, read}
use Rattle.meaning.specs.Answer.{Figures}
use Rattle.meaning.specs.Demand.{Staging, Demand3}
use Rattle.state.specs.Sums.{visits_of}
use Rattle.state.specs.declared.State.{State}
use Rattle.state.specs.States.{blank_state}
use Rattle.stages.specs.Next.{states_after, visits_begun_by}

module _ (sheet : List ℕ) (parameters : List ℤ) where
  -- the stages of a sheet with so many records: "the two figures and the visits are those of the state in which the stages reach its end"
  abbrev pub stages_of : ℕ → Staging
  stages_of count = record {
    State = State;
    after = states_after sheet parameters;
    begun = visits_begun_by sheet parameters;
    visits = λ s. visits_of s.sums;
    AtEnd = λ s. s.at ≡ count;
    ended = λ f. blank_state count f.least f.most f.visits;
  }

  -- the library call's answer: of figures the demand holds, for the records that the sheet is read as
  unfoldable pub Answered : Result Figures → Type 0
  Answered (ok f) = (rs : List Record) × (read sheet ≡ ok rs) × Demand3 parameters rs (stages_of (length rs)) f
  Answered (refused number place) = Unit {0}
