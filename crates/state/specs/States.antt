-- The state of a stage, and the first state.
use Rattle.std.specs.Prelude.{ℕ}
use Rattle.state.specs.declared.State.{State}
use Rattle.state.specs.declared.sums.Sums.{Sums}
use Rattle.state.specs.declared.open.Open.{Open}
use Rattle.state.specs.Sums.{sums}
use Rattle.state.specs.Open.{nothing_open}

-- where it stands, its sums, and what is open
abbrev pub state_with : ℕ → Sums → Open → State
state_with at sums opened = record { at = at; sums = sums; opened = opened }

-- nothing open: where it stands, least, most and visits
unfoldable pub blank_state : ℕ → ℕ → ℕ → ℕ → State
blank_state at least most visits = state_with at (sums least most visits) nothing_open

-- "The first state stands at the sheet's start with sums and visits 0"
unfoldable pub first_state : State
first_state = blank_state 0 0 0 0
