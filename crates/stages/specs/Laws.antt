-- What is promised of the stages of a sheet that is not refused 1 to 6, from the first state on, whatever the budget.
use Rattle.std.specs.Prelude.{◌≡◌, true, false, List, [], ◌⊎◌, ℕ, suc, ◌≤◌, ◌<◌, ℤ, length}
use Rattle.meaning.specs.Limits.{figure_limit}
use Rattle.meaning.specs.Record.{Record}
use Rattle.meaning.specs.Tree.{tree}
use Rattle.meaning.specs.Time.{time}
use Rattle.meaning.specs.Visits as Defined
use Rattle.meaning.specs.Stage as Meaning
use Rattle.state.specs.declared.State.{State}
use Rattle.state.specs.States.{blank_state}
use Rattle.state.specs.Sums.{visits_of}
use Rattle.stages.specs.Next.{stage, states_after, visits_begun_by}
use Rattle.stages.specs.Represent.{struct_of}

module _ (parameters : List ℤ) (rs : List Record) where
  -- the visits of the definition
  abbrev pub defined_visits : ℕ
  defined_visits = Defined.visits parameters (tree rs) [] []

  -- the state at the sheet's end: the least and the most of the definition, the visits, and nothing open
  unfoldable pub end_state : State
  end_state = blank_state (length rs) (time parameters (tree rs) []).least (time parameters (tree rs) []).most defined_visits

-- of the sheet with the records rs
pub record StageLaws (sheet : List ℕ) (parameters : List ℤ) (rs : List Record) : Type 0 where
  -- the code's stages are the definition's: after any number of them it is the whole struct of the definition's state, so no number was cut
  -- off; and the same stages begin a visit
  pub in_step : (n : ℕ) → states_after sheet parameters n ≡ struct_of parameters rs (Meaning.stages parameters n (Meaning.first_state rs))
  pub begun_alike : (n : ℕ) → visits_begun_by sheet parameters n ≡ Meaning.visits_begun parameters n (Meaning.first_state rs)
  -- after any number of stages the visits are how many of these began one
  pub counted : (n : ℕ) → visits_of (states_after sheet parameters n).sums ≡ visits_begun_by sheet parameters n
  -- they never fall, and never pass those of the definition, which are small
  pub rising : (n : ℕ) → visits_of (states_after sheet parameters n).sums ≤ visits_of (states_after sheet parameters (suc n)).sums
  pub bounded : (n : ℕ) → visits_of (states_after sheet parameters n).sums ≤ defined_visits parameters rs
  pub small : defined_visits parameters rs < figure_limit
  -- each of the first stages, as many as there are visits, begins one, and no further one does
  pub begins : (n : ℕ) → n < defined_visits parameters rs → (stage sheet parameters (states_after sheet parameters n)).begun ≡ true
  pub begins_no_more : (n : ℕ) → defined_visits parameters rs ≤ n → (stage sheet parameters (states_after sheet parameters n)).begun ≡ false
  -- so a stage begins a visit or comes to the sheet's end
  pub onward : (n : ℕ) → (visits_of (states_after sheet parameters (suc n)).sums ≡ suc (visits_of (states_after sheet parameters n).sums)) ⊎ (states_after sheet parameters (suc n) ≡ end_state parameters rs)
  -- one stage more than the visits reaches the sheet's end, with the least, the most and the visits of the definitions, the whole struct
  pub reached : states_after sheet parameters (suc (defined_visits parameters rs)) ≡ end_state parameters rs
  -- further stages stay there; and a state that stands at the sheet's end is this one
  pub stays : (n : ℕ) → defined_visits parameters rs < n → states_after sheet parameters n ≡ end_state parameters rs
  pub ended : (n : ℕ) → (states_after sheet parameters n).at ≡ length rs → states_after sheet parameters n ≡ end_state parameters rs
  -- and none before it stands there, save the first of an empty sheet
  pub none_before : (n : ℕ) → n ≤ defined_visits parameters rs → (states_after sheet parameters n).at ≡ length rs → (n ≡ 0) × (rs ≡ [])
