-- Demand 3, about an answer with figures, as one statement; and what it asks of a sheet's stages whatever the budget.
use Rattle.std.specs.Prelude.{◌≡◌, List, [], ℕ, suc, ◌*◌, ◌≤◌, ◌<◌, ℤ, T, length}
use Rattle.meaning.specs.Limits.{figure_limit, visits_per_loop}
use Rattle.meaning.specs.Record.{Record}
use Rattle.meaning.specs.Tree.{tree, loops}
use Rattle.meaning.specs.Time.{bounds, time}
use Rattle.meaning.specs.Run.{Run}
use Rattle.meaning.specs.Visits as Defined
use Rattle.meaning.specs.Report.{all_closed}
use Rattle.meaning.specs.Stage as Stage
use Rattle.meaning.specs.Stage.{begins_visit, at_end, state, first_state, stage, stages, visits_begun}
use Rattle.meaning.specs.Answer.{Figures, sheet_reports}

-- What the demand asks of stages, those of the definition or those of the code: the state after so many from the sheet's start, how many of them
-- began a visit, the visits that a state holds, whether it stands at the sheet's end, and the state that stands there with given figures.
pub record Staging : Type 1 where
  pub State : Type 0
  pub after : ℕ → State
  pub begun : ℕ → ℕ
  pub visits : State → ℕ
  pub AtEnd : State → Type 0
  pub ended : Figures → State

module _ (parameters : List ℤ) (rs : List Record) where
  -- the stages of the definition
  abbrev pub defined_stages : Staging
  defined_stages = record {
    State = Stage.State;
    after = λ n. stages parameters n (first_state rs);
    begun = λ n. visits_begun parameters n (first_state rs);
    visits = λ s. s.visits;
    AtEnd = λ s. s.remaining ≡ [];
    ended = λ f. state [] (bounds f.least f.most) [] f.visits;
  }

  -- the stages of a sheet that the reader accepts, from its start: after any number of them the visits are those begun and no more than the
  -- definition's; so many stages begin a visit, and every further one comes to the sheet's end, with the figures and visits of the definitions
  pub record StagesReach : Type 0 where
    pub counted : (n : ℕ) → (stages parameters n (first_state rs)).visits ≡ visits_begun parameters n (first_state rs)
    pub rising : (n : ℕ) → (stages parameters n (first_state rs)).visits ≤ (stages parameters (suc n) (first_state rs)).visits
    pub bounded : (n : ℕ) → (stages parameters n (first_state rs)).visits ≤ Defined.visits parameters (tree rs) [] []
    pub begins : (n : ℕ) → n < Defined.visits parameters (tree rs) [] [] →
        stage parameters (stages parameters n (first_state rs)) ≡ begins_visit (stages parameters (suc n) (first_state rs))
    pub ends : (n : ℕ) → Defined.visits parameters (tree rs) [] [] ≤ n →
        stage parameters (stages parameters n (first_state rs)) ≡ at_end (state [] (time parameters (tree rs) []) [] (Defined.visits parameters (tree rs) [] []))
    pub reached : (n : ℕ) → Defined.visits parameters (tree rs) [] [] < n →
        stages parameters n (first_state rs) ≡ state [] (time parameters (tree rs) []) [] (Defined.visits parameters (tree rs) [] [])
    pub only_end : (n : ℕ) → (stages parameters n (first_state rs)).remaining ≡ [] →
        stages parameters n (first_state rs) ≡ state [] (time parameters (tree rs) []) [] (Defined.visits parameters (tree rs) [] [])
    pub none_before : (n : ℕ) → n ≤ Defined.visits parameters (tree rs) [] [] → (stages parameters n (first_state rs)).remaining ≡ [] → (n ≡ 0) × (rs ≡ [])

  -- the answer f to the sheet with these records
  pub record Demand3 (s : Staging) (f : Figures) : Type 0 where
    -- every run takes no fewer cycles than the least and no more than the most
    pub never_below : (cycles : ℕ) → Run parameters (tree rs) [] cycles → f.least ≤ cycles
    pub never_above : (cycles : ℕ) → Run parameters (tree rs) [] cycles → cycles ≤ f.most
    -- one run takes exactly the least, and one exactly the most
    pub fastest : Run parameters (tree rs) [] f.least
    pub slowest : Run parameters (tree rs) [] f.most
    -- demand 2: the figures are those of adding up the sheet trip by trip, and small
    pub trip_by_trip : time parameters (tree rs) [] ≡ bounds f.least f.most
    pub small : f.most < figure_limit
    -- one stage more than the visits reaches the sheet's end, and the two figures and the visits are those of the state there
    pub reached : s.AtEnd (s.after (suc f.visits))
    pub final : s.after (suc f.visits) ≡ s.ended f
    -- every state of the stages that stands at the sheet's end is that one, and none before it stands there, save the first of an empty sheet
    pub only_end : (n : ℕ) → s.AtEnd (s.after n) → s.after n ≡ s.ended f
    pub none_before : (n : ℕ) → n ≤ f.visits → s.AtEnd (s.after n) → (n ≡ 0) × (rs ≡ [])
    -- after any number of stages the visits are how many of these began one; those answered are how many began one on the way to the sheet's
    -- end, and those of the definition (`Visits`)
    pub counted : (n : ℕ) → s.visits (s.after n) ≡ s.begun n
    pub begun : f.visits ≡ s.begun (suc f.visits)
    pub defined : f.visits ≡ Defined.visits parameters (tree rs) [] []
    -- where every loop is closed, at most visits_per_loop times the number of loops; there is one report a loop
    pub few : T (all_closed (sheet_reports parameters rs)) → f.visits ≤ visits_per_loop * loops (tree rs)
    pub reported : length (sheet_reports parameters rs) ≡ loops (tree rs)
