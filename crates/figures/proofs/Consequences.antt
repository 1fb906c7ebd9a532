-- What the promises of the library call come to; drawn from these promises alone, so that a weaker part of them breaks a theorem.
use mathlib.Core.List.{List, []}
use mathlib.Core.Path.{ap, subst, sym, ◌∙◌, ◌≡◌}
use Prim.Native.Nat.{ℕ}
use lib.ListN.{length}
use lib.IntN.{ℤ}
use Rattle.meaning.specs.Demand.{Demand3}
use Rattle.meaning.specs.Answer.{Figures, figures_of}
use Rattle.meaning.specs.Record.{Record}
use Rattle.meaning.specs.Run.{Run}
use Rattle.meaning.specs.Reader.{ok, read}
use Rattle.meaning.specs.Tree.{tree}
use Rattle.meaning.proofs.Consequences.{Largest, Smallest, figures-decided, figures-defined, least-smallest, most-largest}
use Rattle.meaning.proofs.Logic.{ok-injective}
use Rattle.state.specs.declared.State.{State}
use Rattle.state.specs.States.{blank_state}
use Rattle.state.specs.Sums.{sums, visits_of}
use Rattle.stages.specs.Next.{states_after, visits_begun_by}
use Rattle.figures.specs.Demand.{Answered, stages_of}

module _ (sheet : List ℕ) (ps : List ℤ) where
  module _ (rs : List Record) (read_as : read sheet ≡ ok rs) (f : Figures) (answered : Answered sheet ps (ok f)) where
    -- the records that an answered sheet is read as are the only ones
    pub demand-of : Demand3 ps rs (stages_of sheet ps (length rs)) f
    unfolding Answered
    demand-of =
        subst (λ (xs : List Record). Demand3 ps xs (stages_of sheet ps (length xs)) f) (ok-injective (sym answered.1 ∙ read_as)) answered.2

    -- figures that are answered are those of the definitions
    pub answered-figures : f ≡ figures_of ps (tree rs)
    answered-figures = figures-defined demand-of

    -- the least is the smallest and the most the largest cycles of all runs
    pub answered-least : Smallest (Run ps (tree rs) []) f.least
    answered-least = least-smallest demand-of

    pub answered-most : Largest (Run ps (tree rs) []) f.most
    answered-most = most-largest demand-of

    -- every state of the code's stages that stands at the sheet's end holds these figures
    pub answered-state : (n : ℕ) → (states_after sheet ps n).at ≡ length rs →
        (states_after sheet ps n).sums ≡ sums f.least f.most f.visits
    unfolding blank_state
    answered-state n end = ap (λ (s : State). s.sums) (demand-of.only_end n end)

    -- after any number of the code's stages the visits are how many of these began one
    pub answered-begun : (n : ℕ) → visits_of (states_after sheet ps n).sums ≡ visits_begun_by sheet ps n
    answered-begun n = demand-of.counted n

  -- the figures that a call returns for a sheet are the only ones that its promises allow
  pub one_answer : {f g : Figures} → Answered sheet ps (ok f) → Answered sheet ps (ok g) → f ≡ g
  unfolding Answered
  one_answer a b = figures-decided a.2 (demand-of a.0 a.1 _ b)
