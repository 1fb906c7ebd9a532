-- Demand 3, of every answer with figures, over the stages of the stage's own contract; and that only the visits fall (C-18).
use mathlib.Core.List.{List}
use mathlib.Core.Path.{ap, subst, sym, ◌∙◌, ◌≡◌}
use Prim.Native.Nat.{suc, ℕ}
use native.Mathlib.Omega.{arith}
use lib.ListN.{length}
use lib.IntN.{ℤ}
use Rattle.meaning.specs.Demand.{Demand3, defined_stages}
use Rattle.meaning.specs.Answer.{Figures, answer}
use Rattle.meaning.specs.EarlierVisits.{earlier_answer, OnlyVisitsFall}
use Rattle.meaning.specs.Record.{Record}
use Rattle.meaning.specs.Reader.{Result, ok, refused}
use Rattle.meaning.proofs.Answers.{accepted-within, answer_ok}
use Rattle.meaning.proofs.Demands.{demand3}
use Rattle.meaning.proofs.FewerVisits.{answer-falls}
use Rattle.meaning.proofs.Logic.{ok-injective}
use Rattle.loops.proofs.Sizes.{SmallParameters}
use Rattle.state.specs.declared.State.{State}
use Rattle.state.specs.States.{blank_state}
use Rattle.stages.specs.Laws.{StageLaws, end_state}
use Rattle.stages.specs.Next.{states_after}
use Rattle.stages.proofs.Laws.{stage_laws}
use Rattle.figures.specs.Demand.{Answered, stages_of}

module _ (sheet : List ℕ) (ps : List ℤ) where
  -- the definition's stages and the code's say the same
  over-code : (rs : List Record) (f : Figures) → StageLaws sheet ps rs → Demand3 ps rs (defined_stages ps rs) f → Demand3 ps rs (stages_of sheet ps (length rs)) f
  unfolding end_state blank_state
  over-code rs f laws d =
      let end : end_state ps rs ≡ blank_state (length rs) f.least f.most f.visits =
      λ t. blank_state (length rs) (d.trip_by_trip t).least (d.trip_by_trip t).most (sym d.defined t) in
      let final = ap (λ (v : ℕ). states_after sheet ps (suc v)) d.defined ∙ laws.reached ∙ end in
      record {
        never_below = d.never_below;
        never_above = d.never_above;
        fastest = d.fastest;
        slowest = d.slowest;
        trip_by_trip = d.trip_by_trip;
        small = d.small;
        reached = ap (λ (s : State). s.at) final;
        final = final;
        only_end = λ n h. laws.ended n h ∙ end;
        none_before = λ n few h. laws.none_before n (omega (arith, d.defined)) h;
        counted = laws.counted;
        begun = d.begun ∙ sym (laws.begun_alike (suc f.visits));
        defined = d.defined;
        few = d.few;
        reported = d.reported;
      }

  -- whatever the budget
  pub answer-demand : SmallParameters ps → (budget : ℕ) (r : Result Figures) → r ≡ answer sheet ps budget → Answered sheet ps r
  unfolding Answered
  answer-demand small budget (ok f) e =
      let a = (answer_ok sheet ps budget f).0 (sym e) in
      let d = demand3 ps sheet budget f (sym e) in
      let accepts = accepted-within sheet ps a.rs a.read_as a.ceilings_within ∙ ap {B = Result (List Record)} ok (ok-injective (sym a.read_as ∙ d.1)) in
      (d.0, d.1, over-code d.0 f (stage_laws sheet ps d.0 small accepts) d.2)
  answer-demand small budget (refused number place) e = tt

  -- both promises of the library call, where what it returns is what the sums say
  pub promised : SmallParameters ps → (budget : ℕ) {r s : Result Figures} → r ≡ s → s ≡ answer sheet ps budget → (r ≡ answer sheet ps budget) × Answered sheet ps r
  promised small budget {r} same e = (same ∙ e, answer-demand small budget r (same ∙ e))

  -- only the visits fall where loops are ranked
  pub only-visits-fall : (budget : ℕ) {r : Result Figures} → r ≡ answer sheet ps budget → OnlyVisitsFall (earlier_answer sheet ps budget) r
  only-visits-fall budget e = subst (OnlyVisitsFall (earlier_answer sheet ps budget)) (sym e) (answer-falls sheet ps budget)
