-- What the answer is where a sheet has a plan: what the sums say of the state in which the repeated stage stops.
use mathlib.Core.List.{List}
use mathlib.Core.Path.{ap, refl, sym, ◌∙◌, ◌≡◌}
use mathlib.Core.Logic.{inl, inr, ◌⊎◌}
use Prim.Native.Nat.{◌<◌, ℕ, ◌≤◌}
use native.Mathlib.Omega.{arith}
use native.Mathlib.Decide.{dec_le}
use lib.ListN.{length}
use lib.IntN.{ℤ}
use borrow.Author.Tests.{le-leb, lt-leb}
use Rattle.meaning.specs.Answer.{accepted, answer, check_visits, figures_of, Figures}
use Rattle.meaning.specs.Record.{Record}
use Rattle.meaning.specs.Reader.{ok, refused, require}
use Rattle.meaning.specs.Tree.{tree}
use Rattle.meaning.proofs.Answers.{BudgetInRange, answer-figures, answer-spent}
use Rattle.sheet.specs.Sheets.{records_of}
use Rattle.layout.specs.Numbers.{array_of}
use Rattle.layout.specs.Loops.{differences_length, facts_length, limits_length}
use Rattle.layout.specs.Rows.{rows_length}
use Rattle.nest.specs.Rows.{rows_stored}
use Rattle.loops.specs.Facts.{facts_stored, sheet_facts, within_ceiling, words_stored}
use Rattle.loops.proofs.Sizes.{SmallParameters}
use Rattle.planner.specs.Plan.{limits_in, plan_of}
use Rattle.layout.specs.declared.PlanArrays.{PlanArrays}
use Rattle.state.specs.declared.State.{State}
use Rattle.state.specs.declared.sums.Sums.{Sums}
use Rattle.state.specs.States.{blank_state}
use Rattle.state.specs.Sums.{visits_of}
use Rattle.stages.specs.Laws.{end_state}
use Rattle.stages.proofs.Planned.{next-planned}
use Rattle.stages.proofs.Laws.{stage_laws}
use Rattle.std.specs.Prelude as prelude
use Rattle.std.specs.Prelude.{Ok, Err}
use Rattle.std.specs.Result.{IsErrAnd}
use Rattle.sheet.specs.declared.refusal.Refusal.{Refusal}
use Rattle.sheet.specs.Refusals.{refusal_number}
use Rattle.figures.specs.declared.Figures as Code
use Rattle.figures.specs.Answers.{answer_result}
use Rattle.figures.specs.Repeat.{Planned, figures_at, states_on, Reached}
use Rattle.figures.proofs.Repeats.{end_same, states-same}

-- a refusal that is passed on
pub passed_on : (r : prelude.Result Code.Figures Refusal) (e : Refusal) → IsErrAnd r (λ y. y ≡ e) → answer_result r ≡ refused (refusal_number e.kind) e.offset
passed_on (Ok x) e h = absurd h
passed_on (Err y) e h = λ i. refused (refusal_number (h i).kind) (h i).offset

-- ---- refusal 8

pub check-within : (budget : ℕ) (f : Figures) → f.visits ≤ budget → check_visits budget f ≡ ok f
unfolding check_visits require
check-within budget f h = ap (λ c. require c 8 0 (ok f)) (le-leb f.visits budget h)

pub check-spent : (budget : ℕ) (f : Figures) → budget < f.visits → check_visits budget f ≡ refused 8 0
unfolding check_visits require
check-spent budget f h = ap (λ c. require c 8 0 (ok f)) (lt-leb f.visits budget h)

-- Of a sheet that is not refused 1 to 6, where a call of `plan` left these arrays.
module _ (sheet : List ℕ) (ps : List ℤ) (small : SmallParameters ps) (rs : List Record) (e : accepted sheet ps ≡ ok rs) {plan : PlanArrays}
    (r : plan.rows ≡ array_of rows_length (rows_stored (records_of sheet)))
    (w : plan.differences ≡ array_of differences_length (words_stored (within_ceiling (sheet_facts ps (records_of sheet)))))
    (f : plan.facts ≡ array_of facts_length (facts_stored (within_ceiling (sheet_facts ps (records_of sheet)))))
    (l : plan.limits ≡ array_of limits_length (limits_in (plan_of sheet ps))) {count : ℕ} (n : count ≡ length rs) where
  pub planned : Planned plan count
  planned = record {
    sheet = sheet;
    parameters = ps;
    rs = rs;
    next = λ s. next-planned sheet ps rs e r w f l n s refl;
    counted = n;
    laws = stage_laws sheet ps rs small e;
  }

  module _ (budget : ℕ) (range : BudgetInRange budget) where
    by-figures : check_visits budget (figures_of ps (tree rs)) ≡ answer sheet ps budget
    unfolding figures_of
    by-figures =
        let whole : Figures = figures_of ps (tree rs) in
        elim (dec_le whole.visits budget) [
          | yes h ↦ check-within budget whole h ∙ sym (answer-figures sheet ps budget rs range e h)
          | no h ↦ check-spent budget whole (omega arith) ∙ sym (answer-spent sheet ps budget rs range e (omega arith))
        ]

    -- the state in which the stages stop says the answer
    pub stopped-answer : {sums : Sums} → Reached plan count budget sums → check_visits budget (figures_at sums) ≡ answer sheet ps budget
    unfolding figures_of end_state blank_state planned
    stopped-answer {sums} reached = go reached.stopped
      where
        go : ((states_on plan count reached.stages).at ≡ count) ⊎ (budget < visits_of sums) → check_visits budget (figures_at sums) ≡ answer sheet ps budget
        go (inl end) =
            ap (λ (x : Sums). check_visits budget (figures_at x)) (reached.sums_are ∙ ap (λ (s : State). s.sums) (end_same planned reached.stages end)) ∙ by-figures
        go (inr over) =
            let bound = planned.laws.bounded reached.stages in
            let same = ap visits_of (reached.sums_are ∙ ap (λ (s : State). s.sums) (states-same planned reached.stages)) in
            check-spent budget (figures_at sums) over ∙ sym (answer-spent sheet ps budget rs range e (omega arith))
