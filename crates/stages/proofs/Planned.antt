-- The next state from a sheet's plan as a call of `plan` leaves it, and from a refusal.
use mathlib.Core.List.{List}
use mathlib.Core.Path.{ap, sym, ◌∙◌, ◌≡◌}
use Prim.Native.Nat.{ℕ}
use lib.ListN.{length, replicate}
use lib.IntN.{ℤ}
use Rattle.meaning.specs.Record.{Record}
use Rattle.meaning.specs.Reader.{Result, ok, refused}
use Rattle.meaning.specs.Answer.{accepted}
use Rattle.layout.specs.Numbers.{array_of, stored_in}
use Rattle.layout.specs.Loops.{differences_length, facts_length, limits_length}
use Rattle.layout.specs.Rows.{rows_length}
use Rattle.sheet.specs.Sheets.{records_of}
use Rattle.nest.specs.Rows.{rows_stored}
use Rattle.loops.specs.Facts.{facts_stored, sheet_facts, within_ceiling, words_stored}
use Rattle.planner.specs.Plan.{Plan, limits_in, plan_of, plan_of_records}
use Rattle.planner.proofs.Planned.{accepted-plan, plan-stored, refused-plan}
use Rattle.state.specs.declared.State.{State}
use Rattle.evaluator.specs.Machine.{next_on, stage_on}
use Rattle.stages.specs.Next.{next_state, stage, stage_for}

-- what is stored in a blank array
pub in_blank : (n : ℕ) (numbers : List ℕ) {before after : List ℕ} → before ≡ replicate n 0 → after ≡ stored_in before numbers → after ≡ array_of n numbers
in_blank n numbers blank stored = stored ∙ ap (λ (xs : List ℕ). stored_in xs numbers) blank

module _ (sheet : List ℕ) (ps : List ℤ) where
  -- on the arrays of the plan
  pub next-planned : (rs : List Record) → accepted sheet ps ≡ ok rs → {rows words facts limits : List ℕ} →
      rows ≡ array_of rows_length (rows_stored (records_of sheet)) →
      words ≡ array_of differences_length (words_stored (within_ceiling (sheet_facts ps (records_of sheet)))) →
      facts ≡ array_of facts_length (facts_stored (within_ceiling (sheet_facts ps (records_of sheet)))) →
      limits ≡ array_of limits_length (limits_in (plan_of sheet ps)) → {count : ℕ} → count ≡ length rs → (s : State) → {t : State} →
      next_on rows words limits count s ≡ t → t ≡ next_state sheet ps s
  unfolding next_on next_state stage stage_for plan_of_records
  next-planned rs e r w f l n s t =
      let stored = plan-stored sheet ps rs e (replicate rows_length 0) (replicate differences_length 0) (replicate facts_length 0) (replicate limits_length 0) r w f l in
      let rows_are = stored.rows_are in
      let words_are = stored.words_are in
      let limits_are = stored.limits_are in
      sym t ∙ (λ i. (stage_on (rows_are i) (words_are i) (limits_are i) (n i) s).after)
      ∙ sym (ap (λ (p : Result Plan). (stage_for p s).after) (accepted-plan sheet ps rs e).plan_is)

  -- where the sheet is refused 1 to 6 the state stays as it is
  pub next-refused : {number place : ℕ} → accepted sheet ps ≡ refused number place → (s : State) → s ≡ next_state sheet ps s
  unfolding next_state stage stage_for
  next-refused e s = sym (ap (λ (p : Result Plan). (stage_for p s).after) (refused-plan sheet ps e))
