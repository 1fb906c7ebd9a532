-- What a call of `plan` answers and leaves, read back: the refusal, or the sheet's records and its plan in the arrays.
use mathlib.Core.List.{List, []}
use mathlib.Core.Path.{ap, refl, sym, ◌∙◌, ◌≡◌}
use Prim.Native.Nat.{ℕ}
use lib.ListN.{length}
use lib.IntN.{ℤ}
use Rattle.meaning.specs.Record.{Record}
use Rattle.meaning.specs.Reader.{Result, and_then, ok, refused}
use Rattle.meaning.specs.Answer.{accepted}
use Rattle.meaning.proofs.Answers.{accepted-ok}
use Rattle.meaning.proofs.Logic.{and_then-yes, ok-injective, refused-is-not-ok}
use Rattle.meaning.proofs.Accepted.{read-in-place}
use Rattle.sheet.specs.declared.refusal.Refusal.{Refusal}
use Rattle.layout.specs.Numbers.{stored_in}
use Rattle.sheet.specs.Sheets.{records_in, records_of}
use Rattle.nest.specs.Rows.{rows_of, rows_stored, sheet_start}
use Rattle.nest.proofs.RowsOf.{rows-length}
use Rattle.loops.specs.Facts.{LoopFacts, facts_stored, loops_in, over_ceiling, sheet_facts, within_ceiling, words_stored}
use Rattle.loops.specs.Enclosing.{nothing_open}
use Rattle.loops.proofs.Facts.{facts-length}
use Rattle.loops.proofs.Surveying.{within_all}
use Rattle.std.specs.Prelude as Std
use Rattle.std.specs.Prelude.{Ok, Err}
use Rattle.sheet.specs.Refusals.{refusal_number}
use Rattle.sheet.specs.Answers.{refusable}
use Rattle.planner.specs.Plan.{Plan, limits_in, plan_of, plan_of_records}
use Rattle.planner.specs.Known.{PlanHeld}
use Rattle.planner.specs.Answers.{plan_count}
use Rattle.planner.proofs.PlanReports.{over-ceiling}
use mathlib.Core.Option.{none}

-- the plan of a sheet that is not refused 1 to 6 is that of its records, and no ceiling is above the limit
pub record AcceptedPlan (sheet : List ℕ) (ps : List ℤ) (rs : List Record) : Type 0 where
  pub records_are : records_of sheet ≡ rs
  pub loops_are : within_ceiling (sheet_facts ps (records_of sheet)) ≡ loops_in (sheet_facts ps rs)
  pub plan_is : plan_of sheet ps ≡ ok (plan_of_records ps rs)

pub accepted-plan : (sheet : List ℕ) (ps : List ℤ) (rs : List Record) → accepted sheet ps ≡ ok rs → AcceptedPlan sheet ps rs
unfolding records_of records_in plan_of rows_of
accepted-plan sheet ps rs e =
    let known = (accepted-ok sheet ps rs).0 e in
    let same : records_of sheet ≡ rs = ap records_in known.0 in
    let none_over : over_ceiling (rows_of rs) (sheet_facts ps rs) ≡ none = over-ceiling ps rs (read-in-place sheet rs known.0) ∙ known.1 in
    let all = within_all (rows_of rs) (sheet_facts ps rs) (rows-length rs sheet_start ∙ sym (unfold sheet_facts in facts-length ps [] nothing_open rs)) none_over in
    record {
      records_are = same;
      loops_are = ap (λ (x : List Record). within_ceiling (sheet_facts ps x)) same ∙ all;
      plan_is = and_then-yes (λ xs. ok (plan_of_records ps xs)) e;
    }

-- a plan is that of an accepted sheet, and a refusal is the sheet's
module _ (sheet : List ℕ) (ps : List ℤ) (answer : Std.Result ℕ Refusal) (is : refusable answer ≡ plan_count (plan_of sheet ps)) where
  pub planned-count : {n : ℕ} → answer ≡ Ok n → (rs : List Record) × (accepted sheet ps ≡ ok rs) × (n ≡ length rs)
  unfolding plan_of plan_of_records and_then plan_count
  planned-count {n} e = go (accepted sheet ps) (sym (ap refusable e) ∙ is)
    where
      go : (r : Result (List Record)) → ok n ≡ plan_count (and_then r (λ xs. ok (plan_of_records ps xs))) → (rs : List Record) × (r ≡ ok rs) × (n ≡ length rs)
      go (ok rs) h = (rs, refl, ok-injective h)
      go (refused number place) h = refused-is-not-ok (sym h)

  pub planned-refused : {r : Refusal} → answer ≡ Err r → accepted sheet ps ≡ refused (refusal_number r.kind) r.offset
  unfolding plan_of and_then plan_count
  planned-refused {r} e = go (accepted sheet ps) (sym (ap refusable e) ∙ is)
    where
      go : (x : Result (List Record)) → refused (refusal_number r.kind) r.offset ≡ plan_count (and_then x (λ xs. ok (plan_of_records ps xs))) → x ≡ refused (refusal_number r.kind) r.offset
      go (ok rs) h = refused-is-not-ok h
      go (refused number place) h = let p : number ≡ refusal_number r.kind = cc in let q : place ≡ r.offset = cc in λ i. refused (p i) (q i)

pub refused-plan : (sheet : List ℕ) (ps : List ℤ) {number place : ℕ} → accepted sheet ps ≡ refused number place → plan_of sheet ps ≡ refused number place
unfolding plan_of and_then
refused-plan sheet ps e = ap (λ (r : Result (List Record)). and_then r (λ xs. ok (plan_of_records ps xs))) e

-- what the arrays hold that a call of `plan` left, where the sheet is accepted
module _ (sheet : List ℕ) (ps : List ℤ) (rs : List Record) (e : accepted sheet ps ≡ ok rs) (rows₀ words₀ facts₀ limits₀ : List ℕ) {rows words facts limits : List ℕ}
    (r : rows ≡ stored_in rows₀ (rows_stored (records_of sheet))) (w : words ≡ stored_in words₀ (words_stored (within_ceiling (sheet_facts ps (records_of sheet)))))
    (f : facts ≡ stored_in facts₀ (facts_stored (within_ceiling (sheet_facts ps (records_of sheet))))) (l : limits ≡ stored_in limits₀ (limits_in (plan_of sheet ps))) where
  abbrev made : Plan
  made = plan_of_records ps rs

  pub record PlanStored : Type 0 where
    pub rows_are : rows ≡ stored_in rows₀ made.rows
    pub words_are : words ≡ stored_in words₀ made.differences
    pub facts_are : facts ≡ stored_in facts₀ made.facts
    pub limits_are : limits ≡ stored_in limits₀ made.limits

  pub plan-stored : PlanStored
  unfolding plan_of_records limits_in
  plan-stored =
      let known = accepted-plan sheet ps rs e in
      record {
        rows_are = r ∙ ap (λ (x : List Record). stored_in rows₀ (rows_stored x)) known.records_are;
        words_are = w ∙ ap (λ (x : List LoopFacts). stored_in words₀ (words_stored x)) known.loops_are;
        facts_are = f ∙ ap (λ (x : List LoopFacts). stored_in facts₀ (facts_stored x)) known.loops_are;
        limits_are = l ∙ ap (λ (x : Result Plan). stored_in limits₀ (limits_in x)) known.plan_is;
      }

  pub plan-held : PlanHeld ps rs rows words facts limits
  unfolding plan_of_records
  plan-held = record {
    sheet_is = record {
      rows_are = record { before = rows₀; are = plan-stored.rows_are };
      loops_are = record { words_before = words₀; words_are = plan-stored.words_are; facts_before = facts₀; facts_are = plan-stored.facts_are };
    };
    limits_before = limits₀;
    limits_are = plan-stored.limits_are;
  }
