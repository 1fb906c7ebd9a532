-- The plan's answer from the walks: the reader's refusals, refusal 6, or the plan.
use mathlib.Core.List.{List, []}
use mathlib.Core.Option.{Option, some, none}
use mathlib.Core.Path.{◌≡◌, ap, refl, sym, ◌∙◌}
use Prim.Native.Nat.{ℕ}
use lib.ListN.{length}
use lib.IntN.{ℤ}
use Rattle.meaning.specs.Record.{Record}
use Rattle.meaning.specs.Reader.{Result, and_then, ok, read, refused}
use Rattle.meaning.specs.Answer.{accepted_by, check_ceilings, sheet_reports}
use Rattle.meaning.specs.Report.{first_over_ceiling}
use Rattle.meaning.proofs.Logic.{refused-is-not-ok}
use Rattle.std.specs.Prelude as Std
use Rattle.std.specs.Prelude.{Ok, Err}
use Rattle.sheet.specs.declared.refusal.Refusal.{Refusal}
use Rattle.sheet.specs.Answers.{refusable, counted}
use Rattle.sheet.specs.Refusals.{refusal_number}
use Rattle.sheet.specs.Sheets.{records_in, records_of}
use Rattle.sheet.proofs.SheetRecords.{records-in-place, counted-refused}
use Rattle.layout.specs.Numbers.{stored_in, joined}
use Rattle.layout.proofs.Storing.{stored-none}
use Rattle.nest.specs.Rows.{rows_of, rows_stored, sheet_start, rows_from}
use Rattle.nest.proofs.RowsOf.{rows-length}
use Rattle.loops.specs.Facts.{facts_stored, loops_in, over_ceiling, sheet_facts, within_ceiling, words_stored, facts_from}
use Rattle.loops.proofs.AtRecord.{facts-count}
use Rattle.loops.proofs.Surveying.{within_all}
use Rattle.planner.specs.Plan.{plan_of, plan_of_records, Plan, limits_in, limits_stored, sheet_plans}
use Rattle.planner.specs.Answers.{plan_count}
use Rattle.planner.proofs.PlanReports.{over-ceiling}

-- ---- the reader's answer

module _ (sheet : List ℕ) (a : Std.Result ℕ Refusal) (is : refusable a ≡ counted (read sheet)) where
  pub count-read : (n : ℕ) → a ≡ Ok n → (read sheet ≡ ok (records_of sheet)) × (n ≡ length (records_of sheet))
  unfolding records_of records_in counted
  count-read n e = go (read sheet) (sym (ap refusable e) ∙ is)
    where
      go : (r : Result (List Record)) → ok n ≡ counted r → (r ≡ ok (records_in r)) × (n ≡ length (records_in r))
      go (ok rs) h = (refl, cc)
      go (refused number place) h = refused-is-not-ok (sym h)

  pub refusal-read : (r : Refusal) → a ≡ Err r → read sheet ≡ refused (refusal_number r.kind) r.offset
  refusal-read r e = counted-refused (read sheet) (refusal_number r.kind) r.offset (sym is ∙ ap refusable e)

-- ---- the plan as it is made: the reader, then the walk, then refusal 6

check_ceilings-then : {A B : Type 0} (o : Option ℕ) (a : A) (f : A → B) → and_then (check_ceilings o a) (λ x. ok (f x)) ≡ check_ceilings o (f a)
unfolding check_ceilings and_then
check_ceilings-then none a f = refl
check_ceilings-then (some at) a f = refl

module _ (sheet : List ℕ) (ps : List ℤ) where
  abbrev over : Option ℕ
  over = over_ceiling (rows_of (records_of sheet)) (sheet_facts ps (records_of sheet))

  -- of a sheet that is refused
  pub plan-unread : {number place : ℕ} → read sheet ≡ refused number place → (plan_of sheet ps ≡ refused number place) × (records_of sheet ≡ [])
  unfolding plan_of accepted_by and_then records_of records_in
  plan-unread e =
      (ap (λ (x : Result (List Record)). and_then (and_then x (λ rs. check_ceilings (first_over_ceiling (sheet_reports ps rs)) rs)) (λ rs. ok (plan_of_records ps rs))) e, ap records_in e)

  plan-read : read sheet ≡ ok (records_of sheet) → plan_of sheet ps ≡ check_ceilings over (plan_of_records ps (records_of sheet))
  unfolding plan_of accepted_by and_then
  plan-read e =
      ap (λ (x : Result (List Record)). and_then (and_then x (λ rs. check_ceilings (first_over_ceiling (sheet_reports ps rs)) rs)) (λ rs. ok (plan_of_records ps rs))) e
      ∙ check_ceilings-then (first_over_ceiling (sheet_reports ps (records_of sheet))) (records_of sheet) (plan_of_records ps)
      ∙ ap (λ o. check_ceilings o (plan_of_records ps (records_of sheet))) (sym (over-ceiling ps (records_of sheet) (records-in-place sheet)))

  module _ (known : read sheet ≡ ok (records_of sheet)) where
    -- of a sheet with a loop above the ceiling
    pub plan-over : (place : ℕ) → over ≡ some place → plan_of sheet ps ≡ refused 6 place
    unfolding check_ceilings
    plan-over place above = plan-read known ∙ ap (λ (x : Option ℕ). check_ceilings x (plan_of_records ps (records_of sheet))) above

    module _ (none_over : over ≡ none) where
      -- of another sheet
      pub plan-made : plan_of sheet ps ≡ ok (plan_of_records ps (records_of sheet))
      unfolding check_ceilings
      plan-made = plan-read known ∙ ap (λ (x : Option ℕ). check_ceilings x (plan_of_records ps (records_of sheet))) none_over

      pub all-within : within_ceiling (sheet_facts ps (records_of sheet)) ≡ loops_in (sheet_facts ps (records_of sheet))
      unfolding rows_of
      all-within =
          within_all (rows_of (records_of sheet)) (sheet_facts ps (records_of sheet)) (rows-length (records_of sheet) sheet_start ∙ sym (facts-count sheet ps)) none_over

-- ---- the contract of the call

module _ (sheet : List ℕ) (ps : List ℤ) (limits : List ℕ) where
  -- what the call answers, and the limits that it leaves
  abbrev Answers : Result ℕ → List ℕ → Type 0
  Answers r limits2 = (r ≡ plan_count (plan_of sheet ps)) × (limits2 ≡ stored_in limits (limits_in (plan_of sheet ps)))

  none-stored : {number place : ℕ} → plan_of sheet ps ≡ refused number place → Answers (refused number place) limits
  unfolding plan_count limits_in
  none-stored e = (sym (ap plan_count e), sym (ap (λ (r : Result Plan). stored_in limits (limits_in r)) e ∙ stored-none limits))

  pub refused_over : read sheet ≡ ok (records_of sheet) → (place : ℕ) → over sheet ps ≡ some place → Answers (refused 6 place) limits
  refused_over known place above = none-stored (plan-over sheet ps known place above)

  pub answered : read sheet ≡ ok (records_of sheet) → over sheet ps ≡ none → (count : ℕ) → count ≡ length (records_of sheet) → {limits2 : List ℕ} → limits2 ≡ stored_in limits (limits_stored (loops_in (sheet_plans ps (records_of sheet)))) →
      Answers (ok count) limits2
  unfolding plan_count limits_in plan_of_records
  answered known none_over count n l =
      let made = plan-made sheet ps known none_over in
      (ap ok n ∙ sym (ap plan_count made), l ∙ sym (ap (λ (r : Result Plan). stored_in limits (limits_in r)) made))

  -- of a sheet that is refused nothing is stored
  pub refused-unread : {number place : ℕ} → read sheet ≡ refused number place → (rows words facts : List ℕ) →
      (refused number place ≡ plan_count (plan_of sheet ps))
      × ((rows ≡ stored_in rows (rows_stored (records_of sheet)))
      × ((words ≡ stored_in words (words_stored (within_ceiling (sheet_facts ps (records_of sheet)))))
      × ((facts ≡ stored_in facts (facts_stored (within_ceiling (sheet_facts ps (records_of sheet)))))
      × (limits ≡ stored_in limits (limits_in (plan_of sheet ps))))))
  unfolding rows_stored rows_of rows_from joined sheet_facts facts_from within_ceiling words_stored facts_stored
  refused-unread e rows words facts =
      let unread = plan-unread sheet ps e in
      let answers = none-stored unread.0 in
      let none = unread.1 in (
        answers.0,
        (
          sym (ap (λ (rs : List Record). stored_in rows (rows_stored rs)) none ∙ stored-none rows),
          (
            sym (ap (λ (rs : List Record). stored_in words (words_stored (within_ceiling (sheet_facts ps rs)))) none ∙ stored-none words),
            (sym (ap (λ (rs : List Record). stored_in facts (facts_stored (within_ceiling (sheet_facts ps rs)))) none ∙ stored-none facts), answers.1),
          ),
        ),
      )
