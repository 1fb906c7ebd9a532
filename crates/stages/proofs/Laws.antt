-- The stages of every sheet that is not refused 1 to 6, at parameters of 16 bits, keep all that is promised of them.
use mathlib.Core.List.{List, [], ◌∷◌}
use mathlib.Core.Path.{ap, ap₂, refl, sym, ◌∙◌, ◌≡◌}
use mathlib.Core.Logic.{inl, inr, ◌⊎◌}
use mathlib.Core.Option.{none}
use mathlib.Core.Bool.{true}
use Prim.Native.Nat.{◌-◌, ◌<◌, suc, ℕ, ◌≤◌, ◌+◌, zero}
use native.Mathlib.Omega.{arith}
use native.Mathlib.Decide.{dec_le}
use lib.ListN.{length, length-append, replicate}
use lib.IntN.{ℤ}
use Rattle.meaning.specs.Time.{time, Bounds}
use Rattle.meaning.specs.Record.{Record}
use Rattle.meaning.specs.Reader.{Result, and_then, ok, read}
use Rattle.meaning.specs.Demand.{StagesReach}
use Rattle.meaning.specs.Stage.{State, Step, stages, state, state_of, trips_kept, visit_begun, visits_begun}
use Rattle.meaning.specs.Answer.{accepted, sheet_reports}
use Rattle.meaning.specs.Limits.{figure_limit, record_limit}
use Rattle.meaning.specs.Report.{first_over_ceiling}
use Rattle.meaning.specs.Tree.{tree, records}
use Rattle.meaning.specs.Stage as Meaning
use Rattle.meaning.proofs.Accepted.{Formed, read-formed, read-in-place, read_short}
use Rattle.meaning.proofs.Answers.{accepted-ok}
use Rattle.meaning.proofs.SmallFigures.{figures-small, visits-small}
use Rattle.meaning.proofs.Runs.{least≤most}
use Rattle.meaning.proofs.Stages.{stages-add-up, stages-reach}
use Rattle.layout.specs.Numbers.{array_of}
use Rattle.layout.specs.Loops.{differences_length, facts_length, limits_length}
use Rattle.layout.specs.Rows.{rows_length}
use Rattle.loops.proofs.Sizes.{SmallParameters}
use Rattle.planner.specs.Plan.{Plan, plan_of, plan_of_records}
use Rattle.state.specs.declared.State.{State as Struct}
use Rattle.state.specs.States.{blank_state, first_state}
use Rattle.state.specs.Open.{filled}
use Rattle.state.specs.Sums.{visits_of}
use Rattle.stages.specs.Next.{NextStage, next_state, stage_for, stage_of, states_after, visit_count, visits_begun_by, stage}
use Rattle.stages.specs.Laws.{StageLaws, end_state, defined_visits}
use Rattle.ranking.specs.Settled.{trips_arms}
use Rattle.stages.specs.Represent.{arms_of, counter_numbers, frames_of, kept_of, open_of, struct_of}
use Rattle.stages.proofs.PlanLaws.{KnownPlan}
use Rattle.stages.proofs.Places.{Placed, placed-stages}
use Rattle.stages.proofs.Standing.{Regular, passage_of}
use Rattle.stages.proofs.InStep.{stage-in-step}

module _ (sheet : List ℕ) (ps : List ℤ) (rs : List Record) (small : SmallParameters ps) (e : accepted sheet ps ≡ ok rs) where
  abbrev model : ℕ → State
  model n = stages ps n (Meaning.first_state rs)

  is_read : read sheet ≡ ok rs
  is_read = ((accepted-ok sheet ps rs).0 e).0

  ceilings : first_over_ceiling (sheet_reports ps rs) ≡ none
  ceilings = ((accepted-ok sheet ps rs).0 e).1

  formed : Formed rs (tree rs)
  formed = read-formed sheet rs is_read

  few-records : length (records (tree rs)) ≤ record_limit
  few-records = omega (arith, read_short sheet rs is_read, ap (λ (xs : List Record). length xs) formed.same)

  small-visits : defined_visits ps rs < figure_limit
  unfolding sheet_reports
  small-visits = visits-small ps (tree rs) formed.sound formed.deep few-records ceilings

  reach : StagesReach ps rs
  reach = stages-reach ps rs formed.sound formed.same

  -- the arrays of the plan
  abbrev plan : Plan
  plan = plan_of_records ps rs

  abbrev rows : List ℕ
  rows = array_of rows_length plan.rows

  abbrev differences : List ℕ
  differences = array_of differences_length plan.differences

  abbrev limits : List ℕ
  limits = array_of limits_length plan.limits

  known : KnownPlan ps rs rows differences limits
  unfolding plan_of_records sheet_reports
  known = record {
    placed = read-in-place sheet rs is_read;
    short = read_short sheet rs is_read;
    small = small;
    within = ceilings;
    ordered = least≤most (tree rs) formed.sound ps [];
    small_most = figures-small ps (tree rs) formed.sound formed.deep few-records ceilings;
    facts = array_of facts_length plan.facts;
    held = record {
      sheet_is = record {
        rows_are = record { before = replicate rows_length 0; are = refl };
        loops_are = record { words_before = replicate differences_length 0; words_are = refl; facts_before = replicate facts_length 0; facts_are = refl };
      };
      limits_before = replicate limits_length 0;
      limits_are = refl;
    };
  }

  abbrev next : Step → NextStage
  next p = stage_of (passage_of ps rs p)

  -- every state that stages reach
  regular : (n : ℕ) → Regular known (model n)
  regular n = record {
    adds = stages-add-up ps rs formed.sound formed.same n;
    place = placed-stages ps rs known.placed n;
    few = omega (arith, small-visits, reach.bounded n);
  }

  plan-is : plan_of sheet ps ≡ ok plan
  unfolding plan_of and_then
  plan-is = ap (λ (r : Result (List Record)). and_then r (λ xs. ok (plan_of_records ps xs))) e

  stage_is : (n : ℕ) → stage sheet ps (struct_of ps rs (model n)) ≡ next (Meaning.stage ps (model n))
  unfolding stage stage_for plan_of_records
  stage_is n = ap (λ (p : Result Plan). stage_for p (struct_of ps rs (model n))) plan-is ∙ stage-in-step known (model n) (regular n)

  next-after : (p : Step) → (next p).after ≡ struct_of ps rs (state_of p)
  unfolding passage_of state_of
  next-after (Meaning.going t) = refl
  next-after (Meaning.begins_visit t) = refl
  next-after (Meaning.at_end t) = refl
  next-after (Meaning.stuck t) = refl

  next-begun : (p : Step) → visit_count (next p).begun ≡ visit_begun p
  unfolding passage_of visit_begun visit_count
  next-begun (Meaning.going t) = refl
  next-begun (Meaning.begins_visit t) = refl
  next-begun (Meaning.at_end t) = refl
  next-begun (Meaning.stuck t) = refl

  in_step : (n : ℕ) → states_after sheet ps n ≡ struct_of ps rs (model n)
  unfolding states_after next_state stages
  in_step zero = unfold first_state blank_state struct_of open_of Meaning.first_state counter_numbers frames_of kept_of arms_of trips_arms trips_kept filled in
      ap (λ (m : ℕ). blank_state m 0 0 0) (let z : 0 ≡ length rs - length rs = omega arith in z)
  in_step (suc n) = ap (λ (s : Struct). (stage sheet ps s).after) (in_step n) ∙ ap (λ (p : NextStage). p.after) (stage_is n) ∙ next-after (Meaning.stage ps (model n))

  stage_at : (n : ℕ) → stage sheet ps (states_after sheet ps n) ≡ next (Meaning.stage ps (model n))
  stage_at n = ap (stage sheet ps) (in_step n) ∙ stage_is n

  visits-same : (n : ℕ) → visits_of (states_after sheet ps n).sums ≡ (model n).visits
  unfolding struct_of
  visits-same n = ap (λ (s : Struct). visits_of s.sums) (in_step n)

  begun-alike : (n : ℕ) → visits_begun_by sheet ps n ≡ visits_begun ps n (Meaning.first_state rs)
  unfolding visits_begun_by visits_begun
  begun-alike zero = refl
  begun-alike (suc n) = ap₂ ◌+◌ (begun-alike n) (ap (λ (p : NextStage). visit_count p.begun) (stage_at n) ∙ next-begun (Meaning.stage ps (model n)))

  -- the state at the sheet's end
  end_is : struct_of ps rs (state [] (time ps (tree rs) []) [] (defined_visits ps rs)) ≡ end_state ps rs
  unfolding struct_of open_of end_state blank_state counter_numbers frames_of kept_of arms_of trips_arms trips_kept filled
  end_is =
      let whole : Bounds = time ps (tree rs) [] in
      ap (λ (m : ℕ). blank_state m whole.least whole.most (defined_visits ps rs)) (let z : length rs - 0 ≡ length rs = omega arith in z)

  at-end : (n : ℕ) → defined_visits ps rs < n → states_after sheet ps n ≡ end_state ps rs
  at-end n h = in_step n ∙ ap (struct_of ps rs) (reach.reached n h) ∙ end_is

  -- a state that stands at the sheet's end has passed every record
  nothing-remains : (n : ℕ) → (states_after sheet ps n).at ≡ length rs → (model n).remaining ≡ []
  unfolding struct_of
  nothing-remains n h = none_left (model n).remaining (omega (arith, at, fits))
    where
      place : Placed ps rs (model n)
      place = (regular n).place

      at : length rs - length (model n).remaining ≡ length rs
      at = sym (ap (λ (s : Struct). s.at) (in_step n)) ∙ h

      fits : length (model n).remaining ≤ length rs
      fits = omega (arith, ap (λ (xs : List Record). length xs) place.split, length-append place.before (model n).remaining)

      none_left : (xs : List Record) → length xs ≡ 0 → xs ≡ []
      none_left [] z = refl
      none_left (x ∷ xs) z = absurd (omega arith)

  stage-begins : (n : ℕ) → n < defined_visits ps rs → (stage sheet ps (states_after sheet ps n)).begun ≡ true
  unfolding passage_of
  stage-begins n h = ap (λ (p : NextStage). p.begun) (stage_at n ∙ ap next (reach.begins n h))

  visits-counted : (n : ℕ) → visits_of (states_after sheet ps n).sums ≡ visits_begun_by sheet ps n
  visits-counted n = visits-same n ∙ reach.counted n ∙ sym (begun-alike n)

  goes-onward : (n : ℕ) →
      (visits_of (states_after sheet ps (suc n)).sums ≡ suc (visits_of (states_after sheet ps n).sums)) ⊎ (states_after sheet ps (suc n) ≡ end_state ps rs)
  unfolding visits_begun_by visit_count
  goes-onward n =
      elim (dec_le (suc n) (defined_visits ps rs)) [
        | yes h ↦ inl (omega (arith, visits-counted n, visits-counted (suc n), ap visit_count (stage-begins n h)))
        | no h ↦ inr (at-end (suc n) (omega arith))
      ]

  -- of every sheet that is not refused 1 to 6
  pub stage_laws : StageLaws sheet ps rs
  unfolding passage_of
  stage_laws = record {
    in_step = in_step;
    begun_alike = begun-alike;
    counted = visits-counted;
    rising = λ n. omega (arith, visits-same n, visits-same (suc n), reach.rising n);
    bounded = λ n. omega (arith, visits-same n, reach.bounded n);
    small = small-visits;
    begins = stage-begins;
    begins_no_more = λ n h. ap (λ (p : NextStage). p.begun) (stage_at n ∙ ap next (reach.ends n h));
    onward = goes-onward;
    reached = at-end (suc (defined_visits ps rs)) (omega arith);
    stays = at-end;
    ended = λ n h. in_step n ∙ ap (struct_of ps rs) (reach.only_end n (nothing-remains n h)) ∙ end_is;
    none_before = λ n few h. reach.none_before n few (nothing-remains n h);
  }
