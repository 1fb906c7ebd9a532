-- What the arrays of a plan say of a loop, and of each record's report.
use mathlib.Core.Bool.{Bool, cond, false, true}
use mathlib.Core.List.{◌++◌, List, [], map, map-append, ◌∷◌}
use mathlib.Core.Option.{Option, none, some}
use mathlib.Core.Path.{ap, ap₂, refl, sym, ◌∙◌, ◌≡◌}
use Prim.Native.Nat.{◌<◌, suc, zero, ℕ, ◌≤◌}
use native.Mathlib.Omega.{arith}
use lib.ListN.{drop, get_or, length, length-append, length-map, take}
use lib.Seq.{get_or_at}
use lib.IntN.{pos, ℤ}
use Rattle.meaning.specs.Record.{Loop, stride_size, Open, kind, loop_record, choice_record, end_record, next_arm_record, sheet_length, work_record, Record}
use Rattle.meaning.specs.Time.{difference}
use Rattle.meaning.specs.Tree.{height, tree}
use Rattle.meaning.specs.Limits.{index_factors, record_limit}
use Rattle.meaning.specs.Closed.{LoopClass, closed, closed_class, loop_class, push, ranked, ranked_class, walked_class}
use Rattle.meaning.specs.Form.{value}
use Rattle.meaning.specs.Reason.{Reason, reason_of}
use Rattle.meaning.specs.Report.{report_of}
use Rattle.meaning.proofs.Accepted.{InPlace}
use Rattle.meaning.proofs.Logic.{true→T}
use Rattle.meaning.proofs.PassingTests.{closed-without-reason}
use Rattle.layout.specs.Loops.{base_at, limit_at, with_largest, loop_limit, push_word_at, ranked_at, ranked_mark, stride_at, word_of}
use Rattle.layout.specs.Rows.{loop_at, role_at, role_number, role_of, role_of_kind}
use Rattle.layout.specs.Numbers.{stored_in}
use Rattle.layout.proofs.Reading.{limit-number, ranked-number}
use Rattle.nest.proofs.Walks.{opens_through}
use Rattle.loops.specs.Enclosing.{Enclosing, loops_around}
use Rattle.loops.specs.Facts.{loop_facts, loops_in}
use Rattle.loops.proofs.LoopsRead.{loop-among}
use Rattle.loops.proofs.Sizes.{SmallParameters}
use Rattle.planner.specs.Closing.{class_by, is_ranked, limit_of, LoopPlan, number_of}
use Rattle.planner.specs.Known.{PlanHeld}
use Rattle.planner.specs.Plan.{limits_stored, numbers_stored, sheet_plans}
use Rattle.planner.specs.Reports.{reason_by, report_at}
use Rattle.planner.specs.Reasons.{reason_at}
use Rattle.planner.proofs.Limits.{class-of-limit}
use Rattle.planner.proofs.LoopRead.{loop-base, loop-ceiling, loop-push, loop-stride, number, offset-here, place_here, role-here, small, there}
use Rattle.planner.proofs.PlansOf.{defined_plan, limit-below, loop-plan, loops-before-plans, plans-length}
use Rattle.planner.proofs.PlanReports.{record_reports}
use Rattle.planner.proofs.ReasonRead.{reason-read}

-- of the loop with this number among the loops, the limits hold this value
record StoredAt (limits : List ℕ) (j value : ℕ) : Type 0 where
  before : List ℕ
  numbers : List ℕ
  limits_are : limits ≡ stored_in before (with_largest numbers)
  within : j < length numbers
  below : j < loop_limit
  value_is : get_or numbers j 0 ≡ value

module _ (class : LoopClass) (height : ℕ) {limits : List ℕ} {j : ℕ} (stored : StoredAt limits j (number_of class height)) where
  limit-at : limit_of class height < ranked_mark → limit_at limits j ≡ limit_of class height
  limit-at fits =
      ap (λ (b : List ℕ). limit_at b j) stored.limits_are
      ∙ limit-number stored.before stored.numbers j (is_ranked class) (limit_of class height) stored.within stored.below
      (stored.value_is ∙ (unfold number_of in refl)) fits

  ranked-at : ranked_at limits j ≡ is_ranked class
  ranked-at =
      ap (λ (b : List ℕ). ranked_at b j) stored.limits_are
      ∙ ranked-number stored.before stored.numbers j (is_ranked class) (limit_of class height) stored.within stored.below
      (stored.value_is ∙ (unfold number_of in refl))

module _ {ps : List ℤ} {rs : List Record} {rows differences facts limits : List ℕ} (held : PlanHeld ps rs rows differences facts limits)
    (place : InPlace [] rs) (few : length rs ≤ record_limit) where
  -- a loop of the sheet: what the arrays have of it
  module _ (xs : List Record) (l : Loop) (ys : List Record) (split : rs ≡ xs ++ (loop_record l ∷ ys)) where
    abbrev os : List Open
    os = opens_through [] xs

    abbrev es : Enclosing
    es = loops_around ps xs

    abbrev plan : LoopPlan
    plan = defined_plan ps l ys os es

    pub plan-stride : stride_at differences (loop_at rows (length xs)) ≡ stride_size l
    unfolding loop_facts
    plan-stride = loop-stride held.sheet_is place few xs l ys split

    pub plan-base : base_at differences (loop_at rows (length xs)) ≡ word_of (value ps (difference l) es.starts)
    unfolding loop_facts
    plan-base = loop-base held.sheet_is place few xs l ys split

    pub plan-push : (m : ℕ) → m < index_factors → push_word_at differences (loop_at rows (length xs)) m ≡ word_of (get_or (map (push (difference l)) es.pushes) m (pos zero))
    unfolding loop_facts
    plan-push = loop-push held.sheet_is place few xs l ys split

    plan-here : get_or (sheet_plans ps rs) (length xs) none ≡ some plan
    plan-here =
        ap (λ (r : List Record). get_or (sheet_plans ps r) (length xs) none) split ∙ loop-plan ps xs l ys (place_here held.sheet_is place few xs (loop_record l) ys split)

    abbrev class : LoopClass
    class = loop_class ps l (tree ys) es.ranges

    plan-number : StoredAt limits (loop_at rows (length xs)) (number_of class (height (tree ys)))
    unfolding limits_stored numbers_stored defined_plan
    plan-number =
        let plans : List (Option LoopPlan) = sheet_plans ps rs in
        let passed : List LoopPlan = loops_in (take (length xs) plans) in
        let rest : List LoopPlan = loops_in (drop (suc (length xs)) plans) in
        let all : loops_in plans ≡ passed ++ (plan ∷ rest) = loop-among plans (length xs) plan (omega (arith, there held.sheet_is place few xs l ys split, plans-length ps rs)) plan-here in
        let at : loop_at rows (length xs) ≡ length passed = number held.sheet_is place few xs l ys split ∙ sym (loops-before-plans ps rs (length xs)) in
        let stored : LoopPlan → ℕ = λ p. number_of p.class p.height in
        record {
          before = held.limits_before;
          numbers = map stored (passed ++ (plan ∷ rest));
          limits_are = held.limits_are ∙ ap (λ (p : List LoopPlan). stored_in held.limits_before (with_largest (map stored p))) all;
          within = omega (arith, at, length-append passed (plan ∷ rest), length-map (passed ++ (plan ∷ rest)) stored);
          below = omega (arith, number held.sheet_is place few xs l ys split, small held.sheet_is place few xs l ys split);
          value_is = ap₂ (λ (n : ℕ) (b : List ℕ). get_or b n 0) at (map-append stored passed (plan ∷ rest))
              ∙ get_or_at (map stored passed) (stored plan) (map stored rest) 0 (length passed) (length-map passed stored);
        }

    pub plan-limit : limit_at limits (loop_at rows (length xs)) ≡ limit_of class (height (tree ys))
    plan-limit = limit-at class (height (tree ys)) plan-number (omega (arith, limit-below ps xs l ys (place_here held.sheet_is place few xs (loop_record l) ys split)))

    pub plan-ranked : ranked_at limits (loop_at rows (length xs)) ≡ is_ranked class
    plan-ranked = ranked-at class (height (tree ys)) plan-number

    plan-class : class_by (limit_at limits (loop_at rows (length xs))) (ranked_at limits (loop_at rows (length xs))) ≡ class
    plan-class = ap₂ class_by plan-limit plan-ranked ∙ class-of-limit class (height (tree ys))

    -- a closed loop has no reason
    reason-by-class : {found : Option Reason} → found ≡ reason_of ps l (tree ys) es.ranges (sheet_length xs) →
        reason_by class found ≡ reason_of ps l (tree ys) es.ranges (sheet_length xs)
    unfolding loop_class reason_by
    reason-by-class {found} e =
        go (closed ps l (tree ys) es.ranges) (λ t. (closed-without-reason ps l (tree ys) es.ranges (sheet_length xs)).1 (true→T _ t))
        (ranked ps l (tree ys) es.ranges)
      where
        go : (c : Bool) → (c ≡ true → reason_of ps l (tree ys) es.ranges (sheet_length xs) ≡ none) → (r : Bool) →
            reason_by (cond c closed_class (cond r ranked_class walked_class)) found ≡ reason_of ps l (tree ys) es.ranges (sheet_length xs)
        go true none-there r = sym (none-there refl)
        go false none-there true = e
        go false none-there false = e

    -- its report is that of the sheet's loop
    report-of-loop : SmallParameters ps → report_at rows differences facts limits (length xs) ≡ report_of ps l (tree ys) es.ranges (sheet_length xs) ∷ []
    unfolding report_at role_number role_of role_of_kind kind loop_facts
    report-of-loop sized =
        let here = held.sheet_is in
        rw (role-here here place few xs (loop_record l) ys split)
        (λ t. record {
          offset = offset-here here place few xs (loop_record l) ys split t;
          class = plan-class t;
          ceiling = loop-ceiling here place few xs l ys split t;
          reason = (ap (λ (c : LoopClass). reason_by c (reason_at rows differences facts (length xs))) plan-class
              ∙ reason-by-class (reason-read here place few sized xs l ys split)) t;
        } ∷ [])

  -- of a plan, the report of each record is that of the sheet's record
  pub report-at-record : SmallParameters ps → (xs : List Record) (r : Record) (ys : List Record) → rs ≡ xs ++ (r ∷ ys) →
      report_at rows differences facts limits (length xs) ≡ record_reports ps (sheet_length xs) (loops_around ps xs) r ys
  unfolding report_at record_reports role_number role_of role_of_kind kind
  report-at-record sized xs r ys split =
      go r split (role-here held.sheet_is place few xs r ys split)
    where
      go : (r : Record) → rs ≡ xs ++ (r ∷ ys) → role_at rows (length xs) ≡ role_number (role_of r) →
          report_at rows differences facts limits (length xs) ≡ record_reports ps (sheet_length xs) (loops_around ps xs) r ys
      go (work_record least most) s e = rw e
      go (loop_record l) s e = report-of-loop xs l ys s sized
      go end_record s e = rw e
      go choice_record s e = rw e
      go next_arm_record s e = rw e
