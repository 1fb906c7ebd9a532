-- The walk that stores the limits: those of the loops passed.
use mathlib.Core.List.{◌++◌, List, [], append-nil, map-append, ◌∷◌}
use mathlib.Core.Option.{Option, none, some}
use mathlib.Core.Path.{ap, ap₂, refl, sym, ◌∙◌, ◌≡◌, subst}
use Prim.Native.Nat.{◌+◌, ◌-◌, ◌<◌, max, suc, zero, ℕ, ◌≤◌}
use native.Mathlib.Numerals.{add-one}
use native.Mathlib.Omega.{arith}
use lib.ListN.{drop, get_or, length, length-map, take}
use lib.Seq.{paste, take_all, take-suc}
use lib.IntN.{ℤ}
use Rattle.meaning.specs.Record.{end_record, Record, Open, Loop}
use Rattle.layout.specs.Rows.{depth_at, end_at, loop_at, role_at, role_number, role_of}
use Rattle.layout.specs.Loops.{limit_from, with_largest}
use Rattle.layout.specs.Numbers.{stored_in}
use Rattle.layout.proofs.Reading.{limits-begin, limits-begun, limits-next}
use Rattle.nest.specs.Walk.{records_inside}
use Rattle.sheet.specs.Sheets.{records_of}
use Rattle.nest.proofs.Walks.{opens_through}
use Rattle.loops.specs.Facts.{facts_at, loop_facts, loops_in, sheet_facts, LoopFacts}
use Rattle.loops.proofs.AtRecord.{fact-at, loop-there, no-facts, number_is, role-is}
use Rattle.loops.proofs.LoopsRead.{loops-append-in}
use Rattle.planner.specs.Known.{KnownInside, Surveyed}
use Rattle.planner.specs.Closing.{class_among, height_above, number_among, number_of, plan_at, LoopPlan}
use Rattle.planner.specs.Plan.{limits_stored, numbers_stored, sheet_plans}
use Rattle.planner.proofs.PlansOf.{loops-before-plans, plan-of-record, plans-length}
use Rattle.loops.specs.Enclosing.{Enclosing, loops_around}
use Rattle.planner.proofs.AtLoop.{depth-there, end-there, known-inside}

limits-size : (plans : List LoopPlan) → length (numbers_stored plans) ≡ length plans
unfolding numbers_stored
limits-size plans = length-map plans (λ p. number_of p.class p.height)

limits-more : (plans : List LoopPlan) (p : LoopPlan) → numbers_stored plans ++ (number_of p.class p.height ∷ []) ≡ numbers_stored (plans ++ (p ∷ []))
unfolding numbers_stored
limits-more plans p = sym (map-append (λ q. number_of q.class q.height) plans (p ∷ []))

-- equal arrays hold the same
pub surveyed-same : {sheet : List ℕ} {ps : List ℤ} {count : ℕ} {rows words facts rows0 words0 facts0 : List ℕ} → rows ≡ rows0 → words ≡ words0 → facts ≡ facts0 →
    Surveyed sheet ps count rows0 words0 facts0 → Surveyed sheet ps count rows words facts
surveyed-same {sheet} {ps} {count} {rows} {words} {facts} {rows0} {words0} {facts0} r w f s =
    subst (λ (x : List ℕ). Surveyed sheet ps count x words facts) (sym r)
    (subst (λ (x : List ℕ). Surveyed sheet ps count rows0 x facts) (sym w) (subst (λ (x : List ℕ). Surveyed sheet ps count rows0 words0 x) (sym f) s))

pub record Limited (count : ℕ) (rows differences facts before limits : List ℕ) (n : ℕ) : Type 0 where
  pub so_far : n ≤ count
  pub stored_so_far : (sheet : List ℕ) (ps : List ℤ) → Surveyed sheet ps count rows differences facts →
      limits ≡ stored_in before (limits_stored (loops_in (take n (sheet_plans ps (records_of sheet)))))

pub limited-start : (count : ℕ) (rows differences facts before : List ℕ) {limits : List ℕ} → limits ≡ paste before 0 (0 ∷ []) 1
    → Limited count rows differences facts limits limits 0
unfolding loops_in numbers_stored limits_stored
limited-start count rows differences facts before begun = record { so_far = omega arith; stored_so_far = λ sheet ps g. limits-begin before begun }

module _ {count : ℕ} {rows differences facts before limits : List ℕ} {n : ℕ} (g : Limited count rows differences facts before limits n) where
  pub limited-done : (entry : List ℕ) → before ≡ paste entry 0 (0 ∷ []) 1 → count ≤ n → (sheet : List ℕ) (ps : List ℤ) → Surveyed sheet ps count rows differences facts →
      limits ≡ stored_in entry (limits_stored (loops_in (sheet_plans ps (records_of sheet))))
  unfolding limits_stored
  limited-done entry begun h sheet ps s =
      g.stored_so_far sheet ps s
      ∙ ap (λ (l : List (Option LoopPlan)). stored_in before (limits_stored (loops_in l)))
      (take_all n (sheet_plans ps (records_of sheet)) (omega (arith, s.all, plans-length ps (records_of sheet))))
      ∙ limits-begun entry begun (numbers_stored (loops_in (sheet_plans ps (records_of sheet))))

  module _ (more : n < count) where
    module _ (sheet : List ℕ) (ps : List ℤ) (s : Surveyed sheet ps count rows differences facts) where
      abbrev rs : List Record
      rs = records_of sheet

      here : n < length rs
      here = omega (arith, s.all)

      abbrev this : Record
      this = get_or (records_of sheet) n end_record

      role-there : role_at rows n ≡ role_number (role_of this)
      role-there = role-is sheet ps n here s.sheet_is.rows_are

      abbrev plans : List (Option LoopPlan)
      plans = sheet_plans ps (records_of sheet)

      taken : take (n + 1) plans ≡ take n plans ++ (get_or plans n none ∷ [])
      taken = ap (λ (m : ℕ). take m plans) (add-one n) ∙ take-suc plans n none (omega (arith, here, plans-length ps rs))

      one_more : (o : Option LoopPlan) → get_or plans n none ≡ o → loops_in (take (n + 1) plans) ≡ loops_in (take n plans) ++ loops_in (o ∷ [])
      one_more o e = ap loops_in (taken ∙ ap (λ (x : Option LoopPlan). take n plans ++ (x ∷ [])) e) ∙ loops-append-in (take n plans) (o ∷ [])

    pub limited-skip : (role_at rows n ≡ 1 → ⊥) → Limited count rows differences facts before limits (n + 1)
    limited-skip other = record {
      so_far = omega arith;
      stored_so_far = λ sheet ps s.
          let os : List Open = opens_through [] (take n (records_of sheet)) in
          let none_here = fact-at sheet ps n (here sheet ps s)
          ∙ no-facts ps os (loops_around ps (take n (records_of sheet))) (this sheet ps s) (λ e. other (role-there sheet ps s ∙ e)) in
          let no-plan : get_or (plans sheet ps s) n none ≡ none =
          plan-of-record ps (records_of sheet) n (here sheet ps s)
          ∙ ap (λ (f : Option LoopFacts). plan_at f (take (records_inside zero (drop (suc n) (records_of sheet))) (drop (suc n) (sheet_facts ps (records_of sheet))))) none_here
          ∙ (unfold plan_at in refl) in
          g.stored_so_far sheet ps s
          ∙ ap (λ (l : List LoopPlan). stored_in before (limits_stored l))
          (sym (one_more sheet ps s none no-plan ∙ (unfold loops_in in append-nil (loops_in (take n (plans sheet ps s))))));
    }

    pub limited-next : role_at rows n ≡ 1 → {number stored : ℕ} → number ≡ loop_at rows n →
        ((fs : List (Option LoopFacts)) → KnownInside rows differences facts n fs →
        stored ≡ number_among (depth_at rows n) (take (end_at rows n - (n + 1)) (drop (n + 1) fs))) →
        {limits2 : List ℕ} → limits2 ≡ paste (paste limits (limit_from number) (stored ∷ []) 1) 0 (max (get_or limits 0 0) stored ∷ []) 1
        → Limited count rows differences facts before limits2 (n + 1)
    unfolding limits_stored
    limited-next one {number} {stored} number_read stored_is {limits2} put = record {
      so_far = omega arith;
      stored_so_far = λ sheet ps s.
          let rs : List Record = records_of sheet in
          let fs : List (Option LoopFacts) = sheet_facts ps (records_of sheet) in
          let there : n < length rs = here sheet ps s in
          let found = loop-there (this sheet ps s) (sym (role-there sheet ps s) ∙ one) in
          let l : Loop = found.0 in
          let os : List Open = opens_through [] (take n rs) in
          let es : Enclosing = loops_around ps (take n rs) in
          let fact : LoopFacts = loop_facts ps os es l in
          let is : get_or fs n none ≡ some fact = fact-at sheet ps n there ∙ ap (facts_at ps os es) found.1 ∙ (unfold facts_at in refl) in
          let inner : ℕ = records_inside zero (drop (suc n) rs) in
          let inside : List (Option LoopFacts) = take inner (drop (suc n) fs) in
          let end : end_at rows n - (n + 1) ≡ inner = omega (arith, end-there s n there l found.1) in
          let depth : depth_at rows n ≡ fact.depth = depth-there s n there l found.1 ∙ (unfold loop_facts in refl) in
          let plan : LoopPlan = record { facts = fact; class = class_among fact.depth inside; height = height_above fact.depth inside } in
          let value : stored ≡ number_of plan.class plan.height =
          stored_is fs (known-inside s n there l found.1) ∙ ap₂ (λ (d m : ℕ). number_among d (take m (drop (n + 1) fs))) depth end
          ∙ ap (λ (m : ℕ). number_among fact.depth (take inner (drop m fs))) (add-one n) ∙ (unfold number_among in refl) in
          let planned : get_or (plans sheet ps s) n none ≡ some plan =
          plan-of-record ps rs n there ∙ ap (λ (f : Option LoopFacts). plan_at f inside) is ∙ (unfold plan_at in refl) in
          let place_is = number_is sheet ps n there s.sheet_is.rows_are l found.1 in
          let passed : List LoopPlan = loops_in (take n (plans sheet ps s)) in
          let at : number ≡ length (numbers_stored passed) =
          number_read ∙ place_is.0 ∙ sym (loops-before-plans ps rs n) ∙ sym (limits-size passed) in
          put ∙ ap (λ (v : ℕ). paste (paste limits (limit_from number) (v ∷ []) 1) 0 (max (get_or limits 0 0) v ∷ []) 1) value
          ∙ limits-next before (numbers_stored passed) number (number_of plan.class plan.height) at (omega (arith, number_read, place_is.1)) (g.stored_so_far sheet ps s)
          ∙ ap (λ (numbers : List ℕ). stored_in before (with_largest numbers))
          (limits-more passed plan ∙ ap numbers_stored (sym (one_more sheet ps s (some plan) planned ∙ (unfold loops_in in refl))));
    }
