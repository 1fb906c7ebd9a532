-- The nest that counts up has the visits of the other, and the same is said of each of its loops; and the law for a whole nest (C-17).
use mathlib.Core.Path.{◌≡◌, refl, ap, ◌∙◌}
use mathlib.Core.List.{List, [], ◌∷◌, ◌++◌}
use mathlib.Core.Bool.{Bool, true, cond, ◌&&◌, ◌||◌}
use Prim.Native.Nat.{ℕ, suc, ◌+◌, min}
use lib.IntN.{ℤ}
use lib.ListN.{length}
use Rattle.meaning.specs.Record.{Loop, work_record, loop_record, choice_record, record_length}
use Rattle.meaning.specs.Tree.{Block, Arms, empty, work, loop, choice, last_arm, arm, height}
use Rattle.meaning.specs.Time.{trips, inner_indexes, time}
use Rattle.meaning.specs.Range.{Range, inner_ranges}
use Rattle.meaning.specs.Closed.{closed_class, ranked_class, walked_class, loop_class}
use Rattle.meaning.specs.ClosedSum.{first_sums}
use Rattle.meaning.specs.Settled.{all_settled, arms_sums, choices_sums, settled, summed}
use Rattle.meaning.specs.Visits.{count_over, visited_trips, visits, visits_by, arms_visits}
use Rattle.meaning.specs.Report.{loop_reports, arms_reports}
use Rattle.meaning.proofs.Upward.{turn, turn_range, turn_each, upward_loop, downs_inside, upward, upward_arms, counts_up}
use Rattle.meaning.proofs.RankedArms.{first-extensional}
use Rattle.meaning.proofs.UpwardLoops.{trips-upward, inner-indexes-upward, inner-indexes-length}
use Rattle.meaning.proofs.UpwardLoops.{ceiling-upward, inner-ranges-upward, inner-ranges-length}
use Rattle.meaning.proofs.UpwardTrees.{height-upward, start-upward, after-loop-upward, after-choice-upward, after-arm-upward, counts-up, time-upward}
use Rattle.meaning.proofs.UpwardReasons.{reason-upward}
use Rattle.meaning.proofs.UpwardClosable.{closed-upward, ranked-upward}

module _ (ps : List ℤ) where
  -- ---- the class

  class-upward : (downs : List Bool) (l : Loop) (body : Block) (ranges : List Range) → length ranges ≡ length downs →
      loop_class ps (upward_loop downs l) (upward (downs_inside l downs) body) (turn_each turn_range downs ranges) ≡ loop_class ps l body ranges
  unfolding loop_class
  class-upward downs l body ranges same =
      λ t. cond (closed-upward ps downs l body ranges same t) closed_class (cond (ranked-upward ps downs l body ranges same t) ranked_class walked_class)

  -- ---- visits

  -- the arms of choices take what they took, in each of the first trips
  module _ (downs : List Bool) (count : ℕ) (upward_at indexes_at : ℕ → List ℤ) (turned : (trip : ℕ) → upward_at trip ≡ turn_each turn downs (indexes_at trip))
      (alike : (trip : ℕ) → length (indexes_at trip) ≡ length downs) where
    arm-times-upward : (b : Block) → first_sums count (λ trip. time ps (upward downs b) (upward_at trip)) ≡ first_sums count (λ trip. time ps b (indexes_at trip))
    arm-times-upward b =
        first-extensional count _ _ (λ trip. ap (time ps (upward downs b)) (turned trip) ∙ time-upward ps b downs (indexes_at trip) (alike trip))

    arms-sums-upward : (arms : Arms) → arms_sums ps count upward_at (upward_arms downs arms) ≡ arms_sums ps count indexes_at arms
    unfolding arms_sums upward
    arms-sums-upward (last_arm b) = λ t. arm-times-upward b t ∷ []
    arms-sums-upward (arm b arms) = λ t. arm-times-upward b t ∷ arms-sums-upward arms t

    choices-sums-upward : (b : Block) → choices_sums ps count upward_at (upward downs b) ≡ choices_sums ps count indexes_at b
    unfolding choices_sums upward
    choices-sums-upward empty = refl
    choices-sums-upward (work least most rest) = choices-sums-upward rest
    choices-sums-upward (loop l body rest) = choices-sums-upward rest
    choices-sums-upward (choice arms rest) = λ t. arms-sums-upward arms t ∷ choices-sums-upward rest t

  visited-upward : (downs : List Bool) (l : Loop) (body : Block) (ranges : List Range) (indexes : List ℤ) (n : ℕ) →
      length ranges ≡ length downs → length indexes ≡ length downs →
      visited_trips ps (upward_loop downs l) (upward (downs_inside l downs) body) (turn_each turn_range downs ranges) (turn_each turn downs indexes) n
      ≡ visited_trips ps l body ranges indexes n
  unfolding visited_trips summed settled
  visited-upward downs l body ranges indexes n same alike =
      let inside = downs_inside l downs in
      let sums = ap (λ (h : ℕ). choices_sums ps (min n (suc h)) (inner_indexes ps (upward_loop downs l) (turn_each turn downs indexes)) (upward inside body))
      (height-upward body inside)
      ∙ choices-sums-upward inside (min n (suc (height body))) (inner_indexes ps (upward_loop downs l) (turn_each turn downs indexes)) (inner_indexes ps l indexes)
      (inner-indexes-upward downs l ps indexes alike) (inner-indexes-length downs l ps indexes alike) body in
      λ t. cond (closed-upward ps downs l body ranges same t || (ranked-upward ps downs l body ranges same t && all_settled (sums t)))
      (min n (suc (height-upward body inside t))) n

  -- a body in a trip of loop l
  enter-upward : (downs : List Bool) (l : Loop) (ranges : List Range) (indexes : List ℤ) → length ranges ≡ length downs → length indexes ≡ length downs →
      (trip : ℕ) (body : Block) → let inside = downs_inside l downs in
      visits ps body (inner_ranges ps (upward_loop downs l) (turn_each turn_range downs ranges))
      (inner_indexes ps (upward_loop downs l) (turn_each turn downs indexes) trip)
      ≡ visits ps body (turn_each turn_range inside (inner_ranges ps l ranges)) (turn_each turn inside (inner_indexes ps l indexes trip))
  enter-upward downs l ranges indexes same alike trip body =
      λ t. visits ps body (inner-ranges-upward downs l ps ranges same t) (inner-indexes-upward downs l ps indexes alike trip t)

  mutual
    unfolding visits_by upward

    visits-upward : (b : Block) (downs : List Bool) (ranges : List Range) (indexes : List ℤ) → length ranges ≡ length downs → length indexes ≡ length downs →
        visits ps (upward downs b) (turn_each turn_range downs ranges) (turn_each turn downs indexes) ≡ visits ps b ranges indexes
    visits-upward empty downs ranges indexes same alike = refl
    visits-upward (work least most rest) downs ranges indexes same alike = visits-upward rest downs ranges indexes same alike
    visits-upward (loop l body rest) downs ranges indexes same alike =
        let inside = downs_inside l downs in
        λ t. count_over ((ap (visited_trips ps (upward_loop downs l) (upward inside body) (turn_each turn_range downs ranges) (turn_each turn downs indexes)) (trips-upward downs l ps indexes)
        ∙ visited-upward downs l body ranges indexes (trips ps l indexes) same alike) t)
        (λ trip. suc ((enter-upward downs l ranges indexes same alike trip (upward inside body)
        ∙ visits-upward body inside (inner_ranges ps l ranges) (inner_indexes ps l indexes trip) (inner-ranges-length downs l ps ranges same)
        (inner-indexes-length downs l ps indexes alike trip)) t))
        + visits-upward rest downs ranges indexes same alike t
    visits-upward (choice arms rest) downs ranges indexes same alike =
        λ t. arms-visits-upward arms downs ranges indexes same alike t + visits-upward rest downs ranges indexes same alike t

    arms-visits-upward : (arms : Arms) (downs : List Bool) (ranges : List Range) (indexes : List ℤ) →
        length ranges ≡ length downs → length indexes ≡ length downs →
        arms_visits ps (upward_arms downs arms) (turn_each turn_range downs ranges) (turn_each turn downs indexes) ≡ arms_visits ps arms ranges indexes
    arms-visits-upward (last_arm b) downs ranges indexes same alike = visits-upward b downs ranges indexes same alike
    arms-visits-upward (arm b arms) downs ranges indexes same alike =
        λ t. visits-upward b downs ranges indexes same alike t + arms-visits-upward arms downs ranges indexes same alike t

  -- ---- reports

  mutual
    unfolding loop_reports upward

    reports-upward : (b : Block) (downs : List Bool) (ranges : List Range) (at : ℕ) → length ranges ≡ length downs →
        loop_reports ps (upward downs b) (turn_each turn_range downs ranges) at ≡ loop_reports ps b ranges at
    reports-upward empty downs ranges at same = refl
    reports-upward (work least most rest) downs ranges at same = reports-upward rest downs ranges (at + record_length (work_record least most)) same
    reports-upward (loop l body rest) downs ranges at same =
        let inside = downs_inside l downs in
        let inner = (λ t. loop_reports ps (upward inside body) (inner-ranges-upward downs l ps ranges same t) (start-upward downs at l t))
        ∙ reports-upward body inside (inner_ranges ps l ranges) (at + record_length (loop_record l)) (inner-ranges-length downs l ps ranges same) in
        λ t. record {
          offset = at;
          class = class-upward downs l body ranges same t;
          ceiling = ceiling-upward downs l ps ranges t;
          reason = reason-upward ps downs l body ranges at same t;
        } ∷ (inner t ++ reports-upward rest downs ranges (after-loop-upward downs at l body t) same t)
    reports-upward (choice arms rest) downs ranges at same =
        λ t. arms-reports-upward arms downs ranges (at + record_length choice_record) same t
        ++ reports-upward rest downs ranges (after-choice-upward downs at arms t) same t

    arms-reports-upward : (arms : Arms) (downs : List Bool) (ranges : List Range) (at : ℕ) → length ranges ≡ length downs →
        arms_reports ps (upward_arms downs arms) (turn_each turn_range downs ranges) at ≡ arms_reports ps arms ranges at
    arms-reports-upward (last_arm b) downs ranges at same = reports-upward b downs ranges at same
    arms-reports-upward (arm b arms) downs ranges at same =
        λ t. reports-upward b downs ranges at same t ++ arms-reports-upward arms downs ranges (after-arm-upward downs at b t) same t

-- ---- a whole nest whose loops count down is one that counts up over negated forms

module _ (b : Block) where
  pub upward-counts-up : counts_up (upward [] b) ≡ true
  upward-counts-up = counts-up b []

  module _ (ps : List ℤ) where
    pub upward-time : time ps (upward [] b) [] ≡ time ps b []
    unfolding turn_each
    upward-time = time-upward ps b [] [] refl

    pub upward-visits : visits ps (upward [] b) [] [] ≡ visits ps b [] []
    unfolding turn_each
    upward-visits = visits-upward ps b [] [] [] refl refl

    -- the offset, the class, the ceiling and the reason of each loop
    pub upward-reports : (at : ℕ) → loop_reports ps (upward [] b) [] at ≡ loop_reports ps b [] at
    unfolding turn_each
    upward-reports at = reports-upward ps b [] [] at refl
