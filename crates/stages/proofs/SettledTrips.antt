-- At the end of one of the first trips of a ranked loop, what is decided from the state's kept arms is what the definition decides.
use mathlib.Core.List.{List, [], ◌∷◌, ◌++◌}
use mathlib.Core.Path.{ap, ap₂, subst, sym, ◌∙◌, ◌≡◌}
use Prim.Native.Nat.{◌*◌, ◌+◌, ◌-◌, ◌/◌, ◌<◌, suc, ℕ, ◌≤◌}
use native.Mathlib.Nat.{div-eq_of_eq-mul_left, mul_comm}
use native.Mathlib.Omega.{arith}
use lib.ListN.{length, length-append, replicate}
use lib.IntN.{ℤ}
use Rattle.meaning.specs.Time.{Bounds, inner_indexes, trips}
use Rattle.meaning.specs.Record.{Loop, Record, end_record, loop_record}
use Rattle.meaning.specs.Limits.{depth_limit, record_limit}
use Rattle.meaning.specs.Range.{Range, inner_ranges}
use Rattle.meaning.specs.ClosedSum.{first_sums}
use Rattle.meaning.specs.Settled.{all_settled, choices_of}
use Rattle.meaning.specs.Tree.{Block, height, records}
use Rattle.meaning.specs.Report.{loop_reports}
use Rattle.meaning.specs.Answer.{sheet_reports}
use Rattle.meaning.specs.Stage.{Frame, KeptArms, indexes_of, ranges_of, trips_kept}
use Rattle.meaning.proofs.Sound.{Sound}
use Rattle.meaning.proofs.Trips.{Inside}
use Rattle.meaning.proofs.Ranges.{trips-inside}
use Rattle.meaning.proofs.Reports.{WithinCeiling, first-over-none}
use Rattle.meaning.proofs.RankedArms.{choices_times, kept-choices}
use Rattle.meaning.proofs.RankedSizes.{arms-few}
use Rattle.loops.specs.Enclosing.{Enclosing, loops_around, nothing_open}
use Rattle.planner.proofs.PlanReports.{inside-within, reports_from, sheet-reports}
use Rattle.ranking.specs.Body.{settled_at}
use Rattle.ranking.specs.Settled.{direct_arms, trip_arms_limit}
use Rattle.ranking.proofs.ArmSizes.{choices-small, choices-times-length}
use Rattle.ranking.proofs.LoopSettled.{first-trips-settled}
use Rattle.state.specs.declared.bounds.Bounds as declared
use Rattle.state.specs.Bounds.{no_bounds}
use Rattle.state.specs.Open.{kept_arms_limit}
use Rattle.state.specs.Arms.{arm_count_in}
use Rattle.state.proofs.ArmLaws.{arm-count}
use Rattle.state.proofs.Innermost.{filled-short}
use Rattle.ranking.specs.Settled.{trips_arms}
use Rattle.stages.specs.Represent.{arms_of}
use Rattle.stages.proofs.ArmsKept.{arm_total}
use Rattle.stages.proofs.Places.{Stands, opens_of}
use Rattle.stages.proofs.Affine.{enclosing-ranges, enclosing_of}
use Rattle.stages.proofs.PlanLaws.{KnownPlan}
use Rattle.stages.proofs.KeptChoices.{first-total}
use Rattle.stages.proofs.SettledRows.{settled-rows}

-- as many arms in each of k trips
quotient-of : (k m n : ℕ) → n ≡ suc k * m → n / suc k ≡ m
quotient-of k m n e = div-eq_of_eq-mul_left (omega arith) (e ∙ mul_comm (suc k) m)

module _ {ps : List ℤ} {rs : List Record} {rows differences limits : List ℕ} (known : KnownPlan ps rs rows differences limits)
    {l : Loop} {body : List Record} {q : ℕ} (fs : List Frame) {ns : List ℕ} (h : Stands ps rs (loop_record l) body q (opens_of fs) ns (enclosing_of ps fs))
    (inside : Inside (indexes_of ps fs) (ranges_of ps fs)) (b : Block) (following : List Record) (body_is : body ≡ records b ++ (end_record ∷ following))
    (sound : Sound b) where
  split : rs ≡ h.outer ++ (loop_record l ∷ (records b ++ (end_record ∷ following)))
  split = h.split ∙ ap (λ (xs : List Record). h.outer ++ (loop_record l ∷ xs)) body_is

  few-records : 2 + length (records b) ≤ record_limit
  few-records =
      omega (
        arith,
        known.short,
        ap (λ (xs : List Record). length xs) split,
        length-append h.outer (loop_record l ∷ (records b ++ (end_record ∷ following))),
        length-append (records b) (end_record ∷ following),
      )

  -- no loop inside makes more trips than the limit
  within : (offset : ℕ) × WithinCeiling (loop_reports ps b (inner_ranges ps l (ranges_of ps fs)) offset)
  within =
      let all : WithinCeiling (reports_from ps 0 [] nothing_open rs) =
      subst WithinCeiling (sym (sheet-reports ps rs known.placed)) ((first-over-none (sheet_reports ps rs)).0 known.within) in
      let own = inside-within ps h.outer l b (end_record ∷ following) 0 [] nothing_open (subst (λ (x : List Record). WithinCeiling (reports_from ps 0 [] nothing_open x)) split all) in
      let same : (loops_around ps h.outer).ranges ≡ ranges_of ps fs = ap (λ (x : Enclosing). x.ranges) h.leaves.loops_are ∙ enclosing-ranges ps fs in
      (own.0, subst (λ (x : List Range). WithinCeiling (loop_reports ps b (inner_ranges ps l x) own.0)) same own.1)

  abbrev arms_at : ℕ → List Bounds
  arms_at k = choices_times ps b (inner_indexes ps l (indexes_of ps fs) k)

  -- where these arms of the trips up to trip j are kept
  module _ (j : ℕ) (a : KeptArms) (arms : trips_kept a ≡ first_sums (suc j) arms_at) (low : j < depth_limit) (shallow : height b < depth_limit)
      (made : suc j ≤ trips ps l (indexes_of ps fs)) (room : arm_total (trips_kept a) ≤ kept_arms_limit) where
    total-is : arm_total (trips_kept a) ≡ suc j * direct_arms b
    total-is = ap arm_total arms ∙ first-total (suc j) (direct_arms b) arms_at (λ k. choices-times-length ps b (inner_indexes ps l (indexes_of ps fs) k))

    per-trip : arm_count_in (arms_of a) / suc j ≡ direct_arms b
    unfolding arms_of
    per-trip = quotient-of j (direct_arms b) (arm_count_in (arms_of a)) (arm-count (trips_arms (trips_kept a)) room ∙ total-is)

    -- these arms, and blank ones
    abbrev behind : List declared.Bounds
    behind = replicate (kept_arms_limit - arm_total (trips_kept a)) no_bounds

    arms-are : (arms_of a).bounds ≡ trips_arms (first_sums (suc j) arms_at) ++ behind
    unfolding arms_of
    arms-are =
        filled-short no_bounds kept_arms_limit (kept_arms_limit - arm_total (trips_kept a)) (trips_arms (trips_kept a)) (omega arith)
        ∙ ap (λ (xs : List (List Bounds)). trips_arms xs ++ behind) arms

    few-arms : direct_arms b ≤ trip_arms_limit
    few-arms = omega (arith, few-records, arms-few ps b [], choices-times-length ps b [])

    pub settled-now : settled_at rows q (arms_of a).bounds (suc j) (arm_count_in (arms_of a) / suc j)
        ≡ all_settled (choices_of (trips_kept a) 0 b)
    settled-now =
        ap₂ (λ (xs : List declared.Bounds) (m : ℕ). settled_at rows q xs (suc j) m) arms-are per-trip
        ∙ settled-rows rows rs known.held.sheet_is.rows_are known.short (trips_arms (first_sums (suc j) arms_at) ++ behind) (suc j) (direct_arms b) q h.outer l b following h.number split
        ∙ first-trips-settled ps (suc j) (inner_indexes ps l (indexes_of ps fs)) b behind low few-arms
        (λ k below. choices-small ps b sound (inner_ranges ps l (ranges_of ps fs)) (inner_indexes ps l (indexes_of ps fs) k) within.0
        (trips-inside ps l (ranges_of ps fs) (indexes_of ps fs) k inside (omega arith)) within.1 (omega arith) (omega (arith, few-records)))
        ∙ sym (ap all_settled (ap (λ (xs : List (List Bounds)). choices_of xs 0 b) arms ∙ kept-choices ps (suc j) (inner_indexes ps l (indexes_of ps fs)) b))
