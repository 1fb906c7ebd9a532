-- Where every loop is closed the visits are few: at most the factorial of the height for each loop, hence at most visits_per_loop.
use mathlib.Core.List.{List, [], ◌++◌}
use Prim.Native.Nat.{ℕ, zero, suc, ◌+◌, ◌*◌, ◌≤◌}
use native.Mathlib.Nat.{mul-le-mul_right, mul-le-mul_left, mul-add, mul_assoc, mul-suc, mul-pos, le_trans}
use native.Mathlib.Omega.{arith}
use lib.IntN.{ℤ}
use lib.Dec.{T}
use Rattle.meaning.specs.Limits.{depth_limit, visits_per_loop}
use Rattle.meaning.specs.Record.{work_record, loop_record, end_record, choice_record, next_arm_record, record_length, sheet_length}
use Rattle.meaning.specs.Tree.{Block, Arms, empty, work, loop, choice, last_arm, arm, records, arms_records, loops, arms_loops, height, arms_height}
use Rattle.meaning.specs.Time.{trips, inner_indexes}
use Rattle.meaning.specs.Range.{Range, inner_ranges}
use Rattle.meaning.specs.Closed.{is_closed, loop_class}
use Rattle.meaning.specs.Visits.{visited_trips, visits, visits_by, arms_visits}
use Rattle.meaning.specs.Report.{loop_reports, arms_reports, all_closed}
use Rattle.meaning.proofs.Logic.{T_and}
use Rattle.meaning.proofs.Closable.{class-closed}
use Rattle.meaning.proofs.Reports.{all_closed-append}
use Rattle.meaning.proofs.Trips.{trip_visits, count-over-bound}
use Rattle.meaning.proofs.VisitedTrips.{closed-visited}

unfoldable pub factorial : ℕ → ℕ
factorial zero = 1
factorial (suc n) = suc n * factorial n

factorial-positive : (n : ℕ) → 1 ≤ factorial n
unfolding factorial
factorial-positive zero = omega arith
factorial-positive (suc n) = mul-pos {m = suc n} (omega arith) (factorial-positive n)

-- n trips, at most d, with f visits for each of the inner loops and one of their own: d * f for each of these loops and the outer one
trips-visits-bound : (n d f inner : ℕ) → 1 ≤ f → n ≤ d → n * suc (f * inner) ≤ d * f * suc inner
trips-visits-bound n d f inner p q =
    le_trans (mul-le-mul_right (suc (f * inner)) q)
    (rw (mul_assoc d f (suc inner)) (mul-le-mul_left d (omega (arith, mul-suc f inner))))

module _ (ps : List ℤ) where
  mutual
    unfolding visits_by loop_reports height loops all_closed factorial

    pub few-visits : (b : Block) (ranges : List Range) (indexes : List ℤ) (at d : ℕ) →
        T (all_closed (loop_reports ps b ranges at)) → height b ≤ d → visits ps b ranges indexes ≤ factorial d * loops b
    few-visits empty ranges indexes at d c h = omega arith
    few-visits (work least most rest) ranges indexes at d c h = few-visits rest ranges indexes (at + record_length (work_record least most)) d c h
    few-visits (loop l body rest) ranges indexes at zero c h = absurd (omega arith)
    few-visits (loop l body rest) ranges indexes at (suc d) c h =
        let after_loop = at + record_length (loop_record l) in
        let after_end = after_loop + sheet_length (records body) + record_length end_record in
        let inside = loop_reports ps body (inner_ranges ps l ranges) after_loop in
        let behind = loop_reports ps rest ranges after_end in
        let p = T_and (is_closed (loop_class ps l body ranges)) (all_closed (inside ++ behind)) c in
        let q = (all_closed-append inside behind).0 p.1 in
        let j = few-visits rest ranges indexes after_end (suc d) q.1 (omega arith) in
        let n = visited_trips ps l body ranges indexes (trips ps l indexes) in
        let m : n ≤ suc d = omega (arith, closed-visited ps l body ranges indexes (trips ps l indexes) (class-closed ps l body ranges p.0)) in
        omega (
          arith,
          count-over-bound n (trip_visits ps l body ranges indexes) (suc (factorial d * loops body)) (λ trip less.
              omega (arith, few-visits body (inner_ranges ps l ranges) (inner_indexes ps l indexes trip) after_loop d q.0 (omega arith))),
          trips-visits-bound n (suc d) (factorial d) (loops body) (factorial-positive d) m,
          mul-add (suc d * factorial d) (suc (loops body)) (loops rest),
        )
    few-visits (choice arms rest) ranges indexes at d c h =
        let after_choice = at + record_length choice_record in
        let after_end = after_choice + sheet_length (arms_records arms) + record_length end_record in
        let q = (all_closed-append (arms_reports ps arms ranges after_choice) (loop_reports ps rest ranges after_end)).0 c in
        let i = arms-few-visits arms ranges indexes after_choice d q.0 (omega arith) in
        let j = few-visits rest ranges indexes after_end d q.1 (omega arith) in
        omega (arith, mul-add (factorial d) (arms_loops arms) (loops rest))

    pub arms-few-visits : (arms : Arms) (ranges : List Range) (indexes : List ℤ) (at d : ℕ) →
        T (all_closed (arms_reports ps arms ranges at)) → arms_height arms ≤ d → arms_visits ps arms ranges indexes ≤ factorial d * arms_loops arms
    arms-few-visits (last_arm b) ranges indexes at d c h = few-visits b ranges indexes at d c h
    arms-few-visits (arm b arms) ranges indexes at d c h =
        let after_next_arm = at + sheet_length (records b) + record_length next_arm_record in
        let q = (all_closed-append (loop_reports ps b ranges at) (arms_reports ps arms ranges after_next_arm)).0 c in
        let i = few-visits b ranges indexes at d q.0 (omega arith) in
        let j = arms-few-visits arms ranges indexes after_next_arm d q.1 (omega arith) in
        omega (arith, mul-add (factorial d) (loops b) (arms_loops arms))

-- loops are at most depth_limit deep, and its factorial is visits_per_loop
pub visits-few : (ps : List ℤ) (b : Block) → height b ≤ depth_limit → (at : ℕ) → T (all_closed (loop_reports ps b [] at)) →
    visits ps b [] [] ≤ visits_per_loop * loops b
unfolding factorial
visits-few ps b h at c = few-visits ps b [] [] at depth_limit c h
