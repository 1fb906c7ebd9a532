-- Every figure and the visits of a sheet are below the figure limit where no ceiling is above its own: a bound for each record, and its sum.
use mathlib.Core.Path.{◌≡◌, sym, ap, ◌∙◌}
use mathlib.Core.List.{List, [], ◌∷◌, ◌++◌}
use mathlib.Core.Option.{none}
use Prim.Native.Nat.{ℕ, zero, suc, ◌+◌, ◌*◌, ◌^◌, ◌≤◌, ◌<◌}
use native.Mathlib.Nat.{mul-le-mul_right, mul-le-mul_left, mul-add, mul_assoc, mul_left_comm, mul-suc, le_trans, pow-succ'}
use native.Mathlib.Omega.{arith}
use lib.IntN.{ℤ}
use lib.ListN.{length, length-append}
use Rattle.meaning.specs.Limits.{record_limit, depth_limit, cost_limit, ceiling_limit, figure_limit}
use Rattle.meaning.specs.Record.{Loop, Record, work_record, loop_record, end_record, choice_record, next_arm_record, record_length, sheet_length}
use Rattle.meaning.specs.Tree.{Block, Arms, empty, work, loop, choice, last_arm, arm, records, arms_records, height, arms_height}
use Rattle.meaning.specs.Time.{sum_over, trips, inner_indexes, time, arms_time}
use Rattle.meaning.specs.Range.{Range, inner_ranges}
use Rattle.meaning.specs.Report.{loop_reports, arms_reports, first_over_ceiling}
use Rattle.meaning.specs.Visits.{count_over, visited_trips, visits, visits_by, arms_visits}
use Rattle.meaning.proofs.Sound.{WorkSound, LoopSound, Sound, ArmsSound}
use Rattle.meaning.proofs.Trips.{Inside, trip_time, trip_visits, count-over-bound}
use Rattle.meaning.proofs.Ranges.{trips-inside, trips-ceiling}
use Rattle.meaning.proofs.Reports.{WithinCeiling, within-append, first-over-none}
use Rattle.meaning.proofs.SumsOfBounds.{first-counts-at-most}
use Rattle.meaning.proofs.VisitedTrips.{visited-most}

count_same : (n : ℕ) (f g : ℕ → ℕ) → ((k : ℕ) → f k ≡ g k) → count_over n f ≡ count_over n g
unfolding count_over
count_same zero f g h = omega arith
count_same (suc n) f g h = omega (arith, count_same n f g h, h n)

-- a bound for each of the records of a part, of the record in between and of what follows it
join-bound : (u : ℕ) (rs ss : List Record) (r : Record) → u * length (rs ++ (r ∷ ss)) ≡ u * length rs + u + u * length ss
join-bound u rs ss r =
    ap (λ (x : ℕ). u * x) (length-append rs (r ∷ ss)) ∙ mul-add u (length rs) (suc (length ss)) ∙ (omega (arith, mul-suc u (length ss)))

module _ (unit : ℕ) where
  -- what one record may come to inside at most d loops that make as many trips as a ceiling may be
  abbrev pub record_bound : ℕ → ℕ
  record_bound d = unit * ceiling_limit ^ d

  record-bound-suc : (d : ℕ) → record_bound (suc d) ≡ ceiling_limit * record_bound d
  record-bound-suc d = ap (λ (x : ℕ). unit * x) (pow-succ' ceiling_limit d) ∙ mul_left_comm unit ceiling_limit (ceiling_limit ^ d)

  unit-within : (d : ℕ) → unit ≤ record_bound d
  unit-within zero = omega arith
  unit-within (suc d) = let i = unit-within d in omega (arith, record-bound-suc d)

  -- so many trips, each with n records and one unit of its own
  trips-bound : (d n : ℕ) → ceiling_limit * (record_bound d * suc n) ≡ record_bound (suc d) * n + record_bound (suc d)
  trips-bound d n =
      sym (mul_assoc ceiling_limit (record_bound d) (suc n)) ∙ ap (λ (x : ℕ). x * suc n) (sym (record-bound-suc d)) ∙ mul-suc (record_bound (suc d)) n

module _ (ps : List ℤ) where
  -- An amount of trees to which each record adds at most a unit each time that it is passed, a loop once more in each of its trips.
  record Amount (unit : ℕ) : Type 0 where
    of : Block → List Range → List ℤ → ℕ
    of_arms : Arms → List Range → List ℤ → ℕ
    of_empty : (ranges : List Range) (indexes : List ℤ) → of empty ranges indexes ≡ 0
    of_work : (least most : ℕ) (rest : Block) (ranges : List Range) (indexes : List ℤ) → WorkSound least most →
        of (work least most rest) ranges indexes ≤ unit + of rest ranges indexes
    of_loop : (l : Loop) (body rest : Block) (ranges : List Range) (indexes : List ℤ) → LoopSound l →
        of (loop l body rest) ranges indexes
        ≤ unit + count_over (trips ps l indexes) (λ trip. unit + of body (inner_ranges ps l ranges) (inner_indexes ps l indexes trip)) + of rest ranges indexes
    of_choice : (arms : Arms) (rest : Block) (ranges : List Range) (indexes : List ℤ) →
        of (choice arms rest) ranges indexes ≤ of_arms arms ranges indexes + of rest ranges indexes
    of_last_arm : (b : Block) (ranges : List Range) (indexes : List ℤ) → of_arms (last_arm b) ranges indexes ≤ of b ranges indexes
    of_arm : (b : Block) (arms : Arms) (ranges : List Range) (indexes : List ℤ) →
        of_arms (arm b arms) ranges indexes ≤ of b ranges indexes + of_arms arms ranges indexes

  -- it is at most the bound for each of the tree's records
  module _ (unit : ℕ) (amount : Amount unit) where
    mutual
      unfolding loop_reports height records Sound WithinCeiling

      amount-bound : (b : Block) → Sound b → (ranges : List Range) (indexes : List ℤ) (at d : ℕ) → Inside indexes ranges →
          WithinCeiling (loop_reports ps b ranges at) → height b ≤ d → amount.of b ranges indexes ≤ record_bound unit d * length (records b)
      amount-bound empty s ranges indexes at d i w h = omega (arith, amount.of_empty ranges indexes)
      amount-bound (work least most rest) s ranges indexes at d i w h =
          let j = amount-bound rest s.1 ranges indexes (at + record_length (work_record least most)) d i w h in
          omega (arith, amount.of_work least most rest ranges indexes s.0, unit-within unit d, mul-suc (record_bound unit d) (length (records rest)))
      amount-bound (loop l body rest) s ranges indexes at zero i w h = absurd (omega arith)
      amount-bound (loop l body rest) s ranges indexes at (suc d) i (c, w) h =
          let after_loop = at + record_length (loop_record l) in
          let after_end = after_loop + sheet_length (records body) + record_length end_record in
          let q = within-append (loop_reports ps body (inner_ranges ps l ranges) after_loop) (loop_reports ps rest ranges after_end) w in
          let n = length (records body) in
          let j = amount-bound rest s.2 ranges indexes after_end (suc d) i q.1 (omega arith) in
          omega (
            arith,
            amount.of_loop l body rest ranges indexes s.0,
            count-over-bound (trips ps l indexes) (λ trip. unit + amount.of body (inner_ranges ps l ranges) (inner_indexes ps l indexes trip))
                (record_bound unit d * suc n) (λ trip k.
                let m = amount-bound body s.1 (inner_ranges ps l ranges) (inner_indexes ps l indexes trip) after_loop d
                (trips-inside ps l ranges indexes trip i k) q.0 (omega arith) in
                omega (arith, unit-within unit d, mul-suc (record_bound unit d) n)),
            mul-le-mul_right {m = trips ps l indexes} {n = ceiling_limit} (record_bound unit d * suc n) (le_trans (trips-ceiling ps l ranges indexes i) c),
            trips-bound unit d n,
            unit-within unit (suc d),
            join-bound (record_bound unit (suc d)) (records body) (records rest) end_record,
            mul-suc (record_bound unit (suc d)) (length (records body ++ (end_record ∷ records rest))),
          )
      amount-bound (choice arms rest) s ranges indexes at d i w h =
          let after_choice = at + record_length choice_record in
          let after_end = after_choice + sheet_length (arms_records arms) + record_length end_record in
          let q = within-append (arms_reports ps arms ranges after_choice) (loop_reports ps rest ranges after_end) w in
          let j = amount-bound rest s.1 ranges indexes after_end d i q.1 (omega arith) in
          let k = arms-bound arms s.0 ranges indexes after_choice d i q.0 (omega arith) in
          omega (
            arith,
            amount.of_choice arms rest ranges indexes,
            join-bound (record_bound unit d) (arms_records arms) (records rest) end_record,
            mul-suc (record_bound unit d) (length (arms_records arms ++ (end_record ∷ records rest))),
          )

      arms-bound : (arms : Arms) → ArmsSound arms → (ranges : List Range) (indexes : List ℤ) (at d : ℕ) → Inside indexes ranges →
          WithinCeiling (arms_reports ps arms ranges at) → arms_height arms ≤ d →
          amount.of_arms arms ranges indexes ≤ record_bound unit d * length (arms_records arms)
      arms-bound (last_arm b) s ranges indexes at d i w h = le_trans (amount.of_last_arm b ranges indexes) (amount-bound b s ranges indexes at d i w h)
      arms-bound (arm b arms) s ranges indexes at d i w h =
          let after_next_arm = at + sheet_length (records b) + record_length next_arm_record in
          let q = within-append (loop_reports ps b ranges at) (arms_reports ps arms ranges after_next_arm) w in
          let j = amount-bound b s.0 ranges indexes at d i q.0 (omega arith) in
          let k = arms-bound arms s.1 ranges indexes after_next_arm d i q.1 (omega arith) in
          omega (arith, amount.of_arm b arms ranges indexes, join-bound (record_bound unit d) (records b) (arms_records arms) next_arm_record)

    -- of a whole sheet
    sheet-bound : (b : Block) → Sound b → height b ≤ depth_limit → length (records b) ≤ record_limit →
        first_over_ceiling (loop_reports ps b [] 0) ≡ none → amount.of b [] [] ≤ record_bound unit depth_limit * record_limit
    unfolding Inside
    sheet-bound b s h n e =
        le_trans (amount-bound b s [] [] 0 depth_limit tt ((first-over-none (loop_reports ps b [] 0)).0 e) h) (mul-le-mul_left (record_bound unit depth_limit) n)

  -- ---- the most cycles: a record costs at most the cost limit

  sum-most : (l : Loop) (body : Block) (indexes : List ℤ) (n : ℕ) → LoopSound l →
      (sum_over n (trip_time ps l body indexes)).most ≤ count_over n (λ trip. cost_limit + (time ps body (inner_indexes ps l indexes trip)).most)
  unfolding sum_over count_over
  sum-most l body indexes zero s = omega arith
  sum-most l body indexes (suc n) s = omega (arith, sum-most l body indexes n s, s.step_small)

  most-amount : Amount cost_limit
  unfolding time
  most-amount = record {
    of = λ b ranges indexes. (time ps b indexes).most;
    of_arms = λ arms ranges indexes. (arms_time ps arms indexes).most;
    of_empty = λ ranges indexes. omega arith;
    of_work = λ least most rest ranges indexes s. omega (arith, s.most_small);
    of_loop = λ l body rest ranges indexes s.
        omega (arith, s.entry_small (trips ps l indexes), sum-most l body indexes (trips ps l indexes) s);
    of_choice = λ arms rest ranges indexes. omega arith;
    of_last_arm = λ b ranges indexes. omega arith;
    of_arm = λ b arms ranges indexes. omega arith;
  }

  -- of a part of a sheet
  pub most-bound : (b : Block) → Sound b → (ranges : List Range) (indexes : List ℤ) (at d : ℕ) → Inside indexes ranges →
      WithinCeiling (loop_reports ps b ranges at) → height b ≤ d → (time ps b indexes).most ≤ record_bound cost_limit d * length (records b)
  unfolding most-amount
  most-bound b s ranges indexes at d i w h = amount-bound cost_limit most-amount b s ranges indexes at d i w h

  -- ---- the visits: a loop has one in each of its visited trips

  visits-amount : Amount 1
  unfolding visits_by
  visits-amount = record {
    of = visits ps;
    of_arms = arms_visits ps;
    of_empty = λ ranges indexes. omega arith;
    of_work = λ least most rest ranges indexes s. omega arith;
    of_loop = λ l body rest ranges indexes s.
        let made : ℕ = trips ps l indexes in
        omega (
          arith,
          first-counts-at-most (visited_trips ps l body ranges indexes made) made (trip_visits ps l body ranges indexes) (visited-most ps l body ranges indexes made),
          count_same made (trip_visits ps l body ranges indexes) (λ trip. 1 + visits ps body (inner_ranges ps l ranges) (inner_indexes ps l indexes trip))
              (λ trip. omega arith),
        );
    of_choice = λ arms rest ranges indexes. omega arith;
    of_last_arm = λ b ranges indexes. omega arith;
    of_arm = λ b arms ranges indexes. omega arith;
  }

  -- as many records as a sheet may have, in loops as deep as they may be, each at its largest cost, stay below the limit
  pub figures-small : (b : Block) → Sound b → height b ≤ depth_limit → length (records b) ≤ record_limit →
      first_over_ceiling (loop_reports ps b [] 0) ≡ none → (time ps b []).most < figure_limit
  unfolding most-amount
  figures-small b s h n e = omega (arith, sheet-bound cost_limit most-amount b s h n e)

  pub visits-small : (b : Block) → Sound b → height b ≤ depth_limit → length (records b) ≤ record_limit →
      first_over_ceiling (loop_reports ps b [] 0) ≡ none → visits ps b [] [] < figure_limit
  unfolding visits-amount
  visits-small b s h n e = omega (arith, sheet-bound 1 visits-amount b s h n e)
