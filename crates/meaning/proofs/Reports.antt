-- There is one report a loop, in sheet order and at the loop's offset; refusal 6 is at the first loop whose ceiling is above the limit.
use mathlib.Core.Path.{◌≡◌, refl, sym, ap, ◌∙◌}
use mathlib.Core.List.{List, [], ◌∷◌, ◌++◌, map, map-append, append_assoc}
use mathlib.Core.Bool.{Bool, true, false, not}
use mathlib.Core.Logic.{◌↔◌}
use mathlib.Core.Option.{Option, none, some, some-injective}
use Prim.Native.Nat.{ℕ, ◌+◌, ◌≤◌, ◌<◌}
use native.Mathlib.Nat.{add_assoc, add-zero}
use native.Mathlib.Omega.{arith}
use lib.IntN.{ℤ}
use lib.Dec.{T, ltb, ltb→lt, nltb→le}
use lib.ListN.{length, length-append}
use borrow.Author.Tests.{lt-ltb, le-ltb}
use Rattle.meaning.specs.Limits.{ceiling_limit}
use Rattle.meaning.specs.Record.{Record, work_record, loop_record, end_record, choice_record, next_arm_record, record_length, sheet_length}
use Rattle.meaning.specs.Tree.{Block, Arms, empty, work, loop, choice, last_arm, arm, records, arms_records, loops, arms_loops}
use Rattle.meaning.specs.Range.{Range, inner_ranges}
use Rattle.meaning.specs.Closed.{is_closed}
use Rattle.meaning.specs.Report.{LoopReport, loop_reports, arms_reports, or_else, first_over_ceiling, all_closed}
use Rattle.meaning.proofs.Logic.{T_and, and_t, true→T, none-is-not-some}

-- ---- one report a loop

module _ (ps : List ℤ) where
  mutual
    unfolding loop_reports loops

    pub report-count : (b : Block) (ranges : List Range) (at : ℕ) → length (loop_reports ps b ranges at) ≡ loops b
    report-count empty ranges at = refl
    report-count (work least most rest) ranges at = report-count rest ranges (at + record_length (work_record least most))
    report-count (loop l body rest) ranges at =
        let after_loop = at + record_length (loop_record l) in
        let after_end = after_loop + sheet_length (records body) + record_length end_record in
        let i = report-count body (inner_ranges ps l ranges) after_loop in
        let j = report-count rest ranges after_end in
        omega (arith, length-append (loop_reports ps body (inner_ranges ps l ranges) after_loop) (loop_reports ps rest ranges after_end))
    report-count (choice arms rest) ranges at =
        let after_choice = at + record_length choice_record in
        let after_end = after_choice + sheet_length (arms_records arms) + record_length end_record in
        let i = arms-report-count arms ranges after_choice in
        let j = report-count rest ranges after_end in
        omega (arith, length-append (arms_reports ps arms ranges after_choice) (loop_reports ps rest ranges after_end))

    pub arms-report-count : (arms : Arms) (ranges : List Range) (at : ℕ) → length (arms_reports ps arms ranges at) ≡ arms_loops arms
    arms-report-count (last_arm b) ranges at = report-count b ranges at
    arms-report-count (arm b arms) ranges at =
        let after_next_arm = at + sheet_length (records b) + record_length next_arm_record in
        let i = report-count b ranges at in
        let j = arms-report-count arms ranges after_next_arm in
        omega (arith, length-append (loop_reports ps b ranges at) (arms_reports ps arms ranges after_next_arm))

-- ---- in sheet order, at the loops' offsets

-- the record's offset, if it is a loop
unfoldable pub own_offset : ℕ → Record → List ℕ
own_offset at (work_record least most) = []
own_offset at (loop_record l) = at ∷ []
own_offset at end_record = []
own_offset at choice_record = []
own_offset at next_arm_record = []

-- the offsets of the loops among records of which the first stands at `at`
unfoldable pub loop_offsets : ℕ → List Record → List ℕ
loop_offsets at [] = []
loop_offsets at (r ∷ rs) = own_offset at r ++ loop_offsets (at + record_length r) rs

abbrev pub offsets : List LoopReport → List ℕ
offsets reports = map (λ r. r.offset) reports

loop-offsets-append : (at : ℕ) (rs ss : List Record) → loop_offsets at (rs ++ ss) ≡ loop_offsets at rs ++ loop_offsets (at + sheet_length rs) ss
unfolding loop_offsets sheet_length own_offset
loop-offsets-append at [] ss = ap (λ (x : ℕ). loop_offsets x ss) (sym (add-zero at))
loop-offsets-append at (r ∷ rs) ss =
    ap (λ (xs : List ℕ). own_offset at r ++ xs) (loop-offsets-append (at + record_length r) rs ss)
    ∙ sym (append_assoc (own_offset at r) (loop_offsets (at + record_length r) rs) (loop_offsets (at + record_length r + sheet_length rs) ss))
    ∙ ap (λ (x : ℕ). own_offset at r ++ loop_offsets (at + record_length r) rs ++ loop_offsets x ss) (add_assoc at (record_length r) (sheet_length rs))

-- reports of records that follow one another
offsets-join : (reports others : List LoopReport) (at : ℕ) (rs ss : List Record) → offsets reports ≡ loop_offsets at rs →
    offsets others ≡ loop_offsets (at + sheet_length rs) ss → offsets (reports ++ others) ≡ loop_offsets at (rs ++ ss)
offsets-join reports others at rs ss e f =
    map-append (λ r. r.offset) reports others ∙ (λ t. e t ++ f t) ∙ sym (loop-offsets-append at rs ss)

module _ (ps : List ℤ) where
  mutual
    unfolding loop_reports loop_offsets own_offset records

    pub report-offsets : (b : Block) (ranges : List Range) (at : ℕ) → offsets (loop_reports ps b ranges at) ≡ loop_offsets at (records b)
    report-offsets empty ranges at = refl
    report-offsets (work least most rest) ranges at = report-offsets rest ranges (at + record_length (work_record least most))
    report-offsets (loop l body rest) ranges at =
        let after_loop = at + record_length (loop_record l) in
        let after_end = after_loop + sheet_length (records body) + record_length end_record in
        ap {B = List ℕ} (λ xs. at ∷ xs)
        (offsets-join (loop_reports ps body (inner_ranges ps l ranges) after_loop) (loop_reports ps rest ranges after_end)
        after_loop (records body) (end_record ∷ records rest)
        (report-offsets body (inner_ranges ps l ranges) after_loop) (report-offsets rest ranges after_end))
    report-offsets (choice arms rest) ranges at =
        let after_choice = at + record_length choice_record in
        let after_end = after_choice + sheet_length (arms_records arms) + record_length end_record in
        offsets-join (arms_reports ps arms ranges after_choice) (loop_reports ps rest ranges after_end) after_choice (arms_records arms) (end_record ∷ records rest)
        (arms-report-offsets arms ranges after_choice) (report-offsets rest ranges after_end)

    pub arms-report-offsets : (arms : Arms) (ranges : List Range) (at : ℕ) → offsets (arms_reports ps arms ranges at) ≡ loop_offsets at (arms_records arms)
    arms-report-offsets (last_arm b) ranges at = report-offsets b ranges at
    arms-report-offsets (arm b arms) ranges at =
        let after_next_arm = at + sheet_length (records b) + record_length next_arm_record in
        offsets-join (loop_reports ps b ranges at) (arms_reports ps arms ranges after_next_arm) at (records b) (next_arm_record ∷ arms_records arms)
        (report-offsets b ranges at) (arms-report-offsets arms ranges after_next_arm)

-- ---- reports that follow one another

-- no ceiling is above the limit
unfoldable pub WithinCeiling : List LoopReport → Type 0
WithinCeiling [] = Unit {0}
WithinCeiling (r ∷ rs) = (r.ceiling ≤ ceiling_limit) × WithinCeiling rs

pub within-append : (rs ss : List LoopReport) → WithinCeiling (rs ++ ss) → WithinCeiling rs × WithinCeiling ss
unfolding WithinCeiling
within-append [] ss h = (tt, h)
within-append (r ∷ rs) ss (p, h) = let i = within-append rs ss h in ((p, i.0), i.1)

pub all_closed-append : (rs ss : List LoopReport) → T (all_closed (rs ++ ss)) ↔ (T (all_closed rs) × T (all_closed ss))
unfolding all_closed
all_closed-append [] ss = (λ t. (tt, t), λ both. both.1)
all_closed-append (r ∷ rs) ss =
    let own : Bool = is_closed r.class in
    let others = all_closed-append rs ss in (
      λ t.
          let tests = T_and own (all_closed (rs ++ ss)) t in
          let apart = others.0 tests.1 in
          (and_t own (all_closed rs) tests.0 apart.0, apart.1),
      λ both.
          let tests = T_and own (all_closed rs) both.0 in
          and_t own (all_closed (rs ++ ss)) tests.0 (others.1 (tests.1, both.1)),
    )

-- ---- the first loop above the limit

-- the first report whose ceiling is above the limit has this offset
pub record FirstOver (rs : List LoopReport) (offset : ℕ) : Type 0 where
  pub before : List LoopReport
  pub over : LoopReport
  pub after : List LoopReport
  pub split : rs ≡ before ++ (over ∷ after)
  pub before_within : WithinCeiling before
  pub above : ceiling_limit < over.ceiling
  pub place : over.offset ≡ offset

-- no refusal 6 exactly where no ceiling is above the limit
pub first-over-none : (rs : List LoopReport) → (first_over_ceiling rs ≡ none) ↔ WithinCeiling rs
unfolding first_over_ceiling WithinCeiling or_else
first-over-none [] = (λ e. tt, λ h. refl)
first-over-none (r ∷ rs) = go (ltb ceiling_limit r.ceiling) refl (first-over-none rs)
  where
    go : (c : Bool) → ltb ceiling_limit r.ceiling ≡ c → (first_over_ceiling rs ≡ none) ↔ WithinCeiling rs →
        (or_else c r.offset (first_over_ceiling rs) ≡ none) ↔ ((r.ceiling ≤ ceiling_limit) × WithinCeiling rs)
    go true e i = (λ f. none-is-not-some (sym f), λ h. absurd (let k = ltb→lt ceiling_limit r.ceiling (true→T _ e) in omega (arith, h.0)))
    go false e i = (λ f. (nltb→le ceiling_limit r.ceiling (true→T _ (ap not e)), i.0 f), λ h. i.1 h.1)

-- reports within the limit are passed over
first-over-append : (rs ss : List LoopReport) → WithinCeiling rs → first_over_ceiling (rs ++ ss) ≡ first_over_ceiling ss
unfolding first_over_ceiling WithinCeiling or_else
first-over-append [] ss h = refl
first-over-append (r ∷ rs) ss (p, h) =
    ap (λ c. or_else c r.offset (first_over_ceiling (rs ++ ss))) (le-ltb ceiling_limit r.ceiling p) ∙ first-over-append rs ss h

first-over-at : (rs : List LoopReport) (offset : ℕ) → first_over_ceiling rs ≡ some offset → FirstOver rs offset
unfolding first_over_ceiling WithinCeiling or_else
first-over-at [] offset e = none-is-not-some e
first-over-at (r ∷ rs) offset e = go (ltb ceiling_limit r.ceiling) refl e (first-over-at rs offset)
  where
    go : (c : Bool) → ltb ceiling_limit r.ceiling ≡ c → or_else c r.offset (first_over_ceiling rs) ≡ some offset →
        (first_over_ceiling rs ≡ some offset → FirstOver rs offset) → FirstOver (r ∷ rs) offset
    go true t e later =
        record {
          before = [];
          over = r;
          after = rs;
          split = refl;
          before_within = tt;
          above = ltb→lt ceiling_limit r.ceiling (true→T _ t);
          place = some-injective r.offset offset e;
        }
    go false t e later =
        let i = later e in
        record {
          before = r ∷ i.before;
          over = i.over;
          after = i.after;
          split = ap {B = List LoopReport} (λ xs. r ∷ xs) i.split;
          before_within = (nltb→le ceiling_limit r.ceiling (true→T _ (ap not t)), i.before_within);
          above = i.above;
          place = i.place;
        }

at-first-over : (rs : List LoopReport) (offset : ℕ) → FirstOver rs offset → first_over_ceiling rs ≡ some offset
unfolding first_over_ceiling or_else
at-first-over rs offset h =
    ap first_over_ceiling h.split ∙ first-over-append h.before (h.over ∷ h.after) h.before_within
    ∙ ap (λ c. or_else c h.over.offset (first_over_ceiling h.after)) (lt-ltb ceiling_limit h.over.ceiling h.above)
    ∙ ap {B = Option ℕ} some h.place

-- refusal 6 is at the first loop whose ceiling is above the limit
pub first-over-some : (rs : List LoopReport) (offset : ℕ) → (first_over_ceiling rs ≡ some offset) ↔ FirstOver rs offset
first-over-some rs offset = (first-over-at rs offset, at-first-over rs offset)
