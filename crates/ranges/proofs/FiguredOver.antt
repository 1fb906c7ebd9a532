-- What the figures over a range rest on: one reading of the sheet, and at every value the figures of the single call.
use mathlib.Core.Path.{◌≡◌, sym, ap, ap₂, ◌∙◌, subst}
use mathlib.Core.List.{List, ◌∷◌}
use mathlib.Core.Option.{none}
use Prim.Native.Nat.{ℕ, zero, suc, ◌+◌, ◌≤◌, ◌<◌}
use native.Mathlib.Omega.{arith}
use lib.IntN.{ℤ}
use lib.Dec.{leb, leb→le}
use Rattle.meaning.specs.Limits.{parameter_factors, budget_limit, value_limit}
use Rattle.meaning.specs.Record.{Record}
use Rattle.meaning.specs.Reader.{ok, read}
use Rattle.meaning.specs.Tree.{tree}
use Rattle.meaning.specs.Report.{first_over_ceiling}
use Rattle.meaning.specs.Answer.{Figures, sheet_reports, figures_of, answer}
use Rattle.meaning.proofs.Logic.{T_and, T→true, ok-injective, and_then-ok, require-ok}
use Rattle.meaning.proofs.Answers.{BudgetInRange, accepted-ok, accepted-within, answer-figures}
use Rattle.ranges.specs.ParameterRange.{ParameterRange, value_count, parameters_at, range_allowed}
use Rattle.ranges.specs.FiguresOver.{total_visits, figures_from, check_total, figures_over}
use Rattle.ranges.proofs.Tabulated.{tabulate, tabulate-same}
use Rattle.ranges.proofs.Allowed.{allowed-parts}
use Rattle.ranges.proofs.FirstValue.{first-figured}

-- ---- the figures from a value on

module _ (sheet : List ℕ) (ps : List ℤ) (range : ParameterRange) where
  abbrev at : ℕ → List ℤ
  at k = parameters_at range ps k

  abbrev figures_number : List Record → ℕ → Figures
  figures_number rs k = figures_of (at k) (tree rs)

  -- all of `count` values from value number k on have the figures of one reading, and their ceilings are within the limit
  figures-from : (count k : ℕ) (fs : List Figures) (rs : List Record) → read sheet ≡ ok rs → figures_from sheet ps range count k ≡ ok fs →
      (fs ≡ tabulate count (λ j. figures_number rs (j + k))) × ((j : ℕ) → j < count → first_over_ceiling (sheet_reports (at (j + k)) rs) ≡ none)
  unfolding figures_from tabulate
  figures-from zero k fs rs r e = (sym (ok-injective e), λ j h. absurd (omega arith))
  figures-from (suc count) k fs rs r e =
      let first = first-figured sheet ps range count k fs e in
      let as_read = (accepted-ok sheet (at k) first.rs).0 first.accepted_as in
      let same : first.rs ≡ rs = ok-injective (sym as_read.0 ∙ r) in
      let others = figures-from count (suc k) first.others rs r first.others_are in
      let k0 : k ≡ zero + k = omega arith in (
        first.same
            ∙ ap₂ {B = List Figures} {C = List Figures} ◌∷◌ (ap₂ figures_number same k0)
            (others.0 ∙ tabulate-same count (λ j. figures_number rs (j + suc k)) (λ j. figures_number rs (suc j + k)) (λ j. ap (figures_number rs) (omega arith))),
        within (ap (λ xs. first_over_ceiling (sheet_reports (at k) xs)) (sym same) ∙ as_read.1) others.1,
      )
    where
      within : first_over_ceiling (sheet_reports (at k) rs) ≡ none → ((j : ℕ) → j < count → first_over_ceiling (sheet_reports (at (j + suc k)) rs) ≡ none) →
          (j : ℕ) → j < suc count → first_over_ceiling (sheet_reports (at (j + k)) rs) ≡ none
      within here others zero h = let k0 : zero + k ≡ k = omega arith in ap (λ n. first_over_ceiling (sheet_reports (at n) rs)) k0 ∙ here
      within here others (suc j) h =
          let e : suc j + k ≡ j + suc k = omega arith in ap (λ n. first_over_ceiling (sheet_reports (at n) rs)) e ∙ others j (omega arith)

-- ---- the figures over a range

module _ (sheet : List ℕ) (ps : List ℤ) (budget : ℕ) (range : ParameterRange) where
  -- taken apart
  pub record FiguredOver (fs : List Figures) : Type 0 where
    pub rs : List Record
    pub read_as : read sheet ≡ ok rs
    pub number_in_range : (1 ≤ range.number) × (range.number ≤ parameter_factors)
    pub count_in_range : (1 ≤ value_count range) × (value_count range ≤ value_limit)
    pub budget_in_range : BudgetInRange budget
    pub ceilings_within : (k : ℕ) → k < value_count range → first_over_ceiling (sheet_reports (parameters_at range ps k) rs) ≡ none
    pub figures_are : fs ≡ tabulate (value_count range) (λ k. figures_of (parameters_at range ps k) (tree rs))
    pub visits_within : total_visits fs ≤ budget

  read-once : (count : ℕ) (fs : List Figures) → 1 ≤ count → figures_from sheet ps range count 0 ≡ ok fs → (rs : List Record) × (read sheet ≡ ok rs)
  read-once zero fs h e = absurd (omega arith)
  read-once (suc count) fs h e = let first = first-figured sheet ps range count 0 fs e in (first.rs, ((accepted-ok sheet (parameters_at range ps 0) first.rs).0 first.accepted_as).0)

  pub figured_over : (fs : List Figures) → figures_over sheet ps budget range ≡ ok fs → FiguredOver fs
  unfolding figures_over check_total
  figured_over fs e =
      let count : ℕ = value_count range in
      let a = require-ok _ 11 0 _ fs e in
      let b = require-ok _ 7 0 _ fs a.1 in
      let c = and_then-ok (figures_from sheet ps range count 0) (check_total budget) fs b.1 in
      let d = require-ok (leb (total_visits c.0) budget) 8 0 (ok c.0) fs c.2 in
      let same : c.0 ≡ fs = ok-injective d.1 in
      let allowed = allowed-parts range (T→true (range_allowed range) a.0) in
      let affords = T_and (leb 1 budget) (leb budget budget_limit) b.0 in
      let reading = read-once count c.0 allowed.count.0 c.1 in
      let all = figures-from sheet ps range count 0 c.0 reading.0 reading.1 c.1 in
      record {
        rs = reading.0;
        read_as = reading.1;
        number_in_range = allowed.number;
        count_in_range = allowed.count;
        budget_in_range = record { positive = leb→le 1 budget affords.0; within = leb→le budget budget_limit affords.1 };
        ceilings_within = λ k h. ap (λ n. first_over_ceiling (sheet_reports (parameters_at range ps n) reading.0)) (sym (plain k)) ∙ all.1 k h;
        figures_are = sym same ∙ all.0 ∙ tabulate-same count _ _ (λ j. ap (λ n. figures_of (parameters_at range ps n) (tree reading.0)) (plain j));
        visits_within = subst (λ x. total_visits x ≤ budget) same (leb→le (total_visits c.0) budget d.0);
      }
    where
      plain : (k : ℕ) → k + 0 ≡ k
      plain k = omega arith

  visits-each : (n k : ℕ) (f : ℕ → Figures) → k < n → (f k).visits ≤ total_visits (tabulate n f)
  unfolding tabulate total_visits
  visits-each zero k f h = absurd (omega arith)
  visits-each (suc n) zero f h = omega arith
  visits-each (suc n) (suc k) f h = let i = visits-each n k (λ j. f (suc j)) (omega arith) in omega arith

  -- at each value the single call with the same budget answers these figures
  pub single-calls : (fs : List Figures) (o : FiguredOver fs) (k : ℕ) → k < value_count range →
      answer sheet (parameters_at range ps k) budget ≡ ok (figures_of (parameters_at range ps k) (tree o.rs))
  unfolding figures_of
  single-calls fs o k h =
      let total = subst (λ x. total_visits x ≤ budget) o.figures_are o.visits_within in
      let each = visits-each (value_count range) k (λ j. figures_of (parameters_at range ps j) (tree o.rs)) h in
      answer-figures sheet (parameters_at range ps k) budget o.rs o.budget_in_range
      (accepted-within sheet (parameters_at range ps k) o.rs o.read_as (o.ceilings_within k h)) (omega arith)
