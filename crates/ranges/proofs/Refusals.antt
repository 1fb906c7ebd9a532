-- When each refusal over a range is given: 11, 7, 1 to 6 of the first value that has one, 8, in this order; otherwise there is an answer.
use mathlib.Core.Path.{◌≡◌, refl, sym, ap, ◌∙◌}
use mathlib.Core.List.{List}
use mathlib.Core.Bool.{Bool, true, false, ◌&&◌}
use mathlib.Core.Logic.{◌⊎◌, inl, inr}
use Prim.Native.Nat.{ℕ, zero, suc, ◌+◌, ◌≤◌, ◌<◌}
use native.Mathlib.Decide.{dec_le}
use native.Mathlib.Omega.{arith}
use borrow.Author.Tests.{le-leb, lt-leb}
use lib.IntN.{ℤ}
use lib.Dec.{leb}
use Rattle.meaning.specs.Limits.{budget_limit}
use Rattle.meaning.specs.Record.{Record}
use Rattle.meaning.specs.Reader.{Result, ok, refused, require, and_then}
use Rattle.meaning.specs.Answer.{Figures, accepted}
use Rattle.meaning.proofs.Logic.{refused-is-not-ok, refused-number, refused-place, and_then-yes, and_then-no}
use Rattle.meaning.proofs.Answers.{BudgetInRange, BudgetOutOfRange, budget-decided, in-range-passes, out-of-range-fails}
use Rattle.ranges.specs.ParameterRange.{ParameterRange, value_count, parameters_at, range_allowed}
use Rattle.ranges.specs.FiguresOver.{total_visits, figures_from, check_total, figures_over}
use Rattle.ranges.specs.Extremes.{extremes_of, extremes}
use Rattle.ranges.proofs.FirstValue.{with-first, others-refused, first-refused}

module _ (sheet : List ℕ) (ps : List ℤ) (range : ParameterRange) where
  abbrev at : ℕ → List ℤ
  at k = parameters_at range ps k

  -- ---- 1 to 6

  -- value number j has this refusal, and those from number k on before it have none
  pub record FirstRefused (k count number place : ℕ) : Type 0 where
    pub j : ℕ
    pub within : j < count
    pub refusal : accepted sheet (at (j + k)) ≡ refused number place
    pub none_before : (i : ℕ) → i < j → (rs : List Record) × (accepted sheet (at (i + k)) ≡ ok rs)

  pub value-refused : (count k number place : ℕ) → figures_from sheet ps range count k ≡ refused number place → FirstRefused k count number place
  unfolding figures_from
  value-refused zero k number place e = refused-is-not-ok (sym e)
  value-refused (suc count) k number place e = by_first (λ f. value-refused count (suc k) number place f) (accepted sheet (at k)) refl
    where
      plain : zero + k ≡ k
      plain = omega arith

      later : (rs : List Record) → accepted sheet (at k) ≡ ok rs → FirstRefused (suc k) count number place → FirstRefused k (suc count) number place
      later rs a f = record {
        j = suc f.j;
        within = let h = f.within in omega arith;
        refusal = let moved : suc f.j + k ≡ f.j + suc k = omega arith in ap (λ n. accepted sheet (at n)) moved ∙ f.refusal;
        none_before = before;
      }
        where
          before : (i : ℕ) → i < suc f.j → (rs : List Record) × (accepted sheet (at (i + k)) ≡ ok rs)
          before zero h = (rs, ap (λ n. accepted sheet (at n)) plain ∙ a)
          before (suc i) h =
              let b = f.none_before i (omega arith) in
              let moved : suc i + k ≡ i + suc k = omega arith in (b.0, ap (λ n. accepted sheet (at n)) moved ∙ b.1)

      Others : Type 0
      Others = figures_from sheet ps range count (suc k) ≡ refused number place → FirstRefused (suc k) count number place

      by-others : Others → (rs : List Record) → accepted sheet (at k) ≡ ok rs → (r : Result (List Figures)) → figures_from sheet ps range count (suc k) ≡ r →
          FirstRefused k (suc count) number place
      by-others others rs a (ok fs) f = refused-is-not-ok (sym e ∙ with-first sheet ps range count k a f)
      by-others others rs a (refused n p) f =
          let same = sym (others-refused sheet ps range count k a f) ∙ e in
          later rs a (others (f ∙ (λ t. refused (refused-number same t) (refused-place same t))))

      by_first : Others → (r : Result (List Record)) → accepted sheet (at k) ≡ r → FirstRefused k (suc count) number place
      by_first others (ok rs) a = by-others others rs a (figures_from sheet ps range count (suc k)) refl
      by_first others (refused n p) a =
          let same = sym (first-refused sheet ps range count k a) ∙ e in
          record {
            j = zero;
            within = omega arith;
            refusal = ap (λ n. accepted sheet (at n)) plain ∙ a ∙ (λ t. refused (refused-number same t) (refused-place same t));
            none_before = λ i h. absurd (omega arith);
          }

-- ---- in their order

module _ (sheet : List ℕ) (ps : List ℤ) (budget : ℕ) (range : ParameterRange) where
  by_tests : {a b : Bool} → range_allowed range ≡ a → (leb 1 budget && leb budget budget_limit) ≡ b →
      figures_over sheet ps budget range ≡ require a 11 0 (require b 7 0 (and_then (figures_from sheet ps range (value_count range) 0) (check_total budget)))
  unfolding figures_over
  by_tests p q = λ t. require (p t) 11 0 (require (q t) 7 0 (and_then (figures_from sheet ps range (value_count range) 0) (check_total budget)))

  pub over-11 : range_allowed range ≡ false → figures_over sheet ps budget range ≡ refused 11 0
  unfolding require
  over-11 e = by_tests e refl

  module _ (allowed : range_allowed range ≡ true) where
    pub over-7 : BudgetOutOfRange budget → figures_over sheet ps budget range ≡ refused 7 0
    unfolding require
    over-7 b = by_tests allowed (out-of-range-fails budget b)

    module _ (b : BudgetInRange budget) where
      over-values : {r : Result (List Figures)} → figures_from sheet ps range (value_count range) 0 ≡ r → figures_over sheet ps budget range ≡ and_then r (check_total budget)
      unfolding require
      over-values e = by_tests allowed (in-range-passes budget b) ∙ ap (λ (r : Result (List Figures)). and_then r (check_total budget)) e

      pub over-refused : {number place : ℕ} → figures_from sheet ps range (value_count range) 0 ≡ refused number place → figures_over sheet ps budget range ≡ refused number place
      unfolding and_then
      over-refused e = over-values e

      over-total : {fs : List Figures} {c : Bool} → figures_from sheet ps range (value_count range) 0 ≡ ok fs → leb (total_visits fs) budget ≡ c →
          figures_over sheet ps budget range ≡ require c 8 0 (ok fs)
      unfolding and_then check_total
      over-total {fs} e t = over-values e ∙ ap (λ (c : Bool). require c 8 0 (ok fs)) t

      pub over-figures : {fs : List Figures} → figures_from sheet ps range (value_count range) 0 ≡ ok fs → total_visits fs ≤ budget → figures_over sheet ps budget range ≡ ok fs
      unfolding require
      over-figures {fs} e h = over-total e (le-leb (total_visits fs) budget h)

      pub over-8 : {fs : List Figures} → figures_from sheet ps range (value_count range) 0 ≡ ok fs → budget < total_visits fs → figures_over sheet ps budget range ≡ refused 8 0
      unfolding require
      over-8 {fs} e h = over-total e (lt-leb (total_visits fs) budget h)

  extremes-refused : {number place : ℕ} → figures_over sheet ps budget range ≡ refused number place → extremes sheet ps budget range ≡ refused number place
  unfolding extremes
  extremes-refused e = and_then-no (λ fs. ok (extremes_of range fs)) e

  -- what the library call over a range does, and when
  pub data RangeOutcome : Type 0 where
    range_refused : range_allowed range ≡ false → extremes sheet ps budget range ≡ refused 11 0 → RangeOutcome
    budget_refused : range_allowed range ≡ true → BudgetOutOfRange budget → extremes sheet ps budget range ≡ refused 7 0 → RangeOutcome
    value_refused : (number place : ℕ) → range_allowed range ≡ true → BudgetInRange budget → FirstRefused sheet ps range 0 (value_count range) number place →
        extremes sheet ps budget range ≡ refused number place → RangeOutcome
    visits_refused : (fs : List Figures) → range_allowed range ≡ true → BudgetInRange budget → figures_from sheet ps range (value_count range) 0 ≡ ok fs →
        budget < total_visits fs → extremes sheet ps budget range ≡ refused 8 0 → RangeOutcome
    found : (fs : List Figures) → range_allowed range ≡ true → BudgetInRange budget → figures_from sheet ps range (value_count range) 0 ≡ ok fs →
        total_visits fs ≤ budget → extremes sheet ps budget range ≡ ok (extremes_of range fs) → RangeOutcome

  pub range-outcome : RangeOutcome
  unfolding extremes
  range-outcome = by-range (range_allowed range) refl
    where
      by-visits : range_allowed range ≡ true → BudgetInRange budget → (fs : List Figures) → figures_from sheet ps range (value_count range) 0 ≡ ok fs →
          Dec (total_visits fs ≤ budget) → RangeOutcome
      by-visits a b fs e (yes h) = found fs a b e h (and_then-yes (λ fs. ok (extremes_of range fs)) (over-figures a b e h))
      by-visits a b fs e (no h) = let h' : budget < total_visits fs = omega arith in visits_refused fs a b e h' (extremes-refused (over-8 a b e h'))

      by_values : range_allowed range ≡ true → BudgetInRange budget → (r : Result (List Figures)) → figures_from sheet ps range (value_count range) 0 ≡ r → RangeOutcome
      by_values a b (ok fs) e = by-visits a b fs e (dec_le (total_visits fs) budget)
      by_values a b (refused number place) e =
          value_refused number place a b (value-refused sheet ps range (value_count range) 0 number place e) (extremes-refused (over-refused a b e))

      by-budget : range_allowed range ≡ true → BudgetOutOfRange budget ⊎ BudgetInRange budget → RangeOutcome
      by-budget a (inl b) = budget_refused a b (extremes-refused (over-7 a b))
      by-budget a (inr b) = by_values a b (figures_from sheet ps range (value_count range) 0) refl

      by-range : (a : Bool) → range_allowed range ≡ a → RangeOutcome
      by-range false a = range_refused a (extremes-refused (over-11 a))
      by-range true a = by-budget a (budget-decided budget)
