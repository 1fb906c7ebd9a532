-- The answer over a range from the arrays that hold its figures, or its refusal; and what is promised of it.
use mathlib.Core.Path.{◌≡◌, refl, sym, ap, ◌∙◌}
use mathlib.Core.List.{List}
use Prim.Native.Nat.{ℕ, ◌≤◌}
use native.Mathlib.Omega.{arith}
use lib.IntN.{ℤ}
use lib.ListN.{length, take, length-map}
use Rattle.meaning.specs.Limits.{value_limit}
use Rattle.meaning.specs.Reader.{Result, ok, refused, and_then}
use Rattle.meaning.specs.Answer.{Figures}
use Rattle.meaning.proofs.Logic.{ok-injective, and_then-ok, and_then-yes, and_then-no, refused-is-not-ok, refused-number, refused-place}
use Rattle.ranges.specs.ParameterRange.{ParameterRange, value_count}
use Rattle.ranges.specs.FiguresOver.{total_visits, figures_over}
use Rattle.ranges.specs.Extremes.{leasts_of, mosts_of, Extremes, extremes_in, extremes_of, extremes}
use Rattle.ranges.specs.RangePromise.{RangeAnswered}
use Rattle.ranges.proofs.Tabulated.{length-tabulate}
use Rattle.ranges.proofs.FiguredOver.{figured_over}
use Rattle.ranges.proofs.RangeRuns.{range-answered}
use Rattle.std.specs.Prelude as prelude
use Rattle.std.specs.Prelude.{Ok, Err}
use Rattle.std.specs.Result.{IsErrAnd}
use Rattle.sheet.specs.declared.refusal.Refusal.{Refusal}
use Rattle.sheet.specs.Refusals.{refusal_number}
use Rattle.sweep.specs.declared.extremes.Extremes as Code
use Rattle.sweep.specs.Ranges.{range_result}
use Rattle.sweep.specs.Overs.{visits_over, cycles_over, least_figure, most_figure}
use Rattle.sweep.proofs.Padding.{padded-numbers}

-- a refusal that is passed on
pub passed_on : (r : prelude.Result Code.Extremes Refusal) (e : Refusal) → IsErrAnd r (λ y. y ≡ e) → range_result r ≡ refused (refusal_number e.kind) e.offset
passed_on (Ok x) e h = absurd h
passed_on (Err y) e h = λ i. refused (refusal_number (h i).kind) (h i).offset

module _ (sheet : List ℕ) (ps : List ℤ) (budget : ℕ) (range : ParameterRange) where
  -- both promises of the library call over a range
  pub promised : {r : Result Extremes} → r ≡ extremes sheet ps budget range → (r ≡ extremes sheet ps budget range) × RangeAnswered sheet ps budget range r
  promised {r} e = (e, range-answered sheet ps budget range r e)

  -- a refusal of the figures over the range is the answer's
  pub answer-refused : {number place : ℕ} → refused number place ≡ visits_over (figures_over sheet ps budget range) → refused number place ≡ extremes sheet ps budget range
  unfolding visits_over extremes
  answer-refused {number} {place} e = go (figures_over sheet ps budget range) refl
    where
      go : (x : Result (List Figures)) → figures_over sheet ps budget range ≡ x →
          refused number place ≡ and_then (figures_over sheet ps budget range) λ fs. ok (extremes_of range fs)
      go (ok fs) f = refused-is-not-ok (e ∙ and_then-yes (λ fs. ok (total_visits fs)) f)
      go (refused n p) f =
          let same = e ∙ and_then-no (λ fs. ok (total_visits fs)) f in
          (λ t. refused (refused-number same t) (refused-place same t)) ∙ sym (and_then-no (λ fs. ok (extremes_of range fs)) f)

  -- where there are figures
  module _ {visits count : ℕ} (v : ok visits ≡ visits_over (figures_over sheet ps budget range)) (counted : count ≡ value_count range) where
    figures : (fs : List Figures) × (figures_over sheet ps budget range ≡ ok fs) × (ok (total_visits fs) ≡ ok visits)
    unfolding visits_over
    figures = and_then-ok (figures_over sheet ps budget range) (λ fs. ok (total_visits fs)) visits (sym v)

    abbrev fs : List Figures
    fs = figures.0

    long : length fs ≡ count
    long = ap (λ (xs : List Figures). length xs) (figured_over sheet ps budget range fs figures.1).figures_are ∙ length-tabulate (value_count range) _ ∙ sym counted

    pub count-in-range : (1 ≤ count) × (count ≤ value_limit)
    count-in-range = let o = (figured_over sheet ps budget range fs figures.1).count_in_range in (omega (arith, o.0, counted), omega (arith, o.1, counted))

    -- and a call left them in the arrays
    pub answer-found : {leasts mosts : List ℕ} → leasts ≡ cycles_over leasts_of (figures_over sheet ps budget range)
        → mosts ≡ cycles_over mosts_of (figures_over sheet ps budget range)
        → {e : Extremes} → e ≡ extremes_in range (take count leasts) (take count mosts) visits → ok e ≡ extremes sheet ps budget range
    unfolding extremes cycles_over
    answer-found {leasts} {mosts} l m {e} is =
        let ls : take count leasts ≡ leasts_of fs = ap (take count) (l ∙ ap (cycles_over leasts_of) figures.1) ∙ padded-numbers (leasts_of fs) (length-map fs least_figure ∙ long) in
        let ms : take count mosts ≡ mosts_of fs = ap (take count) (m ∙ ap (cycles_over mosts_of) figures.1) ∙ padded-numbers (mosts_of fs) (length-map fs most_figure ∙ long) in
        ap {B = Result Extremes} ok (is ∙ (λ t. extremes_in range (ls t) (ms t) (sym (ok-injective figures.2) t)))
        ∙ sym (and_then-yes (λ fs. ok (extremes_of range fs)) figures.1)
