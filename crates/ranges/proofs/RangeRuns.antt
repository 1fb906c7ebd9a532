-- Every run at every value of the range lies between the two figures answered, both are reached, first at the values answered, and the visits
-- are those of the single calls, added up (document 02, C-14).
use mathlib.Core.Path.{◌≡◌, refl, sym, ap, ◌∙◌, subst}
use mathlib.Core.List.{List, []}
use Prim.Native.Nat.{ℕ, zero, suc, ◌+◌, ◌≤◌, ◌<◌}
use native.Mathlib.Decide.{dec_le}
use native.Mathlib.Omega.{arith}
use lib.IntN.{ℤ}
use lib.Signed.{◌<ℤ◌}
use lib.ListN.{length, get_or}
use Rattle.meaning.specs.Record.{Record}
use Rattle.meaning.specs.Reader.{Result, ok, refused}
use Rattle.meaning.specs.Tree.{tree}
use Rattle.meaning.specs.Run.{Run}
use Rattle.meaning.specs.Visits.{count_over}
use Rattle.meaning.specs.Answer.{Figures, figures_of, answer}
use Rattle.meaning.proofs.Logic.{ok-injective, and_then-ok}
use Rattle.meaning.proofs.Accepted.{read-formed}
use Rattle.meaning.proofs.Runs.{run-between, run-reached}
use Rattle.ranges.specs.ParameterRange.{ParameterRange, Within, value_count, value_at, parameters_with, parameters_at}
use Rattle.ranges.specs.FiguresOver.{total_visits, figures_over}
use Rattle.ranges.specs.Extremes.{leasts_of, mosts_of, smallest, largest, position, Extremes, extremes_in, extremes_of, extremes}
use Rattle.ranges.specs.RangePromise.{RunAt, RangePromise, RangeAnswered}
use Rattle.ranges.proofs.Values.{value-within, within-value, value-order}
use Rattle.ranges.proofs.Tabulated.{tabulate, length-tabulate, get_d_tabulate, map-tabulate}
use Rattle.ranges.proofs.FiguredOver.{FiguredOver, figured_over, single-calls}
use Rattle.ranges.proofs.Positions.{FirstAt, smallest-below, smallest-first, largest-above, largest-first}

-- ---- the visits

add-first : (n : ℕ) (f : ℕ → ℕ) → count_over (suc n) f ≡ f zero + count_over n (λ k. f (suc k))
unfolding count_over
add-first zero f = omega arith
add-first (suc n) f = let i = add-first n f in omega arith

visits-added : (n : ℕ) (f : ℕ → Figures) → total_visits (tabulate n f) ≡ count_over n (λ k. (f k).visits)
unfolding tabulate total_visits
visits-added zero f = unfold count_over in refl
visits-added (suc n) f = let i = visits-added n (λ k. f (suc k)) in omega (arith, add-first n (λ k. (f k).visits))

-- ---- one figure of each value

-- the numbers at the values number 0, 1, .. are those of a function
record Listed (ns : List ℕ) (count : ℕ) (f : ℕ → ℕ) : Type 0 where
  long : length ns ≡ count
  each : (k : ℕ) → k < count → get_or ns k 0 ≡ f k

listed : {ns : List ℕ} (count : ℕ) (f : ℕ → ℕ) → ns ≡ tabulate count f → Listed ns count f
listed count f e = record {
  long = ap (λ (xs : List ℕ). length xs) e ∙ length-tabulate count f;
  each = λ k h. ap (λ (xs : List ℕ). get_or xs k 0) e ∙ get_d_tabulate count k f 0 h;
}

module _ (sheet : List ℕ) (ps : List ℤ) (budget : ℕ) (range : ParameterRange) {fs : List Figures} (o : FiguredOver sheet ps budget range fs) where
  abbrev rs : List Record
  rs = o.rs

  abbrev count : ℕ
  count = value_count range

  abbrev figures_number : ℕ → Figures
  figures_number k = figures_of (parameters_at range ps k) (tree rs)

  leasts : Listed (leasts_of fs) count (λ k. (figures_number k).least)
  leasts = listed count _ (ap leasts_of o.figures_are ∙ map-tabulate (λ f. f.least) count figures_number)

  mosts : Listed (mosts_of fs) count (λ k. (figures_number k).most)
  mosts = listed count _ (ap mosts_of o.figures_are ∙ map-tabulate (λ f. f.most) count figures_number)

  -- a run at value number k lies between the figures there
  above-least : (k cycles : ℕ) → k < count → Run (parameters_at range ps k) (tree rs) [] cycles → get_or (leasts_of fs) k 0 ≤ cycles
  unfolding figures_of
  above-least k cycles h run = let b = (run-between (tree rs) (parameters_at range ps k) [] cycles run).low in omega (arith, leasts.each k h)

  below-most : (k cycles : ℕ) → k < count → Run (parameters_at range ps k) (tree rs) [] cycles → cycles ≤ get_or (mosts_of fs) k 0
  unfolding figures_of
  below-most k cycles h run = let b = (run-between (tree rs) (parameters_at range ps k) [] cycles run).high in omega (arith, mosts.each k h)

  -- and both figures there are reached
  reaches-least : (k : ℕ) → k < count → Run (parameters_at range ps k) (tree rs) [] (get_or (leasts_of fs) k 0)
  unfolding figures_of
  reaches-least k h = rw (leasts.each k h) (run-reached (tree rs) (read-formed sheet rs o.read_as).sound (parameters_at range ps k) []).fastest

  reaches-most : (k : ℕ) → k < count → Run (parameters_at range ps k) (tree rs) [] (get_or (mosts_of fs) k 0)
  unfolding figures_of
  reaches-most k h = rw (mosts.each k h) (run-reached (tree rs) (read-formed sheet rs o.read_as).sound (parameters_at range ps k) []).slowest

  -- a value of the range is one of the numbered ones
  at_each : (P : ℤ → Type 0) → ((k : ℕ) → k < count → P (value_at range k)) → (value : ℤ) → Within range value → P value
  at_each P each value h = let v = within-value range h in subst P (sym v.2) (each v.0 v.1)

  least_first : FirstAt (smallest (leasts_of fs)) (leasts_of fs) (position (smallest (leasts_of fs)) (leasts_of fs))
  least_first = smallest-first (leasts_of fs) (omega (arith, leasts.long, o.count_in_range.0))

  most_first : FirstAt (largest (mosts_of fs)) (mosts_of fs) (position (largest (mosts_of fs)) (mosts_of fs))
  most_first = largest-first (mosts_of fs) (omega (arith, mosts.long, o.count_in_range.0))

  least_number : position (smallest (leasts_of fs)) (leasts_of fs) < count
  least_number = omega (arith, least_first.within, leasts.long)

  most_number : position (largest (mosts_of fs)) (mosts_of fs) < count
  most_number = omega (arith, most_first.within, mosts.long)

  abbrev least_at : ℤ
  least_at = value_at range (position (smallest (leasts_of fs)) (leasts_of fs))

  abbrev most_at : ℤ
  most_at = value_at range (position (largest (mosts_of fs)) (mosts_of fs))

  pub promise : RangePromise sheet ps budget range rs (extremes_of range fs)
  unfolding extremes_in
  promise = record {
    never_below = λ value cycles h. at_each (λ (v : ℤ). RunAt ps range rs v cycles → smallest (leasts_of fs) ≤ cycles)
        (λ k i run. omega (arith, smallest-below (leasts_of fs) k (omega (arith, leasts.long)), above-least k cycles i run)) value h;
    never_above = λ value cycles h. at_each (λ (v : ℤ). RunAt ps range rs v cycles → cycles ≤ largest (mosts_of fs))
        (λ k i run. omega (arith, largest-above (mosts_of fs) k (omega (arith, mosts.long)), below-most k cycles i run)) value h;
    least_within = value-within range least_number;
    fastest = subst (RunAt ps range rs least_at) least_first.there (reaches-least _ least_number);
    most_within = value-within range most_number;
    slowest = subst (RunAt ps range rs most_at) most_first.there (reaches-most _ most_number);
    least_first = λ value cycles h. at_each (λ (v : ℤ). v <ℤ least_at → RunAt ps range rs v cycles → smallest (leasts_of fs) < cycles)
        (λ k i before run.
        strictly (smallest-below (leasts_of fs) k (omega (arith, leasts.long))) (above-least k cycles i run) (least_first.not_before k (value-order range before))) value h;
    most_first = λ value cycles h. at_each (λ (v : ℤ). v <ℤ most_at → RunAt ps range rs v cycles → cycles < largest (mosts_of fs))
        (λ k i before run.
        strictly-above (largest-above (mosts_of fs) k (omega (arith, mosts.long))) (below-most k cycles i run) (most_first.not_before k (value-order range before))) value h;
    single = at_each (λ (v : ℤ). answer sheet (parameters_with range ps v) budget ≡ ok (figures_of (parameters_with range ps v) (tree rs))) (single-calls sheet ps budget range fs o);
    visits_added = ap total_visits o.figures_are ∙ visits-added count figures_number;
    visits_within = o.visits_within;
  }
    where
      strictly : {a b c : ℕ} → a ≤ b → b ≤ c → ¬ (b ≡ a) → a < c
      strictly {a} {b} {c} h k other = by_order (dec_le b a)
        where
          by_order : Dec (b ≤ a) → a < c
          by_order (yes l) = absurd (other (omega arith))
          by_order (no l) = omega arith

      strictly-above : {a b c : ℕ} → b ≤ a → c ≤ b → ¬ (b ≡ a) → c < a
      strictly-above {a} {b} {c} h k other = by_order (dec_le a b)
        where
          by_order : Dec (a ≤ b) → c < a
          by_order (yes l) = absurd (other (omega arith))
          by_order (no l) = omega arith

-- of every answer over a range
pub range-answered : (sheet : List ℕ) (ps : List ℤ) (budget : ℕ) (range : ParameterRange) (r : Result Extremes) → r ≡ extremes sheet ps budget range →
    RangeAnswered sheet ps budget range r
unfolding RangeAnswered extremes
range-answered sheet ps budget range (ok e) same =
    let a = and_then-ok (figures_over sheet ps budget range) (λ fs. ok (extremes_of range fs)) e (sym same) in
    let o = figured_over sheet ps budget range a.0 a.1 in
    (o.rs, o.read_as, subst (RangePromise sheet ps budget range o.rs) (ok-injective a.2) (promise sheet ps budget range o))
range-answered sheet ps budget range (refused number place) same = tt
