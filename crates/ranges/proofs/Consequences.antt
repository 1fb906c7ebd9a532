-- What the promise over a range comes to, drawn from it alone: a part that is weakened breaks a theorem.
use mathlib.Core.Path.{◌≡◌, refl, sym, ap, ◌∙◌, subst}
use mathlib.Core.Bool.{Bool, true, false, not}
use mathlib.Core.List.{List}
use Prim.Native.Nat.{ℕ, zero, suc, ◌≤◌, ◌<◌}
use native.Mathlib.Omega.{arith}
use lib.IntN.{ℤ, pos, negsuc}
use lib.Signed.{◌<ℤ◌}
use lib.Dec.{T, ltb, nltb→le}
use Rattle.meaning.specs.Record.{Record}
use Rattle.meaning.specs.Reader.{ok, read}
use Rattle.meaning.specs.Visits.{count_over}
use Rattle.meaning.specs.Answer.{Figures, answer}
use Rattle.meaning.proofs.Logic.{ok-injective}
use Rattle.meaning.proofs.Demands.{demand3}
use Rattle.ranges.specs.ParameterRange.{ParameterRange, Within, value_count, value_at, parameters_with}
use Rattle.ranges.specs.Extremes.{Extremes, extremes_found}
use Rattle.ranges.specs.RangePromise.{RunAt, figures_at, RangePromise, RangeAnswered}
use Rattle.ranges.proofs.Values.{value-within}

-- two numbers of which neither comes before the other
not-before : (a b : ℕ) → ¬ (T (ltb a b)) → b ≤ a
not-before a b h = nltb→le a b (by-test (ltb a b) h)
  where
    by-test : (c : Bool) → ¬ (T c) → T (not c)
    by-test true n = absurd (n tt)
    by-test false n = tt

same-value : (a b : ℤ) → ¬ (a <ℤ b) → ¬ (b <ℤ a) → a ≡ b
same-value (pos a) (pos b) p q =
    let e : a ≡ b = omega (arith, not-before a b (λ t. p (record { lt = t })), not-before b a (λ t. q (record { lt = t }))) in ap pos e
same-value (pos a) (negsuc b) p q = absurd (q (record { lt = tt }))
same-value (negsuc a) (pos b) p q = absurd (p (record { lt = tt }))
same-value (negsuc a) (negsuc b) p q =
    let e : a ≡ b = omega (arith, not-before b a (λ t. p (record { lt = t })), not-before a b (λ t. q (record { lt = t }))) in ap negsuc e

count_same : (n : ℕ) (f g : ℕ → ℕ) → ((k : ℕ) → k < n → f k ≡ g k) → count_over n f ≡ count_over n g
unfolding count_over
count_same zero f g h = refl
count_same (suc n) f g h = let i = count_same n f g (λ k l. h k (omega arith)) in omega (arith, h n (omega arith))

module _ (sheet : List ℕ) (ps : List ℤ) (budget : ℕ) (range : ParameterRange) where
  -- only one answer has what is promised: the five numbers are settled
  pub promise-decides : {rs : List Record} {e f : Extremes} → RangePromise sheet ps budget range rs e → RangePromise sheet ps budget range rs f → e ≡ f
  promise-decides {rs} {e} {f} p q =
      let least : e.least ≡ f.least =
      omega (arith, p.never_below f.least_at f.least q.least_within q.fastest, q.never_below e.least_at e.least p.least_within p.fastest) in
      let most : e.most ≡ f.most =
      omega (arith, p.never_above f.most_at f.most q.most_within q.slowest, q.never_above e.most_at e.most p.most_within p.slowest) in
      let least_at : e.least_at ≡ f.least_at =
      same-value e.least_at f.least_at (λ h. omega (arith, least, q.least_first e.least_at e.least p.least_within h p.fastest))
      (λ h. omega (arith, least, p.least_first f.least_at f.least q.least_within h q.fastest)) in
      let most_at : e.most_at ≡ f.most_at =
      same-value e.most_at f.most_at (λ h. omega (arith, most, q.most_first e.most_at e.most p.most_within h p.slowest))
      (λ h. omega (arith, most, p.most_first f.most_at f.most q.most_within h q.slowest)) in
      λ t. extremes_found (least t) (least_at t) (most t) (most_at t) ((p.visits_added ∙ sym q.visits_added) t)

  -- and so of a call's answers
  pub one_answer : {e f : Extremes} → RangeAnswered sheet ps budget range (ok e) → RangeAnswered sheet ps budget range (ok f) → e ≡ f
  unfolding RangeAnswered
  one_answer {e} {f} a b =
      promise-decides a.2 (subst (λ (rs : List Record). RangePromise sheet ps budget range rs f) (ok-injective (sym b.1 ∙ a.1)) b.2)

  module _ {rs : List Record} {e : Extremes} (read_as : read sheet ≡ ok rs) (p : RangePromise sheet ps budget range rs e) where
    -- at every value of the range the single call answers figures, which lie between
    pub single-between : (value : ℤ) → Within range value →
        (f : Figures) × (answer sheet (parameters_with range ps value) budget ≡ ok f) × (e.least ≤ f.least) × (f.most ≤ e.most)
    single-between value h =
        let f : Figures = figures_at ps range rs value in
        let d = demand3 (parameters_with range ps value) sheet budget f (p.single value h) in
        let same = ok-injective (sym d.1 ∙ read_as) in
        let fastest = subst (λ (xs : List Record). RunAt ps range xs value f.least) same d.2.fastest in
        let slowest = subst (λ (xs : List Record). RunAt ps range xs value f.most) same d.2.slowest in
        (f, p.single value h, p.never_below value f.least h fastest, p.never_above value f.most h slowest)

    -- the visits are those that the single calls answer, added up, and within the budget
    pub visits-singly : (answers : ℤ → Figures) → ((value : ℤ) → Within range value → answer sheet (parameters_with range ps value) budget ≡ ok (answers value)) →
        (e.visits ≡ count_over (value_count range) (λ k. (answers (value_at range k)).visits)) × (e.visits ≤ budget)
    visits-singly answers each =
        let same : (k : ℕ) → k < value_count range → (figures_at ps range rs (value_at range k)).visits ≡ (answers (value_at range k)).visits = λ k h.
        let w = value-within range h in ap (λ (f : Figures). f.visits) (ok-injective (sym (p.single (value_at range k) w) ∙ each (value_at range k) w)) in
        (p.visits_added ∙ count_same (value_count range) _ _ same, p.visits_within)
