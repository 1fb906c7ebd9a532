-- What holds after k values holds after one more, or the range has that value's refusal; and what holds after all is the figures over the range.
use mathlib.Core.Path.{◌≡◌, refl, sym, ap, ◌∙◌, subst}
use mathlib.Core.List.{List, [], ◌∷◌, ◌++◌, map-append}
use mathlib.Core.Bool.{Bool, cond}
use mathlib.Core.Logic.{inl, inr}
use Prim.Native.Nat.{ℕ, suc, ◌+◌, ◌-◌, max, ◌≤◌, ◌<◌}
use native.Mathlib.Decide.{dec_le}
use native.Mathlib.Omega.{arith}
use borrow.Author.Tests.{ne_eqb}
use lib.IntN.{ℤ}
use lib.ListN.{length, set, length-map}
use Rattle.meaning.specs.Limits.{budget_limit, value_limit}
use Rattle.meaning.specs.Record.{Record}
use Rattle.meaning.specs.Reader.{Result, ok, refused}
use Rattle.meaning.specs.Tree.{tree}
use Rattle.meaning.specs.Answer.{Figures, figures_of, accepted, answer}
use Rattle.meaning.proofs.Refusals.{read-refused}
use Rattle.meaning.proofs.Answers.{BudgetInRange, BudgetOutOfRange, Outcome, budget_refused, read_refused, ceiling_refused, visits_refused, answered, outcome}
use Rattle.meaning.proofs.Answers.{accepted-within, accepted-unread, accepted-over}
use Rattle.ranges.specs.ParameterRange.{ParameterRange, parameters_at}
use Rattle.ranges.specs.FiguresOver.{total_visits, figures_from}
use Rattle.ranges.specs.Extremes.{leasts_of, mosts_of}
use Rattle.ranges.proofs.OneMore.{one-value-more, one-value-refused, visits-more, figures-counted}
use Rattle.sweep.specs.Overs.{blank, padded, next_total, least_figure, most_figure, stored_at}
use Rattle.sweep.specs.Filled.{Filled}
use Rattle.sweep.proofs.Padding.{padded-more, padded-none}
use Rattle.sweep.proofs.OneValue.{Made}

module _ (sheet : List ℕ) (ps : List ℤ) (budget : ℕ) (range : ParameterRange) where
  abbrev at : ℕ → List ℤ
  at k = parameters_at range ps k

  -- after no value
  pub none_filled : {leasts mosts : List ℕ} → leasts ≡ blank → mosts ≡ blank → Filled sheet ps budget range 0 0 leasts mosts
  unfolding figures_from total_visits
  none_filled l m = record {
    fs = [];
    from = refl;
    within = λ h. (refl, (l ∙ sym padded-none, m ∙ sym padded-none));
    passed = λ h. absurd (omega arith);
    small = omega arith;
  }

  -- after value number k
  unfoldable pub After : ℕ → Result ℕ → List ℕ → List ℕ → Type 0
  After k (ok total) leasts mosts = Filled sheet ps budget range (suc k) total leasts mosts
  After k (refused number place) leasts mosts = (more : ℕ) → figures_from sheet ps range (k + suc more) 0 ≡ refused number place

  module _ (k total : ℕ) (leasts mosts : List ℕ) (few : k < value_limit) (within-limit : budget ≤ budget_limit)
      (f : Filled sheet ps budget range k total leasts mosts) where
    -- what an answer at value number k makes of the visits and the arrays
    abbrev Next : Result Figures → Type 0
    Next r = After k (next_total budget total r) (stored_at least_figure k leasts r) (stored_at most_figure k mosts r)

    plain : k + 0 ≡ k
    plain = omega arith

    counted : length f.fs ≡ k
    counted = figures-counted sheet ps range k 0 f.fs f.from

    -- an accepted value
    module _ (rs : List Record) (a : accepted sheet (at k) ≡ ok rs) where
      abbrev g : Figures
      g = figures_of (at k) (tree rs)

      more : figures_from sheet ps range (suc k) 0 ≡ ok (f.fs ++ (g ∷ []))
      more =
          one-value-more sheet ps range k 0 f.fs rs f.from (ap (λ n. accepted sheet (at n)) plain ∙ a)
          ∙ ap (λ (n : ℕ). ok (f.fs ++ (figures_of (at n) (tree rs) ∷ []))) plain

      -- with the figure of one value more the array holds the figures of one more
      stored : (figure : Figures → ℕ) (figures : List Figures → List ℕ) → ((xs : List Figures) → length (figures xs) ≡ length xs) →
          ((xs : List Figures) → figures (xs ++ (g ∷ [])) ≡ figures xs ++ (figure g ∷ [])) → {ns : List ℕ} → ns ≡ padded (figures f.fs) →
          set ns k (figure g) ≡ padded (figures (f.fs ++ (g ∷ [])))
      stored figure figures long each e =
          let place : length (figures f.fs) ≡ k = long f.fs ∙ counted in
          (λ t. set (e t) (sym place t) (figure g)) ∙ padded-more (figures f.fs) (figure g) (omega arith) ∙ ap padded (sym (each f.fs))

      -- that has figures at the budget which is left
      figured : g.visits ≤ max 1 (budget - total) → Next (ok g)
      unfolding After next_total stored_at
      figured enough =
          let v = visits-more f.fs g in
          record {
            fs = f.fs ++ (g ∷ []);
            from = more;
            within = λ h.
                let w = f.within (omega arith) in (
                  omega (arith, w.0),
                  (
                    stored least_figure leasts_of (λ xs. length-map xs least_figure) (λ xs. map-append least_figure xs (g ∷ [])) w.1.0,
                    stored most_figure mosts_of (λ xs. length-map xs most_figure) (λ xs. map-append most_figure xs (g ∷ [])) w.1.1,
                  ),
                );
            passed = λ h. beyond h (dec_le (total_visits f.fs) budget);
            small = let s = f.small in omega arith;
          }
        where
          beyond : budget < total_visits (f.fs ++ (g ∷ [])) → Dec (total_visits f.fs ≤ budget) → budget < total + g.visits
          beyond h (yes w) = let v = visits-more f.fs g in omega (arith, (f.within w).0)
          beyond h (no w) = omega (arith, f.passed (omega arith))

      -- that takes more
      spent : max 1 (budget - total) < g.visits → Next (refused 8 0)
      unfolding After next_total stored_at
      spent over = record {
        fs = f.fs ++ (g ∷ []);
        from = more;
        within = λ h. absurd (beyond h);
        passed = λ h. omega arith;
        small = omega arith;
      }
        where
          beyond : total_visits (f.fs ++ (g ∷ [])) ≤ budget → ⊥
          beyond h = let v = visits-more f.fs g in omega (arith, (f.within (omega arith)).0)

    -- a value that is refused 1 to 6
    halted : {number place : ℕ} (ls ms : List ℕ) → accepted sheet (at k) ≡ refused number place → After k (refused number place) ls ms
    unfolding After
    halted {number} {place} ls ms a = λ more. one-value-refused sheet ps range k 0 more number place f.fs f.from (ap (λ n. accepted sheet (at n)) plain ∙ a)

    turned_down : {number place : ℕ} → ¬ (number ≡ 8) → accepted sheet (at k) ≡ refused number place → Next (refused number place)
    unfolding next_total
    turned_down {number} {place} other a =
        let ls : List ℕ = stored_at least_figure k leasts (refused number place) in
        let ms : List ℕ = stored_at most_figure k mosts (refused number place) in
        subst (λ (c : Bool). After k (cond c (ok (suc budget)) (refused number place)) ls ms) (sym (ne_eqb number 8 other)) (halted ls ms a)

    in-range : BudgetInRange (max 1 (budget - total))
    in-range = record { positive = omega arith; within = omega arith }

    pub after_one : Next (answer sheet (at k) (max 1 (budget - total)))
    after_one = by-outcome (outcome sheet (at k) (max 1 (budget - total)))
      where
        same : {r : Result Figures} → answer sheet (at k) (max 1 (budget - total)) ≡ r → Next r → Next (answer sheet (at k) (max 1 (budget - total)))
        same e n = subst (λ (r : Result Figures). Next r) (sym e) n

        never : {A : Type 0} → BudgetOutOfRange (max 1 (budget - total)) → A
        never (inl h) = absurd (omega arith)
        never (inr h) = absurd (omega arith)

        by-outcome : Outcome sheet (at k) (max 1 (budget - total)) → Next (answer sheet (at k) (max 1 (budget - total)))
        by-outcome (budget_refused b e) = never b
        by-outcome (read_refused number place b r e) =
            same e (turned_down (λ h. let i = read-refused sheet number place r in omega arith) (accepted-unread sheet (at k) number place r))
        by-outcome (ceiling_refused rs offset b r c e) = same e (turned_down (λ h. omega arith) (accepted-over sheet (at k) rs offset r c))
        by-outcome (visits_refused rs b r c h e) = same e (unfold figures_of in spent rs (accepted-within sheet (at k) rs r c) h)
        by-outcome (answered rs b r c h e) = same e (unfold figures_of in figured rs (accepted-within sheet (at k) rs r c) h)

  -- ---- as the loop over the values goes on, where it asked at these parameters and budget

  module _ {k total count : ℕ} {leasts mosts ls ms : List ℕ} {parameters : List ℤ} {r : Result ℕ} (below : k < count) (few : count ≤ value_limit)
      (within-limit : budget ≤ budget_limit) (f : Filled sheet ps budget range k total leasts mosts) (here : parameters ≡ parameters_at range ps k)
      (made : Made budget total k leasts mosts (answer sheet parameters (max 1 (budget - total))) r ls ms) where
    asked : After k r ls ms
    asked =
        let next = subst (λ (p : List ℤ). Made budget total k leasts mosts (answer sheet p (max 1 (budget - total))) r ls ms) here made in
        subst (λ (x : Result ℕ). After k x ls ms) (sym next.0)
        (subst (λ (x : List ℕ). After k (next_total budget total (answer sheet (at k) (max 1 (budget - total)))) x ms) (sym next.1.0)
        (subst (λ (x : List ℕ). After k (next_total budget total (answer sheet (at k) (max 1 (budget - total)))) (stored_at least_figure k leasts (answer sheet (at k) (max 1 (budget - total)))) x) (sym next.1.1)
        (after_one k total leasts mosts (omega arith) within-limit f)))

    pub after_next : {next : ℕ} → r ≡ ok next → Filled sheet ps budget range (k + 1) next ls ms
    unfolding After
    after_next {next} e =
        let one : suc k ≡ k + 1 = omega arith in
        subst (λ (n : ℕ). Filled sheet ps budget range n next ls ms) one (subst (λ (x : Result ℕ). After k x ls ms) e asked)

    pub after-refused : {number place : ℕ} → r ≡ refused number place → figures_from sheet ps range count 0 ≡ refused number place
    unfolding After
    after-refused {number} {place} e =
        let size : count ≡ k + suc (count - suc k) = omega arith in
        ap (λ (n : ℕ). figures_from sheet ps range n 0) size ∙ subst (λ (x : Result ℕ). After k x ls ms) e asked (count - suc k)
