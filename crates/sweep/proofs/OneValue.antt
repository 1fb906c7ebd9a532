-- What one value more makes of the visits and the arrays, by what is answered for it.
use mathlib.Core.Path.{◌≡◌, refl, sym, ap, ◌∙◌, subst}
use mathlib.Core.List.{List}
use mathlib.Core.Bool.{Bool, cond}
use Prim.Native.Nat.{ℕ, suc, ◌+◌, ◌^◌, ◌<◌}
use native.Mathlib.Omega.{arith}
use borrow.Author.Tests.{eq-eqb, ne_eqb}
use lib.IntN.{ℤ}
use lib.ListN.{set}
use mir.Syntax.{w64}
use mir.Val.{Fits}
use Rattle.meaning.specs.Reader.{Result, ok, refused}
use Rattle.meaning.specs.Answer.{Figures, answer}
use Rattle.meaning.proofs.Answers.{answer_ok}
use Rattle.sheet.specs.declared.refusal.RefusalKind.{RefusalKind}
use Rattle.sheet.specs.declared.refusal.RefusalKind.TheVariants as kind
use Rattle.sheet.specs.Refusals.{refusal_number}
use Rattle.sweep.specs.Overs.{next_total, least_figure, most_figure, stored_at}

module _ (budget total k : ℕ) (leasts mosts : List ℕ) where
  -- where this is answered for the value
  abbrev pub Made : Result Figures → Result ℕ → List ℕ → List ℕ → Type 0
  Made r visits ls ms = (visits ≡ next_total budget total r) × ((ls ≡ stored_at least_figure k leasts r) × (ms ≡ stored_at most_figure k mosts r))

  pub made-figures : (f : Figures) {r : Result Figures} → ok f ≡ r → Made r (ok (total + f.visits)) (set leasts k f.least) (set mosts k f.most)
  unfolding next_total stored_at
  made-figures f e = subst (λ (x : Result Figures). Made x (ok (total + f.visits)) (set leasts k f.least) (set mosts k f.most)) e (refl, (refl, refl))

  pub made-spent : {number place whole : ℕ} {r : Result Figures} → refused number place ≡ r → number ≡ 8 → whole ≡ budget → Made r (ok (whole + 1)) leasts mosts
  unfolding next_total stored_at
  made-spent {number} {place} {whole} e eight all =
      let more : whole + 1 ≡ suc budget = omega arith in
      let next : ok (whole + 1) ≡ next_total budget total (refused number place) =
      ap ok more ∙ sym (ap (λ (c : Bool). cond c (ok (suc budget)) (refused number place)) (eq-eqb number 8 eight)) in
      subst (λ (x : Result Figures). Made x (ok (whole + 1)) leasts mosts) e (next, (refl, refl))

  pub made-refused : {number place : ℕ} {r : Result Figures} → refused number place ≡ r → ¬ (number ≡ 8) → Made r (refused number place) leasts mosts
  unfolding next_total stored_at
  made-refused {number} {place} e other =
      let next : refused number place ≡ next_total budget total (refused number place) =
      sym (ap (λ (c : Bool). cond c (ok (suc budget)) (refused number place)) (ne_eqb number 8 other)) in
      subst (λ (x : Result Figures). Made x (refused number place) leasts mosts) e (next, (refl, refl))

-- the visits that are answered are no more than the largest budget
pub visits-fit : (sheet : List ℕ) (ps : List ℤ) (limit : ℕ) {total : ℕ} {f : Figures} → ok f ≡ answer sheet ps limit → total < 2 ^ 32 → Fits w64 (total + f.visits)
visits-fit sheet ps limit {total} {f} e h =
    let a = (answer_ok sheet ps limit f).0 (sym e) in
    record { fits = omega (arith, a.visits_within, a.budget_in_range.within) }

-- another refusal than 8
pub other-number : (k : RefusalKind) → ¬ (k ≡ kind.TooManyVisits) → ¬ (refusal_number k ≡ 8)
other-number kind.CutShort h = λ e. omega arith
other-number kind.UnknownKind h = λ e. omega arith
other-number kind.FieldOutOfRange h = λ e. omega arith
other-number kind.TooManyRecords h = λ e. omega arith
other-number kind.Misplaced h = λ e. omega arith
other-number kind.OverCeiling h = λ e. omega arith
other-number kind.BadBudget h = λ e. omega arith
other-number kind.TooManyVisits h = absurd (h refl)
other-number kind.ShortBuffer h = λ e. omega arith
other-number kind.LosesSkip h = λ e. omega arith
other-number kind.BadRange h = λ e. omega arith
other-number kind.ShortText h = λ e. omega arith
