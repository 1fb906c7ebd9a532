-- What the visits and the arrays are where a range is refused, and where all its values are filled in.
use mathlib.Core.Path.{◌≡◌, refl, sym, ap, subst, ◌∙◌}
use mathlib.Core.List.{List}
use mathlib.Core.Bool.{Bool, true, false}
use Prim.Native.Nat.{ℕ, ◌≤◌, ◌<◌}
use native.Mathlib.Decide.{dec_le}
use native.Mathlib.Omega.{arith}
use borrow.Author.Tests.{le-leb, lt-leb}
use lib.IntN.{ℤ}
use Rattle.meaning.specs.Reader.{Result, ok, refused, require, and_then}
use Rattle.meaning.specs.Answer.{Figures}
use Rattle.meaning.proofs.Logic.{refused-is-not-ok, ok-injective, and_then-yes, and_then-no}
use Rattle.meaning.proofs.Answers.{BudgetInRange}
use Rattle.ranges.specs.ParameterRange.{ParameterRange, range_allowed}
use Rattle.ranges.specs.FiguresOver.{total_visits, figures_over}
use Rattle.ranges.specs.Extremes.{leasts_of, mosts_of}
use Rattle.ranges.proofs.Refusals.{over-figures, over-8, over-refused}
use Rattle.std.specs.Prelude as prelude
use Rattle.std.specs.Prelude.{Ok, Err, is_err}
use Rattle.meaning.proofs.Logic.{true-is-not-false}
use Rattle.sheet.specs.declared.refusal.Refusal.{Refusal}
use Rattle.sheet.specs.Refusals.{refusal_number}
use Rattle.sheet.specs.Answers.{refusable}
use Rattle.sweep.specs.Overs.{blank, padded, visits_over, cycles_over, within_budget}
use Rattle.sweep.specs.Filled.{FilledTo, FilledOver}

-- ---- what a result holds

pub refusal_in : (r : prelude.Result ℕ Refusal) → is_err r ≡ true → (number : ℕ) × (place : ℕ) × (refusable r ≡ refused number place)
refusal_in (Ok n) e = true-is-not-false (sym e)
refusal_in (Err r) e = (refusal_number r.kind, r.offset, refl)

pub visits_in : (r : prelude.Result ℕ Refusal) → is_err r ≡ false → (n : ℕ) × (refusable r ≡ ok n)
visits_in (Ok n) e = (n, refl)
visits_in (Err r) e = true-is-not-false e

-- ---- 8

pub within-spent : {budget total : ℕ} → budget < total → within_budget budget (ok total) ≡ refused 8 0
unfolding within_budget and_then require
within-spent {budget} {total} h = ap (λ (c : Bool). require c 8 0 (ok total)) (lt-leb total budget h)

pub within-kept : {budget total : ℕ} → total ≤ budget → within_budget budget (ok total) ≡ ok total
unfolding within_budget and_then require
within-kept {budget} {total} h = ap (λ (c : Bool). require c 8 0 (ok total)) (le-leb total budget h)

pub within-refused : (budget number place : ℕ) → within_budget budget (refused number place) ≡ refused number place
unfolding within_budget and_then
within-refused budget number place = refl

-- ---- what is left where a range is refused

module _ {figured : Result (List Figures)} {leasts mosts : List ℕ} where
  pub filled-refused : {number place : ℕ} {r : Result ℕ} → figured ≡ refused number place → r ≡ refused number place → FilledOver figured r leasts mosts
  unfolding visits_over
  filled-refused e f = record { visits = f ∙ sym (and_then-no (λ fs. ok (total_visits fs)) e); arrays = λ fs g. refused-is-not-ok (sym e ∙ g) }

  filled-figures : {fs : List Figures} {r : Result ℕ} → figured ≡ ok fs → r ≡ ok (total_visits fs) → leasts ≡ padded (leasts_of fs) → mosts ≡ padded (mosts_of fs) →
      FilledOver figured r leasts mosts
  unfolding visits_over
  filled-figures {fs} e f l m = record {
    visits = f ∙ sym (and_then-yes (λ fs. ok (total_visits fs)) e);
    arrays = λ gs g.
        let same : fs ≡ gs = ok-injective (sym e ∙ g) in
        (l ∙ ap (λ xs. padded (leasts_of xs)) same, m ∙ ap (λ xs. padded (mosts_of xs)) same);
  }

  -- the arrays as the contract has them: the figures, or zeros
  pub arrays-filled : {n : ℕ} {r : Result ℕ} → r ≡ ok n → FilledOver figured r leasts mosts → (leasts ≡ cycles_over leasts_of figured) × (mosts ≡ cycles_over mosts_of figured)
  unfolding visits_over cycles_over
  arrays-filled {n} {r} e filled = go figured refl
    where
      go : (x : Result (List Figures)) → figured ≡ x → (leasts ≡ cycles_over leasts_of figured) × (mosts ≡ cycles_over mosts_of figured)
      go (ok fs) f = let a = filled.arrays fs f in (a.0 ∙ ap (cycles_over leasts_of) (sym f), a.1 ∙ ap (cycles_over mosts_of) (sym f))
      go (refused number place) f = refused-is-not-ok (sym (and_then-no (λ fs. ok (total_visits fs)) f) ∙ sym filled.visits ∙ e)

  pub arrays-blank : {number place : ℕ} {r : Result ℕ} (cycles : List Figures → List ℕ) → r ≡ refused number place → FilledOver figured r leasts mosts →
      blank ≡ cycles_over cycles figured
  unfolding visits_over cycles_over
  arrays-blank {r = r} cycles e filled = go figured refl
    where
      go : (x : Result (List Figures)) → figured ≡ x → blank ≡ cycles_over cycles figured
      go (ok fs) f = refused-is-not-ok (sym e ∙ filled.visits ∙ and_then-yes (λ fs. ok (total_visits fs)) f)
      go (refused number place) f = ap (cycles_over cycles) (sym f)

-- ---- after all values

module _ (sheet : List ℕ) (ps : List ℤ) (budget : ℕ) (range : ParameterRange) (allowed : range_allowed range ≡ true) (b : BudgetInRange budget) where
  -- the figures over the range, or 8
  pub filled-over : {leasts mosts : List ℕ} (r : Result ℕ) → FilledTo sheet ps budget range r leasts mosts →
      FilledOver (figures_over sheet ps budget range) (within_budget budget r) leasts mosts
  unfolding FilledTo
  filled-over {leasts} {mosts} (ok total) f = by-visits (dec_le (total_visits f.fs) budget)
    where
      by-visits : Dec (total_visits f.fs ≤ budget) → FilledOver (figures_over sheet ps budget range) (within_budget budget (ok total)) leasts mosts
      by-visits (yes h) =
          let w = f.within h in
          filled-figures (over-figures sheet ps budget range allowed b f.from h) (within-kept (omega (arith, w.0)) ∙ ap ok w.0) w.1.0 w.1.1
      by-visits (no h) = filled-refused (over-8 sheet ps budget range allowed b f.from (omega arith)) (within-spent (f.passed (omega arith)))
  filled-over (refused number place) e = filled-refused (over-refused sheet ps budget range allowed b e) (within-refused budget number place)

-- the same, from what the code tested
pub filled-after : (sheet : List ℕ) (ps : List ℤ) (budget : ℕ) (range : ParameterRange) {allowed : Bool} → allowed ≡ range_allowed range → allowed ≡ true
    → BudgetInRange budget → {leasts mosts : List ℕ} (r : Result ℕ) {s : Result ℕ} → FilledTo sheet ps budget range r leasts mosts
    → within_budget budget r ≡ s → FilledOver (figures_over sheet ps budget range) s leasts mosts
filled-after sheet ps budget range tested passed b {leasts} {mosts} r filled e =
    subst (λ x. FilledOver (figures_over sheet ps budget range) x leasts mosts) e
    (filled-over sheet ps budget range (sym tested ∙ passed) b r filled)
