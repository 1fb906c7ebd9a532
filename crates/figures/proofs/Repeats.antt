-- Repeating the stage on a sheet's plan gives the sheet's states, and ends: each stage begins a visit or comes to the sheet's end.
use mathlib.Core.Bool.{Bool, false, true}
use mathlib.Core.Path.{ap, refl, sym, ◌∙◌, ◌≡◌}
use mathlib.Core.Logic.{inl, inr, ◌⊎◌}
use Prim.Native.Nat.{◌*◌, ◌+◌, ◌-◌, ◌<◌, suc, ℕ, ◌≤◌, zero}
use native.Mathlib.Omega.{arith}
use borrow.Author.Tests.{eq-eqb, ne_eqb}
use lib.Dec.{eqb}
use Rattle.layout.specs.declared.PlanArrays.{PlanArrays}
use Rattle.state.specs.declared.State.{State}
use Rattle.state.specs.States.{blank_state}
use Rattle.state.specs.Sums.{visits_of}
use Rattle.stages.specs.Laws.{end_state}
use Rattle.stages.specs.Next.{states_after}
use Rattle.figures.specs.Repeat.{Planned, next_in, states_on}

-- 1 before the sheet's end
unfoldable pub before : Bool → ℕ
before true = 0
before false = 1

-- twice the visits that the budget still allows, and one more before the sheet's end
unfoldable pub stages_left : ℕ → ℕ → State → ℕ
stages_left count budget s = 2 * (suc budget - visits_of s.sums) + before (eqb s.at count)

at_most_one : (c : Bool) → before c ≤ 1
unfolding before
at_most_one true = omega arith
at_most_one false = omega arith

-- one stage more
pub one-stage-more : (plan : PlanArrays) (count n : ℕ) {s t : State} → s ≡ states_on plan count n →
    next_in plan count s ≡ t → t ≡ states_on plan count (suc n)
unfolding states_on
one-stage-more plan count n here after = sym after ∙ ap (next_in plan count) here

module _ {plan : PlanArrays} {count : ℕ} (p : Planned plan count) where
  abbrev reached : ℕ → State
  reached n = states_after p.sheet p.parameters n

  abbrev visits : State → ℕ
  visits x = visits_of x.sums

  -- the stages on the plan's arrays are the sheet's
  pub states-same : (n : ℕ) → states_on plan count n ≡ reached n
  unfolding states_on states_after
  states-same zero = refl
  states-same (suc n) = ap (next_in plan count) (states-same n) ∙ p.next (reached n)

  -- where a state stands at the sheet's end, it is the end state
  pub end_same : (n : ℕ) → (states_on plan count n).at ≡ count → states_on plan count n ≡ end_state p.parameters p.rs
  end_same n e = states-same n ∙ p.laws.ended n (sym (ap (λ (x : State). x.at) (states-same n)) ∙ e ∙ p.counted)

  -- a further stage leaves fewer
  pub fewer-left : (budget n : ℕ) (s t : State) → s ≡ states_on plan count n → next_in plan count s ≡ t →
      ¬ (s.at ≡ count) → visits_of s.sums ≤ budget → stages_left count budget t < stages_left count budget s
  unfolding stages_left states_on before
  fewer-left budget n s t h after away within = go (p.laws.onward n)
    where
      here : s ≡ reached n
      here = h ∙ states-same n

      next : t ≡ reached (suc n)
      next = one-stage-more plan count n h after ∙ states-same (suc n)

      not_yet : before (eqb s.at count) ≡ 1
      not_yet = ap before (ne_eqb _ _ away)

      go : (visits (reached (suc n)) ≡ suc (visits (reached n))) ⊎ (reached (suc n) ≡ end_state p.parameters p.rs) →
          stages_left count budget t < stages_left count budget s
      go (inl more) =
          let e : visits t ≡ suc (visits s) = ap visits next ∙ more ∙ ap (λ (x : State). suc (visits x)) (sym here) in
          let one_more = at_most_one (eqb t.at count) in
          omega (arith, not_yet)
      go (inr end) = unfold end_state blank_state in (
          let e : t.at ≡ count = ap (λ (x : State). x.at) (next ∙ end) ∙ sym p.counted in
          let nothing : before (eqb t.at count) ≡ 0 = ap before (eq-eqb _ _ e) in
          let same : visits (reached n) ≡ visits s = sym (ap visits here) in
          let same' : visits (reached (suc n)) ≡ visits t = sym (ap visits next) in
          let up = p.laws.rising n in
          omega (arith, not_yet))
