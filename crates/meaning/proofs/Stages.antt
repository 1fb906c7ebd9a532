-- The stages from a sheet's start reach its end with the time and visits of the definitions, each but the last beginning a visit.
use mathlib.Core.Path.{◌≡◌, refl, sym, ap, ◌∙◌}
use mathlib.Core.List.{List, []}
use Prim.Native.Nat.{ℕ, zero, suc, ◌+◌, ◌≤◌, ◌<◌}
use native.Mathlib.Decide.{dec_le}
use native.Mathlib.Omega.{arith}
use lib.IntN.{ℤ}
use lib.ListN.{length}
use Rattle.meaning.specs.Record.{Record}
use Rattle.meaning.specs.Tree.{tree, records}
use Rattle.meaning.specs.Time.{Bounds, time}
use Rattle.meaning.specs.Visits.{visits}
use Rattle.meaning.specs.Stage.{State, state, first_state, Step, going, begins_visit, at_end, stuck, state_of, visit_begun, stage, stages, visits_begun}
use Rattle.meaning.specs.Demand.{StagesReach}
use Rattle.meaning.proofs.Sound.{Sound}
use Rattle.meaning.proofs.Passes.{StageDoes, stage-does, stage-visits}
use Rattle.meaning.proofs.Levels.{WalkedAround, AddsUp, visits-at-most, ended-state, walked-around}
use Rattle.meaning.proofs.AddingUp.{StepAddsUp, adds-up-stage, adds-up-stages, first-adds-up}

begun-once : (p : Step) → visit_begun p ≤ 1
unfolding visit_begun
begun-once (going s) = omega arith
begun-once (begins_visit s) = omega arith
begun-once (at_end s) = omega arith
begun-once (stuck s) = omega arith

module _ (ps : List ℤ) where
  -- after any number of stages from any state, the visits have grown by the stages that began one
  pub stages-count : (n : ℕ) (s : State) → (stages ps n s).visits ≡ s.visits + visits_begun ps n s
  unfolding stages visits_begun
  stages-count zero s = omega arith
  stages-count (suc n) s = omega (arith, stages-count n s, stage-visits ps (stages ps n s))

  -- which are no more than the stages
  begun-at-most : (n : ℕ) (s : State) → visits_begun ps n s ≤ n
  unfolding visits_begun
  begun-at-most zero s = omega arith
  begun-at-most (suc n) s = omega (arith, begun-at-most n s, begun-once (stage ps (stages ps n s)))

  stages-rise : (n : ℕ) (s : State) → (stages ps n s).visits ≤ (stages ps (suc n) s).visits
  unfolding stages
  stages-rise n s = omega (arith, stage-visits ps (stages ps n s))

  -- The stages from the start of a sheet with the records rs.
  module _ (rs : List Record) (sound : Sound (tree rs)) (same : records (tree rs) ≡ rs) where
    abbrev whole : Bounds
    whole = time ps (tree rs) []

    abbrev all : ℕ
    all = visits ps (tree rs) [] []

    abbrev after : ℕ → State
    after n = stages ps n (first_state rs)

    abbrev end : State
    end = state [] whole [] all

    pub stages-add-up : (n : ℕ) → AddsUp ps whole all (after n)
    stages-add-up n = adds-up-stages ps whole all n (first_state rs) (first-adds-up ps rs sound same)

    -- never two ranked loops are open
    pub stages-walked-around : (n : ℕ) → WalkedAround ps (after n).frames
    stages-walked-around n = walked-around ps whole all (after n) (stages-add-up n)

    bounded : (n : ℕ) → (after n).visits ≤ all
    bounded n = visits-at-most ps whole all (after n) (stages-add-up n)

    -- every state that stands at the sheet's end is the same
    only_end : (n : ℕ) → (after n).remaining ≡ [] → after n ≡ end
    only_end n e = ended-state ps whole all (after n) (stages-add-up n) e

    -- a further stage begins a visit or comes to the sheet's end, and where it begins one a trip is open
    outcome : (n : ℕ) (X : Type 0) →
        ((t : State) → stage ps (after n) ≡ begins_visit t → t.visits ≡ suc (after n).visits → 1 ≤ length t.frames → X) →
        (stage ps (after n) ≡ at_end end → (after n).visits ≡ all → X) → X
    outcome n X begins ends =
        go (stage ps (after n)) refl (stage-does ps (after n)) (adds-up-stage ps whole all (after n) (stages-add-up n))
      where
        go : (p : Step) → stage ps (after n) ≡ p → StageDoes ps (after n) p → StepAddsUp ps whole all p → X
        go (going t) e d a = unfold StageDoes in absurd d
        go (begins_visit t) e d a = unfold StageDoes in begins t e d.0 d.1
        go (at_end t) e d a = unfold StageDoes StepAddsUp in
            let is = ended-state ps whole all t a d.1 in
            ends (e ∙ ap at_end is) (sym d.0 ∙ ap (λ (s : State). s.visits) is)
        go (stuck t) e d a = unfold StepAddsUp in absurd a

    -- each of the first stages begins a visit, as many as there are visits by the definition
    begins : (n : ℕ) → n < all → stage ps (after n) ≡ begins_visit (after (suc n))
    unfolding stages state_of first_state
    begins n h =
        outcome n (stage ps (after n) ≡ begins_visit (after (suc n)))
        (λ t e more inside. e ∙ ap begins_visit (sym (ap state_of e)))
        (λ e reached. absurd (omega (arith, stages-count n (first_state rs), begun-at-most n (first_state rs))))

    made : (n : ℕ) → n ≤ all → n ≤ (after n).visits
    unfolding stages visit_begun
    made zero h = omega arith
    made (suc n) h = omega (arith, made n (omega arith), stage-visits ps (after n), ap visit_begun (begins n (omega arith)))

    all_made : (n : ℕ) → all ≤ n → all ≤ (after n).visits
    all_made zero h = omega arith
    all_made (suc n) h =
        elim (dec_le all n) [ yes i ↦ omega (arith, all_made n i, stages-rise n (first_state rs)) | no i ↦ omega (arith, made (suc n) (omega arith)) ]

    -- every further stage comes to the sheet's end, always in the same state
    ends : (n : ℕ) → all ≤ n → stage ps (after n) ≡ at_end end
    unfolding stages state_of
    ends n h =
        outcome n (stage ps (after n) ≡ at_end end)
        (λ t e more inside. absurd (omega (arith, all_made n h, bounded (suc n), ap (λ (p : Step). (state_of p).visits) e)))
        (λ e reached. e)

    reached : (n : ℕ) → all < n → after n ≡ end
    unfolding stages state_of
    reached zero h = absurd (omega arith)
    reached (suc n) h = ap state_of (ends n (omega arith))

    -- no state before the end stands there, but the first one of an empty sheet
    none_before : (n : ℕ) → n ≤ all → (after n).remaining ≡ [] → (n ≡ 0) × (rs ≡ [])
    unfolding stages state_of first_state
    none_before zero h e = (refl, e)
    none_before (suc n) h e =
        outcome n ((suc n ≡ 0) × (rs ≡ []))
        (λ t b more inside.
        let nothing-open = ap (λ (s : State). length s.frames) (only_end (suc n) e) in
        absurd (omega (arith, nothing-open, ap (λ (p : Step). length (state_of p).frames) b)))
        (λ b finished. absurd (omega (arith, stages-count n (first_state rs), begun-at-most n (first_state rs))))

    pub stages-reach : StagesReach ps rs
    unfolding first_state
    stages-reach = record {
      counted = λ n. omega (arith, stages-count n (first_state rs));
      rising = λ n. stages-rise n (first_state rs);
      bounded = bounded;
      begins = begins;
      ends = ends;
      reached = reached;
      only_end = only_end;
      none_before = none_before;
    }
