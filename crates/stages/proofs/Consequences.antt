-- What the parts of the stages' laws come to; drawn from these parts alone, so that a weaker part breaks a theorem.
use mathlib.Core.List.{List, []}
use mathlib.Core.Path.{ap, sym, ◌∙◌, ◌≡◌}
use mathlib.Core.Logic.{inl, inr, ◌⊎◌}
use Prim.Native.Nat.{◌+◌, ◌-◌, ◌<◌, min, suc, zero, ℕ, ◌≤◌}
use native.Mathlib.Omega.{arith}
use native.Mathlib.Decide.{dec_le}
use native.Mathlib.Nat.{suc-add, zero-add}
use lib.ListN.{length}
use lib.IntN.{ℤ}
use Rattle.meaning.specs.Record.{Record}
use Rattle.meaning.specs.Stage as Meaning
use Rattle.meaning.specs.Limits.{figure_limit}
use Rattle.meaning.proofs.Consequences.{Smallest}
use Rattle.state.specs.declared.State.{State}
use Rattle.state.specs.States.{blank_state}
use Rattle.state.specs.Sums.{visits_of}
use Rattle.stages.specs.Laws.{StageLaws, defined_visits, end_state}
use Rattle.stages.specs.Next.{next_state, states_after, visit_count, visits_begun_by}
use Rattle.stages.specs.Represent.{open_of, struct_of, sums_of}

module _ {sheet : List ℕ} {ps : List ℤ} {rs : List Record} (laws : StageLaws sheet ps rs) where
  abbrev after : ℕ → State
  after n = states_after sheet ps n

  -- the definition's state after n stages
  abbrev model : ℕ → Meaning.State
  model n = Meaning.stages ps n (Meaning.first_state rs)

  -- a stage takes the state that stands for one of the definition to the one that stands for the definition's next
  pub next-stands : (n : ℕ) → next_state sheet ps (struct_of ps rs (model n)) ≡ struct_of ps rs (model (suc n))
  unfolding states_after
  next-stands n = ap (next_state sheet ps) (sym (laws.in_step n)) ∙ laws.in_step (suc n)

  -- every part of the state is what the definition's state says
  pub stands_at : (n : ℕ) → (after n).at ≡ length rs - length (model n).remaining
  unfolding struct_of
  stands_at n = ap (λ (s : State). s.at) (laws.in_step n)

  pub sums-are : (n : ℕ) → (after n).sums ≡ sums_of (model n).current (model n).visits
  unfolding struct_of
  sums-are n = ap (λ (s : State). s.sums) (laws.in_step n)

  pub open-are : (n : ℕ) → (after n).opened ≡ open_of ps (model n).frames (model n).arms
  unfolding struct_of
  open-are n = ap (λ (s : State). s.opened) (laws.in_step n)

  -- of the first n stages, min(n, visits of the definition) began a visit, those of the definition's stages as many
  begun-exactly : (n : ℕ) → visits_begun_by sheet ps n ≡ min n (defined_visits ps rs)
  unfolding visits_begun_by visit_count
  begun-exactly zero = omega arith
  begun-exactly (suc n) =
      elim (dec_le (defined_visits ps rs) n) [
        | yes h ↦ omega (arith, begun-exactly n, ap visit_count (laws.begins_no_more n h))
        | no h ↦ omega (arith, begun-exactly n, ap visit_count (laws.begins n (omega arith)))
      ]

  pub begun-of-definition : (n : ℕ) → Meaning.visits_begun ps n (Meaning.first_state rs) ≡ min n (defined_visits ps rs)
  begun-of-definition n = sym (laws.begun_alike n) ∙ begun-exactly n

  -- and so many visits the state then holds; they are small
  pub visits-exactly : (n : ℕ) → visits_of (after n).sums ≡ min n (defined_visits ps rs)
  visits-exactly n = laws.counted n ∙ begun-exactly n

  pub visits-small : (n : ℕ) → visits_of (after n).sums < figure_limit
  visits-small n = omega (arith, laws.bounded n, laws.small)

  -- they never fall
  pub visits-rise : (n more : ℕ) → visits_of (after n).sums ≤ visits_of (after (more + n)).sums
  visits-rise n zero = rw (zero-add n) (omega arith)
  visits-rise n (suc more) = rw (suc-add more n) (omega (arith, visits-rise n more, laws.rising (more + n)))

  -- a stage without a visit more has come to the sheet's end
  pub no-visit-at-end : (n : ℕ) → visits_of (after (suc n)).sums ≡ visits_of (after n).sums → after (suc n) ≡ end_state ps rs
  no-visit-at-end n same = go (laws.onward n)
    where
      go : (visits_of (after (suc n)).sums ≡ suc (visits_of (after n).sums)) ⊎ (after (suc n) ≡ end_state ps rs) → after (suc n) ≡ end_state ps rs
      go (inl more) = absurd (omega (arith, more, same))
      go (inr end) = end

  -- one stage more than the visits is the first to come to the sheet's end, save on an empty sheet, which the first state has passed
  pub first-to-end : ¬ (rs ≡ []) → Smallest (λ n. (after n).at ≡ length rs) (suc (defined_visits ps rs))
  unfolding end_state blank_state
  first-to-end some-record = record {
    holds = ap (λ (s : State). s.at) laws.reached;
    below = λ n e. elim (dec_le n (defined_visits ps rs)) [ yes h ↦ absurd (some-record (laws.none_before n h e).1) | no h ↦ omega arith ];
  }

  -- the sheet's end, once reached, is left no more, and every state that stands there is the same
  pub end_stays : (n : ℕ) → defined_visits ps rs < n → after (suc n) ≡ after n
  end_stays n h = laws.stays (suc n) (omega arith) ∙ sym (laws.stays n h)

  pub same_end : (m n : ℕ) → (after m).at ≡ length rs → (after n).at ≡ length rs → after m ≡ after n
  same_end m n e f = laws.ended m e ∙ sym (laws.ended n f)
