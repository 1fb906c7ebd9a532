-- What C-11's promises come to, drawn from them alone: there is one reason that they allow, and one reading of each line; a part that is weakened breaks
-- a theorem here.
use mathlib.Core.Path.{◌≡◌, refl, sym, ap, ◌∙◌}
use mathlib.Core.List.{List, [], ◌∷◌}
use mathlib.Core.Logic.{◌↔◌, ◌⊎◌, inl, inr}
use mathlib.Core.Option.{Option, none, some, some-injective}
use Prim.Native.Nat.{ℕ}
use native.Mathlib.Omega.{arith}
use lib.IntN.{ℤ}
use lib.Dec.{T}
use Rattle.meaning.specs.Record.{Loop, loop_record}
use Rattle.meaning.specs.Tree.{Block, Arms, empty, loop, choice, records}
use Rattle.meaning.specs.Range.{Range}
use Rattle.meaning.specs.Closed.{closed}
use Rattle.meaning.specs.Reason.{Reason, holds_loop, too_few_trips, uneven_in, reason_of}
use Rattle.meaning.specs.ReasonOrder.{Fails, choice_fails, smallest_fails, Precedes, StandsAt, Stands, Explained}
use Rattle.meaning.specs.ReasonLine.{OffsetsBelow, ReadsBack, reason_line}

-- ---- the order leaves one first

pub precedes-asymmetric : (r s : Reason) → Precedes r s → Precedes s r → ⊥
unfolding Precedes
precedes-asymmetric (holds_loop c) (holds_loop d) p q = omega arith
precedes-asymmetric (holds_loop c) (too_few_trips k) p q = q
precedes-asymmetric (holds_loop c) (uneven_in k m) p q = q
precedes-asymmetric (too_few_trips k) (holds_loop c) p q = p
precedes-asymmetric (too_few_trips k) (too_few_trips j) p q = omega arith
precedes-asymmetric (too_few_trips k) (uneven_in j m) p q = omega arith
precedes-asymmetric (uneven_in k m) (holds_loop c) p q = p
precedes-asymmetric (uneven_in k m) (too_few_trips j) p q = omega arith
precedes-asymmetric (uneven_in k m) (uneven_in j n) (inl p) (inl q) = omega arith
precedes-asymmetric (uneven_in k m) (uneven_in j n) (inl p) (inr q) = omega arith
precedes-asymmetric (uneven_in k m) (uneven_in j n) (inr p) (inl q) = omega arith
precedes-asymmetric (uneven_in k m) (uneven_in j n) (inr p) (inr q) = omega arith

both_first : {r s : Reason} → (r ≡ s) ⊎ Precedes r s → (s ≡ r) ⊎ Precedes s r → r ≡ s
both_first (inl same) q = same
both_first (inr p) (inl same) = sym same
both_first {r} {s} (inr p) (inr q) = absurd (precedes-asymmetric r s p q)

-- ---- the reason of a loop

module _ {ps : List ℤ} {l : Loop} {body : Block} {ranges : List Range} {at : ℕ} (promised : Explained ps l body ranges at) where
  -- closed exactly where nothing fails
  pub closed-exactly : T (closed ps l body ranges) ↔ ((s : Reason) → Fails ps l body ranges at s → ⊥)
  closed-exactly = (λ t s fails. promised.fails_has_reason s fails (promised.closed_has_none t), λ nothing. promised.none_is_closed (go nothing (reason_of ps l body ranges at) refl))
    where
      go : ((s : Reason) → Fails ps l body ranges at s → ⊥) → (found : Option Reason) → reason_of ps l body ranges at ≡ found → reason_of ps l body ranges at ≡ none
      go nothing none e = e
      go nothing (some r) e = absurd (nothing r (promised.reason_fails r e))

  -- whatever fails and precedes all else that fails is the reason
  pub reason-alone : (r : Reason) → Fails ps l body ranges at r → ((s : Reason) → Fails ps l body ranges at s → (r ≡ s) ⊎ Precedes r s) →
      reason_of ps l body ranges at ≡ some r
  reason-alone r fails first = go (reason_of ps l body ranges at) refl
    where
      go : (found : Option Reason) → reason_of ps l body ranges at ≡ found → reason_of ps l body ranges at ≡ some r
      go none e = absurd (promised.fails_has_reason r fails e)
      go (some s) e = e ∙ ap some (both_first (promised.nothing_before s r e fails) (first s (promised.reason_fails s e)))

  -- where it fails stands a choice or a loop; where the reason is, too
  pub failing-choice : {c : ℕ} → Fails ps l body ranges at (holds_loop c) → (arms : Arms) × StandsAt (records (loop l body empty)) at (records (choice arms empty)) c
  failing-choice {c} (choice_fails arms there some-loop) = (arms, promised.choice_stands c arms there)

  pub failing-loop : {k : ℕ} → Fails ps l body ranges at (too_few_trips k) → (found : Loop) × StandsAt (records (loop l body empty)) at (loop_record found ∷ []) k
  failing-loop {k} (smallest_fails between found there few) = (found, promised.loop_stands between k found there)

  pub reason-there : (r : Reason) → reason_of ps l body ranges at ≡ some r → Stands (records (loop l body empty)) at r
  reason-there = promised.reason_stands

-- ---- lines

module _ {read_reason : List ℕ → Option Reason} (promised : (line : List ℕ) → ReadsBack line (read_reason line)) where
  -- two reasons never have one line
  pub never-one-line : (r s : Reason) → OffsetsBelow r → OffsetsBelow s → reason_line r ≡ reason_line s → r ≡ s
  never-one-line r s p q e =
      some-injective r s (sym ((promised (reason_line s)).its r p e) ∙ (promised (reason_line s)).its s q refl)

  -- what is no reason's line reads back to none
  pub no_line : (line : List ℕ) → ((r : Reason) → OffsetsBelow r → reason_line r ≡ line → ⊥) → read_reason line ≡ none
  no_line line nobody = go (read_reason line) refl
    where
      go : (found : Option Reason) → read_reason line ≡ found → read_reason line ≡ none
      go none e = e
      go (some r) e = let its = (promised line).only r e in absurd (nobody r its.1 its.0)
