-- The reason that a line reads back to, from the three that the code tries one after another.
use mathlib.Core.Path.{◌≡◌, refl, sym, ap, subst, ◌∙◌}
use mathlib.Core.List.{List, [], ◌∷◌}
use mathlib.Core.Bool.{Bool, true, false, cond, ◌&&◌}
use mathlib.Core.Option.{Option, none, some}
use Prim.Native.Nat.{ℕ}
use lib.Dec.{eqb}
use lib.ListN.{length}
use lib.Pointwise.{pointwise}
use Rattle.std.specs.Bool.{then_some}
use Rattle.meaning.specs.Text.{text}
use Rattle.meaning.specs.Reason.{Reason, holds_loop, too_few_trips, uneven_in}
use Rattle.meaning.specs.ReasonLine.{choice_phrase, loop_phrase, uneven_line_start, reason_line, number_at, same_text, first_with_line, read_reason, ReadsBack}
use Rattle.meaning.proofs.ReasonLines.{reads-back}
use Rattle.reasons.specs.declared.Reason.TheVariants as code
use Rattle.reasons.specs.View.{found_in}

-- the library's comparison of slices is the test of the definition
pub same_pointwise : (x y : List ℕ) → pointwise eqb x y ≡ same_text x y
unfolding same_text
same_pointwise [] [] = refl
same_pointwise [] (d ∷ ds) = refl
same_pointwise (c ∷ cs) [] = refl
same_pointwise (c ∷ cs) (d ∷ ds) = ap (λ (b : Bool). eqb c d && b) (same_pointwise cs ds)

module _ (line : List ℕ) where
  -- an answer that is the definition's reads the line back
  pub exact_found : {found : Option Reason} → found ≡ read_reason line → ReadsBack line found
  exact_found e = subst (ReadsBack line) (sym e) (reads-back line)

  module _ {c k m : ℕ} (choice_at : c ≡ number_at (length (text choice_phrase)) line) (loop_at : k ≡ number_at (length (text loop_phrase)) line)
      (outer_at : m ≡ number_at (length (uneven_line_start k)) line) where
    -- the three reasons, with the numbers as the code has them
    tried : first_with_line line (holds_loop c ∷ too_few_trips k ∷ uneven_in k m ∷ []) ≡ read_reason line
    unfolding read_reason
    tried =
        let outer = outer_at ∙ ap (λ (n : ℕ). number_at (length (uneven_line_start n)) line) loop_at in
        λ i. first_with_line line (holds_loop (choice_at i) ∷ too_few_trips (loop_at i) ∷ uneven_in (loop_at i) (outer i) ∷ [])

    pub reads-choice : same_text (reason_line (holds_loop c)) line ≡ true → some (holds_loop c) ≡ read_reason line
    unfolding first_with_line
    reads-choice same = rw (← tried, same)

    module _ (no_choice : same_text (reason_line (holds_loop c)) line ≡ false) where
      pub reads-few : same_text (reason_line (too_few_trips k)) line ≡ true → some (too_few_trips k) ≡ read_reason line
      unfolding first_with_line
      reads-few same = rw (← tried, no_choice, same)

      -- the last test's answer decides
      pub reads-last : {answer : Bool} → same_text (reason_line (too_few_trips k)) line ≡ false → answer ≡ same_text (reason_line (uneven_in k m)) line
          → found_in (then_some answer (code.UnevenIn k m)) ≡ read_reason line
      unfolding first_with_line
      reads-last {answer} no_few is = decided answer ∙ rw (← tried, no_choice, no_few, ← is)
        where
          decided : (b : Bool) → found_in (then_some b (code.UnevenIn k m)) ≡ cond b (some (uneven_in k m)) none
          decided true = refl
          decided false = refl
