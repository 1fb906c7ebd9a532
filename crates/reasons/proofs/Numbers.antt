-- The number at a position of a line, digit by digit.
use Rattle.std.proofs.Common.{◌≡◌, ℕ, ◌+◌, ◌*◌, ◌-◌, ◌%◌, ◌≤◌, ◌<◌, Bool, true, false, List, [], Option, Some, None, Bor, sym, ap, ◌∙◌, add-one, arith}
use Rattle.std.specs.Prelude.{unwrap_or}
use Rattle.std.specs.Slice.{IsGetRangeResult}
use Rattle.std.specs.Char.{is_ascii_digit}
use Rattle.std.proofs.Math.ListN.{length, get_or, drop, drop_of_length-le}
use Rattle.std.proofs.Math.Seq.{drop-cons}
use Rattle.std.proofs.lemmas.List.{take_all, length-drop}
use Rattle.meaning.specs.Limits.{offset_limit}
use Rattle.meaning.specs.ReasonLine.{number_after}

-- the line from a position on, or nothing where it is past the end
pub from-position : (line : List ℕ) (at : ℕ) (empty : Bor (List ℕ)) {rest : Bor (List ℕ)} (found : Option (Bor (List ℕ)))
    → IsGetRangeResult line at (length line) found → rest ≡ unwrap_or found empty → empty.now ≡ [] → rest.now ≡ drop at line
from-position line at empty None h e f =
    let past : length line ≤ at = grind (arith, h.0) in
    ap (λ (b : Bor (List ℕ)). b.now) e ∙ f ∙ sym (drop_of_length-le line past)
from-position line at empty (Some part) h e f = ap (λ (b : Bor (List ℕ)). b.now) e ∙ h.0.2 ∙ take_all (length line - at) (drop at line) (omega (arith, length-drop at line))

module _ (line : List ℕ) (number i : ℕ) where
  -- it ends with the line
  pub at-end : length line ≤ i → number ≡ number_after number (drop i line)
  unfolding number_after
  at-end past = rw (drop_of_length-le line past)

  module _ (inside : i < length line) {digit : Bool} (is : digit ≡ is_ascii_digit (get_or line i 0)) where
    -- before a character that is no digit
    pub before-other : digit ≡ false → number ≡ number_after number (drop i line)
    unfolding number_after
    before-other other = rw (drop-cons line i 0 inside, ← is, other)

    -- with a digit it goes on
    pub next-digit : digit ≡ true → number_after ((10 * number + (get_or line i 0 - 48)) % offset_limit) (drop (i + 1) line) ≡ number_after number (drop i line)
    unfolding number_after
    next-digit one = rw (drop-cons line i 0 inside, ← is, one, add-one)
