-- What the text call does, and when; what it stores is read back, and all other bytes stay.
use mathlib.Core.Path.{◌≡◌}
use mathlib.Core.List.{List}
use mathlib.Core.Logic.{◌↔◌}
use Prim.Native.Nat.{ℕ, ◌≤◌, ◌<◌}
use native.Mathlib.Omega.{arith}
use lib.ListN.{length}
use Rattle.meaning.specs.Limits.{length_size}
use Rattle.meaning.specs.Reader.{ok, refused}
use Rattle.meaning.specs.Program.{program_text}
use Rattle.meaning.specs.Lent.{store_lent}
use Rattle.meaning.specs.TextCall.{fit_text, text_call}
use Rattle.meaning.proofs.Lents.{Stores, area-refused, area-ok, buffer-refused, buffer-ok, lending-stores, lending-number-zero}

-- refusal 12, or the text
module _ (buffer text : List ℕ) where
  pub fit_refused : length buffer < length text → fit_text buffer text ≡ refused 12 0
  unfolding fit_text
  fit_refused = buffer-refused text buffer 12

  pub fit-ok : length text ≤ length buffer → fit_text buffer text ≡ ok text
  unfolding fit_text
  fit-ok = buffer-ok text buffer 12

module _ (input buffer area : List ℕ) where
  abbrev text : List ℕ
  text = program_text input

  -- refusal 9
  pub short-area : length area < length_size → text_call input buffer area ≡ record { number = 9; buffer = buffer; area = area }
  unfolding text_call
  short-area = area-refused buffer area (fit_text buffer text)

  -- otherwise 12, or the text
  pub long-area : length_size ≤ length area → text_call input buffer area ≡ store_lent buffer area (fit_text buffer text)
  unfolding text_call
  long-area = area-ok buffer area (fit_text buffer text)

  -- it is a call that stores the program's text
  pub text-call : Stores text buffer area (text_call input buffer area)
  unfolding text_call fit_text
  text-call = lending-stores text buffer area 12 (λ z. omega arith)

  -- it returns 0 exactly where the area has room for a length and the buffer for the text
  pub text-number-zero : ((text_call input buffer area).number ≡ 0) ↔ ((length_size ≤ length area) × (length text ≤ length buffer))
  unfolding text_call fit_text
  text-number-zero = lending-number-zero text buffer area 12 (λ z. omega arith)
