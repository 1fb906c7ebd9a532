-- The promises of storing a text, and those of the text call: refusal 9, 12, or the text.
use mathlib.Core.Path.{◌≡◌, sym, ap, ◌∙◌, subst}
use mathlib.Core.List.{List, ◌++◌}
use Prim.Native.Nat.{ℕ, ◌^◌, ◌≤◌, ◌<◌}
use native.Mathlib.Omega.{arith}
use lib.ListN.{length, drop}
use Rattle.meaning.specs.Limits.{length_size}
use Rattle.meaning.specs.Number.{little_endian}
use Rattle.meaning.specs.EarlierReaders.{short_read, UnlessTooLong}
use Rattle.meaning.specs.Program.{input_parameters, input_sheet, program_text, program_text_by}
use Rattle.meaning.specs.Reader.{read}
use Rattle.meaning.specs.ReasonsTold.{ReasonsTold}
use Rattle.meaning.specs.TextCall.{fit_text, text_call}
use Rattle.meaning.specs.Lent.{Lent, store_lent, lent_in}
use Rattle.meaning.proofs.LongerSheets.{printed-alike}
use Rattle.meaning.proofs.Reasons.{reasons-told}
use Rattle.meaning.proofs.TextCalls.{fit_refused, fit-ok, short-area, long-area, text-call}
use Rattle.exports.proofs.Leaving.{Leaves, leaves_by}

module _ (text buffer area : List ℕ) where
  -- the promises of storing a text
  abbrev StoredText : ℕ → List ℕ → List ℕ → Type 0
  StoredText = Leaves (store_lent buffer area (fit_text buffer text))

  -- refusal 12
  pub stored-nothing : length buffer < length text → StoredText 12 buffer area
  unfolding store_lent
  stored-nothing h = leaves_by (ap (store_lent buffer area) (fit_refused buffer text h))

  -- the text
  pub stored-text : {after left : List ℕ} → length text ≤ length buffer → after ≡ text ++ drop (length text) buffer →
      left ≡ little_endian length_size (length text) ++ drop length_size area → StoredText 0 after left
  unfolding store_lent
  stored-text h t a = leaves_by (ap (store_lent buffer area) (fit-ok buffer text h) ∙ (λ i. record { number = 0; buffer = sym t i; area = sym a i }))

module _ (input buffer area : List ℕ) where
  -- all promises of the text call
  abbrev pub Promised : ℕ → List ℕ → List ℕ → Type 0
  Promised number text left =
      (number ≡ (text_call input buffer area).number) × ((text ≡ (text_call input buffer area).buffer)
      × ((left ≡ (text_call input buffer area).area) × ((number ≡ 0 → lent_in text left ≡ program_text input) × (ReasonsTold (input_parameters input) (read (input_sheet input))
      × UnlessTooLong (input_sheet input) (program_text input ≡ program_text_by short_read input)))))

  -- refusal 9
  pub promised-short : length area < length_size → Promised 9 buffer area
  promised-short h =
      let l = leaves_by (short-area input buffer area h) in
      (l.0, (l.1.0, (l.1.1, (λ z. absurd (omega arith), (reasons-told (input_parameters input) (input_sheet input), printed-alike input)))))

  -- otherwise what storing the text leaves
  pub promised-stored : {text after left : List ℕ} {number : ℕ} → length_size ≤ length area → text ≡ program_text input →
      length (program_text input) < 2 ^ 64 → StoredText text buffer area number after left → Promised number after left
  promised-stored {text} {after} {left} {number} h same small stored =
      let call = ap (λ (t : List ℕ). store_lent buffer area (fit_text buffer t)) same ∙ sym (long-area input buffer area h) in
      let l = subst (λ (c : Lent). Leaves c number after left) call stored in
      let reads : number ≡ 0 → lent_in after left ≡ program_text input = λ z. (λ i. lent_in (l.1.0 i) (l.1.1 i)) ∙ (text-call input buffer area).read_back (sym l.0 ∙ z) small in
      (l.0, (l.1.0, (l.1.1, (reads, (reasons-told (input_parameters input) (input_sheet input), printed-alike input)))))
