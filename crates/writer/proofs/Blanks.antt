-- Equality with a blank loop, field by field, is what the meaning asks of a record's fields of a loop.
use mathlib.Core.Path.{◌≡◌, refl, sym, ap, ◌∙◌}
use mathlib.Core.List.{List, [], ◌∷◌}
use mathlib.Core.Bool.{Bool, true, false, ◌&&◌, and_assoc}
use Prim.Native.Nat.{ℕ, zero, suc}
use native.Mathlib.Omega.{arith}
use lib.Dec.{eqb}
use lib.IntN.{ℤ, pos, negsuc, nat_abs}
use lib.ListN.{length, replicate}
use lib.Pointwise.{pointwise}
use Rattle.std.specs.Ordering.{int_eq}
use Rattle.std.proofs.lemmas.Bool.Decides.{Decides-int_eq}
use Rattle.meaning.specs.Limits.{index_factors, parameter_factors}
use Rattle.meaning.specs.Form.{is_zero, all_zero}
use Rattle.meaning.specs.Writer.{form_zero, skip_zero, loop_fields_zero}
use Rattle.meaning.proofs.Accepted.{FormInRange}
use Rattle.form.specs.declared.packed.PackedForm.{PackedForm}
use Rattle.form.specs.Packed.{form_of}
use Rattle.records.specs.declared.Record.{Record}
use Rattle.records.specs.View.{raw_record_of}
use Rattle.writer.proofs.Fits.{LoopFits}

not-zero : (z : ℤ) → (z ≡ pos 0 → ⊥) → int_eq z (pos 0) ≡ false
not-zero z h = go (int_eq z (pos 0)) refl
  where
    go : (b : Bool) → int_eq z (pos 0) ≡ b → b ≡ false
    go true e = absurd (h ((Decides-int_eq z (pos 0)).0 e))
    go false e = refl

number-zero : (z : ℤ) → int_eq z (pos 0) ≡ is_zero z
unfolding is_zero
number-zero (pos zero) = refl
number-zero (pos (suc n)) = not-zero (pos (suc n)) (λ e. omega (arith, ap nat_abs e))
number-zero (negsuc n) = not-zero (negsuc n) (λ e. cc)

-- as many numbers as there are zeros
numbers-zero : (xs : List ℤ) (n : ℕ) → length xs ≡ n → pointwise int_eq xs (replicate n (pos 0)) ≡ all_zero xs
unfolding all_zero
numbers-zero [] zero e = refl
numbers-zero [] (suc n) e = absurd (omega arith)
numbers-zero (x ∷ xs) zero e = absurd (omega arith)
numbers-zero (x ∷ xs) (suc n) e = λ i. number-zero x i && numbers-zero xs n (omega arith) i

-- the tests of a form
abbrev form_equal : PackedForm → Bool
form_equal f =
    int_eq f.constant (pos 0) && (pointwise int_eq f.index (replicate index_factors (pos 0)) && pointwise int_eq f.parameter (replicate parameter_factors (pos 0)))

form-blank : {f : PackedForm} → FormInRange index_factors (form_of f) → form_equal f ≡ form_zero (form_of f)
unfolding form_zero
form-blank {f} h =
    (λ i. number-zero f.constant i && (numbers-zero f.index index_factors h.index_count i && numbers-zero f.parameter parameter_factors h.parameter_count i))
    ∙ sym (and_assoc (is_zero f.constant) (all_zero f.index) (all_zero f.parameter))

from-the-right : (a b c d e f : Bool) → a && (b && (c && (d && (e && f)))) ≡ a && b && c && d && e && f
from-the-right false b c d e f = refl
from-the-right true false c d e f = refl
from-the-right true true false d e f = refl
from-the-right true true true false e f = refl
from-the-right true true true true e f = refl

pub loop-blank : (item : Record) → LoopFits item.looping →
    let l = item.looping in
    eqb l.start 0 && (eqb l.step 0 && (int_eq l.stride (pos 0) && (form_equal l.lower && (form_equal l.upper && eqb l.skip 0)))) ≡ loop_fields_zero (raw_record_of item)
unfolding loop_fields_zero skip_zero
loop-blank item h =
    let l = item.looping in
    (λ i. eqb l.start 0 && (eqb l.step 0 && (number-zero l.stride i && (form-blank h.lower_fits i && (form-blank h.upper_fits i && eqb l.skip 0)))))
    ∙ from-the-right (eqb l.start 0) (eqb l.step 0) (is_zero l.stride) (form_zero (form_of l.lower)) (form_zero (form_of l.upper)) (eqb l.skip 0)
