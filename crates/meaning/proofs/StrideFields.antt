-- Document 02, C-17, "The stride field becomes signed, -1,000 to 1,000 without 0": which fields of a stride are in range, and which strides they are.
use mathlib.Core.Path.{◌≡◌, refl, sym, ap, ◌∙◌}
use mathlib.Core.List.{List}
use mathlib.Core.Bool.{Bool, true, false, ◌&&◌, ◌||◌}
use Prim.Native.Nat.{ℕ, suc, ◌+◌, ◌-◌, ◌≤◌, ◌<◌}
use native.Mathlib.Omega.{arith}
use lib.IntN.{ℤ, pos, nat_abs, ◌+ℤ◌}
use lib.Dec.{T, leb, ltb, leb→le, le→leb}
use borrow.Author.Tests.{ltb-true, ltb-false, le-leb, lt-leb}
use Rattle.meaning.specs.Limits.{cost_limit, stride_limit, constant_half}
use Rattle.meaning.specs.Number.{decode_signed, unsigned16, signed16}
use Rattle.meaning.specs.Form.{form_at, form_in_range}
use Rattle.meaning.specs.Record.{loop_kind, stride_size, skip_where, skip_or, skip_cycles, loop_depth, decode_record, Open, fields_in_range}
use Rattle.meaning.specs.Converter.{change_loop}
use Rattle.meaning.specs.EarlierReaders.{with_stride}
use Rattle.meaning.proofs.Logic.{same_truth}
use Rattle.meaning.proofs.Number.{decoded-low, decoded-high, complement}

-- ---- which fields

-- where all other tests pass, those of the stride decide
strides-decide : (a b f g k x y : Bool) → T (a && b && true && true && f && g && k) → a && b && x && y && f && g && k ≡ x && y
strides-decide true true true true true true true t = refl
strides-decide true true true true true true false t = refl
strides-decide true true true true true false true t = refl
strides-decide true true true true true false false t = refl
strides-decide false b f g k _ y t = elim t [ ]
strides-decide true false f g k _ y t = elim t [ ]
strides-decide true true false g k _ y t = elim t [ ]
strides-decide true true true false k _ y t = elim t [ ]
strides-decide true true true true false _ y t = elim t [ ]

no_other : (b c : Bool) → c ≡ false → b ≡ b || c
no_other true c e = refl
no_other false c e = sym e

module _ (n : ℕ) (short : n < 65536) where
  -- the size of the stride that a field of the upper half is
  abbrev upper_size : ℕ
  upper_size = suc (constant_half + constant_half - suc n)

  upper-size : constant_half ≤ n → leb upper_size stride_limit ≡ leb 64536 n
  upper-size h =
      same_truth (leb upper_size stride_limit) (leb 64536 n)
      (λ t. le→leb 64536 n (let k = leb→le upper_size stride_limit t in omega arith))
      (λ t. le→leb upper_size stride_limit (let k = leb→le 64536 n t in omega arith))

  abbrev in_range : ℤ → Bool
  in_range z = leb 1 (nat_abs z) && leb (nat_abs z) stride_limit

  size-in-range : in_range (decode_signed constant_half n) ≡ (leb 1 n && leb n 1000) || leb 64536 n
  size-in-range = go (ltb n constant_half) refl
    where
      go : (low : Bool) → ltb n constant_half ≡ low → in_range (decode_signed constant_half n) ≡ (leb 1 n && leb n 1000) || leb 64536 n
      go true e =
          let h = ltb-true n constant_half e in
          ap in_range (decoded-low constant_half n h) ∙ no_other (leb 1 n && leb n 1000) (leb 64536 n) (lt-leb 64536 n (omega arith))
      go false e =
          let h = ltb-false n constant_half e in
          ap in_range (decoded-high constant_half n h) ∙ (λ i. le-leb 1 upper_size (omega arith) i && upper-size h i)
          ∙ sym (λ i. (le-leb 1 n (omega arith) i && lt-leb n 1000 (omega arith) i) || leb 64536 n)

-- of a loop that is in range but for its stride, the fields 1 to 1,000 and 64,536 to 65,535 are in range, and no others
pub stride-fields : (os : List Open) (has_skip : Bool) (body : List ℕ) → unsigned16 body 4 < 65536 →
    T (fields_in_range os (change_loop (with_stride (pos 1)) (decode_record (loop_kind has_skip) body))) →
    fields_in_range os (decode_record (loop_kind has_skip) body) ≡ (leb 1 (unsigned16 body 4) && leb (unsigned16 body 4) 1000) || leb 64536 (unsigned16 body 4)
unfolding fields_in_range decode_record change_loop with_stride stride_size skip_cycles signed16
stride-fields os has_skip body short others =
    let size : ℕ = nat_abs (signed16 body 4) in
    strides-decide (leb (unsigned16 body 0) cost_limit) (leb (unsigned16 body 2) cost_limit) (form_in_range (loop_depth os) (form_at body 6))
    (form_in_range (loop_depth os) (form_at body 15)) (leb (skip_or (skip_where has_skip (unsigned16 body 24)) (unsigned16 body 0)) cost_limit)
    (leb 1 size) (leb size stride_limit) others
    ∙ size-in-range (unsigned16 body 4) short

-- ---- which strides

-- a field of the lower half is its own stride, one of the upper half is 65,536 above it
pub stride-lower : (body : List ℕ) → unsigned16 body 4 < 32768 → signed16 body 4 ≡ pos (unsigned16 body 4)
unfolding signed16
stride-lower body h = decoded-low constant_half (unsigned16 body 4) h

pub stride-upper : (body : List ℕ) → 32768 ≤ unsigned16 body 4 → unsigned16 body 4 < 65536 → signed16 body 4 +ℤ pos 65536 ≡ pos (unsigned16 body 4)
unfolding signed16
stride-upper body upper short = complement constant_half (unsigned16 body 4) upper short
