-- Bodies in bytes: what the code makes of a form, of a stride and of a skip.
use mathlib.Core.Path.{◌≡◌, ap, ◌∙◌}
use mathlib.Core.List.{List, [], ◌∷◌, ◌++◌, map, append-nil}
use mathlib.Core.Bool.{true, false}
use Prim.Native.Nat.{ℕ}
use native.Mathlib.Omega.{arith}
use lib.IntN.{ℤ}
use lib.Signed.{mag}
use lib.Dec.{T, ltb→lt}
use lib.ListN.{get_or}
use mir.Syntax.{Width, w8, w16}
use mir.Val.{to_z, of_z}
use Rattle.meaning.specs.Limits.{constant_half, factor_half, index_factors}
use Rattle.meaning.specs.Number.{little_endian, encode_signed, has_pattern}
use Rattle.meaning.specs.Form.{Form, form_bytes}
use Rattle.meaning.specs.Record.{skip_where, loop_record, skip_bytes, body_bytes}
use Rattle.meaning.proofs.Accepted.{FormInRange}
use Rattle.meaning.proofs.RecordBytes.{factor-fits}
use Rattle.std.specs.Int.{cast_unsigned, to_le_bytes}
use Rattle.encoding.proofs.Fields.{le-bytes}
use Rattle.encoding.proofs.Patterns.{Widths, bits8, bits16, encoded_of}
use Rattle.form.proofs.FormLists.{at, indexes-are, four_are}
use Rattle.records.specs.declared.loops.Loop.{Loop}
use Rattle.records.specs.View.{loop_of}
use Rattle.writer.proofs.Fits.{LoopFits}

-- the pattern of a number that has one, as the code is told of it
exact : {half : ℕ} {w : Width} → Widths half w → (z : ℤ) → T (has_pattern half z)
    → {r : ℕ} → r ≡ cast_unsigned w (to_z w (of_z w z)) → r ≡ encode_signed half z
unfolding has_pattern
exact {half} widths z t e = encoded_of widths (record { sfits = omega (arith, ltb→lt (mag z) half t, widths.narrow) }) e

module _ {f : Form} (h : FormInRange index_factors f) where
  abbrev Index : ℕ → ℕ → Type 0
  Index k r = r ≡ cast_unsigned w8 (to_z w8 (of_z w8 (at f.index k)))

  abbrev Parameter : ℕ → ℕ → Type 0
  Parameter k r = r ≡ cast_unsigned w8 (to_z w8 (of_z w8 (at f.parameter k)))

  index_is : (k : ℕ) {r : ℕ} → Index k r → r ≡ encode_signed factor_half (at f.index k)
  index_is k e = exact bits8 (at f.index k) (factor-fits f.index h.index_fit k) e

  parameter-is : (k : ℕ) {r : ℕ} → Parameter k r → r ≡ encode_signed factor_half (at f.parameter k)
  parameter-is k e = exact bits8 (at f.parameter k) (factor-fits f.parameter h.parameter_fit k) e

  pub form-bytes : {c : ℕ} {two : List ℕ} {i1 i2 i3 p1 p2 p3 p4 : ℕ} → c ≡ cast_unsigned w16 (to_z w16 (of_z w16 f.constant)) → two ≡ to_le_bytes w16 c
      → Index 0 i1 → Index 1 i2 → Index 2 i3 → Parameter 0 p1 → Parameter 1 p2 → Parameter 2 p3 → Parameter 3 p4
      → get_or two 0 0 ∷ get_or two 1 0 ∷ i1 ∷ i2 ∷ i3 ∷ p1 ∷ p2 ∷ p3 ∷ p4 ∷ [] ≡ form_bytes f
  unfolding form_bytes little_endian
  form-bytes {c = number} c two a1 a2 a3 b1 b2 b3 b4 =
      let constant = two ∙ le-bytes w16 number ∙ ap (little_endian 2) (exact bits16 f.constant h.constant_fits c) in
      (λ t. get_or (constant t) 0 0 ∷ get_or (constant t) 1 0 ∷ index_is 0 a1 t ∷ index_is 1 a2 t ∷ index_is 2 a3 t
      ∷ parameter-is 0 b1 t ∷ parameter-is 1 b2 t ∷ parameter-is 2 b3 t ∷ parameter-is 3 b4 t ∷ [])
      ∙ (λ t. little_endian 2 (encode_signed constant_half f.constant)
      ++ map (encode_signed factor_half) (indexes-are f.index h.index_count t)
      ++ map (encode_signed factor_half) (four_are f.parameter h.parameter_count t))

-- the pattern of a stride
pub stride-encoded : (l : Loop) → LoopFits l → {r : ℕ} → r ≡ cast_unsigned w16 (to_z w16 (of_z w16 l.stride)) → r ≡ encode_signed constant_half l.stride
stride-encoded l h e = exact bits16 l.stride h.stride_fits e

-- a skip stands after what a loop without one has
pub skip-after : (l : Loop) → body_bytes (loop_record (loop_of false l)) ++ little_endian 2 l.skip ≡ body_bytes (loop_record (loop_of true l))
unfolding body_bytes skip_bytes skip_where
skip-after l = simp append-nil
