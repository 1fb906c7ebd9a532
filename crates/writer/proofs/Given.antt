-- A record that passes the writer's tests is the one that was given, and its body is decoded to it.
use mathlib.Core.Path.{◌≡◌, refl, sym}
use mathlib.Core.List.{List, [], ◌∷◌}
use mathlib.Core.Bool.{Bool, true, false, ◌&&◌}
use mathlib.Core.Option.{some}
use Prim.Native.Nat.{ℕ, zero, suc, ◌<◌, ◌^◌}
use native.Mathlib.Omega.{arith}
use lib.IntN.{ℤ, pos}
use lib.Dec.{T, eqb, eqb→eq}
use lib.ListN.{length, replicate}
use Rattle.meaning.specs.Limits.{index_factors, parameter_factors}
use Rattle.meaning.specs.Number.{little_endian, unsigned16}
use Rattle.meaning.specs.Form.{is_zero, all_zero}
use Rattle.meaning.specs.Record.{Kind, work_kind, loop_kind, end_kind, choice_kind, next_arm_kind, kind_number, kind_of}
use Rattle.meaning.specs.Record.{is_given, skip_where, skip_or, skip_cycles, body_length, work_record, loop_record, kind, decode_record, body_bytes}
use Rattle.meaning.specs.Writer.{work_fields_zero, form_zero, skip_zero, loop_fields_zero, foreign_fields_zero, loop_in, record_of}
use Rattle.meaning.proofs.Logic.{T_and}
use Rattle.meaning.proofs.Number.{unsigned-little_endian}
use Rattle.meaning.proofs.Accepted.{FormInRange}
use Rattle.meaning.proofs.RecordBytes.{kind_number-kind_of, loop-decoded, length-loop}
use Rattle.form.specs.declared.packed.PackedForm.{PackedForm}
use Rattle.form.specs.Packed.{form_of, blank_form}
use Rattle.form.proofs.FormLaws.{zero_is}
use Rattle.records.specs.declared.Record.{Record}
use Rattle.records.specs.View.{blank_work, blank_loop, blank_record, loop_of, raw_record_of, record_in}
use Rattle.writer.proofs.Fits.{LoopFits, RecordFits}

-- ---- fields that are 0

zeros-are : (n : ℕ) (xs : List ℤ) → length xs ≡ n → T (all_zero xs) → xs ≡ replicate n (pos 0)
unfolding all_zero
zeros-are zero [] e t = refl
zeros-are zero (x ∷ xs) e t = absurd (omega arith)
zeros-are (suc n) [] e t = absurd (omega arith)
zeros-are (suc n) (x ∷ xs) e t = let b = T_and (is_zero x) (all_zero xs) t in λ i. zero_is x b.0 i ∷ zeros-are n xs (omega arith) b.1 i

no-form : {f : PackedForm} → FormInRange index_factors (form_of f) → T (form_zero (form_of f)) → f ≡ blank_form
unfolding form_zero
no-form {f} h t =
    let a = T_and (is_zero f.constant && all_zero f.index) (all_zero f.parameter) t in
    let b = T_and (is_zero f.constant) (all_zero f.index) a.0 in
    λ i. record {
      constant = zero_is f.constant b.0 i;
      index = zeros-are index_factors f.index h.index_count b.1 i;
      parameter = zeros-are parameter_factors f.parameter h.parameter_count a.1 i;
    }

no-skip : (item : Record) → T (skip_zero (raw_record_of item)) → item.looping.skip ≡ 0
unfolding skip_zero
no-skip item t = eqb→eq item.looping.skip 0 t

no_loop : (item : Record) → LoopFits item.looping → T (loop_fields_zero (raw_record_of item)) → item.looping ≡ blank_loop
unfolding loop_fields_zero
no_loop item h t =
    let l = item.looping in
    let a : Bool = eqb l.start 0 in
    let b : Bool = eqb l.step 0 in
    let c : Bool = is_zero l.stride in
    let f : Bool = form_zero (form_of l.lower) in
    let g : Bool = form_zero (form_of l.upper) in
    let t5 = T_and (a && b && c && f && g) (skip_zero (raw_record_of item)) t in
    let t4 = T_and (a && b && c && f) g t5.0 in
    let t3 = T_and (a && b && c) f t4.0 in
    let t2 = T_and (a && b) c t3.0 in
    let t1 = T_and a b t2.0 in
    λ i. record {
      start = eqb→eq l.start 0 t1.0 i;
      step = eqb→eq l.step 0 t1.1 i;
      stride = zero_is l.stride t2.1 i;
      lower = no-form h.lower_fits t3.1 i;
      upper = no-form h.upper_fits t4.1 i;
      skip = no-skip item t5.1 i;
    }

module _ {item : Record} (h : RecordFits item) where
  no-work : T (work_fields_zero (raw_record_of item)) → item.work ≡ blank_work
  unfolding work_fields_zero
  no-work t =
      let a = T_and (eqb item.work.least 0) (eqb item.work.most 0) t in
      λ i. record { least = eqb→eq item.work.least 0 a.0 i; most = eqb→eq item.work.most 0 a.1 i }

  -- a record of no fields
  bare : {n : ℕ} → n ≡ item.kind → T (work_fields_zero (raw_record_of item) && loop_fields_zero (raw_record_of item)) → blank_record n ≡ item
  bare e t =
      let a = T_and (work_fields_zero (raw_record_of item)) (loop_fields_zero (raw_record_of item)) t in
      λ i. record { kind = e i; work = sym (no-work a.0) i; looping = sym (no_loop item h.loop_fits a.1) i }

  pub given_back : {k : Kind} → kind_of item.kind ≡ some k → T (foreign_fields_zero k (raw_record_of item)) → record_in (record_of k (raw_record_of item)) ≡ item
  unfolding foreign_fields_zero record_of loop_in record_in kind is_given skip_where skip_or
  given_back {k} named t = go k (kind_number-kind_of item.kind k named) t
    where
      go : (c : Kind) → kind_number c ≡ item.kind → T (foreign_fields_zero c (raw_record_of item)) → record_in (record_of c (raw_record_of item)) ≡ item
      go work_kind e t = λ i. record { kind = e i; work = item.work; looping = sym (no_loop item h.loop_fits t) i }
      go (loop_kind false) e t =
          let a = T_and (work_fields_zero (raw_record_of item)) (skip_zero (raw_record_of item)) t in
          let l = item.looping in
          λ i. record {
            kind = e i;
            work = sym (no-work a.0) i;
            looping = record {
              start = l.start;
              step = l.step;
              stride = l.stride;
              lower = l.lower;
              upper = l.upper;
              skip = sym (no-skip item a.1) i;
            };
          }
      go (loop_kind true) e t = λ i. record { kind = e i; work = sym (no-work t) i; looping = item.looping }
      go end_kind e t = bare e t
      go choice_kind e t = bare e t
      go next_arm_kind e t = bare e t

-- ---- the body, decoded

module _ {item : Record} (h : RecordFits item) where
  loop-back : (has_skip : Bool) → skip_cycles (loop_of has_skip item.looping) < 2 ^ 16 →
      decode_record (kind (loop_record (loop_of has_skip item.looping))) (body_bytes (loop_record (loop_of has_skip item.looping)))
      ≡ loop_record (loop_of has_skip item.looping)
  loop-back has_skip fits =
      let l = h.loop_fits in
      loop-decoded index_factors (loop_of has_skip item.looping) l.start_fits l.step_fits l.stride_fits l.lower_fits l.upper_fits fits

  pub decoded-back : (k : Kind) → decode_record k (body_bytes (record_of k (raw_record_of item))) ≡ record_of k (raw_record_of item)
  unfolding decode_record body_bytes record_of loop_in kind is_given skip_where skip_or skip_cycles unsigned16 little_endian
  decoded-back work_kind =
      λ i. work_record (unsigned-little_endian 2 item.work.least h.least_fits i) (unsigned-little_endian 2 item.work.most h.most_fits i)
  decoded-back (loop_kind false) = loop-back false h.loop_fits.start_fits
  decoded-back (loop_kind true) = loop-back true h.loop_fits.skip_fits
  decoded-back end_kind = refl
  decoded-back choice_kind = refl
  decoded-back next_arm_kind = refl

  pub body-long : (k : Kind) → length (body_bytes (record_of k (raw_record_of item))) ≡ body_length k
  unfolding body_bytes record_of loop_in is_given skip_where body_length little_endian
  body-long work_kind = refl
  body-long (loop_kind false) = length-loop index_factors (loop_of false item.looping) h.loop_fits.lower_fits h.loop_fits.upper_fits
  body-long (loop_kind true) = length-loop index_factors (loop_of true item.looping) h.loop_fits.lower_fits h.loop_fits.upper_fits
  body-long end_kind = refl
  body-long choice_kind = refl
  body-long next_arm_kind = refl

pub kind-given : (item : Record) (k : Kind) → kind (record_of k (raw_record_of item)) ≡ k
unfolding kind record_of loop_in is_given skip_where
kind-given item work_kind = refl
kind-given item (loop_kind false) = refl
kind-given item (loop_kind true) = refl
kind-given item end_kind = refl
kind-given item choice_kind = refl
kind-given item next_arm_kind = refl
