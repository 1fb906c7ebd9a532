-- What the widths of the code's fields say of the meaning's numbers: every number has a pattern of its width, every form its factors.
use mathlib.Core.Path.{◌≡◌, sym, subst}
use mathlib.Core.List.{List, [], ◌∷◌}
use Prim.Native.Nat.{◌^◌, ◌≤◌, ◌<◌}
use native.Mathlib.Omega.{arith}
use lib.IntN.{ℤ}
use lib.Signed.{mag}
use lib.Dec.{T, lt→ltb}
use lib.ListN.{length, drop, drop_of_length-le}
use mir.Syntax.{w8}
use mir.Val.{Val}
use denote.Shadow.{shadow}
use denote.Array.{each}
use denote.Signed.{SInt}
use denote.Laws.{Is}
use Rattle.meaning.specs.Limits.{constant_half, factor_half, index_factors}
use Rattle.meaning.specs.Number.{has_pattern}
use Rattle.meaning.specs.Form.{all_zero, factors_fit}
use Rattle.meaning.proofs.Logic.{and_t}
use Rattle.meaning.proofs.Accepted.{FormInRange}
use Rattle.form.specs.declared.packed.PackedForm.{PackedForm}
use Rattle.form.specs.Packed.{form_of}
use Rattle.form.specs.contracts.packed.PackedForm as packed-row
use Rattle.records.specs.declared.loops.Loop.{Loop}
use Rattle.records.specs.declared.Record.{Record}
use Rattle.records.specs.contracts.loops.Loop as loop-row
use Rattle.records.specs.contracts.Record as record-row

-- a loop's fields, whatever loops are around it
pub record LoopFits (l : Loop) : Type 0 where
  pub start_fits : l.start < 2 ^ 16
  pub step_fits : l.step < 2 ^ 16
  pub stride_fits : T (has_pattern constant_half l.stride)
  pub lower_fits : FormInRange index_factors (form_of l.lower)
  pub upper_fits : FormInRange index_factors (form_of l.upper)
  pub skip_fits : l.skip < 2 ^ 16

pub record RecordFits (r : Record) : Type 0 where
  pub least_fits : r.work.least < 2 ^ 16
  pub most_fits : r.work.most < 2 ^ 16
  pub loop_fits : LoopFits r.looping

factors-fit : (xs : List ℤ) (us : List Val) → shadow (each ℤ (SInt w8).own_val xs us) → T (factors_fit xs)
unfolding factors_fit has_pattern
factors-fit [] us h = tt
factors-fit (x ∷ xs) [] h = absurd h
factors-fit (x ∷ xs) (u ∷ us) h = and_t (has_pattern factor_half x) (factors_fit xs) (lt→ltb (mag x) factor_half h.0.1) (factors-fit xs us h.1)

pub form-fits : (f : PackedForm) (vs : List Val) → Is packed-row.the_row f vs → FormInRange index_factors (form_of f)
unfolding all_zero has_pattern
form-fits f vs h =
    let index = h.1.1.1.0 in
    let parameter = h.1.1.1.1.0 in
    let three : length f.index ≡ index_factors = index.1.0.1 in
    let few : length f.index ≤ index_factors = omega arith in
    let none : drop index_factors f.index ≡ [] = drop_of_length-le f.index few in
    record {
      not_enclosing_zero = subst (λ (xs : List ℤ). T (all_zero xs)) (sym none) tt;
      constant_fits = lt→ltb (mag f.constant) constant_half h.1.1.0.1;
      index_count = three;
      index_fit = factors-fit f.index index.0 index.1.1;
      parameter_count = parameter.1.0.1;
      parameter_fit = factors-fit f.parameter parameter.0 parameter.1.1;
    }

pub loop-fits : (l : Loop) (vs : List Val) → Is loop-row.the_row l vs → LoopFits l
unfolding has_pattern
loop-fits l vs h =
    let fields = h.1.1 in
    record {
      start_fits = fields.0.1;
      step_fits = fields.1.0.1;
      stride_fits = lt→ltb (mag l.stride) constant_half fields.1.1.0.1;
      lower_fits = form-fits l.lower _ fields.1.1.1.0;
      upper_fits = form-fits l.upper _ fields.1.1.1.1.0;
      skip_fits = fields.1.1.1.1.1.0.1;
    }

pub record-fits : (r : Record) (vs : List Val) → Is record-row.the_row r vs → RecordFits r
record-fits r vs h =
    let fields = h.1.1 in
    let work = fields.1.0.1.1 in
    record {
      least_fits = work.0.1;
      most_fits = work.1.0.1;
      loop_fits = loop-fits r.looping _ fields.1.1.0;
    }
