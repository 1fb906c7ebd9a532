-- The C call over a range: when it returns 0, what it leaves, and that the answer read back out of the area has what is promised of it.
use mathlib.Core.Path.{◌≡◌, refl, sym, ap, ◌∙◌, subst}
use mathlib.Core.List.{List, ◌++◌}
use mathlib.Core.Logic.{◌↔◌}
use Prim.Native.Nat.{ℕ, ◌^◌, ◌≤◌, ◌<◌}
use native.Mathlib.Omega.{arith}
use lib.IntN.{ℤ}
use lib.Signed.{mag}
use lib.Dec.{T, lt→ltb}
use lib.ListN.{length, drop}
use Rattle.meaning.specs.Limits.{constant_half, range_area_length, answer_half}
use Rattle.meaning.specs.Number.{unsigned, little_endian, decode_signed, encode_signed, has_pattern}
use Rattle.meaning.specs.Reader.{ok, refused, read}
use Rattle.meaning.specs.Record.{Record}
use Rattle.meaning.specs.CCall.{number_in}
use Rattle.meaning.proofs.Logic.{ok-injective, refused-is-not-ok, refused-number}
use Rattle.meaning.proofs.Number.{unsigned-little_endian, decode-encode, encode-bound}
use Rattle.meaning.proofs.Answers.{answer-refused, answer-refusal-number}
use Rattle.meaning.proofs.Areas.{area-number-zero, area-refusal, area-stored, area-tail, area-length}
use Rattle.meaning.proofs.Demands.{demand3}
use Rattle.ranges.specs.ParameterRange.{ParameterRange, Within, parameters_with}
use Rattle.ranges.specs.Extremes.{Extremes, extremes_found, extremes}
use Rattle.ranges.specs.RangePromise.{RunAt, RangePromise, RangeAnswered}
use Rattle.ranges.specs.RangeCall.{value_bytes, extremes_bytes, range_call, value_in, extremes_stored, RangeStored}
use Rattle.ranges.proofs.Values.{value-small}
use Rattle.ranges.proofs.RangeRuns.{range-answered}
use Rattle.ranges.proofs.Refusals.{RangeOutcome, range_refused, budget_refused, value_refused, visits_refused, found, range-outcome}

-- numbers that an area's 64 bits hold
pub record Storable (e : Extremes) : Type 0 where
  pub least : e.least < 2 ^ 64
  pub least_at : T (has_pattern answer_half e.least_at)
  pub most : e.most < 2 ^ 64
  pub most_at : T (has_pattern answer_half e.most_at)
  pub visits : e.visits < 2 ^ 64

value-stored : (z : ℤ) → T (has_pattern answer_half z) → decode_signed answer_half (unsigned (little_endian 8 (encode_signed answer_half z))) ≡ z
value-stored z h =
    ap (decode_signed answer_half) (unsigned-little_endian 8 (encode_signed answer_half z) (omega (arith, encode-bound answer_half z h))) ∙ decode-encode answer_half z h

-- they are read back, whatever follows them
pub extremes-in-area : (e : Extremes) (rest : List ℕ) → Storable e → extremes_stored (extremes_bytes e ++ rest) ≡ e
unfolding extremes_stored extremes_bytes value_bytes number_in value_in little_endian
extremes-in-area e rest s =
    λ t. extremes_found
    (unsigned-little_endian 8 e.least s.least t) (value-stored e.least_at s.least_at t)
    (unsigned-little_endian 8 e.most s.most t) (value-stored e.most_at s.most_at t)
    (unsigned-little_endian 8 e.visits s.visits t)

-- every answer takes range_area_length bytes
pub length-extremes_bytes : (e : Extremes) → length (extremes_bytes e) ≡ range_area_length
unfolding extremes_bytes value_bytes little_endian
length-extremes_bytes e = refl

module _ (sheet : List ℕ) (ps : List ℤ) (budget : ℕ) (range : ParameterRange) where
  -- no refusal has the number 0
  pub range-refusal-number : (number place : ℕ) → extremes sheet ps budget range ≡ refused number place → 1 ≤ number
  range-refusal-number number place e = go (range-outcome sheet ps budget range)
    where
      same : {n p : ℕ} → extremes sheet ps budget range ≡ refused n p → n ≡ number
      same f = refused-number (sym f ∙ e)

      go : RangeOutcome sheet ps budget range → 1 ≤ number
      go (range_refused a f) = omega (arith, same f)
      go (budget_refused a b f) = omega (arith, same f)
      go (value_refused n p a b r f) =
          let refusal = answer-refused sheet _ budget n p b r.refusal in
          omega (arith, same f, (answer-refusal-number sheet _ budget n p refusal).0)
      go (visits_refused fs a b r h f) = omega (arith, same f)
      go (found fs a b r h f) = refused-is-not-ok (sym e ∙ f)

  -- a value of 16 bits has a pattern of 64
  patterned : {value : ℤ} → mag range.first < constant_half → mag range.last < constant_half → Within range value → T (has_pattern answer_half value)
  unfolding has_pattern
  patterned {value} first last h = lt→ltb (mag value) answer_half (omega (arith, value-small range first last h))

  -- an answer over a range of values of 16 bits can be stored
  pub storable : {e : Extremes} {rs : List Record} → read sheet ≡ ok rs → mag range.first < constant_half → mag range.last < constant_half → budget < 2 ^ 32 →
      RangePromise sheet ps budget range rs e → Storable e
  storable {e} {rs} read_as first last few p =
      let d = demand3 (parameters_with range ps e.most_at) sheet budget _ (p.single e.most_at p.most_within) in
      let slowest = subst (λ (xs : List Record). RunAt ps range xs e.most_at e.most) (ok-injective (sym read_as ∙ d.1)) p.slowest in
      let above = d.2.never_above e.most slowest in
      let small : e.most < 2 ^ 64 = omega (arith, above, d.2.small) in
      record {
        least = omega (arith, small, p.never_below e.most_at e.most p.most_within p.slowest);
        least_at = patterned first last p.least_within;
        most = small;
        most_at = patterned first last p.most_within;
        visits = omega (arith, p.visits_within);
      }

  module _ (area : List ℕ) where
    -- it returns 0 exactly where there is an answer and the area is long enough
    pub range-number-zero : ((range_call sheet ps budget range area).number ≡ 0) ↔ ((range_area_length ≤ length area) × (e : Extremes) × (extremes sheet ps budget range ≡ ok e))
    unfolding range_call
    range-number-zero = area-number-zero range_area_length extremes_bytes area (extremes sheet ps budget range) range-refusal-number

    -- a refusal writes nothing
    pub range-refusal-area : ¬ ((range_call sheet ps budget range area).number ≡ 0) → (range_call sheet ps budget range area).area ≡ area
    unfolding range_call
    range-refusal-area = area-refusal range_area_length extremes_bytes area (extremes sheet ps budget range)

    -- bytes past range_area_length never change
    pub range-area-tail : drop range_area_length (range_call sheet ps budget range area).area ≡ drop range_area_length area
    unfolding range_call
    range-area-tail = area-tail range_area_length extremes_bytes area (extremes sheet ps budget range) length-extremes_bytes

    pub range-area-length : length (range_call sheet ps budget range area).area ≡ length area
    unfolding range_call
    range-area-length = area-length range_area_length extremes_bytes area (extremes sheet ps budget range) length-extremes_bytes

    -- what is promised holds of the answer that is read back
    pub range-stored : mag range.first < constant_half → mag range.last < constant_half → budget < 2 ^ 32 →
        RangeStored sheet ps budget range (range_call sheet ps budget range area).number (range_call sheet ps budget range area).area
    unfolding RangeStored RangeAnswered range_call
    range-stored first last few zero =
        let h = range-number-zero.0 zero in
        let e : Extremes = h.1 in
        let answered = range-answered sheet ps budget range (ok e) (sym h.2) in
        let read_back = ap extremes_stored (area-stored range_area_length extremes_bytes area (extremes sheet ps budget range) e zero h.2)
        ∙ extremes-in-area e (drop range_area_length area) (storable answered.1 first last few answered.2) in
        subst (λ (x : Extremes). RangeAnswered sheet ps budget range (ok x)) (sym read_back) answered
