-- The promises of the C call over a range: refusal 9, the library call's refusal, or the answer in the area.
use mathlib.Core.Path.{◌≡◌, sym, ap, subst, ◌∙◌}
use mathlib.Core.List.{List, ◌++◌}
use Prim.Native.Nat.{ℕ, ◌^◌, ◌≤◌, ◌<◌}
use lib.IntN.{ℤ}
use lib.Signed.{mag}
use lib.ListN.{length, drop}
use Rattle.meaning.specs.Limits.{constant_half, range_area_length}
use Rattle.meaning.specs.Reader.{ok, refused}
use Rattle.meaning.specs.CCall.{Called, fill_area}
use Rattle.meaning.proofs.Areas.{short-area, long-area}
use Rattle.ranges.specs.ParameterRange.{ParameterRange}
use Rattle.ranges.specs.Extremes.{Extremes, extremes}
use Rattle.ranges.specs.RangeCall.{extremes_bytes, range_call, RangeStored}
use Rattle.ranges.proofs.RangeCalls.{range-stored}

module _ (sheet : List ℕ) (ps : List ℤ) (budget : ℕ) (range : ParameterRange) (area : List ℕ) where
  -- the number returned, the area after it, and what is promised of the answer that it holds
  abbrev pub Promised : ℕ → List ℕ → Type 0
  Promised number after = (number ≡ (range_call sheet ps budget range area).number) × ((after ≡ (range_call sheet ps budget range area).area)
      × RangeStored sheet ps budget range number after)

  -- the number and the area alone
  abbrev pub Left : ℕ → List ℕ → Type 0
  Left number after = (number ≡ (range_call sheet ps budget range area).number) × (after ≡ (range_call sheet ps budget range area).area)

  -- the promise follows from these two, with values of 16 bits and a budget of 32
  pub promised : mag range.first < constant_half → mag range.last < constant_half → budget < 2 ^ 32 → {number : ℕ} {after : List ℕ} → Left number after →
      Promised number after
  promised first last few l =
      let same : range_call sheet ps budget range area ≡ record { number = _; area = _ } = λ t. record { number = sym l.0 t; area = sym l.1 t } in
      (l.0, (l.1, subst (λ (x : Called). RangeStored sheet ps budget range x.number x.area) same (range-stored sheet ps budget range area first last few)))

  left : (c : Called) → range_call sheet ps budget range area ≡ c → Left c.number c.area
  left c e = (sym (ap (λ (x : Called). x.number) e), sym (ap (λ (x : Called). x.area) e))

  -- refusal 9
  pub left-short : length area < range_area_length → Left 9 area
  unfolding range_call
  left-short h = left (record { number = 9; area = area }) (short-area range_area_length extremes_bytes area (extremes sheet ps budget range) h)

  -- a refusal of the library call
  pub left-refused : (number place : ℕ) → range_area_length ≤ length area → refused number place ≡ extremes sheet ps budget range → Left number area
  unfolding range_call fill_area
  left-refused number place h e =
      left (record { number = number; area = area }) (long-area range_area_length extremes_bytes area (extremes sheet ps budget range) h (sym e))

  -- an answer
  pub left-found : (e : Extremes) (after : List ℕ) → range_area_length ≤ length area → ok e ≡ extremes sheet ps budget range →
      after ≡ extremes_bytes e ++ drop range_area_length area → Left 0 after
  unfolding range_call fill_area
  left-found e after h same written =
      left (record { number = 0; area = after })
      (long-area range_area_length extremes_bytes area (extremes sheet ps budget range) h (sym same) ∙ (λ t. record { number = 0; area = sym written t }))
