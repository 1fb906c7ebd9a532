-- The C call in terms of the library call's answer; and demand 3 of the figures read back out of the area.
use mathlib.Core.Path.{◌≡◌, refl, sym, ap, ◌∙◌, subst}
use mathlib.Core.List.{List, ◌++◌}
use Prim.Native.Nat.{ℕ, ◌^◌, ◌≤◌, ◌<◌}
use native.Mathlib.Omega.{arith}
use lib.IntN.{ℤ}
use lib.ListN.{length, drop}
use borrow.Author.Tests.{le-leb, lt-leb}
use Rattle.meaning.specs.Limits.{area_length}
use Rattle.meaning.specs.Reader.{Result, ok, refused, require}
use Rattle.meaning.specs.Answer.{answer, answer_by, Figures}
use Rattle.meaning.specs.EarlierReaders.{short_read, UnlessTooLong}
use Rattle.meaning.specs.EarlierVisits.{earlier_answer, OnlyVisitsFall}
use Rattle.meaning.specs.CCall.{Called, area_bytes, store_answer, c_call}
use Rattle.meaning.proofs.Answers.{answer_ok, call-number-zero, call-figures}
use Rattle.meaning.proofs.LongerSheets.{answered-alike}
use Rattle.meaning.proofs.FewerVisits.{answer-falls}
use Rattle.loops.proofs.Sizes.{SmallParameters}
use Rattle.figures.specs.Demand.{Answered}
use Rattle.exports.specs.Demand.{Stored}
use Rattle.figures.proofs.Demands.{answer-demand}

module _ (sheet : List ℕ) (ps : List ℤ) (budget : ℕ) (area : List ℕ) where
  -- refusal 9
  pub short-area : length area < area_length → c_call sheet ps budget area ≡ record { number = 9; area = area }
  unfolding c_call require store_answer
  short-area h = ap (λ c. store_answer area (require c 9 0 (answer sheet ps budget))) (lt-leb area_length (length area) h)

  -- otherwise what the library call answers
  pub long-area : (r : Result Figures) → area_length ≤ length area → r ≡ answer sheet ps budget → c_call sheet ps budget area ≡ store_answer area r
  unfolding c_call require
  long-area r h e = λ t. store_answer area (require (le-leb area_length (length area) h t) 9 0 (sym e t))

  -- the least is no more than the most, which is below the figure limit, and the visits are within the budget
  fits : (f : Figures) → answer sheet ps budget ≡ ok f → Answered sheet ps (ok f) → (f.least < 2 ^ 64) × (f.most < 2 ^ 64) × (f.visits < 2 ^ 64)
  unfolding Answered
  fits f e (rs, read_as, d) =
      let a = (answer_ok sheet ps budget f).0 e in
      let within = a.budget_in_range.within in
      let below = d.never_below f.most d.slowest in
      (omega (arith, d.small), omega (arith, d.small), omega (arith, a.visits_within))

  pub stored : SmallParameters ps → Stored sheet ps (c_call sheet ps budget area).number (c_call sheet ps budget area).area
  unfolding Stored
  stored small z =
      let h = (call-number-zero sheet ps budget area).0 z in
      let f : Figures = h.1 in
      let d = answer-demand sheet ps small budget (ok f) (sym h.2) in
      let s = fits f h.2 d in
      subst (λ (x : Figures). Answered sheet ps (ok x)) (sym (call-figures sheet ps budget area f z h.2 s.0 s.1 s.2)) d

  -- the promises of the C call: the number returned, the area after it, demand 3, that sheets which were not too long are answered as before, and that
  -- only the visits fall where loops are ranked
  abbrev pub Promised : ℕ → List ℕ → Type 0
  Promised number after = (number ≡ (c_call sheet ps budget area).number) × ((after ≡ (c_call sheet ps budget area).area) × (Stored sheet ps number after
      × (UnlessTooLong sheet (answer sheet ps budget ≡ answer_by short_read sheet ps budget) × OnlyVisitsFall (earlier_answer sheet ps budget) (answer sheet ps budget))))

  -- the number and the area alone
  abbrev pub Left : ℕ → List ℕ → Type 0
  Left number after = (number ≡ (c_call sheet ps budget area).number) × (after ≡ (c_call sheet ps budget area).area)

  -- all promises follow from these two
  pub promised : SmallParameters ps → {number : ℕ} {after : List ℕ} → Left number after → Promised number after
  promised small l =
      let same : c_call sheet ps budget area ≡ record { number = _; area = _ } = λ t. record { number = sym l.0 t; area = sym l.1 t } in
      let demand = subst (λ (x : Called). Stored sheet ps x.number x.area) same (stored small) in
      (l.0, (l.1, (demand, (answered-alike sheet ps budget (answer sheet ps budget) refl, answer-falls sheet ps budget))))

  left : (c : Called) → c_call sheet ps budget area ≡ c → Left c.number c.area
  left c e = (sym (ap (λ (x : Called). x.number) e), sym (ap (λ (x : Called). x.area) e))

  -- refusal 9
  pub left-short : length area < area_length → Left 9 area
  left-short h = left (record { number = 9; area = area }) (short-area h)

  -- a refusal of the library call
  pub left-refused : (number place : ℕ) → area_length ≤ length area → refused number place ≡ answer sheet ps budget → Left number area
  unfolding store_answer
  left-refused number place h e = left (record { number = number; area = area }) (long-area (refused number place) h e)

  -- figures
  pub left-figures : (f : Figures) (after : List ℕ) → area_length ≤ length area → ok f ≡ answer sheet ps budget →
      after ≡ area_bytes f ++ drop area_length area → Left 0 after
  unfolding store_answer
  left-figures f after h e written =
      left (record { number = 0; area = after }) (long-area (ok f) h e ∙ (λ t. record { number = 0; area = sym written t }))
