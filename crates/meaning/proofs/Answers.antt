-- What an answer says: which of the five outcomes of the library call it is, and what the C call makes of it.
use mathlib.Core.Path.{◌≡◌, refl, sym, ap, ◌∙◌, subst}
use mathlib.Core.List.{List, [], ◌++◌}
use mathlib.Core.Bool.{Bool, true, false, ◌&&◌}
use mathlib.Core.Logic.{◌⊎◌, inl, inr, ◌↔◌}
use mathlib.Core.Option.{Option, none, some}
use Prim.Native.Nat.{ℕ, ◌^◌, ◌≤◌, ◌<◌}
use native.Mathlib.Decide.{dec_le}
use native.Mathlib.Omega.{arith}
use lib.IntN.{ℤ}
use lib.Dec.{leb}
use lib.ListN.{length, length-drop, drop}
use borrow.Author.Tests.{le-leb, lt-leb}
use Rattle.meaning.specs.Limits.{budget_limit, area_length}
use Rattle.meaning.specs.Number.{little_endian}
use Rattle.meaning.specs.Record.{Record}
use Rattle.meaning.specs.Reader.{Result, ok, refused, require, and_then, read}
use Rattle.meaning.specs.Tree.{tree}
use Rattle.meaning.specs.Visits.{visits}
use Rattle.meaning.specs.Report.{first_over_ceiling}
use Rattle.meaning.specs.Answer.{Figures, figures, sheet_reports, check_ceilings, accepted, accepted_by, figures_of, check_visits, answer, answer_by, answer_with}
use Rattle.meaning.specs.CCall.{area_bytes, store_answer, c_call, figures_in}
use Rattle.meaning.proofs.Logic.{refused-is-not-ok, and_then-ok, ok-injective, refused-number}
use Rattle.meaning.proofs.Refusals.{read-refused}
use Rattle.meaning.proofs.Number.{unsigned-little_endian}
use Rattle.meaning.proofs.Vocabulary.{called}

-- ---- the sheet

check_ceilings-ok : {A : Type 0} (o : Option ℕ) (a b : A) → check_ceilings o a ≡ ok b → (o ≡ none) × (a ≡ b)
unfolding check_ceilings
check_ceilings-ok none a b e = (refl, ok-injective e)
check_ceilings-ok (some offset) a b e = refused-is-not-ok e

module _ (sheet : List ℕ) (ps : List ℤ) where
  accepted-by : {r : Result (List Record)} → read sheet ≡ r → accepted sheet ps ≡ and_then r λ rs. check_ceilings (first_over_ceiling (sheet_reports ps rs)) rs
  unfolding accepted_by
  accepted-by e = ap (λ r. and_then r λ rs. check_ceilings (first_over_ceiling (sheet_reports ps rs)) rs) e

  pub accepted-unread : (number place : ℕ) → read sheet ≡ refused number place → accepted sheet ps ≡ refused number place
  unfolding and_then
  accepted-unread number place e = accepted-by e

  pub accepted-over : (rs : List Record) (offset : ℕ) → read sheet ≡ ok rs → first_over_ceiling (sheet_reports ps rs) ≡ some offset →
      accepted sheet ps ≡ refused 6 offset
  unfolding and_then check_ceilings
  accepted-over rs offset e f = accepted-by e ∙ ap (λ o. check_ceilings o rs) f

  pub accepted-within : (rs : List Record) → read sheet ≡ ok rs → first_over_ceiling (sheet_reports ps rs) ≡ none → accepted sheet ps ≡ ok rs
  unfolding and_then check_ceilings
  accepted-within rs e f = accepted-by e ∙ ap (λ o. check_ceilings o rs) f

  pub accepted-ok : (rs : List Record) → (accepted sheet ps ≡ ok rs) ↔ ((read sheet ≡ ok rs) × (first_over_ceiling (sheet_reports ps rs) ≡ none))
  unfolding accepted_by
  accepted-ok rs =
      (λ e. by_reading (and_then-ok (read sheet) (λ rs. check_ceilings (first_over_ceiling (sheet_reports ps rs)) rs) rs e), λ h. accepted-within rs h.0 h.1)
    where
      by_reading : ((rs' : List Record) × (read sheet ≡ ok rs') × (check_ceilings (first_over_ceiling (sheet_reports ps rs')) rs' ≡ ok rs)) →
          (read sheet ≡ ok rs) × (first_over_ceiling (sheet_reports ps rs) ≡ none)
      by_reading (rs', e, f) =
          let g = check_ceilings-ok (first_over_ceiling (sheet_reports ps rs')) rs' rs f in
          (e ∙ ap {B = Result (List Record)} ok g.1, subst (λ x. first_over_ceiling (sheet_reports ps x) ≡ none) g.1 g.0)

-- the answer depends on the sheet only by what the reader says of it
pub answer-of-reading : (reader other : List ℕ → Result (List Record)) (sheet sheet' : List ℕ) (ps : List ℤ) (budget : ℕ) → reader sheet ≡ other sheet' →
    answer_by reader sheet ps budget ≡ answer_by other sheet' ps budget
unfolding answer_with accepted_by
answer-of-reading reader other sheet sheet' ps budget e =
    ap (λ (r : Result (List Record)). require (leb 1 budget && leb budget budget_limit) 7 0
    (and_then (and_then r λ rs. check_ceilings (first_over_ceiling (sheet_reports ps rs)) rs) λ rs. check_visits budget (figures_of ps (tree rs)))) e

-- and is its refusal
pub answer-unread : (reader : List ℕ → Result (List Record)) (sheet : List ℕ) (ps : List ℤ) (budget number place : ℕ) →
    (leb 1 budget && leb budget budget_limit) ≡ true → reader sheet ≡ refused number place → answer_by reader sheet ps budget ≡ refused number place
unfolding answer_with accepted_by require and_then
answer-unread reader sheet ps budget number place b e =
    λ t. require (b t) 7 0 (and_then (and_then (e t) λ rs. check_ceilings (first_over_ceiling (sheet_reports ps rs)) rs) λ rs. check_visits budget (figures_of ps (tree rs)))

-- ---- the budget

pub record BudgetInRange (budget : ℕ) : Type 0 where
  pub positive : 1 ≤ budget
  pub within : budget ≤ budget_limit

abbrev pub BudgetOutOfRange : ℕ → Type 0
BudgetOutOfRange budget = (budget ≡ 0) ⊎ (budget_limit < budget)

pub budget-decided : (budget : ℕ) → BudgetOutOfRange budget ⊎ BudgetInRange budget
budget-decided budget =
    elim (dec_le 1 budget) [
      | yes p ↦ elim (dec_le budget budget_limit) [ yes q ↦ inr (record { positive = p; within = q }) | no q ↦ inl (inr (omega arith)) ]
      | no p ↦ inl (inl (omega arith))
    ]

pub in-range-passes : (budget : ℕ) → BudgetInRange budget → (leb 1 budget && leb budget budget_limit) ≡ true
in-range-passes budget b = λ t. le-leb 1 budget b.positive t && le-leb budget budget_limit b.within t

pub out-of-range-fails : (budget : ℕ) → BudgetOutOfRange budget → (leb 1 budget && leb budget budget_limit) ≡ false
out-of-range-fails budget (inl e) = ap (λ x. leb 1 x && leb x budget_limit) e
out-of-range-fails budget (inr h) = λ t. le-leb 1 budget (omega arith) t && lt-leb budget budget_limit h t

-- ---- the five outcomes

module _ (sheet : List ℕ) (ps : List ℤ) (budget : ℕ) where
  -- what the library call does, and when, in document 01's order: 7, 1 to 5, 6, 8, figures
  pub data Outcome : Type 0 where
    budget_refused : BudgetOutOfRange budget → answer sheet ps budget ≡ refused 7 0 → Outcome
    read_refused : (number place : ℕ) → BudgetInRange budget → read sheet ≡ refused number place → answer sheet ps budget ≡ refused number place → Outcome
    ceiling_refused : (rs : List Record) (offset : ℕ) → BudgetInRange budget → read sheet ≡ ok rs → first_over_ceiling (sheet_reports ps rs) ≡ some offset →
        answer sheet ps budget ≡ refused 6 offset → Outcome
    visits_refused : (rs : List Record) → BudgetInRange budget → read sheet ≡ ok rs → first_over_ceiling (sheet_reports ps rs) ≡ none →
        budget < visits ps (tree rs) [] [] → answer sheet ps budget ≡ refused 8 0 → Outcome
    answered : (rs : List Record) → BudgetInRange budget → read sheet ≡ ok rs → first_over_ceiling (sheet_reports ps rs) ≡ none →
        visits ps (tree rs) [] [] ≤ budget → answer sheet ps budget ≡ ok (figures_of ps (tree rs)) → Outcome

  answer-by : {c : Bool} {r : Result (List Record)} → (leb 1 budget && leb budget budget_limit) ≡ c → accepted sheet ps ≡ r →
      answer sheet ps budget ≡ require c 7 0 (and_then r λ rs. check_visits budget (figures_of ps (tree rs)))
  unfolding answer_with
  answer-by e f = λ t. require (e t) 7 0 (and_then (f t) λ rs. check_visits budget (figures_of ps (tree rs)))

  pub answer-out-of-range : BudgetOutOfRange budget → answer sheet ps budget ≡ refused 7 0
  unfolding require
  answer-out-of-range b = answer-by (out-of-range-fails budget b) refl

  pub answer-refused : (number place : ℕ) → BudgetInRange budget → accepted sheet ps ≡ refused number place → answer sheet ps budget ≡ refused number place
  unfolding require and_then
  answer-refused number place b e = answer-by (in-range-passes budget b) e

  answer-by-visits : (rs : List Record) {c : Bool} → BudgetInRange budget → accepted sheet ps ≡ ok rs → leb (visits ps (tree rs) [] []) budget ≡ c →
      answer sheet ps budget ≡ require c 8 0 (ok (figures_of ps (tree rs)))
  unfolding require and_then check_visits figures_of
  answer-by-visits rs b e v = answer-by (in-range-passes budget b) e ∙ ap (λ c. require c 8 0 (ok (figures_of ps (tree rs)))) v

  pub answer-spent : (rs : List Record) → BudgetInRange budget → accepted sheet ps ≡ ok rs → budget < visits ps (tree rs) [] [] →
      answer sheet ps budget ≡ refused 8 0
  unfolding require
  answer-spent rs b e h = answer-by-visits rs b e (lt-leb (visits ps (tree rs) [] []) budget h)

  pub answer-figures : (rs : List Record) → BudgetInRange budget → accepted sheet ps ≡ ok rs → visits ps (tree rs) [] [] ≤ budget →
      answer sheet ps budget ≡ ok (figures_of ps (tree rs))
  unfolding require
  answer-figures rs b e h = answer-by-visits rs b e (le-leb (visits ps (tree rs) [] []) budget h)

  pub outcome : Outcome
  outcome = by_budget (budget-decided budget)
    where
      by_visits : (rs : List Record) → BudgetInRange budget → read sheet ≡ ok rs → first_over_ceiling (sheet_reports ps rs) ≡ none →
          Dec (visits ps (tree rs) [] [] ≤ budget) → Outcome
      by_visits rs b e f (yes h) = answered rs b e f h (answer-figures rs b (accepted-within sheet ps rs e f) h)
      by_visits rs b e f (no h) =
          let h' : budget < visits ps (tree rs) [] [] = omega arith in
          visits_refused rs b e f h' (answer-spent rs b (accepted-within sheet ps rs e f) h')

      by_ceilings : (rs : List Record) → BudgetInRange budget → read sheet ≡ ok rs →
          (o : Option ℕ) → first_over_ceiling (sheet_reports ps rs) ≡ o → Outcome
      by_ceilings rs b e none f = by_visits rs b e f (dec_le (visits ps (tree rs) [] []) budget)
      by_ceilings rs b e (some offset) f =
          ceiling_refused rs offset b e f (answer-refused 6 offset b (accepted-over sheet ps rs offset e f))

      by_reading : BudgetInRange budget → (r : Result (List Record)) → read sheet ≡ r → Outcome
      by_reading b (ok rs) e = by_ceilings rs b e (first_over_ceiling (sheet_reports ps rs)) refl
      by_reading b (refused number place) e =
          read_refused number place b e (answer-refused number place b (accepted-unread sheet ps number place e))

      by_budget : BudgetOutOfRange budget ⊎ BudgetInRange budget → Outcome
      by_budget (inl b) = budget_refused b (answer-out-of-range b)
      by_budget (inr b) = by_reading b (read sheet) refl

-- ---- what follows from an answer

-- the answer's figures are those of an accepted sheet, at a budget that suffices
pub record FiguresGiven (sheet : List ℕ) (ps : List ℤ) (budget : ℕ) (f : Figures) : Type 0 where
  pub rs : List Record
  pub read_as : read sheet ≡ ok rs
  pub ceilings_within : first_over_ceiling (sheet_reports ps rs) ≡ none
  pub figures_are : f ≡ figures_of ps (tree rs)
  pub visits_within : f.visits ≤ budget
  pub budget_in_range : BudgetInRange budget

module _ (sheet : List ℕ) (ps : List ℤ) (budget : ℕ) where
  answered-by : (f : Figures) → answer sheet ps budget ≡ ok f → Outcome sheet ps budget → FiguresGiven sheet ps budget f
  unfolding figures_of
  answered-by f a (budget_refused b e) = refused-is-not-ok (sym e ∙ a)
  answered-by f a (read_refused number place b r e) = refused-is-not-ok (sym e ∙ a)
  answered-by f a (ceiling_refused rs offset b r c e) = refused-is-not-ok (sym e ∙ a)
  answered-by f a (visits_refused rs b r c h e) = refused-is-not-ok (sym e ∙ a)
  answered-by f a (answered rs b r c h e) =
      let same : figures_of ps (tree rs) ≡ f = ok-injective (sym e ∙ a) in
      record {
        rs = rs;
        read_as = r;
        ceilings_within = c;
        figures_are = sym same;
        visits_within = subst (λ (x : Figures). x.visits ≤ budget) same h;
        budget_in_range = b;
      }

  answers : (f : Figures) → FiguresGiven sheet ps budget f → answer sheet ps budget ≡ ok f
  unfolding figures_of
  answers f a =
      answer-figures sheet ps budget a.rs a.budget_in_range (accepted-within sheet ps a.rs a.read_as a.ceilings_within)
      (subst (λ (x : Figures). x.visits ≤ budget) a.figures_are a.visits_within)
      ∙ ap {B = Result Figures} ok (sym a.figures_are)

  -- figures are answered exactly where the sheet is accepted and the budget is in range and suffices
  pub answer_ok : (f : Figures) → (answer sheet ps budget ≡ ok f) ↔ FiguresGiven sheet ps budget f
  answer_ok f = (λ a. answered-by f a (outcome sheet ps budget), answers f)

  -- the library call has no 9
  pub answer-refusal-number : (number place : ℕ) → answer sheet ps budget ≡ refused number place → (1 ≤ number) × (number ≤ 8)
  answer-refusal-number number place a = go (outcome sheet ps budget)
    where
      go : Outcome sheet ps budget → (1 ≤ number) × (number ≤ 8)
      go (budget_refused b e) = let same = refused-number (sym e ∙ a) in omega arith
      go (read_refused n p b r e) = let same = refused-number (sym e ∙ a) in let h = read-refused sheet n p r in omega arith
      go (ceiling_refused rs offset b r c e) = let same = refused-number (sym e ∙ a) in omega arith
      go (visits_refused rs b r c h e) = let same = refused-number (sym e ∙ a) in omega arith
      go (answered rs b r c h e) = refused-is-not-ok (sym a ∙ e)

  -- 7 exactly where the budget is 0 or above the limit
  pub answer-refused-7 : (answer sheet ps budget ≡ refused 7 0) ↔ BudgetOutOfRange budget
  answer-refused-7 = (λ a. go a (outcome sheet ps budget), answer-out-of-range sheet ps budget)
    where
      other : {number place : ℕ} → answer sheet ps budget ≡ refused 7 0 → answer sheet ps budget ≡ refused number place → number ≡ 7
      other a e = refused-number (sym e ∙ a)

      go : answer sheet ps budget ≡ refused 7 0 → Outcome sheet ps budget → BudgetOutOfRange budget
      go a (budget_refused b e) = b
      go a (read_refused n p b r e) = absurd (let same = other a e in let h = read-refused sheet n p r in omega arith)
      go a (ceiling_refused rs offset b r c e) = absurd (let same = other a e in omega arith)
      go a (visits_refused rs b r c h e) = absurd (let same = other a e in omega arith)
      go a (answered rs b r c h e) = refused-is-not-ok (sym a ∙ e)

  -- 8 exactly where there are more visits than the budget
  pub answer-refused-8 : (rs : List Record) → accepted sheet ps ≡ ok rs → BudgetInRange budget →
      (answer sheet ps budget ≡ refused 8 0) ↔ (budget < visits ps (tree rs) [] [])
  answer-refused-8 rs e b = (λ a. go a (dec_le (visits ps (tree rs) [] []) budget), answer-spent sheet ps budget rs b e)
    where
      go : answer sheet ps budget ≡ refused 8 0 → Dec (visits ps (tree rs) [] [] ≤ budget) → budget < visits ps (tree rs) [] []
      go a (yes h) = refused-is-not-ok (sym a ∙ answer-figures sheet ps budget rs b e h)
      go a (no h) = omega arith

-- ---- the C call

-- figures of 64 bits are read back, whatever follows them
pub figures-in-area : (f : Figures) (rest : List ℕ) → f.least < 2 ^ 64 → f.most < 2 ^ 64 → f.visits < 2 ^ 64 → figures_in (area_bytes f ++ rest) ≡ f
unfolding figures_in area_bytes little_endian
figures-in-area f rest p q r =
    λ t. figures (unsigned-little_endian 8 f.least p t) (unsigned-little_endian 8 f.most q t) (unsigned-little_endian 8 f.visits r t)

module _ (sheet : List ℕ) (ps : List ℤ) (budget : ℕ) (area : List ℕ) where
  -- what the C call does, and when: 9, then what the library call answers
  pub data CallOutcome : Type 0 where
    area_refused : length area < area_length → c_call sheet ps budget area ≡ called 9 area → CallOutcome
    answer_refused : (number place : ℕ) → area_length ≤ length area → answer sheet ps budget ≡ refused number place →
        c_call sheet ps budget area ≡ called number area → CallOutcome
    stored : (f : Figures) → area_length ≤ length area → answer sheet ps budget ≡ ok f →
        c_call sheet ps budget area ≡ called 0 (area_bytes f ++ drop area_length area) → CallOutcome

  pub call_outcome : CallOutcome
  unfolding c_call require store_answer
  call_outcome = by_area (dec_le area_length (length area))
    where
      same : {c : Bool} {r : Result Figures} → leb area_length (length area) ≡ c → answer sheet ps budget ≡ r →
          c_call sheet ps budget area ≡ store_answer area (require c 9 0 r)
      same e f = λ t. store_answer area (require (e t) 9 0 (f t))

      by_answer : area_length ≤ length area → (r : Result Figures) → answer sheet ps budget ≡ r → CallOutcome
      by_answer h (ok f) e = stored f h e (same (le-leb area_length (length area) h) e)
      by_answer h (refused number place) e = answer_refused number place h e (same (le-leb area_length (length area) h) e)

      by_area : Dec (area_length ≤ length area) → CallOutcome
      by_area (yes h) = by_answer h (answer sheet ps budget) refl
      by_area (no h) = let h' : length area < area_length = omega arith in area_refused h' (same (lt-leb area_length (length area) h') refl)

  -- the number returned is 0 to 9
  pub call-number-range : (c_call sheet ps budget area).number ≤ 9
  call-number-range = go call_outcome
    where
      go : CallOutcome → (c_call sheet ps budget area).number ≤ 9
      go (area_refused h e) = let n = ap (λ c. c.number) e in omega arith
      go (answer_refused number place h a e) =
          let n = ap (λ c. c.number) e in let i = answer-refusal-number sheet ps budget number place a in omega arith
      go (stored f h a e) = let n = ap (λ c. c.number) e in omega arith

  -- it is 0 exactly where the answer is figures and the area is long enough
  pub call-number-zero : ((c_call sheet ps budget area).number ≡ 0) ↔ ((area_length ≤ length area) × (f : Figures) × (answer sheet ps budget ≡ ok f))
  call-number-zero = (λ z. go z call_outcome, λ h. back h.0 h.1 h.2 call_outcome)
    where
      go : (c_call sheet ps budget area).number ≡ 0 → CallOutcome → (area_length ≤ length area) × (f : Figures) × (answer sheet ps budget ≡ ok f)
      go z (area_refused h e) = absurd (let n = ap (λ c. c.number) e in omega arith)
      go z (answer_refused number place h a e) =
          absurd (let n = ap (λ c. c.number) e in let i = answer-refusal-number sheet ps budget number place a in omega arith)
      go z (stored f h a e) = (h, f, a)

      back : area_length ≤ length area → (f : Figures) → answer sheet ps budget ≡ ok f → CallOutcome → (c_call sheet ps budget area).number ≡ 0
      back h f a (area_refused h' e) = absurd (omega arith)
      back h f a (answer_refused number place h' a' e) = refused-is-not-ok (sym a' ∙ a)
      back h f a (stored f' h' a' e) = ap (λ c. c.number) e

  -- a refusal writes nothing
  pub call-refusal-area : ¬ ((c_call sheet ps budget area).number ≡ 0) → (c_call sheet ps budget area).area ≡ area
  call-refusal-area z = go call_outcome
    where
      go : CallOutcome → (c_call sheet ps budget area).area ≡ area
      go (area_refused h e) = ap (λ c. c.area) e
      go (answer_refused number place h a e) = ap (λ c. c.area) e
      go (stored f h a e) = absurd (z (ap (λ c. c.number) e))

  -- bytes past area_length never change
  pub call-area-tail : drop area_length (c_call sheet ps budget area).area ≡ drop area_length area
  unfolding area_bytes little_endian
  call-area-tail = go call_outcome
    where
      go : CallOutcome → drop area_length (c_call sheet ps budget area).area ≡ drop area_length area
      go (area_refused h e) = ap (λ c. drop area_length c.area) e
      go (answer_refused number place h a e) = ap (λ c. drop area_length c.area) e
      go (stored f h a e) = ap (λ c. drop area_length c.area) e

  pub call-area-length : length (c_call sheet ps budget area).area ≡ length area
  unfolding area_bytes little_endian
  call-area-length = go call_outcome
    where
      go : CallOutcome → length (c_call sheet ps budget area).area ≡ length area
      go (area_refused h e) = ap (λ c. length c.area) e
      go (answer_refused number place h a e) = ap (λ c. length c.area) e
      go (stored f h a e) = let n = ap (λ c. length c.area) e in omega (arith, length-drop area_length area)

  -- the figures are read back from the area
  pub call-figures : (f : Figures) → (c_call sheet ps budget area).number ≡ 0 → answer sheet ps budget ≡ ok f → f.least < 2 ^ 64 → f.most < 2 ^ 64 →
      f.visits < 2 ^ 64 →
      figures_in (c_call sheet ps budget area).area ≡ f
  call-figures f z a p q r = go call_outcome
    where
      go : CallOutcome → figures_in (c_call sheet ps budget area).area ≡ f
      go (area_refused h e) = absurd (let n = ap (λ c. c.number) e in omega arith)
      go (answer_refused number place h a' e) = refused-is-not-ok (sym a' ∙ a)
      go (stored f' h a' e) =
          ap (λ c. figures_in c.area) e ∙ ap (λ x. figures_in (area_bytes x ++ drop area_length area)) (ok-injective (sym a' ∙ a))
          ∙ figures-in-area f (drop area_length area) p q r
