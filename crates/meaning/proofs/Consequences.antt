-- What the parts of demand 3, and of what holds of a sheet's stages, come to; drawn from these parts alone, so that a weaker part breaks a theorem.
use mathlib.Core.Path.{◌≡◌, sym, ap, ◌∙◌}
use mathlib.Core.List.{List, [], ◌∷◌}
use mathlib.Core.Logic.{◌⊎◌, inl, inr}
use Prim.Native.Nat.{ℕ, zero, suc, ◌+◌, ◌*◌, min, ◌≤◌, ◌<◌}
use native.Mathlib.Nat.{zero-add, suc-add}
use native.Mathlib.Decide.{dec_le}
use native.Mathlib.Omega.{arith}
use lib.IntN.{ℤ}
use lib.Dec.{T}
use lib.ListN.{length}
use Rattle.meaning.specs.Limits.{figure_limit, visits_per_loop}
use Rattle.meaning.specs.Record.{Record}
use Rattle.meaning.specs.Reader.{Result, ok, refused, read}
use Rattle.meaning.specs.Tree.{tree, loops}
use Rattle.meaning.specs.Time.{bounds}
use Rattle.meaning.specs.Run.{Run}
use Rattle.meaning.specs.Visits.{visits}
use Rattle.meaning.specs.Report.{LoopReport, all_closed}
use Rattle.meaning.specs.Stage.{State, state, first_state, begins_visit, at_end, visit_begun, stage, stages, visits_begun}
use Rattle.meaning.specs.Answer.{Figures, figures, sheet_reports, accepted, figures_of, answer}
use Rattle.meaning.specs.Demand.{Staging, StagesReach, Demand3}
use Rattle.meaning.proofs.Answers.{BudgetInRange, answer-figures, answer-spent}
use Rattle.meaning.proofs.Demands.{demand3}

-- ---- the smallest and the largest number of which something holds

pub record Smallest (P : ℕ → Type 0) (n : ℕ) : Type 0 where
  pub holds : P n
  pub below : (m : ℕ) → P m → n ≤ m

pub record Largest (P : ℕ → Type 0) (n : ℕ) : Type 0 where
  pub holds : P n
  pub above : (m : ℕ) → P m → m ≤ n

-- there is only one of each
smallest-unique : {P : ℕ → Type 0} {m n : ℕ} → Smallest P m → Smallest P n → m ≡ n
smallest-unique {P} {m} {n} a b = omega (arith, a.below n b.holds, b.below m a.holds)

largest-unique : {P : ℕ → Type 0} {m n : ℕ} → Largest P m → Largest P n → m ≡ n
largest-unique {P} {m} {n} a b = omega (arith, a.above n b.holds, b.above m a.holds)

-- ---- demand 3

module _ {ps : List ℤ} {rs : List Record} {s : Staging} {f : Figures} (d : Demand3 ps rs s f) where
  -- the figures are the smallest and the largest cycles of all runs
  pub least-smallest : Smallest (Run ps (tree rs) []) f.least
  least-smallest = record { holds = d.fastest; below = d.never_below }

  pub most-largest : Largest (Run ps (tree rs) []) f.most
  most-largest = record { holds = d.slowest; above = d.never_above }

  pub least-at-most-most : f.least ≤ f.most
  least-at-most-most = d.never_below f.most d.slowest

  -- no larger least and no smaller most would do
  pub no-larger-least : (n : ℕ) → ((cycles : ℕ) → Run ps (tree rs) [] cycles → n ≤ cycles) → n ≤ f.least
  no-larger-least n h = h f.least d.fastest

  pub no-smaller-most : (n : ℕ) → ((cycles : ℕ) → Run ps (tree rs) [] cycles → cycles ≤ n) → f.most ≤ n
  no-smaller-most n h = h f.most d.slowest

  -- every run, and so each of the figures, is below the limit
  pub runs-small : (cycles : ℕ) → Run ps (tree rs) [] cycles → cycles < figure_limit
  runs-small cycles run = omega (arith, d.never_above cycles run, d.small)

  pub both_small : (f.least < figure_limit) × (f.most < figure_limit)
  both_small = (runs-small f.least d.fastest, runs-small f.most d.slowest)

  -- the figures are those that document 01 defines
  pub figures-defined : f ≡ figures_of ps (tree rs)
  unfolding figures_of
  figures-defined = let timed = sym d.trip_by_trip in λ i. figures (timed i).least (timed i).most (d.defined i)

  -- so they are what the library call answers for every sheet with these records, where the budget suffices; otherwise it refuses 8
  pub figures-answered : (sheet : List ℕ) (budget : ℕ) → accepted sheet ps ≡ ok rs → BudgetInRange budget → f.visits ≤ budget →
      answer sheet ps budget ≡ ok f
  figures-answered sheet budget e b enough =
      answer-figures sheet ps budget rs b e (omega (arith, d.defined)) ∙ ap {B = Result Figures} ok (sym figures-defined)

  pub figures-refused : (sheet : List ℕ) (budget : ℕ) → accepted sheet ps ≡ ok rs → BudgetInRange budget → budget < f.visits →
      answer sheet ps budget ≡ refused 8 0
  figures-refused sheet budget e b spent = answer-spent sheet ps budget rs b e (omega (arith, d.defined))

  -- every state of the stages that stands at the sheet's end is the one after one stage more than the visits
  pub end-state : (n : ℕ) → s.AtEnd (s.after n) → s.after n ≡ s.after (suc f.visits)
  end-state n e = d.only_end n e ∙ sym d.final

  -- and that stage is the first to come there, save on an empty sheet, which the first state has passed
  pub first-at-end : ¬ (rs ≡ []) → Smallest (λ n. s.AtEnd (s.after n)) (suc f.visits)
  first-at-end some-record = record {
    holds = d.reached;
    below = λ n e. elim (dec_le n f.visits) [ yes h ↦ absurd (some-record (d.none_before n h e).1) | no h ↦ omega arith ];
  }

  pub only-first-before : (n : ℕ) → n ≤ f.visits → s.AtEnd (s.after n) → n ≡ 0
  only-first-before n h e = (d.none_before n h e).0

  -- the stages that began a visit on the way to the sheet's end, and the visits that the state there holds, are the visits of the definition
  pub end-begun : (n : ℕ) → s.AtEnd (s.after n) → s.begun n ≡ visits ps (tree rs) [] []
  end-begun n e = sym (d.counted n) ∙ ap s.visits (end-state n e) ∙ d.counted (suc f.visits) ∙ sym d.begun ∙ d.defined

  pub end-visits : (n : ℕ) → s.AtEnd (s.after n) → s.visits (s.after n) ≡ visits ps (tree rs) [] []
  end-visits n e = d.counted n ∙ end-begun n e

  -- the state there with the figures holds their visits
  pub ended-visits : s.visits (s.ended f) ≡ f.visits
  ended-visits = ap s.visits (sym d.final) ∙ d.counted (suc f.visits) ∙ sym d.begun

  -- where every loop is reported closed, at most visits_per_loop of the stages for each report began a visit
  pub begun-few : T (all_closed (sheet_reports ps rs)) → s.begun (suc f.visits) ≤ visits_per_loop * length (sheet_reports ps rs)
  begun-few closed = rw d.reported (omega (arith, d.few closed, d.begun))

  -- a sheet without a loop has no reports, and takes no visit
  pub without-loops : loops (tree rs) ≡ 0 → (length (sheet_reports ps rs) ≡ 0) × (f.visits ≡ 0)
  without-loops none = (d.reported ∙ none, go (sheet_reports ps rs) (d.reported ∙ none) d.few)
    where
      go : (reports : List LoopReport) → length reports ≡ 0 → (T (all_closed reports) → f.visits ≤ visits_per_loop * loops (tree rs)) → f.visits ≡ 0
      go [] e few = unfold all_closed in omega (arith, few tt, none)
      go (r ∷ reports) e few = absurd (omega arith)

-- two answers that meet the demand, whatever their stages, are one
pub figures-decided : {ps : List ℤ} {rs : List Record} {s t : Staging} {f g : Figures} → Demand3 ps rs s f → Demand3 ps rs t g → f ≡ g
figures-decided d e =
    let least = smallest-unique (least-smallest d) (least-smallest e) in
    let most = largest-unique (most-largest d) (most-largest e) in
    let same = d.defined ∙ sym e.defined in
    λ i. figures (least i) (most i) (same i)

-- an answer in the words of the definition: the state after one stage more than the visits, and the stages that began one
pub answer-by-stages : (sheet : List ℕ) (ps : List ℤ) (budget : ℕ) (f : Figures) → answer sheet ps budget ≡ ok f →
    (rs : List Record) × (read sheet ≡ ok rs) × (stages ps (suc f.visits) (first_state rs) ≡ state [] (bounds f.least f.most) [] f.visits)
    × (visits_begun ps (suc f.visits) (first_state rs) ≡ f.visits)
answer-by-stages sheet ps budget f e =
    let d = demand3 ps sheet budget f e in
    (d.0, d.1, d.2.final, sym d.2.begun)

-- ---- the stages of a sheet that the reader accepts

module _ (ps : List ℤ) (rs : List Record) where
  abbrev after : ℕ → State
  after n = stages ps n (first_state rs)

  abbrev defined : ℕ
  defined = visits ps (tree rs) [] []

module _ {ps : List ℤ} {rs : List Record} (reach : StagesReach ps rs) where
  -- every stage begins a visit or comes to the sheet's end: none gets stuck
  pub each-stage : (n : ℕ) → (stage ps (after ps rs n) ≡ begins_visit (after ps rs (suc n))) ⊎ (stage ps (after ps rs n) ≡ at_end (after ps rs (suc n)))
  each-stage n =
      elim (dec_le (defined ps rs) n) [
        | yes h ↦ inr (reach.ends n h ∙ ap at_end (sym (reach.reached (suc n) (omega arith))))
        | no h ↦ inl (reach.begins n (omega arith))
      ]

  -- of the first n stages, min(n, visits of the definition) began a visit
  begun-exactly : (n : ℕ) → visits_begun ps n (first_state rs) ≡ min n (defined ps rs)
  unfolding visits_begun visit_begun
  begun-exactly zero = omega arith
  begun-exactly (suc n) =
      elim (dec_le (defined ps rs) n) [
        | yes h ↦ omega (arith, begun-exactly n, ap visit_begun (reach.ends n h))
        | no h ↦ omega (arith, begun-exactly n, ap visit_begun (reach.begins n (omega arith)))
      ]

  -- and so many visits the state then holds
  pub visits-exactly : (n : ℕ) → (after ps rs n).visits ≡ min n (defined ps rs)
  visits-exactly n = reach.counted n ∙ begun-exactly n

  -- the visits of the states never fall, and end at those of the definition
  pub visits-rise : (n more : ℕ) → (after ps rs n).visits ≤ (after ps rs (more + n)).visits
  visits-rise n zero = rw (zero-add n) (omega arith)
  visits-rise n (suc more) = rw (suc-add more n) (omega (arith, visits-rise n more, reach.rising (more + n)))

  -- a budget that the visits of some state pass is below the visits of the definition
  pub passed-is-spent : (budget n : ℕ) → budget < (after ps rs n).visits → budget < defined ps rs
  passed-is-spent budget n h = omega (arith, reach.bounded n)

  -- a sheet's end, once reached, is left no more, and every state that stands there is the same
  pub end_stays : (n : ℕ) → defined ps rs < n → after ps rs (suc n) ≡ after ps rs n
  end_stays n h = reach.reached (suc n) (omega arith) ∙ sym (reach.reached n h)

  pub same_end : (n : ℕ) → (after ps rs n).remaining ≡ [] → after ps rs n ≡ after ps rs (suc (defined ps rs))
  same_end n e = reach.only_end n e ∙ sym (reach.reached (suc (defined ps rs)) (omega arith))

  -- one stage more than the visits is the first to come there, save on an empty sheet
  pub first-to-end : ¬ (rs ≡ []) → Smallest (λ n. (after ps rs n).remaining ≡ []) (suc (defined ps rs))
  first-to-end some-record = record {
    holds = ap (λ (t : State). t.remaining) (reach.reached (suc (defined ps rs)) (omega arith));
    below = λ n e. elim (dec_le n (defined ps rs)) [ yes h ↦ absurd (some-record (reach.none_before n h e).1) | no h ↦ omega arith ];
  }
