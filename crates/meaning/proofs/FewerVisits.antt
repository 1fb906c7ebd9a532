-- Ranking only lets visits fall: no entry has more than where every loop that is not closed is walked, and an answer changes in nothing else (C-18).
use mathlib.Core.Path.{◌≡◌, refl, sym, ap, subst}
use mathlib.Core.List.{List, []}
use mathlib.Core.Bool.{Bool, true, false, ◌&&◌, ◌||◌, cond}
use mathlib.Core.Logic.{inl, inr}
use Prim.Native.Nat.{ℕ, zero, suc, min, ◌≤◌}
use native.Mathlib.Decide.{dec_le}
use native.Mathlib.Omega.{arith}
use lib.IntN.{ℤ}
use lib.Dec.{leb}
use borrow.Author.Tests.{le-leb, lt-leb}
use Rattle.meaning.specs.Limits.{budget_limit}
use Rattle.meaning.specs.Record.{Loop, Record}
use Rattle.meaning.specs.Reader.{Result, ok, refused, require, or_refuse, and_then}
use Rattle.meaning.specs.Tree.{Block, Arms, empty, work, loop, choice, last_arm, arm, tree, height}
use Rattle.meaning.specs.Time.{trips, inner_indexes}
use Rattle.meaning.specs.Range.{Range, inner_ranges}
use Rattle.meaning.specs.Closed.{closed, ranked}
use Rattle.meaning.specs.Settled.{settled, summed}
use Rattle.meaning.specs.Visits.{count_over, visits_by, arms_visits_by, visited_trips, visits, arms_visits}
use Rattle.meaning.specs.Answer.{Figures, figures, accepted, figures_of, check_visits, answer, answer_with}
use Rattle.meaning.specs.EarlierVisits.{earlier_visited_trips, earlier_visits, earlier_figures, earlier_answer, OnlyVisitsFall}
use Rattle.meaning.proofs.SumsOfBounds.{first-counts-at-most}

-- each amount at most another
counts-at-most : (n : ℕ) (f g : ℕ → ℕ) → ((k : ℕ) → f k ≤ g k) → count_over n f ≤ count_over n g
unfolding count_over
counts-at-most zero f g h = omega arith
counts-at-most (suc n) f g h = omega (arith, counts-at-most n f g h, h n)

module _ (ps : List ℤ) where
  visited-at-most : (l : Loop) (b : Block) (ranges : List Range) (indexes : List ℤ) (n : ℕ) →
      visited_trips ps l b ranges indexes n ≤ earlier_visited_trips ps l b ranges indexes n
  unfolding visited_trips earlier_visited_trips summed
  visited-at-most l b ranges indexes n = go (closed ps l b ranges) (ranked ps l b ranges && settled ps l b indexes n)
    where
      go : (c s : Bool) → cond (c || s) (min n (suc (height b))) n ≤ cond c (min n (suc (height b))) n
      go true s = omega arith
      go false true = omega arith
      go false false = omega arith

  mutual
    unfolding visits_by

    pub visits-fall : (b : Block) (ranges : List Range) (indexes : List ℤ) → visits ps b ranges indexes ≤ earlier_visits ps b ranges indexes
    visits-fall empty ranges indexes = omega arith
    visits-fall (work least most rest) ranges indexes = visits-fall rest ranges indexes
    visits-fall (loop l body rest) ranges indexes =
        let n : ℕ = trips ps l indexes in
        let now : ℕ → ℕ = λ trip. suc (visits ps body (inner_ranges ps l ranges) (inner_indexes ps l indexes trip)) in
        let before : ℕ → ℕ = λ trip. suc (earlier_visits ps body (inner_ranges ps l ranges) (inner_indexes ps l indexes trip)) in
        let each = counts-at-most (visited_trips ps l body ranges indexes n) now before
        (λ trip. (let i = visits-fall body (inner_ranges ps l ranges) (inner_indexes ps l indexes trip) in omega arith)) in
        let trips-fall = first-counts-at-most (visited_trips ps l body ranges indexes n) (earlier_visited_trips ps l body ranges indexes n) before
        (visited-at-most l body ranges indexes n) in
        omega (arith, each, trips-fall, visits-fall rest ranges indexes)
    visits-fall (choice arms rest) ranges indexes = omega (arith, arms-visits-fall arms ranges indexes, visits-fall rest ranges indexes)

    arms-visits-fall : (arms : Arms) (ranges : List Range) (indexes : List ℤ) → arms_visits ps arms ranges indexes ≤ arms_visits_by ps (earlier_visited_trips ps) arms ranges indexes
    arms-visits-fall (last_arm b) ranges indexes = visits-fall b ranges indexes
    arms-visits-fall (arm b arms) ranges indexes = omega (arith, visits-fall b ranges indexes, arms-visits-fall arms ranges indexes)

-- ---- answers

abbrev fallen : Figures → ℕ → Figures
fallen f visits = figures f.least f.most visits

-- against the budget
checked-fall : (budget : ℕ) (f : Figures) (visits : ℕ) → visits ≤ f.visits → OnlyVisitsFall (check_visits budget f) (check_visits budget (fallen f visits))
unfolding check_visits require or_refuse OnlyVisitsFall
checked-fall budget f visits fewer = go (dec_le f.visits budget) (dec_le visits budget)
  where
    within : (g : Figures) → g.visits ≤ budget → check_visits budget g ≡ ok g
    within g h = ap (λ (b : Bool). require b 8 0 (ok g)) (le-leb g.visits budget h)

    passed : (g : Figures) → suc budget ≤ g.visits → check_visits budget g ≡ refused 8 0
    passed g h = ap (λ (b : Bool). require b 8 0 (ok g)) (lt-leb g.visits budget h)

    go : Dec (f.visits ≤ budget) → Dec (visits ≤ budget) → OnlyVisitsFall (check_visits budget f) (check_visits budget (fallen f visits))
    go (yes h) k = subst (λ (r : Result Figures). OnlyVisitsFall r (check_visits budget (fallen f visits))) (sym (within f h)) (visits, fewer, within (fallen f visits) (omega arith))
    go (no h) (yes k) =
        subst (λ (r : Result Figures). OnlyVisitsFall r (check_visits budget (fallen f visits))) (sym (passed f (omega arith))) (inr (refl, fallen f visits, within (fallen f visits) k))
    go (no h) (no k) =
        subst (λ (r : Result Figures). OnlyVisitsFall r (check_visits budget (fallen f visits))) (sym (passed f (omega arith))) (inl (passed (fallen f visits) (omega arith)))

pub answer-falls : (sheet : List ℕ) (ps : List ℤ) (budget : ℕ) → OnlyVisitsFall (earlier_answer sheet ps budget) (answer sheet ps budget)
unfolding earlier_answer answer_with
answer-falls sheet ps budget = go (leb 1 budget && leb budget budget_limit) (accepted sheet ps)
  where
    go : (asked : Bool) (r : Result (List Record)) →
        OnlyVisitsFall (require asked 7 0 (and_then r λ rs. check_visits budget (earlier_figures ps (tree rs)))) (require asked 7 0 (and_then r λ rs. check_visits budget (figures_of ps (tree rs))))
    go false r = unfold require or_refuse OnlyVisitsFall in inl refl
    go true (refused number place) = unfold require or_refuse and_then OnlyVisitsFall in inl refl
    go true (ok rs) = unfold require or_refuse and_then earlier_figures figures_of in
        checked-fall budget (earlier_figures ps (tree rs)) (visits ps (tree rs) [] []) (visits-fall ps (tree rs) [] [])
