-- What the promise that only visits fall comes to, drawn from it alone, and what the earlier visits are: those of today where no loop is ranked,
-- and known ones of ranked loops. A weaker promise, or other earlier visits, break a theorem.
use mathlib.Core.Path.{◌≡◌, refl, sym, ap, ◌∙◌, subst}
use mathlib.Core.List.{List}
use mathlib.Core.Bool.{Bool, true, false, ◌&&◌, ◌||◌, cond}
use mathlib.Core.Logic.{◌⊎◌, inl, inr}
use Prim.Native.Nat.{ℕ, suc, ◌+◌, min, ◌≤◌, ◌<◌}
use native.Mathlib.Omega.{arith}
use lib.IntN.{ℤ}
use Rattle.meaning.specs.Record.{Loop}
use Rattle.meaning.specs.Reader.{Result, ok, refused}
use Rattle.meaning.specs.Tree.{Block, Arms, empty, work, loop, choice, last_arm, arm, height}
use Rattle.meaning.specs.Time.{trips, inner_indexes}
use Rattle.meaning.specs.Range.{Range, inner_ranges}
use Rattle.meaning.specs.Closed.{closed, ranked}
use Rattle.meaning.specs.Settled.{settled, summed}
use Rattle.meaning.specs.Visits.{count_over, visits_by, arms_visits_by, visited_trips, visits, arms_visits}
use Rattle.meaning.specs.Answer.{Figures, figures, answer}
use Rattle.meaning.specs.EarlierVisits.{earlier_visited_trips, earlier_visits, earlier_answer, OnlyVisitsFall}
use Rattle.meaning.proofs.Logic.{ok-injective}
use Rattle.meaning.proofs.Vocabulary.{hex, zero_parameters}
use Rattle.meaning.proofs.Computes.{computes}

-- ---- what is promised

module _ {before now : Result Figures} (falls : OnlyVisitsFall before now) where
  -- figures that were answered are answered
  pub still-answered : (f : Figures) → before ≡ ok f → (g : Figures) × (now ≡ ok g)
  unfolding OnlyVisitsFall
  still-answered f e =
      let promised = subst (λ (r : Result Figures). OnlyVisitsFall r now) e falls in
      (figures f.least f.most promised.0, promised.2)

  -- with the same least and most
  pub only-fewer-visits : (f g : Figures) → before ≡ ok f → now ≡ ok g → (g.least ≡ f.least) × (g.most ≡ f.most) × (g.visits ≤ f.visits)
  unfolding OnlyVisitsFall
  only-fewer-visits f g e a =
      let promised = subst (λ (r : Result Figures). OnlyVisitsFall r now) e falls in
      let same : g ≡ figures f.least f.most promised.0 = ok-injective (sym a ∙ promised.2) in
      (ap (λ (h : Figures). h.least) same, ap (λ (h : Figures). h.most) same, subst (λ (n : ℕ). n ≤ f.visits) (sym (ap (λ (h : Figures). h.visits) same)) promised.1)

  -- a refusal other than 8 stays
  pub still-refused : (number place : ℕ) → before ≡ refused number place → number < 8 → now ≡ refused number place
  unfolding OnlyVisitsFall
  still-refused number place e less = go (subst (λ (r : Result Figures). OnlyVisitsFall r now) e falls)
    where
      go : (now ≡ refused number place) ⊎ ((number ≡ 8) × (f : Figures) × (now ≡ ok f)) → now ≡ refused number place
      go (inl same) = same
      go (inr (eight, f, answered)) = absurd (omega (arith, eight, less))

-- ---- the earlier visits

module _ (ps : List ℤ) where
  unfoldable mutual
    pub NoneRanked : Block → List Range → Type 0
    NoneRanked empty ranges = Unit {0}
    NoneRanked (work least most rest) ranges = NoneRanked rest ranges
    NoneRanked (loop l body rest) ranges = (ranked ps l body ranges ≡ false) × NoneRanked body (inner_ranges ps l ranges) × NoneRanked rest ranges
    NoneRanked (choice arms rest) ranges = NoArmRanked arms ranges × NoneRanked rest ranges

    pub NoArmRanked : Arms → List Range → Type 0
    NoArmRanked (last_arm b) ranges = NoneRanked b ranges
    NoArmRanked (arm b arms) ranges = NoneRanked b ranges × NoArmRanked arms ranges

  visited-as-before : (l : Loop) (b : Block) (ranges : List Range) (indexes : List ℤ) (n : ℕ) → ranked ps l b ranges ≡ false →
      visited_trips ps l b ranges indexes n ≡ earlier_visited_trips ps l b ranges indexes n
  unfolding visited_trips earlier_visited_trips summed
  visited-as-before l b ranges indexes n none =
      ap (λ (r : Bool). cond (closed ps l b ranges || (r && settled ps l b indexes n)) (min n (suc (height b))) n) none ∙ go (closed ps l b ranges)
    where
      go : (c : Bool) → cond (c || (false && settled ps l b indexes n)) (min n (suc (height b))) n ≡ cond c (min n (suc (height b))) n
      go true = refl
      go false = refl

  mutual
    unfolding visits_by NoneRanked

    -- where no loop is ranked, the visits are what they were
    pub unranked-visits : (b : Block) (ranges : List Range) (indexes : List ℤ) → NoneRanked b ranges →
        visits ps b ranges indexes ≡ earlier_visits ps b ranges indexes
    unranked-visits empty ranges indexes none = refl
    unranked-visits (work least most rest) ranges indexes none = unranked-visits rest ranges indexes none
    unranked-visits (loop l body rest) ranges indexes none =
        λ t. count_over (visited-as-before l body ranges indexes (trips ps l indexes) none.0 t)
        (λ trip. suc (unranked-visits body (inner_ranges ps l ranges) (inner_indexes ps l indexes trip) none.1 t))
        + unranked-visits rest ranges indexes none.2 t
    unranked-visits (choice arms rest) ranges indexes none = λ t. unranked-arms arms ranges indexes none.0 t + unranked-visits rest ranges indexes none.1 t

    unranked-arms : (arms : Arms) (ranges : List Range) (indexes : List ℤ) → NoArmRanked arms ranges →
        arms_visits ps arms ranges indexes ≡ arms_visits_by ps (earlier_visited_trips ps) arms ranges indexes
    unranked-arms (last_arm b) ranges indexes none = unranked-visits b ranges indexes none
    unranked-arms (arm b arms) ranges indexes none = λ t. unranked-visits b ranges indexes none.0 t + unranked-arms arms ranges indexes none.1 t

-- a settled nest of which the readings of document 02 have both counts; with a budget between them it was refused
abbrev settled_nest : List ℕ
settled_nest = hex "02020000000100ffff000000000000001d00000000000000000602000000feff010000000000000000f7fffe0000000000000000010100020003040602000200fdfffeffff000000000000eaffff00000000000002000103000300030303"

pub earlier-and-now :
    (earlier_answer settled_nest zero_parameters 300 ≡ ok (figures 1831 2451 93))
    × (answer settled_nest zero_parameters 300 ≡ ok (figures 1831 2451 6))
    × (earlier_answer settled_nest zero_parameters 92 ≡ refused 8 0)
    × (answer settled_nest zero_parameters 92 ≡ ok (figures 1831 2451 6))
    -- the ninth known sheet, ranked and not settled: i 0 to 9 over a choice of (j 0 to i - 1) and work 4 to 4
    × (earlier_answer (hex "020000000001000000000000000000000900000000000000000402000000000100000000000000000000ffff010000000000000101000100030501040004000303") zero_parameters 100 ≡ ok (figures 30 55 19))
unfolding computes
earlier-and-now = (refl, refl, refl, refl, refl)
