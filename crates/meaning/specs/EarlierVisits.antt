-- The visits before there were ranked loops, and what is promised of an answer against one with these: "only the visits fall" (document 02, C-18).
use Rattle.std.specs.Prelude.{◌≡◌, List, [], cond, ◌⊎◌, ℕ, suc, min, ◌≤◌, ℤ}
use Rattle.meaning.specs.Record.{Loop}
use Rattle.meaning.specs.Tree.{Block, height}
use Rattle.meaning.specs.Time.{time}
use Rattle.meaning.specs.Range.{Range}
use Rattle.meaning.specs.Closed.{closed}
use Rattle.meaning.specs.Visits.{visits_by}
use Rattle.meaning.specs.Reader.{Result, ok, refused, read}
use Rattle.meaning.specs.Answer.{Figures, figures, answer_with}

module _ (parameters : List ℤ) where
  -- document 01: a loop that is not closed visits all its trips
  unfoldable pub earlier_visited_trips : Loop → Block → List Range → List ℤ → ℕ → ℕ
  earlier_visited_trips l body ranges indexes n = cond (closed parameters l body ranges) (min n (suc (height body))) n

  abbrev pub earlier_visits : Block → List Range → List ℤ → ℕ
  earlier_visits = visits_by parameters earlier_visited_trips

  unfoldable pub earlier_figures : Block → Figures
  earlier_figures b = figures (time parameters b []).least (time parameters b []).most (earlier_visits b [] [])

-- the library call's answer with these visits
unfoldable pub earlier_answer : List ℕ → List ℤ → ℕ → Result Figures
earlier_answer sheet parameters budget = answer_with read earlier_figures sheet parameters budget

-- What is answered now, where this was answered before: the same figures with no more visits; the same refusal, save that where the budget was
-- passed figures may be answered now.
unfoldable pub OnlyVisitsFall : Result Figures → Result Figures → Type 0
OnlyVisitsFall (ok f) now = (visits : ℕ) × (visits ≤ f.visits) × (now ≡ ok (figures f.least f.most visits))
OnlyVisitsFall (refused number place) now = (now ≡ refused number place) ⊎ ((number ≡ 8) × (f : Figures) × (now ≡ ok f))
