-- Which loops are closed, ranked or walked, from the facts of the loops K inside a loop with `depth` loops around it; how many trips such a loop visits.
use Rattle.std.specs.Prelude.{List, [], ◌∷◌, Bool, true, false, not, cond, ◌||◌, ℕ, suc, ◌-◌, ◌%◌, ◌^◌, max, zero, ℤ, ltb, eqb, take, drop}
use Rattle.std.proofs.Math.Option.{Option, none, some}
use Rattle.whole.specs.Integer.{divides}
use Rattle.meaning.specs.Record.{Record}
use Rattle.meaning.specs.Closed.{LoopClass, closed_class, ranked_class, walked_class}
use Rattle.layout.specs.Loops.{stride_at, push_word_at, limit_number}
use Rattle.nest.specs.Walk.{records_inside}
use Rattle.loops.specs.Facts.{LoopFacts}

-- the size of the integer that a word stands for
unfoldable pub word_size : ℕ → ℕ
word_size word = cond (ltb word (2 ^ 63)) word (2 ^ 64 - word)

-- by the words of loop j: its stride does not divide the push of the loop that has m loops around it
unfoldable pub uneven_at : List ℕ → ℕ → ℕ → Bool
uneven_at differences j m =
    cond (eqb (stride_at differences j) 0) false (not (eqb (word_size (push_word_at differences j m) % stride_at differences j) 0))

-- some of the pushes is not a multiple of the stride; outermost first
unfoldable pub some_uneven : ℕ → List ℤ → Bool
some_uneven stride [] = false
some_uneven stride (p ∷ pushes) = not (divides stride p) || some_uneven stride pushes

-- K keeps the loop from being closed, or from being ranked, where choices around K bar that to so many loops: the loop is one of these; or K's D may be
-- smaller than closing asks; or K's stride does not divide the push of that loop or of one between
unfoldable pub prevents : ℕ → ℕ → LoopFacts → Bool
prevents barred depth f = ltb depth barred || not f.enough || some_uneven f.stride (drop depth f.pushes)

-- some K does
unfoldable pub some_prevents : (LoopFacts → ℕ) → ℕ → List (Option LoopFacts) → Bool
some_prevents barred depth [] = false
some_prevents barred depth (none ∷ fs) = some_prevents barred depth fs
some_prevents barred depth (some f ∷ fs) = prevents (barred f) depth f || some_prevents barred depth fs

-- to how many loops the choices around K bar closing, and to how many ranking
abbrev pub bars_closing : LoopFacts → ℕ
bars_closing f = f.choice_depth

abbrev pub bars_ranking : LoopFacts → ℕ
bars_ranking f = f.rank_depth

-- the loop's class; what prevents ranking prevents closing
unfoldable pub class_among : ℕ → List (Option LoopFacts) → LoopClass
class_among depth fs = cond (some_prevents bars_ranking depth fs) walked_class (cond (some_prevents bars_closing depth fs) ranked_class closed_class)

-- by how much the deepest K is deeper than the loop; 0 if there is none
unfoldable pub height_above : ℕ → List (Option LoopFacts) → ℕ
height_above depth [] = zero
height_above depth (none ∷ fs) = height_above depth fs
height_above depth (some f ∷ fs) = max (f.depth - depth) (height_above depth fs)

-- how many trips a loop of this class and height visits at most, where the rest may be summed; 0 where it is walked
unfoldable pub limit_of : LoopClass → ℕ → ℕ
limit_of closed_class height = suc height
limit_of ranked_class height = suc height
limit_of walked_class height = zero

unfoldable pub is_ranked : LoopClass → Bool
is_ranked closed_class = false
is_ranked ranked_class = true
is_ranked walked_class = false

-- the number that is stored of a loop of this class and height
unfoldable pub number_of : LoopClass → ℕ → ℕ
number_of class height = limit_number (is_ranked class) (limit_of class height)

-- the number that is stored of the loop
unfoldable pub number_among : ℕ → List (Option LoopFacts) → ℕ
number_among depth fs = number_of (class_among depth fs) (height_above depth fs)

-- the class of a loop with this limit, by whether it is ranked
unfoldable pub class_by : ℕ → Bool → LoopClass
class_by zero ranked = walked_class
class_by (suc n) true = ranked_class
class_by (suc n) false = closed_class

-- what a plan has of one loop
pub record LoopPlan : Type 0 where
  pub facts : LoopFacts
  pub class : LoopClass
  pub height : ℕ

-- from a record's facts and those of the records inside it
unfoldable pub plan_at : Option LoopFacts → List (Option LoopFacts) → Option LoopPlan
plan_at none inside = none
plan_at (some f) inside = some (record { facts = f; class = class_among f.depth inside; height = height_above f.depth inside })

-- from the records and their facts
unfoldable pub plans_from : List Record → List (Option LoopFacts) → List (Option LoopPlan)
plans_from [] fs = []
plans_from (r ∷ rs) [] = []
plans_from (r ∷ rs) (f ∷ fs) = plan_at f (take (records_inside zero rs) fs) ∷ plans_from rs fs
