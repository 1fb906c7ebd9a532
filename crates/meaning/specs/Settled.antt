-- When the choices of a ranked loop are settled: one arm always the slowest, and one always the fastest (document 02, C-18; document 003, section 4).
use Rattle.std.specs.Prelude.{List, [], ◌∷◌, map, Bool, true, false, ◌&&◌, ◌||◌, ℕ, suc, ◌+◌, min, ℤ, get_or}
use Rattle.whole.specs.Ranking.{dominates, dominated}
use Rattle.meaning.specs.Record.{Loop}
use Rattle.meaning.specs.Tree.{Block, Arms, empty, work, loop, choice, last_arm, arm, height}
use Rattle.meaning.specs.Time.{Bounds, exactly, inner_indexes, time}
use Rattle.meaning.specs.Range.{Range}
use Rattle.meaning.specs.Closed.{closed, ranked}
use Rattle.meaning.specs.ClosedSum.{leasts, mosts, first_sums}

-- ---- one choice, from the sums of each arm in the first trips

-- p is better than each of the others
unfoldable pub best_among : (List ℤ → List ℤ → Bool) → List ℤ → List (List ℤ) → Bool
best_among better p [] = true
best_among better p (q ∷ qs) = better p q && best_among better p qs

-- one of the first lists is better than each of the second
unfoldable pub some_best : (List ℤ → List ℤ → Bool) → List (List ℤ) → List (List ℤ) → Bool
some_best better [] qs = false
some_best better (p ∷ ps) qs = best_among better p qs || some_best better ps qs

-- slower: "no negative coefficient in its difference from" the other
abbrev pub slower : List ℤ → List ℤ → Bool
slower p q = dominates p q

-- faster: "no positive one" in it
abbrev pub faster : List ℤ → List ℤ → Bool
faster p q = dominated p q

-- one arm's most is slower than each other arm's, and one arm's least is faster; an arm is both of itself
unfoldable pub choice_settled : List (List Bounds) → Bool
choice_settled arms = some_best slower (map mosts arms) (map mosts arms) && some_best faster (map leasts arms) (map leasts arms)

-- "in every such choice"
unfoldable pub all_settled : List (List (List Bounds)) → Bool
all_settled [] = true
all_settled (arms ∷ choices) = choice_settled arms && all_settled choices

-- ---- the choices standing directly in a loop's body

module _ (parameters : List ℤ) where
  -- the sums of each arm in the first trips, where `indexes_at` has the indexes in a trip
  unfoldable pub arms_sums : ℕ → (ℕ → List ℤ) → Arms → List (List Bounds)
  arms_sums count indexes_at (last_arm b) = first_sums count (λ trip. time parameters b (indexes_at trip)) ∷ []
  arms_sums count indexes_at (arm b arms) = first_sums count (λ trip. time parameters b (indexes_at trip)) ∷ arms_sums count indexes_at arms

  -- the same for each choice
  unfoldable pub choices_sums : ℕ → (ℕ → List ℤ) → Block → List (List (List Bounds))
  choices_sums count indexes_at empty = []
  choices_sums count indexes_at (work least most rest) = choices_sums count indexes_at rest
  choices_sums count indexes_at (loop l body rest) = choices_sums count indexes_at rest
  choices_sums count indexes_at (choice arms rest) = arms_sums count indexes_at arms ∷ choices_sums count indexes_at rest

  -- the choices of an entered loop that makes n trips are settled by its "height + 1 trips, or all if fewer"
  unfoldable pub settled : Loop → Block → List ℤ → ℕ → Bool
  settled l body indexes n = all_settled (choices_sums (min n (suc (height body))) (inner_indexes parameters l indexes) body)

  -- "the rest is summed": after the first trips of a closed loop, and of a ranked one whose choices these settle
  unfoldable pub summed : Loop → Block → List Range → List ℤ → ℕ → Bool
  summed l body ranges indexes n = closed parameters l body ranges || (ranked parameters l body ranges && settled l body indexes n)

-- ---- the same from what the stages keep: in each visited trip, the sums of all arms in the order in which they are passed

-- the sums of arm j in the trips
abbrev pub arm_sums : List (List Bounds) → ℕ → List Bounds
arm_sums trip_arms j = map (λ sums. get_or sums j (exactly 0)) trip_arms

-- those of a choice's arms, the first of which is arm j
unfoldable pub arms_of : List (List Bounds) → ℕ → Arms → List (List Bounds)
arms_of trip_arms j (last_arm b) = arm_sums trip_arms j ∷ []
arms_of trip_arms j (arm b arms) = arm_sums trip_arms j ∷ arms_of trip_arms (suc j) arms

unfoldable pub arm_count : Arms → ℕ
arm_count (last_arm b) = 1
arm_count (arm b arms) = suc (arm_count arms)

-- those of each choice standing directly in the body
unfoldable pub choices_of : List (List Bounds) → ℕ → Block → List (List (List Bounds))
choices_of trip_arms j empty = []
choices_of trip_arms j (work least most rest) = choices_of trip_arms j rest
choices_of trip_arms j (loop l body rest) = choices_of trip_arms j rest
choices_of trip_arms j (choice arms rest) = arms_of trip_arms j arms ∷ choices_of trip_arms (j + arm_count arms) rest
