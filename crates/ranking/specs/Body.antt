-- Whether a loop's choices are settled, by a walk over the rows of what stands directly in its body.
use Rattle.std.specs.Prelude.{ℕ, zero, suc, ◌+◌, ◌-◌, max, Bool, true, cond, ◌&&◌, ◌||◌, List, [], ◌∷◌, ◌==◌, nat_lt}
use Rattle.layout.specs.Rows.{loop_role, choice_role, next_arm_role, role_number, role_at, end_at}
use Rattle.state.specs.declared.bounds.Bounds.{Bounds}
use Rattle.ranking.specs.Settled.{settled_choice}

module _ (rows : List ℕ) where
  -- the record that follows record i in the same body: what follows its end, where it has one. It is a later one, whatever the rows hold.
  unfoldable pub next_in_body : ℕ → ℕ
  next_in_body i = cond (role_at rows i == role_number loop_role || role_at rows i == role_number choice_role) (suc (max i (end_at rows i))) (suc i)

  -- the records from record i on up to before `end` that stand in the same body; there are at most `left`
  unfoldable pub standing : ℕ → ℕ → ℕ → List ℕ
  standing end zero i = []
  standing end (suc left) i = cond (nat_lt i end) (i ∷ standing end left (next_in_body i)) []

  -- those that stand directly in a loop or choice
  unfoldable pub body_at : ℕ → List ℕ
  body_at opener = standing (end_at rows opener) (end_at rows opener - suc opener) (suc opener)

  -- how many of the records begin a next arm
  unfoldable pub next_arm_count : List ℕ → ℕ
  next_arm_count [] = 0
  next_arm_count (i ∷ others) = cond (role_at rows i == role_number next_arm_role) 1 0 + next_arm_count others

  -- the arms of a choice
  unfoldable pub arms_at : ℕ → ℕ
  arms_at choice = suc (next_arm_count (body_at choice))

  module _ (arms : List Bounds) (count arms_per_trip : ℕ) where
    -- every choice among the records, the first of whose arms is arm `first`
    unfoldable pub settled_among : ℕ → List ℕ → Bool
    settled_among first [] = true
    settled_among first (i ∷ others) =
        cond (role_at rows i == role_number choice_role) (settled_choice arms count arms_per_trip first (arms_at i) && settled_among (first + arms_at i) others)
        (settled_among first others)

-- every choice that stands directly in the body of the loop that is this record
unfoldable pub settled_at : List ℕ → ℕ → List Bounds → ℕ → ℕ → Bool
settled_at rows opener arms count arms_per_trip = settled_among rows arms count arms_per_trip 0 (body_at rows opener)
