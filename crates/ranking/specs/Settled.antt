-- Whether a choice is settled, from the arms that are kept: of each of `count` trips its `arms_per_trip` arms.
use Rattle.std.specs.Prelude.{◌≡◌, ℕ, zero, suc, ◌+◌, ◌*◌, ◌<◌, ◌≤◌, Bool, true, false, cond, ◌&&◌, List, [], ◌∷◌, ◌++◌, length, map, nat_le, slice_index_or}
use Rattle.meaning.specs.Limits.{record_limit}
use Rattle.meaning.specs.Tree.{Block, empty, work, loop, choice}
use Rattle.meaning.specs.Time.{Bounds, exactly}
use Rattle.meaning.specs.Settled.{arm_count}
use Rattle.state.specs.declared.bounds.Bounds.{Bounds as ArmBounds}
use Rattle.state.specs.Bounds.{bounds, no_bounds}
use Rattle.ranking.specs.declared.series.Series.{Series}
use Rattle.ranking.specs.declared.Leads.{Leads}
use Rattle.ranking.specs.Series.{value_limit, series_of}
use Rattle.ranking.specs.Lead.{turned_series, first_lead, next_lead, lead_over}

-- each arm has a record of its own: its choice's, or the next arm's
abbrev pub trip_arms_limit : ℕ
trip_arms_limit = record_limit

-- one arm is the slowest, and one the fastest
abbrev pub both_attained : Leads → Bool
both_attained leads = leads.most.attained && leads.least.attained

-- one of the arms
unfoldable pub arm_in : List ArmBounds → ℕ → ℕ → ℕ → ArmBounds
arm_in arms arms_per_trip trip j = slice_index_or arms (trip * arms_per_trip + j) no_bounds

module _ (arms : List ArmBounds) (count arms_per_trip : ℕ) where
  -- the series of one figure of arm j
  abbrev pub figure_series : (ArmBounds → ℕ) → ℕ → Series
  figure_series figure j =
      series_of count (figure (arm_in arms arms_per_trip 0 j)) (figure (arm_in arms arms_per_trip 1 j)) (figure (arm_in arms arms_per_trip 2 j))
      (figure (arm_in arms arms_per_trip 3 j))

  -- that of its most
  unfoldable pub most_series : ℕ → Series
  most_series j = figure_series (λ b. b.most) j

  -- that of its least, turned
  unfoldable pub least_series : ℕ → Series
  least_series j = turned_series (figure_series (λ b. b.least) j)

  -- the comparison after arm j, the first one
  unfoldable pub first_leads : ℕ → Leads
  first_leads j = record { most = first_lead (most_series j); least = first_lead (least_series j) }

  -- with arm j too
  unfoldable pub next_leads : Leads → ℕ → Leads
  next_leads leads j = record { most = next_lead leads.most (most_series j); least = next_lead leads.least (least_series j) }

  -- with so many arms more, of which the first is arm j
  unfoldable pub leads_from : ℕ → ℕ → Leads → Leads
  leads_from left j leads = record { most = lead_over most_series left j leads.most; least = lead_over least_series left j leads.least }

  -- of the choice whose arms are those from arm `first` on, as many as said: not where the trips have no such arms
  unfoldable pub settled_choice : ℕ → ℕ → Bool
  settled_choice first zero = false
  settled_choice first (suc more) =
      cond (nat_le arms_per_trip trip_arms_limit && nat_le (first + suc more) arms_per_trip) (both_attained (leads_from more (suc first) (first_leads first))) false

  -- every choice that stands directly in a loop's body, the first of whose arms is arm `first`
  unfoldable pub settled_choices : ℕ → Block → Bool
  settled_choices first empty = true
  settled_choices first (work least most rest) = settled_choices first rest
  settled_choices first (loop l body rest) = settled_choices first rest
  settled_choices first (choice arms rest) = settled_choice first (arm_count arms) && settled_choices (first + arm_count arms) rest

-- the arms of all these choices
unfoldable pub direct_arms : Block → ℕ
direct_arms empty = 0
direct_arms (work least most rest) = direct_arms rest
direct_arms (loop l body rest) = direct_arms rest
direct_arms (choice arms rest) = arm_count arms + direct_arms rest

-- ---- the arms that are kept

abbrev pub bounds_of : Bounds → ArmBounds
bounds_of b = bounds b.least b.most

-- of one trip, arm after arm
abbrev pub arms_bounds : List Bounds → List ArmBounds
arms_bounds = map bounds_of

-- trip after trip
unfoldable pub trips_arms : List (List Bounds) → List ArmBounds
trips_arms [] = []
trips_arms (sums ∷ trips) = arms_bounds sums ++ trips_arms trips

-- the sums of an arm in a trip
abbrev pub sums_at : List (List Bounds) → ℕ → ℕ → Bounds
sums_at trips trip arm = slice_index_or (slice_index_or trips trip []) arm (exactly 0)

-- the arms are those of each of at most four trips, and their sums are below the limit
pub record Kept (arms : List ArmBounds) (arms_per_trip : ℕ) (trips : List (List Bounds)) : Type 0 where
  pub few_trips : length trips ≤ 4
  pub few_arms : arms_per_trip ≤ trip_arms_limit
  pub kept : (trip arm : ℕ) → trip < length trips → arm < arms_per_trip → arm_in arms arms_per_trip trip arm ≡ bounds_of (sums_at trips trip arm)
  pub least_small : (trip arm : ℕ) → trip < length trips → arm < arms_per_trip → (sums_at trips trip arm).least < value_limit
  pub most_small : (trip arm : ℕ) → trip < length trips → arm < arms_per_trip → (sums_at trips trip arm).most < value_limit
