-- The comparison of series arm after arm: the largest coefficient of each order so far, and whether one arm has them all.
use Rattle.std.specs.Prelude.{ℕ, zero, suc, ◌-◌, ◌^◌, max, Bool, true, ◌&&◌, ◌||◌, [], ◌∷◌, nat_le}
use Rattle.ranking.specs.declared.series.Series.{Series}
use Rattle.ranking.specs.declared.lead.Lead.{Lead}
use Rattle.ranking.specs.Series.{word}

-- no coefficient of s is below that of t
unfoldable pub at_least : Series → Series → Bool
at_least s t = nat_le (word t 0) (word s 0) && (nat_le (word t 1) (word s 1) && (nat_le (word t 2) (word s 2) && (nat_le (word t 3) (word s 3) && true)))

-- the larger coefficient of each order
unfoldable pub joined_series : Series → Series → Series
joined_series s t = record { words = max (word s 0) (word t 0) ∷ max (word s 1) (word t 1) ∷ max (word s 2) (word t 2) ∷ max (word s 3) (word t 3) ∷ [] }

-- words that compare the other way round: the largest is the smallest coefficient
unfoldable pub turned_series : Series → Series
turned_series s = record { words = (2 ^ 64 - 1 - word s 0) ∷ (2 ^ 64 - 1 - word s 1) ∷ (2 ^ 64 - 1 - word s 2) ∷ (2 ^ 64 - 1 - word s 3) ∷ [] }

-- after the first arm
unfoldable pub first_lead : Series → Lead
first_lead s = record { largest = s; attained = true }

-- one arm has them all: the new one, or an earlier one still
abbrev pub attained_with : Series → Bool → Series → Bool
attained_with largest attained s = at_least s largest || (attained && at_least largest s)

-- with one arm more
unfoldable pub next_lead : Lead → Series → Lead
next_lead lead s = record { largest = joined_series lead.largest s; attained = attained_with lead.largest lead.attained s }

-- with so many arms more, of which the first is arm j, where `f` has the series of each
unfoldable pub lead_over : (ℕ → Series) → ℕ → ℕ → Lead → Lead
lead_over f zero j lead = lead
lead_over f (suc left) j lead = lead_over f left (suc j) (next_lead lead (f j))
