-- Kept arms of a ranked loop: the code's decision about a choice is the definition's.
use Rattle.std.proofs.Common.{◌≡◌, ℕ, suc, ◌+◌, ◌-◌, ◌<◌, ◌≤◌, Bool, ◌&&◌, ◌||◌, List, [], ◌∷◌, map, length, get_or, ℤ, pos, sym, refl, ap, ◌∙◌, ap₂, arith}
use mathlib.Core.List.{map-map}
use Rattle.whole.specs.Ranking.{dominates}
use Rattle.whole.proofs.Ranking.{dominated-exchanged}
use Rattle.meaning.specs.Tree.{Block, Arms, empty, work, loop, choice, last_arm, arm}
use Rattle.meaning.specs.Time.{Bounds, exactly}
use Rattle.meaning.specs.ClosedSum.{leasts, mosts}
use Rattle.meaning.specs.Settled.{best_among, some_best, slower, faster, choice_settled, all_settled, arm_sums, arms_of, arm_count, choices_of}
use Rattle.state.specs.declared.bounds.Bounds.{Bounds as ArmBounds}
use Rattle.ranking.specs.declared.series.Series.{Series}
use Rattle.ranking.specs.declared.Leads.{Leads}
use Rattle.ranking.specs.Series.{value_limit, series_of}
use Rattle.ranking.specs.Lead.{at_least, turned_series, first_lead, lead_over}
use Rattle.ranking.specs.Settled.{bounds_of, arm_in, sums_at, figure_series, most_series, least_series, both_attained, first_leads, leads_from, settled_choice, settled_choices, direct_arms, Kept}
use Rattle.ranking.proofs.LeadSteps.{settled-by}
use Rattle.ranking.proofs.Dominance.{Small, first_of, series-dominate, series-words-below, turned-at-least}
use Rattle.ranking.proofs.LeadLaws.{better, words_of, better-at-least, words_from, lead-decided}

-- ---- two lists of lists, tested alike

module _ (f g : List ℤ → List ℤ → Bool) (R : List ℤ → List ℤ → Type 0) (same : (p q x y : List ℤ) → R p x → R q y → f p q ≡ g x y) where
  unfoldable Related : List (List ℤ) → List (List ℤ) → Type 0
  Related [] [] = Unit {0}
  Related [] (x ∷ xs) = ⊥
  Related (p ∷ ps) [] = ⊥
  Related (p ∷ ps) (x ∷ xs) = R p x × Related ps xs

  best-same : (p x : List ℤ) (qs ys : List (List ℤ)) → R p x → Related qs ys → best_among f p qs ≡ best_among g x ys
  unfolding Related best_among
  best-same p x [] [] h k = refl
  best-same p x [] (y ∷ ys) h k = absurd k
  best-same p x (q ∷ qs) [] h k = absurd k
  best-same p x (q ∷ qs) (y ∷ ys) h k = ap₂ ◌&&◌ (same p q x y h k.0) (best-same p x qs ys h k.1)

  some_same : (ps xs qs ys : List (List ℤ)) → Related ps xs → Related qs ys → some_best f ps qs ≡ some_best g xs ys
  unfolding Related some_best
  some_same [] [] qs ys h k = refl
  some_same [] (x ∷ xs) qs ys h k = absurd h
  some_same (p ∷ ps) [] qs ys h k = absurd h
  some_same (p ∷ ps) (x ∷ xs) qs ys h k = ap₂ ◌||◌ (best-same p x qs ys h.0 k) (some_same ps xs qs ys h.1 k)

-- ---- an arm's values and its series

-- p has the first `count` of four small values, and x is their series, or that turned
record Listed (turn : Series → Series) (count : ℕ) (p x : List ℤ) : Type 0 where
  first : ℕ
  second : ℕ
  third : ℕ
  fourth : ℕ
  few : count ≤ 4
  small : Small count first second third fourth
  shape : p ≡ first_of count first second third fourth
  words : x ≡ words_of (turn (series_of count first second third fourth))

abbrev straight : Series → Series
straight s = s

module _ (turn : Series → Series) (count : ℕ) (p x : List ℤ) (h : Listed turn count p x) where
  abbrev series_in : Series
  series_in = series_of count h.first h.second h.third h.fourth

module _ (turn : Series → Series) (count : ℕ) (p q x y : List ℤ) (h : Listed turn count p x) (k : Listed turn count q y) where
  listed-dominate : at_least (series_in turn count p x h) (series_in turn count q y k) ≡ dominates p q
  listed-dominate =
      series-dominate count h.first h.second h.third h.fourth k.first k.second k.third k.fourth h.few h.small k.small
      ∙ sym (ap₂ dominates h.shape k.shape)

  listed-better : better x y ≡ at_least (turn (series_in turn count p x h)) (turn (series_in turn count q y k))
  listed-better = ap₂ better h.words k.words ∙ better-at-least (turn (series_in turn count p x h)) (turn (series_in turn count q y k))

most-same : (count : ℕ) (p q x y : List ℤ) → Listed straight count p x → Listed straight count q y → slower p q ≡ better x y
most-same count p q x y h k = sym (listed-better straight count p q x y h k ∙ listed-dominate straight count p q x y h k)

least-same : (count : ℕ) (p q x y : List ℤ) → Listed turned_series count p x → Listed turned_series count q y → faster p q ≡ better x y
least-same count p q x y h k =
    dominated-exchanged p q
    ∙ sym (listed-better turned_series count p q x y h k
    ∙ turned-at-least (series_in turned_series count p x h) (series_in turned_series count q y k)
    (series-words-below count h.first h.second h.third h.fourth) (series-words-below count k.first k.second k.third k.fourth)
    ∙ listed-dominate turned_series count q p y x k h)

-- ---- what is kept of an arm

-- a number of arm j in each trip, from the list of their values
values-kept : (trips : List (List Bounds)) (number : List Bounds → ℕ) (v : ℕ → ℕ) → length trips ≤ 4 →
    ((t : ℕ) → t < length trips → v t ≡ number (get_or trips t [])) →
    map (λ sums. pos (number sums)) trips ≡ first_of (length trips) (v 0) (v 1) (v 2) (v 3)
values-kept [] number v few h = refl
values-kept (a ∷ []) number v few h = let p = sym (h 0 (omega arith)) in λ i. pos (p i) ∷ []
values-kept (a ∷ b ∷ []) number v few h =
    let p = sym (h 0 (omega arith)) in let q = sym (h 1 (omega arith)) in λ i. pos (p i) ∷ pos (q i) ∷ []
values-kept (a ∷ b ∷ c ∷ []) number v few h =
    let p = sym (h 0 (omega arith)) in let q = sym (h 1 (omega arith)) in let r = sym (h 2 (omega arith)) in λ i. pos (p i) ∷ pos (q i) ∷ pos (r i) ∷ []
values-kept (a ∷ b ∷ c ∷ d ∷ []) number v few h =
    let p = sym (h 0 (omega arith)) in let q = sym (h 1 (omega arith)) in let r = sym (h 2 (omega arith)) in let s = sym (h 3 (omega arith)) in
    λ i. pos (p i) ∷ pos (q i) ∷ pos (r i) ∷ pos (s i) ∷ []
values-kept (a ∷ b ∷ c ∷ d ∷ e ∷ rest) number v few h = absurd (omega arith)

module _ (arms : List ArmBounds) (arms_per_trip : ℕ) (trips : List (List Bounds)) (all : Kept arms arms_per_trip trips) (figure : Bounds → ℕ) (kept_figure : ArmBounds → ℕ)
    (same : (b : Bounds) → kept_figure (bounds_of b) ≡ figure b)
    (small : (trip arm : ℕ) → trip < length trips → arm < arms_per_trip → figure (sums_at trips trip arm) < value_limit) (turn : Series → Series) where
  arm-listed : (j : ℕ) → j < arms_per_trip →
      Listed turn (length trips) (map (λ b. pos (figure b)) (arm_sums trips j)) (words_of (turn (figure_series arms (length trips) arms_per_trip kept_figure j)))
  arm-listed j h = record {
    first = value 0;
    second = value 1;
    third = value 2;
    fourth = value 3;
    few = all.few_trips;
    small = record { first = below 0; second = below 1; third = below 2; fourth = below 3 };
    shape =
        map-map (λ b. pos (figure b)) (λ sums. get_or sums j (exactly 0)) trips
        ∙ values-kept trips (λ sums. figure (get_or sums j (exactly 0))) value all.few_trips (λ trip before. value-is trip before);
    words = refl;
  }
    where
      value : ℕ → ℕ
      value trip = kept_figure (arm_in arms arms_per_trip trip j)

      value-is : (trip : ℕ) → trip < length trips → value trip ≡ figure (sums_at trips trip j)
      value-is trip before = ap kept_figure (all.kept trip j before h) ∙ same (sums_at trips trip j)

      below : (trip : ℕ) → trip < length trips → value trip < value_limit
      below trip before = rw (value-is trip before) (small trip j before h)

-- ---- a choice

some-arm : (arms : Arms) → arm_count arms ≡ suc (arm_count arms - 1)
unfolding arm_count
some-arm (last_arm b) = omega arith
some-arm (arm b arms) = omega arith

-- its arms, for one figure
module _ (f : List ℤ → List ℤ → Bool) (R : List ℤ → List ℤ → Type 0) (same : (p q x y : List ℤ) → R p x → R q y → f p q ≡ better x y) (arms_per_trip : ℕ)
    (trips : List (List Bounds)) (figures : List Bounds → List ℤ) (series : ℕ → Series)
    (listed : (j : ℕ) → j < arms_per_trip → R (figures (arm_sums trips j)) (words_of (series j))) where
  arms-related : (arms : Arms) (j : ℕ) → j + arm_count arms ≤ arms_per_trip →
      Related f better R same (map figures (arms_of trips j arms)) (words_from series (arm_count arms) j)
  unfolding Related arms_of arm_count words_from
  arms-related (last_arm b) j h = (listed j (omega arith), tt)
  arms-related (arm b arms) j h = (listed j (omega arith), arms-related arms (suc j) (omega arith))

  arms-decide : (arms : Arms) (j : ℕ) → j + arm_count arms ≤ arms_per_trip →
      some_best f (map figures (arms_of trips j arms)) (map figures (arms_of trips j arms))
      ≡ (lead_over series (arm_count arms - 1) (suc j) (first_lead (series j))).attained
  arms-decide arms j h =
      let related = arms-related arms j h in
      let ps = map figures (arms_of trips j arms) in
      let xs = words_from series (arm_count arms) j in
      some_same f better R same ps xs ps xs related related
      ∙ ap (λ n. some_best better (words_from series n j) (words_from series n j)) (some-arm arms) ∙ sym (lead-decided series (arm_count arms - 1) j)

module _ (listed : List ArmBounds) (arms_per_trip : ℕ) (trips : List (List Bounds)) (kept : Kept listed arms_per_trip trips) where
  abbrev count : ℕ
  count = length trips

  abbrev most : ℕ → Series
  most = most_series listed (length trips) arms_per_trip

  abbrev least : ℕ → Series
  least = least_series listed (length trips) arms_per_trip

  most-listed : (j : ℕ) → j < arms_per_trip → Listed straight count (mosts (arm_sums trips j)) (words_of (most j))
  unfolding most_series
  most-listed = arm-listed listed arms_per_trip trips kept (λ b. b.most) (λ b. b.most) (λ b. refl) kept.most_small straight

  least-listed : (j : ℕ) → j < arms_per_trip → Listed turned_series count (leasts (arm_sums trips j)) (words_of (least j))
  unfolding least_series
  least-listed = arm-listed listed arms_per_trip trips kept (λ b. b.least) (λ b. b.least) (λ b. refl) kept.least_small turned_series

  pub settled-choice : (arms : Arms) (first : ℕ) → first + arm_count arms ≤ arms_per_trip →
      settled_choice listed (length trips) arms_per_trip first (arm_count arms) ≡ choice_settled (arms_of trips first arms)
  unfolding choice_settled first_leads leads_from
  settled-choice arms first h =
      let some = some-arm arms in
      let left : first + arm_count arms - suc first ≡ arm_count arms - 1 = omega arith in
      let leads : ℕ → Leads = λ n. leads_from listed count arms_per_trip n (suc first) (first_leads listed count arms_per_trip first) in
      let slowest = arms-decide slower (Listed straight count) (most-same count) arms_per_trip trips mosts most most-listed arms first h in
      let fastest = arms-decide faster (Listed turned_series count) (least-same count) arms_per_trip trips leasts least least-listed arms first h in
      sym (settled-by listed count arms_per_trip first (arm_count arms) (leads (first + arm_count arms - suc first)) (choice_settled (arms_of trips first arms))
      kept.few_arms (omega arith) h refl (ap₂ ◌&&◌ slowest fastest ∙ ap (λ n. both_attained (leads n)) (sym left)))

  -- every choice of a body
  pub settled-choices : (b : Block) (first : ℕ) → first + direct_arms b ≤ arms_per_trip →
      settled_choices listed (length trips) arms_per_trip first b ≡ all_settled (choices_of trips first b)
  unfolding settled_choices direct_arms all_settled choices_of
  settled-choices empty first h = refl
  settled-choices (work least most rest) first h = settled-choices rest first h
  settled-choices (loop l body rest) first h = settled-choices rest first h
  settled-choices (choice arms rest) first h = ap₂ ◌&&◌ (settled-choice arms first (omega arith)) (settled-choices rest (first + arm_count arms) (omega arith))
