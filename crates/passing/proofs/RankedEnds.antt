-- What the end of a trip comes to for a ranked loop: in its first trips that of a closed loop, afterwards, and where its choices are found unsettled,
-- that of a walked one.
use Rattle.std.proofs.Common.{◌≡◌, ℕ, suc, ◌+◌, ◌-◌, ◌/◌, ◌%◌, ◌^◌, ◌<◌, ◌≤◌, Bool, true, false, cond, not, ◌&&◌, ltb, leb, List, map, set, sym, refl, ap, ◌∙◌, ap₂, arith, lt-ltb, le-leb}
use borrow.Author.Tests.{lt-leb}
use Rattle.meaning.specs.Limits.{depth_limit}
use Rattle.layout.specs.Loops.{ranked_at}
use Rattle.layout.specs.Rows.{second_at, opener_at, frame_at, loop_at}
use Rattle.ranking.specs.Body.{settled_at}
use Rattle.state.specs.declared.State.{State}
use Rattle.state.specs.declared.bounds.Bounds.{Bounds}
use Rattle.state.specs.declared.sums.Sums.{Sums}
use Rattle.state.specs.declared.open.Open.{Open}
use Rattle.state.specs.Bounds.{bounds, wrapped_sum}
use Rattle.state.specs.Open.{counter_at}
use Rattle.state.specs.Sums.{added, visit_begins}
use Rattle.state.specs.Frames.{trip_passed}
use Rattle.state.specs.Kept.{held_trips, kept_total, first_trips, trips_sum, forgotten}
use Rattle.state.specs.Arms.{arm_count_in, arms_dropped}
use Rattle.state.specs.States.{state_with}
use Rattle.state.proofs.KeptLaws.{known-sum}
use Rattle.trips.specs.Trips.{trips_at, limit_within, limit_now, visited_by}
use Rattle.passing.specs.Pass.{Passage, begins}
use Rattle.passing.specs.Pass.{summed_trips, trip_joined, next_parts, unsettled_parts, goes_unsettled, kept_joined, kept_dropped}
use Rattle.passing.specs.Pass.{AfterTrip, further_trip, unsettled_trip, loop_left, end_trip_where, end_trip, end_trip_by}
use Rattle.passing.proofs.LoopLaws.{unsettled-follows}

-- ---- the sums of the open trip, with the kept ones

-- modulo 2^64, it does not matter which is added first
added-in-turn : (x kept step : ℕ) → (kept + (x + step) % 2 ^ 64) % 2 ^ 64 ≡ ((x + kept % 2 ^ 64) % 2 ^ 64 + step) % 2 ^ 64
added-in-turn x kept step = omega arith

module _ (around held : ℕ) (parts : Open) (step : ℕ) (few : held < depth_limit) (sums : Sums) where
  abbrev inside : Sums
  inside = added sums (bounds step step)

  abbrev outside : Sums
  outside = added (kept_joined around held parts sums) (bounds step step)

  -- one figure
  sum_alike : (figure : Bounds → ℕ) (last : Bounds) (x : ℕ) → figure last ≡ (x + step) % 2 ^ 64 → trips_sum (suc held) held (map figure (first_trips parts.kept around held last))
      ≡ ((x + kept_total parts.kept around figure held % 2 ^ 64) % 2 ^ 64 + step) % 2 ^ 64
  sum_alike figure last x e =
      known-sum parts.kept around figure held last few ∙ ap (λ (y : ℕ). (kept_total parts.kept around figure held + y) % 2 ^ 64) e
      ∙ added-in-turn x (kept_total parts.kept around figure held) step

  pub visits-alike : visit_begins outside ≡ visit_begins inside
  unfolding visit_begins added kept_joined
  visits-alike = refl

  pub passed-alike : summed_trips around inside.passed parts (suc held) held ≡ outside.passed
  unfolding summed_trips added kept_joined wrapped_sum
  passed-alike =
      let least = sum_alike (λ b. b.least) inside.passed sums.passed.least refl in
      let most = sum_alike (λ b. b.most) inside.passed sums.passed.most refl in λ i. bounds (least i) (most i)

-- ---- the end of the trip

-- in the first trips, all before the open one are held
all_held : (limit : ℕ) {counter : ℕ} → counter < limit → held_trips limit counter ≡ counter
unfolding held_trips
all_held limit h = omega arith

module _ (rows differences limits : List ℕ) (depth : ℕ) (s : State) where
  abbrev opener : ℕ
  opener = opener_at rows s.at

  abbrev number : ℕ
  number = loop_at rows (opener_at rows s.at)

  abbrev n : ℕ
  n = trips_at differences s.opened.counters number

  abbrev counter : ℕ
  counter = counter_at s.opened (depth - 1)

  abbrev limit : ℕ
  limit = limit_within limits number (depth - 1)

  abbrev step : ℕ
  step = second_at rows opener

  abbrev unsettled : Bool
  unsettled = not (settled_at rows opener s.opened.arms.bounds (suc counter) (arm_count_in s.opened.arms / suc counter))

  abbrev ends : AfterTrip → ℕ → Passage
  ends next limit = end_trip_where rows depth next (ranked_at limits number) opener limit n (added s.sums (bounds step step)) s

  -- by whether the loop is ranked, and whether its counter has reached the limit
  ends_where : Bool → Bool → Passage
  ends_where ranked past =
      let now : ℕ = cond (ranked && past) 0 limit in
      ends (cond (ltb (suc counter) (visited_by now n)) further_trip (cond (ranked && (ltb (suc counter) n && unsettled)) unsettled_trip loop_left)) now

  abbrev whole : Passage
  whole = end_trip rows differences limits depth s

  abbrev by : ℕ → State → Passage
  by = end_trip_by rows differences limits depth

  ends-where : whole ≡ ends_where (ranked_at limits number) (leb limit counter)
  unfolding end_trip limit_now goes_unsettled ends_where
  ends-where = refl

  pub unranked-ends : ranked_at limits number ≡ false → whole ≡ by limit s
  unfolding end_trip_by ends_where
  unranked-ends r = ends-where ∙ ap (λ (b : Bool). ends_where b (leb limit counter)) r

  -- where no trip follows, none is asked for
  none-follows : (follows u : Bool) → cond follows further_trip (cond (follows && u) unsettled_trip loop_left) ≡ cond follows further_trip loop_left
  none-follows true u = refl
  none-follows false u = refl

  module _ (r : ranked_at limits number ≡ true) where
    later-ends : limit ≤ counter → whole ≡ by 0 s
    unfolding end_trip_by ends_where visited_by
    later-ends h =
        ends-where ∙ ap₂ ends_where r (le-leb limit counter h) ∙ ap (λ (x : AfterTrip). ends x 0) (none-follows (ltb (suc counter) n) unsettled)

    module _ (first : counter < limit) where
      abbrev goes : Bool
      goes = goes_unsettled rows true opener n counter s.opened.arms

      first_ends : whole ≡ ends (cond (ltb (suc counter) (visited_by limit n)) further_trip (cond goes unsettled_trip loop_left)) limit
      unfolding ends_where goes_unsettled
      first_ends = ends-where ∙ ap₂ ends_where r (lt-leb limit counter first)

      further-ends : ltb (suc counter) (visited_by limit n) ≡ true → whole ≡ by limit s
      unfolding end_trip_by
      further-ends t =
          first_ends ∙ ap (λ (b : Bool). ends (cond b further_trip (cond goes unsettled_trip loop_left)) limit) t
          ∙ sym (ap (λ (b : Bool). ends (cond b further_trip loop_left) limit) t)

      settled-ends : goes ≡ false → whole ≡ by limit s
      unfolding end_trip_by
      settled-ends u = first_ends ∙ ap (λ (b : Bool). ends (cond (ltb (suc counter) (visited_by limit n)) further_trip (cond b unsettled_trip loop_left)) limit) u

      unsettled-ends :
          ltb (suc counter) (visited_by limit n) ≡ false → goes ≡ true → counter < depth_limit
          → whole ≡ by 0 (state_with s.at (kept_joined (depth - 1) counter s.opened s.sums) (kept_dropped (depth - 1) counter s.opened))
      unfolding end_trip_where end_trip_by visited_by unsettled_parts next_parts trip_joined kept_dropped
      unsettled-ends l u few =
          let frame : ℕ = frame_at rows opener in
          let inner : Sums = added s.sums (bounds step step) in
          let outer : Sums = added (kept_joined (depth - 1) counter s.opened s.sums) (bounds step step) in
          let next : State = state_with s.at (kept_joined (depth - 1) counter s.opened s.sums) (kept_dropped (depth - 1) counter s.opened) in
          let follows = lt-ltb (suc counter) n (unsettled-follows rows opener n counter s.opened.arms refl u) in
          let held = all_held limit first in
          let visits = sym (visits-alike (depth - 1) counter s.opened step few s.sums) in
          let frames =
          ap (λ (m : ℕ). trip_passed s.opened.frames frame (summed_trips (depth - 1) inner.passed s.opened (suc counter) m)) held
          ∙ ap (trip_passed s.opened.frames frame) (passed-alike (depth - 1) counter s.opened step few s.sums) in
          first_ends ∙ ap₂ (λ (b v : Bool). ends (cond b further_trip (cond v unsettled_trip loop_left)) limit) l u
          ∙ (λ i. begins depth (state_with (opener + 1) (visits i)
          (record { counters = set s.opened.counters (depth - 1) (counter + 1); frames = frames i; kept = forgotten s.opened.kept (depth - 1) (held i); arms = arms_dropped s.opened.arms })))
          ∙ sym (ap (λ (b : Bool). end_trip_where rows depth (cond b further_trip loop_left) (ranked_at limits number) opener 0 n outer next) follows)

-- ---- the same from what is read in turn

module _ (rows differences limits : List ℕ) (depth : ℕ) (s : State)
    {opener_read number_read : ℕ} (o : opener_read ≡ opener_at rows s.at) (j : number_read ≡ loop_at rows opener_read)
    {ranked : Bool} (r : ranked ≡ ranked_at limits number_read) where
  abbrev Ends : ℕ → State → Type 0
  Ends m t = end_trip rows differences limits depth s ≡ end_trip_by rows differences limits depth m t

  abbrev limit_here : ℕ
  limit_here = limit_within limits (loop_at rows (opener_at rows s.at)) (depth - 1)

  number_is : number_read ≡ loop_at rows (opener_at rows s.at)
  number_is = j ∙ ap (loop_at rows) o

  ranked-is : ranked_at limits (loop_at rows (opener_at rows s.at)) ≡ ranked
  ranked-is = sym (r ∙ ap (ranked_at limits) number_is)

  pub read-unranked : ranked ≡ false → Ends limit_here s
  read-unranked e = unranked-ends rows differences limits depth s (ranked-is ∙ e)

  module _ (yes : ranked ≡ true) {around counter_read limit_read : ℕ} (d : around ≡ depth - 1) (c : counter_read ≡ counter_at s.opened around)
      (l : limit_read ≡ limit_within limits number_read around) where
    counter-is : counter_read ≡ counter_at s.opened (depth - 1)
    counter-is = c ∙ ap (counter_at s.opened) d

    limit_is : limit_read ≡ limit_here
    limit_is = l ∙ ap₂ (limit_within limits) number_is d

    pub read-later : limit_read ≤ counter_read → Ends 0 s
    read-later h = later-ends rows differences limits depth s (ranked-is ∙ yes) (omega (arith, limit_is, counter-is))

    module _ (first : counter_read < limit_read) {trips_read visited : ℕ} {b : Bool} (t : trips_read ≡ trips_at differences s.opened.counters number_read)
        (v : visited ≡ visited_by limit_read trips_read) (e : b ≡ ltb (suc counter_read) visited) where
      first-is : counter_at s.opened (depth - 1) < limit_here
      first-is = omega (arith, limit_is, counter-is)

      trips-is : trips_read ≡ trips_at differences s.opened.counters (loop_at rows (opener_at rows s.at))
      trips-is = t ∙ ap (trips_at differences s.opened.counters) number_is

      follows_is : ltb (suc (counter_at s.opened (depth - 1))) (visited_by limit_here (trips_at differences s.opened.counters (loop_at rows (opener_at rows s.at)))) ≡ b
      follows_is = sym (e ∙ ap₂ (λ (x y : ℕ). ltb (suc x) y) counter-is (v ∙ ap₂ visited_by limit_is trips-is))

      pub read-further : b ≡ true → Ends limit_here s
      read-further f = further-ends rows differences limits depth s (ranked-is ∙ yes) first-is (follows_is ∙ f)

      module _ {unsettled_read : Bool} (g : unsettled_read ≡ goes_unsettled rows true opener_read trips_read counter_read s.opened.arms) where
        goes-is : goes_unsettled rows true (opener_at rows s.at) (trips_at differences s.opened.counters (loop_at rows (opener_at rows s.at))) (counter_at s.opened (depth - 1)) s.opened.arms ≡ unsettled_read
        goes-is = sym (g ∙ (λ i. goes_unsettled rows true (o i) (trips-is i) (counter-is i) s.opened.arms))

        pub read-settled : unsettled_read ≡ false → Ends limit_here s
        read-settled u = settled-ends rows differences limits depth s (ranked-is ∙ yes) first-is (goes-is ∙ u)

        pub read-unsettled :
            b ≡ false → unsettled_read ≡ true → counter_read < depth_limit → {after : State}
            → after ≡ state_with s.at (kept_joined around counter_read s.opened s.sums) (kept_dropped around counter_read s.opened) → Ends 0 after
        read-unsettled f u few k =
            unsettled-ends rows differences limits depth s (ranked-is ∙ yes) first-is (follows_is ∙ f) (goes-is ∙ u) (omega (arith, counter-is))
            ∙ ap (end_trip_by rows differences limits depth 0)
            (sym (k ∙ ap₂ (λ (x y : ℕ). state_with s.at (kept_joined x y s.opened s.sums) (kept_dropped x y s.opened)) d counter-is))
