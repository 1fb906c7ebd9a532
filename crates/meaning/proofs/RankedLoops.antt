-- A ranked loop whose choices are settled may be summed: in each of its trips the same arm is the slowest, and the same the fastest, so that the
-- time of its trips is a polynomial of at most the degree of its height, and Newton's sum of the first ones is exact.
use mathlib.Core.Path.{◌≡◌, refl, sym, ap, ap₂, ◌∙◌, subst}
use mathlib.Core.List.{List, [], ◌∷◌, map}
use mathlib.Core.Logic.{◌⊎◌, inl, inr}
use mathlib.Core.Bool.{Bool, true, false, ◌||◌}
use Prim.Native.Nat.{ℕ, zero, suc, ◌+◌, min, max, ◌≤◌, ◌<◌}
use native.Mathlib.Omega.{arith}
use lib.IntN.{ℤ, pos, ◌+ℤ◌}
use lib.Dec.{T}
use lib.ListN.{length}
use Rattle.whole.specs.Degree.{Degree, ◌⊞◌}
use Rattle.whole.specs.Newton.{newton_sum, values}
use Rattle.whole.specs.Ranking.{dominates, dominated}
use Rattle.whole.proofs.Order.{AtMost-pos}
use Rattle.whole.proofs.Degree.{degree-constant, degree-le, degree-add}
use Rattle.whole.proofs.Newton.{newton-sum}
use Rattle.whole.proofs.Ranking.{dominated-values, dominated-exchanged}
use Rattle.meaning.specs.Record.{Loop}
use Rattle.meaning.specs.Tree.{Block, Arms, empty, work, loop, choice, last_arm, arm, height, arms_height}
use Rattle.meaning.specs.Time.{entry_cost, Bounds, bounds, exactly, ◌⊕◌, hull, sum_over, trips, inner_indexes, time, arms_time}
use Rattle.meaning.specs.Range.{Range, inner_ranges}
use Rattle.meaning.specs.Closed.{push_own, closable, arms_closable, rankable}
use Rattle.meaning.specs.ClosedSum.{leasts, mosts, first_sums}
use Rattle.meaning.specs.Settled.{best_among, some_best, slower, faster, choice_settled, all_settled, arms_sums, choices_sums, settled}
use Rattle.meaning.proofs.Logic.{T_and}
use Rattle.meaning.proofs.Sound.{Sound, ArmsSound}
use Rattle.meaning.proofs.Trips.{Inside, trip_time}
use Rattle.meaning.proofs.Ranges.{inside-length}
use Rattle.meaning.proofs.Pushes.{follows-fixed, inside_at}
use Rattle.meaning.proofs.ClosedLoops.{FiguresExact, all-visited-or-vanish, follows-loop, trip-agrees, figure-sum_over, figure-first_sums, polynomial-time}

pub T-or : (a b : Bool) → T (a || b) → T a ⊎ T b
T-or true b t = inl tt
T-or false b t = inr t

-- ---- amounts that are polynomials of a loop's counter in its n trips

pub record OnTrips (n degree : ℕ) (amount : ℕ → ℕ) : Type 0 where
  pub polynomial : List ℤ → ℤ
  pub degree_at_most : Degree ◌⊞◌ degree polynomial
  pub agrees : (k : ℕ) → k < n → pos (amount k) ≡ polynomial (pos k ∷ [])

on_trips-constant : (n degree m : ℕ) → OnTrips n degree (λ k. m)
on_trips-constant n degree m = record { polynomial = λ counters. pos m; degree_at_most = degree-constant ◌⊞◌ degree (pos m); agrees = λ k made. refl }

on_trips-add : {n degree : ℕ} {first second : ℕ → ℕ} → OnTrips n degree first → OnTrips n degree second → OnTrips n degree (λ k. first k + second k)
on_trips-add {n} {degree} p q = record {
  polynomial = λ counters. p.polynomial counters +ℤ q.polynomial counters;
  degree_at_most = degree-add ◌⊞◌ degree p.polynomial q.polynomial p.degree_at_most q.degree_at_most;
  agrees = λ k made. ap₂ ◌+ℤ◌ (p.agrees k made) (q.agrees k made);
}

on_trips-same : {n degree : ℕ} {amount : ℕ → ℕ} (other : ℕ → ℕ) → ((k : ℕ) → k < n → other k ≡ amount k) → OnTrips n degree amount → OnTrips n degree other
on_trips-same other same p = record {
  polynomial = p.polynomial;
  degree_at_most = p.degree_at_most;
  agrees = λ k made. ap pos (same k made) ∙ p.agrees k made;
}

-- an amount whose series dominates another's, by the visited trips, is in no trip below it
dominates-trips : (n degree : ℕ) (f g : ℕ → ℕ) → OnTrips n degree f → OnTrips n degree g →
    T (dominates (values (min n (suc degree)) (λ k. pos (f k))) (values (min n (suc degree)) (λ k. pos (g k)))) → (k : ℕ) → k < n → g k ≤ f k
dominates-trips n degree f g p q t k made =
    AtMost-pos (dominated-values n (min n (suc degree)) (λ j. pos (f j)) (λ j. pos (g j)) (λ j. p.polynomial (pos j ∷ [])) (λ j. q.polynomial (pos j ∷ [])) (omega arith)
    p.agrees q.agrees
    (together (all-visited-or-vanish n degree p.polynomial p.degree_at_most) (all-visited-or-vanish n degree q.polynomial q.degree_at_most)) t k made)
  where
    together : {A B C : Type 0} → A ⊎ B → A ⊎ C → A ⊎ (B × C)
    together (inl a) y = inl a
    together (inr b) (inl a) = inl a
    together (inr b) (inr c) = inr (b, c)

-- one whose series is dominated is in no trip above the other
dominated-trips : (n degree : ℕ) (f g : ℕ → ℕ) → OnTrips n degree f → OnTrips n degree g →
    T (dominated (values (min n (suc degree)) (λ k. pos (f k))) (values (min n (suc degree)) (λ k. pos (g k)))) → (k : ℕ) → k < n → f k ≤ g k
dominated-trips n degree f g p q t =
    dominates-trips n degree g f q p
    (subst T (dominated-exchanged (values (min n (suc degree)) (λ k. pos (f k))) (values (min n (suc degree)) (λ k. pos (g k)))) t)

-- ---- one of the two figures, least or most, with what decides between two arms

module _ (ps : List ℤ) (figure : Bounds → ℕ) (figure-⊕ : (a b : Bounds) → figure (a ⊕ b) ≡ figure a + figure b) (figure-exactly : (n : ℕ) → figure (exactly n) ≡ n)
    (join : ℕ → ℕ → ℕ) (figure-hull : (a b : Bounds) → figure (hull a b) ≡ join (figure a) (figure b))
    (Prefers : ℕ → ℕ → Type 0) (prefers-join : (x y z : ℕ) → Prefers x y → Prefers x z → Prefers x (join y z))
    (join-left : (x y : ℕ) → Prefers x y → join x y ≡ x) (join-right : (x y : ℕ) → Prefers x y → join y x ≡ x)
    (better : List ℤ → List ℤ → Bool)
    (better-prefers : (n degree : ℕ) (f g : ℕ → ℕ) → OnTrips n degree f → OnTrips n degree g →
    T (better (values (min n (suc degree)) (λ k. pos (f k))) (values (min n (suc degree)) (λ k. pos (g k)))) → (k : ℕ) → k < n → Prefers (f k) (g k))
    (choice-settled : (arms : List (List Bounds)) → T (choice_settled arms) →
    T (some_best better (map (λ sums. map (λ b. pos (figure b)) sums) arms) (map (λ sums. map (λ b. pos (figure b)) sums) arms))) where
  -- the figures of sums
  abbrev figures_of : List (List Bounds) → List (List ℤ)
  figures_of arms = map (λ sums. map (λ b. pos (figure b)) sums) arms

  -- n trips with the indexes `indexes_at`, ranked at a degree
  module _ (n degree : ℕ) (indexes_at : ℕ → List ℤ) where
    abbrev visited : ℕ
    visited = min n (suc degree)

    abbrev amount_of : Block → ℕ → ℕ
    amount_of b k = figure (time ps b (indexes_at k))

    -- its figures in the visited trips
    abbrev arm_figures : Block → List ℤ
    arm_figures b = map (λ x. pos (figure x)) (first_sums visited (λ trip. time ps b (indexes_at trip)))

    abbrev series : (ℕ → ℕ) → List ℤ
    series f = values visited (λ k. pos (f k))

    -- each arm's time is a polynomial
    unfoldable ArmsOnTrips : Arms → Type 0
    ArmsOnTrips (last_arm b) = OnTrips n degree (amount_of b)
    ArmsOnTrips (arm b arms) = OnTrips n degree (amount_of b) × ArmsOnTrips arms

    -- the amount is one arm's
    unfoldable Among : (ℕ → ℕ) → Arms → Type 0
    Among f (last_arm b) = (k : ℕ) → f k ≡ amount_of b k
    Among f (arm b arms) = ((k : ℕ) → f k ≡ amount_of b k) ⊎ Among f arms

    -- better than one arm by the visited trips
    preferred-to-arm : (f : ℕ → ℕ) → OnTrips n degree f → (b : Block) → OnTrips n degree (amount_of b) →
        T (better (series f) (arm_figures b)) →
        (k : ℕ) → k < n → Prefers (f k) (amount_of b k)
    preferred-to-arm f p b q t =
        better-prefers n degree f (amount_of b) p q
        (subst (λ (x : List ℤ). T (better (series f) x)) (figure-first_sums ps figure figure-⊕ figure-exactly visited (λ trip. time ps b (indexes_at trip))) t)

    -- better than each arm: better than the choice
    preferred-to-choice : (f : ℕ → ℕ) → OnTrips n degree f → (arms : Arms) → ArmsOnTrips arms →
        T (best_among better (series f) (figures_of (arms_sums ps visited indexes_at arms))) →
        (k : ℕ) → k < n → Prefers (f k) (figure (arms_time ps arms (indexes_at k)))
    unfolding ArmsOnTrips arms_sums best_among time
    preferred-to-choice f p (last_arm b) q t k made = preferred-to-arm f p b q (T_and (better (series f) (arm_figures b)) true t).0 k made
    preferred-to-choice f p (arm b arms) q t k made =
        let tests = T_and (better (series f) (arm_figures b))
        (best_among better (series f) (figures_of (arms_sums ps visited indexes_at arms))) t in
        subst (Prefers (f k)) (sym (figure-hull (time ps b (indexes_at k)) (arms_time ps arms (indexes_at k))))
        (prefers-join (f k) (amount_of b k) (figure (arms_time ps arms (indexes_at k))) (preferred-to-arm f p b q.0 tests.0 k made)
        (preferred-to-choice f p arms q.1 tests.1 k made))

    -- one of the arms that is better than each: the choice's figure is its, in every trip
    best-is-choice : (f : ℕ → ℕ) → OnTrips n degree f → (arms : Arms) → ArmsOnTrips arms → Among f arms →
        T (best_among better (series f) (figures_of (arms_sums ps visited indexes_at arms))) →
        (k : ℕ) → k < n → figure (arms_time ps arms (indexes_at k)) ≡ f k
    unfolding ArmsOnTrips Among arms_sums best_among time
    best-is-choice f p (last_arm b) q a t k made = sym (a k)
    best-is-choice f p (arm b arms) q a t k made =
        let tests = T_and (better (series f) (arm_figures b))
        (best_among better (series f) (figures_of (arms_sums ps visited indexes_at arms))) t in
        figure-hull (time ps b (indexes_at k)) (arms_time ps arms (indexes_at k)) ∙ by_place tests.0 tests.1 (λ later. best-is-choice f p arms q.1 later tests.1 k made) a
      where
        by_place : T (better (series f) (arm_figures b)) →
            T (best_among better (series f) (figures_of (arms_sums ps visited indexes_at arms))) →
            (Among f arms → figure (arms_time ps arms (indexes_at k)) ≡ f k) →
            ((j : ℕ) → f j ≡ amount_of b j) ⊎ Among f arms → join (amount_of b k) (figure (arms_time ps arms (indexes_at k))) ≡ f k
        by_place first others further (inl here) =
            ap (λ (x : ℕ). join x (figure (arms_time ps arms (indexes_at k)))) (sym (here k))
            ∙ join-left (f k) (figure (arms_time ps arms (indexes_at k))) (preferred-to-choice f p arms q.1 others k made)
        by_place first others further (inr later) =
            ap (join (amount_of b k)) (further later)
            ∙ join-right (f k) (amount_of b k) (preferred-to-arm f p b q.0 first k made)

    -- an arm that is better than each of the others
    record Best (arms : Arms) (others : List (List ℤ)) : Type 0 where
      amount : ℕ → ℕ
      on_trips : OnTrips n degree amount
      among : Among amount arms
      best : T (best_among better (series amount) others)

    best-arm : (b : Block) (others : List (List ℤ)) →
        T (best_among better (arm_figures b) others) →
        T (best_among better (series (amount_of b)) others)
    best-arm b others t =
        subst (λ (x : List ℤ). T (best_among better x others)) (figure-first_sums ps figure figure-⊕ figure-exactly visited (λ trip. time ps b (indexes_at trip))) t

    find-best : (arms : Arms) → ArmsOnTrips arms → (others : List (List ℤ)) → T (some_best better (figures_of (arms_sums ps visited indexes_at arms)) others) → Best arms others
    unfolding ArmsOnTrips Among arms_sums some_best
    find-best (last_arm b) q others t = by-test (T-or (best_among better (arm_figures b) others) false t)
      where
        by-test : T (best_among better (arm_figures b) others) ⊎ T false → Best (last_arm b) others
        by-test (inl u) = record { amount = amount_of b; on_trips = q; among = λ k. refl; best = best-arm b others u }
        by-test (inr u) = absurd u
    find-best (arm b arms) q others t =
        by-test (T-or (best_among better (arm_figures b) others)
        (some_best better (figures_of (arms_sums ps visited indexes_at arms)) others) t) (λ u. find-best arms q.1 others u)
      where
        by-test : T (best_among better (arm_figures b) others)
            ⊎ T (some_best better (figures_of (arms_sums ps visited indexes_at arms)) others) →
            (T (some_best better (figures_of (arms_sums ps visited indexes_at arms)) others) → Best arms others) → Best (arm b arms) others
        by-test (inl u) further = record { amount = amount_of b; on_trips = q.0; among = inl (λ k. refl); best = best-arm b others u }
        by-test (inr u) further =
            let found = further u in
            record { amount = found.amount; on_trips = found.on_trips; among = inr found.among; best = found.best }

    -- a settled choice
    choice-on_trips : (arms : Arms) → ArmsOnTrips arms → T (choice_settled (arms_sums ps visited indexes_at arms)) → OnTrips n degree (λ k. figure (arms_time ps arms (indexes_at k)))
    choice-on_trips arms q t =
        let found = find-best arms q (figures_of (arms_sums ps visited indexes_at arms)) (choice-settled (arms_sums ps visited indexes_at arms) t) in
        on_trips-same (λ k. figure (arms_time ps arms (indexes_at k))) (best-is-choice found.amount found.on_trips arms q found.among found.best) found.on_trips

  -- the body of a loop, entered at given indexes
  module _ (l : Loop) (ranges : List Range) (indexes : List ℤ) (inside : Inside indexes ranges) (degree : ℕ) where
    abbrev made : ℕ
    made = trips ps l indexes

    abbrev inner : List Range
    inner = inner_ranges ps l ranges

    abbrev own : List (List ℤ)
    own = push_own l (length ranges) ∷ []

    closable-on_trips : (b : Block) → Sound b → height b ≤ degree → T (closable ps b inner own) →
        OnTrips made degree (λ k. figure (time ps b (inner_indexes ps l indexes k)))
    closable-on_trips b sound small t =
        let follows = follows-loop ps l ranges [] (λ counters. indexes) (follows-fixed indexes (length ranges) (inside-length indexes ranges inside)) in
        let p = polynomial-time ps figure figure-⊕ figure-exactly b sound inner own (inside_at ps l (λ counters. indexes)) follows t in
        record {
          polynomial = p.polynomial;
          degree_at_most = degree-le ◌⊞◌ (height b) degree p.polynomial small p.degree_at_most;
          agrees = trip-agrees ps l ranges (λ counters. indexes) p [] inside;
        }

    arms-on_trips : (arms : Arms) → ArmsSound arms → arms_height arms ≤ degree → T (arms_closable ps arms inner own) → ArmsOnTrips made degree (inner_indexes ps l indexes) arms
    unfolding ArmsOnTrips arms_closable Sound height
    arms-on_trips (last_arm b) sound small t = closable-on_trips b sound small t
    arms-on_trips (arm b arms) sound small t =
        let tests = T_and (closable ps b inner own) (arms_closable ps arms inner own) t in
        (closable-on_trips b sound.0 (omega arith) tests.0, arms-on_trips arms sound.1 (omega arith) tests.1)

    body-on_trips : (b : Block) → Sound b → height b ≤ degree → T (rankable ps b inner own) →
        T (all_settled (choices_sums ps (min made (suc degree)) (inner_indexes ps l indexes) b)) →
        OnTrips made degree (λ k. figure (time ps b (inner_indexes ps l indexes k)))
    unfolding rankable choices_sums all_settled Sound height time
    body-on_trips empty sound small t u = on_trips-constant made degree (figure (exactly zero))
    body-on_trips (work least most rest) sound small t u =
        on_trips-same (λ k. figure (time ps (work least most rest) (inner_indexes ps l indexes k))) (λ k h. figure-⊕ (bounds least most) (time ps rest (inner_indexes ps l indexes k)))
        (on_trips-add (on_trips-constant made degree (figure (bounds least most))) (body-on_trips rest sound.1 small t u))
    body-on_trips (loop k body rest) sound small t u =
        let tests = T_and (closable ps (loop k body empty) inner own) (rankable ps rest inner own) t in
        on_trips-same (λ j. figure (time ps (loop k body rest) (inner_indexes ps l indexes j))) (λ j h. split (inner_indexes ps l indexes j))
        (on_trips-add (closable-on_trips (loop k body empty) (sound.0, sound.1, tt) (omega arith) tests.0)
        (body-on_trips rest sound.2 (omega arith) tests.1 u))
      where
        split : (at : List ℤ) → figure (time ps (loop k body rest) at) ≡ figure (time ps (loop k body empty) at) + figure (time ps rest at)
        split at =
            let one : Bounds = exactly (entry_cost k (trips ps k at)) ⊕ sum_over (trips ps k at) (trip_time ps k body at) in
            omega (arith, figure-⊕ one (time ps rest at), figure-⊕ one (exactly zero), figure-exactly zero)
    body-on_trips (choice arms rest) sound small t u =
        let tests = T_and (arms_closable ps arms inner own) (rankable ps rest inner own) t in
        let settled_tests = T_and (choice_settled (arms_sums ps (min made (suc degree)) (inner_indexes ps l indexes) arms))
        (all_settled (choices_sums ps (min made (suc degree)) (inner_indexes ps l indexes) rest)) u in
        on_trips-same (λ k. figure (time ps (choice arms rest) (inner_indexes ps l indexes k)))
        (λ k h. figure-⊕ (arms_time ps arms (inner_indexes ps l indexes k)) (time ps rest (inner_indexes ps l indexes k)))
        (on_trips-add (choice-on_trips made degree (inner_indexes ps l indexes) arms (arms-on_trips arms sound.0 (omega arith) tests.0) settled_tests.0)
        (body-on_trips rest sound.1 (omega arith) tests.1 settled_tests.1))

  -- so the sum of a loop follows from the visited trips
  ranked-figure-exact : (l : Loop) (body : Block) → Sound body → (ranges : List Range) (indexes : List ℤ) → Inside indexes ranges →
      T (rankable ps body (inner_ranges ps l ranges) (push_own l (length ranges) ∷ [])) → T (settled ps l body indexes (trips ps l indexes)) →
      newton_sum (trips ps l indexes) (map (λ b. pos (figure b)) (first_sums (min (trips ps l indexes) (suc (height body))) (trip_time ps l body indexes)))
      ≡ pos (figure (sum_over (trips ps l indexes) (trip_time ps l body indexes)))
  unfolding settled
  ranked-figure-exact l body sound ranges indexes inside t u =
      let n : ℕ = trips ps l indexes in
      let first : ℕ = min n (suc (height body)) in
      let trip : ℕ → Bounds = trip_time ps l body indexes in
      let in_body = body-on_trips l ranges indexes inside (height body) body sound (omega arith) t u in
      let p = on_trips-same (λ k. figure (trip k)) (λ k h. figure-⊕ (time ps body (inner_indexes ps l indexes k)) (exactly l.step))
      (on_trips-add in_body (on_trips-constant n (height body) (figure (exactly l.step)))) in
      let enough = all-visited-or-vanish n (height body) p.polynomial p.degree_at_most in
      ap (newton_sum n) (figure-first_sums ps figure figure-⊕ figure-exactly first trip)
      ∙ newton-sum n first (λ k. pos (figure (trip k))) (λ k. p.polynomial (pos k ∷ [])) (omega arith) p.agrees enough
      ∙ sym (figure-sum_over ps figure figure-⊕ figure-exactly n trip)

-- ---- ranked loops

module _ (ps : List ℤ) where
  -- a settled loop's sum by Newton's differences over its visited trips is the sum trip by trip
  pub settled-figures-exact : (l : Loop) (body : Block) (ranges : List Range) (indexes : List ℤ) → Sound body → Inside indexes ranges →
      T (rankable ps body (inner_ranges ps l ranges) (push_own l (length ranges) ∷ [])) → T (settled ps l body indexes (trips ps l indexes)) →
      FiguresExact (trips ps l indexes) (first_sums (min (trips ps l indexes) (suc (height body))) (trip_time ps l body indexes))
      (sum_over (trips ps l indexes) (trip_time ps l body indexes))
  unfolding choice_settled
  settled-figures-exact l body ranges indexes sound inside t u =
      let most = ranked-figure-exact ps (λ b. b.most) (λ a b. refl) (λ n. refl) max (λ a b. refl) (λ x y. y ≤ x) (λ x y z h k. omega arith)
      (λ x y h. omega arith) (λ x y h. omega arith) slower dominates-trips
      (λ arms s. (T_and (some_best slower (map mosts arms) (map mosts arms)) (some_best faster (map leasts arms) (map leasts arms)) s).0)
      l body sound ranges indexes inside t u in
      let least = ranked-figure-exact ps (λ b. b.least) (λ a b. refl) (λ n. refl) min (λ a b. refl) (λ x y. x ≤ y) (λ x y z h k. omega arith)
      (λ x y h. omega arith) (λ x y h. omega arith) faster dominated-trips
      (λ arms s. (T_and (some_best slower (map mosts arms) (map mosts arms)) (some_best faster (map leasts arms) (map leasts arms)) s).1)
      l body sound ranges indexes inside t u in
      record { least_exact = least; most_exact = most }
