-- A closed loop may be summed: the time of its trips is a polynomial of at most the degree of its height, so Newton's sum of the first is exact.
use mathlib.Core.Path.{◌≡◌, refl, sym, ap, ap₂, ◌∙◌, subst}
use mathlib.Core.List.{List, [], ◌∷◌, ◌++◌, map, map-append}
use mathlib.Core.Logic.{◌⊎◌, inl, inr}
use Prim.Native.Nat.{ℕ, zero, suc, ◌+◌, min, ◌≤◌, ◌<◌}
use native.Mathlib.Decide.{dec_le}
use native.Mathlib.Omega.{arith}
use lib.IntN.{ℤ, pos, suc_ℤ, ◌+ℤ◌, suc_ℤ-+ℤ}
use lib.Signed.{le_z}
use lib.Dec.{T}
use lib.ListN.{length, length-append}
use Rattle.whole.specs.Integer.{at_least_zero, floor_divide}
use Rattle.whole.specs.Sum.{total, sum_to}
use Rattle.whole.specs.Degree.{Degree, ◌⊞◌, first_of, rest_of}
use Rattle.whole.specs.Newton.{newton_sum, values, DifferencesVanish}
use Rattle.whole.proofs.Order.{le_z→AtMost, AtMost→le_z, AtMost-trans}
use Rattle.whole.proofs.Floor.{floor-shift, count-exact}
use Rattle.whole.proofs.Sum.{sum_to-total, total-extensional}
use Rattle.whole.proofs.Degree.{degree-constant, degree-le, degree-add, degree-loop}
use Rattle.whole.proofs.Newton.{values-append-one, newton-sum, degree-vanish}
use Rattle.meaning.specs.Form.{value}
use Rattle.meaning.specs.Record.{Loop, stride_size}
use Rattle.meaning.specs.Tree.{Block, Arms, empty, work, loop, choice, last_arm, arm, height, loops, arms_loops}
use Rattle.meaning.specs.Time.{Bounds, bounds, exactly, ◌⊕◌, hull, difference, entry_cost}
use Rattle.meaning.specs.Time.{sum_over, trip_count, trips, inner_indexes, time, arms_time}
use Rattle.meaning.specs.Range.{Range, range, index_range, inner_ranges, difference_range}
use Rattle.meaning.specs.Closed.{push_own, push_inner, stride_divides, asked_difference, closable, closed}
use Rattle.meaning.specs.Report.{all_closed, loop_reports}
use Rattle.meaning.specs.ClosedSum.{leasts, mosts, closed_sum, first_sums}
use Rattle.meaning.proofs.Skips.{asked-stride, entry-asked}
use Rattle.meaning.proofs.Sound.{Sound}
use Rattle.meaning.proofs.Trips.{Inside, trip_time}
use Rattle.meaning.proofs.Ranges.{inside-length, value-inside, trips-inside}
use Rattle.meaning.proofs.Pushes.{Follows, follows-fixed, follows-inside, value-follows, stride_divides-moves, indexes_inside-trip, inside_at}
use Rattle.meaning.proofs.Closable.{closable-loop, closable-choice, closable-closed}

-- Newton's sum of n trips from the first ones is the sum, the least and the most
pub record FiguresExact (n : ℕ) (first : List Bounds) (sum : Bounds) : Type 0 where
  pub least_exact : newton_sum n (leasts first) ≡ pos sum.least
  pub most_exact : newton_sum n (mosts first) ≡ pos sum.most

pub exact-sum : (n : ℕ) (first : List Bounds) (sum : Bounds) → FiguresExact n first sum → closed_sum n first ≡ sum
unfolding closed_sum
exact-sum n first sum exact = λ i. bounds (at_least_zero (exact.least_exact i)) (at_least_zero (exact.most_exact i))

-- the first min(n, degree + 1) values of a polynomial are all n of them, or so many that the differences of this order vanish
pub all-visited-or-vanish : (n degree : ℕ) (polynomial : List ℤ → ℤ) → Degree ◌⊞◌ degree polynomial →
    (n ≤ min n (suc degree)) ⊎ DifferencesVanish (min n (suc degree)) (λ k. polynomial (pos k ∷ []))
all-visited-or-vanish n degree polynomial bounded = by_order (dec_le n (suc degree))
  where
    by_order : Dec (n ≤ suc degree) → (n ≤ min n (suc degree)) ⊎ DifferencesVanish (min n (suc degree)) (λ k. polynomial (pos k ∷ []))
    by_order (yes few) = inl (omega arith)
    by_order (no many) =
        let e : suc degree ≡ min n (suc degree) = omega arith in
        inr (subst (λ (order : ℕ). DifferencesVanish order (λ k. polynomial (pos k ∷ []))) e (degree-vanish degree polynomial bounded))

module _ (ps : List ℤ) where
  -- ---- without loops the time is the same at all indexes

  mutual
    unfolding loops time

    pub time-without-loops : (b : Block) (indexes : List ℤ) → loops b ≡ zero → time ps b indexes ≡ time ps b []
    time-without-loops empty indexes h = refl
    time-without-loops (work least most rest) indexes h = ap (λ (x : Bounds). bounds least most ⊕ x) (time-without-loops rest indexes h)
    time-without-loops (loop l body rest) indexes h = absurd (omega arith)
    time-without-loops (choice arms rest) indexes h =
        ap₂ ◌⊕◌ (arms_time-without-loops arms indexes (omega arith)) (time-without-loops rest indexes (omega arith))

    arms_time-without-loops : (arms : Arms) (indexes : List ℤ) → arms_loops arms ≡ zero → arms_time ps arms indexes ≡ arms_time ps arms []
    arms_time-without-loops (last_arm b) indexes h = time-without-loops b indexes h
    arms_time-without-loops (arm b arms) indexes h = ap₂ hull (time-without-loops b indexes (omega arith)) (arms_time-without-loops arms indexes (omega arith))

  -- ---- the trips of a loop inside are affine in the counters

  -- the indexes inside one more loop follow its counter too
  pub follows-loop : (l : Loop) (ranges : List Range) (pushes : List (List ℤ)) (indexes_at : List ℤ → List ℤ) → Follows indexes_at pushes (length ranges) →
      Follows (inside_at ps l indexes_at) (push_own l (length ranges) ∷ map (push_inner l) pushes) (length (inner_ranges ps l ranges))
  unfolding inner_ranges
  follows-loop l ranges pushes indexes_at follows =
      let k = length-append ranges (index_range ps l ranges ∷ []) in
      let depth : suc (length ranges) ≡ length (ranges ++ (index_range ps l ranges ∷ [])) = omega arith in
      subst (Follows (inside_at ps l indexes_at) (push_own l (length ranges) ∷ map (push_inner l) pushes)) depth
      (follows-inside ps l indexes_at pushes (length ranges) follows)

  -- floor(D ÷ stride) + 1: the trips, where it is not negative
  unfoldable pub signed_trips : Loop → List ℤ → ℤ
  signed_trips l indexes = suc_ℤ (floor_divide (value ps (difference l) indexes) (stride_size l))

  -- where the smallest D is as large as closing asks, D is
  asked-within : (l : Loop) (ranges : List Range) (indexes : List ℤ) → T (le_z (asked_difference l) (difference_range ps l ranges).lo) →
      Inside indexes ranges → T (le_z (asked_difference l) (value ps (difference l) indexes))
  unfolding difference_range
  asked-within l ranges indexes smallest inside =
      let d : ℤ = value ps (difference l) indexes in
      let lo : ℤ = (range ps (difference l) ranges).lo in
      let bound : ℤ = asked_difference l in
      AtMost→le_z bound d (AtMost-trans bound lo d (le_z→AtMost bound lo smallest) (value-inside ps (difference l) ranges indexes inside).low)

  -- so that floor(D ÷ stride) + 1 is not negative
  pub trips-signed : (l : Loop) (ranges : List Range) (indexes : List ℤ) → T (le_z (asked_difference l) (difference_range ps l ranges).lo) →
      Inside indexes ranges →
      pos (trips ps l indexes) ≡ signed_trips l indexes
  unfolding signed_trips trips trip_count
  trips-signed l ranges indexes smallest inside =
      let d : ℤ = value ps (difference l) indexes in
      count-exact d (stride_size l) (asked-stride l d (asked-within l ranges indexes smallest inside))

  -- and entering the loop costs the same whatever its trips are
  entry-fixed : (l : Loop) (ranges : List Range) (indexes : List ℤ) → T (le_z (asked_difference l) (difference_range ps l ranges).lo) →
      Inside indexes ranges → entry_cost l (trips ps l indexes) ≡ l.start
  unfolding trips
  entry-fixed l ranges indexes smallest inside = entry-asked l (value ps (difference l) indexes) (asked-within l ranges indexes smallest inside)

  -- a move of the counters adds to it what it adds to D, divided by the stride
  signed_trips-affine : (l : Loop) → 1 ≤ stride_size l → (indexes_at : List ℤ → List ℤ) (pushes : List (List ℤ)) (depth : ℕ) → Follows indexes_at pushes depth →
      (divided : T (stride_divides l pushes)) (counters steps : List ℤ) →
      signed_trips l (indexes_at (counters ⊞ steps)) ≡ signed_trips l (indexes_at counters) +ℤ (stride_divides-moves l depth pushes divided steps).0
  unfolding signed_trips
  signed_trips-affine l moves indexes_at pushes depth follows divided counters steps =
      let d : ℤ = value ps (difference l) (indexes_at counters) in
      let quotient = stride_divides-moves l depth pushes divided steps in
      let e = value-follows ps indexes_at pushes depth follows (difference l) counters steps ∙ ap (λ (z : ℤ). d +ℤ z) quotient.1 in
      ap (λ (z : ℤ). suc_ℤ (floor_divide z (stride_size l))) e
      ∙ ap suc_ℤ (floor-shift (stride_size l) moves d quotient.0)
      ∙ sym (suc_ℤ-+ℤ (floor_divide d (stride_size l)) quotient.0)

  -- ---- amounts that are polynomials

  -- at indexes that follow the counters and lie in the ranges, the amount is a polynomial of the counters, of at most the given degree
  pub record Polynomial (degree : ℕ) (indexes_at : List ℤ → List ℤ) (ranges : List Range) (amount : List ℤ → ℕ) : Type 0 where
    pub polynomial : List ℤ → ℤ
    pub degree_at_most : Degree ◌⊞◌ degree polynomial
    pub agrees : (counters : List ℤ) → Inside (indexes_at counters) ranges → pos (amount (indexes_at counters)) ≡ polynomial counters

  polynomial-constant : {degree : ℕ} {indexes_at : List ℤ → List ℤ} {ranges : List Range} (amount : List ℤ → ℕ) (n : ℕ) →
      ((indexes : List ℤ) → Inside indexes ranges → amount indexes ≡ n) → Polynomial degree indexes_at ranges amount
  polynomial-constant {degree} {indexes_at} amount n e = record {
    polynomial = λ counters. pos n;
    degree_at_most = degree-constant ◌⊞◌ degree (pos n);
    agrees = λ counters inside. ap pos (e (indexes_at counters) inside);
  }

  polynomial-le : {degree larger : ℕ} {indexes_at : List ℤ → List ℤ} {ranges : List Range} {amount : List ℤ → ℕ} → degree ≤ larger →
      Polynomial degree indexes_at ranges amount → Polynomial larger indexes_at ranges amount
  polynomial-le {degree} {larger} h p = record {
    polynomial = p.polynomial;
    degree_at_most = degree-le ◌⊞◌ degree larger p.polynomial h p.degree_at_most;
    agrees = p.agrees;
  }

  -- an executed trip's amount, from the polynomial inside the loop
  pub trip-agrees : {degree : ℕ} {amount : List ℤ → ℕ} (l : Loop) (ranges : List Range) (indexes_at : List ℤ → List ℤ)
      (p : Polynomial degree (inside_at ps l indexes_at) (inner_ranges ps l ranges) amount) (counters : List ℤ) → Inside (indexes_at counters) ranges →
      (trip : ℕ) → trip < trips ps l (indexes_at counters) → pos (amount (inner_indexes ps l (indexes_at counters) trip)) ≡ p.polynomial (pos trip ∷ counters)
  unfolding first_of rest_of
  trip-agrees {amount = amount} l ranges indexes_at p counters inside trip made =
      let e = indexes_inside-trip ps l (indexes_at counters) trip in
      let within = trips-inside ps l ranges (indexes_at counters) trip inside made in
      ap (λ (inner : List ℤ). pos (amount inner)) e
      ∙ p.agrees (pos trip ∷ counters) (subst (λ (inner : List ℤ). Inside inner (inner_ranges ps l ranges)) e within)

  -- ---- one of the two figures, least or most, of what may be summed

  module _ (figure : Bounds → ℕ) (figure-⊕ : (a b : Bounds) → figure (a ⊕ b) ≡ figure a + figure b) (figure-exactly : (n : ℕ) → figure (exactly n) ≡ n) where
    pub figure-sum_over : (n : ℕ) (f : ℕ → Bounds) → pos (figure (sum_over n f)) ≡ total n (λ k. pos (figure (f k)))
    unfolding sum_over total
    figure-sum_over zero f = ap pos (figure-exactly zero)
    figure-sum_over (suc n) f = ap pos (figure-⊕ (sum_over n f) (f n)) ∙ ap (λ (z : ℤ). z +ℤ pos (figure (f n))) (figure-sum_over n f)

    pub figure-first_sums : (n : ℕ) (f : ℕ → Bounds) → map (λ b. pos (figure b)) (first_sums n f) ≡ values n (λ k. pos (figure (f k)))
    unfolding first_sums values
    figure-first_sums zero f = refl
    figure-first_sums (suc n) f =
        map-append (λ b. pos (figure b)) (first_sums n f) (f n ∷ [])
        ∙ ap (λ (xs : List ℤ). xs ++ (pos (figure (f n)) ∷ [])) (figure-first_sums n f)
        ∙ sym (values-append-one n (λ k. pos (figure (f k))))

    -- what does not depend on the indexes
    polynomial-fixed : {degree : ℕ} {indexes_at : List ℤ → List ℤ} {ranges : List Range} (b : Bounds) → Polynomial degree indexes_at ranges (λ indexes. figure b)
    polynomial-fixed b = polynomial-constant (λ indexes. figure b) (figure b) (λ indexes inside. refl)

    -- arms without loops
    polynomial-arms : {degree : ℕ} {indexes_at : List ℤ → List ℤ} {ranges : List Range} (arms : Arms) → arms_loops arms ≡ zero →
        Polynomial degree indexes_at ranges (λ indexes. figure (arms_time ps arms indexes))
    polynomial-arms arms none =
        polynomial-constant (λ indexes. figure (arms_time ps arms indexes)) (figure (arms_time ps arms []))
        (λ indexes inside. ap figure (arms_time-without-loops arms indexes none))

    -- what follows one another
    polynomial-⊕ : {degree : ℕ} {indexes_at : List ℤ → List ℤ} {ranges : List Range} {first second : List ℤ → Bounds} →
        Polynomial degree indexes_at ranges (λ indexes. figure (first indexes)) → Polynomial degree indexes_at ranges (λ indexes. figure (second indexes)) →
        Polynomial degree indexes_at ranges (λ indexes. figure (first indexes ⊕ second indexes))
    polynomial-⊕ {degree} {indexes_at} {first = first} {second = second} p q = record {
      polynomial = λ counters. p.polynomial counters +ℤ q.polynomial counters;
      degree_at_most = degree-add ◌⊞◌ degree p.polynomial q.polynomial p.degree_at_most q.degree_at_most;
      agrees = λ counters inside.
          ap pos (figure-⊕ (first (indexes_at counters)) (second (indexes_at counters))) ∙ ap₂ ◌+ℤ◌ (p.agrees counters inside) (q.agrees counters inside);
    }

    -- the sum of a loop's trips: one degree more
    polynomial-loop : {degree : ℕ} (l : Loop) → 1 ≤ stride_size l → (body : Block) (ranges : List Range) (pushes : List (List ℤ)) (indexes_at : List ℤ → List ℤ) →
        Follows indexes_at pushes (length ranges) → T (le_z (asked_difference l) (difference_range ps l ranges).lo) → T (stride_divides l pushes) →
        Polynomial degree (inside_at ps l indexes_at) (inner_ranges ps l ranges) (λ inner. figure (time ps body inner ⊕ exactly l.step)) →
        Polynomial (suc degree) indexes_at ranges (λ indexes. figure (sum_over (trips ps l indexes) (trip_time ps l body indexes)))
    polynomial-loop {degree} l moves body ranges pushes indexes_at follows smallest divided p =
        let n : List ℤ → ℤ = λ counters. signed_trips l (indexes_at counters) in
        let slope : List ℤ → ℤ = λ steps. (stride_divides-moves l (length ranges) pushes divided steps).0 in
        let affine = signed_trips-affine l moves indexes_at pushes (length ranges) follows divided in
        record {
          polynomial = λ counters. sum_to (n counters) (λ k. p.polynomial (k ∷ counters));
          degree_at_most = degree-loop degree p.polynomial n slope affine p.degree_at_most;
          agrees = λ counters inside.
              let m : ℕ = trips ps l (indexes_at counters) in
              let trip : ℕ → Bounds = trip_time ps l body (indexes_at counters) in
              figure-sum_over m trip
              ∙ total-extensional m (λ k. pos (figure (trip k))) (λ k. p.polynomial (pos k ∷ counters)) (trip-agrees l ranges indexes_at p counters inside)
              ∙ sym (sum_to-total m (λ k. p.polynomial (k ∷ counters)))
              ∙ ap (λ (z : ℤ). sum_to z (λ k. p.polynomial (k ∷ counters))) (trips-signed l ranges (indexes_at counters) smallest inside);
        }

    -- the time of a block is of a degree at most its height
    pub polynomial-time : (b : Block) → Sound b → (ranges : List Range) (pushes : List (List ℤ)) (indexes_at : List ℤ → List ℤ) →
        Follows indexes_at pushes (length ranges) →
        T (closable ps b ranges pushes) → Polynomial (height b) indexes_at ranges (λ indexes. figure (time ps b indexes))
    unfolding closable height time Sound
    polynomial-time empty sound ranges pushes indexes_at follows t = polynomial-fixed (exactly zero)
    polynomial-time (work least most rest) sound ranges pushes indexes_at follows t =
        polynomial-⊕ (polynomial-fixed (bounds least most)) (polynomial-time rest sound.1 ranges pushes indexes_at follows t)
    polynomial-time (loop l body rest) sound ranges pushes indexes_at follows t =
        let tests = closable-loop ps l body rest ranges pushes t in
        let inner : List (List ℤ) = push_own l (length ranges) ∷ map (push_inner l) pushes in
        let follows_inner = follows-loop l ranges pushes indexes_at follows in
        let inside = polynomial-time body sound.1 (inner_ranges ps l ranges) inner (inside_at ps l indexes_at) follows_inner tests.body_closable in
        let trip = polynomial-⊕ inside (polynomial-fixed (exactly l.step)) in
        let all = polynomial-loop l sound.0.moves body ranges pushes indexes_at follows tests.smallest tests.divided trip in
        let after = polynomial-time rest sound.2 ranges pushes indexes_at follows tests.rest_closable in
        let entry = polynomial-constant (λ indexes. figure (exactly (entry_cost l (trips ps l indexes)))) (figure (exactly l.start))
        (λ indexes inside. ap (λ (n : ℕ). figure (exactly n)) (entry-fixed l ranges indexes tests.smallest inside)) in
        polynomial-⊕ (polynomial-⊕ entry (polynomial-le (omega arith) all)) (polynomial-le (omega arith) after)
    polynomial-time (choice arms rest) sound ranges pushes indexes_at follows t =
        let tests = closable-choice ps arms rest ranges pushes t in
        let after = polynomial-time rest sound.1 ranges pushes indexes_at follows tests.1 in
        polynomial-⊕ (polynomial-arms arms tests.0) (polynomial-le (omega arith) after)

    -- the trips of a closed loop, in its own counter alone
    pub polynomial-closed : (l : Loop) (body : Block) → Sound body → (ranges : List Range) (indexes : List ℤ) → Inside indexes ranges →
        T (closed ps l body ranges) →
        Polynomial (height body) (inside_at ps l (λ counters. indexes)) (inner_ranges ps l ranges) (λ inner. figure (time ps body inner ⊕ exactly l.step))
    unfolding closed
    polynomial-closed l body sound ranges indexes inside t =
        let follows = follows-loop l ranges [] (λ counters. indexes) (follows-fixed indexes (length ranges) (inside-length indexes ranges inside)) in
        let p = polynomial-time body sound (inner_ranges ps l ranges) (push_own l (length ranges) ∷ []) (inside_at ps l (λ counters. indexes)) follows t in
        polynomial-⊕ p (polynomial-fixed (exactly l.step))

    -- so its sum follows from the visited trips
    pub closed-figure-exact : (l : Loop) (body : Block) → Sound body → (ranges : List Range) (indexes : List ℤ) → Inside indexes ranges →
        T (closed ps l body ranges) →
        newton_sum (trips ps l indexes) (map (λ b. pos (figure b)) (first_sums (min (trips ps l indexes) (suc (height body))) (trip_time ps l body indexes)))
        ≡ pos (figure (sum_over (trips ps l indexes) (trip_time ps l body indexes)))
    closed-figure-exact l body sound ranges indexes inside t =
        let n : ℕ = trips ps l indexes in
        let visited : ℕ = min n (suc (height body)) in
        let trip : ℕ → Bounds = trip_time ps l body indexes in
        let p = polynomial-closed l body sound ranges indexes inside t in
        let each = trip-agrees l ranges (λ counters. indexes) p [] inside in
        let enough = all-visited-or-vanish n (height body) p.polynomial p.degree_at_most in
        ap (newton_sum n) (figure-first_sums visited trip)
        ∙ newton-sum n visited (λ k. pos (figure (trip k))) (λ k. p.polynomial (pos k ∷ [])) (omega arith) each enough
        ∙ sym (figure-sum_over n trip)

  -- ---- closed loops

  -- a closed loop's sum by Newton's differences over its visited trips is the sum trip by trip
  pub closed-figures-exact : (l : Loop) (body : Block) (ranges : List Range) (indexes : List ℤ) → Sound body → Inside indexes ranges →
      T (closed ps l body ranges) →
      FiguresExact (trips ps l indexes) (first_sums (min (trips ps l indexes) (suc (height body))) (trip_time ps l body indexes))
      (sum_over (trips ps l indexes) (trip_time ps l body indexes))
  closed-figures-exact l body ranges indexes sound inside t = record {
    least_exact = closed-figure-exact (λ b. b.least) (λ a b. refl) (λ n. refl) l body sound ranges indexes inside t;
    most_exact = closed-figure-exact (λ b. b.most) (λ a b. refl) (λ n. refl) l body sound ranges indexes inside t;
  }

  pub closed-sums-exact : (l : Loop) (body : Block) (ranges : List Range) (indexes : List ℤ) → Sound body → Inside indexes ranges →
      T (closed ps l body ranges) →
      closed_sum (trips ps l indexes) (first_sums (min (trips ps l indexes) (suc (height body))) (trip_time ps l body indexes))
      ≡ sum_over (trips ps l indexes) (trip_time ps l body indexes)
  closed-sums-exact l body ranges indexes sound inside t = exact-sum _ _ _ (closed-figures-exact l body ranges indexes sound inside t)

  -- loops inside a closed loop are closed
  pub closed-inside : (l : Loop) (body : Block) (ranges : List Range) → T (closed ps l body ranges) → (at : ℕ) →
      T (all_closed (loop_reports ps body (inner_ranges ps l ranges) at))
  unfolding closed
  closed-inside l body ranges t at = closable-closed ps body (inner_ranges ps l ranges) (push_own l (length ranges) ∷ []) at t
