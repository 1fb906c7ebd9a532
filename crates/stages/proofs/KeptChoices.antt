-- The plan's numbers say where the arms of a choice are kept as the definition says it, and there is room for every arm.
use mathlib.Core.List.{List, [], ◌∷◌, ◌++◌}
use mathlib.Core.Bool.{Bool, cond, false, not, true, true≢false, ◌&&◌}
use mathlib.Core.Logic.{◌⊎◌}
use mathlib.Core.Path.{ap, refl, sym, subst, ◌∙◌, ◌≡◌}
use Prim.Native.Nat.{◌*◌, ◌+◌, ◌<◌, min, suc, zero, ℕ, ◌≤◌}
use native.Mathlib.Decide.{dec_le}
use native.Mathlib.Nat.{mul-le-mul_right}
use native.Mathlib.Omega.{arith}
use lib.Dec.{T, eqb, leb, ltb, leb→le, leb-suc-suc}
use borrow.Author.Tests.{lt-ltb, ne_eqb}
use lib.ListN.{get_or, length, length-append}
use lib.IntN.{ℤ}
use Rattle.std.proofs.Math.Bool.{and-false}
use Rattle.std.proofs.lemmas.Bool.{and_parts}
use Rattle.meaning.specs.Time.{Bounds, inner_indexes}
use Rattle.meaning.specs.Record.{Loop, Record, choice_record, end_record, kind, loop_depth, loop_record}
use Rattle.meaning.specs.Limits.{depth_limit, record_limit}
use Rattle.meaning.specs.Range.{Range}
use Rattle.meaning.specs.Closed.{closed_class, loop_class, ranked, ranked_class, walked_class}
use Rattle.meaning.specs.ClosedSum.{first_sums}
use Rattle.meaning.specs.Tree.{Block, height, loop, records, tree}
use Rattle.meaning.specs.Stage.{Frame, KeptArms, choice_frame, indexes_of, keep_arm, keeps_arms, kept_arms, loop_frame, no_arms, ranges_of, trips_kept}
use Rattle.meaning.proofs.KeptTrips.{keep_all}
use Rattle.meaning.proofs.RankedArms.{choices_times}
use Rattle.meaning.proofs.Rankable.{LoopsClosed}
use Rattle.meaning.proofs.RankedSizes.{arms-in-sheet, arms-kept-few}
use Rattle.meaning.proofs.Levels.{Total, AllWalked}
use Rattle.meaning.proofs.AddingUp.{ranked-free}
use Rattle.meaning.proofs.Trees.{tree-before-end}
use Rattle.meaning.proofs.TripEnds.{arms_after, arms-first, arms-later, arms-with}
use Rattle.layout.specs.Rows.{depth_at, enclosing_at, loop_at, opener_at, role_at, role_number, role_of, role_of_kind}
use Rattle.layout.specs.Loops.{ranked_at}
use Rattle.nest.specs.Rows.{innermost}
use Rattle.planner.specs.Closing.{limit_of}
use Rattle.ranking.specs.Settled.{direct_arms}
use Rattle.ranking.proofs.ArmSizes.{choices-times-length}
use Rattle.state.specs.declared.open.Open.{Open}
use Rattle.state.specs.Open.{kept_arms_limit, counter_at}
use Rattle.state.proofs.Innermost.{all_counters, counter-top}
use Rattle.trips.specs.Trips.{limit_within}
use Rattle.passing.specs.Pass.{keeps_arms_at}
use Rattle.ranking.specs.Settled.{trips_arms}
use Rattle.stages.specs.Represent.{counter_numbers}
use Rattle.stages.specs.Laws.{defined_visits}
use Rattle.stages.proofs.Steps.{open_loops}
use Rattle.stages.proofs.ArmsKept.{arm_total, total-append}
use Rattle.stages.proofs.Places.{Framed, Stands, opens_of}
use Rattle.stages.proofs.Affine.{enclosing_of}
use Rattle.stages.proofs.PlanLaws.{KnownPlan, limit_is, loops-count, ranked-is, ranked-not-closed, row_is}
use Rattle.stages.proofs.Standing.{body-shallow, loop-room, opener-found, whole}

-- ---- how many arms

total-more : (xs : List Bounds) (a : KeptArms) → arm_total (trips_kept (keep_all true xs a)) ≡ arm_total (trips_kept a) + length xs
unfolding keep_all keep_arm
total-more [] a = omega arith
total-more (x ∷ xs) a = omega (arith, total-more xs (kept_arms a.passed_trips (a.open_trip ++ (x ∷ []))), one x a)
  where
    one : (x : Bounds) (a : KeptArms) → arm_total (trips_kept (kept_arms a.passed_trips (a.open_trip ++ (x ∷ [])))) ≡ arm_total (trips_kept a) + 1
    one x a = unfold trips_kept in
        omega (arith, total-append a.passed_trips (a.open_trip ++ (x ∷ [])), total-append a.passed_trips a.open_trip, length-append a.open_trip (x ∷ []))

-- of n trips, each with m arms
pub first-total : (n m : ℕ) (f : ℕ → List Bounds) → ((k : ℕ) → length (f k) ≡ m) → arm_total (first_sums n f) ≡ n * m
unfolding trips_arms first_sums
first-total zero m f each = omega arith
first-total (suc n) m f each = omega (arith, total-append (first_sums n f) (f n), first-total n m f each, each n)

module _ {ps : List ℤ} {rs : List Record} {rows differences limits : List ℕ} (known : KnownPlan ps rs rows differences limits) where
  -- ---- where arms are kept

  module _ (l : Loop) (b : Block) (ranges : List Range) where
    ranked-limit : ranked ps l b ranges ≡ true → limit_of (loop_class ps l b ranges) (height b) ≡ suc (height b)
    unfolding loop_class limit_of
    ranked-limit e = λ i. limit_of (cond (ranked-not-closed ps l b ranges e i) closed_class (cond (e i) ranked_class walked_class)) (height b)

    -- a trip of a ranked loop is one of the first, by its limit
    among_first : (k : ℕ) → ranked ps l b ranges && ltb k (limit_of (loop_class ps l b ranges) (height b)) ≡ ranked ps l b ranges && leb k (height b)
    among_first k = go (ranked ps l b ranges) refl
      where
        go : (r : Bool) → ranked ps l b ranges ≡ r → r && ltb k (limit_of (loop_class ps l b ranges) (height b)) ≡ r && leb k (height b)
        go true e = ap (ltb k) (ranked-limit e) ∙ leb-suc-suc k (height b)
        go false e = refl

  -- the choice stands where fs are open
  pub keeps-arms : (q : ℕ) (following : List Record) (fs : List Frame) (ns : List ℕ) → Stands ps rs choice_record following q (opens_of fs) ns (enclosing_of ps fs) →
      Framed ps rs fs ns → (opened : Open) → opened.counters ≡ all_counters (counter_numbers fs) → keeps_arms_at rows limits q opened ≡ keeps_arms ps fs
  unfolding keeps_arms_at keeps_arms Framed innermost role_number role_of role_of_kind kind counter_numbers
  keeps-arms q following [] [] stands framed opened counters =
      let around = (row_is known stands).enclosing_is in
      let o : ℕ = opener_at rows q in
      ap (λ (m : ℕ). ranked_at limits (loop_at rows o) && (not (eqb m 0) && (eqb (role_at rows o) 1
      && (ltb (depth_at rows o) depth_limit && ltb (counter_at opened (depth_at rows o)) (limit_within limits (loop_at rows o) (depth_at rows o)))))) around
      ∙ and-false (ranked_at limits (loop_at rows o))
  keeps-arms q following [] (n ∷ ns) stands framed opened counters = absurd framed
  keeps-arms q following (loop_frame l body k sums enclosing ∷ fs) [] stands framed opened counters = absurd framed
  keeps-arms q following (choice_frame passed enclosing ∷ fs) [] stands framed opened counters = absurd framed
  keeps-arms q following (choice_frame passed enclosing ∷ fs) (m ∷ ns) stands framed opened counters =
      let own = framed.1 in
      let around = opener-found known q fs own (row_is known stands).opener_is in
      let role = ap (role_at rows) around ∙ (row_is known own).role_is in
      let o : ℕ = opener_at rows q in
      ap (λ (x : ℕ). ranked_at limits (loop_at rows o) && (not (eqb (enclosing_at rows q) 0) && (eqb x 1
      && (ltb (depth_at rows o) depth_limit && ltb (counter_at opened (depth_at rows o)) (limit_within limits (loop_at rows o) (depth_at rows o)))))) role
      ∙ ap (λ (x : Bool). ranked_at limits (loop_at rows o) && x) (and-false (not (eqb (enclosing_at rows q) 0))) ∙ and-false (ranked_at limits (loop_at rows o))
  keeps-arms q following (loop_frame l body k sums enclosing ∷ fs) (m ∷ ns) stands framed opened counters =
      let own = framed.0 in
      let d : ℕ = open_loops fs in
      let shallow : d < depth_limit = (loop-room known fs own).1 in
      let around = opener-found known q fs own (row_is known stands).opener_is in
      let stood = ap (λ (x : ℕ). not (eqb x 0)) (row_is known stands).enclosing_is ∙ ap not (ne_eqb (suc m) 0 (λ e. (let z = e in omega arith))) in
      let role = (row_is known own).role_is in
      let all : min (loop_depth (opens_of fs)) depth_limit ≡ d = omega (arith, loops-count fs) in
      let depth = (row_is known own).depth_is ∙ all in
      let counter : get_or opened.counters d 0 ≡ k = ap (λ (xs : List ℕ). get_or xs d 0) counters ∙ counter-top (counter_numbers fs) d refl shallow k in
      let first = ranked-is known fs own in
      let limit = limit_is known fs own in
      let within = lt-ltb d depth_limit shallow in
      ap (λ (o : ℕ). ranked_at limits (loop_at rows o) && (not (eqb (enclosing_at rows q) 0) && (eqb (role_at rows o) 1
      && (ltb (depth_at rows o) depth_limit && ltb (counter_at opened (depth_at rows o)) (limit_within limits (loop_at rows o) (depth_at rows o)))))) around
      ∙ (λ i. first i && (stood i && (eqb (role i) 1 && (ltb (depth i) depth_limit && ltb (counter_at opened (depth i)) (limit_within limits (loop_at rows m) (depth i))))))
      ∙ (λ i. ranked ps l (tree body) (ranges_of ps fs) && (within i && ltb (counter i) (limit i)))
      ∙ among_first l (tree body) (ranges_of ps fs) k

  -- ---- there is room for the arms of a loop of the sheet

  module _ (l : Loop) (b : Block) (ranges : List Range) (indexes : List ℤ) (a : KeptArms) (k : ℕ) (is_ranked : ranked ps l b ranges ≡ true)
      (free : ranked ps l b ranges ≡ true → a ≡ no_arms) where
    -- at the end of trip k, one of the first
    first-arms : k ≤ height b → arm_total (trips_kept (arms_after ps l b ranges indexes a k)) ≡ suc k * direct_arms b
    unfolding trips_kept
    first-arms small =
        ap (λ (x : KeptArms). arm_total (trips_kept x)) (arms-with ps l b ranges indexes a is_ranked k small (arms-first ps l b ranges indexes a is_ranked (free is_ranked) k small))
        ∙ (unfold first_sums in first-total (suc k) (direct_arms b) (λ t. choices_times ps b (inner_indexes ps l indexes t)) (λ t. choices-times-length ps b (inner_indexes ps l indexes t)))

  -- the arms of so many trips of a loop of the sheet
  few-arms : {l : Loop} {body : List Record} {m : ℕ} (fs : List Frame) {ns : List ℕ} → Stands ps rs (loop_record l) body m (opens_of fs) ns (enclosing_of ps fs) →
      (b : Block) (following : List Record) → body ≡ records b ++ (end_record ∷ following) → (k : ℕ) → k ≤ height b → suc k * direct_arms b ≤ kept_arms_limit
  few-arms {l} {body} fs stands b following is k small = go (direct_arms b) (choices-times-length ps b [])
    where
      sizes : 2 + length (records b) ≤ record_limit
      sizes = omega (
        arith,
        known.short,
        ap (λ (xs : List Record). length xs) stands.split,
        length-append stands.outer (loop_record l ∷ body),
        ap (λ (xs : List Record). length xs) is,
        length-append (records b) (end_record ∷ following),
      )

      shallow : height b < depth_limit
      shallow = omega (arith, body-shallow known fs stands, ap height (ap tree is ∙ tree-before-end b following))

      go : (arms : ℕ) → length (choices_times ps b []) ≡ arms → suc k * arms ≤ kept_arms_limit
      go zero e = omega arith
      go (suc arms) e =
          let room = arms-in-sheet ps b [] sizes (omega arith) in
          omega (arith, arms-kept-few (suc arms) (height b) (omega arith) shallow, mul-le-mul_right {m = suc k} {n = suc (height b)} (suc arms) (omega arith))

  -- where a choice's arm ends whose arms are kept: with it and those that follow there are no more than there is room for
  pub arm-has-room : (fs : List Frame) (ns : List ℕ) (tail : List Record) (total : Bounds) (count : ℕ) (xs : List Bounds) (a : KeptArms) → Framed ps rs fs ns →
      keeps_arms ps fs ≡ true → Total ps (whole known) (defined_visits ps rs) fs tail total count (keep_all (keeps_arms ps fs) xs a) → 1 ≤ length xs → arm_total (trips_kept a) < kept_arms_limit
  unfolding keeps_arms Framed Total
  arm-has-room [] ns tail total count xs a framed keeps h some = absurd (true≢false (sym keeps))
  arm-has-room (choice_frame passed enclosing ∷ fs) ns tail total count xs a framed keeps h some = absurd (true≢false (sym keeps))
  arm-has-room (loop_frame l body k sums enclosing ∷ fs) [] tail total count xs a framed keeps h some = absurd framed
  arm-has-room (loop_frame l body k sums enclosing ∷ fs) (m ∷ ns) tail total count xs a framed keeps h some =
      let is = h.body_is ∙ ap (λ rs. records h.block ++ rs) h.tail_is in
      let same : tree body ≡ h.block = ap tree is ∙ tree-before-end h.block (records h.after ++ h.outer_tail) in
      let both = and_parts (ranked ps l h.block (ranges_of ps fs)) (leb k (height h.block))
      (sym (ap (λ (b : Block). ranked ps l b (ranges_of ps fs) && leb k (height b)) same) ∙ keeps) in
      let small : k ≤ height h.block = leb→le k (height h.block) (subst T (sym both.1) tt) in
      let free = ranked-free ps h.outer_arms (ranges_of ps fs) l h.block h.after (AllWalked ps fs) h.ready in
      let all = sym (ap (λ (x : Bool). arm_total (trips_kept (keep_all x xs a))) keeps) ∙ ap (λ (x : KeptArms). arm_total (trips_kept x)) h.arms_are
      ∙ first-arms l h.block (ranges_of ps fs) (indexes_of ps fs) h.outer_arms k both.0 free small in
      omega (arith, total-more xs a, all, few-arms fs framed.0 h.block (records h.after ++ h.outer_tail) is k small)

  -- and where a trip of a ranked loop ends
  pub loop-has-room : {m : ℕ} {l : Loop} {body : List Record} (fs : List Frame) {ns : List ℕ} → Stands ps rs (loop_record l) body m (opens_of fs) ns (enclosing_of ps fs) →
      (b after : Block) (following : List Record) → body ≡ records b ++ (end_record ∷ following) → (a outer : KeptArms) (k : ℕ) →
      (AllWalked ps fs × (outer ≡ no_arms)) ⊎ LoopsClosed ps (loop l b after) (ranges_of ps fs) → a ≡ arms_after ps l b (ranges_of ps fs) (indexes_of ps fs) outer k →
      ranked ps l b (ranges_of ps fs) ≡ true → arm_total (trips_kept a) ≤ kept_arms_limit
  loop-has-room {m} {l} {body} fs stands b after following is a outer k ready arms is_ranked = go (dec_le k (height b))
    where
      free : ranked ps l b (ranges_of ps fs) ≡ true → outer ≡ no_arms
      free = ranked-free ps outer (ranges_of ps fs) l b after (AllWalked ps fs) ready

      go : Dec (k ≤ height b) → arm_total (trips_kept a) ≤ kept_arms_limit
      go (yes small) =
          omega (arith, ap (λ (x : KeptArms). arm_total (trips_kept x)) arms, first-arms l b (ranges_of ps fs) (indexes_of ps fs) outer k is_ranked free small, few-arms fs stands b following is k small)
      go (no large) = unfold trips_kept trips_arms in
          omega (arith, ap (λ (x : KeptArms). arm_total (trips_kept x)) (arms ∙ arms-later ps l b (ranges_of ps fs) (indexes_of ps fs) outer is_ranked k (omega arith)))
