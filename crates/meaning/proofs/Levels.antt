-- The parts of a state that add up to the sheet's time and visits, level by level of what is open; what that says of a state.
use mathlib.Core.Path.{◌≡◌, refl, sym, ap, ◌∙◌, subst}
use mathlib.Core.List.{List, [], ◌∷◌, ◌++◌}
use mathlib.Core.Bool.{Bool, false, ◌&&◌}
use mathlib.Core.Option.{Option, none, some}
use mathlib.Core.Logic.{◌⊎◌, inl, inr}
use Prim.Native.Nat.{ℕ, suc, ◌+◌, ◌≤◌, ◌<◌}
use native.Mathlib.Omega.{arith}
use lib.IntN.{ℤ}
use lib.Dec.{T, leb}
use Rattle.meaning.specs.Record.{Loop, Record, end_record, next_arm_record}
use Rattle.meaning.specs.Tree.{Block, Arms, empty, work, loop, choice, tree, records, arms_records, height}
use Rattle.meaning.specs.Time.{Bounds, ◌⊕◌, hull, sum_over, trips, inner_indexes, time, arms_time}
use Rattle.meaning.specs.Range.{Range}
use Rattle.meaning.specs.Closed.{walked_class, loop_class, closed}
use Rattle.meaning.specs.Visits.{count_over, visited_trips, visits, visits_by, arms_visits}
use Rattle.meaning.specs.Stage.{Frame, loop_frame, choice_frame, KeptArms, no_arms, State, state, state_keeping, add_arm, indexes_of, ranges_of, keeps_arms}
use Rattle.meaning.proofs.Logic.{bounds-equal, nil-is-not-cons}
use Rattle.meaning.proofs.SumsOfBounds.{⊕-zero, term-at-most, first-counts-at-most}
use Rattle.meaning.proofs.Sound.{LoopSound, Sound, ArmsSound}
use Rattle.meaning.proofs.Trips.{Inside, trip_time, trip_visits}
use Rattle.meaning.proofs.Trees.{tree-before-end}
use Rattle.meaning.proofs.Runs.{least≤most}
use Rattle.meaning.proofs.Ranges.{trips-inside}
use Rattle.meaning.proofs.Closable.{class-walked}
use Rattle.meaning.proofs.RankedArms.{arms_times, choices_times}
use Rattle.meaning.proofs.Rankable.{LoopsClosed, ArmsClosed}
use Rattle.meaning.proofs.KeptTrips.{keep_all}
use Rattle.meaning.proofs.VisitedTrips.{visited-most}
use Rattle.meaning.proofs.TripEnds.{sums_before, arms_after}

-- ---- arms still to come

-- their records, up to the choice's end
unfoldable pub further_records : Option Arms → List Record → List Record
further_records none q = end_record ∷ q
further_records (some arms) q = next_arm_record ∷ (arms_records arms ++ (end_record ∷ q))

unfoldable pub FurtherSound : Option Arms → Type 0
FurtherSound none = Unit {0}
FurtherSound (some arms) = ArmsSound arms

-- the arms passed have a least that is at most their most
unfoldable pub PassedOrdered : Option Bounds → Type 0
PassedOrdered none = Unit {0}
PassedOrdered (some p) = p.least ≤ p.most

pub passed-joined : (passed : Option Bounds) (b : Bounds) → PassedOrdered passed → b.least ≤ b.most → (add_arm passed b).least ≤ (add_arm passed b).most
unfolding PassedOrdered add_arm
passed-joined none b h g = g
passed-joined (some p) b h g = omega arith

pub joined-most : (passed : Option Bounds) (b : Bounds) → b.most ≤ (add_arm passed b).most
unfolding add_arm
joined-most none b = omega arith
joined-most (some p) b = omega arith

-- one arm more than those passed, and arms still to come
pub join-further : (passed : Option Bounds) (b c : Bounds) → hull (add_arm passed b) c ≡ add_arm passed (hull b c)
unfolding add_arm
join-further none b c = refl
join-further (some p) b c = bounds-equal _ _ (omega arith) (omega arith)

module _ (ps : List ℤ) where
  -- the arms' bounds, with those still to come
  unfoldable pub further_time : Option Arms → List ℤ → Bounds → Bounds
  further_time none indexes b = b
  further_time (some arms) indexes b = hull b (arms_time ps arms indexes)

  -- their visits
  unfoldable pub further_visits : Option Arms → List Range → List ℤ → ℕ
  further_visits none ranges indexes = 0
  further_visits (some arms) ranges indexes = arms_visits ps arms ranges indexes

  pub further-most : (further : Option Arms) (indexes : List ℤ) (b : Bounds) → b.most ≤ (further_time further indexes b).most
  unfolding further_time
  further-most none indexes b = omega arith
  further-most (some arms) indexes b = omega arith

  -- the sums of those still to come
  unfoldable pub further_arms : Option Arms → List ℤ → List Bounds
  further_arms none indexes = []
  further_arms (some arms) indexes = arms_times ps arms indexes

  unfoldable pub FurtherClosed : Option Arms → List Range → Type 0
  FurtherClosed none ranges = Unit {0}
  FurtherClosed (some arms) ranges = ArmsClosed ps arms ranges

  -- ---- loops that are not closed

  -- every open loop is walked
  unfoldable pub AllWalked : List Frame → Type 0
  AllWalked [] = Unit {0}
  AllWalked (loop_frame l body counter sums enclosing ∷ fs) = (loop_class ps l (tree body) (ranges_of ps fs) ≡ walked_class) × AllWalked fs
  AllWalked (choice_frame passed enclosing ∷ fs) = AllWalked fs

  -- then no arms are kept
  pub walked_keeps : (fs : List Frame) → AllWalked fs → keeps_arms ps fs ≡ false
  unfolding AllWalked keeps_arms
  walked_keeps [] h = refl
  walked_keeps (loop_frame l body counter sums enclosing ∷ fs) h =
      ap (λ (x : Bool). x && leb counter (height (tree body))) (class-walked ps l (tree body) (ranges_of ps fs) h.0).1
  walked_keeps (choice_frame passed enclosing ∷ fs) h = refl

  -- around each open loop that is not closed every open loop is walked: so never two ranked loops are open
  unfoldable pub WalkedAround : List Frame → Type 0
  WalkedAround [] = Unit {0}
  WalkedAround (loop_frame l body counter sums enclosing ∷ fs) = (T (closed ps l (tree body) (ranges_of ps fs)) ⊎ AllWalked fs) × WalkedAround fs
  WalkedAround (choice_frame passed enclosing ∷ fs) = WalkedAround fs

  -- ---- levels

  -- An open trip of loop l, with what is around it: `tail` is what follows what remains of the trip; when it ends, it has come to `total` without its
  -- step, there are `count` visits, and `arms` are kept. The loop was entered with `outer_arms` kept. `Walked` says that every loop around is walked.
  pub record LoopLevel (Around : List Record → Bounds → ℕ → KeptArms → Type 0) (Walked : Type 0) (keeps : Bool) (ranges : List Range) (indexes : List ℤ)
      (l : Loop) (body : List Record) (counter : ℕ) (sums : List Bounds) (enclosing : Bounds)
      (tail : List Record) (total : Bounds) (count : ℕ) (arms : KeptArms) : Type 0 where
    pub block : Block
    pub after : Block
    pub outer_tail : List Record
    pub entered : ℕ
    pub outer_arms : KeptArms
    pub body_is : body ≡ records block ++ tail
    pub tail_is : tail ≡ end_record ∷ (records after ++ outer_tail)
    pub loop_sound : LoopSound l
    pub block_sound : Sound block
    pub after_sound : Sound after
    pub total_is : total ≡ time ps block (inner_indexes ps l indexes counter)
    pub count_is : count ≡ entered + count_over (suc counter) (trip_visits ps l block ranges indexes)
    pub trip_visited : counter < visited_trips ps l block ranges indexes (trips ps l indexes)
    pub sums_are : sums ≡ sums_before ps l block ranges indexes outer_arms counter
    pub arms_are : arms ≡ arms_after ps l block ranges indexes outer_arms counter
    pub ready : (Walked × (outer_arms ≡ no_arms)) ⊎ LoopsClosed ps (loop l block after) ranges
    pub around : Around outer_tail (enclosing ⊕ sum_over (trips ps l indexes) (trip_time ps l block indexes) ⊕ time ps after indexes)
        (entered + count_over (visited_trips ps l block ranges indexes (trips ps l indexes)) (trip_visits ps l block ranges indexes) + visits ps after ranges indexes)
        (keep_all keeps (choices_times ps after indexes) outer_arms)

  -- an open arm of a choice; in it no arms are kept
  pub record ChoiceLevel (Around : List Record → Bounds → ℕ → KeptArms → Type 0) (Walked : Type 0) (keeps : Bool) (ranges : List Range) (indexes : List ℤ)
      (passed : Option Bounds) (enclosing : Bounds) (tail : List Record) (total : Bounds) (count : ℕ) (arms : KeptArms) : Type 0 where
    pub open_arm : Block
    pub further : Option Arms
    pub after : Block
    pub outer_tail : List Record
    pub tail_is : tail ≡ further_records further (records after ++ outer_tail)
    pub arm_sound : Sound open_arm
    pub further_sound : FurtherSound further
    pub after_sound : Sound after
    pub total_is : total ≡ time ps open_arm indexes
    pub passed_ordered : PassedOrdered passed
    pub ready : (Walked × (arms ≡ no_arms)) ⊎ (FurtherClosed further ranges × LoopsClosed ps after ranges)
    pub around : Around outer_tail (enclosing ⊕ further_time further indexes (add_arm passed total) ⊕ time ps after indexes)
        (count + further_visits further ranges indexes + visits ps after ranges indexes)
        (keep_all keeps (choices_times ps after indexes) (keep_all keeps (total ∷ further_arms further indexes) arms))

  -- Of a sheet that comes to `whole` with `all` visits.
  module _ (whole : Bounds) (all : ℕ) where
    -- what is open comes to `total`, `count` and `arms`, and what is around it to what the sheet asks
    unfoldable pub Total : List Frame → List Record → Bounds → ℕ → KeptArms → Type 0
    Total [] tail total count arms = (tail ≡ []) × (total ≡ whole) × (count ≡ all) × (arms ≡ no_arms)
    Total (loop_frame l body counter sums enclosing ∷ fs) tail total count arms =
        LoopLevel (λ t b n a. Total fs t b n a) (AllWalked fs) (keeps_arms ps fs) (ranges_of ps fs) (indexes_of ps fs) l body counter sums enclosing
        tail total count arms
    Total (choice_frame passed enclosing ∷ fs) tail total count arms =
        ChoiceLevel (λ t b n a. Total fs t b n a) (AllWalked fs) (keeps_arms ps fs) (ranges_of ps fs) (indexes_of ps fs) passed enclosing tail total count arms

    -- no ranked loop is open, and so one in the tree may keep its arms; or every loop in the tree is closed
    abbrev pub Ready : KeptArms → List Frame → Block → Type 0
    Ready a fs b = (AllWalked fs × (a ≡ no_arms)) ⊎ LoopsClosed ps b (ranges_of ps fs)

    -- a state whose parts add up
    pub record AddsUp (s : State) : Type 0 where
      pub rest : Block
      pub tail : List Record
      pub remaining_is : s.remaining ≡ records rest ++ tail
      pub rest_sound : Sound rest
      pub ready : Ready s.arms s.frames rest
      pub level : Total s.frames tail (s.current ⊕ time ps rest (indexes_of ps s.frames))
          (s.visits + visits ps rest (ranges_of ps s.frames) (indexes_of ps s.frames))
          (keep_all (keeps_arms ps s.frames) (choices_times ps rest (indexes_of ps s.frames)) s.arms)

    -- every index lies in its range
    pub frames-inside : (fs : List Frame) (tail : List Record) (total : Bounds) (count : ℕ) (arms : KeptArms) → Total fs tail total count arms →
        Inside (indexes_of ps fs) (ranges_of ps fs)
    unfolding Total indexes_of ranges_of Inside
    frames-inside [] tail total count arms h = tt
    frames-inside (loop_frame l body counter sums enclosing ∷ fs) tail total count arms h =
        trips-inside ps l (ranges_of ps fs) (indexes_of ps fs) counter (frames-inside fs h.outer_tail _ _ _ h.around)
        (omega (arith, h.trip_visited, visited-most ps l h.block (ranges_of ps fs) (indexes_of ps fs) (trips ps l (indexes_of ps fs))))
    frames-inside (choice_frame passed enclosing ∷ fs) tail total count arms h = frames-inside fs h.outer_tail _ _ _ h.around

    -- what is open has no more visits than the sheet
    pub count-at-most : (fs : List Frame) (tail : List Record) (total : Bounds) (count : ℕ) (arms : KeptArms) → Total fs tail total count arms → count ≤ all
    unfolding Total
    count-at-most [] tail total count arms h = omega (arith, h.2)
    count-at-most (loop_frame l body counter sums enclosing ∷ fs) tail total count arms h =
        let visited : ℕ = visited_trips ps l h.block (ranges_of ps fs) (indexes_of ps fs) (trips ps l (indexes_of ps fs)) in
        let more = first-counts-at-most (suc counter) visited (trip_visits ps l h.block (ranges_of ps fs) (indexes_of ps fs)) h.trip_visited in
        omega (arith, h.count_is, more, count-at-most fs h.outer_tail _ _ _ h.around)
    count-at-most (choice_frame passed enclosing ∷ fs) tail total count arms h = omega (arith, count-at-most fs h.outer_tail _ _ _ h.around)

    -- and comes to at most what the sheet comes to
    pub total_at_most : whole.least ≤ whole.most → (fs : List Frame) (tail : List Record) (total : Bounds) (count : ℕ) (arms : KeptArms) → Total fs tail total count arms →
        (total.least ≤ total.most) × (total.most ≤ whole.most)
    unfolding Total
    total_at_most ordered [] tail total count arms h =
        let e = ap (λ (b : Bounds). b.least) h.1 in
        let f = ap (λ (b : Bounds). b.most) h.1 in
        (omega arith, omega arith)
    total_at_most ordered (loop_frame l body counter sums enclosing ∷ fs) tail total count arms h =
        let n : ℕ = trips ps l (indexes_of ps fs) in
        let i = total_at_most ordered fs h.outer_tail _ _ _ h.around in
        let e = ap (λ (b : Bounds). b.least) h.total_is in
        let f = ap (λ (b : Bounds). b.most) h.total_is in
        let made : counter < n = omega (arith, h.trip_visited, visited-most ps l h.block (ranges_of ps fs) (indexes_of ps fs) n) in
        let term = term-at-most n (trip_time ps l h.block (indexes_of ps fs)) counter made in
        (omega (arith, least≤most h.block h.block_sound ps (inner_indexes ps l (indexes_of ps fs) counter)), omega (arith, term.1, i.1))
    total_at_most ordered (choice_frame passed enclosing ∷ fs) tail total count arms h =
        let i = total_at_most ordered fs h.outer_tail _ _ _ h.around in
        let e = ap (λ (b : Bounds). b.least) h.total_is in
        let f = ap (λ (b : Bounds). b.most) h.total_is in (
          omega (arith, least≤most h.open_arm h.arm_sound ps (indexes_of ps fs)),
          omega (arith, i.1, joined-most passed total, further-most h.further (indexes_of ps fs) (add_arm passed total)),
        )

    -- so a state's visits are at most the sheet's
    pub visits-at-most : (s : State) → AddsUp s → s.visits ≤ all
    visits-at-most s h = omega (arith, count-at-most s.frames h.tail _ _ _ h.level)

    -- what is open comes to the same by another reckoning
    pub same_total : (fs : List Frame) (tail : List Record) {a b : Bounds} {m n : ℕ} {p q : KeptArms} → a ≡ b → m ≡ n → p ≡ q →
        Total fs tail a m p → Total fs tail b n q
    same_total fs tail {b = b} {m = m} {n = n} {p = p} e f g h =
        subst (λ (x : KeptArms). Total fs tail b n x) g
        (subst (λ (k : ℕ). Total fs tail b k p) f (subst (λ (x : Bounds). Total fs tail x m p) e h))

    -- where an end or a next arm stands, nothing remains of what is open
    pub closer-level : (r : Record) (ys : List Record) (c : Bounds) (fs : List Frame) (v : ℕ) (a : KeptArms) → (r ≡ end_record) ⊎ (r ≡ next_arm_record) →
        AddsUp (state_keeping a (r ∷ ys) c fs v) → Total fs (r ∷ ys) c v a
    unfolding records time visits_by choices_times keep_all
    closer-level r ys c fs v a closer h = go h.rest h.tail h.remaining_is h.level closer
      where
        go : (b : Block) (tail : List Record) → r ∷ ys ≡ records b ++ tail →
            Total fs tail (c ⊕ time ps b (indexes_of ps fs)) (v + visits ps b (ranges_of ps fs) (indexes_of ps fs))
            (keep_all (keeps_arms ps fs) (choices_times ps b (indexes_of ps fs)) a) →
            (r ≡ end_record) ⊎ (r ≡ next_arm_record) → Total fs (r ∷ ys) c v a
        go empty tail e h closer = subst (λ rs. Total fs rs c v a) (sym e) (same_total fs tail (⊕-zero c) (omega arith) refl h)
        go (work least most rest) tail e h (inl p) = absurd (let z : ◌≡◌ {A = ℕ} 0 1 = cc in omega arith)
        go (work least most rest) tail e h (inr p) = absurd (let z : ◌≡◌ {A = ℕ} 0 1 = cc in omega arith)
        go (loop l body rest) tail e h (inl p) = absurd (let z : ◌≡◌ {A = ℕ} 0 1 = cc in omega arith)
        go (loop l body rest) tail e h (inr p) = absurd (let z : ◌≡◌ {A = ℕ} 0 1 = cc in omega arith)
        go (choice arms rest) tail e h (inl p) = absurd (let z : ◌≡◌ {A = ℕ} 0 1 = cc in omega arith)
        go (choice arms rest) tail e h (inr p) = absurd (let z : ◌≡◌ {A = ℕ} 0 1 = cc in omega arith)

    no-further : (arms : Option Arms) (q : List Record) → [] ≡ further_records arms q → ⊥
    unfolding further_records
    no-further none q t = nil-is-not-cons t
    no-further (some arms) q t = nil-is-not-cons t

    nothing-open : (fs : List Frame) (c : Bounds) (v : ℕ) (a : KeptArms) → Total fs [] c v a → (fs ≡ []) × (c ≡ whole) × (v ≡ all) × (a ≡ no_arms)
    unfolding Total
    nothing-open [] c v a h = (refl, h.1, h.2, h.3)
    nothing-open (loop_frame l body counter sums enclosing ∷ fs) c v a h = nil-is-not-cons h.tail_is
    nothing-open (choice_frame passed enclosing ∷ fs) c v a h = absurd (no-further h.further _ h.tail_is)

    -- where nothing remains, nothing is open: this is the state at the sheet's end
    pub ended-state : (s : State) → AddsUp s → s.remaining ≡ [] → s ≡ state [] whole [] all
    unfolding records time visits_by choices_times keep_all
    ended-state s a e = go s.frames a.rest a.tail (sym e ∙ a.remaining_is) a.level ∙ ap (λ (rs : List Record). state rs whole [] all) e
      where
        go : (fs : List Frame) (b : Block) (tail : List Record) → [] ≡ records b ++ tail →
            Total fs tail (s.current ⊕ time ps b (indexes_of ps fs)) (s.visits + visits ps b (ranges_of ps fs) (indexes_of ps fs))
            (keep_all (keeps_arms ps fs) (choices_times ps b (indexes_of ps fs)) s.arms) →
            state_keeping s.arms s.remaining s.current fs s.visits ≡ state s.remaining whole [] all
        go fs empty tail t h =
            let here = subst (λ (xs : List Record). Total fs xs s.current s.visits s.arms) (sym t)
            (same_total fs tail (⊕-zero s.current) (omega arith) refl h) in
            let at = nothing-open fs s.current s.visits s.arms here in
            λ i. state_keeping (at.3 i) s.remaining (at.1 i) (at.0 i) (at.2 i)
        go fs (work least most rest) tail t h = nil-is-not-cons t
        go fs (loop l body rest) tail t h = nil-is-not-cons t
        go fs (choice arms rest) tail t h = nil-is-not-cons t

    -- around an open loop that is not closed every loop is walked
    walked-around-frames : (fs : List Frame) (tail : List Record) (total : Bounds) (count : ℕ) (arms : KeptArms) → Total fs tail total count arms → WalkedAround fs
    unfolding Total WalkedAround LoopsClosed
    walked-around-frames [] tail total count arms h = tt
    walked-around-frames (loop_frame l body counter sums enclosing ∷ fs) tail total count arms h =
        (go h.ready, walked-around-frames fs h.outer_tail _ _ _ h.around)
      where
        same : tree body ≡ h.block
        same = ap tree (h.body_is ∙ ap (λ rs. records h.block ++ rs) h.tail_is) ∙ tree-before-end h.block (records h.after ++ h.outer_tail)

        go : (AllWalked fs × (h.outer_arms ≡ no_arms)) ⊎ LoopsClosed ps (loop l h.block h.after) (ranges_of ps fs) →
            T (closed ps l (tree body) (ranges_of ps fs)) ⊎ AllWalked fs
        go (inl walked) = inr walked.0
        go (inr shut) = inl (subst (λ b. T (closed ps l b (ranges_of ps fs))) (sym same) shut.0)
    walked-around-frames (choice_frame passed enclosing ∷ fs) tail total count arms h = walked-around-frames fs h.outer_tail _ _ _ h.around

    pub walked-around : (s : State) → AddsUp s → WalkedAround s.frames
    walked-around s h = walked-around-frames s.frames h.tail _ _ _ h.level
