-- One record passed by the code's steps is one passed by the definition; a loop's end is in PassedTrips.
use mathlib.Core.List.{◌++◌, List, [], append-nil, ◌∷◌}
use mathlib.Core.Bool.{true}
use mathlib.Core.Option.{Option, none, some}
use mathlib.Core.Path.{ap, refl, subst, sym, ◌∙◌, ◌≡◌}
use mathlib.Core.Logic.{◌⊎◌, inl, inr}
use Prim.Native.Nat.{◌+◌, ◌<◌, suc, zero, ℕ}
use native.Mathlib.Omega.{arith}
use lib.ListN.{length}
use lib.IntN.{ℤ}
use Rattle.meaning.specs.Time.{bounds, entry_cost, exactly, trips, ◌⊕◌, Bounds}
use Rattle.meaning.specs.Stage.{Frame, KeptArms, add_arm, after_end, choice_frame, indexes_of, keep_arm, keeps_arms, loop_frame, pass, pass_record, state_keeping, trips_kept}
use Rattle.meaning.specs.Stage as Meaning
use Rattle.meaning.specs.Record.{Loop, Record, choice_record, end_record, kind, loop_record, next_arm_record, work_record}
use Rattle.meaning.specs.Limits.{depth_limit, open_limit}
use Rattle.meaning.proofs.KeptTrips.{keep_all-append}
use Rattle.meaning.proofs.RankedArms.{choices_times}
use Rattle.meaning.proofs.Levels.{AddsUp, Total, closer-level, frames-inside, further_arms, same_total}
use Rattle.meaning.proofs.AddingUp.{StepAddsUp, adds-up-pass}
use Rattle.layout.specs.Rows.{after_end_at, entry_cost_at, first_cost, frame_at, loop_at, loop_role, role_at, role_number, role_of, role_of_kind, second_cost, skip_cost}
use Rattle.state.specs.declared.State.{State}
use Rattle.state.specs.Open.{kept_arms_limit, filled}
use Rattle.trips.specs.Trips.{trips_at}
use Rattle.passing.specs.Pass.{Passage, begins, goes_on, keeps_arms_at, pass_choice, pass_loop, pass_straight_work}
use Rattle.stages.specs.Represent.{counter_numbers, open_of, struct_of}
use Rattle.stages.proofs.ArmsKept.{arm_total}
use Rattle.stages.specs.Laws.{defined_visits}
use Rattle.stages.proofs.Steps.{Fits, choice-left, choice-opens, loop-opens, loop-skipped, next-arm-opens, one-loop-more, open_loops, standing, work-passed}
use Rattle.stages.proofs.PlanLaws.{KnownPlan, row_is, trips-are}
use Rattle.stages.proofs.Standing.{Opener, Regular, choice-opener, choice-room, current-fits, frame-of, kept-length, loop-moves, loop-room}
use Rattle.stages.proofs.Standing.{passage_of, place_after, place_is, place-next, row_here, stands_here, struct_at, total-fits, whole}
use Rattle.stages.proofs.KeptChoices.{arm-has-room, keeps-arms}
use Rattle.stages.proofs.Places.{PlacedAt}

module _ {ps : List ℤ} {rs : List Record} {rows differences limits : List ℕ} (known : KnownPlan ps rs rows differences limits) where
  abbrev struct : Meaning.State → State
  struct s = struct_of ps rs s

  abbrev passed : List Frame → Meaning.State → Passage
  passed fs s = pass_loop rows differences limits (open_loops fs) (struct s)

  -- what is passed next adds up
  pub next-adds : (s : Meaning.State) → Regular known s → StepAddsUp ps (whole known) (defined_visits ps rs) (pass ps s)
  next-adds s g = adds-up-pass ps (whole known) (defined_visits ps rs) s g.adds

  -- the state that stands for one with a record still to pass, and for the one behind that record
  pub struct-here : {r : Record} {ys : List Record} (c : Bounds) (fs : List Frame) (a : KeptArms) (v : ℕ) (h : PlacedAt ps rs (r ∷ ys) fs) →
      struct (state_keeping a (r ∷ ys) c fs v) ≡ standing ps (length h.before) c v fs a
  struct-here {r} {ys} c fs a v h = struct_at known (length h.before) (r ∷ ys) c fs a v (place_is known h.before (r ∷ ys) h.split)

  pub struct-next : {r : Record} {ys : List Record} (fs : List Frame) (h : PlacedAt ps rs (r ∷ ys) fs) (c : Bounds) (gs : List Frame) (a : KeptArms) (v : ℕ) →
      standing ps (length h.before + 1) c v gs a ≡ struct (state_keeping a ys c gs v)
  struct-next {r} {ys} fs h c gs a v = sym (struct_at known (length h.before + 1) ys c gs a v (place-next known h.before r ys h.split))

  -- ---- straight work and choices

  pub passed-work : (least most : ℕ) (ys : List Record) (c : Bounds) (fs : List Frame) (a : KeptArms) (v : ℕ) → Regular known (state_keeping a (work_record least most ∷ ys) c fs v) →
      pass_straight_work rows (length rs) (struct (state_keeping a (work_record least most ∷ ys) c fs v))
      ≡ pass_straight_work rows (length rs) (struct (state_keeping a ys (c ⊕ bounds least most) fs v))
  unfolding role_of role_of_kind kind first_cost second_cost pass pass_record StepAddsUp
  passed-work least most ys c fs a v g =
      let h = g.place in
      let row = row_here known fs h in
      let fits = current-fits known (state_keeping a ys (c ⊕ bounds least most) fs v) (next-adds (state_keeping a (work_record least most ∷ ys) c fs v) g) in
      ap (pass_straight_work rows (length rs)) (struct-here c fs a v h)
      ∙ work-passed ps rows (length rs) (length h.before) c v fs a least most row.below row.role_is row.first_is row.second_is fits
      ∙ ap (pass_straight_work rows (length rs)) (struct-next fs h (c ⊕ bounds least most) fs a v)

  pub passed-choice : (ys : List Record) (c : Bounds) (fs : List Frame) (a : KeptArms) (v : ℕ) → Regular known (state_keeping a (choice_record ∷ ys) c fs v) →
      pass_choice rows limits (struct (state_keeping a (choice_record ∷ ys) c fs v)) ≡ struct (state_keeping a ys (exactly zero) (choice_frame none c ∷ fs) v)
  unfolding role_of role_of_kind kind
  passed-choice ys c fs a v g =
      let h = g.place in
      let row = row_here known fs h in
      let room = choice-room known fs (stands_here known fs h) in
      ap (pass_choice rows limits) (struct-here c fs a v h)
      ∙ choice-opens ps rows limits (length h.before) c v fs a row.role_is (frame-of known fs row room) room
      ∙ struct-next fs h (exactly zero) (choice_frame none c ∷ fs) a v

  -- the end of an arm
  module _ (r : Record) (ys : List Record) (arms : Option Bounds) (enclosing c : Bounds) (fs : List Frame) (a : KeptArms) (v : ℕ)
      (closes : (r ≡ end_record) ⊎ (r ≡ next_arm_record)) (g : Regular known (state_keeping a (r ∷ ys) c (choice_frame arms enclosing ∷ fs) v)) where
    abbrev gs : List Frame
    gs = choice_frame arms enclosing ∷ fs

    arm_opener : (following : List Record) × Opener known (length g.place.before) choice_record following fs
    arm_opener = choice-opener known fs g.place

    arm-room : length fs < open_limit
    arm-room = choice-room known fs arm_opener.1.stands

    arm-frame : frame_at rows arm_opener.1.number ≡ length fs
    arm-frame = frame-of known fs (row_is known arm_opener.1.stands) arm-room

    arm-kept : keeps_arms_at rows limits arm_opener.1.number (open_of ps gs a) ≡ keeps_arms ps fs
    unfolding open_of counter_numbers
    arm-kept = keeps-arms known arm_opener.1.number arm_opener.0 fs arm_opener.1.outer_numbers arm_opener.1.stands arm_opener.1.framed (open_of ps gs a) refl

    arm-fits : keeps_arms ps fs ≡ true → arm_total (trips_kept a) < kept_arms_limit
    unfolding Total
    arm-fits keeps =
        let level = closer-level ps (whole known) (defined_visits ps rs) r ys c gs v a closes g.adds in
        let own : List Bounds = c ∷ further_arms ps level.further (indexes_of ps fs) in
        let behind : List Bounds = choices_times ps level.after (indexes_of ps fs) in
        arm-has-room known fs arm_opener.1.outer_numbers level.outer_tail _ _ (own ++ behind) a arm_opener.1.framed keeps
        (same_total ps (whole known) (defined_visits ps rs) fs level.outer_tail refl refl (sym (keep_all-append (keeps_arms ps fs) own behind a)) level.around) (omega arith)

  pub passed-next-arm : (ys : List Record) (arms : Option Bounds) (enclosing c : Bounds) (fs : List Frame) (a : KeptArms) (v : ℕ) →
      Regular known (state_keeping a (next_arm_record ∷ ys) c (choice_frame arms enclosing ∷ fs) v) →
      pass_choice rows limits (struct (state_keeping a (next_arm_record ∷ ys) c (choice_frame arms enclosing ∷ fs) v))
      ≡ struct (state_keeping (keep_arm (keeps_arms ps fs) a c) ys (exactly zero) (choice_frame (some (add_arm arms c)) enclosing ∷ fs) v)
  unfolding role_of role_of_kind kind
  passed-next-arm ys arms enclosing c fs a v g =
      let h = g.place in
      let closes : (next_arm_record ≡ end_record) ⊎ (next_arm_record ≡ next_arm_record) = inr refl in
      let o = (arm_opener next_arm_record ys arms enclosing c fs a v closes g).1 in
      ap (pass_choice rows limits) (struct-here c (choice_frame arms enclosing ∷ fs) a v h)
      ∙ next-arm-opens ps rows limits (length h.before) o.number arms enclosing c v fs a o.found (arm-frame next_arm_record ys arms enclosing c fs a v closes g)
      (arm-room next_arm_record ys arms enclosing c fs a v closes g) (keeps_arms ps fs) (arm-kept next_arm_record ys arms enclosing c fs a v closes g)
      (arm-fits next_arm_record ys arms enclosing c fs a v closes g) (row_here known (choice_frame arms enclosing ∷ fs) h).role_is
      ∙ struct-next (choice_frame arms enclosing ∷ fs) h (exactly zero) (choice_frame (some (add_arm arms c)) enclosing ∷ fs) (keep_arm (keeps_arms ps fs) a c) v

  pub passed-choice-end : (ys : List Record) (arms : Option Bounds) (enclosing c : Bounds) (fs : List Frame) (a : KeptArms) (v : ℕ) →
      Regular known (state_keeping a (end_record ∷ ys) c (choice_frame arms enclosing ∷ fs) v) →
      pass_choice rows limits (struct (state_keeping a (end_record ∷ ys) c (choice_frame arms enclosing ∷ fs) v))
      ≡ struct (state_keeping (keep_arm (keeps_arms ps fs) a c) ys (enclosing ⊕ add_arm arms c) fs v)
  unfolding role_of role_of_kind kind pass pass_record StepAddsUp
  passed-choice-end ys arms enclosing c fs a v g =
      let h = g.place in
      let closes : (end_record ≡ end_record) ⊎ (end_record ≡ next_arm_record) = inl refl in
      let o = (arm_opener end_record ys arms enclosing c fs a v closes g).1 in
      let fits = current-fits known (state_keeping (keep_arm (keeps_arms ps fs) a c) ys (enclosing ⊕ add_arm arms c) fs v)
      (next-adds (state_keeping a (end_record ∷ ys) c (choice_frame arms enclosing ∷ fs) v) g) in
      ap (pass_choice rows limits) (struct-here c (choice_frame arms enclosing ∷ fs) a v h)
      ∙ choice-left ps rows limits (length h.before) o.number arms enclosing c v fs a o.found (arm-frame end_record ys arms enclosing c fs a v closes g)
      (arm-room end_record ys arms enclosing c fs a v closes g) (keeps_arms ps fs) (arm-kept end_record ys arms enclosing c fs a v closes g)
      (arm-fits end_record ys arms enclosing c fs a v closes g) (row_here known (choice_frame arms enclosing ∷ fs) h).role_is fits
      ∙ struct-next (choice_frame arms enclosing ∷ fs) h (enclosing ⊕ add_arm arms c) fs (keep_arm (keeps_arms ps fs) a c) v

  -- ---- loops

  -- a loop's record
  module _ (l : Loop) (ys : List Record) (c : Bounds) (fs : List Frame) (a : KeptArms) (v : ℕ) (g : Regular known (state_keeping a (loop_record l ∷ ys) c fs v)) where
    abbrev made : ℕ
    made = trips ps l (indexes_of ps fs)

    abbrev entered : Bounds
    entered = c ⊕ exactly (entry_cost l made)

    abbrev at : ℕ
    at = length g.place.before

    trips-entered : trips_at differences (open_of ps fs a).counters (loop_at rows at) ≡ made
    unfolding open_of
    trips-entered =
        let h = g.place in
        let inside = frames-inside ps (whole known) (defined_visits ps rs) fs g.adds.tail _ _ _ g.adds.level in
        ap (λ (ns : List ℕ). trips_at differences (filled 0 depth_limit ns) (loop_at rows at)) (sym (append-nil (counter_numbers fs)))
        ∙ trips-are known fs (stands_here known fs h) inside [] (loop-moves known fs h)

    cost-of : (n : ℕ) → entry_cost_at rows at n ≡ entry_cost l n
    unfolding entry_cost_at entry_cost first_cost skip_cost
    cost-of zero = (row_here known fs g.place).skip_is
    cost-of (suc n) = (row_here known fs g.place).first_is

    cost-is : entry_cost_at rows at made ≡ entry_cost l made
    cost-is = cost-of made

    loop-role : role_at rows at ≡ role_number loop_role
    unfolding role_of role_of_kind kind
    loop-role = (row_here known fs g.place).role_is

    -- no trip is made
    entered-none : made ≡ 0 → passed fs (state_keeping a (loop_record l ∷ ys) c fs v) ≡ passage_of ps rs (Meaning.enter_loop ps zero l ys c fs a v)
    unfolding passage_of Meaning.enter_loop pass pass_record StepAddsUp
    entered-none e =
        let h = g.place in
        let next : AddsUp ps (whole known) (defined_visits ps rs) (state_keeping a (after_end zero ys) (c ⊕ exactly (entry_cost l zero)) fs v) =
        subst (λ (m : ℕ). StepAddsUp ps (whole known) (defined_visits ps rs) (Meaning.enter_loop ps m l ys c fs a v)) e (next-adds (state_keeping a (loop_record l ∷ ys) c fs v) g) in
        let cost : entered ≡ c ⊕ exactly (entry_cost l zero) = ap (λ (m : ℕ). c ⊕ exactly (entry_cost l m)) e in
        ap (pass_loop rows differences limits (open_loops fs)) (struct-here c fs a v h)
        ∙ loop-skipped ps rows differences limits at c v l ys fs a loop-role made trips-entered cost-is (subst Fits (sym cost) (current-fits known _ next)) (open_loops fs) e
        ∙ ap (λ (b : Bounds). goes_on (open_loops fs) (standing ps (after_end_at rows at) b v fs a)) cost
        ∙ ap (goes_on (open_loops fs)) (sym (struct_at known (after_end_at rows at) (after_end zero ys) (c ⊕ exactly (entry_cost l zero)) fs a v (place_after known fs h)))

    -- the first trip opens
    entered-some : (n : ℕ) → made ≡ suc n → passed fs (state_keeping a (loop_record l ∷ ys) c fs v) ≡ passage_of ps rs (Meaning.enter_loop ps (suc n) l ys c fs a v)
    unfolding passage_of Meaning.enter_loop pass pass_record StepAddsUp Total
    entered-some n e =
        let h = g.place in
        let frames : Bounds → List Frame = λ b. loop_frame l ys zero [] b ∷ fs in
        let next : AddsUp ps (whole known) (defined_visits ps rs) (state_keeping a ys (exactly zero) (frames (c ⊕ exactly (entry_cost l (suc n)))) (suc v)) =
        subst (λ (m : ℕ). StepAddsUp ps (whole known) (defined_visits ps rs) (Meaning.enter_loop ps m l ys c fs a v)) e (next-adds (state_keeping a (loop_record l ∷ ys) c fs v) g) in
        let cost : entered ≡ c ⊕ exactly (entry_cost l (suc n)) = ap (λ (m : ℕ). c ⊕ exactly (entry_cost l m)) e in
        let around = total-fits known fs next.level.outer_tail _ _ _ next.level.around in
        let fits : Fits (c ⊕ exactly (entry_cost l (suc n))) = record { least_fits = omega (arith, around.least_fits); most_fits = omega (arith, around.most_fits) } in
        let rooms = loop-room known fs (stands_here known fs h) in
        ap (pass_loop rows differences limits (open_loops fs)) (struct-here c fs a v h)
        ∙ loop-opens ps rows differences limits at c v l ys fs a loop-role made trips-entered cost-is (subst Fits (sym cost) fits) n e
        (frame-of known fs (row_here known fs h) rooms.0) rooms.0 rooms.1 (kept-length ps fs (omega (arith, rooms.1))) g.few
        ∙ ap (λ (b : Bounds). begins (open_loops fs + 1) (standing ps (at + 1) (exactly zero) (suc v) (frames b) a)) cost
        ∙ (λ i. begins (one-loop-more l ys zero [] (c ⊕ exactly (entry_cost l (suc n))) fs i) (struct-next fs h (exactly zero) (frames (c ⊕ exactly (entry_cost l (suc n)))) a (suc v) i))

    pub passed-loop : passed fs (state_keeping a (loop_record l ∷ ys) c fs v) ≡ passage_of ps rs (pass ps (state_keeping a (loop_record l ∷ ys) c fs v))
    unfolding pass pass_record
    passed-loop = go made refl
      where
        go : (n : ℕ) → made ≡ n → passed fs (state_keeping a (loop_record l ∷ ys) c fs v) ≡ passage_of ps rs (Meaning.enter_loop ps n l ys c fs a v)
        go zero e = entered-none e
        go (suc n) e = entered-some n e
