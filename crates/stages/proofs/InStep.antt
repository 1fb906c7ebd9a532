-- A stage of the code is a stage of the definition, from every state that adds up and is in its place.
use mathlib.Core.Bool.{Bool, cond, false, true}
use mathlib.Core.List.{List, [], ◌∷◌}
use mathlib.Core.Path.{ap, ap₂, refl, subst, sym, ◌∙◌, ◌≡◌}
use mathlib.Core.Option.{none, some}
use Prim.Native.Nat.{◌-◌, ◌<◌, min, suc, zero, ℕ, ◌≤◌}
use native.Mathlib.Omega.{arith}
use lib.Dec.{eqb, ltb}
use lib.ListN.{length, length-append}
use lib.IntN.{ℤ}
use borrow.Author.Tests.{lt-ltb, le-ltb}
use Rattle.meaning.specs.Time.{Bounds, bounds, exactly, ◌⊕◌}
use Rattle.meaning.specs.Stage.{Frame, KeptArms, Step, add_arm, and_on, choice_frame, keep_arm, keeps_arms, loop_frame, pass, pass_record, state_keeping, state_of}
use Rattle.meaning.specs.Stage as Meaning
use Rattle.meaning.specs.Record.{Record, choice_record, end_record, kind, loop_depth, loop_record, next_arm_record, work_record}
use Rattle.meaning.specs.Limits.{depth_limit, record_limit}
use Rattle.meaning.proofs.Passes.{PassDoes, pass-does, stage-at-end, stage-unrolls}
use Rattle.meaning.proofs.AddingUp.{StepAddsUp, adds-up-pass}
use Rattle.layout.specs.declared.rows.Role.{Role}
use Rattle.layout.specs.Rows.{choice_role, end_role, loop_role, next_arm_role, depth_at, opener_at, role_at, role_number, role_of, role_of_kind, straight_role}
use Rattle.state.specs.declared.State.{State}
use Rattle.evaluator.specs.Machine.{Following, body_evaluator, following_at, loop_evaluator, nothing, of_choice, of_loop, pass_following, stage_on, unless_begun}
use Rattle.passing.specs.Pass.{Passage, goes_on, is_of_loop, pass_choice, pass_loop, pass_straight_work}
use Rattle.stages.specs.Represent.{counter_numbers, struct_of}
use Rattle.stages.specs.Next.{stage_of}
use Rattle.stages.specs.Laws.{defined_visits}
use Rattle.stages.proofs.PlanLaws.{KnownPlan, loops-count, row_is}
use Rattle.stages.proofs.Standing.{Opener, Regular, choice-opener, frames-shallow, loop-opener, passage_of, place_is, row_here, struct_at, whole}
use Rattle.stages.proofs.Places.{Placed, PlacedAt, opens_of, placed-record}
use Rattle.stages.proofs.Steps.{no_record, no-work, open_loops}
use Rattle.stages.proofs.PassedRecords.{passed-choice, passed-choice-end, passed-loop, passed-next-arm, passed-work}
use Rattle.stages.proofs.PassedTrips.{passed-loop-end}

module _ {ps : List ℤ} {rs : List Record} {rows differences limits : List ℕ} (known : KnownPlan ps rs rows differences limits) where
  abbrev struct : Meaning.State → State
  struct s = struct_of ps rs s

  abbrev passage : Step → Passage
  passage p = passage_of ps rs p

  -- where the stage goes on, the state is regular and fewer records remain
  regular-next : (s t : Meaning.State) → Regular known s → pass ps s ≡ Meaning.going t → Regular known t × (length t.remaining < length s.remaining)
  unfolding StepAddsUp PassDoes state_of
  regular-next s t g e =
      let does = subst (PassDoes s) e (pass-does ps s) in
      let same = does.0 in (
        record {
          adds = subst (StepAddsUp ps (whole known) (defined_visits ps rs)) e (adds-up-pass ps (whole known) (defined_visits ps rs) s g.adds);
          place = subst (λ (p : Step). Placed ps rs (state_of p)) e (unfold pass in placed-record ps rs known.placed s.remaining s.current s.frames s.arms s.visits g.place);
          few = omega (arith, g.few);
        },
        does.1,
      )

  -- ---- a whole stage

  abbrev body : ℕ → ℕ → State → Passage
  body left depth s = body_evaluator rows differences limits (length rs) left depth s

  abbrev body_at : ℕ → Meaning.State → Passage
  body_at left t = body left (open_loops t.frames) (struct t)

  abbrev follow : Following → ℕ → ℕ → State → Passage
  follow following left depth s = pass_following rows differences limits following (λ e u. body left e u) depth s

  -- from fewer records, `left` of them at most that are no straight work
  abbrev InStepFrom : ℕ → ℕ → Type 0
  InStepFrom n left = (t : Meaning.State) → length t.remaining ≤ n → length t.remaining ≤ left → Regular known t → body_at left t ≡ passage (Meaning.stage ps t)

  -- where no straight work stands
  module _ (r : Record) (ys : List Record) (c : Bounds) (fs : List Frame) (a : KeptArms) (v : ℕ) (g : Regular known (state_keeping a (r ∷ ys) c fs v))
      (no_work : eqb (role_number (role_of r)) (role_number straight_role) ≡ false) where
    abbrev here : Meaning.State
    here = state_keeping a (r ∷ ys) c fs v

    abbrev at : ℕ
    at = length g.place.before

    at_here : (struct here).at ≡ at
    unfolding struct_of
    at_here = place_is known g.place.before (r ∷ ys) g.place.split

    works-none : pass_straight_work rows (length rs) (struct here) ≡ struct here
    works-none =
        let stands = struct_at known at (r ∷ ys) c fs a v (place_is known g.place.before (r ∷ ys) g.place.split) in
        let role = ap (λ (n : ℕ). eqb n (role_number straight_role)) (row_here known fs g.place).role_is ∙ no_work in
        ap (pass_straight_work rows (length rs)) stands ∙ no-work ps rows (length rs) at c v fs a role ∙ sym stands

    follows : (b : Bool) → is_of_loop rows at ≡ b → following_at rows (length rs) (struct here).at ≡ cond b of_loop of_choice
    unfolding following_at
    follows b e =
        ap (following_at rows (length rs)) at_here
        ∙ ap₂ (λ (x : Bool) (y : Bool). cond x (cond y of_loop of_choice) nothing) (lt-ltb at (length rs) (row_here known fs g.place).below) e

    body-goes : (left : ℕ) (b : Bool) → is_of_loop rows at ≡ b → body_at (suc left) here ≡ follow (cond b of_loop of_choice) left (open_loops fs) (struct here)
    unfolding body_evaluator
    body-goes left b e =
        ap (λ (t : State). follow (following_at rows (length rs) t.at) left (open_loops fs) t) works-none
        ∙ ap (λ (x : Following). follow x left (open_loops fs) (struct here)) (follows b e)

    -- a loop or a loop's end
    loop-in-step : (left : ℕ) → length ys ≤ left → InStepFrom (length ys) left → is_of_loop rows at ≡ true →
        pass_loop rows differences limits (open_loops fs) (struct here) ≡ passage (pass ps here) → body_at (suc left) here ≡ passage (Meaning.stage ps here)
    unfolding pass_following loop_evaluator
    loop-in-step left few further is_loop passed =
        body-goes left true is_loop ∙ ap (λ (p : Passage). unless_begun p.begun (λ e u. body left e u) p) passed ∙ go (pass ps here) refl
        ∙ ap passage (sym (stage-unrolls ps here))
      where
        go : (p : Step) → pass ps here ≡ p → unless_begun (passage p).begun (λ e u. body left e u) (passage p) ≡ passage (and_on (λ t. Meaning.stage ps t) p)
        go (Meaning.going t) e = unfold unless_begun and_on passage_of in (let next = regular-next here t g e in further t (omega (arith, next.1)) (omega (arith, next.1)) next.0)
        go (Meaning.begins_visit t) e = unfold unless_begun and_on passage_of in refl
        go (Meaning.at_end t) e = unfold PassDoes in
            absurd (let does = subst (PassDoes here) e (pass-does ps here) in omega (arith, ap (λ (xs : List Record). length xs) does.1))
        go (Meaning.stuck t) e = unfold StepAddsUp in absurd (subst (StepAddsUp ps (whole known) (defined_visits ps rs)) e (adds-up-pass ps (whole known) (defined_visits ps rs) here g.adds))

    -- a choice, a next arm or a choice's end
    choice-in-step : (left : ℕ) → length ys ≤ left → InStepFrom (length ys) left → is_of_loop rows at ≡ false → (t : Meaning.State) → pass ps here ≡ Meaning.going t →
        open_loops fs ≡ open_loops t.frames → pass_choice rows limits (struct here) ≡ struct t → body_at (suc left) here ≡ passage (Meaning.stage ps here)
    unfolding pass_following and_on
    choice-in-step left few further is_choice t e depth passed =
        let next = regular-next here t g e in
        body-goes left false is_choice ∙ ap₂ (λ (d : ℕ) (s : State). body left d s) depth passed ∙ further t (omega (arith, next.1)) (omega (arith, next.1)) next.0
        ∙ ap passage (sym (stage-unrolls ps here ∙ ap (and_on (λ u. Meaning.stage ps u)) e))

  -- what stands at a record: a loop or its end
  of-loop : (number : ℕ) (role : Role) → role_at rows number ≡ role_number role →
      is_of_loop rows number ≡ cond (eqb (role_number role) (role_number end_role)) (eqb (role_at rows (opener_at rows number)) (role_number loop_role)) (eqb (role_number role) (role_number loop_role))
  unfolding is_of_loop
  of-loop number role e =
      ap (λ (n : ℕ). cond (eqb n (role_number end_role)) (eqb (role_at rows (opener_at rows number)) (role_number loop_role)) (eqb n (role_number loop_role))) e

  -- an end, by what opened it
  of-opener : {r : Record} {following : List Record} {number : ℕ} (fs : List Frame) → role_at rows number ≡ role_number end_role → (o : Opener known number r following fs) →
      is_of_loop rows number ≡ eqb (role_number (role_of r)) (role_number loop_role)
  unfolding role_number
  of-opener {r} {following} {number} fs role o =
      of-loop number end_role role ∙ ap (λ (n : ℕ). eqb n (role_number loop_role)) (ap (role_at rows) o.found ∙ (row_is known o.stands).role_is)

  -- the sheet's end
  module _ (c : Bounds) (fs : List Frame) (a : KeptArms) (v : ℕ) where
    abbrev ended : Meaning.State
    ended = state_keeping a [] c fs v

    stays : pass_straight_work rows (length rs) (struct ended) ≡ struct ended
    stays =
        let e = struct_at known (length rs) [] c fs a v (let z : length rs - 0 ≡ length rs = omega arith in z) in
        ap (pass_straight_work rows (length rs)) e ∙ no_record ps rows (length rs) (length rs) c v fs a (omega arith) ∙ sym e

    past : ltb (struct ended).at (length rs) ≡ false
    unfolding struct_of
    past = le-ltb (length rs - 0) (length rs) (omega arith)

    end-in-step : (left depth : ℕ) → body left depth (struct ended) ≡ goes_on depth (struct ended)
    unfolding body_evaluator pass_following following_at
    end-in-step zero depth = ap (goes_on depth) stays
    end-in-step (suc left) depth =
        ap (λ (t : State). follow (following_at rows (length rs) t.at) left depth t) stays
        ∙ ap (λ (b : Bool). follow (cond b (cond (is_of_loop rows (struct ended).at) of_loop of_choice) nothing) left depth (struct ended)) past

  -- straight work is passed with what follows
  same-works : (left depth : ℕ) (s t : State) → pass_straight_work rows (length rs) s ≡ pass_straight_work rows (length rs) t → body left depth s ≡ body left depth t
  unfolding body_evaluator
  same-works zero depth s t e = ap (goes_on depth) e
  same-works (suc left) depth s t e = ap (λ (x : State). follow (following_at rows (length rs) x.at) left depth x) e

  -- a stage from where a record stands
  record-in-step : (left : ℕ) (r : Record) (ys : List Record) (c : Bounds) (fs : List Frame) (a : KeptArms) (v : ℕ) → InStepFrom (length ys) (suc left) → InStepFrom (length ys) left →
      length ys ≤ left → Regular known (state_keeping a (r ∷ ys) c fs v) → body_at (suc left) (state_keeping a (r ∷ ys) c fs v) ≡ passage (Meaning.stage ps (state_keeping a (r ∷ ys) c fs v))
  unfolding pass pass_record StepAddsUp and_on role_of role_of_kind kind role_number
  record-in-step left (work_record least most) ys c fs a v further fewer few g =
      let here : Meaning.State = state_keeping a (work_record least most ∷ ys) c fs v in
      let behind : Meaning.State = state_keeping a ys (c ⊕ bounds least most) fs v in
      same-works (suc left) (open_loops fs) (struct here) (struct behind) (passed-work known least most ys c fs a v g)
      ∙ further behind (omega arith) (omega arith) (regular-next here behind g refl).0 ∙ ap passage (sym (stage-unrolls ps here))
  record-in-step left (loop_record l) ys c fs a v further fewer few g =
      loop-in-step (loop_record l) ys c fs a v g refl left few fewer (of-loop (length g.place.before) loop_role (row_here known fs g.place).role_is) (passed-loop known l ys c fs a v g)
  record-in-step left choice_record ys c fs a v further fewer few g =
      choice-in-step choice_record ys c fs a v g refl left few fewer (of-loop (length g.place.before) choice_role (row_here known fs g.place).role_is)
      (state_keeping a ys (exactly zero) (choice_frame none c ∷ fs) v) refl (unfold counter_numbers in refl) (passed-choice known ys c fs a v g)
  record-in-step left next_arm_record ys c [] a v further fewer few g = absurd (adds-up-pass ps (whole known) (defined_visits ps rs) (state_keeping a (next_arm_record ∷ ys) c [] v) g.adds)
  record-in-step left next_arm_record ys c (loop_frame l body j sums enclosing ∷ fs) a v further fewer few g =
      absurd (adds-up-pass ps (whole known) (defined_visits ps rs) (state_keeping a (next_arm_record ∷ ys) c (loop_frame l body j sums enclosing ∷ fs) v) g.adds)
  record-in-step left next_arm_record ys c (choice_frame arms enclosing ∷ fs) a v further fewer few g =
      let gs : List Frame = choice_frame arms enclosing ∷ fs in
      choice-in-step next_arm_record ys c gs a v g refl left few fewer (of-loop (length g.place.before) next_arm_role (row_here known gs g.place).role_is)
      (state_keeping (keep_arm (keeps_arms ps fs) a c) ys (exactly zero) (choice_frame (some (add_arm arms c)) enclosing ∷ fs) v) refl (unfold counter_numbers in refl) (passed-next-arm known ys arms enclosing c fs a v g)
  record-in-step left end_record ys c [] a v further fewer few g = absurd (adds-up-pass ps (whole known) (defined_visits ps rs) (state_keeping a (end_record ∷ ys) c [] v) g.adds)
  record-in-step left end_record ys c (choice_frame arms enclosing ∷ fs) a v further fewer few g =
      let gs : List Frame = choice_frame arms enclosing ∷ fs in
      let o = choice-opener known fs g.place in
      choice-in-step end_record ys c gs a v g refl left few fewer (of-opener fs (row_here known gs g.place).role_is o.1)
      (state_keeping (keep_arm (keeps_arms ps fs) a c) ys (enclosing ⊕ add_arm arms c) fs v) refl (unfold counter_numbers in refl) (passed-choice-end known ys arms enclosing c fs a v g)
  record-in-step left end_record ys c (loop_frame l body j sums enclosing ∷ fs) a v further fewer few g =
      let gs : List Frame = loop_frame l body j sums enclosing ∷ fs in
      loop-in-step end_record ys c gs a v g refl left few fewer (of-opener fs (row_here known gs g.place).role_is (loop-opener known fs g.place))
      (passed-loop-end known ys l body j sums enclosing c fs a v g)

  in-step-from : (n left : ℕ) (remaining : List Record) (c : Bounds) (fs : List Frame) (a : KeptArms) (v : ℕ) → length remaining ≤ n → length remaining ≤ left →
      Regular known (state_keeping a remaining c fs v) → body_at left (state_keeping a remaining c fs v) ≡ passage (Meaning.stage ps (state_keeping a remaining c fs v))
  unfolding passage_of
  in-step-from zero left [] c fs a v h k g = end-in-step c fs a v left (open_loops fs) ∙ ap passage (sym (stage-at-end ps c fs a v))
  in-step-from zero left (r ∷ ys) c fs a v h k g = absurd (omega arith)
  in-step-from (suc n) left [] c fs a v h k g = end-in-step c fs a v left (open_loops fs) ∙ ap passage (sym (stage-at-end ps c fs a v))
  in-step-from (suc n) zero (r ∷ ys) c fs a v h k g = absurd (omega arith)
  in-step-from (suc n) (suc left) (r ∷ ys) c fs a v h k g =
      record-in-step left r ys c fs a v (λ t few. in-step-from n (suc left) t.remaining t.current t.frames t.arms t.visits (omega arith))
      (λ t few. in-step-from n left t.remaining t.current t.frames t.arms t.visits (omega arith)) (omega arith) g

  -- the plan says how many loops are open
  depth-here : {r : Record} {ys : List Record} (fs : List Frame) (h : PlacedAt ps rs (r ∷ ys) fs) → depth_at rows (length h.before) ≡ open_loops fs
  depth-here fs h =
      let all : min (loop_depth (opens_of fs)) depth_limit ≡ open_loops fs =
      omega (arith, loops-count fs, frames-shallow known fs h.numbers h.framed) in
      (row_here known fs h).depth_is ∙ all

  -- a stage of the code is a stage of the definition
  pub stage-in-step : (s : Meaning.State) → Regular known s → stage_of (stage_on rows differences limits (length rs) (struct s)) ≡ stage_of (passage (Meaning.stage ps s))
  unfolding stage_on
  stage-in-step s g =
      let count : min (length rs) record_limit ≡ length rs = omega (arith, known.short) in
      ap (λ (m : ℕ). stage_of (body_evaluator rows differences limits m m (depth_at rows (struct s).at) (struct s))) count
      ∙ go s.remaining s.current s.frames s.arms s.visits g
    where
      go : (remaining : List Record) (c : Bounds) (fs : List Frame) (a : KeptArms) (v : ℕ) → Regular known (state_keeping a remaining c fs v) →
          stage_of (body (length rs) (depth_at rows (struct (state_keeping a remaining c fs v)).at) (struct (state_keeping a remaining c fs v)))
          ≡ stage_of (passage (Meaning.stage ps (state_keeping a remaining c fs v)))
      go [] c fs a v g = unfold passage_of in
          ap stage_of (end-in-step c fs a v (length rs) (depth_at rows (struct (state_keeping a [] c fs v)).at))
          ∙ ap (λ (p : Step). stage_of (passage p)) (sym (stage-at-end ps c fs a v))
      go (r ∷ ys) c fs a v g = unfold struct_of in
          let fits : length (r ∷ ys) ≤ length rs = omega (arith, ap (λ (xs : List Record). length xs) g.place.split, length-append g.place.before (r ∷ ys)) in
          let depth = ap (depth_at rows) (place_is known g.place.before (r ∷ ys) g.place.split) ∙ depth-here fs g.place in
          ap (λ (d : ℕ). stage_of (body (length rs) d (struct (state_keeping a (r ∷ ys) c fs v)))) depth
          ∙ ap stage_of (in-step-from (length (r ∷ ys)) (length rs) (r ∷ ys) c fs a v (omega arith) fits g)
