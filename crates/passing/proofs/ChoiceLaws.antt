-- A choice's records, passed step by step, and which records are a loop's.
use Rattle.std.specs.Prelude.{cond, is_some, None, Some, ◌-◌}
use Rattle.std.proofs.Common.{◌≡◌, ℕ, ◌<◌, ◌≤◌, Bool, true, false, not, ◌&&◌, eqb, ltb, List, sym, refl, ap, ◌∙◌, le-ltb, lt-ltb}
use denote.Enum.Bare.{sameb}
use Rattle.meaning.specs.Limits.{depth_limit}
use Rattle.layout.specs.contracts.rows.Role.{the_type}
use Rattle.layout.specs.declared.rows.Role.{Role}
use Rattle.layout.specs.Rows.{role_named, role_number, loop_role, end_role, choice_role}
use Rattle.layout.specs.Rows.{role_at, enclosing_at, around_named, opener_at, frame_at, depth_at, loop_at}
use Rattle.layout.specs.Loops.{some_ranked, ranked_at}
use Rattle.layout.proofs.Reading.{ranked-by}
use Rattle.layout.proofs.Roles.{role-true, role-false, role-test}
use Rattle.state.specs.declared.State.{State}
use Rattle.state.specs.declared.bounds.Bounds.{Bounds}
use Rattle.state.specs.declared.open.Open.{Open}
use Rattle.state.specs.declared.sums.Sums.{Sums}
use Rattle.state.specs.Open.{with_frames, counter_at}
use Rattle.state.specs.Sums.{from_zero}
use Rattle.state.specs.Frames.{arm_passed, frame_left, passed_around}
use Rattle.state.specs.States.{state_with}
use Rattle.trips.specs.Trips.{limit_within}
use Rattle.passing.specs.Pass.{at_next, open_choice, leave_arm, keeps_arms_at, open_arm_kept, open_arm_joined, pass_choice_where, pass_choice, is_of_loop}

-- the open arm has joined those passed, and another opens or the choice ends
module _ (rows : List ℕ) (frame : ℕ) (kept : Open) (s : State) {inside : State}
    (joins : inside ≡ state_with s.at s.sums (with_frames kept (arm_passed kept.frames frame s.sums.passed))) where
  ended :
      {outside : Sums} {after : Open} → outside ≡ passed_around inside.opened.frames frame inside.sums
      → after ≡ with_frames inside.opened (frame_left inside.opened.frames frame)
      → leave_arm rows true frame (state_with s.at s.sums kept) ≡ at_next (state_with inside.at outside after)
  unfolding leave_arm
  ended o a =
      let sums-after = o ∙ ap (λ (t : State). passed_around t.opened.frames frame t.sums) joins in
      let opened-after = a ∙ ap (λ (t : State). with_frames t.opened (frame_left t.opened.frames frame)) joins in
      sym (λ i. at_next (state_with (joins i).at (sums-after i) (opened-after i)))

  opened : {sums : Sums} → sums ≡ from_zero inside.sums → leave_arm rows false frame (state_with s.at s.sums kept) ≡ at_next (state_with inside.at sums inside.opened)
  unfolding leave_arm
  opened z =
      let sums-after = z ∙ ap (λ (t : State). from_zero t.sums) joins in
      sym (λ i. at_next (state_with (joins i).at (sums-after i) (joins i).opened))

module _ (rows : List ℕ) (at : ℕ) {role : Role} (named : role ≡ role_named (role_at rows at)) where
  module _ (limits : List ℕ) (s : State) (here : s.at ≡ at) where
    pub choice-opens : role ≡ choice_role → pass_choice rows limits s ≡ open_choice rows s
    unfolding pass_choice pass_choice_where
    choice-opens e =
        ap (λ (n : ℕ). pass_choice_where rows limits (eqb (role_at rows n) (role_number choice_role)) s) here
        ∙ ap (λ (b : Bool). pass_choice_where rows limits b s) (sym (role-true choice_role refl (role_at rows at) named e))

    abbrev kept : Open
    kept = open_arm_kept rows limits (opener_at rows s.at) s.sums.passed s.opened

    abbrev frame : ℕ
    frame = frame_at rows (opener_at rows s.at)

    -- the open arm is left
    arm-left : (role ≡ choice_role → ⊥) → {last : Bool} → last ≡ eqb (role_at rows at) (role_number end_role)
        → pass_choice rows limits s ≡ leave_arm rows last frame (state_with s.at s.sums kept)
    unfolding pass_choice pass_choice_where
    arm-left other l =
        ap (λ (n : ℕ). pass_choice_where rows limits (eqb (role_at rows n) (role_number choice_role)) s) here
        ∙ ap (λ (b : Bool). pass_choice_where rows limits b s) (sym (role-false choice_role refl (role_at rows at) named other))
        ∙ cc

    module _ {inside : State} (joins : inside ≡ open_arm_joined rows limits s) {place : ℕ} (f : place ≡ frame) where
      pub choice-ends :
          role ≡ end_role → {outside : Sums} {after : Open} → outside ≡ passed_around inside.opened.frames place inside.sums
          → after ≡ with_frames inside.opened (frame_left inside.opened.frames place) → pass_choice rows limits s ≡ at_next (state_with inside.at outside after)
      choice-ends e o a =
          arm-left (λ c. let clash = sym e ∙ c in cc) (role-true end_role refl (role_at rows at) named e)
          ∙ ended rows frame kept s joins (o ∙ ap (λ (n : ℕ). passed_around inside.opened.frames n inside.sums) f)
          (a ∙ ap (λ (n : ℕ). with_frames inside.opened (frame_left inside.opened.frames n)) f)

    pub next-arm-opens :
        {inside : State} → inside ≡ open_arm_joined rows limits s → (role ≡ choice_role → ⊥) → (role ≡ end_role → ⊥)
        → {sums : Sums} → sums ≡ from_zero inside.sums → pass_choice rows limits s ≡ at_next (state_with inside.at sums inside.opened)
    next-arm-opens joins other h z =
        arm-left other (role-false end_role refl (role_at rows at) named h) ∙ opened rows frame kept s joins z

  pub end-of-loop : role ≡ end_role → {opener : ℕ} {inner : Role} {r : Bool} → opener ≡ opener_at rows at → inner ≡ role_named (role_at rows opener)
      → r ≡ sameb the_type inner loop_role → r ≡ is_of_loop rows at
  unfolding is_of_loop
  end-of-loop e {opener} p q t =
      let last = sym (role-true end_role refl (role_at rows at) named e) in
      let inside = role-test loop_role refl (role_at rows opener) q t in cc

  pub loop-itself : (role ≡ end_role → ⊥) → {r : Bool} → r ≡ sameb the_type role loop_role → r ≡ is_of_loop rows at
  unfolding is_of_loop
  loop-itself h t =
      let other = sym (role-false end_role refl (role_at rows at) named h) in
      let loops = role-test loop_role refl (role_at rows at) named t in cc

-- ---- whether the arms of a choice are kept, test by test

around-none : (n : ℕ) (alone : Bool) → is_some (around_named n) ≡ not alone → alone ≡ eqb n 0
unfolding around_named
around-none n alone e = go (eqb n 0) alone e
  where
    go : (none alone : Bool) → is_some (cond none None (Some (n - 1))) ≡ not alone → alone ≡ none
    go true true e = refl
    go true false e = cc
    go false true e = cc
    go false false e = refl

module _ (rows limits : List ℕ) (choice : ℕ) (parts : Open) where
  abbrev keeps : Bool
  keeps = keeps_arms_at rows limits choice parts

  module _ {around number depth : ℕ} (o : around ≡ opener_at rows choice) (j : number ≡ loop_at rows around) (d : depth ≡ depth_at rows around)
      {ranked : Bool} (r : ranked ≡ ranked_at limits number) where
    tests :
        ranked
        && (not (eqb (enclosing_at rows choice) 0)
        && (eqb (role_at rows around) (role_number loop_role) && (ltb depth depth_limit && ltb (counter_at parts depth) (limit_within limits number depth))))
        ≡ keeps
    unfolding keeps_arms_at
    tests = cc

    pub not-ranked : ranked ≡ false → false ≡ keeps
    not-ranked e = let t = tests in cc

    module _ (yes : ranked ≡ true) {alone : Bool} (n : is_some (around_named (enclosing_at rows choice)) ≡ not alone) where
      pub not-inside : alone ≡ true → false ≡ keeps
      not-inside e = let t = tests in let i = around-none (enclosing_at rows choice) _ n in cc

      module _ (inside : alone ≡ false) {other : Bool} (test : other ≡ not (eqb (role_at rows around) (role_number loop_role))) where
        abbrev i : eqb (enclosing_at rows choice) 0 ≡ false
        i = sym (around-none (enclosing_at rows choice) _ n) ∙ inside

        is-loop : (b : Bool) → other ≡ not b → other ≡ false → b ≡ true
        is-loop true e f = refl
        is-loop false e f = cc

        no-loop : (b : Bool) → other ≡ not b → other ≡ true → b ≡ false
        no-loop true e f = cc
        no-loop false e f = refl

        pub not-in-loop : other ≡ true → false ≡ keeps
        not-in-loop e = let t = tests in let l = no-loop _ test e in cc i

        module _ (yes-loop : other ≡ false) where
          pub too-deep : depth_limit ≤ depth → false ≡ keeps
          too-deep h = let t = tests in let l = is-loop _ test yes-loop in let m = le-ltb depth depth_limit h in cc i

          pub trip-tested : {counter limit : ℕ} → depth < depth_limit → counter ≡ counter_at parts depth → limit ≡ limit_within limits number depth
              → ltb counter limit ≡ keeps
          trip-tested h c w = let t = tests in let l = is-loop _ test yes-loop in let m = lt-ltb depth depth_limit h in cc i

  -- where no loop is ranked, none of it need be asked
  pub none_kept : (arm : Bounds) {some : Bool} → some ≡ some_ranked limits → some ≡ false → parts ≡ open_arm_kept rows limits choice arm parts
  unfolding open_arm_kept keeps_arms_at
  none_kept arm a e = let k = ranked-by limits (loop_at rows (opener_at rows choice)) a e in cc
