-- What one pass and one stage do; the number of passes that a stage is allowed is always enough.
use mathlib.Core.Path.{◌≡◌, refl, ap, ◌∙◌}
use mathlib.Core.List.{List, [], ◌∷◌}
use mathlib.Core.Bool.{Bool, true, false}
use Prim.Native.Nat.{ℕ, zero, suc, ◌+◌, ◌≤◌, ◌<◌}
use native.Mathlib.Omega.{arith}
use lib.IntN.{ℤ}
use lib.ListN.{length}
use Rattle.meaning.specs.Record.{Loop, Record, work_record, loop_record, end_record, choice_record, next_arm_record}
use Rattle.meaning.specs.Time.{Bounds}
use Rattle.meaning.specs.Stage.{Frame, loop_frame, choice_frame, KeptArms, State, state_keeping, after_end, Step, going, begins_visit, at_end, stuck}
use Rattle.meaning.specs.Stage.{state_of, visit_begun, and_on, enter_loop, end_trip, pass_record, pass, pass_from, stage}

-- What one pass from a state comes to. Going on leaves fewer records to pass; beginning a visit adds 1 to the visits, which nothing else does, and
-- leaves a trip open; at the sheet's end, and where no record can be passed, nothing changes.
unfoldable pub PassDoes : State → Step → Type 0
PassDoes s (going t) = (t.visits ≡ s.visits) × (length t.remaining < length s.remaining)
PassDoes s (begins_visit t) = (t.visits ≡ suc s.visits) × (1 ≤ length t.frames)
PassDoes s (at_end t) = (t ≡ s) × (s.remaining ≡ [])
PassDoes s (stuck t) = t ≡ s

pub after_end-shortens : (inside : ℕ) (rs : List Record) → length (after_end inside rs) ≤ length rs
unfolding after_end
after_end-shortens inside [] = omega arith
after_end-shortens inside (work_record least most ∷ rs) = omega (arith, after_end-shortens inside rs)
after_end-shortens inside (loop_record l ∷ rs) = omega (arith, after_end-shortens (suc inside) rs)
after_end-shortens zero (end_record ∷ rs) = omega arith
after_end-shortens (suc inside) (end_record ∷ rs) = omega (arith, after_end-shortens inside rs)
after_end-shortens inside (choice_record ∷ rs) = omega (arith, after_end-shortens (suc inside) rs)
after_end-shortens inside (next_arm_record ∷ rs) = omega (arith, after_end-shortens inside rs)

module _ (ps : List ℤ) where
  enter_loop-does : (n : ℕ) (l : Loop) (rs : List Record) (c : Bounds) (fs : List Frame) (a : KeptArms) (v : ℕ) →
      PassDoes (state_keeping a (loop_record l ∷ rs) c fs v) (enter_loop ps n l rs c fs a v)
  unfolding PassDoes enter_loop
  enter_loop-does zero l rs c fs a v = (refl, omega (arith, after_end-shortens zero rs))
  enter_loop-does (suc n) l rs c fs a v = (refl, omega arith)

  end_trip-does : (more : Bool) (s next left : State) → (next.visits ≡ suc s.visits) × (1 ≤ length next.frames) →
      (left.visits ≡ s.visits) × (length left.remaining < length s.remaining) → PassDoes s (end_trip more next left)
  unfolding PassDoes end_trip
  end_trip-does true s next left begun onward = begun
  end_trip-does false s next left begun onward = onward

  pass_record-does : (rs : List Record) (c : Bounds) (fs : List Frame) (a : KeptArms) (v : ℕ) → PassDoes (state_keeping a rs c fs v) (pass_record ps rs c fs a v)
  unfolding PassDoes pass_record
  pass_record-does [] c fs a v = (refl, refl)
  pass_record-does (work_record least most ∷ rs) c fs a v = (refl, omega arith)
  pass_record-does (loop_record l ∷ rs) c fs a v = enter_loop-does _ l rs c fs a v
  pass_record-does (choice_record ∷ rs) c fs a v = (refl, omega arith)
  pass_record-does (next_arm_record ∷ rs) c [] a v = refl
  pass_record-does (next_arm_record ∷ rs) c (loop_frame l body k sums enclosing ∷ fs) a v = refl
  pass_record-does (next_arm_record ∷ rs) c (choice_frame passed_arms enclosing ∷ fs) a v = (refl, omega arith)
  pass_record-does (end_record ∷ rs) c [] a v = refl
  pass_record-does (end_record ∷ rs) c (choice_frame passed_arms enclosing ∷ fs) a v = (refl, omega arith)
  pass_record-does (end_record ∷ rs) c (loop_frame l body k sums enclosing ∷ fs) a v =
      end_trip-does _ (state_keeping a (end_record ∷ rs) c (loop_frame l body k sums enclosing ∷ fs) v) _ _ (refl, omega arith) (refl, omega arith)

  pub pass-does : (s : State) → PassDoes s (pass ps s)
  unfolding pass
  pass-does s = pass_record-does s.remaining s.current s.frames s.arms s.visits

  -- How many passes are allowed makes no difference where they are more than the records left: each pass that goes on leaves fewer.
  pass_from-enough : (m n : ℕ) (s : State) → length s.remaining < m → length s.remaining < n → pass_from ps m s ≡ pass_from ps n s
  unfolding pass_from and_on PassDoes
  pass_from-enough zero zero s h k = absurd (omega arith)
  pass_from-enough zero (suc n) s h k = absurd (omega arith)
  pass_from-enough (suc m) zero s h k = absurd (omega arith)
  pass_from-enough (suc m) (suc n) s h k = go (pass ps s) (pass-does s) (λ t. pass_from-enough m n t)
    where
      go : (p : Step) → PassDoes s p → ((t : State) → length t.remaining < m → length t.remaining < n → pass_from ps m t ≡ pass_from ps n t) →
          and_on (λ t. pass_from ps m t) p ≡ and_on (λ t. pass_from ps n t) p
      go (going t) d further = let shorter = d.1 in further t (omega arith) (omega arith)
      go (begins_visit t) d further = refl
      go (at_end t) d further = refl
      go (stuck t) d further = refl

  pub stage-enough : (n : ℕ) (s : State) → suc (length s.remaining) ≤ n → pass_from ps n s ≡ stage ps s
  unfolding stage
  stage-enough n s h = pass_from-enough n (suc (length s.remaining)) s h (omega arith)

  -- a stage is one pass, and a stage from there where it goes on
  pub stage-unrolls : (s : State) → stage ps s ≡ and_on (λ t. stage ps t) (pass ps s)
  unfolding stage pass_from PassDoes and_on
  stage-unrolls s = go (pass ps s) (pass-does s)
    where
      go : (p : Step) → PassDoes s p →
          and_on (λ t. pass_from ps (length s.remaining) t) p ≡ and_on (λ t. pass_from ps (suc (length t.remaining)) t) p
      go (going t) d = stage-enough (length s.remaining) t d.1
      go (begins_visit t) d = refl
      go (at_end t) d = refl
      go (stuck t) d = refl

  -- What one stage from a state comes to. It ends where a visit begins, at the sheet's end, or where no record can be passed: never because
  -- the passes allowed are used up.
  unfoldable pub StageDoes : State → Step → Type 0
  StageDoes s (going t) = ⊥
  StageDoes s (begins_visit t) = (t.visits ≡ suc s.visits) × (1 ≤ length t.frames)
  StageDoes s (at_end t) = (t.visits ≡ s.visits) × (t.remaining ≡ []) × (pass ps t ≡ at_end t)
  StageDoes s (stuck t) = (t.visits ≡ s.visits) × (pass ps t ≡ stuck t)

  StageDoes-after : (s t : State) (p : Step) → t.visits ≡ s.visits → StageDoes t p → StageDoes s p
  unfolding StageDoes
  StageDoes-after s t (going u) e d = d
  StageDoes-after s t (begins_visit u) e d = (omega (arith, d.0), d.1)
  StageDoes-after s t (at_end u) e d = (omega (arith, d.0), d.1, d.2)
  StageDoes-after s t (stuck u) e d = (omega (arith, d.0), d.1)

  pass_from-does : (n : ℕ) (s : State) → length s.remaining < n → StageDoes s (pass_from ps n s)
  unfolding pass_from and_on PassDoes StageDoes
  pass_from-does zero s h = absurd (omega arith)
  pass_from-does (suc n) s h = go (pass ps s) refl (pass-does s) (λ t. pass_from-does n t)
    where
      go : (p : Step) → pass ps s ≡ p → PassDoes s p → ((t : State) → length t.remaining < n → StageDoes t (pass_from ps n t)) →
          StageDoes s (and_on (λ t. pass_from ps n t) p)
      go (going t) e d further = let shorter = d.1 in StageDoes-after s t (pass_from ps n t) d.0 (further t (omega arith))
      go (begins_visit t) e d further = d
      go (at_end t) e d further = (ap (λ (u : State). u.visits) d.0, ap (λ (u : State). u.remaining) d.0 ∙ d.1, ap (pass ps) d.0 ∙ e)
      go (stuck t) e d further = (ap (λ (u : State). u.visits) d, ap (pass ps) d ∙ e)

  pub stage-does : (s : State) → StageDoes s (stage ps s)
  unfolding stage
  stage-does s = pass_from-does (suc (length s.remaining)) s (omega arith)

  pub stage-visits : (s : State) → (state_of (stage ps s)).visits ≡ s.visits + visit_begun (stage ps s)
  unfolding StageDoes state_of visit_begun
  stage-visits s = go (stage ps s) (stage-does s)
    where
      go : (p : Step) → StageDoes s p → (state_of p).visits ≡ s.visits + visit_begun p
      go (going t) d = absurd d
      go (begins_visit t) d = omega (arith, d.0)
      go (at_end t) d = omega (arith, d.0)
      go (stuck t) d = omega (arith, d.0)

  -- at the sheet's end a stage returns the same state
  pub stage-at-end : (c : Bounds) (fs : List Frame) (a : KeptArms) (v : ℕ) → stage ps (state_keeping a [] c fs v) ≡ at_end (state_keeping a [] c fs v)
  unfolding stage pass_from and_on pass pass_record
  stage-at-end c fs a v = refl
