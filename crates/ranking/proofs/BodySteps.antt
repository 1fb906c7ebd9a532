-- The walk over a body, step by step: each record is later than the last, and what it adds to the arms and to the decision.
use Rattle.std.proofs.Common.{◌≡◌, ℕ, zero, suc, ◌+◌, ◌-◌, ◌<◌, ◌≤◌, ◌⊎◌, inl, inr, max, Bool, true, false, cond, ◌&&◌, ◌||◌, eqb, ltb, List, [], ◌∷◌, length, sym, refl, ap, ◌∙◌, mod-lt, arith, le-ltb, lt-ltb, eq-eqb, ne_eqb}
use Rattle.meaning.specs.Limits.{record_limit}
use mathlib.Core.Bool.{or-true}
use Rattle.layout.specs.declared.rows.Role.{Role}
use Rattle.layout.specs.Rows.{role_named, loop_role, choice_role, next_arm_role, role_number, number_in, role_at, end_at}
use Rattle.layout.proofs.Roles.{role-true, role-false}
use Rattle.state.specs.declared.bounds.Bounds.{Bounds}
use Rattle.ranking.specs.Settled.{settled_choice}
use Rattle.ranking.specs.Body.{next_in_body, standing, body_at, next_arm_count, arms_at, settled_among, settled_at}

module _ (rows : List ℕ) where
  -- ---- the next record

  -- where a loop or a choice was read
  pub next-behind : (i : ℕ) {role : Role} → role ≡ role_named (role_at rows i) → (role ≡ loop_role) ⊎ (role ≡ choice_role) → suc (max i (end_at rows i)) ≡ next_in_body rows i
  unfolding next_in_body
  next-behind i read (inl e) = rw (sym (role-true loop_role refl (role_at rows i) read e)) refl
  next-behind i read (inr e) =
      ap (λ (opens : Bool). cond opens (suc (max i (end_at rows i))) (suc i))
      (sym (or-true (eqb (role_at rows i) (role_number loop_role))) ∙ ap (λ (b : Bool). eqb (role_at rows i) (role_number loop_role) || b) (role-true choice_role refl (role_at rows i) read e))

  -- where another record was read
  pub next-after : (i : ℕ) {role : Role} → role ≡ role_named (role_at rows i) → (role ≡ loop_role → ⊥) → (role ≡ choice_role → ⊥) → suc i ≡ next_in_body rows i
  unfolding next_in_body
  next-after i read e f = rw (sym (role-false loop_role refl (role_at rows i) read e), sym (role-false choice_role refl (role_at rows i) read f)) refl

  pub next-after-loop : (i : ℕ) → role_at rows i ≡ role_number loop_role → next_in_body rows i ≡ suc (max i (end_at rows i))
  unfolding next_in_body
  next-after-loop i e = rw (eq-eqb (role_at rows i) (role_number loop_role) e)

  pub next-after-choice : (i : ℕ) → (role_at rows i ≡ role_number loop_role → ⊥) → role_at rows i ≡ role_number choice_role →
      next_in_body rows i ≡ suc (max i (end_at rows i))
  unfolding next_in_body
  next-after-choice i other e = rw (ne_eqb (role_at rows i) (role_number loop_role) other, eq-eqb (role_at rows i) (role_number choice_role) e)

  pub next-after-other : (i : ℕ) → (role_at rows i ≡ role_number loop_role → ⊥) → (role_at rows i ≡ role_number choice_role → ⊥) → next_in_body rows i ≡ suc i
  unfolding next_in_body
  next-after-other i e f = rw (ne_eqb (role_at rows i) (role_number loop_role) e, ne_eqb (role_at rows i) (role_number choice_role) f)

  pub end_below : (i : ℕ) → end_at rows i < record_limit
  end_below i = mod-lt (number_in rows i 3) (omega arith)

  -- a later record
  pub next-later : (i : ℕ) → i < next_in_body rows i
  unfolding next_in_body
  next-later i = by-test (eqb (role_at rows i) (role_number loop_role) || eqb (role_at rows i) (role_number choice_role))
    where
      by-test : (opens : Bool) → i < cond opens (suc (max i (end_at rows i))) (suc i)
      by-test true = omega arith
      by-test false = omega arith

  -- ---- the records of a body

  -- as many steps as there are records left are enough
  standing-same : (end left more i : ℕ) → end - i ≤ left → end - i ≤ more → standing rows end left i ≡ standing rows end more i
  unfolding standing
  standing-same end zero zero i h k = refl
  standing-same end zero (suc more) i h k = rw (le-ltb i end (omega arith))
  standing-same end (suc left) zero i h k = rw (le-ltb i end (omega arith))
  standing-same end (suc left) (suc more) i h k =
      let later = next-later i in
      ap (λ (others : List ℕ). cond (ltb i end) (i ∷ others) []) (standing-same end left more (next_in_body rows i) (omega arith) (omega arith))

  standing-done : (end i : ℕ) → end ≤ i → standing rows end (end - i) i ≡ []
  unfolding standing
  standing-done end i h = let e : end - i ≡ 0 = omega arith in rw e

  standing-next : (end i : ℕ) → i < end → standing rows end (end - i) i ≡ i ∷ standing rows end (end - next_in_body rows i) (next_in_body rows i)
  unfolding standing
  standing-next end i h =
      let e : end - i ≡ suc (end - suc i) = omega arith in
      let later = next-later i in
      rw (e, lt-ltb i end h) (ap (λ (others : List ℕ). i ∷ others)
      (standing-same end (end - suc i) (end - next_in_body rows i) (next_in_body rows i) (omega arith) (omega arith)))

  -- ---- arms

  next-arms-few : (is : List ℕ) → next_arm_count rows is ≤ length is
  unfolding next_arm_count
  next-arms-few [] = omega arith
  next-arms-few (i ∷ others) = by-test (eqb (role_at rows i) (role_number next_arm_role)) (next-arms-few others)
    where
      by-test : (begins : Bool) → next_arm_count rows others ≤ length others → cond begins 1 0 + next_arm_count rows others ≤ suc (length others)
      by-test true h = omega arith
      by-test false h = omega arith

  standing-few : (end left i : ℕ) → length (standing rows end left i) ≤ left
  unfolding standing
  standing-few end zero i = omega arith
  standing-few end (suc left) i = by-test (ltb i end) (standing-few end left (next_in_body rows i))
    where
      by-test : (before : Bool) → length (standing rows end left (next_in_body rows i)) ≤ left →
          length (cond before (i ∷ standing rows end left (next_in_body rows i)) []) ≤ suc left
      by-test true h = omega arith
      by-test false h = omega arith

  pub arms-few : (choice : ℕ) → arms_at rows choice ≤ record_limit
  unfolding arms_at body_at
  arms-few choice =
      let end = end_at rows choice in
      omega (arith, end_below choice, next-arms-few (standing rows end (end - suc choice) (suc choice)), standing-few end (end - suc choice) (suc choice))

  -- the arms found so far, with those that begin from record i on
  abbrev pub arms_with : ℕ → ℕ → ℕ → ℕ
  arms_with arms end i = arms + next_arm_count rows (standing rows end (end - i) i)

  pub arms-begin : (choice : ℕ) → arms_with 1 (end_at rows choice) (choice + 1) ≡ arms_at rows choice
  unfolding arms_at body_at
  arms-begin choice = let e : choice + 1 ≡ suc choice = omega arith in let end = end_at rows choice in
      ap (λ (i : ℕ). arms_with 1 end i) e ∙ (let n = next_arm_count rows (standing rows end (end - suc choice) (suc choice)) in omega arith)

  pub arms-done : (arms end i : ℕ) → end ≤ i → arms ≡ arms_with arms end i
  unfolding next_arm_count
  arms-done arms end i h = rw (standing-done end i h) (omega arith)

  pub arms-one-more : (arms end i : ℕ) → i < end → true ≡ eqb (role_at rows i) (role_number next_arm_role) → arms_with (arms + 1) end (next_in_body rows i) ≡ arms_with arms end i
  unfolding next_arm_count
  arms-one-more arms end i h e = rw (standing-next end i h, sym e) (omega arith)

  pub arms-no-more : (arms end i : ℕ) → i < end → false ≡ eqb (role_at rows i) (role_number next_arm_role) → arms_with arms end (next_in_body rows i) ≡ arms_with arms end i
  unfolding next_arm_count
  arms-no-more arms end i h e = rw (standing-next end i h, sym e) (omega arith)

  -- ---- the decision

  module _ (kept : List Bounds) (count arms_per_trip : ℕ) where
    -- that of the choices from record i on, the first of whose arms is arm `first`
    abbrev pub settled_from : ℕ → ℕ → ℕ → Bool
    settled_from first end i = settled_among rows kept count arms_per_trip first (standing rows end (end - i) i)

    pub settled-none : (opener : ℕ) → end_at rows opener ≤ opener → true ≡ settled_at rows opener kept count arms_per_trip
    unfolding settled_at body_at settled_among standing
    settled-none opener h = let e : end_at rows opener - suc opener ≡ 0 = omega arith in rw e

    pub settled-begin : (opener : ℕ) → settled_from 0 (end_at rows opener) (opener + 1) ≡ settled_at rows opener kept count arms_per_trip
    unfolding settled_at body_at
    settled-begin opener = let e : opener + 1 ≡ suc opener = omega arith in ap (settled_from 0 (end_at rows opener)) e

    pub settled-done : (first end i : ℕ) → end ≤ i → true ≡ settled_from first end i
    unfolding settled_among
    settled-done first end i h = rw (standing-done end i h)

    pub settled-other : (first end i : ℕ) → i < end → false ≡ eqb (role_at rows i) (role_number choice_role) →
        settled_from first end (next_in_body rows i) ≡ settled_from first end i
    unfolding settled_among
    settled-other first end i h e = rw (standing-next end i h, sym e)

    pub settled-at-choice : (first end i : ℕ) → i < end → true ≡ eqb (role_at rows i) (role_number choice_role) → settled_from first end i
        ≡ settled_choice kept count arms_per_trip first (arms_at rows i) && settled_from (first + arms_at rows i) end (next_in_body rows i)
    unfolding settled_among
    settled-at-choice first end i h e = rw (standing-next end i h, sym e)

    -- where a choice has `own` arms and it was asked whether it is settled
    module _ (first end i own : ℕ) (decided : Bool) (h : i < end) (e : true ≡ eqb (role_at rows i) (role_number choice_role)) (counted : own ≡ arms_at rows i)
        (asked : decided ≡ settled_choice kept count arms_per_trip first own) where
      settled-asked : settled_from first end i ≡ decided && settled_from (first + own) end (next_in_body rows i)
      settled-asked =
          settled-at-choice first end i h e
          ∙ ap (λ (n : ℕ). settled_choice kept count arms_per_trip first n && settled_from (first + n) end (next_in_body rows i)) (sym counted)
          ∙ ap (λ (b : Bool). b && settled_from (first + own) end (next_in_body rows i)) (sym asked)

      pub settled_on : decided ≡ true → settled_from (first + own) end (next_in_body rows i) ≡ settled_from first end i
      settled_on s = sym (settled-asked ∙ ap (λ (b : Bool). b && settled_from (first + own) end (next_in_body rows i)) s)

      pub settled-not : decided ≡ false → false ≡ settled_from first end i
      settled-not s = sym (settled-asked ∙ ap (λ (b : Bool). b && settled_from (first + own) end (next_in_body rows i)) s)
