-- The arms of a ranked loop's choices: what the stages keep of them is what its definition asks for.
use mathlib.Core.Path.{◌≡◌, refl, ap, ap₂, ◌∙◌, subst}
use mathlib.Core.List.{List, [], ◌∷◌, ◌++◌, map, map-append}
use Prim.Native.Nat.{ℕ, zero, suc, ◌+◌}
use native.Mathlib.Omega.{arith}
use lib.IntN.{ℤ}
use lib.ListN.{length, get_or, drop}
use Rattle.meaning.specs.Tree.{Block, Arms, empty, work, loop, choice, last_arm, arm}
use Rattle.meaning.specs.Time.{Bounds, exactly, time}
use Rattle.meaning.specs.ClosedSum.{first_sums}
use Rattle.meaning.specs.Settled.{arms_sums, choices_sums, arm_sums, arms_of, arm_count, choices_of}

-- ---- lists of what the first trips have

first-map : {A B : Type 0} (g : A → B) (n : ℕ) (f : ℕ → A) → map g (first_sums n f) ≡ first_sums n (λ k. g (f k))
unfolding first_sums
first-map g zero f = refl
first-map g (suc n) f = map-append g (first_sums n f) (f n ∷ []) ∙ ap (λ xs. xs ++ (g (f n) ∷ [])) (first-map g n f)

pub first-extensional : {A : Type 0} (n : ℕ) (f g : ℕ → A) → ((k : ℕ) → f k ≡ g k) → first_sums n f ≡ first_sums n g
unfolding first_sums
first-extensional n f g h = go n
  where
    go : (m : ℕ) → first_sums m f ≡ first_sums m g
    go zero = refl
    go (suc m) = λ i. go m i ++ (h m i ∷ [])

drop-first : {A : Type 0} (j : ℕ) (xs : List A) (y : A) (ys : List A) (default : A) → drop j xs ≡ y ∷ ys → get_or xs j default ≡ y
drop-first zero [] y ys default e = absurd (let z : ◌≡◌ {A = ℕ} 0 (suc (length ys)) = ap length e in omega arith)
drop-first zero (x ∷ xs) y ys default e = cc
drop-first (suc j) [] y ys default e = absurd (let z : ◌≡◌ {A = ℕ} 0 (suc (length ys)) = ap length e in omega arith)
drop-first (suc j) (x ∷ xs) y ys default e = drop-first j xs y ys default e

drop-next : {A : Type 0} (j : ℕ) (xs : List A) (y : A) (ys : List A) → drop j xs ≡ y ∷ ys → drop (suc j) xs ≡ ys
drop-next zero [] y ys e = absurd (let z : ◌≡◌ {A = ℕ} 0 (suc (length ys)) = ap length e in omega arith)
drop-next zero (x ∷ xs) y ys e = cc
drop-next (suc j) [] y ys e = absurd (let z : ◌≡◌ {A = ℕ} 0 (suc (length ys)) = ap length e in omega arith)
drop-next (suc j) (x ∷ xs) y ys e = drop-next j xs y ys e

module _ (ps : List ℤ) where
  -- ---- the kept arms

  -- the times of arms, in the order in which they are passed
  unfoldable pub arms_times : Arms → List ℤ → List Bounds
  arms_times (last_arm b) indexes = time ps b indexes ∷ []
  arms_times (arm b arms) indexes = time ps b indexes ∷ arms_times arms indexes

  -- of all choices that stand directly in the body
  unfoldable pub choices_times : Block → List ℤ → List Bounds
  choices_times empty indexes = []
  choices_times (work least most rest) indexes = choices_times rest indexes
  choices_times (loop l body rest) indexes = choices_times rest indexes
  choices_times (choice arms rest) indexes = arms_times arms indexes ++ choices_times rest indexes

  module _ (count : ℕ) (indexes_at : ℕ → List ℤ) (kept : ℕ → List Bounds) where
    arm-kept : (j : ℕ) (b : Block) (after : ℕ → List Bounds) → ((k : ℕ) → drop j (kept k) ≡ time ps b (indexes_at k) ∷ after k) →
        arm_sums (first_sums count kept) j ≡ first_sums count (λ k. time ps b (indexes_at k))
    arm-kept j b after h =
        first-map (λ sums. get_or sums j (exactly 0)) count kept
        ∙ first-extensional count (λ k. get_or (kept k) j (exactly 0)) (λ k. time ps b (indexes_at k))
        (λ k. drop-first j (kept k) (time ps b (indexes_at k)) (after k) (exactly 0) (h k))

    arms-kept : (arms : Arms) (j : ℕ) (after : ℕ → List Bounds) → ((k : ℕ) → drop j (kept k) ≡ arms_times arms (indexes_at k) ++ after k) →
        (arms_of (first_sums count kept) j arms ≡ arms_sums ps count indexes_at arms) × ((k : ℕ) → drop (j + arm_count arms) (kept k) ≡ after k)
    unfolding arms_times arms_of arms_sums arm_count
    arms-kept (last_arm b) j after h =
        let e : suc j ≡ j + 1 = omega arith in (
          ap (λ x. x ∷ []) (arm-kept j b after h),
          λ k. subst (λ m. drop m (kept k) ≡ after k) e (drop-next j (kept k) (time ps b (indexes_at k)) (after k) (h k)),
        )
    arms-kept (arm b arms) j after h =
        let e : suc j + arm_count arms ≡ j + suc (arm_count arms) = omega arith in
        let further = arms-kept arms (suc j) after (λ k. drop-next j (kept k) (time ps b (indexes_at k)) (arms_times arms (indexes_at k) ++ after k) (h k)) in (
          ap₂ ◌∷◌ (arm-kept j b (λ k. arms_times arms (indexes_at k) ++ after k) h) further.0,
          λ k. subst (λ m. drop m (kept k) ≡ after k) e (further.1 k),
        )

    choices-kept : (b : Block) (j : ℕ) → ((k : ℕ) → drop j (kept k) ≡ choices_times b (indexes_at k)) →
        choices_of (first_sums count kept) j b ≡ choices_sums ps count indexes_at b
    unfolding choices_times choices_of choices_sums
    choices-kept empty j h = refl
    choices-kept (work least most rest) j h = choices-kept rest j h
    choices-kept (loop l body rest) j h = choices-kept rest j h
    choices-kept (choice arms rest) j h =
        let first = arms-kept arms j (λ k. choices_times rest (indexes_at k)) h in
        ap₂ ◌∷◌ first.0 (choices-kept rest (j + arm_count arms) first.1)

  -- from the first trips' arms, those of each choice
  pub kept-choices : (count : ℕ) (indexes_at : ℕ → List ℤ) (b : Block) →
      choices_of (first_sums count (λ k. choices_times b (indexes_at k))) 0 b ≡ choices_sums ps count indexes_at b
  kept-choices count indexes_at b = choices-kept count indexes_at (λ k. choices_times b (indexes_at k)) b 0 (λ k. refl)
