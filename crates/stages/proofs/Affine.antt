-- A form's value is that where every counter is 0 plus each open loop's push times its counter; so a loop's trips follow from its words.
use mathlib.Core.List.{◌++◌, List, [], map, ◌∷◌}
use mathlib.Core.Path.{ap, ap₂, refl, subst, sym, ◌∙◌, ◌≡◌}
use mathlib.Core.Bool.{cond}
use Prim.Native.Nat.{◌%◌, ◌*◌, ◌+◌, ◌-◌, ◌/◌, ◌<◌, ◌^◌, suc, zero, ℕ, ◌≤◌}
use native.Mathlib.Omega.{arith}
use native.Mathlib.Nat.{mod-eq_of_lt}
use lib.IntN.{◌*ℤ◌, *ℤ_comm, ◌+ℤ◌, +ℤ_assoc, +ℤ_comm, +ℤ_idr, nat_abs, negsuc, pos, zero-*ℤ, ℤ}
use lib.ListN.{get_or, length, length-append, length-map}
use lib.Dec.{ltb}
use borrow.Author.Tests.{lt-ltb, le-ltb}
use Rattle.whole.specs.Residue.{Congruent}
use Rattle.whole.specs.Degree.{◌⊞◌, first_of, rest_of, times}
use Rattle.whole.specs.Integer.{dot, floor_remainder}
use Rattle.whole.proofs.Residue.{congruent-add, congruent-floor_remainder, congruent-mul, congruent-pos}
use Rattle.whole.proofs.Floor.{count-negsuc, count-pos}
use Rattle.whole.proofs.Dot.{dot-head, dot-zeros, dot-⊞, dot-first-three}
use Rattle.whole.proofs.Counters.{dot-times}
use Rattle.meaning.specs.Form.{Form, value}
use Rattle.meaning.specs.Stage.{Frame, choice_frame, indexes_of, loop_frame, ranges_of}
use Rattle.meaning.specs.Limits.{index_factors}
use Rattle.meaning.specs.Range.{index_range, inner_ranges}
use Rattle.meaning.specs.Closed.{push, push_inner, push_own}
use Rattle.meaning.specs.Time.{trip_count}
use Rattle.meaning.proofs.Pushes.{Follows, follows-fixed, follows-inside, indexes_inside, indexes_inside-trip, inside_at, move_by, value-follows}
use Rattle.layout.specs.Loops.{word_of}
use Rattle.loops.specs.Enclosing.{enter, nothing_open, Enclosing}
use Rattle.planner.proofs.Limits.{backwards, map-backwards}

-- ---- sums of products

-- what all pushes add to a form: each push times its counter
push-move_by : (f : Form) (depth : ℕ) (pushes : List (List ℤ)) (counters : List ℤ) → push f (move_by depth pushes counters) ≡ dot (map (push f) pushes) counters
unfolding push move_by
push-move_by f depth [] counters = dot-zeros f.index depth
push-move_by f depth (p ∷ pushes) counters =
    let others : List ℤ = move_by depth pushes (rest_of counters) in
    let c : ℤ = first_of counters in
    dot-⊞ f.index others (times c p)
    ∙ ap₂ ◌+ℤ◌ (push-move_by f depth pushes (rest_of counters)) (dot-times c f.index p ∙ *ℤ_comm c (dot f.index p))
    ∙ +ℤ_comm (dot (map (push f) pushes) (rest_of counters)) (dot f.index p *ℤ c)
    ∙ sym (dot-head (dot f.index p) (map (push f) pushes) counters)

dot-append-both : (xs ys : List ℤ) (x y : ℤ) → length xs ≡ length ys → dot (xs ++ (x ∷ [])) (ys ++ (y ∷ [])) ≡ x *ℤ y +ℤ dot xs ys
dot-append-both [] [] x y e = refl
dot-append-both [] (b ∷ ys) x y e = absurd (omega arith)
dot-append-both (a ∷ xs) [] x y e = absurd (omega arith)
dot-append-both (a ∷ xs) (b ∷ ys) x y e =
    ap (λ (z : ℤ). a *ℤ b +ℤ z) (dot-append-both xs ys x y (omega arith))
    ∙ sym (+ℤ_assoc (a *ℤ b) (x *ℤ y) (dot xs ys)) ∙ ap (λ (z : ℤ). z +ℤ dot xs ys) (+ℤ_comm (a *ℤ b) (x *ℤ y)) ∙ +ℤ_assoc (x *ℤ y) (a *ℤ b) (dot xs ys)

length-backwards : {A : Type 0} (xs : List A) → length (backwards xs) ≡ length xs
unfolding backwards
length-backwards [] = refl
length-backwards (x ∷ xs) = let k = length-append (backwards xs) (x ∷ []) in let i = length-backwards xs in omega arith

dot-backwards : (xs ys : List ℤ) → length xs ≡ length ys → dot (backwards xs) (backwards ys) ≡ dot xs ys
unfolding backwards
dot-backwards [] [] e = refl
dot-backwards [] (y ∷ ys) e = absurd (omega arith)
dot-backwards (x ∷ xs) [] e = absurd (omega arith)
dot-backwards (x ∷ xs) (y ∷ ys) e =
    dot-append-both (backwards xs) (backwards ys) x y (length-backwards xs ∙ (let i : length xs ≡ length ys = omega arith in i) ∙ sym (length-backwards ys))
    ∙ ap (λ (z : ℤ). x *ℤ y +ℤ z) (dot-backwards xs ys (omega arith))

-- ---- the open loops of a state

-- the counters of the open loops, outermost first
unfoldable pub counters_of : List Frame → List ℤ
counters_of [] = []
counters_of (loop_frame l body counter visited_sums enclosing ∷ fs) = counters_of fs ++ (pos counter ∷ [])
counters_of (choice_frame passed_arms enclosing ∷ fs) = counters_of fs

module _ (ps : List ℤ) where
  -- the open loops of frames, as the walk over the records has them
  unfoldable pub enclosing_of : List Frame → Enclosing
  enclosing_of [] = nothing_open
  enclosing_of (loop_frame l body counter visited_sums enclosing ∷ fs) = enter ps l (enclosing_of fs)
  enclosing_of (choice_frame passed_arms enclosing ∷ fs) = enclosing_of fs

  pub enclosing-ranges : (fs : List Frame) → (enclosing_of fs).ranges ≡ ranges_of ps fs
  unfolding enclosing_of ranges_of enter
  enclosing-ranges [] = refl
  enclosing-ranges (loop_frame l body counter visited_sums enclosing ∷ fs) = ap (inner_ranges ps l) (enclosing-ranges fs)
  enclosing-ranges (choice_frame passed_arms enclosing ∷ fs) = enclosing-ranges fs

  -- the indexes of frames at any counters, the innermost first, and the pushes, innermost loop first
  frames_at : List Frame → List ℤ → List ℤ
  frames_at [] counters = []
  frames_at (loop_frame l body counter visited_sums enclosing ∷ fs) counters = inside_at ps l (frames_at fs) counters
  frames_at (choice_frame passed_arms enclosing ∷ fs) counters = frames_at fs counters

  inner_pushes : List Frame → List (List ℤ)
  inner_pushes [] = []
  inner_pushes (loop_frame l body counter visited_sums enclosing ∷ fs) = push_own l (length (enclosing_of fs).ranges) ∷ map (push_inner l) (inner_pushes fs)
  inner_pushes (choice_frame passed_arms enclosing ∷ fs) = inner_pushes fs

  inner_counters : List Frame → List ℤ
  inner_counters [] = []
  inner_counters (loop_frame l body counter visited_sums enclosing ∷ fs) = pos counter ∷ inner_counters fs
  inner_counters (choice_frame passed_arms enclosing ∷ fs) = inner_counters fs

  inner-lengths : (fs : List Frame) → length (inner_pushes fs) ≡ length (inner_counters fs)
  unfolding inner_pushes inner_counters
  inner-lengths [] = refl
  inner-lengths (loop_frame l body counter visited_sums enclosing ∷ fs) = ap suc (length-map (inner_pushes fs) (push_inner l) ∙ inner-lengths fs)
  inner-lengths (choice_frame passed_arms enclosing ∷ fs) = inner-lengths fs

  frames-follow : (fs : List Frame) → Follows (frames_at fs) (inner_pushes fs) (length (enclosing_of fs).ranges)
  unfolding frames_at inner_pushes enclosing_of enter inner_ranges
  frames-follow [] = follows-fixed [] 0 refl
  frames-follow (loop_frame l body counter visited_sums enclosing ∷ fs) =
      let around : Enclosing = enclosing_of fs in
      let pushes : List (List ℤ) = push_own l (length around.ranges) ∷ map (push_inner l) (inner_pushes fs) in
      let deeper : suc (length around.ranges) ≡ length (around.ranges ++ (index_range ps l around.ranges ∷ [])) =
      let k = length-append around.ranges (index_range ps l around.ranges ∷ []) in omega arith in
      subst (Follows (inside_at ps l (frames_at fs)) pushes) deeper (follows-inside ps l (frames_at fs) (inner_pushes fs) (length around.ranges) (frames-follow fs))
  frames-follow (choice_frame passed_arms enclosing ∷ fs) = frames-follow fs

  starts-at : (fs : List Frame) → (enclosing_of fs).starts ≡ frames_at fs []
  unfolding frames_at enclosing_of enter indexes_inside first_of rest_of
  starts-at [] = refl
  starts-at (loop_frame l body counter visited_sums enclosing ∷ fs) =
      ap (λ (xs : List ℤ). xs ++ (value ps l.lower xs ∷ [])) (starts-at fs)
      ∙ ap (λ (x : ℤ). frames_at fs [] ++ (x ∷ []))
      (sym (+ℤ_idr (value ps l.lower (frames_at fs []))) ∙ ap (λ (x : ℤ). value ps l.lower (frames_at fs []) +ℤ x) (sym (zero-*ℤ l.stride)))
  starts-at (choice_frame passed_arms enclosing ∷ fs) = starts-at fs

  indexes-at : (fs : List Frame) → indexes_of ps fs ≡ frames_at fs (inner_counters fs)
  unfolding frames_at indexes_of inner_counters first_of rest_of
  indexes-at [] = refl
  indexes-at (loop_frame l body counter visited_sums enclosing ∷ fs) =
      indexes_inside-trip ps l (indexes_of ps fs) counter ∙ ap (λ (xs : List ℤ). indexes_inside ps l xs (pos counter)) (indexes-at fs)
  indexes-at (choice_frame passed_arms enclosing ∷ fs) = indexes-at fs

  pushes-at : (fs : List Frame) → (enclosing_of fs).pushes ≡ backwards (inner_pushes fs)
  unfolding enclosing_of enter inner_pushes backwards
  pushes-at [] = refl
  pushes-at (loop_frame l body counter visited_sums enclosing ∷ fs) =
      ap (λ (xs : List (List ℤ)). xs ++ (push_own l (length (enclosing_of fs).ranges) ∷ [])) (ap (map (push_inner l)) (pushes-at fs) ∙ map-backwards (push_inner l) (inner_pushes fs))
  pushes-at (choice_frame passed_arms enclosing ∷ fs) = pushes-at fs

  counters-at : (fs : List Frame) → counters_of fs ≡ backwards (inner_counters fs)
  unfolding counters_of inner_counters backwards
  counters-at [] = refl
  counters-at (loop_frame l body counter visited_sums enclosing ∷ fs) = ap (λ (xs : List ℤ). xs ++ (pos counter ∷ [])) (counters-at fs)
  counters-at (choice_frame passed_arms enclosing ∷ fs) = counters-at fs

  -- a form's value at the indexes of the open loops is affine in their counters
  pub value-affine : (f : Form) (fs : List Frame) →
      value ps f (indexes_of ps fs) ≡ value ps f (enclosing_of fs).starts +ℤ dot (map (push f) (enclosing_of fs).pushes) (counters_of fs)
  unfolding ◌⊞◌
  value-affine f fs =
      let depth : ℕ = length (enclosing_of fs).ranges in
      let pushes : List (List ℤ) = inner_pushes fs in
      let counters : List ℤ = inner_counters fs in
      ap (value ps f) (indexes-at fs)
      ∙ value-follows ps (frames_at fs) pushes depth (frames-follow fs) f [] counters
      ∙ ap₂ ◌+ℤ◌ (ap (value ps f) (sym (starts-at fs)))
      (push-move_by f depth pushes counters
      ∙ sym (dot-backwards (map (push f) pushes) counters (length-map pushes (push f) ∙ inner-lengths fs))
      ∙ ap₂ dot (sym (ap (map (push f)) (pushes-at fs) ∙ map-backwards (push f) pushes)) (sym (counters-at fs)))

-- ---- from the words of a loop

-- D, where at most index_factors loops stand around the loop
unfoldable pub difference_at : ℤ → List ℤ → List ℤ → ℤ
difference_at base pushes counters =
    base +ℤ (get_or pushes 0 (pos zero) *ℤ get_or counters 0 (pos zero)
    +ℤ (get_or pushes 1 (pos zero) *ℤ get_or counters 1 (pos zero) +ℤ get_or pushes 2 (pos zero) *ℤ get_or counters 2 (pos zero)))

pub difference-dot : (base : ℤ) (pushes counters : List ℤ) → length pushes ≤ index_factors → difference_at base pushes counters ≡ base +ℤ dot pushes counters
unfolding difference_at
difference-dot base pushes counters h = ap (λ (x : ℤ). base +ℤ x) (sym (dot-first-three pushes counters h))

-- the numbers of 64 bits have D for their sum, modulo 2^64
pub difference-word : (base : ℤ) (pushes : List ℤ) (c1 c2 c3 : ℕ) →
    Congruent (2 ^ 64) (word_of base + (word_of (get_or pushes 0 (pos zero)) * c1 + (word_of (get_or pushes 1 (pos zero)) * c2 + word_of (get_or pushes 2 (pos zero)) * c3)))
    (difference_at base pushes (pos c1 ∷ pos c2 ∷ pos c3 ∷ []))
unfolding difference_at word_of
difference-word base pushes c1 c2 c3 =
    let w : (z : ℤ) → Congruent (2 ^ 64) (floor_remainder z (2 ^ 64)) z = congruent-floor_remainder (2 ^ 64) (omega arith) in
    let term : (z : ℤ) (c : ℕ) → Congruent (2 ^ 64) (floor_remainder z (2 ^ 64) * c) (z *ℤ pos c) =
    λ z c. congruent-mul (2 ^ 64) (w z) (congruent-pos (2 ^ 64) c) in
    congruent-add (2 ^ 64) (w base)
    (congruent-add (2 ^ 64) (term (get_or pushes 0 (pos zero)) c1) (congruent-add (2 ^ 64) (term (get_or pushes 1 (pos zero)) c2) (term (get_or pushes 2 (pos zero)) c3)))

-- trips from D as a number of 64 bits
pub trips-of-word : (z : ℤ) (stride : ℕ) → nat_abs z < 2 ^ 63 → trip_count z stride ≡ cond (ltb (word_of z) (2 ^ 63)) (suc (word_of z / stride)) 0
unfolding trip_count word_of floor_remainder
trips-of-word (pos n) stride h =
    let same : n % 2 ^ 64 ≡ n = mod-eq_of_lt (omega arith) in
    count-pos n stride ∙ sym (ap (λ (m : ℕ). cond (ltb m (2 ^ 63)) (suc (m / stride)) 0) same ∙ ap (λ c. cond c (suc (n / stride)) 0) (lt-ltb n (2 ^ 63) h))
trips-of-word (negsuc n) stride h =
    let m : ℕ = 2 ^ 64 - suc (n % 2 ^ 64) in
    let same : n % 2 ^ 64 ≡ n = mod-eq_of_lt (omega arith) in
    count-negsuc n stride ∙ sym (ap (λ c. cond c (suc (m / stride)) 0) (le-ltb m (2 ^ 63) (omega arith)))
