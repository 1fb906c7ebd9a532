-- Pushes: what a loop's next trip adds to the indexes inside it and to forms over them, and moves of several counters at once.
use mathlib.Core.Path.{◌≡◌, refl, sym, ap, ap₂, ◌∙◌}
use mathlib.Core.List.{List, [], ◌∷◌, ◌++◌, map}
use Prim.Native.Nat.{ℕ, zero, suc, ◌+◌}
use native.Mathlib.Numerals.{add-one}
use native.Mathlib.Omega.{arith}
use lib.IntN.{ℤ, pos, ◌+ℤ◌, ◌*ℤ◌, +ℤ_assoc, +ℤ_idl, +ℤ_idr, *ℤ-zero, zero-*ℤ, *ℤ_comm}
use lib.Dec.{T}
use lib.ListN.{length, replicate, length-append, length-replicate, replicate-append-replicate, length-map}
use Rattle.whole.specs.Integer.{divides}
use Rattle.whole.specs.Degree.{◌⊞◌, first_of, rest_of, times}
use Rattle.whole.proofs.Counters.{times-append-one, times-zeros, dot-times, length-⊞, ⊞-append-one, ⊞-zeros}
use Rattle.whole.proofs.Ring.{sort-sums, +ℤ-*ℤ, *ℤ-+ℤ, *ℤ-assoc, times-one}
use Rattle.whole.proofs.Dot.{dot-⊞, dot-zeros}
use Rattle.whole.proofs.Floor.{divides-quotient}
use Rattle.whole.proofs.Degree.{first_of-⊞, rest_of-⊞}
use Rattle.meaning.specs.Form.{Form, value}
use Rattle.meaning.specs.Record.{Loop, stride_size}
use Rattle.meaning.specs.Time.{difference, index_at, inner_indexes}
use Rattle.meaning.specs.Closed.{push, push_own, push_inner, nest_pushes, stride_divides}
use Rattle.meaning.proofs.Logic.{T_and}

-- ---- a push is linear in the moves of the indexes

push-zeros : (f : Form) (depth : ℕ) → push f (replicate depth (pos zero)) ≡ pos zero
unfolding push
push-zeros f depth = dot-zeros f.index depth

push-⊞ : (f : Form) (moves others : List ℤ) → push f (moves ⊞ others) ≡ push f moves +ℤ push f others
unfolding push
push-⊞ f moves others = dot-⊞ f.index moves others

push-times : (f : Form) (q : ℤ) (moves : List ℤ) → push f (times q moves) ≡ q *ℤ push f moves
unfolding push
push-times f q moves = dot-times q f.index moves

-- ---- the moves of the indexes inside a loop

-- where the indexes around loop l move by `moves` and its counter by `steps`: its own index moves by its lower form and by its strides
unfoldable pub move_inside : Loop → List ℤ → ℤ → List ℤ
move_inside l moves steps = moves ++ ((push l.lower moves +ℤ steps *ℤ l.stride) ∷ [])

-- the two definitions of pushes are such moves: one step of its own counter, or none
push_own-move : (l : Loop) (depth : ℕ) → push_own l depth ≡ move_inside l (replicate depth (pos zero)) (pos 1)
unfolding move_inside push_own
push_own-move l depth =
    ap (λ (z : ℤ). replicate depth (pos zero) ++ (z ∷ [])) (sym (ap (λ (z : ℤ). z +ℤ pos 1 *ℤ l.stride) (push-zeros l.lower depth)
    ∙ +ℤ_idl (pos 1 *ℤ l.stride) ∙ *ℤ_comm (pos 1) l.stride ∙ times-one l.stride))

push_inner-move : (l : Loop) (moves : List ℤ) → push_inner l moves ≡ move_inside l moves (pos zero)
unfolding move_inside push_inner
push_inner-move l moves =
    ap (λ (z : ℤ). moves ++ (z ∷ []))
    (sym (ap (λ (z : ℤ). push l.lower moves +ℤ z) (zero-*ℤ l.stride) ∙ +ℤ_idr (push l.lower moves)))

-- such moves add up and multiply
move_inside-zeros : (l : Loop) (depth : ℕ) → move_inside l (replicate depth (pos zero)) (pos zero) ≡ replicate (suc depth) (pos zero)
unfolding move_inside
move_inside-zeros l depth = simp (push-zeros, zero-*ℤ) (replicate-append-replicate depth 1 (pos zero) ∙ ap (λ (n : ℕ). replicate n (pos zero)) (add-one depth))

move_inside-⊞ : (l : Loop) (moves others : List ℤ) (steps more : ℤ) → length moves ≡ length others →
    move_inside l moves steps ⊞ move_inside l others more ≡ move_inside l (moves ⊞ others) (steps +ℤ more)
unfolding move_inside
move_inside-⊞ l moves others steps more e = simp (⊞-append-one, push-⊞, +ℤ-*ℤ) (simp sort-sums)

move_inside-times : (l : Loop) (q : ℤ) (moves : List ℤ) (steps : ℤ) → times q (move_inside l moves steps) ≡ move_inside l (times q moves) (q *ℤ steps)
unfolding move_inside
move_inside-times l q moves steps = simp (times-append-one, push-times, *ℤ-+ℤ, *ℤ-assoc)

length-append-one : (xs : List ℤ) (x : ℤ) (n : ℕ) → length xs ≡ n → length (xs ++ (x ∷ [])) ≡ suc n
length-append-one xs x n e = let k = length-append xs (x ∷ []) in omega arith

length-push_own : (l : Loop) (depth : ℕ) → length (push_own l depth) ≡ suc depth
unfolding push_own
length-push_own l depth = length-append-one (replicate depth (pos zero)) l.stride depth (length-replicate depth (pos zero))

length-push_inner : (l : Loop) (moves : List ℤ) (depth : ℕ) → length moves ≡ depth → length (push_inner l moves) ≡ suc depth
unfolding push_inner
length-push_inner l moves depth e = length-append-one moves (push l.lower moves) depth e

-- the loops of a nest whose counters are given
abbrev pub loops_of : List (Loop × ℕ) → List Loop
loops_of nest = map (λ p. p.0) nest

module _ (ps : List ℤ) where
  -- ---- the indexes inside a loop, moved

  -- the value of a form, its indexes moved
  pub value-moved : (f : Form) (indexes moves : List ℤ) → value ps f (indexes ⊞ moves) ≡ value ps f indexes +ℤ push f moves
  unfolding value push
  value-moved f indexes moves = simp (dot-⊞, +ℤ_assoc)

  -- the indexes inside loop l, its counter any integer
  unfoldable pub indexes_inside : Loop → List ℤ → ℤ → List ℤ
  indexes_inside l indexes counter = indexes ++ ((value ps l.lower indexes +ℤ counter *ℤ l.stride) ∷ [])

  -- those of a trip
  pub indexes_inside-trip : (l : Loop) (indexes : List ℤ) (trip : ℕ) → inner_indexes ps l indexes trip ≡ indexes_inside l indexes (pos trip)
  unfolding inner_indexes index_at indexes_inside
  indexes_inside-trip l indexes trip = refl

  length-indexes_inside : (l : Loop) (indexes : List ℤ) (counter : ℤ) (depth : ℕ) → length indexes ≡ depth → length (indexes_inside l indexes counter) ≡ suc depth
  unfolding indexes_inside
  length-indexes_inside l indexes counter depth e = length-append-one indexes (value ps l.lower indexes +ℤ counter *ℤ l.stride) depth e

  -- they follow the indexes around the loop and its counter
  pub indexes_inside-moved : (l : Loop) (indexes moves : List ℤ) (counter steps : ℤ) → length indexes ≡ length moves →
      indexes_inside l (indexes ⊞ moves) (counter +ℤ steps) ≡ indexes_inside l indexes counter ⊞ move_inside l moves steps
  unfolding indexes_inside move_inside
  indexes_inside-moved l indexes moves counter steps e = simp (⊞-append-one, value-moved, +ℤ-*ℤ) (simp sort-sums)

  -- ---- a push is what the next trip adds

  length-inner_indexes : (l : Loop) (indexes : List ℤ) (trip depth : ℕ) → length indexes ≡ depth → length (inner_indexes ps l indexes trip) ≡ suc depth
  length-inner_indexes l indexes trip depth e = ap length (indexes_inside-trip l indexes trip) ∙ length-indexes_inside l indexes (pos trip) depth e

  -- a loop's next trip moves the indexes inside it by its own pushes
  own-moved : (l : Loop) (indexes : List ℤ) (trip depth : ℕ) → length indexes ≡ depth →
      inner_indexes ps l indexes (suc trip) ≡ inner_indexes ps l indexes trip ⊞ push_own l depth
  own-moved l indexes trip depth e =
      let zeros : List ℤ = replicate depth (pos zero) in
      indexes_inside-trip l indexes (suc trip)
      ∙ ap₂ (indexes_inside l) (sym (⊞-zeros indexes depth e)) (ap pos (sym (add-one trip)))
      ∙ indexes_inside-moved l indexes zeros (pos trip) (pos 1) (e ∙ sym (length-replicate depth (pos zero)))
      ∙ ap₂ ◌⊞◌ (sym (indexes_inside-trip l indexes trip)) (sym (push_own-move l depth))

  -- moves of the indexes around a loop, its counter held
  inner-moved : (l : Loop) (indexes moves : List ℤ) (trip : ℕ) → length indexes ≡ length moves →
      inner_indexes ps l (indexes ⊞ moves) trip ≡ inner_indexes ps l indexes trip ⊞ push_inner l moves
  inner-moved l indexes moves trip e =
      indexes_inside-trip l (indexes ⊞ moves) trip
      ∙ ap (indexes_inside l (indexes ⊞ moves)) (sym (+ℤ_idr (pos trip)))
      ∙ indexes_inside-moved l indexes moves (pos trip) (pos zero) e
      ∙ ap₂ ◌⊞◌ (sym (indexes_inside-trip l indexes trip)) (sym (push_inner-move l moves))

  -- the indexes of a nest: its loops, each with its counter, outermost first, inside loops with the indexes given
  unfoldable pub nest_indexes : List (Loop × ℕ) → List ℤ → List ℤ
  nest_indexes [] indexes = indexes
  nest_indexes ((l, trip) ∷ inner) indexes = nest_indexes inner (inner_indexes ps l indexes trip)

  nest-append : (outer inner : List (Loop × ℕ)) (indexes : List ℤ) → nest_indexes (outer ++ inner) indexes ≡ nest_indexes inner (nest_indexes outer indexes)
  unfolding nest_indexes
  nest-append [] inner indexes = refl
  nest-append ((l, trip) ∷ outer) inner indexes = nest-append outer inner (inner_indexes ps l indexes trip)

  nest-length : (outer : List (Loop × ℕ)) (indexes : List ℤ) → length (nest_indexes outer indexes) ≡ length outer + length indexes
  unfolding nest_indexes
  nest-length [] indexes = omega arith
  nest-length ((l, trip) ∷ outer) indexes =
      let inside = nest-length outer (inner_indexes ps l indexes trip) in
      let one = length-inner_indexes l indexes trip (length indexes) refl in
      omega arith

  nest-moved : (inner : List (Loop × ℕ)) (indexes moves : List ℤ) → length indexes ≡ length moves →
      nest_indexes inner (indexes ⊞ moves) ≡ nest_indexes inner indexes ⊞ nest_pushes (loops_of inner) moves
  unfolding nest_indexes nest_pushes
  nest-moved [] indexes moves e = refl
  nest-moved ((l, trip) ∷ inner) indexes moves e =
      let sizes = length-inner_indexes l indexes trip (length moves) e ∙ sym (length-push_inner l moves (length moves) refl) in
      ap (nest_indexes inner) (inner-moved l indexes moves trip e) ∙ nest-moved inner (inner_indexes ps l indexes trip) (push_inner l moves) sizes

  -- document 01: the push of loop m on the indexes is what m's next trip adds to them, counters of all other loops held
  pub push-on-indexes : (outer : List (Loop × ℕ)) (m : Loop) (trip : ℕ) (inner : List (Loop × ℕ)) →
      nest_indexes (outer ++ ((m, suc trip) ∷ inner)) [] ≡ nest_indexes (outer ++ ((m, trip) ∷ inner)) [] ⊞ nest_pushes (loops_of inner) (push_own m (length outer))
  unfolding nest_indexes
  push-on-indexes outer m trip inner =
      let depth : ℕ = length outer in
      let around : List ℤ = nest_indexes outer [] in
      let indexes : List ℤ = inner_indexes ps m around trip in
      let e : length around ≡ depth = let k = nest-length outer [] in omega arith in
      let sizes = length-inner_indexes m around trip depth e ∙ sym (length-push_own m depth) in
      nest-append outer ((m, suc trip) ∷ inner) []
      ∙ ap (nest_indexes inner) (own-moved m around trip depth e)
      ∙ nest-moved inner indexes (push_own m depth) sizes
      ∙ ap (λ (xs : List ℤ). xs ⊞ nest_pushes (loops_of inner) (push_own m depth)) (sym (nest-append outer ((m, trip) ∷ inner) []))

  -- the same for any form over them, such as a deeper loop's D
  pub push-is-next-trip : (outer : List (Loop × ℕ)) (m : Loop) (trip : ℕ) (inner : List (Loop × ℕ)) (f : Form) →
      value ps f (nest_indexes (outer ++ ((m, suc trip) ∷ inner)) [])
      ≡ value ps f (nest_indexes (outer ++ ((m, trip) ∷ inner)) []) +ℤ push f (nest_pushes (loops_of inner) (push_own m (length outer)))
  push-is-next-trip outer m trip inner f =
      let before : List ℤ = nest_indexes (outer ++ ((m, trip) ∷ inner)) [] in
      ap (value ps f) (push-on-indexes outer m trip inner) ∙ value-moved f before (nest_pushes (loops_of inner) (push_own m (length outer)))

-- ---- moves of several counters at once

-- Where the counter of each loop moves by its element of `steps`, the indexes move by so many times its pushes, summed up.
unfoldable pub move_by : ℕ → List (List ℤ) → List ℤ → List ℤ
move_by depth [] steps = replicate depth (pos zero)
move_by depth (p ∷ pushes) steps = move_by depth pushes (rest_of steps) ⊞ times (first_of steps) p

-- each loop's pushes are on all the indexes
unfoldable pub AllOfLength : ℕ → List (List ℤ) → Type 0
AllOfLength depth [] = Unit {0}
AllOfLength depth (p ∷ pushes) = (length p ≡ depth) × AllOfLength depth pushes

length-times : (q : ℤ) (moves : List ℤ) (depth : ℕ) → length moves ≡ depth → length (times q moves) ≡ depth
length-times q moves depth e = length-map moves (λ x. q *ℤ x) ∙ e

length-move_by : (depth : ℕ) (pushes : List (List ℤ)) (steps : List ℤ) → AllOfLength depth pushes → length (move_by depth pushes steps) ≡ depth
unfolding move_by AllOfLength
length-move_by depth [] steps sizes = length-replicate depth (pos zero)
length-move_by depth (p ∷ pushes) steps (size, sizes) =
    let own = length-times (first_of steps) p depth size in
    length-⊞ (move_by depth pushes (rest_of steps)) (times (first_of steps) p) (length-move_by depth pushes (rest_of steps) sizes ∙ sym own) ∙ own

inner-sizes : (l : Loop) (depth : ℕ) (pushes : List (List ℤ)) → AllOfLength depth pushes → AllOfLength (suc depth) (map (push_inner l) pushes)
unfolding AllOfLength
inner-sizes l depth [] sizes = tt
inner-sizes l depth (p ∷ pushes) (size, sizes) = (length-push_inner l p depth size, inner-sizes l depth pushes sizes)

-- inside one more loop whose counter is held
move_by-inner : (l : Loop) (depth : ℕ) (pushes : List (List ℤ)) (steps : List ℤ) → AllOfLength depth pushes →
    move_by (suc depth) (map (push_inner l) pushes) steps ≡ move_inside l (move_by depth pushes steps) (pos zero)
unfolding move_by AllOfLength
move_by-inner l depth [] steps sizes = sym (move_inside-zeros l depth)
move_by-inner l depth (p ∷ pushes) steps (size, sizes) =
    let q : ℤ = first_of steps in
    let others : List ℤ = move_by depth pushes (rest_of steps) in
    let own : times q (push_inner l p) ≡ move_inside l (times q p) (pos zero) = simp (push_inner-move, move_inside-times, *ℤ-zero) in
    ap₂ ◌⊞◌ (move_by-inner l depth pushes (rest_of steps) sizes) own
    ∙ move_inside-⊞ l others (times q p) (pos zero) (pos zero) (length-move_by depth pushes (rest_of steps) sizes ∙ sym (length-times q p depth size))

-- and inside one more loop whose counter, the first, moves too
move_by-loop : (l : Loop) (depth : ℕ) (pushes : List (List ℤ)) (steps : List ℤ) → AllOfLength depth pushes →
    move_by (suc depth) (push_own l depth ∷ map (push_inner l) pushes) steps ≡ move_inside l (move_by depth pushes (rest_of steps)) (first_of steps)
unfolding move_by
move_by-loop l depth pushes steps sizes =
    let q : ℤ = first_of steps in
    let others : List ℤ = move_by depth pushes (rest_of steps) in
    let size : length others ≡ depth = length-move_by depth pushes (rest_of steps) sizes in
    let zeros : List ℤ = replicate depth (pos zero) in
    let own : times q (push_own l depth) ≡ move_inside l zeros q = simp (push_own-move, move_inside-times, times-zeros, times-one) in
    ap₂ ◌⊞◌ (move_by-inner l depth pushes (rest_of steps) sizes) own
    ∙ move_inside-⊞ l others zeros (pos zero) q (size ∙ sym (length-replicate depth (pos zero)))
    ∙ ap₂ (move_inside l) (⊞-zeros others depth size) (+ℤ_idl q)

-- what divides the push of each loop divides what all of them add
pub stride_divides-moves : (l : Loop) (depth : ℕ) (pushes : List (List ℤ)) → T (stride_divides l pushes) → (steps : List ℤ) →
    (q : ℤ) × (push (difference l) (move_by depth pushes steps) ≡ q *ℤ pos (stride_size l))
unfolding stride_divides move_by
stride_divides-moves l depth [] t steps = (pos zero, push-zeros (difference l) depth ∙ sym (zero-*ℤ (pos (stride_size l))))
stride_divides-moves l depth (p ∷ pushes) t steps =
    let tests = T_and (divides (stride_size l) (push (difference l) p)) (stride_divides l pushes) t in
    let first = divides-quotient (stride_size l) (push (difference l) p) tests.0 in
    let others = stride_divides-moves l depth pushes tests.1 (rest_of steps) in (
      others.0 +ℤ first_of steps *ℤ first.0,
      simp (push-⊞, push-times)
          (add-multiples (first_of steps) others.0 first.0 (pos (stride_size l)) others.1 first.1),
    )
  where
    add-multiples : {x y : ℤ} (k q r s : ℤ) → x ≡ q *ℤ s → y ≡ r *ℤ s → x +ℤ k *ℤ y ≡ (q +ℤ k *ℤ r) *ℤ s
    add-multiples k q r s e f = simp (e, f, +ℤ-*ℤ, *ℤ-assoc)

-- the indexes are affine in the counters, with these pushes, innermost loop first
pub record Follows (indexes_at : List ℤ → List ℤ) (pushes : List (List ℤ)) (depth : ℕ) : Type 0 where
  pub size : (counters : List ℤ) → length (indexes_at counters) ≡ depth
  pub sizes : AllOfLength depth pushes
  pub moved : (counters steps : List ℤ) → indexes_at (counters ⊞ steps) ≡ indexes_at counters ⊞ move_by depth pushes steps

-- indexes that no counter moves
pub follows-fixed : (indexes : List ℤ) (depth : ℕ) → length indexes ≡ depth → Follows (λ counters. indexes) [] depth
unfolding AllOfLength move_by
follows-fixed indexes depth e = record { size = λ counters. e; sizes = tt; moved = λ counters steps. sym (⊞-zeros indexes depth e) }

module _ (ps : List ℤ) where
  -- the indexes inside loop l, its counter standing first
  abbrev pub inside_at : Loop → (List ℤ → List ℤ) → List ℤ → List ℤ
  inside_at l indexes_at counters = indexes_inside ps l (indexes_at (rest_of counters)) (first_of counters)

  pub follows-inside : (l : Loop) (indexes_at : List ℤ → List ℤ) (pushes : List (List ℤ)) (depth : ℕ) → Follows indexes_at pushes depth →
      Follows (inside_at l indexes_at) (push_own l depth ∷ map (push_inner l) pushes) (suc depth)
  unfolding AllOfLength
  follows-inside l indexes_at pushes depth follows = record {
    size = λ counters. length-indexes_inside ps l (indexes_at (rest_of counters)) (first_of counters) depth (follows.size (rest_of counters));
    sizes = (length-push_own l depth, inner-sizes l depth pushes follows.sizes);
    moved = λ counters steps.
        let outer : List ℤ = rest_of counters in
        let moves : List ℤ = move_by depth pushes (rest_of steps) in
        let same = follows.size outer ∙ sym (length-move_by depth pushes (rest_of steps) follows.sizes) in
        ap₂ (indexes_inside ps l) (ap indexes_at (rest_of-⊞ counters steps) ∙ follows.moved outer (rest_of steps)) (first_of-⊞ counters steps)
        ∙ indexes_inside-moved ps l (indexes_at outer) moves (first_of counters) (first_of steps) same
        ∙ ap (λ (xs : List ℤ). inside_at l indexes_at counters ⊞ xs) (sym (move_by-loop l depth pushes steps follows.sizes));
  }

  -- so every form's value is affine in the counters
  pub value-follows : (indexes_at : List ℤ → List ℤ) (pushes : List (List ℤ)) (depth : ℕ) → Follows indexes_at pushes depth →
      (f : Form) (counters steps : List ℤ) →
      value ps f (indexes_at (counters ⊞ steps)) ≡ value ps f (indexes_at counters) +ℤ push f (move_by depth pushes steps)
  value-follows indexes_at pushes depth follows f counters steps =
      ap (value ps f) (follows.moved counters steps) ∙ value-moved ps f (indexes_at counters) (move_by depth pushes steps)
