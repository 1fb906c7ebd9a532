-- Where kept trips lie, and how the first trips are read.
use Rattle.std.proofs.Common.{◌≡◌, ℕ, zero, suc, ◌+◌, ◌-◌, ◌%◌, ◌^◌, ◌<◌, ◌≤◌, List, [], ◌∷◌, map, length, get_or, take, drop, ℤ, pos, refl, ap, ◌∙◌, inl, arith}
use Rattle.std.proofs.lemmas.List.{get_or-take, get_or-drop}
use Rattle.whole.specs.Integer.{floor_remainder}
use Rattle.whole.specs.Newton.{newton_sum, values}
use Rattle.whole.specs.Sum.{total}
use Rattle.whole.proofs.Newton.{newton-sum}
use Rattle.meaning.specs.Limits.{depth_limit}
use Rattle.newton.proofs.Sum.{weights-newton}
use Rattle.state.specs.declared.bounds.Bounds.{Bounds}
use Rattle.state.specs.Bounds.{bounds, no_bounds, wrapped_sum, plus}
use Rattle.state.specs.Open.{kept_limit}
use Rattle.state.specs.Kept.{kept_room, kept_from, kept_trip, kept_total, kept_sum, first_trips, trips_sum}

-- the room of one loop ends where that of the next loop inside it begins
pub room-behind : (depth : ℕ) → depth < depth_limit → kept_from depth + kept_room depth ≡ kept_from (suc depth)
unfolding kept_from
room-behind zero h = refl
room-behind (suc zero) h = refl
room-behind (suc (suc zero)) h = refl
room-behind (suc (suc (suc zero))) h = refl
room-behind (suc (suc (suc (suc depth)))) h = absurd (omega arith)

-- and before the part does
pub room_within : (depth : ℕ) → depth < depth_limit → kept_from depth + kept_room depth ≤ kept_limit
unfolding kept_from
room_within zero h = omega arith
room_within (suc zero) h = omega arith
room_within (suc (suc zero)) h = omega arith
room_within (suc (suc (suc zero))) h = omega arith
room_within (suc (suc (suc (suc depth)))) h = absurd (omega arith)

-- ---- the first trips, read from the slice of the kept ones

module _ (kept : List Bounds) (depth held start end : ℕ) (s : start ≡ kept_from depth + 0) (e : end ≡ kept_from depth + held) where
  abbrev read : ℕ → Bounds
  read number = get_or (take (end - start) (drop start kept)) number no_bounds

  kept-read : (number : ℕ) → number < held → read number ≡ kept_trip kept depth number
  unfolding kept_trip
  kept-read number h =
      get_or-take (end - start) (drop start kept) number no_bounds (omega arith)
      ∙ get_or-drop start kept number no_bounds
      ∙ ap (λ (n : ℕ). get_or kept n no_bounds) (let at : start + number ≡ kept_from depth + number = omega arith in at)

  module _ (last none : Bounds) (z : none ≡ no_bounds) where
    abbrev firsts : List Bounds
    firsts = first_trips kept depth held last

    pub one-trip : held ≡ 0 → last ∷ none ∷ none ∷ none ∷ [] ≡ firsts
    unfolding first_trips
    one-trip h = rw (h, z) refl

    pub two-trips : held ≡ 1 → read 0 ∷ last ∷ none ∷ none ∷ [] ≡ firsts
    unfolding first_trips
    two-trips h = rw (kept-read 0 (omega arith), h, z) refl

    pub three-trips : held ≡ 2 → read 0 ∷ read 1 ∷ last ∷ none ∷ [] ≡ firsts
    unfolding first_trips
    three-trips h = rw (kept-read 0 (omega arith), kept-read 1 (omega arith), h, z) refl

    pub four-trips : held ≡ 3 → read 0 ∷ read 1 ∷ read 2 ∷ last ∷ [] ≡ firsts
    unfolding first_trips
    four-trips h = rw (kept-read 0 (omega arith), kept-read 1 (omega arith), kept-read 2 (omega arith), h) refl

-- ---- the kept trips together

-- Newton's sum of as many values as are known is their plain sum
known-total : (p : List ℕ) (n : ℕ) → newton_sum n (values n (λ k. pos (get_or p k 0))) ≡ total n (λ k. pos (get_or p k 0))
known-total p n = newton-sum n n (λ k. pos (get_or p k 0)) (λ k. pos (get_or p k 0)) (omega arith) (λ k h. refl) (inl (omega arith))

exact : (held : ℕ) (p : List ℕ) → held < depth_limit → length p ≡ depth_limit → take (held + 1) (map pos p) ≡ values (suc held) (λ k. pos (get_or p k 0))
    → trips_sum (suc held) held p ≡ floor_remainder (total (suc held) (λ k. pos (get_or p k 0))) (2 ^ 64)
unfolding trips_sum
exact held p h e t =
    ap (λ (z : ℤ). floor_remainder z (2 ^ 64))
    (weights-newton (suc held) (held + 1) p (omega arith) e ∙ ap (newton_sum (suc held)) t ∙ known-total p (suc held))

module _ (kept : List Bounds) (depth : ℕ) (figure : Bounds → ℕ) where
  abbrev trip : ℕ → ℕ
  trip number = figure (kept_trip kept depth number)

  abbrev none : ℕ
  none = figure no_bounds

  -- so it is of the trips that are held and the open one
  pub known-sum : (held : ℕ) (last : Bounds) → held < depth_limit →
      trips_sum (suc held) held (map figure (first_trips kept depth held last)) ≡ (kept_total kept depth figure held + figure last) % 2 ^ 64
  unfolding trips_sum first_trips kept_total total values floor_remainder
  known-sum zero last h = exact 0 (figure last ∷ none ∷ none ∷ none ∷ []) (omega arith) refl refl
  known-sum (suc zero) last h = exact 1 (trip 0 ∷ figure last ∷ none ∷ none ∷ []) (omega arith) refl refl
  known-sum (suc (suc zero)) last h = exact 2 (trip 0 ∷ trip 1 ∷ figure last ∷ none ∷ []) (omega arith) refl refl
  known-sum (suc (suc (suc zero))) last h = exact 3 (trip 0 ∷ trip 1 ∷ trip 2 ∷ figure last ∷ []) (omega arith) refl refl
  known-sum (suc (suc (suc (suc held)))) last h = absurd (omega arith)

  -- where the open trip is blank, the first three of the first trips, added up in turn, are the kept ones
  three-kept : (held : ℕ) → held < depth_limit → (trips : List Bounds) → trips ≡ first_trips kept depth held no_bounds → none ≡ 0
      → wrapped_sum (wrapped_sum (figure (get_or trips 0 no_bounds)) (figure (get_or trips 1 no_bounds))) (figure (get_or trips 2 no_bounds))
      ≡ kept_total kept depth figure held % 2 ^ 64
  unfolding first_trips kept_total wrapped_sum
  three-kept zero h trips e z = rw e (omega arith)
  three-kept (suc zero) h trips e z = rw e (omega arith)
  three-kept (suc (suc zero)) h trips e z = rw e (omega arith)
  three-kept (suc (suc (suc zero))) h trips e z = rw e (omega arith)
  three-kept (suc (suc (suc (suc held)))) h trips e z = absurd (omega arith)

pub kept-added :
    (kept : List Bounds) (depth held : ℕ) (trips : List Bounds) → held < depth_limit → trips ≡ first_trips kept depth held no_bounds
    → plus (plus (get_or trips 0 no_bounds) (get_or trips 1 no_bounds)) (get_or trips 2 no_bounds) ≡ kept_sum kept depth held
kept-added kept depth held trips h e =
    λ i. bounds (three-kept kept depth (λ b. b.least) held h trips e refl i) (three-kept kept depth (λ b. b.most) held h trips e refl i)
