-- The smallest and the largest number of a list stand in it, bound all others, and are found where they stand first.
use mathlib.Core.Path.{◌≡◌, refl, sym, ◌∙◌}
use mathlib.Core.List.{List, [], ◌∷◌}
use mathlib.Core.Bool.{Bool, true, false, cond}
use Prim.Native.Nat.{ℕ, zero, suc, min, max, ◌≤◌, ◌<◌}
use native.Mathlib.Decide.{dec_le}
use native.Mathlib.Omega.{arith}
use borrow.Author.Tests.{eq-eqb}
use lib.Dec.{eqb, eqb→eq}
use lib.ListN.{length, get_or}
use Rattle.meaning.proofs.Logic.{true→T, true-is-not-false}
use Rattle.ranges.specs.Extremes.{smallest, largest, position}

-- ---- where a number stands

-- a number stands at a place of a list, and nowhere before
pub record FirstAt (n : ℕ) (ns : List ℕ) (k : ℕ) : Type 0 where
  pub within : k < length ns
  pub there : get_or ns k 0 ≡ n
  pub not_before : (j : ℕ) → j < k → ¬ (get_or ns j 0 ≡ n)

pub position_first : (n : ℕ) (ns : List ℕ) (k : ℕ) → k < length ns → get_or ns k 0 ≡ n → FirstAt n ns (position n ns)
unfolding position
position_first n [] k h e = absurd (omega arith)
position_first n (m ∷ ms) k h e = by-test (λ j i f. position_first n ms j i f) k h e (eqb n m) refl
  where
    differs : {A : Type 0} → eqb n m ≡ false → m ≡ n → A
    differs t e = true-is-not-false (sym (eq-eqb n m (sym e)) ∙ t)

    by-test : ((j : ℕ) → j < length ms → get_or ms j 0 ≡ n → FirstAt n ms (position n ms)) →
        (k : ℕ) → k < length (m ∷ ms) → get_or (m ∷ ms) k 0 ≡ n → (b : Bool) → eqb n m ≡ b → FirstAt n (m ∷ ms) (cond b zero (suc (position n ms)))
    by-test later k h e true t =
        record { within = omega arith; there = sym (eqb→eq n m (true→T (eqb n m) t)); not_before = λ j i. absurd (omega arith) }
    by-test later zero h e false t = differs t e
    by-test later (suc k) h e false t =
        let found = later k (omega arith) e in
        record { within = let w = found.within in omega arith; there = found.there; not_before = not-before found }
      where
        not-before : FirstAt n ms (position n ms) → (j : ℕ) → j < suc (position n ms) → ¬ (get_or (m ∷ ms) j 0 ≡ n)
        not-before found zero i = λ e. differs t e
        not-before found (suc j) i = found.not_before j (omega arith)

-- there is only one such place
pub only-first : {n : ℕ} {ns : List ℕ} {j k : ℕ} → FirstAt n ns j → FirstAt n ns k → j ≡ k
only-first {n} {ns} {j} {k} a b = by_order (dec_le j k) (dec_le k j)
  where
    by_order : Dec (j ≤ k) → Dec (k ≤ j) → j ≡ k
    by_order (yes p) (yes q) = omega arith
    by_order (no p) q = absurd (a.not_before k (omega arith) b.there)
    by_order (yes p) (no q) = absurd (b.not_before j (omega arith) a.there)

-- so it is the position
pub first-position : {n : ℕ} {ns : List ℕ} {k : ℕ} → FirstAt n ns k → k ≡ position n ns
first-position {n} {ns} {k} a = only-first a (position_first n ns k a.within a.there)

-- ---- the smallest

pub smallest-below : (ns : List ℕ) (k : ℕ) → k < length ns → smallest ns ≤ get_or ns k 0
unfolding smallest
smallest-below [] k h = absurd (omega arith)
smallest-below (n ∷ []) zero h = omega arith
smallest-below (n ∷ []) (suc k) h = absurd (omega arith)
smallest-below (n ∷ m ∷ ms) zero h = omega arith
smallest-below (n ∷ m ∷ ms) (suc k) h = let i = smallest-below (m ∷ ms) k (omega arith) in omega arith

smallest-there : (ns : List ℕ) → 1 ≤ length ns → (k : ℕ) × (k < length ns) × (get_or ns k 0 ≡ smallest ns)
unfolding smallest
smallest-there [] h = absurd (omega arith)
smallest-there (n ∷ []) h = (zero, omega arith, refl)
smallest-there (n ∷ m ∷ ms) h = by_order (smallest-there (m ∷ ms) (omega arith)) (dec_le n (smallest (m ∷ ms)))
  where
    by_order : (k : ℕ) × (k < length (m ∷ ms)) × (get_or (m ∷ ms) k 0 ≡ smallest (m ∷ ms)) → Dec (n ≤ smallest (m ∷ ms)) →
        (k : ℕ) × (k < length (n ∷ m ∷ ms)) × (get_or (n ∷ m ∷ ms) k 0 ≡ min n (smallest (m ∷ ms)))
    by_order (k, i, e) (yes o) = (zero, omega arith, omega arith)
    by_order (k, i, e) (no o) = (suc k, omega arith, e ∙ omega arith)

pub smallest-first : (ns : List ℕ) → 1 ≤ length ns → FirstAt (smallest ns) ns (position (smallest ns) ns)
smallest-first ns h = let s = smallest-there ns h in position_first (smallest ns) ns s.0 s.1 s.2

-- a number that stands in the list and is at most every other is the smallest
pub smallest-is : (ns : List ℕ) {k : ℕ} → k < length ns → ((j : ℕ) → j < length ns → get_or ns k 0 ≤ get_or ns j 0) → get_or ns k 0 ≡ smallest ns
smallest-is ns {k} h least =
    let s = smallest-there ns (omega arith) in
    let a = smallest-below ns k h in
    let b = least s.0 s.1 in
    omega (arith, s.2)

-- ---- the largest

pub largest-above : (ns : List ℕ) (k : ℕ) → k < length ns → get_or ns k 0 ≤ largest ns
unfolding largest
largest-above [] k h = absurd (omega arith)
largest-above (n ∷ ns) zero h = omega arith
largest-above (n ∷ ns) (suc k) h = let i = largest-above ns k (omega arith) in omega arith

largest-there : (ns : List ℕ) → 1 ≤ length ns → (k : ℕ) × (k < length ns) × (get_or ns k 0 ≡ largest ns)
unfolding largest
largest-there [] h = absurd (omega arith)
largest-there (n ∷ []) h = (zero, omega arith, omega arith)
largest-there (n ∷ m ∷ ms) h = by_order (largest-there (m ∷ ms) (omega arith)) (dec_le (largest (m ∷ ms)) n)
  where
    by_order : (k : ℕ) × (k < length (m ∷ ms)) × (get_or (m ∷ ms) k 0 ≡ largest (m ∷ ms)) → Dec (largest (m ∷ ms) ≤ n) →
        (k : ℕ) × (k < length (n ∷ m ∷ ms)) × (get_or (n ∷ m ∷ ms) k 0 ≡ max n (largest (m ∷ ms)))
    by_order (k, i, e) (yes o) = (zero, omega arith, omega arith)
    by_order (k, i, e) (no o) = (suc k, omega arith, e ∙ omega arith)

pub largest-first : (ns : List ℕ) → 1 ≤ length ns → FirstAt (largest ns) ns (position (largest ns) ns)
largest-first ns h = let s = largest-there ns h in position_first (largest ns) ns s.0 s.1 s.2

-- a number that stands in the list and is at least every other is the largest
pub largest-is : (ns : List ℕ) {k : ℕ} → k < length ns → ((j : ℕ) → j < length ns → get_or ns j 0 ≤ get_or ns k 0) → get_or ns k 0 ≡ largest ns
largest-is ns {k} h most =
    let s = largest-there ns (omega arith) in
    let a = largest-above ns k h in
    let b = most s.0 s.1 in
    omega (arith, s.2)
