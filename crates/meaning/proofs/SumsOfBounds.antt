-- Sums of bounds and of counts: the laws of adding, and what is at most the whole sum.
use mathlib.Core.Path.{◌≡◌, ap}
use Prim.Native.Nat.{ℕ, zero, suc, ◌+◌, ◌≤◌, ◌<◌}
use native.Mathlib.Decide.{dec_le}
use native.Mathlib.Omega.{arith}
use Rattle.meaning.specs.Time.{Bounds, exactly, ◌⊕◌, sum_over}
use Rattle.meaning.specs.Visits.{count_over}
use Rattle.meaning.proofs.Logic.{bounds-equal}

pub ⊕-assoc : (a b c : Bounds) → a ⊕ b ⊕ c ≡ a ⊕ (b ⊕ c)
⊕-assoc a b c = bounds-equal (a ⊕ b ⊕ c) (a ⊕ (b ⊕ c)) (omega arith) (omega arith)

pub zero-⊕ : (a : Bounds) → exactly zero ⊕ a ≡ a
zero-⊕ a = bounds-equal (exactly zero ⊕ a) a (omega arith) (omega arith)

pub ⊕-zero : (a : Bounds) → a ⊕ exactly zero ≡ a
⊕-zero a = bounds-equal (a ⊕ exactly zero) a (omega arith) (omega arith)

-- three terms, the last two as one
pub ⊕-three : (a b c d : Bounds) → a ⊕ (b ⊕ c ⊕ d) ≡ a ⊕ b ⊕ c ⊕ d
⊕-three a b c d = bounds-equal (a ⊕ (b ⊕ c ⊕ d)) (a ⊕ b ⊕ c ⊕ d) (omega arith) (omega arith)

-- one term of a sum
pub term-at-most : (n : ℕ) (f : ℕ → Bounds) (k : ℕ) → k < n → ((f k).least ≤ (sum_over n f).least) × ((f k).most ≤ (sum_over n f).most)
unfolding sum_over
term-at-most zero f k h = absurd (omega arith)
term-at-most (suc n) f k h = elim (dec_le (suc k) n) [ yes i ↦ (let j = term-at-most n f k i in (omega arith, omega arith)) | no i ↦ last (omega arith) ]
  where
    last : k ≡ n → ((f k).least ≤ (sum_over n f ⊕ f n).least) × ((f k).most ≤ (sum_over n f ⊕ f n).most)
    last e = (omega (arith, ap (λ (m : ℕ). (f m).least) e), omega (arith, ap (λ (m : ℕ). (f m).most) e))

-- one term after the first ones
sum-after : (m n : ℕ) (f : ℕ → Bounds) → m < n →
    ((sum_over m f).least + (f m).least ≤ (sum_over n f).least) × ((sum_over m f).most + (f m).most ≤ (sum_over n f).most)
unfolding sum_over
sum-after m zero f h = absurd (omega arith)
sum-after m (suc n) f h =
    elim (dec_le (suc m) n) [ yes i ↦ (let j = sum-after m n f i in (omega arith, omega arith)) | no i ↦ last (omega arith) ]
  where
    last : m ≡ n → ((sum_over m f).least + (f m).least ≤ (sum_over n f ⊕ f n).least) × ((sum_over m f).most + (f m).most ≤ (sum_over n f ⊕ f n).most)
    last e = (omega (arith, ap (λ (k : ℕ). (sum_over k f ⊕ f k).least) e), omega (arith, ap (λ (k : ℕ). (sum_over k f ⊕ f k).most) e))

-- the first terms of a sum
pub first-terms-at-most : (m n : ℕ) (f : ℕ → Bounds) → m ≤ n → ((sum_over m f).least ≤ (sum_over n f).least) × ((sum_over m f).most ≤ (sum_over n f).most)
unfolding sum_over
first-terms-at-most zero n f h = (omega arith, omega arith)
first-terms-at-most (suc m) n f h =
    let i = first-terms-at-most m n f (omega arith) in
    let j = sum-after m n f h in
    (omega arith, omega arith)

-- the first terms of a count
pub first-counts-at-most : (m n : ℕ) (f : ℕ → ℕ) → m ≤ n → count_over m f ≤ count_over n f
unfolding count_over
first-counts-at-most m zero f h = let e : m ≡ 0 = omega arith in omega (arith, ap (λ (k : ℕ). count_over k f) e)
first-counts-at-most m (suc n) f h =
    elim (dec_le m n) [ yes i ↦ omega (arith, first-counts-at-most m n f i) | no i ↦ all (omega arith) ]
  where
    all : m ≡ suc n → count_over m f ≤ count_over (suc n) f
    all e = omega (arith, ap (λ (k : ℕ). count_over k f) e)
