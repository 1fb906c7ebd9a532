-- Lists of three and four factors by their elements: differences, sums of products, and the smallest of sums of products over ranges.
use mathlib.Core.Path.{◌≡◌, refl, sym, ap, ap₂, subst, ◌∙◌}
use mathlib.Core.List.{List, [], ◌∷◌, map}
use mathlib.Core.Bool.{Bool, cond}
use Prim.Native.Nat.{ℕ, zero, suc, ◌+◌, ◌*◌, ◌^◌, ◌<◌, ◌≤◌}
use native.Mathlib.Numerals.{add-one}
use native.Mathlib.Omega.{arith}
use borrow.Author.Tests.{le-ltb}
use lib.IntN.{ℤ, pos, negsuc, nat_abs, ◌+ℤ◌, ◌-ℤ◌, ◌*ℤ◌, +ℤ_idr, *ℤ-zero}
use lib.ListN.{length, get_or, set, take, replicate, get_or-eq_default}
use lib.Signed.{lt_z}
use mir.Syntax.{w64}
use borrow.Author.Count.{below_more}
use Rattle.std.proofs.lemmas.Int.{ints}
use Rattle.std.proofs.lemmas.Grind.{common_steps}
use Rattle.std.proofs.lemmas.List.{get_or-set_same}
use Rattle.whole.specs.Integer.{dot, subtract_lists}
use Rattle.whole.proofs.Dot.{dot-nil}
use Rattle.whole.proofs.Elements.{elements}
use Rattle.meaning.specs.Limits.{depth_limit, index_factors, parameter_factors}
use Rattle.meaning.specs.Form as M
use Rattle.meaning.specs.Form.{value}
use Rattle.meaning.specs.Range.{scale, add_range, dot_range, range}
use Rattle.meaning.specs.Closed.{push}
use Rattle.form.specs.Packed.{form_of, blank_form}
use Rattle.form.specs.Forms.{size_limit, bounded, bounded_constant, ranges_between, range_within, value_at, push_of}
use Rattle.form.proofs.Reckoned.{held, Reckoned, known, InWidth, bounded-three, bounded-size}

-- ---- lists by their elements

-- the element at an index
abbrev pub at : List ℤ → ℕ → ℤ
at xs k = get_or xs k (pos 0)

pub indexes-are : (xs : List ℤ) → length xs ≡ index_factors → at xs 0 ∷ at xs 1 ∷ at xs 2 ∷ [] ≡ xs
indexes-are xs h = elements index_factors xs (pos 0) h

-- the parameters, and the numbers of the loops of every depth
pub four_are : (xs : List ℤ) → length xs ≡ parameter_factors → at xs 0 ∷ at xs 1 ∷ at xs 2 ∷ at xs 3 ∷ [] ≡ xs
four_are xs h = elements parameter_factors xs (pos 0) h

-- one difference more
pub differences-more : (ds xs ys : List ℤ) (k : ℕ) {d : ℤ} → k < length ds → ((j : ℕ) → j < k → at ds j ≡ at xs j -ℤ at ys j) → d ≡ at xs k -ℤ at ys k
    → (j : ℕ) → j < k + 1 → at (set ds k d) j ≡ at xs j -ℤ at ys j
differences-more ds xs ys k {d} inside earlier here =
    below_more (λ (j : ℕ). at (set ds k d) j ≡ at xs j -ℤ at ys j) k (λ j h. grind (arith, common_steps, earlier j h))
    (get_or-set_same ds k d (pos 0) inside ∙ here)

-- all of them
pub differences-are : (n : ℕ) (ds xs ys : List ℤ) → length ds ≡ n → length xs ≡ n → length ys ≡ n → ((j : ℕ) → j < n → at ds j ≡ at xs j -ℤ at ys j)
    → ds ≡ subtract_lists xs ys
differences-are zero [] [] [] hd hx hy each = refl
differences-are (suc n) (d ∷ ds) (x ∷ xs) (y ∷ ys) hd hx hy each =
    ap₂ ◌∷◌ (each 0 (omega arith)) (differences-are n ds xs ys (omega arith) (omega arith) (omega arith) (λ j h. each (suc j) (omega arith)))
differences-are zero (d ∷ ds) xs ys hd hx hy each = absurd (omega arith)
differences-are zero [] (x ∷ xs) ys hd hx hy each = absurd (omega arith)
differences-are zero [] [] (y ∷ ys) hd hx hy each = absurd (omega arith)
differences-are (suc n) [] xs ys hd hx hy each = absurd (omega arith)
differences-are (suc n) (d ∷ ds) [] ys hd hx hy each = absurd (omega arith)
differences-are (suc n) (d ∷ ds) (x ∷ xs) [] hd hx hy each = absurd (omega arith)

-- one product more
pub dot-more : (xs ys : List ℤ) (k : ℕ) → k < length xs → k < length ys → dot (take (k + 1) xs) (take (k + 1) ys) ≡ dot (take k xs) (take k ys) +ℤ at xs k *ℤ at ys k
dot-more xs ys k h l = rw add-one (go xs ys k h l)
  where
    go : (xs ys : List ℤ) (k : ℕ) → k < length xs → k < length ys → dot (take (suc k) xs) (take (suc k) ys) ≡ dot (take k xs) (take k ys) +ℤ at xs k *ℤ at ys k
    go [] ys k h l = absurd (omega arith)
    go (x ∷ xs) [] k h l = absurd (omega arith)
    go (x ∷ xs) (y ∷ ys) zero h l = omega (arith, ints)
    go (x ∷ xs) (y ∷ ys) (suc k) h l = let e = go xs ys k (omega arith) (omega arith) in omega (arith, ints, e)

-- numbers within the limit
pub small-all : (xs : List ℤ) (k : ℕ) → nat_abs (at (map bounded xs) k) ≤ size_limit
small-all [] k = omega arith
small-all (x ∷ xs) zero = bounded-size x
small-all (x ∷ xs) (suc k) = small-all xs k

-- no more than three indexes take part in a form, and one that is not there counts as 0
dot-row : (xs ys : List ℤ) → length xs ≡ index_factors → dot xs (bounded (at ys 0) ∷ bounded (at ys 1) ∷ bounded (at ys 2) ∷ []) ≡ dot xs (map bounded ys)
unfolding bounded
dot-row xs ys h = subst (λ (l : List ℤ). dot l (first_three ys) ≡ dot l (map bounded ys)) (indexes-are xs h) (by_length (at xs 0) (at xs 1) (at xs 2) ys)
  where
    first_three : List ℤ → List ℤ
    first_three ys = bounded (at ys 0) ∷ bounded (at ys 1) ∷ bounded (at ys 2) ∷ []

    by_length : (a b c : ℤ) (ys : List ℤ) → dot (a ∷ b ∷ c ∷ []) (first_three ys) ≡ dot (a ∷ b ∷ c ∷ []) (map bounded ys)
    by_length a b c [] = simp *ℤ-zero
    by_length a b c (d ∷ []) = simp *ℤ-zero
    by_length a b c (d ∷ e ∷ []) = simp *ℤ-zero
    by_length a b c (d ∷ e ∷ f ∷ ys) = refl

-- what the sum of three products says of its result
pub dot-read : (xs ys : List ℤ) {r : ℤ} → length xs ≡ index_factors → InWidth w64 (at ys 0) → InWidth w64 (at ys 1) → InWidth w64 (at ys 2)
    → (r ≡ dot xs (bounded (held w64 (at ys 0)) ∷ bounded (held w64 (at ys 1)) ∷ bounded (held w64 (at ys 2)) ∷ [])) × (nat_abs r ≤ index_factors * 2 ^ 61)
    → Reckoned r (dot xs (map bounded ys)) (index_factors * 2 ^ 61)
dot-read xs ys hx f g k (e, h) = known (e ∙ ap (dot xs) (bounded-three (at ys 0) (at ys 1) (at ys 2) f g k) ∙ dot-row xs ys hx) h (omega arith)

-- ---- ranges

-- the end at which the product is smallest
abbrev smallest_end : ℤ → ℤ → ℤ → ℤ
smallest_end factor lo hi = cond (lt_z factor (pos 0)) hi lo

scale-end : (factor lo hi : ℤ) → factor *ℤ bounded (smallest_end factor lo hi) ≡ (scale factor (record { lo = bounded lo; hi = bounded hi })).lo
unfolding scale
scale-end (pos a) lo hi = ap (λ (b : Bool). pos a *ℤ bounded (cond b hi lo)) (le-ltb a 0 (omega arith))
scale-end (negsuc a) lo hi = refl

-- the ends of a form's three indexes
abbrev smallest_ends : List ℤ → List ℤ → List ℤ → List ℤ
smallest_ends xs lo hi =
    bounded (smallest_end (at xs 0) (at lo 0) (at hi 0)) ∷ bounded (smallest_end (at xs 1) (at lo 1) (at hi 1)) ∷ bounded (smallest_end (at xs 2) (at lo 2) (at hi 2)) ∷ []

pub smallest-dot : (xs lo hi : List ℤ) → length xs ≡ index_factors → length lo ≡ depth_limit → length hi ≡ depth_limit
    → dot xs (smallest_ends xs lo hi) ≡ (dot_range xs (ranges_between (map bounded lo) (map bounded hi))).lo
unfolding dot_range add_range ranges_between
smallest-dot xs lo hi hx hl hh =
    ap (λ (l : List ℤ). dot l (smallest_ends xs lo hi)) (sym (indexes-are xs hx))
    ∙ ap₂ ◌+ℤ◌ (by_end 0) (ap₂ ◌+ℤ◌ (by_end 1) (ap₂ ◌+ℤ◌ (by_end 2) refl))
    ∙ (λ i. (dot_range (indexes-are xs hx i) (ranges_between (map bounded (four_are lo hl i)) (map bounded (four_are hi hh i)))).lo)
  where
    by_end : (k : ℕ) → at xs k *ℤ bounded (smallest_end (at xs k) (at lo k) (at hi k))
        ≡ (scale (at xs k) (record { lo = bounded (at lo k); hi = bounded (at hi k) })).lo
    by_end k = scale-end (at xs k) (at lo k) (at hi k)

scale-exchange : (factor lo hi : ℤ) → (scale factor (record { lo = hi; hi = lo })).lo ≡ (scale factor (record { lo = lo; hi = hi })).hi
unfolding scale
scale-exchange (pos a) lo hi = refl
scale-exchange (negsuc a) lo hi = refl

-- the largest is the smallest with the ends exchanged
largest-dot : (xs lo hi : List ℤ) → (dot_range xs (ranges_between hi lo)).lo ≡ (dot_range xs (ranges_between lo hi)).hi
unfolding dot_range add_range ranges_between
largest-dot [] lo hi = refl
largest-dot (x ∷ xs) [] [] = refl
largest-dot (x ∷ xs) [] (h ∷ hs) = refl
largest-dot (x ∷ xs) (l ∷ ls) [] = refl
largest-dot (x ∷ xs) (l ∷ ls) (h ∷ hs) = ap₂ ◌+ℤ◌ (scale-exchange x l h) (largest-dot xs ls hs)

-- ---- a form with no parameters

module _ (f : M.Form) where
  alone : bounded f.constant ≡ bounded f.constant +ℤ dot f.parameter []
  alone = sym (ap (λ (z : ℤ). bounded f.constant +ℤ z) (dot-nil f.parameter) ∙ +ℤ_idr (bounded f.constant))

  pub range-lo : (lo hi : List ℤ) → bounded f.constant +ℤ (dot_range f.index (ranges_between (map bounded lo) (map bounded hi))).lo ≡ (range_within f lo hi).lo
  unfolding range_within bounded_constant range add_range
  range-lo lo hi = ap (λ (z : ℤ). z +ℤ (dot_range f.index (ranges_between (map bounded lo) (map bounded hi))).lo) alone

  pub range-hi : (lo hi : List ℤ) → bounded f.constant +ℤ (dot_range f.index (ranges_between (map bounded hi) (map bounded lo))).lo ≡ (range_within f lo hi).hi
  unfolding range_within bounded_constant range add_range
  range-hi lo hi = ap₂ ◌+ℤ◌ alone (largest-dot f.index (map bounded lo) (map bounded hi))

  pub value-at : (indexes : List ℤ) → bounded f.constant +ℤ dot f.index (map bounded indexes) ≡ value_at f indexes
  unfolding value_at bounded_constant value
  value-at indexes = ap (λ (z : ℤ). z +ℤ dot f.index (map bounded indexes)) alone

  -- a row that is not there pushes nothing
  pub push-none : (rows : List (List ℤ)) (m : ℕ) → length rows ≤ m → pos 0 ≡ push_of f (get_or rows m [])
  unfolding push_of push
  push-none rows m h = sym (ap (λ (row : List ℤ). dot f.index (map bounded row)) (get_or-eq_default rows [] h) ∙ dot-nil f.index)

-- less a form of zeros
subtract-zeros : (xs : List ℤ) (n : ℕ) → length xs ≡ n → subtract_lists xs (replicate n (pos 0)) ≡ xs
subtract-zeros [] zero h = refl
subtract-zeros [] (suc n) h = absurd (omega arith)
subtract-zeros (x ∷ xs) zero h = absurd (omega arith)
subtract-zeros (x ∷ xs) (suc n) h = ap₂ ◌∷◌ (+ℤ_idr x) (subtract-zeros xs n (omega arith))

pub subtract-blank : (f : M.Form) → length f.index ≡ index_factors → length f.parameter ≡ parameter_factors → M.subtract f (form_of blank_form) ≡ f
unfolding M.subtract
subtract-blank f hi hp = λ i. record {
  constant = +ℤ_idr f.constant i;
  index = subtract-zeros f.index index_factors hi i;
  parameter = subtract-zeros f.parameter parameter_factors hp i;
}
