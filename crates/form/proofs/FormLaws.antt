-- Within the limit, the code's range, value and push of a form are the meaning's; entries of depths that do not enclose the loop do not matter.
use mathlib.Core.Path.{◌≡◌, refl, sym, ap, ap₂, ◌∙◌}
use mathlib.Core.List.{List, [], ◌∷◌, ◌++◌, map}
use Prim.Native.Nat.{ℕ, zero, suc, ◌≤◌, ◌<◌}
use native.Mathlib.Omega.{arith}
use lib.Dec.{T}
use lib.IntN.{ℤ, pos, negsuc, nat_abs, ◌+ℤ◌, ◌*ℤ◌, +ℤ_idr, zero-*ℤ}
use lib.ListN.{length, take, drop, set, replicate}
use Rattle.whole.specs.Integer.{dot}
use Rattle.whole.proofs.Dot.{dot-nil}
use Rattle.meaning.specs.Limits.{parameter_factors}
use Rattle.meaning.specs.Form.{Form, is_zero, all_zero, value}
use Rattle.meaning.specs.Range.{Range, exact_range, scale, add_range, dot_range, range}
use Rattle.meaning.specs.Closed.{push}
use Rattle.meaning.proofs.Logic.{T_and}
use Rattle.form.specs.Forms.{size_limit, bounded, bounded_constant, folded, ranges_between, range_within, value_at, push_of}
use Rattle.form.proofs.Reckoned.{bounded-small}

-- of at most the limit's size
abbrev pub SizeWithin : ℤ → Type 0
SizeWithin z = nat_abs z ≤ size_limit

unfoldable pub NumbersWithin : List ℤ → Type 0
NumbersWithin [] = Unit
NumbersWithin (x ∷ xs) = SizeWithin x × NumbersWithin xs

unfoldable pub RangesWithin : List Range → Type 0
RangesWithin [] = Unit
RangesWithin (r ∷ rs) = SizeWithin r.lo × (SizeWithin r.hi × RangesWithin rs)

-- ---- factors that are 0

pub zero_is : (x : ℤ) → T (is_zero x) → x ≡ pos zero
unfolding is_zero
zero_is (pos zero) t = refl
zero_is (pos (suc n)) t = absurd t
zero_is (negsuc n) t = absurd t

pub dot-all-zero : (xs ys : List ℤ) → T (all_zero xs) → dot xs ys ≡ pos zero
unfolding all_zero
dot-all-zero [] ys t = refl
dot-all-zero (x ∷ xs) [] t = refl
dot-all-zero (x ∷ xs) (y ∷ ys) t =
    let both = T_and (is_zero x) (all_zero xs) t in
    ap₂ ◌+ℤ◌ (ap (λ (z : ℤ). z *ℤ y) (zero_is x both.0) ∙ zero-*ℤ y) (dot-all-zero xs ys both.1)

zero-scale : (r : Range) → scale (pos zero) r ≡ exact_range (pos zero)
unfolding scale
zero-scale r = λ i. record { lo = zero-*ℤ r.lo i; hi = zero-*ℤ r.hi i }

pub dot_range-all-zero : (xs : List ℤ) (rs : List Range) → T (all_zero xs) → dot_range xs rs ≡ exact_range (pos zero)
unfolding all_zero dot_range add_range
dot_range-all-zero [] rs t = refl
dot_range-all-zero (x ∷ xs) [] t = refl
dot_range-all-zero (x ∷ xs) (r ∷ rs) t =
    let both = T_and (is_zero x) (all_zero xs) t in
    ap₂ add_range (ap (λ (z : ℤ). scale z r) (zero_is x both.0) ∙ zero-scale r) (dot_range-all-zero xs rs both.1)

-- ---- sums of products over the first `depth` entries

dot-bounded : (xs ys : List ℤ) (depth : ℕ) → T (all_zero (drop depth xs)) → NumbersWithin (take depth ys)
    → dot xs (map bounded ys) ≡ dot xs (take depth ys)
unfolding NumbersWithin
dot-bounded xs ys zero t w = dot-all-zero xs (map bounded ys) t ∙ sym (dot-nil xs)
dot-bounded [] ys (suc depth) t w = refl
dot-bounded (x ∷ xs) [] (suc depth) t w = refl
dot-bounded (x ∷ xs) (y ∷ ys) (suc depth) t w =
    ap₂ ◌+ℤ◌ (ap (λ (z : ℤ). x *ℤ z) (bounded-small y w.0)) (dot-bounded xs ys depth t w.1)

range-nil : (xs : List ℤ) → dot_range xs [] ≡ exact_range (pos zero)
unfolding dot_range
range-nil [] = refl
range-nil (x ∷ xs) = refl

range-within : (xs lo hi : List ℤ) (depth : ℕ) → T (all_zero (drop depth xs)) → RangesWithin (take depth (ranges_between lo hi))
    → dot_range xs (ranges_between (map bounded lo) (map bounded hi)) ≡ dot_range xs (take depth (ranges_between lo hi))
unfolding RangesWithin ranges_between dot_range
range-within xs lo hi zero t w = dot_range-all-zero xs (ranges_between (map bounded lo) (map bounded hi)) t ∙ sym (range-nil xs)
range-within [] lo hi (suc depth) t w = refl
range-within (x ∷ xs) [] hi (suc depth) t w = refl
range-within (x ∷ xs) (l ∷ lo) [] (suc depth) t w = refl
range-within (x ∷ xs) (l ∷ lo) (h ∷ hi) (suc depth) t w =
    ap₂ add_range (λ i. scale x (record { lo = bounded-small l w.0 i; hi = bounded-small h w.1.0 i })) (range-within xs lo hi depth t w.1.1)

-- ---- a form with the parameters folded in

-- what is asked of a form of a loop that `depth` loops enclose
pub record Plain (parameters : List ℤ) (depth : ℕ) (f : Form) : Type 0 where
  pub enclosed : T (all_zero (drop depth f.index))
  pub small : SizeWithin f.constant
  pub small_sum : SizeWithin (f.constant +ℤ dot f.parameter parameters)

module _ {parameters : List ℤ} {depth : ℕ} {f : Form} (plain : Plain parameters depth f) where
  -- the constant, bounded twice and with no parameters left
  constant-folded : bounded (bounded f.constant +ℤ dot f.parameter parameters) +ℤ dot (replicate parameter_factors (pos zero)) []
      ≡ f.constant +ℤ dot f.parameter parameters
  constant-folded =
      +ℤ_idr (bounded (bounded f.constant +ℤ dot f.parameter parameters))
      ∙ ap (λ (z : ℤ). bounded (z +ℤ dot f.parameter parameters)) (bounded-small f.constant plain.small)
      ∙ bounded-small (f.constant +ℤ dot f.parameter parameters) plain.small_sum

  pub range-folded : (lo hi : List ℤ) → RangesWithin (take depth (ranges_between lo hi))
      → range_within (folded parameters f) lo hi ≡ range parameters f (take depth (ranges_between lo hi))
  unfolding range_within folded bounded_constant range
  range-folded lo hi w = ap₂ add_range (ap exact_range constant-folded) (range-within f.index lo hi depth plain.enclosed w)

  pub value-folded : (indexes : List ℤ) → NumbersWithin (take depth indexes) → value_at (folded parameters f) indexes ≡ value parameters f (take depth indexes)
  unfolding value_at folded bounded_constant value
  value-folded indexes w = ap₂ ◌+ℤ◌ constant-folded (dot-bounded f.index indexes depth plain.enclosed w)

  pub push-folded : (pushes : List ℤ) → NumbersWithin (take depth pushes) → push_of (folded parameters f) pushes ≡ push f (take depth pushes)
  unfolding push_of folded push
  push-folded pushes w = dot-bounded f.index pushes depth plain.enclosed w

-- ---- one more loop: its entry is stored at its depth, and the entries of the loops around stay

pub ranges-set : (lo hi : List ℤ) (depth : ℕ) (l h : ℤ) → depth < length lo → depth < length hi
    → take (suc depth) (ranges_between (set lo depth l) (set hi depth h)) ≡ take depth (ranges_between lo hi) ++ (record { lo = l; hi = h } ∷ [])
unfolding ranges_between
ranges-set [] hi depth l h p q = absurd (omega arith)
ranges-set (x ∷ lo) [] depth l h p q = absurd (omega arith)
ranges-set (x ∷ lo) (y ∷ hi) zero l h p q = refl
ranges-set (x ∷ lo) (y ∷ hi) (suc depth) l h p q =
    ap (λ (rs : List Range). record { lo = x; hi = y } ∷ rs) (ranges-set lo hi depth l h (omega arith) (omega arith))
