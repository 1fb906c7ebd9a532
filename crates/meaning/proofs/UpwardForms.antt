-- Forms over exchanged indexes, and negated forms: their values, ranges and pushes are those of the form, or minus those.
use mathlib.Core.Path.{◌≡◌, refl, sym, ap, ap₂, ◌∙◌}
use mathlib.Core.List.{List, [], ◌∷◌, ◌++◌, map}
use mathlib.Core.Bool.{Bool, true, false}
use Prim.Native.Nat.{ℕ, zero, suc, ◌+◌}
use native.Mathlib.Omega.{arith}
use lib.IntN.{ℤ, pos, negsuc, neg_ℤ, ◌+ℤ◌, ◌-ℤ◌, ◌*ℤ◌, neg_ℤ-+ℤ, neg_ℤ-neg_ℤ, zero-*ℤ}
use lib.ListN.{length, replicate, length-append}
use Rattle.whole.specs.Integer.{dot, subtract_lists}
use Rattle.whole.proofs.Ring.{negℤ-*ℤ, *ℤ-negℤ, negℤ-*ℤ-negℤ, neg-sub-neg}
use Rattle.whole.proofs.Dot.{dot-negated, subtract-negated}
use Rattle.meaning.specs.Form.{Form, value, subtract}
use Rattle.meaning.specs.Range.{Range, exact_range, scale, add_range, dot_range, range}
use Rattle.meaning.specs.Closed.{push}
use Rattle.meaning.proofs.Upward.{negate, turn, turn_form, turn_range, turn_each, turn_indexes}

-- ---- lists turned member by member

module _ {A : Type 0} (turned : Bool → A → A) where
  turn-nil : (downs : List Bool) → turn_each turned downs [] ≡ []
  unfolding turn_each
  turn-nil [] = refl
  turn-nil (down ∷ downs) = refl

  pub turn-length : (downs : List Bool) (xs : List A) → length (turn_each turned downs xs) ≡ length xs
  unfolding turn_each
  turn-length [] xs = refl
  turn-length (down ∷ downs) [] = refl
  turn-length (down ∷ downs) (x ∷ xs) = ap suc (turn-length downs xs)

  -- one more loop turns the member at its place
  pub turn-append-one : (downs : List Bool) (xs : List A) (down : Bool) (x : A) → length xs ≡ length downs →
      turn_each turned (downs ++ (down ∷ [])) (xs ++ (x ∷ [])) ≡ turn_each turned downs xs ++ (turned down x ∷ [])
  unfolding turn_each
  turn-append-one [] [] down x e = refl
  turn-append-one [] (y ∷ xs) down x e = absurd (omega arith)
  turn-append-one (d ∷ downs) [] down x e = absurd (omega arith)
  turn-append-one (d ∷ downs) (y ∷ xs) down x e = ap (λ ys. turned d y ∷ ys) (turn-append-one downs xs down x (omega arith))

pub append-one-length : {A B : Type 0} (xs : List A) (ys : List B) (x : A) (y : B) → length xs ≡ length ys → length (xs ++ (x ∷ [])) ≡ length (ys ++ (y ∷ []))
append-one-length xs ys x y e = length-append xs (x ∷ []) ∙ ap (λ (n : ℕ). n + 1) e ∙ sym (length-append ys (y ∷ []))

-- ---- numbers

turn-both : (down : Bool) (x y : ℤ) → turn down x *ℤ turn down y ≡ x *ℤ y
unfolding turn
turn-both true x y = negℤ-*ℤ-negℤ x y
turn-both false x y = refl

pub turn-add : (down : Bool) (x y : ℤ) → turn down x +ℤ turn down y ≡ turn down (x +ℤ y)
unfolding turn
turn-add true x y = sym (neg_ℤ-+ℤ x y)
turn-add false x y = refl

pub turn-times : (down : Bool) (x y : ℤ) → x *ℤ turn down y ≡ turn down (x *ℤ y)
unfolding turn
turn-times true x y = *ℤ-negℤ x y
turn-times false x y = refl

turn-negate : (down : Bool) (x : ℤ) → turn down (neg_ℤ x) ≡ neg_ℤ (turn down x)
unfolding turn
turn-negate true x = refl
turn-negate false x = refl

pub turn-zeros : (downs : List Bool) (n : ℕ) → turn_each turn downs (replicate n (pos zero)) ≡ replicate n (pos zero)
unfolding turn_each turn
turn-zeros [] n = refl
turn-zeros (down ∷ downs) zero = refl
turn-zeros (true ∷ downs) (suc n) = ap (λ (xs : List ℤ). pos zero ∷ xs) (turn-zeros downs n)
turn-zeros (false ∷ downs) (suc n) = ap (λ (xs : List ℤ). pos zero ∷ xs) (turn-zeros downs n)

turn-subtract : (downs : List Bool) (xs ys : List ℤ) →
    subtract_lists (turn_each turn downs xs) (turn_each turn downs ys) ≡ turn_each turn downs (subtract_lists xs ys)
unfolding turn_each
turn-subtract [] xs ys = refl
turn-subtract (down ∷ downs) [] [] = refl
turn-subtract (down ∷ downs) [] (y ∷ ys) =
    ap₂ ◌∷◌ (sym (turn-negate down y))
    (ap (λ (zs : List ℤ). subtract_lists zs (turn_each turn downs ys)) (sym (turn-nil turn downs)) ∙ turn-subtract downs [] ys)
turn-subtract (down ∷ downs) (x ∷ xs) [] = refl
turn-subtract (down ∷ downs) (x ∷ xs) (y ∷ ys) =
    ap₂ ◌∷◌ (ap (λ (z : ℤ). turn down x +ℤ z) (sym (turn-negate down y)) ∙ turn-add down x (neg_ℤ y)) (turn-subtract downs xs ys)

turn-dot : (downs : List Bool) (xs ys : List ℤ) → dot (turn_each turn downs xs) (turn_each turn downs ys) ≡ dot xs ys
unfolding turn_each
turn-dot [] xs ys = refl
turn-dot (down ∷ downs) [] ys = refl
turn-dot (down ∷ downs) (x ∷ xs) [] = refl
turn-dot (down ∷ downs) (x ∷ xs) (y ∷ ys) = ap₂ ◌+ℤ◌ (turn-both down x y) (turn-dot downs xs ys)

-- ---- ranges

module _ (r : Range) where
  -- 0 is its own negative
  scale-negated : (x : ℤ) → scale (neg_ℤ x) r ≡ turn_range true (scale x r)
  unfolding scale turn_range
  scale-negated (pos zero) = λ t. record { lo = zero-times r.lo r.hi t; hi = zero-times r.hi r.lo t }
    where
      zero-times : (x y : ℤ) → pos zero *ℤ x ≡ neg_ℤ (pos zero *ℤ y)
      zero-times x y = simp zero-*ℤ
  scale-negated (pos (suc a)) = λ t. record { lo = negℤ-*ℤ (pos (suc a)) r.hi t; hi = negℤ-*ℤ (pos (suc a)) r.lo t }
  scale-negated (negsuc a) = λ t. record { lo = negℤ-*ℤ (negsuc a) r.lo t; hi = negℤ-*ℤ (negsuc a) r.hi t }

  -- a factor's product with a range whose ends are negated and exchanged
  scale-turned : (x : ℤ) → scale x (turn_range true r) ≡ turn_range true (scale x r)
  unfolding scale turn_range
  scale-turned (pos a) = λ t. record { lo = *ℤ-negℤ (pos a) r.hi t; hi = *ℤ-negℤ (pos a) r.lo t }
  scale-turned (negsuc a) = λ t. record { lo = *ℤ-negℤ (negsuc a) r.lo t; hi = *ℤ-negℤ (negsuc a) r.hi t }

  turn-scale : (down : Bool) (x : ℤ) → scale (turn down x) (turn_range down r) ≡ scale x r
  unfolding turn
  turn-scale true x = scale-turned (neg_ℤ x) ∙ sym (scale-negated (neg_ℤ x)) ∙ ap (λ (z : ℤ). scale z r) (neg_ℤ-neg_ℤ x)
  turn-scale false x = unfold turn_range in refl

add-negated : (r s : Range) → add_range (turn_range true r) (turn_range true s) ≡ turn_range true (add_range r s)
unfolding add_range turn_range
add-negated r s = λ t. record { lo = sym (neg_ℤ-+ℤ r.hi s.hi) t; hi = sym (neg_ℤ-+ℤ r.lo s.lo) t }

turn-dot-range : (downs : List Bool) (xs : List ℤ) (ranges : List Range) →
    dot_range (turn_each turn downs xs) (turn_each turn_range downs ranges) ≡ dot_range xs ranges
unfolding turn_each dot_range
turn-dot-range [] xs ranges = refl
turn-dot-range (down ∷ downs) [] ranges = refl
turn-dot-range (down ∷ downs) (x ∷ xs) [] = refl
turn-dot-range (down ∷ downs) (x ∷ xs) (r ∷ ranges) = ap₂ add_range (turn-scale r down x) (turn-dot-range downs xs ranges)

dot-range-negated : (xs : List ℤ) (ranges : List Range) → dot_range (map neg_ℤ xs) ranges ≡ turn_range true (dot_range xs ranges)
unfolding dot_range
dot-range-negated [] ranges = unfold turn_range in refl
dot-range-negated (x ∷ xs) [] = unfold turn_range in refl
dot-range-negated (x ∷ xs) (r ∷ ranges) = ap₂ add_range (scale-negated r x) (dot-range-negated xs ranges) ∙ add-negated (scale x r) (dot_range xs ranges)

-- ---- forms

-- one form less another, over exchanged indexes, and both negated
pub subtract-turned : (downs : List Bool) (f g : Form) → subtract (turn_indexes downs f) (turn_indexes downs g) ≡ turn_indexes downs (subtract f g)
unfolding subtract turn_indexes
subtract-turned downs f g =
    λ t. record {
      constant = f.constant -ℤ g.constant;
      index = turn-subtract downs f.index g.index t;
      parameter = subtract_lists f.parameter g.parameter;
    }

pub subtract-negations : (f g : Form) → subtract (negate f) (negate g) ≡ subtract g f
unfolding subtract negate
subtract-negations f g =
    λ t. record {
      constant = neg-sub-neg f.constant g.constant t;
      index = subtract-negated f.index g.index t;
      parameter = subtract-negated f.parameter g.parameter t;
    }

module _ (downs : List Bool) (f : Form) where
  pub push-turned : (pushes : List ℤ) → push (turn_indexes downs f) (turn_each turn downs pushes) ≡ push f pushes
  unfolding push turn_indexes
  push-turned pushes = turn-dot downs f.index pushes

  pub value-turned : (ps indexes : List ℤ) → value ps (turn_indexes downs f) (turn_each turn downs indexes) ≡ value ps f indexes
  unfolding value turn_indexes
  value-turned ps indexes = ap (λ (z : ℤ). f.constant +ℤ dot f.parameter ps +ℤ z) (turn-dot downs f.index indexes)

  pub range-turned : (ps : List ℤ) (ranges : List Range) → range ps (turn_indexes downs f) (turn_each turn_range downs ranges) ≡ range ps f ranges
  unfolding range turn_indexes
  range-turned ps ranges = ap (add_range (exact_range (f.constant +ℤ dot f.parameter ps))) (turn-dot-range downs f.index ranges)

module _ (f : Form) where
  pub push-turn-form : (down : Bool) (pushes : List ℤ) → push (turn_form down f) pushes ≡ turn down (push f pushes)
  unfolding push turn_form turn negate
  push-turn-form true pushes = dot-negated f.index pushes
  push-turn-form false pushes = refl

  module _ (ps : List ℤ) where
    fixed-negated : neg_ℤ f.constant +ℤ dot (map neg_ℤ f.parameter) ps ≡ neg_ℤ (f.constant +ℤ dot f.parameter ps)
    fixed-negated = ap (λ (z : ℤ). neg_ℤ f.constant +ℤ z) (dot-negated f.parameter ps) ∙ sym (neg_ℤ-+ℤ f.constant (dot f.parameter ps))

    pub value-turn-form : (down : Bool) (indexes : List ℤ) → value ps (turn_form down f) indexes ≡ turn down (value ps f indexes)
    unfolding value turn_form turn negate
    value-turn-form true indexes =
        ap₂ ◌+ℤ◌ fixed-negated (dot-negated f.index indexes) ∙ sym (neg_ℤ-+ℤ (f.constant +ℤ dot f.parameter ps) (dot f.index indexes))
    value-turn-form false indexes = refl

    pub range-turn-form : (down : Bool) (ranges : List Range) → range ps (turn_form down f) ranges ≡ turn_range down (range ps f ranges)
    unfolding range turn_form negate
    range-turn-form true ranges =
        (λ t. add_range (exact_range (fixed-negated t)) (dot-range-negated f.index ranges t))
        ∙ unfold turn_range in add-negated (exact_range (f.constant +ℤ dot f.parameter ps)) (dot_range f.index ranges)
    range-turn-form false ranges = unfold turn_range in refl
