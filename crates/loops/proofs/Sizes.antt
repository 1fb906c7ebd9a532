-- How large a loop's numbers get on accepted sheets at parameters of 16 bits: a D is below 2^47, a push on a D below 2^32, whatever the ceilings.
use mathlib.Core.List.{◌++◌, List, [], map, map-append, ◌∷◌}
use mathlib.Core.Bool.{Bool, cond, false, true}
use mathlib.Core.Path.{ap, refl, subst, sym, ◌∙◌, ◌≡◌}
use Prim.Native.Nat.{◌*◌, ◌+◌, ◌<◌, ◌^◌, max, suc, ℕ, ◌≤◌, zero}
use native.Mathlib.Omega.{arith}
use native.Mathlib.Nat.{le_refl, mul-add, mul-le-mul}
use lib.IntN.{◌*ℤ◌, ◌+ℤ◌, ◌-ℤ◌, nat_abs, negsuc, neg_ℤ, pos, ℤ}
use lib.Dec.{T, ltb, ltb→lt}
use lib.ListN.{drop, length, replicate, take}
use lib.Signed.{le_z, mag, nat_abs-le}
use Rattle.whole.specs.Integer.{dot, subtract_lists}
use Rattle.whole.proofs.Order.{AtMost-trans, nat_abs-above, nat_abs-add, nat_abs-below, nat_abs-between, nat_abs-mul-le, nat_abs-neg}
use Rattle.meaning.specs.Form.{Form, all_zero, factors_fit, is_zero, subtract, value}
use Rattle.meaning.specs.Record.{Loop, stride_size, counts_down, Record, choice_record, end_record, fields_in_range, loop_depth, loop_record, next_arm_record, open_choice, open_loop, work_record, Open}
use Rattle.meaning.specs.Range.{Range, add_range, difference_range, dot_range, exact_range, index_range, inner_ranges, range, range_down, range_up, scale}
use Rattle.meaning.specs.Limits.{constant_half, factor_half, index_factors, parameter_factors, stride_limit}
use Rattle.meaning.specs.Time.{difference_up, difference_down, difference}
use Rattle.meaning.specs.Number.{has_pattern}
use Rattle.meaning.specs.Closed.{push, push_inner, push_own}
use Rattle.meaning.proofs.Accepted.{FormInRange, InPlace, LoopInRange, loop-in-range}
use Rattle.meaning.proofs.Trips.{Inside}
use Rattle.meaning.proofs.Logic.{T_and, and_t}
use Rattle.meaning.proofs.Ranges.{Within, value-inside}
use Rattle.form.proofs.FormLaws.{Plain}
use Rattle.nest.specs.Walk.{opens_after}
use Rattle.nest.proofs.Places.{in-place-next, in-place-through}
use Rattle.nest.proofs.Walks.{opens_through}
use Rattle.loops.specs.Enclosing.{Enclosing, enclosing_after, enclosing_through, enter, leave, nothing_open, without_last}

-- ---- sizes that rise with the depth

-- the sum of the sizes
unfoldable pub sum : List ℕ → ℕ
sum [] = zero
sum (n ∷ ns) = n + sum ns

-- b multiplied by 129 so many times: what a form makes of an index of each depth, if its constant part and each factor are as large as they may be
unfoldable pub grown : ℕ → ℕ → ℕ
grown b zero = b
grown b (suc n) = grown (129 * b) n

-- each size is at most b, 129 times as much one deeper
unfoldable pub Rising : ℕ → List ℕ → Type 0
Rising b [] = Unit {0}
Rising b (n ∷ ns) = (n ≤ b) × Rising (129 * b) ns

grown-base : (n b : ℕ) → b ≤ grown b n
unfolding grown
grown-base zero b = omega arith
grown-base (suc n) b = let i = grown-base n (129 * b) in omega arith

-- a form over such sizes, with factors up to 128, is within the next one
pub rising-sum : (ns : List ℕ) (b : ℕ) → Rising b ns → b + 128 * sum ns ≤ grown b (length ns)
unfolding Rising grown sum
rising-sum [] b h = omega arith
rising-sum (n ∷ ns) b (p, h) = let i = rising-sum ns (129 * b) h in omega arith

pub rising-append-one : (ns : List ℕ) (b n : ℕ) → Rising b ns → n ≤ grown b (length ns) → Rising b (ns ++ (n ∷ []))
unfolding Rising grown
rising-append-one [] b n h p = (p, tt)
rising-append-one (m ∷ ns) b n (q, h) p = (q, rising-append-one ns (129 * b) n h p)

rising-without : (ns : List ℕ) (b : ℕ) → Rising b ns → Rising b (without_last ns)
unfolding Rising without_last
rising-without [] b h = tt
rising-without (n ∷ []) b h = tt
rising-without (n ∷ m ∷ ns) b (p, h) = (p, rising-without (m ∷ ns) (129 * b) h)

-- of the first elements
rising-take : (k : ℕ) (ns : List ℕ) (b : ℕ) → Rising b ns → b + 128 * sum (take k ns) ≤ grown b k
unfolding Rising grown sum
rising-take zero ns b h = omega arith
rising-take (suc k) [] b h = let i = grown-base k (129 * b) in omega arith
rising-take (suc k) (n ∷ ns) b (p, h) = let i = rising-take k ns (129 * b) h in omega arith

sum-take : (k : ℕ) (ns : List ℕ) → sum (take k ns) ≤ sum ns
unfolding sum
sum-take zero ns = omega arith
sum-take (suc k) [] = omega arith
sum-take (suc k) (n ∷ ns) = let i = sum-take k ns in omega arith

-- ---- sums of products

abbrev pub sizes : List ℤ → List ℕ
sizes xs = map nat_abs xs

-- the size of a range's larger end
abbrev pub reach : Range → ℕ
reach r = max (nat_abs r.lo) (nat_abs r.hi)

unfoldable pub AllAtMost : ℕ → List ℤ → Type 0
AllAtMost m [] = Unit {0}
AllAtMost m (x ∷ xs) = (nat_abs x ≤ m) × AllAtMost m xs

pub dot-size : (m : ℕ) (xs ys : List ℤ) → AllAtMost m xs → nat_abs (dot xs ys) ≤ m * sum (take (length xs) (sizes ys))
unfolding AllAtMost sum
dot-size m [] ys h = omega arith
dot-size m (x ∷ xs) [] h = omega arith
dot-size m (x ∷ xs) (y ∷ ys) (p, h) =
    let rest : ℕ = sum (take (length xs) (sizes ys)) in
    let i = dot-size m xs ys h in
    let product = nat_abs-mul-le x y {m = m} {n = nat_abs y} p (omega arith) in
    omega (arith, nat_abs-add (x *ℤ y) (dot xs ys), mul-add m (nat_abs y) rest)

scale-size : (m : ℕ) (x : ℤ) (r : Range) → nat_abs x ≤ m → reach (scale x r) ≤ m * reach r
unfolding scale
scale-size m (pos a) r h =
    let low = nat_abs-mul-le (pos a) r.lo {m = m} {n = reach r} h (omega arith) in
    let high = nat_abs-mul-le (pos a) r.hi {m = m} {n = reach r} h (omega arith) in
    omega arith
scale-size m (negsuc a) r h =
    let low = nat_abs-mul-le (negsuc a) r.lo {m = m} {n = reach r} h (omega arith) in
    let high = nat_abs-mul-le (negsuc a) r.hi {m = m} {n = reach r} h (omega arith) in
    omega arith

add-size : (r s : Range) → reach (add_range r s) ≤ reach r + reach s
unfolding add_range
add-size r s = omega (arith, nat_abs-add r.lo s.lo, nat_abs-add r.hi s.hi)

dot_range-size : (m : ℕ) (xs : List ℤ) (rs : List Range) → AllAtMost m xs → reach (dot_range xs rs) ≤ m * sum (take (length xs) (map reach rs))
unfolding AllAtMost sum dot_range
dot_range-size m [] rs h = omega arith
dot_range-size m (x ∷ xs) [] h = omega arith
dot_range-size m (x ∷ xs) (r ∷ rs) (p, h) =
    let rest : ℕ = sum (take (length xs) (map reach rs)) in
    let i = dot_range-size m xs rs h in
    let product = scale-size m x r p in
    omega (arith, add-size (scale x r) (dot_range xs rs), mul-add m (reach r) rest)

-- ---- forms

-- a constant of size up to c, three factors of indexes and those of parameters of size up to m
pub record SmallForm (c m : ℕ) (f : Form) : Type 0 where
  pub constant_small : nat_abs f.constant ≤ c
  pub index_small : AllAtMost m f.index
  pub index_count : length f.index ≡ index_factors
  pub parameter_small : AllAtMost m f.parameter

factors-small : (xs : List ℤ) → T (factors_fit xs) → AllAtMost factor_half xs
unfolding factors_fit AllAtMost has_pattern
factors-small [] t = tt
factors-small (x ∷ xs) t =
    let tests = T_and (ltb (mag x) factor_half) (factors_fit xs) t in
    (nat_abs-le x (ltb→lt (mag x) factor_half tests.0), factors-small xs tests.1)

pub form_small : (depth : ℕ) (f : Form) → FormInRange depth f → SmallForm constant_half factor_half f
unfolding has_pattern
form_small depth f h = record {
  constant_small = nat_abs-le f.constant (ltb→lt (mag f.constant) constant_half h.constant_fits);
  index_small = factors-small f.index h.index_fit;
  index_count = h.index_count;
  parameter_small = factors-small f.parameter h.parameter_fit;
}

subtract-size : (a b : ℤ) → nat_abs (a -ℤ b) ≤ nat_abs a + nat_abs b
subtract-size a b = omega (arith, nat_abs-add a (neg_ℤ b), nat_abs-neg b)

subtract_lists-small : (m n : ℕ) (xs ys : List ℤ) → AllAtMost m xs → AllAtMost n ys → AllAtMost (m + n) (subtract_lists xs ys)
unfolding AllAtMost
subtract_lists-small m n [] [] h i = tt
subtract_lists-small m n [] (y ∷ ys) h (q, i) = (omega (arith, nat_abs-neg y), subtract_lists-small m n [] ys tt i)
subtract_lists-small m n (x ∷ xs) [] (p, h) i = (omega arith, more (m + n) m xs (omega arith) h)
  where
    more : (k m : ℕ) (xs : List ℤ) → m ≤ k → AllAtMost m xs → AllAtMost k xs
    more k m [] le h = tt
    more k m (x ∷ xs) le (p, h) = (omega arith, more k m xs le h)
subtract_lists-small m n (x ∷ xs) (y ∷ ys) (p, h) (q, i) = (omega (arith, subtract-size x y), subtract_lists-small m n xs ys h i)

subtract_lists-length : (xs ys : List ℤ) → length xs ≡ length ys → length (subtract_lists xs ys) ≡ length xs
subtract_lists-length [] [] e = refl
subtract_lists-length [] (y ∷ ys) e = absurd (omega arith)
subtract_lists-length (x ∷ xs) [] e = refl
subtract_lists-length (x ∷ xs) (y ∷ ys) e = ap suc (subtract_lists-length xs ys (omega arith))

pub subtract-small : (c d m n : ℕ) (f g : Form) → SmallForm c m f → SmallForm d n g → SmallForm (c + d) (m + n) (subtract f g)
unfolding subtract
subtract-small c d m n f g h i = record {
  constant_small = let p = h.constant_small in let q = i.constant_small in omega (arith, subtract-size f.constant g.constant);
  index_small = subtract_lists-small m n f.index g.index h.index_small i.index_small;
  index_count = subtract_lists-length f.index g.index (h.index_count ∙ sym i.index_count) ∙ h.index_count;
  parameter_small = subtract_lists-small m n f.parameter g.parameter h.parameter_small i.parameter_small;
}

-- a loop's stride, and D's form
pub stride-small : {depth : ℕ} {l : Loop} → LoopInRange depth l → nat_abs l.stride ≤ stride_limit
unfolding stride_size
stride-small i = i.stride_small

pub stride-moves : {depth : ℕ} {l : Loop} → LoopInRange depth l → 0 < stride_size l
stride-moves i = i.moves

difference-small : {depth : ℕ} {l : Loop} → LoopInRange depth l → SmallForm (2 * constant_half) (2 * factor_half) (difference l)
unfolding difference
difference-small {depth} {l} i = go (counts_down l)
  where
    low : SmallForm constant_half factor_half l.lower
    low = form_small depth l.lower i.lower_in_range

    high : SmallForm constant_half factor_half l.upper
    high = form_small depth l.upper i.upper_in_range

    go : (down : Bool) → SmallForm (2 * constant_half) (2 * factor_half) (cond down (difference_down l.lower l.upper) (difference_up l.lower l.upper))
    go true = subtract-small constant_half constant_half factor_half factor_half l.lower l.upper low high
    go false = subtract-small constant_half constant_half factor_half factor_half l.upper l.lower high low

-- four parameters of 16 bits
unfoldable pub SmallParameters : List ℤ → Type 0
SmallParameters ps = sum (sizes ps) ≤ parameter_factors * constant_half

-- the largest constant part of a form: its constant, and four products of a factor and a parameter
abbrev pub fixed_limit : ℕ
fixed_limit = constant_half + factor_half * (parameter_factors * constant_half)

module _ (ps : List ℤ) (small : SmallParameters ps) where
  -- the constant part of a form
  fixed-size : (c m : ℕ) (f : Form) → SmallForm c m f → nat_abs (f.constant +ℤ dot f.parameter ps) ≤ c + m * (parameter_factors * constant_half)
  unfolding SmallParameters
  fixed-size c m f h =
      let p = h.constant_small in
      let q = dot-size m f.parameter ps h.parameter_small in
      let r : sum (take (length f.parameter) (sizes ps)) ≤ (parameter_factors * constant_half) = omega (arith, sum-take (length f.parameter) (sizes ps)) in
      omega (arith, nat_abs-add f.constant (dot f.parameter ps), mul-le-mul (le_refl m) r)

  -- a form's value and its range
  pub value-size : (c m : ℕ) (f : Form) (xs : List ℤ) → SmallForm c m f → nat_abs (value ps f xs) ≤ c + m * (parameter_factors * constant_half) + m * sum (take index_factors (sizes xs))
  unfolding value
  value-size c m f xs h =
      let q : nat_abs (dot f.index xs) ≤ m * sum (take index_factors (sizes xs)) =
      subst (λ (k : ℕ). nat_abs (dot f.index xs) ≤ m * sum (take k (sizes xs))) h.index_count (dot-size m f.index xs h.index_small) in
      omega (arith, fixed-size c m f h, nat_abs-add (f.constant +ℤ dot f.parameter ps) (dot f.index xs))

  pub range_size : (c m : ℕ) (f : Form) (ranges : List Range) → SmallForm c m f →
      reach (range ps f ranges) ≤ c + m * (parameter_factors * constant_half) + m * sum (take index_factors (map reach ranges))
  unfolding range
  range_size c m f ranges h =
      let fixed : ℤ = f.constant +ℤ dot f.parameter ps in
      let q : reach (dot_range f.index ranges) ≤ m * sum (take index_factors (map reach ranges)) =
      subst (λ (k : ℕ). reach (dot_range f.index ranges) ≤ m * sum (take k (map reach ranges))) h.index_count (dot_range-size m f.index ranges h.index_small) in
      omega (arith, fixed-size c m f h, add-size (exact_range fixed) (dot_range f.index ranges))

-- ---- the forms of a loop in range, and D's, meet what the laws of the reckoning ask

-- factors that are 0 in both forms are 0 in the difference
zero-difference : (x y : ℤ) → T (is_zero x) → T (is_zero y) → T (is_zero (x -ℤ y))
unfolding is_zero
zero-difference (pos zero) (pos zero) t u = tt
zero-difference (pos zero) (pos (suc n)) t u = absurd u
zero-difference (pos zero) (negsuc n) t u = absurd u
zero-difference (pos (suc n)) y t u = absurd t
zero-difference (negsuc n) y t u = absurd t

zero-differences : (xs ys : List ℤ) → length xs ≡ length ys → T (all_zero xs) → T (all_zero ys) → T (all_zero (subtract_lists xs ys))
unfolding all_zero
zero-differences [] [] e t u = tt
zero-differences [] (y ∷ ys) e t u = absurd (omega arith)
zero-differences (x ∷ xs) [] e t u = absurd (omega arith)
zero-differences (x ∷ xs) (y ∷ ys) e t u =
    let p = T_and (is_zero x) (all_zero xs) t in
    let q = T_and (is_zero y) (all_zero ys) u in
    and_t (is_zero (x -ℤ y)) (all_zero (subtract_lists xs ys)) (zero-difference x y p.0 q.0) (zero-differences xs ys (omega arith) p.1 q.1)

enclosed-difference : (depth : ℕ) (xs ys : List ℤ) → length xs ≡ length ys → T (all_zero (drop depth xs)) → T (all_zero (drop depth ys)) → T (all_zero (drop depth (subtract_lists xs ys)))
enclosed-difference zero xs ys e t u = zero-differences xs ys e t u
enclosed-difference (suc depth) [] [] e t u = t
enclosed-difference (suc depth) [] (y ∷ ys) e t u = absurd (omega arith)
enclosed-difference (suc depth) (x ∷ xs) [] e t u = absurd (omega arith)
enclosed-difference (suc depth) (x ∷ xs) (y ∷ ys) e t u = enclosed-difference depth xs ys (omega arith) t u

module _ (ps : List ℤ) (small : SmallParameters ps) {depth : ℕ} where
  enclosed-apart : (l : Loop) → LoopInRange depth l → T (all_zero (drop depth (difference l).index))
  unfolding difference subtract
  enclosed-apart l i = go (counts_down l)
    where
      apart : {f g : Form} → FormInRange depth f → FormInRange depth g → T (all_zero (drop depth (subtract_lists f.index g.index)))
      apart {f} {g} s t =
          enclosed-difference depth f.index g.index (s.index_count ∙ sym t.index_count) s.not_enclosing_zero t.not_enclosing_zero

      go : (down : Bool) → T (all_zero (drop depth (cond down (difference_down l.lower l.upper) (difference_up l.lower l.upper)).index))
      go true = apart i.lower_in_range i.upper_in_range
      go false = apart i.upper_in_range i.lower_in_range

  pub plain : (f : Form) → FormInRange depth f → Plain ps depth f
  plain f s = record {
    enclosed = s.not_enclosing_zero;
    small = let c = (form_small depth f s).constant_small in omega arith;
    small_sum = omega (arith, fixed-size ps small constant_half factor_half f (form_small depth f s));
  }

  pub plain-difference : (l : Loop) → LoopInRange depth l → Plain ps depth (difference l)
  plain-difference l i = record {
    enclosed = enclosed-apart l i;
    small = let c = (difference-small i).constant_small in omega arith;
    small_sum = omega (arith, fixed-size ps small (2 * constant_half) (2 * factor_half) (difference l) (difference-small i));
  }

-- a push on a form
pub push-size : (c m : ℕ) (f : Form) (p : List ℤ) → SmallForm c m f → nat_abs (push f p) ≤ m * sum (take index_factors (sizes p))
unfolding push
push-size c m f p h = subst (λ (k : ℕ). nat_abs (dot f.index p) ≤ m * sum (take k (sizes p))) h.index_count (dot-size m f.index p h.index_small)

-- ---- the open loops

unfoldable pub AllRising : ℕ → List (List ℤ) → Type 0
AllRising b [] = Unit {0}
AllRising b (p ∷ pushes) = Rising b (sizes p) × AllRising b pushes

-- each index is small for its depth, and each push on it
pub record SmallEnclosing (e : Enclosing) : Type 0 where
  pub ranges_small : Rising fixed_limit (map reach e.ranges)
  pub starts_small : Rising fixed_limit (sizes e.starts)
  pub pushes_small : AllRising stride_limit e.pushes

pub nothing-small : SmallEnclosing nothing_open
unfolding Rising AllRising
nothing-small = record { ranges_small = tt; starts_small = tt; pushes_small = tt }

map-without : {A B : Type 0} (f : A → B) (xs : List A) → map f (without_last xs) ≡ without_last (map f xs)
unfolding without_last
map-without f [] = refl
map-without f (x ∷ []) = refl
map-without {B = B} f (x ∷ y ∷ rest) = ap {B = List B} (λ ys. f x ∷ ys) (map-without f (y ∷ rest))

rising-left : {A : Type 0} (f : A → ℕ) (b : ℕ) (xs : List A) → Rising b (map f xs) → Rising b (map f (without_last xs))
rising-left f b xs h = subst (Rising b) (sym (map-without f xs)) (rising-without (map f xs) b h)

leave-pushes : (b : ℕ) (pushes : List (List ℤ)) → AllRising b pushes → AllRising b (map without_last pushes)
unfolding AllRising
leave-pushes b [] h = tt
leave-pushes b (p ∷ pushes) (r, h) = (rising-left nat_abs b p r, leave-pushes b pushes h)

without-pushes : (b : ℕ) (pushes : List (List ℤ)) → AllRising b pushes → AllRising b (without_last pushes)
unfolding AllRising without_last
without-pushes b [] h = tt
without-pushes b (p ∷ []) h = tt
without-pushes b (p ∷ q ∷ rest) (r, h) = (r, without-pushes b (q ∷ rest) h)

small-leave : (e : Enclosing) → SmallEnclosing e → SmallEnclosing (leave e)
unfolding leave
small-leave e h = record {
  ranges_small = rising-left reach fixed_limit e.ranges h.ranges_small;
  starts_small = rising-left nat_abs fixed_limit e.starts h.starts_small;
  pushes_small = leave-pushes stride_limit (without_last e.pushes) (without-pushes stride_limit e.pushes h.pushes_small);
}

rising-append : {A : Type 0} (f : A → ℕ) (b : ℕ) (xs : List A) (x : A) → Rising b (map f xs) → f x ≤ b + 128 * sum (map f xs) → Rising b (map f (xs ++ (x ∷ [])))
rising-append f b xs x h p =
    let i = rising-sum (map f xs) b h in
    subst (Rising b) (sym (map-append f xs (x ∷ []))) (rising-append-one (map f xs) b (f x) h (omega arith))

own-rising : (depth b : ℕ) (z : ℤ) → nat_abs z ≤ b → Rising b (sizes (replicate depth (pos zero) ++ (z ∷ [])))
unfolding Rising
own-rising zero b z h = (h, tt)
own-rising (suc depth) b z h = (omega arith, own-rising depth (129 * b) z (omega arith))

enter-pushes : (l : Loop) (pushes : List (List ℤ)) (own : List ℤ) → SmallForm constant_half factor_half l.lower → AllRising stride_limit pushes →
    Rising stride_limit (sizes own) →
    AllRising stride_limit (map (push_inner l) pushes ++ (own ∷ []))
unfolding AllRising push_inner
enter-pushes l [] own s h r = (r, tt)
enter-pushes l (p ∷ pushes) own s (q, h) r =
    let k = push-size constant_half factor_half l.lower p s in
    let m = sum-take index_factors (sizes p) in
    (rising-append nat_abs stride_limit p (push l.lower p) q (omega arith), enter-pushes l pushes own s h r)

module _ (ps : List ℤ) (small : SmallParameters ps) where
  -- one of two ends
  one_size : (c : Bool) (a b : ℤ) → nat_abs (cond c b a) ≤ max (nat_abs a) (nat_abs b)
  one_size true a b = omega arith
  one_size false a b = omega arith

  -- an index's range reaches no further than those of its loop's forms
  index-reach : (down : Bool) (lower upper : Range) → reach (cond down range_down range_up lower upper) ≤ max (reach lower) (reach upper)
  unfolding range_down range_up
  index-reach true lower upper = omega (arith, one_size (le_z upper.lo lower.hi) lower.hi upper.lo)
  index-reach false lower upper = omega (arith, one_size (le_z lower.lo upper.hi) lower.lo upper.hi)

  index-size : (l : Loop) (ranges : List Range) → SmallForm constant_half factor_half l.lower → SmallForm constant_half factor_half l.upper →
      reach (index_range ps l ranges) ≤ fixed_limit + 128 * sum (take index_factors (map reach ranges))
  unfolding index_range
  index-size l ranges s t =
      let p = range_size ps small constant_half factor_half l.lower ranges s in
      let q = range_size ps small constant_half factor_half l.upper ranges t in
      omega (arith, index-reach (counts_down l) (range ps l.lower ranges) (range ps l.upper ranges))

  pub small-enter : (l : Loop) (e : Enclosing) (depth : ℕ) → LoopInRange depth l → SmallEnclosing e → SmallEnclosing (enter ps l e)
  unfolding enter inner_ranges push_own
  small-enter l e depth i h =
      let s = form_small depth l.lower i.lower_in_range in
      let t = form_small depth l.upper i.upper_in_range in
      let reaches : List ℕ = map reach e.ranges in
      let starts : List ℕ = sizes e.starts in
      record {
        ranges_small =
            let p = index-size l e.ranges s t in
            let q = sum-take index_factors reaches in
            rising-append reach fixed_limit e.ranges (index_range ps l e.ranges) h.ranges_small (omega arith);
        starts_small =
            let p = value-size ps small constant_half factor_half l.lower e.starts s in
            let q = sum-take index_factors starts in
            rising-append nat_abs fixed_limit e.starts (value ps l.lower e.starts) h.starts_small (omega arith);
        pushes_small = enter-pushes l e.pushes (push_own l (length e.ranges)) s h.pushes_small (own-rising (length e.ranges) stride_limit l.stride (stride-small i));
      }

  -- the open loops after records in place
  pub small-after : (os : List Open) (e : Enclosing) (r : Record) → T (fields_in_range os r) → SmallEnclosing e → SmallEnclosing (enclosing_after ps os e r)
  unfolding enclosing_after
  small-after os e (work_record least most) t h = h
  small-after os e (loop_record l) t h = small-enter l e (loop_depth os) (loop-in-range os l t) h
  small-after [] e end_record t h = h
  small-after (open_loop ∷ os) e end_record t h = small-leave e h
  small-after (open_choice ∷ os) e end_record t h = h
  small-after os e choice_record t h = h
  small-after os e next_arm_record t h = h

  pub small-through : (xs ys : List Record) (os : List Open) (e : Enclosing) → InPlace os (xs ++ ys) → SmallEnclosing e → SmallEnclosing (enclosing_through ps os e xs)
  unfolding InPlace enclosing_through
  small-through [] ys os e h s = s
  small-through (x ∷ xs) ys os e h s =
      small-through xs ys (opens_after os x) (enclosing_after ps os e x) (in-place-next x (xs ++ ys) os h) (small-after os e x h.2 s)

-- ---- all numbers of a loop

-- each push is below a limit
unfoldable pub AllBelow : ℕ → List ℤ → Type 0
AllBelow n [] = Unit {0}
AllBelow n (x ∷ xs) = (nat_abs x < n) × AllBelow n xs

-- of loop l where the loops e are open: the range of D, and the pushes on D
pub record SmallLoop (ps : List ℤ) (l : Loop) (e : Enclosing) : Type 0 where
  pub difference_small : reach (difference_range ps l e.ranges) < 2 ^ 47
  pub pushes_small : AllBelow (2 ^ 32) (map (push (difference l)) e.pushes)

-- pushes on a form with factors up to m, where m · sum is below n
pushes-below : (c m n : ℕ) (f : Form) (pushes : List (List ℤ)) → SmallForm c m f → ((k : ℕ) → 128 * k ≤ 2146688000 → m * k < n) → AllRising stride_limit pushes →
    AllBelow n (map (push f) pushes)
unfolding AllRising AllBelow grown
pushes-below c m n f [] s within h = tt
pushes-below c m n f (p ∷ pushes) s within (r, h) =
    let i = rising-take index_factors (sizes p) stride_limit r in
    let j = within (sum (take index_factors (sizes p))) (omega arith) in
    (omega (arith, push-size c m f p s), pushes-below c m n f pushes s within h)

pub loop-small : (ps : List ℤ) → SmallParameters ps → (l : Loop) (depth : ℕ) (e : Enclosing) → LoopInRange depth l → SmallEnclosing e → SmallLoop ps l e
unfolding grown difference_range
loop-small ps small l depth e i h =
    let d = difference-small i in
    let ranges = rising-take index_factors (map reach e.ranges) fixed_limit h.ranges_small in
    record {
      difference_small = omega (arith, range_size ps small (2 * constant_half) (2 * factor_half) (difference l) e.ranges d);
      pushes_small = pushes-below (2 * constant_half) (2 * factor_half) (2 ^ 32) (difference l) e.pushes d (λ k le. omega arith) h.pushes_small;
    }

-- of each loop of a sheet in place, at parameters of 16 bits
pub loop-small-at : (ps : List ℤ) → SmallParameters ps → (xs : List Record) (l : Loop) (ys : List Record) → InPlace [] (xs ++ (loop_record l ∷ ys)) →
    SmallLoop ps l (enclosing_through ps [] nothing_open xs)
unfolding InPlace
loop-small-at ps small xs l ys h =
    let here = in-place-through xs (loop_record l ∷ ys) [] h in
    let os : List Open = opens_through [] xs in
    loop-small ps small l (loop_depth os) (enclosing_through ps [] nothing_open xs) (loop-in-range os l here.2) (small-through ps small xs (loop_record l ∷ ys) [] nothing_open h nothing-small)

-- ---- D in every trip

-- what lies in a range is no larger than its ends
pub within-reach : (x : ℤ) (r : Range) → Within x r → nat_abs x ≤ reach r
within-reach x r w = nat_abs-between x (reach r)
    (AtMost-trans (neg_ℤ (pos (reach r))) r.lo x (nat_abs-below r.lo (reach r) (omega arith)) w.low)
    (AtMost-trans x r.hi (pos (reach r)) w.high (nat_abs-above r.hi (reach r) (omega arith)))

-- D at indexes inside their ranges, as those of executed trips are, is small too
pub difference-value-small : (ps : List ℤ) (l : Loop) (e : Enclosing) (indexes : List ℤ) → SmallLoop ps l e → Inside indexes e.ranges → nat_abs (value ps (difference l) indexes) < 2 ^ 47
unfolding difference_range
difference-value-small ps l e indexes h inside =
    let ranged = range ps (difference l) e.ranges in
    let k : reach ranged < 2 ^ 47 = h.difference_small in
    omega (arith, within-reach (value ps (difference l) indexes) ranged (value-inside ps (difference l) e.ranges indexes inside))
