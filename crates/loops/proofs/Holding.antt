-- What the code keeps of the open loops, an entry for each depth: entries deeper than the open loops do not matter.
use mathlib.Core.List.{◌++◌, List, [], map, ◌∷◌}
use mathlib.Core.Bool.{Bool, cond, false, true}
use mathlib.Core.Path.{◌≡◌, ap, ap₂, refl, subst, sym, ◌∙◌}
use Prim.Native.Nat.{◌<◌, suc, zero, ℕ, ◌≤◌}
use native.Mathlib.Omega.{arith}
use borrow.Author.Tests.{eqb-false, eqb-true, ltb-false, ltb-true}
use lib.ListN.{get_or-append, get_or-eq_default, get_or-map, get_or, length, length-map, length-set, replicate, set, take}
use lib.Dec.{eqb, ltb}
use lib.Seq.{get_or_at, get_or-set_other, get_or-set_same, take-suc-set}
use lib.Signed.{le_z}
use lib.IntN.{pos, ℤ}
use Rattle.whole.specs.Integer.{floor_remainder}
use Rattle.whole.proofs.Dot.{dot-nil}
use Rattle.meaning.specs.Form.{Form, value}
use Rattle.meaning.specs.Record.{Loop, stride_size, counts_down, Open, loop_depth, open_loop}
use Rattle.meaning.specs.Range.{Range, difference_range, index_range, inner_ranges, range, range_down, range_up, ceiling}
use Rattle.meaning.specs.Closed.{asked_difference, push, push_inner, push_own}
use Rattle.meaning.specs.Limits.{depth_limit}
use Rattle.meaning.specs.Time.{difference, trip_count}
use Rattle.meaning.proofs.Accepted.{LoopInRange}
use Rattle.form.specs.Forms.{folded, push_of, range_within, value_at, ranges_between}
use Rattle.form.proofs.FormLaws.{NumbersWithin, Plain, RangesWithin, push-folded, range-folded, ranges-set, value-folded}
use Rattle.layout.specs.Loops.{difference_words, word_of}
use Rattle.loops.specs.declared.forms.Around.{Around}
use Rattle.loops.specs.declared.forms.Barred.{Barred}
use Rattle.loops.specs.Enclosing.{Enclosing, enter, leave, nothing_open, without_last}
use Rattle.loops.specs.Reckoned.{around_with, barred_by, ceiling_within, enough_within, fact_within, loop_words, own_row, push_word, pushes_with, row_with}
use Rattle.loops.specs.Facts.{fact_of, loop_facts, words_of}
use Rattle.loops.proofs.Enclosings.{OpenLoops}
use Rattle.loops.proofs.Sizes.{SmallParameters, plain, plain-difference}

pub record Holding (os : List Open) (e : Enclosing) (a : Around) (pushes : List (List ℤ)) : Type 0 where
  pub ranges : take (loop_depth os) (ranges_between a.lo a.hi) ≡ e.ranges
  pub starts : take (loop_depth os) a.starts ≡ e.starts
  pub rows : (m : ℕ) → m < loop_depth os → take (loop_depth os) (get_or pushes m []) ≡ get_or e.pushes m []
  pub lo_long : length a.lo ≡ depth_limit
  pub hi_long : length a.hi ≡ depth_limit
  pub starts_long : length a.starts ≡ depth_limit
  pub pushes_long : length pushes ≡ depth_limit
  pub rows_long : (m : ℕ) → m < depth_limit → length (get_or pushes m []) ≡ depth_limit

abbrev pub no_numbers : List ℤ
no_numbers = replicate depth_limit (pos zero)

pub holding-start : Holding [] nothing_open (record { lo = no_numbers; hi = no_numbers; starts = no_numbers }) (replicate depth_limit no_numbers)
unfolding loop_depth
holding-start = record {
  ranges = refl;
  starts = refl;
  rows = λ m h. absurd (omega arith);
  lo_long = refl;
  hi_long = refl;
  starts_long = refl;
  pushes_long = refl;
  rows_long = λ m h. four m h;
}
  where
    four : (m : ℕ) → m < depth_limit → length (get_or (replicate depth_limit no_numbers) m []) ≡ depth_limit
    four zero h = refl
    four (suc zero) h = refl
    four (suc (suc zero)) h = refl
    four (suc (suc (suc zero))) h = refl
    four (suc (suc (suc (suc m)))) h = absurd (omega arith)

-- ---- a loop is left

without-take : {A : Type 0} (xs : List A) (n : ℕ) → n < length xs → without_last (take (suc n) xs) ≡ take n xs
unfolding without_last
without-take [] n h = absurd (omega arith)
without-take (x ∷ xs) zero h = refl
without-take (x ∷ []) (suc n) h = absurd (omega arith)
without-take (x ∷ y ∷ xs) (suc n) h = ap (λ l. x ∷ l) (without-take (y ∷ xs) n (omega arith))

get_d-without : {A : Type 0} (xs : List A) (m : ℕ) (d : A) → suc m < length xs → get_or (without_last xs) m d ≡ get_or xs m d
unfolding without_last
get_d-without [] m d h = absurd (omega arith)
get_d-without (x ∷ []) m d h = absurd (omega arith)
get_d-without (x ∷ y ∷ xs) zero d h = refl
get_d-without (x ∷ y ∷ xs) (suc m) d h = get_d-without (y ∷ xs) m d (omega arith)

between-length : (lo hi : List ℤ) → length lo ≡ length hi → length (ranges_between lo hi) ≡ length lo
unfolding ranges_between
between-length [] hi e = refl
between-length (l ∷ lo) [] e = sym e
between-length (l ∷ lo) (h ∷ hi) e = ap suc (between-length lo hi (omega arith))

module _ (os : List Open) (e : Enclosing) (a : Around) (pushes : List (List ℤ)) where
  pub holding-left : Holding (open_loop ∷ os) e a pushes → OpenLoops (open_loop ∷ os) e → loop_depth os < depth_limit → Holding os (leave e) a pushes
  unfolding loop_depth leave without_last
  holding-left h o less =
      let n : ℕ = loop_depth os in
      record {
        ranges = sym (without-take (ranges_between a.lo a.hi) n (omega (arith, between-length a.lo a.hi (h.lo_long ∙ sym h.hi_long), h.lo_long))) ∙ ap without_last h.ranges;
        starts = sym (without-take a.starts n (omega (arith, h.starts_long))) ∙ ap without_last h.starts;
        rows = λ m i.
            sym (without-take (get_or pushes m []) n (omega (arith, h.rows_long m (omega arith))))
            ∙ ap without_last (h.rows m (omega arith) ∙ sym (get_d-without e.pushes m [] (omega (arith, o.push_count))))
            ∙ sym (get_or-map without_last (without_last e.pushes) m []);
        lo_long = h.lo_long;
        hi_long = h.hi_long;
        starts_long = h.starts_long;
        pushes_long = h.pushes_long;
        rows_long = h.rows_long;
      }

  -- the same entries for another list of open records with as many loops
  pub holding-same : (us : List Open) → loop_depth us ≡ loop_depth os → Holding us e a pushes → Holding os e a pushes
  holding-same us d h = record {
    ranges = ap (λ (n : ℕ). take n (ranges_between a.lo a.hi)) (sym d) ∙ h.ranges;
    starts = ap (λ (n : ℕ). take n a.starts) (sym d) ∙ h.starts;
    rows = λ m i. ap (λ (n : ℕ). take n (get_or pushes m [])) (sym d) ∙ h.rows m (omega (arith, d));
    lo_long = h.lo_long;
    hi_long = h.hi_long;
    starts_long = h.starts_long;
    pushes_long = h.pushes_long;
    rows_long = h.rows_long;
  }

-- ---- a loop is entered

zeros-set : (n : ℕ) (x : ℤ) → n < depth_limit → take (suc n) (set no_numbers n x) ≡ replicate n (pos zero) ++ (x ∷ [])
zeros-set zero x h = refl
zeros-set (suc zero) x h = refl
zeros-set (suc (suc zero)) x h = refl
zeros-set (suc (suc (suc zero))) x h = refl
zeros-set (suc (suc (suc (suc n)))) x h = absurd (omega arith)

-- row m of the pushes, the rows 0, 1 and 2 and then row n being stored anew
module _ (pushes : List (List ℤ)) (long : length pushes ≡ depth_limit) (a b c own : List ℤ) (n : ℕ) (small : n < depth_limit) where
  abbrev three : List (List ℤ)
  three = set (set (set pushes 0 a) 1 b) 2 c

  abbrev next : List (List ℤ)
  next = set three n own

  next-count : length next ≡ depth_limit
  next-count = length-set three n own ∙ length-set (set (set pushes 0 a) 1 b) 2 c ∙ length-set (set pushes 0 a) 1 b ∙ length-set pushes 0 a ∙ long

  next-own : get_or next n [] ≡ own
  next-own =
      get_or-set_same three n own []
      (omega (arith, length-set (set (set pushes 0 a) 1 b) 2 c, length-set (set pushes 0 a) 1 b, length-set pushes 0 a))

  three-row : (f : ℕ → List ℤ) → a ≡ f 0 → b ≡ f 1 → c ≡ f 2 → (m : ℕ) → m < 3 → get_or three m [] ≡ f m
  three-row f p q r zero h =
      get_or-set_other (set (set pushes 0 a) 1 b) 2 0 c [] (λ e. omega (arith, e)) ∙ get_or-set_other (set pushes 0 a) 1 0 b [] (λ e. omega (arith, e))
      ∙ get_or-set_same pushes 0 a [] (omega arith) ∙ p
  three-row f p q r (suc zero) h =
      get_or-set_other (set (set pushes 0 a) 1 b) 2 1 c [] (λ e. omega (arith, e))
      ∙ get_or-set_same (set pushes 0 a) 1 b [] (omega (arith, length-set pushes 0 a)) ∙ q
  three-row f p q r (suc (suc zero)) h =
      get_or-set_same (set (set pushes 0 a) 1 b) 2 c [] (omega (arith, length-set (set pushes 0 a) 1 b, length-set pushes 0 a)) ∙ r
  three-row f p q r (suc (suc (suc m))) h = absurd (omega arith)

  next_row : (f : ℕ → List ℤ) → a ≡ f 0 → b ≡ f 1 → c ≡ f 2 → (m : ℕ) → m < n → get_or next m [] ≡ f m
  next_row f p q r m less = get_or-set_other three n m own [] (λ e. omega (arith, e, less)) ∙ three-row f p q r m (omega arith)

  next-long : ((m : ℕ) → m < depth_limit → length (get_or pushes m []) ≡ depth_limit) →
      length a ≡ depth_limit → length b ≡ depth_limit → length c ≡ depth_limit → length own ≡ depth_limit →
      (m : ℕ) → m < depth_limit → length (get_or next m []) ≡ depth_limit
  next-long old la lb lc lo m less = go (eqb m n) refl
    where
      anew : (m : ℕ) → m < 3 → length (get_or three m []) ≡ length (get_or (a ∷ b ∷ c ∷ []) m [])
      anew m h = ap length (three-row (λ (i : ℕ). get_or (a ∷ b ∷ c ∷ []) i []) refl refl refl m h)

      inner : (m : ℕ) → m < depth_limit → length (get_or three m []) ≡ depth_limit
      inner zero h = anew 0 (omega arith) ∙ la
      inner (suc zero) h = anew 1 (omega arith) ∙ lb
      inner (suc (suc zero)) h = anew 2 (omega arith) ∙ lc
      inner (suc (suc (suc zero))) h =
          ap length
          (get_or-set_other (set (set pushes 0 a) 1 b) 2 3 c [] (λ e. omega (arith, e)) ∙ get_or-set_other (set pushes 0 a) 1 3 b [] (λ e. omega (arith, e))
          ∙ get_or-set_other pushes 0 3 a [] (λ e. omega (arith, e)))
          ∙ old 3 (omega arith)
      inner (suc (suc (suc (suc m)))) h = absurd (omega arith)

      go : (t : Bool) → eqb m n ≡ t → length (get_or next m []) ≡ depth_limit
      go true t = ap length (ap (λ (i : ℕ). get_or next i []) (eqb-true m n t) ∙ next-own) ∙ lo
      go false t = ap length (get_or-set_other three n m own [] (eqb-false m n t)) ∙ inner m less

zero_word : 0 ≡ word_of (pos zero)
unfolding word_of floor_remainder
zero_word = refl

get_d-mapped : (f : List ℤ → List ℤ) (xs : List (List ℤ)) (m : ℕ) → m < length xs → get_or (map f xs) m [] ≡ f (get_or xs m [])
get_d-mapped f [] m h = absurd (omega arith)
get_d-mapped f (x ∷ xs) zero h = refl
get_d-mapped f (x ∷ xs) (suc m) h = get_d-mapped f xs m (omega arith)

-- ---- the numbers of a loop in range

-- the entries of the open loops are within the limit of the code's reckoning
pub record Small (parameters : List ℤ) (e : Enclosing) : Type 0 where
  pub parameters_small : SmallParameters parameters
  pub ranges_small : RangesWithin e.ranges
  pub starts_small : NumbersWithin e.starts
  pub rows_small : (m : ℕ) → NumbersWithin (get_or e.pushes m [])

module _ (ps : List ℤ) (os : List Open) (e : Enclosing) (a : Around) (pushes : List (List ℤ)) (h : Holding os e a pushes) (small : Small ps e) where
  abbrev depth : ℕ
  depth = loop_depth os

  module _ (f : Form) (p : Plain ps depth f) where
    range-held : range_within (folded ps f) a.lo a.hi ≡ range ps f e.ranges
    range-held = range-folded p a.lo a.hi (subst RangesWithin (sym h.ranges) small.ranges_small) ∙ ap (range ps f) h.ranges

    value-held : value_at (folded ps f) a.starts ≡ value ps f e.starts
    value-held = value-folded p a.starts (subst NumbersWithin (sym h.starts) small.starts_small) ∙ ap (value ps f) h.starts

    push-held : (m : ℕ) → m < depth → push_of (folded ps f) (get_or pushes m []) ≡ push f (get_or e.pushes m [])
    push-held m less = push-folded p (get_or pushes m []) (subst NumbersWithin (sym (h.rows m less)) (small.rows_small m)) ∙ ap (push f) (h.rows m less)

  module _ (open-loops : OpenLoops os e) (l : Loop) (i : LoopInRange depth l) (shallow : depth < depth_limit) where
    plain-lower : Plain ps depth l.lower
    plain-lower = plain ps small.parameters_small l.lower i.lower_in_range

    plain-upper : Plain ps depth l.upper
    plain-upper = plain ps small.parameters_small l.upper i.upper_in_range

    plain-apart : Plain ps depth (difference l)
    plain-apart = plain-difference ps small.parameters_small l i

    push-number : (m : ℕ) → push_word (folded ps (difference l)) pushes depth m ≡ word_of (get_or (map (push (difference l)) e.pushes) m (pos zero))
    unfolding push_word
    push-number m = go (ltb m depth) refl
      where
        go : (t : Bool) → ltb m depth ≡ t →
            cond t (word_of (push_of (folded ps (difference l)) (get_or pushes m []))) 0 ≡ word_of (get_or (map (push (difference l)) e.pushes) m (pos zero))
        go true t =
            ap word_of
            (push-held (difference l) plain-apart m (ltb-true m depth t) ∙ sym (get_or-map (push (difference l)) e.pushes m [])
            ∙ ap (get_or (map (push (difference l)) e.pushes) m) (unfold push in dot-nil (difference l).index))
        go false t = zero_word ∙ sym (ap word_of (get_or-eq_default (map (push (difference l)) e.pushes) (pos zero) {n = m} (past t)))
          where
            past : ltb m depth ≡ false → length (map (push (difference l)) e.pushes) ≤ m
            past u = omega (arith, ltb-false m depth u, length-map e.pushes (push (difference l)), open-loops.push_count)

    -- what the code works out of the loop is what is stored of its facts
    pub words-of-loop : loop_words (folded ps (difference l)) (stride_size l) depth a.starts pushes ≡ words_of (loop_facts ps os e l)
    unfolding loop_words words_of loop_facts difference_words
    words-of-loop =
        λ t. stride_size l ∷ word_of (value-held (difference l) plain-apart t) ∷ push-number 0 t ∷ push-number 1 t ∷ push-number 2 t ∷ []

    pub ceiling-of-loop : ceiling_within (folded ps (difference l)) (stride_size l) a ≡ (loop_facts ps os e l).ceiling
    unfolding ceiling_within loop_facts ceiling difference_range
    ceiling-of-loop = ap (λ (r : Range). trip_count r.hi (stride_size l)) (range-held (difference l) plain-apart)

    pub fact-of-loop : (barred : Barred) → barred ≡ barred_by os →
        fact_within (folded ps (difference l)) (stride_size l) (asked_difference l) barred a ≡ fact_of (loop_facts ps os e l)
    unfolding fact_within fact_of barred_by enough_within loop_facts difference_range
    fact-of-loop barred b =
        let d = range-held (difference l) plain-apart in
        λ t. record { ceiling = ceiling-of-loop t; choice = (b t).choice; rank = (b t).rank; enough = le_z (asked_difference l) (d t).lo }

    abbrev pushes_inside : List (List ℤ)
    pushes_inside = map (push_inner l) e.pushes ++ (push_own l (length e.ranges) ∷ [])

    inner-get_d : (m : ℕ) → m < depth → get_or pushes_inside m [] ≡ get_or e.pushes m [] ++ (push l.lower (get_or e.pushes m []) ∷ [])
    unfolding push_inner
    inner-get_d m less =
        get_or-append (map (push_inner l) e.pushes) (push_own l (length e.ranges) ∷ []) [] m
        (omega (arith, length-map e.pushes (push_inner l), open-loops.push_count))
        ∙ get_d-mapped (push_inner l) e.pushes m (omega (arith, open-loops.push_count))

    own-get_d : get_or pushes_inside depth [] ≡ replicate depth (pos zero) ++ (l.stride ∷ [])
    unfolding push_own
    own-get_d =
        get_or_at (map (push_inner l) e.pushes) (push_own l (length e.ranges)) [] [] depth (length-map e.pushes (push_inner l) ∙ open-loops.push_count)
        ∙ ap (λ (n : ℕ). replicate n (pos zero) ++ (l.stride ∷ [])) open-loops.range_count

    abbrev added : ℕ → List ℤ
    added m = set (get_or pushes m []) depth (push_of (folded ps l.lower) (get_or pushes m []))

    abbrev own : List ℤ
    own = set no_numbers depth l.stride

    abbrev entered : List (List ℤ)
    entered = set (set (set (set pushes 0 (added 0)) 1 (added 1)) 2 (added 2)) depth own

    row-entered : (m : ℕ) → m < suc depth → take (suc depth) (get_or entered m []) ≡ get_or pushes_inside m []
    row-entered m less = go (eqb m depth) refl
      where
        go : (t : Bool) → eqb m depth ≡ t → take (suc depth) (get_or entered m []) ≡ get_or pushes_inside m []
        go true t =
            let same = eqb-true m depth t in
            ap (λ (n : ℕ). take (suc depth) (get_or entered n [])) same
            ∙ ap (take (suc depth)) (next-own pushes h.pushes_long (added 0) (added 1) (added 2) own depth shallow)
            ∙ zeros-set depth l.stride shallow ∙ sym own-get_d
            ∙ ap (λ (n : ℕ). get_or pushes_inside n []) (sym same)
        go false t =
            let inside : m < depth = omega (arith, eqb-false m depth t, less) in
            ap (take (suc depth)) (next_row pushes h.pushes_long (added 0) (added 1) (added 2) own depth shallow added refl refl refl m inside)
            ∙ take-suc-set (get_or pushes m []) depth (push_of (folded ps l.lower) (get_or pushes m [])) (omega (arith, h.rows_long m (omega arith)))
            ∙ ap₂ (λ (xs : List ℤ) (z : ℤ). xs ++ (z ∷ [])) (h.rows m inside) (push-held l.lower plain-lower m inside)
            ∙ sym (inner-get_d m inside)

    pub holding-entered : Holding (open_loop ∷ os) (enter ps l e) (around_with (counts_down l) (folded ps l.lower) (folded ps l.upper) depth a)
        (pushes_with (folded ps l.lower) l.stride depth pushes)
    unfolding loop_depth enter inner_ranges index_range around_with pushes_with own_row row_with
    holding-entered =
        let low = range-held l.lower plain-lower in
        let up = range-held l.upper plain-upper in
        let index = ap₂ (λ (lower : Range) (upper : Range). cond (counts_down l) range_down range_up lower upper) low up in
        record {
          ranges = ranges-set a.lo a.hi depth _ _ (omega (arith, h.lo_long)) (omega (arith, h.hi_long))
              ∙ ap₂ (λ (xs : List Range) (r : Range). xs ++ (r ∷ [])) h.ranges index;
          starts = take-suc-set a.starts depth _ (omega (arith, h.starts_long))
              ∙ ap₂ (λ (xs : List ℤ) (z : ℤ). xs ++ (z ∷ [])) h.starts (value-held l.lower plain-lower);
          rows = row-entered;
          lo_long = length-set a.lo depth _ ∙ h.lo_long;
          hi_long = length-set a.hi depth _ ∙ h.hi_long;
          starts_long = length-set a.starts depth _ ∙ h.starts_long;
          pushes_long = next-count pushes h.pushes_long (added 0) (added 1) (added 2) own depth shallow;
          rows_long = next-long pushes h.pushes_long (added 0) (added 1) (added 2) own depth shallow h.rows_long
              (length-set (get_or pushes 0 []) depth _ ∙ h.rows_long 0 (omega arith)) (length-set (get_or pushes 1 []) depth _ ∙ h.rows_long 1 (omega arith))
              (length-set (get_or pushes 2 []) depth _ ∙ h.rows_long 2 (omega arith)) (length-set no_numbers depth _);
        }
