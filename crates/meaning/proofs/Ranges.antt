-- Values lie in their ranges: those of forms, which reach both ends, and the indexes of every trip; the trips are at most the ceiling.
use mathlib.Core.Path.{◌≡◌, refl, sym, ap, ap₂, ◌∙◌, subst}
use mathlib.Core.List.{List, [], ◌∷◌, ◌++◌}
use mathlib.Core.Bool.{Bool, true, false, cond}
use mathlib.Core.Logic.{◌↔◌}
use Prim.Native.Nat.{ℕ, zero, suc, ◌*◌, ◌≤◌, ◌<◌}
use lib.IntN.{ℤ, pos, negsuc, neg_ℤ, ◌+ℤ◌, ◌-ℤ◌, ◌*ℤ◌, neg_ℤ-+ℤ}
use lib.Signed.{◌≤ℤ◌, le_z, ≤ℤ_refl}
use lib.Dec.{T}
use lib.ListN.{length}
use Rattle.whole.specs.Integer.{dot, larger, smaller}
use Rattle.whole.proofs.Ring.{sort-sums, *ℤ-negℤ}
use Rattle.whole.proofs.Order.{AtMost, AtMost-refl, AtMost-trans, AtMost-add, AtMost-scale-pos, AtMost-scale-negsuc}
use Rattle.whole.proofs.Order.{larger-left, larger-right, smaller-left, smaller-right, le_z→AtMost, AtMost→le_z, ≤ℤ→AtMost, AtMost→≤ℤ, AtMost-subtract, AtMost-restore, AtMost-exchange, AtMost-less}
use Rattle.whole.proofs.Floor.{counted-at-most, at-most-counted, count-monotone}
use Rattle.whole.proofs.Dot.{dot-subtract}
use Rattle.meaning.specs.Form.{Form, value, subtract}
use Rattle.meaning.specs.Record.{Loop, stride_size, counts_down}
use Rattle.meaning.specs.Time.{difference, trip_count, trips, index_at, inner_indexes}
use Rattle.meaning.specs.Range.{Range, exact_range, scale, add_range, dot_range, range_up, range_down, range, index_range, inner_ranges, difference_range, ceiling}
use Rattle.meaning.proofs.Strides.{Direction, up, down, direction, difference-up, difference-down, index_range-up, index_range-down}
use Rattle.meaning.proofs.Trips.{Inside}

-- ---- sums of products lie in their ranges

pub record Within (x : ℤ) (r : Range) : Type 0 where
  pub low : AtMost r.lo x
  pub high : AtMost x r.hi

exact-within : (x : ℤ) → Within x (exact_range x)
exact-within x = record { low = AtMost-refl x; high = AtMost-refl x }

scale-within : (factor x : ℤ) (r : Range) → Within x r → Within (factor *ℤ x) (scale factor r)
unfolding scale
scale-within (pos a) x r w = record { low = AtMost-scale-pos a r.lo x w.low; high = AtMost-scale-pos a x r.hi w.high }
scale-within (negsuc a) x r w = record { low = AtMost-scale-negsuc a x r.hi w.high; high = AtMost-scale-negsuc a r.lo x w.low }

add-within : (x y : ℤ) (r s : Range) → Within x r → Within y s → Within (x +ℤ y) (add_range r s)
unfolding add_range
add-within x y r s v w = record { low = AtMost-add r.lo x s.lo y v.low w.low; high = AtMost-add x r.hi y s.hi v.high w.high }

dot-within : (factors : List ℤ) (ranges : List Range) (indexes : List ℤ) → Inside indexes ranges → Within (dot factors indexes) (dot_range factors ranges)
unfolding dot_range Inside
dot-within [] ranges indexes inside = exact-within (pos zero)
dot-within (x ∷ xs) [] [] inside = exact-within (pos zero)
dot-within (x ∷ xs) (r ∷ ranges) [] inside = absurd inside
dot-within (x ∷ xs) [] (i ∷ indexes) inside = absurd inside
dot-within (x ∷ xs) (r ∷ ranges) (i ∷ indexes) (above, below, inside) =
    let first = scale-within x i r (record { low = ≤ℤ→AtMost above; high = ≤ℤ→AtMost below }) in
    add-within (x *ℤ i) (dot xs indexes) (scale x r) (dot_range xs ranges) first (dot-within xs ranges indexes inside)

inside-append-one : (indexes : List ℤ) (ranges : List Range) (x : ℤ) (r : Range) → Inside indexes ranges → Within x r →
    Inside (indexes ++ (x ∷ [])) (ranges ++ (r ∷ []))
unfolding Inside
inside-append-one [] [] x r inside w = (AtMost→≤ℤ w.low, AtMost→≤ℤ w.high, tt)
inside-append-one [] (s ∷ ranges) x r inside w = absurd inside
inside-append-one (i ∷ indexes) [] x r inside w = absurd inside
inside-append-one (i ∷ indexes) (s ∷ ranges) x r (above, below, inside) w = (above, below, inside-append-one indexes ranges x r inside w)

-- there are as many indexes as ranges
pub inside-length : (indexes : List ℤ) (ranges : List Range) → Inside indexes ranges → length indexes ≡ length ranges
unfolding Inside
inside-length [] [] inside = refl
inside-length [] (r ∷ ranges) inside = absurd inside
inside-length (i ∷ indexes) [] inside = absurd inside
inside-length (i ∷ indexes) (r ∷ ranges) (above, below, inside) = ap suc (inside-length indexes ranges inside)

-- ---- and reach both ends, where no range is empty

unfoldable pub NoneEmpty : List Range → Type 0
NoneEmpty [] = Unit {0}
NoneEmpty (r ∷ ranges) = (r.lo ≤ℤ r.hi) × NoneEmpty ranges

none-empty-append-one : (ranges : List Range) (r : Range) → NoneEmpty ranges → r.lo ≤ℤ r.hi → NoneEmpty (ranges ++ (r ∷ []))
unfolding NoneEmpty
none-empty-append-one [] r proper h = (h, tt)
none-empty-append-one (s ∷ ranges) r (proper, others) h = (proper, none-empty-append-one ranges r others h)

-- the larger end of a range or the smaller one
abbrev pub end_of : Bool → Range → ℤ
end_of true r = r.hi
end_of false r = r.lo

end-exact : (large : Bool) (x : ℤ) → end_of large (exact_range x) ≡ x
end-exact true x = refl
end-exact false x = refl

end-add : (large : Bool) (r s : Range) → end_of large (add_range r s) ≡ end_of large r +ℤ end_of large s
unfolding add_range
end-add true r s = refl
end-add false r s = refl

-- a product's end is the factor times one of the ends
end-scale : (large : Bool) (factor : ℤ) (r : Range) → (other : Bool) × (end_of large (scale factor r) ≡ factor *ℤ end_of other r)
unfolding scale
end-scale true (pos a) r = (true, refl)
end-scale true (negsuc a) r = (false, refl)
end-scale false (pos a) r = (false, refl)
end-scale false (negsuc a) r = (true, refl)

end-above : (large : Bool) (r : Range) → r.lo ≤ℤ r.hi → r.lo ≤ℤ end_of large r
end-above true r h = h
end-above false r h = ≤ℤ_refl r.lo

end_below : (large : Bool) (r : Range) → r.lo ≤ℤ r.hi → end_of large r ≤ℤ r.hi
end_below true r h = ≤ℤ_refl r.hi
end_below false r h = h

dot-reaches : (large : Bool) (factors : List ℤ) (ranges : List Range) → NoneEmpty ranges →
    (indexes : List ℤ) × Inside indexes ranges × (dot factors indexes ≡ end_of large (dot_range factors ranges))
unfolding dot_range Inside NoneEmpty
dot-reaches large [] [] proper = ([], tt, sym (end-exact large (pos zero)))
dot-reaches large (x ∷ xs) [] proper = ([], tt, sym (end-exact large (pos zero)))
dot-reaches large [] (r ∷ ranges) (proper, others) =
    let rest = dot-reaches large [] ranges others in
    (end_of large r ∷ rest.0, (end-above large r proper, end_below large r proper, rest.1), sym (end-exact large (pos zero)))
dot-reaches large (x ∷ xs) (r ∷ ranges) (proper, others) =
    let rest = dot-reaches large xs ranges others in
    let first = end-scale large x r in
    let inside : Inside (end_of first.0 r ∷ rest.0) (r ∷ ranges) = (end-above first.0 r proper, end_below first.0 r proper, rest.1) in
    (end_of first.0 r ∷ rest.0, inside, ap₂ ◌+ℤ◌ (sym first.1) rest.2 ∙ sym (end-add large (scale x r) (dot_range xs ranges)))

-- ---- the trip rule of document 001

-- trip k, counted from 0, is made exactly where k strides lead no further than D
pub trip-rule : (d : ℤ) (stride k : ℕ) → 1 ≤ stride → (k < trip_count d stride) ↔ (pos (k * stride) ≤ℤ d)
unfolding trip_count
trip-rule d stride k moves = (λ made. AtMost→≤ℤ (counted-at-most d stride k made), λ within. at-most-counted d stride k moves (≤ℤ→AtMost within))

module _ (ps : List ℤ) where
  -- ---- values of forms

  pub value-subtract : (f g : Form) (indexes : List ℤ) → value ps (subtract f g) indexes ≡ value ps f indexes -ℤ value ps g indexes
  unfolding value subtract
  value-subtract f g indexes = simp (dot-subtract, neg_ℤ-+ℤ) (simp sort-sums)

  -- D is by how much the upper form's value is above the lower form's, or below it where the loop counts down
  pub value-difference-up : (l : Loop) (indexes : List ℤ) → counts_down l ≡ false →
      value ps (difference l) indexes ≡ value ps l.upper indexes -ℤ value ps l.lower indexes
  value-difference-up l indexes e = ap (λ (f : Form). value ps f indexes) (difference-up l e) ∙ value-subtract l.upper l.lower indexes

  pub value-difference-down : (l : Loop) (indexes : List ℤ) → counts_down l ≡ true →
      value ps (difference l) indexes ≡ value ps l.lower indexes -ℤ value ps l.upper indexes
  value-difference-down l indexes e = ap (λ (f : Form). value ps f indexes) (difference-down l e) ∙ value-subtract l.lower l.upper indexes

  -- a form's value at indexes inside their ranges lies in its range
  pub value-inside : (f : Form) (ranges : List Range) (indexes : List ℤ) → Inside indexes ranges → Within (value ps f indexes) (range ps f ranges)
  unfolding value range
  value-inside f ranges indexes inside =
      let fixed : ℤ = f.constant +ℤ dot f.parameter ps in
      add-within fixed (dot f.index indexes) (exact_range fixed) (dot_range f.index ranges) (exact-within fixed)
      (dot-within f.index ranges indexes inside)

  -- and is each end of it at some of them: a form's range has its smallest and its largest value
  pub value-reaches : (large : Bool) (f : Form) (ranges : List Range) → NoneEmpty ranges →
      (indexes : List ℤ) × Inside indexes ranges × (value ps f indexes ≡ end_of large (range ps f ranges))
  unfolding value range
  value-reaches large f ranges proper =
      let fixed : ℤ = f.constant +ℤ dot f.parameter ps in
      let found = dot-reaches large f.index ranges proper in
      (found.0, found.1, ap₂ ◌+ℤ◌ (sym (end-exact large fixed)) found.2 ∙ sym (end-add large (exact_range fixed) (dot_range f.index ranges)))

  -- ---- indexes and trips

  -- a loop's values at the indexes around it, and how far its index has moved in a trip
  module _ (l : Loop) (indexes : List ℤ) (trip : ℕ) where
    abbrev low_value : ℤ
    low_value = value ps l.lower indexes

    abbrev up_value : ℤ
    up_value = value ps l.upper indexes

    abbrev moved : ℤ
    moved = pos (trip * stride_size l)

    index-up : l.stride ≡ pos (stride_size l) → index_at ps l indexes trip ≡ low_value +ℤ moved
    unfolding index_at
    index-up e = ap (λ (z : ℤ). low_value +ℤ pos trip *ℤ z) e

    index-down : l.stride ≡ neg_ℤ (pos (stride_size l)) → index_at ps l indexes trip ≡ low_value -ℤ moved
    unfolding index_at
    index-down e = ap (λ (z : ℤ). low_value +ℤ pos trip *ℤ z) e ∙ ap (λ (z : ℤ). low_value +ℤ z) (*ℤ-negℤ (pos trip) (pos (stride_size l)))

    -- a trip is made where the index has moved no further than D
    moved-within : trip < trips ps l indexes → AtMost moved (value ps (difference l) indexes)
    unfolding trips trip_count
    moved-within made = counted-at-most (value ps (difference l) indexes) (stride_size l) trip made

    within-made : 1 ≤ stride_size l → AtMost moved (value ps (difference l) indexes) → trip < trips ps l indexes
    unfolding trips trip_count
    within-made moves within = at-most-counted (value ps (difference l) indexes) (stride_size l) trip moves within

    -- an index goes no further than the upper form's value
    index-at-most-upper : counts_down l ≡ false → l.stride ≡ pos (stride_size l) → trip < trips ps l indexes → AtMost (index_at ps l indexes trip) up_value
    index-at-most-upper e s made =
        subst (λ (z : ℤ). AtMost z up_value) (sym (index-up s))
        (AtMost-restore low_value moved up_value (subst (AtMost moved) (value-difference-up l indexes e) (moved-within made)))

    upper-at-most-index : counts_down l ≡ true → l.stride ≡ neg_ℤ (pos (stride_size l)) → trip < trips ps l indexes → AtMost up_value (index_at ps l indexes trip)
    upper-at-most-index e s made =
        subst (AtMost up_value) (sym (index-down s))
        (AtMost-exchange up_value moved low_value (subst (AtMost moved) (value-difference-down l indexes e) (moved-within made)))

    -- the index has not gone past the upper form's value, in the stride's direction
    unfoldable pub not_past : Bool
    not_past = cond (counts_down l) (le_z up_value (index_at ps l indexes trip)) (le_z (index_at ps l indexes trip) up_value)

    -- the rule in the loop's own terms: a trip is made exactly where its index has not gone past the upper form's value
    pub trip-made-exactly : 1 ≤ stride_size l → (trip < trips ps l indexes) ↔ T not_past
    unfolding not_past
    trip-made-exactly moves = by_direction (direction l)
      where
        index : ℤ
        index = index_at ps l indexes trip

        by_direction : Direction l → (trip < trips ps l indexes) ↔ T (cond (counts_down l) (le_z up_value index) (le_z index up_value))
        by_direction (up e s) =
            subst (λ (b : Bool). (trip < trips ps l indexes) ↔ T (cond b (le_z up_value index) (le_z index up_value))) (sym e) (
              λ made. AtMost→le_z index up_value (index-at-most-upper e s made),
              λ h.
                  let below : AtMost (low_value +ℤ moved) up_value = subst (λ (z : ℤ). AtMost z up_value) (index-up s) (le_z→AtMost index up_value h) in
                  within-made moves (subst (AtMost moved) (sym (value-difference-up l indexes e)) (AtMost-subtract low_value moved up_value below)),
            )
        by_direction (down e s) =
            subst (λ (b : Bool). (trip < trips ps l indexes) ↔ T (cond b (le_z up_value index) (le_z index up_value))) (sym e) (
              λ made. AtMost→le_z up_value index (upper-at-most-index e s made),
              λ h.
                  let above : AtMost up_value (low_value -ℤ moved) = subst (AtMost up_value) (index-down s) (le_z→AtMost up_value index h) in
                  within-made moves (subst (AtMost moved) (sym (value-difference-down l indexes e)) (AtMost-exchange moved up_value low_value above)),
            )

    index-within : (ranges : List Range) → Inside indexes ranges → trip < trips ps l indexes → Within (index_at ps l indexes trip) (index_range ps l ranges)
    index-within ranges inside made = by_direction (direction l)
      where
        low : Range
        low = range ps l.lower ranges

        high : Range
        high = range ps l.upper ranges

        low_inside : Within low_value low
        low_inside = value-inside l.lower ranges indexes inside

        high_inside : Within up_value high
        high_inside = value-inside l.upper ranges indexes inside

        index : ℤ
        index = index_at ps l indexes trip

        by_direction : Direction l → Within index (index_range ps l ranges)
        by_direction (up e s) = subst (Within index) (sym (index_range-up l ps ranges e)) (unfold range_up in record {
          low = AtMost-trans low.lo low_value index low_inside.low (record { gap = trip * stride_size l; equation = index-up s });
          high = AtMost-trans index up_value (larger low.lo high.hi) (index-at-most-upper e s made)
              (AtMost-trans up_value high.hi (larger low.lo high.hi) high_inside.high (larger-right low.lo high.hi));
        })
        by_direction (down e s) = subst (Within index) (sym (index_range-down l ps ranges e)) (unfold range_down in record {
          low = AtMost-trans (smaller high.lo low.hi) up_value index
              (AtMost-trans (smaller high.lo low.hi) high.lo up_value (smaller-left high.lo low.hi) high_inside.low)
              (upper-at-most-index e s made);
          high = AtMost-trans index low_value low.hi
              (subst (λ (z : ℤ). AtMost z low_value) (sym (index-down s)) (AtMost-less low_value (trip * stride_size l))) low_inside.high;
        })

  -- executed indexes lie in their ranges
  pub trips-inside : (l : Loop) (ranges : List Range) (indexes : List ℤ) (trip : ℕ) → Inside indexes ranges → trip < trips ps l indexes →
      Inside (inner_indexes ps l indexes trip) (inner_ranges ps l ranges)
  unfolding inner_indexes inner_ranges
  trips-inside l ranges indexes trip inside made =
      inside-append-one indexes ranges (index_at ps l indexes trip) (index_range ps l ranges) inside (index-within l indexes trip ranges inside made)

  -- ranges inside a loop are not empty where those around it are not
  pub inner_ranges-none-empty : (l : Loop) (ranges : List Range) → NoneEmpty ranges → NoneEmpty (inner_ranges ps l ranges)
  unfolding inner_ranges
  inner_ranges-none-empty l ranges proper = none-empty-append-one ranges (index_range ps l ranges) proper (by_direction (direction l))
    where
      low : Range
      low = range ps l.lower ranges

      high : Range
      high = range ps l.upper ranges

      by_direction : Direction l → (index_range ps l ranges).lo ≤ℤ (index_range ps l ranges).hi
      by_direction (up e s) =
          subst (λ (r : Range). r.lo ≤ℤ r.hi) (sym (index_range-up l ps ranges e)) (unfold range_up in AtMost→≤ℤ (larger-left low.lo high.hi))
      by_direction (down e s) =
          subst (λ (r : Range). r.lo ≤ℤ r.hi) (sym (index_range-down l ps ranges e)) (unfold range_down in AtMost→≤ℤ (smaller-right high.lo low.hi))

  -- no loop makes more trips than its ceiling
  pub trips-ceiling : (l : Loop) (ranges : List Range) (indexes : List ℤ) → Inside indexes ranges → trips ps l indexes ≤ ceiling ps l ranges
  unfolding trips ceiling difference_range trip_count
  trips-ceiling l ranges indexes inside =
      let d = value-inside (difference l) ranges indexes inside in
      count-monotone (value ps (difference l) indexes) (range ps (difference l) ranges).hi (stride_size l) d.high
