-- One loop and the loop that counts up in its place: the same trips and the same ceiling, and the index is the other's or minus the other's.
use mathlib.Core.Path.{◌≡◌, refl, sym, ap, ◌∙◌}
use mathlib.Core.List.{List, [], ◌∷◌, ◌++◌}
use mathlib.Core.Bool.{Bool, true, false}
use Prim.Native.Nat.{ℕ, zero, suc}
use native.Mathlib.Omega.{arith}
use lib.IntN.{ℤ, pos, neg_ℤ, ◌+ℤ◌, ◌*ℤ◌, neg_ℤ-neg_ℤ}
use lib.ListN.{length, replicate, length-replicate}
use borrow.Author.Tests.{le-ltb}
use Rattle.whole.proofs.Order.{larger-neg}
use Rattle.meaning.specs.Form.{Form, value, subtract}
use Rattle.meaning.specs.Record.{Loop, stride_size, counts_down, skip_cycles}
use Rattle.meaning.specs.Time.{difference, entry_cost, trip_count, trips, index_at, inner_indexes}
use Rattle.meaning.specs.Range.{Range, range, range_up, range_down, index_range, inner_ranges, difference_range, ceiling}
use Rattle.meaning.specs.Closed.{push, push_own, push_inner, asked_difference}
use Rattle.meaning.proofs.Upward.{turn, turn_form, turn_range, turn_each, turn_indexes, upward_loop, over_negated, downs_inside}
use Rattle.meaning.proofs.Strides.{Direction, up, down, direction, difference-up, difference-down, index_range-up, index_range-down}
use Rattle.meaning.proofs.UpwardForms.{turn-append-one, append-one-length, turn-add, turn-times, turn-zeros, subtract-turned, subtract-negations}
use Rattle.meaning.proofs.UpwardForms.{push-turned, value-turned, range-turned, push-turn-form, value-turn-form, range-turn-form}

-- the range of an index that counts up over negated ranges
up-negated : (lower upper : Range) → range_up (turn_range true lower) (turn_range true upper) ≡ turn_range true (range_down lower upper)
unfolding range_up range_down turn_range
up-negated lower upper = λ t. record { lo = neg_ℤ lower.hi; hi = larger-neg lower.hi upper.lo t }

module _ (downs : List Bool) (l : Loop) where
  pub loop-counts-up : counts_down (upward_loop downs l) ≡ false
  unfolding counts_down upward_loop
  loop-counts-up = le-ltb (stride_size l) zero (omega arith)

  pub size-upward : stride_size (upward_loop downs l) ≡ stride_size l
  unfolding stride_size upward_loop
  size-upward = refl

  -- what entering it costs, and the smallest D that closing a loop around it asks of it, are the same
  pub entry-upward : (trips : ℕ) → entry_cost (upward_loop downs l) trips ≡ entry_cost l trips
  unfolding entry_cost skip_cycles upward_loop
  entry-upward zero = refl
  entry-upward (suc trips) = refl

  pub asked-upward : asked_difference (upward_loop downs l) ≡ asked_difference l
  unfolding asked_difference skip_cycles stride_size upward_loop
  asked-upward = refl

  -- its stride is the loop's, turned
  turn-stride : pos (stride_size l) ≡ turn (counts_down l) l.stride
  unfolding turn
  turn-stride = by_direction (direction l)
    where
      by_direction : Direction l → pos (stride_size l) ≡ turn (counts_down l) l.stride
      by_direction (up e s) = sym (λ t. turn (e t) (s t))
      by_direction (down e s) = sym ((λ t. turn (e t) (s t)) ∙ neg_ℤ-neg_ℤ (pos (stride_size l)))

  -- its D is the loop's D, over the exchanged indexes
  difference-upward : difference (upward_loop downs l) ≡ turn_indexes downs (difference l)
  unfolding upward_loop turn_form
  difference-upward = difference-up (upward_loop downs l) loop-counts-up ∙ by_direction (direction l)
    where
      lower : Form
      lower = turn_indexes downs l.lower

      upper : Form
      upper = turn_indexes downs l.upper

      by_direction : Direction l → subtract (turn_form (counts_down l) upper) (turn_form (counts_down l) lower) ≡ turn_indexes downs (difference l)
      by_direction (up e s) =
          (λ t. subtract (turn_form (e t) upper) (turn_form (e t) lower)) ∙ subtract-turned downs l.upper l.lower
          ∙ ap (turn_indexes downs) (sym (difference-up l e))
      by_direction (down e s) =
          (λ t. subtract (turn_form (e t) upper) (turn_form (e t) lower)) ∙ subtract-negations upper lower ∙ subtract-turned downs l.lower l.upper
          ∙ ap (turn_indexes downs) (sym (difference-down l e))

  -- ---- pushes

  pub push-upward : (pushes : List ℤ) → push (difference (upward_loop downs l)) (turn_each turn downs pushes) ≡ push (difference l) pushes
  push-upward pushes = ap (λ (f : Form). push f (turn_each turn downs pushes)) difference-upward ∙ push-turned downs (difference l) pushes

  pub push-own-upward : (depth : ℕ) → depth ≡ length downs → push_own (upward_loop downs l) depth ≡ turn_each turn (downs_inside l downs) (push_own l depth)
  unfolding push_own upward_loop downs_inside
  push-own-upward depth same =
      (λ t. sym (turn-zeros downs depth) t ++ (turn-stride t ∷ []))
      ∙ sym (turn-append-one turn downs (replicate depth (pos zero)) (counts_down l) l.stride (length-replicate depth (pos zero) ∙ same))

  pub push-inner-upward : (pushes : List ℤ) → length pushes ≡ length downs →
      push_inner (upward_loop downs l) (turn_each turn downs pushes) ≡ turn_each turn (downs_inside l downs) (push_inner l pushes)
  unfolding push_inner upward_loop downs_inside
  push-inner-upward pushes same =
      let own = push-turn-form (turn_indexes downs l.lower) (counts_down l) (turn_each turn downs pushes)
      ∙ ap (turn (counts_down l)) (push-turned downs l.lower pushes) in
      (λ t. turn_each turn downs pushes ++ (own t ∷ [])) ∙ sym (turn-append-one turn downs pushes (counts_down l) (push l.lower pushes) same)

  module _ (ps : List ℤ) where
    -- ---- trips and indexes

    module _ (indexes : List ℤ) where
      pub trips-upward : trips ps (upward_loop downs l) (turn_each turn downs indexes) ≡ trips ps l indexes
      unfolding trips
      trips-upward =
          let same = ap (λ (f : Form). value ps f (turn_each turn downs indexes)) difference-upward ∙ value-turned downs (difference l) ps indexes in
          λ t. trip_count (same t) (size-upward t)

      index-upward : (trip : ℕ) → index_at ps (upward_loop downs l) (turn_each turn downs indexes) trip ≡ turn (counts_down l) (index_at ps l indexes trip)
      unfolding index_at upward_loop
      index-upward trip =
          let low = value-turn-form (turn_indexes downs l.lower) ps (counts_down l) (turn_each turn downs indexes)
          ∙ ap (turn (counts_down l)) (value-turned downs l.lower ps indexes) in
          (λ t. low t +ℤ pos trip *ℤ turn-stride t)
          ∙ ap (λ (z : ℤ). turn (counts_down l) (value ps l.lower indexes) +ℤ z) (turn-times (counts_down l) (pos trip) l.stride)
          ∙ turn-add (counts_down l) (value ps l.lower indexes) (pos trip *ℤ l.stride)

      pub inner-indexes-upward : length indexes ≡ length downs → (trip : ℕ) →
          inner_indexes ps (upward_loop downs l) (turn_each turn downs indexes) trip ≡ turn_each turn (downs_inside l downs) (inner_indexes ps l indexes trip)
      unfolding inner_indexes downs_inside
      inner-indexes-upward same trip =
          (λ t. turn_each turn downs indexes ++ (index-upward trip t ∷ []))
          ∙ sym (turn-append-one turn downs indexes (counts_down l) (index_at ps l indexes trip) same)

      pub inner-indexes-length : length indexes ≡ length downs → (trip : ℕ) → length (inner_indexes ps l indexes trip) ≡ length (downs_inside l downs)
      unfolding inner_indexes downs_inside
      inner-indexes-length same trip = append-one-length indexes downs (index_at ps l indexes trip) (counts_down l) same

    -- ---- ranges and ceilings

    module _ (ranges : List Range) where
      pub difference-range-upward : difference_range ps (upward_loop downs l) (turn_each turn_range downs ranges) ≡ difference_range ps l ranges
      unfolding difference_range
      difference-range-upward =
          ap (λ (f : Form). range ps f (turn_each turn_range downs ranges)) difference-upward ∙ range-turned downs (difference l) ps ranges

      pub ceiling-upward : ceiling ps (upward_loop downs l) (turn_each turn_range downs ranges) ≡ ceiling ps l ranges
      unfolding ceiling
      ceiling-upward = λ t. trip_count (difference-range-upward t).hi (size-upward t)

      index-range-upward : index_range ps (upward_loop downs l) (turn_each turn_range downs ranges) ≡ turn_range (counts_down l) (index_range ps l ranges)
      unfolding upward_loop turn_range
      index-range-upward =
          index_range-up (upward_loop downs l) ps (turn_each turn_range downs ranges) loop-counts-up
          ∙ (λ t. range_up (of-form l.lower t) (of-form l.upper t)) ∙ by_direction (direction l)
        where
          of-form : (f : Form) → range ps (turn_form (counts_down l) (turn_indexes downs f)) (turn_each turn_range downs ranges)
              ≡ turn_range (counts_down l) (range ps f ranges)
          of-form f =
              range-turn-form (turn_indexes downs f) ps (counts_down l) (turn_each turn_range downs ranges)
              ∙ ap (turn_range (counts_down l)) (range-turned downs f ps ranges)

          low : Range
          low = range ps l.lower ranges

          high : Range
          high = range ps l.upper ranges

          by_direction : Direction l →
              range_up (turn_range (counts_down l) low) (turn_range (counts_down l) high) ≡ turn_range (counts_down l) (index_range ps l ranges)
          by_direction (up e s) =
              (λ t. range_up (turn_range (e t) low) (turn_range (e t) high)) ∙ sym (λ t. turn_range (e t) (index_range-up l ps ranges e t))
          by_direction (down e s) =
              (λ t. range_up (turn_range (e t) low) (turn_range (e t) high)) ∙ up-negated low high ∙ sym (λ t. turn_range (e t) (index_range-down l ps ranges e t))

      pub inner-ranges-upward : length ranges ≡ length downs →
          inner_ranges ps (upward_loop downs l) (turn_each turn_range downs ranges) ≡ turn_each turn_range (downs_inside l downs) (inner_ranges ps l ranges)
      unfolding inner_ranges downs_inside
      inner-ranges-upward same =
          (λ t. turn_each turn_range downs ranges ++ (index-range-upward t ∷ []))
          ∙ sym (turn-append-one turn_range downs ranges (counts_down l) (index_range ps l ranges) same)

      pub inner-ranges-length : length ranges ≡ length downs → length (inner_ranges ps l ranges) ≡ length (downs_inside l downs)
      unfolding inner_ranges downs_inside
      inner-ranges-length same = append-one-length ranges downs (index_range ps l ranges) (counts_down l) same

-- ---- a loop that counts down, the indexes around it as they are

module _ (ps : List ℤ) (l : Loop) (e : counts_down l ≡ true) where
  over-negated : upward_loop [] l ≡ over_negated l
  unfolding upward_loop over_negated turn_form turn_indexes turn_each
  over-negated = λ t. record {
    start = l.start;
    step = l.step;
    stride = pos (stride_size l);
    lower = turn_form (e t) (turn_indexes [] l.lower);
    upper = turn_form (e t) (turn_indexes [] l.upper);
    skip = l.skip;
  }

  -- it makes the trips of the loop that counts up over the negated forms
  pub negated-trips : (indexes : List ℤ) → trips ps (over_negated l) indexes ≡ trips ps l indexes
  unfolding turn_each
  negated-trips indexes = ap (λ m. trips ps m indexes) (sym over-negated) ∙ trips-upward [] l ps indexes

  -- whose index is the negative one in each trip, and in its range
  pub negated-index : (indexes : List ℤ) (trip : ℕ) → index_at ps (over_negated l) indexes trip ≡ neg_ℤ (index_at ps l indexes trip)
  unfolding turn_each turn
  negated-index indexes trip =
      ap (λ m. index_at ps m indexes trip) (sym over-negated) ∙ index-upward [] l ps indexes trip ∙ (λ t. turn (e t) (index_at ps l indexes trip))

  pub negated-index-range : (ranges : List Range) →
      index_range ps (over_negated l) ranges ≡ record { lo = neg_ℤ (index_range ps l ranges).hi; hi = neg_ℤ (index_range ps l ranges).lo }
  unfolding turn_each turn_range
  negated-index-range ranges =
      ap (λ m. index_range ps m ranges) (sym over-negated) ∙ index-range-upward [] l ps ranges ∙ (λ t. turn_range (e t) (index_range ps l ranges))

  pub negated-ceiling : (ranges : List Range) → ceiling ps (over_negated l) ranges ≡ ceiling ps l ranges
  unfolding turn_each
  negated-ceiling ranges = ap (λ m. ceiling ps m ranges) (sym over-negated) ∙ ceiling-upward [] l ps ranges
