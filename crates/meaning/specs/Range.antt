-- Ranges of forms, from the signs of the factors (document 003, section 3), indexes and D; ceilings.
use Rattle.std.specs.Prelude.{List, [], ◌∷◌, ◌++◌, cond, ℕ, zero, ℤ, pos, negsuc, ◌+ℤ◌, ◌*ℤ◌}
use Rattle.whole.specs.Integer.{dot, larger, smaller}
use Rattle.meaning.specs.Form.{Form}
use Rattle.meaning.specs.Record.{Loop, stride_size, counts_down}
use Rattle.meaning.specs.Time.{difference, trip_count}

pub record Range : Type 0 where
  pub lo : ℤ
  pub hi : ℤ

abbrev pub exact_range : ℤ → Range
exact_range z = record { lo = z; hi = z }

-- a factor's product with a range: a negative factor exchanges the ends
unfoldable pub scale : ℤ → Range → Range
scale (pos a) r = record { lo = pos a *ℤ r.lo; hi = pos a *ℤ r.hi }
scale (negsuc a) r = record { lo = negsuc a *ℤ r.hi; hi = negsuc a *ℤ r.lo }

unfoldable pub add_range : Range → Range → Range
add_range r s = record { lo = r.lo +ℤ s.lo; hi = r.hi +ℤ s.hi }

unfoldable pub dot_range : List ℤ → List Range → Range
dot_range [] rs = exact_range (pos zero)
dot_range (x ∷ xs) [] = exact_range (pos zero)
dot_range (x ∷ xs) (r ∷ rs) = add_range (scale x r) (dot_range xs rs)

-- "A loop's index is taken to lie from its lower form's smallest value, lo, to the larger of lo and its upper form's largest value"
unfoldable pub range_up : Range → Range → Range
range_up lower upper = record { lo = lower.lo; hi = larger lower.lo upper.hi }

-- document 02, of a loop that counts down: "from the smaller of the upper form's smallest value and the lower form's largest, to the latter"
unfoldable pub range_down : Range → Range → Range
range_down lower upper = record { lo = smaller upper.lo lower.hi; hi = lower.hi }

module _ (parameters : List ℤ) where
  -- the form's smallest and largest value, at the ranges of the indexes of the enclosing loops, outermost first
  unfoldable pub range : Form → List Range → Range
  range f ranges = add_range (exact_range (f.constant +ℤ dot f.parameter parameters)) (dot_range f.index ranges)

  -- where the loop's index is taken to lie
  unfoldable pub index_range : Loop → List Range → Range
  index_range l ranges = cond (counts_down l) range_down range_up (range l.lower ranges) (range l.upper ranges)

  -- the ranges of the indexes inside loop l
  unfoldable pub inner_ranges : Loop → List Range → List Range
  inner_ranges l ranges = ranges ++ (index_range l ranges ∷ [])

  -- those inside several loops, outermost first
  unfoldable pub ranges_inside : List Loop → List Range → List Range
  ranges_inside [] ranges = ranges
  ranges_inside (l ∷ inner) ranges = ranges_inside inner (inner_ranges l ranges)

  -- "D is ranged as one form, after subtraction"
  unfoldable pub difference_range : Loop → List Range → Range
  difference_range l ranges = range (difference l) ranges

  -- document 01: ceiling
  unfoldable pub ceiling : Loop → List Range → ℕ
  ceiling l ranges = trip_count (difference_range l ranges).hi (stride_size l)
