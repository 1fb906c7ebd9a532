-- Forms and ranges at 64 bits as the meaning's, and what takes the place of numbers too large to reckon with.
use Rattle.std.specs.Prelude.{List, [], ◌∷◌, map, cond, ℕ, zero, ◌^◌, ℤ, pos, nat_abs, ◌+ℤ◌, leb, replicate}
use Rattle.whole.specs.Integer.{dot}
use Rattle.meaning.specs.Limits.{parameter_factors}
use Rattle.meaning.specs.Form as M
use Rattle.meaning.specs.Form.{value}
use Rattle.meaning.specs.Range as R
use Rattle.meaning.specs.Range.{range}
use Rattle.meaning.specs.Closed.{push}
use Rattle.form.specs.declared.Form.{Form}
use Rattle.form.specs.declared.Range.{Range}

-- a form as the meaning has it
abbrev pub wide_form : Form → M.Form
wide_form f = record { constant = f.constant; index = f.index; parameter = f.parameter }

-- a range as the meaning has it
abbrev pub range_of : Range → R.Range
range_of r = record { lo = r.lo; hi = r.hi }

-- the largest size of a number that the code reckons with: above that of every index, push and constant of an accepted sheet
abbrev pub size_limit : ℕ
size_limit = 2 ^ 46

-- a larger number counts as 0
unfoldable pub bounded : ℤ → ℤ
bounded z = cond (leb (nat_abs z) size_limit) z (pos zero)

-- the form with its constant so bounded
unfoldable pub bounded_constant : M.Form → M.Form
bounded_constant f = record { constant = bounded f.constant; index = f.index; parameter = f.parameter }

-- the form with the parameters' values in its constant
unfoldable pub folded : List ℤ → M.Form → M.Form
folded parameters f = record {
  constant = bounded f.constant +ℤ dot f.parameter parameters;
  index = f.index;
  parameter = replicate parameter_factors (pos zero);
}

-- ranges from the list of their smallest numbers and the list of their largest
unfoldable pub ranges_between : List ℤ → List ℤ → List R.Range
ranges_between [] hs = []
ranges_between (l ∷ ls) [] = []
ranges_between (l ∷ ls) (h ∷ hs) = record { lo = l; hi = h } ∷ ranges_between ls hs

-- range, value and push of a form with no parameters left
unfoldable pub range_within : M.Form → List ℤ → List ℤ → R.Range
range_within f lo hi = range [] (bounded_constant f) (ranges_between (map bounded lo) (map bounded hi))

unfoldable pub value_at : M.Form → List ℤ → ℤ
value_at f indexes = value [] (bounded_constant f) (map bounded indexes)

unfoldable pub push_of : M.Form → List ℤ → ℤ
push_of f pushes = push f (map bounded pushes)
