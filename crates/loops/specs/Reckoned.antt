-- The code's numbers of one loop: what it works out of the loop's forms at 64 bits, and what it keeps of the open loops, an entry for each depth.
use Rattle.std.specs.Prelude.{◌≡◌, List, [], ◌∷◌, Bool, cond, ℕ, zero, ◌≤◌, ℤ, pos, nat_abs, ltb, length, get_or, set, replicate}
use Rattle.std.specs.Int.Signed.{le_z}
use Rattle.meaning.specs.Limits.{depth_limit, constant_half, parameter_factors}
use Rattle.meaning.specs.Form.{Form}
use Rattle.meaning.specs.Record.{Open}
use Rattle.meaning.specs.Time.{trip_count}
use Rattle.meaning.specs.Range.{Range, range_up, range_down}
use Rattle.form.specs.Forms.{range_within, value_at, push_of}
use Rattle.layout.specs.declared.facts.Fact.{Fact}
use Rattle.layout.specs.Loops.{word_of}
use Rattle.loops.specs.Enclosing.{choice_depth, rank_depth}
use Rattle.loops.specs.declared.forms.Around.{Around}
use Rattle.loops.specs.declared.forms.Barred.{Barred}

-- how many of the loops around are barred by these open records
unfoldable pub barred_by : List Open → Barred
barred_by os = record { choice = choice_depth os; rank = rank_depth os }

-- of a loop with `depth` loops around it, the push of the loop with m loops around it, as a word; 0 where there is none
unfoldable pub push_word : Form → List (List ℤ) → ℕ → ℕ → ℕ
push_word f pushes depth m = cond (ltb m depth) (word_of (push_of f (get_or pushes m []))) 0

-- the words of a loop with D's form f, whose parameters are folded in
unfoldable pub loop_words : Form → ℕ → ℕ → List ℤ → List (List ℤ) → List ℕ
loop_words f stride depth starts pushes =
    stride ∷ word_of (value_at f starts) ∷ push_word f pushes depth 0 ∷ push_word f pushes depth 1 ∷ push_word f pushes depth 2 ∷ []

-- its ceiling, and whether its smallest D is as large as asked
unfoldable pub ceiling_within : Form → ℕ → Around → ℕ
ceiling_within f stride a = trip_count (range_within f a.lo a.hi).hi stride

unfoldable pub enough_within : Form → ℤ → Around → Bool
enough_within f asked a = le_z asked (range_within f a.lo a.hi).lo

-- as they are stored
unfoldable pub fact_within : Form → ℕ → ℤ → Barred → Around → Fact
fact_within f stride asked barred a =
    record { ceiling = ceiling_within f stride a; choice = barred.choice; rank = barred.rank; enough = enough_within f asked a }

-- a loop's pushes at its own depth
unfoldable pub own_row : ℤ → ℕ → List ℤ
own_row stride depth = set (replicate depth_limit (pos zero)) depth stride

-- the pushes of loop m, with that on the index of a loop at this depth
unfoldable pub row_with : Form → List (List ℤ) → ℕ → ℕ → List ℤ
row_with lower pushes depth m = set (get_or pushes m []) depth (push_of lower (get_or pushes m []))

-- all pushes, with those on the index of a loop at this depth and its own
unfoldable pub pushes_with : Form → ℤ → ℕ → List (List ℤ) → List (List ℤ)
pushes_with lower stride depth pushes =
    set (set (set (set pushes 0 (row_with lower pushes depth 0)) 1 (row_with lower pushes depth 1)) 2 (row_with lower pushes depth 2)) depth (own_row stride depth)

-- the indexes with that of a loop at this depth, by whether it counts down
unfoldable pub around_with : Bool → Form → Form → ℕ → Around → Around
around_with down lower upper depth a =
    let index : Range = cond down range_down range_up (range_within lower a.lo a.hi) (range_within upper a.lo a.hi) in
    record { lo = set a.lo depth index.lo; hi = set a.hi depth index.hi; starts = set a.starts depth (value_at lower a.starts) }

-- four numbers of 16 bits
pub record FourSmall (parameters : List ℤ) : Type 0 where
  pub count : length parameters ≡ parameter_factors
  pub small : (n : ℕ) → nat_abs (get_or parameters n (pos zero)) ≤ constant_half
