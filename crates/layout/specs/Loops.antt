-- What the parameters make of each loop, as numbers: differences, facts and limits, and these read by position.
use Rattle.std.specs.Prelude.{List, [], ◌∷◌, Bool, cond, not, ◌&&◌, ℕ, ◌+◌, ◌*◌, ◌/◌, ◌%◌, ◌^◌, max, ℤ, pos, eqb, ltb, get_or}
use Rattle.whole.specs.Integer.{floor_remainder}
use Rattle.meaning.specs.Limits.{record_limit, index_factors}
use Rattle.layout.specs.declared.facts.Fact.{Fact}

-- each loop has an end, so that at most half of the records are loops
abbrev pub loop_limit : ℕ
loop_limit = record_limit / 2

-- an integer as a number of 64 bits, in two's complement
unfoldable pub word_of : ℤ → ℕ
word_of z = floor_remainder z (2 ^ 64)

-- ---- differences: the stride's size, D where every counter is 0, and the pushes on D of the loops around the loop, outermost first

abbrev pub difference_width : ℕ
difference_width = 2 + index_factors

abbrev pub differences_length : ℕ
differences_length = loop_limit * difference_width

unfoldable pub difference_words : ℕ → ℤ → List ℤ → List ℕ
difference_words stride base pushes =
    stride ∷ word_of base ∷ word_of (get_or pushes 0 (pos 0)) ∷ word_of (get_or pushes 1 (pos 0)) ∷ word_of (get_or pushes 2 (pos 0)) ∷ []

-- where those of loop j begin
abbrev pub difference_from : ℕ → ℕ
difference_from j = j % loop_limit * difference_width

unfoldable pub word_in : List ℕ → ℕ → ℕ → ℕ
word_in differences j column = get_or differences (difference_from j + column) 0

module _ (differences : List ℕ) (j : ℕ) where
  abbrev pub stride_at : ℕ
  stride_at = word_in differences j 0

  abbrev pub base_at : ℕ
  base_at = word_in differences j 1

  -- what a trip of the loop that has m loops around it adds to D
  abbrev pub push_word_at : ℕ → ℕ
  push_word_at m = word_in differences j (2 + m)

-- ---- facts

abbrev pub fact_width : ℕ
fact_width = 4

abbrev pub facts_length : ℕ
facts_length = loop_limit * fact_width

unfoldable pub fact_numbers : Fact → List ℕ
fact_numbers f = f.ceiling ∷ f.choice ∷ f.rank ∷ cond f.enough 1 0 ∷ []

abbrev pub fact_from : ℕ → ℕ
fact_from j = j % loop_limit * fact_width

unfoldable pub fact_in : List ℕ → ℕ → ℕ → ℕ
fact_in facts j column = get_or facts (fact_from j + column) 0

module _ (facts : List ℕ) (j : ℕ) where
  abbrev pub ceiling_at : ℕ
  ceiling_at = fact_in facts j 0

  -- how many of the loops around the loop stand around the innermost choice around it
  abbrev pub choice_depth_at : ℕ
  choice_depth_at = fact_in facts j 1

  -- how many of them are kept from being ranked by the choices around it
  abbrev pub rank_depth_at : ℕ
  rank_depth_at = fact_in facts j 2

  -- whether its smallest D is as large as closing a loop around it asks
  abbrev pub enough_at : Bool
  enough_at = not (eqb (fact_in facts j 3) 0)

-- ---- limits: the largest of the numbers that are stored of the loops, then these numbers

abbrev pub limits_length : ℕ
limits_length = 1 + loop_limit

-- added to the limit of a ranked loop: above every limit, which is a loop's height + 1
abbrev pub ranked_mark : ℕ
ranked_mark = 8

-- the number that is stored of a loop with this limit; what the remainder cuts off is the limit of no loop
unfoldable pub limit_number : Bool → ℕ → ℕ
limit_number ranked limit = limit % ranked_mark + cond ranked ranked_mark 0

-- the largest of the numbers; 0 where there is none
unfoldable pub largest : List ℕ → ℕ
largest [] = 0
largest (n ∷ ns) = max n (largest ns)

-- as they are stored
unfoldable pub with_largest : List ℕ → List ℕ
with_largest numbers = largest numbers ∷ numbers

-- where the number of loop j is
abbrev pub limit_from : ℕ → ℕ
limit_from j = 1 + j % loop_limit

module _ (limits : List ℕ) where
  -- whether any loop is ranked
  unfoldable pub some_ranked : Bool
  some_ranked = not (ltb (get_or limits 0 0) ranked_mark)

  module _ (j : ℕ) where
    -- how many trips the loop visits at most where the rest may be summed, it being closed or ranked; 0 where it is walked
    unfoldable pub limit_at : ℕ
    limit_at = get_or limits (limit_from j) 0 % ranked_mark

    unfoldable pub ranked_at : Bool
    ranked_at = some_ranked && not (ltb (get_or limits (limit_from j) 0) ranked_mark)
