-- What was stored is read back: a record's row by its number, a loop's words, facts and limit by its number among the loops.
use mathlib.Core.List.{◌++◌, List, [], ◌∷◌}
use mathlib.Core.Path.{ap, ap₂, refl, sym, ◌∙◌, ◌≡◌}
use mathlib.Core.Bool.{Bool, false, not, true, ◌&&◌}
use Prim.Native.Nat.{◌+◌, ◌*◌, ◌/◌, ◌%◌, ◌<◌, ◌≤◌, max, min, suc, zero, ℕ}
use native.Mathlib.Nat.{mod-eq_of_lt}
use native.Mathlib.Omega.{arith}
use borrow.Author.Tests.{le-ltb, lt-ltb}
use lib.Dec.{ltb}
use lib.ListN.{drop, get_or, length}
use lib.Seq.{drop-drop, paste}
use lib.IntN.{ℤ}
use Rattle.meaning.specs.Limits.{record_limit, depth_limit, open_limit}
use Rattle.layout.specs.declared.facts.Fact.{Fact}
use Rattle.layout.specs.declared.rows.Row.{Row}
use Rattle.layout.specs.Loops.{difference_from, difference_width, difference_words, fact_from, fact_in, fact_numbers, fact_width, largest, limit_at, limit_from, limit_number, with_largest, loop_limit, ranked_at, ranked_mark, some_ranked, word_in}
use Rattle.layout.specs.Numbers.{joined, stored_in}
use Rattle.layout.specs.Rows.{around_room, role_room, end_numbers, depth_numbers, place_numbers, number_in, number_room, offset_room, row_from, row_numbers, row_width}
use Rattle.layout.proofs.Storing.{read_back, store-next, stored_at, stored_more}

-- ---- rows

abbrev pub blank_row : Row
blank_row = record { role = 0; first = 0; second = 0; end = 0; enclosing = 0; frame = 0; depth = 0; loops = 0; offset = 0; skip = 0 }

row-width : (r : Row) → length (row_numbers r) ≡ row_width
unfolding row_numbers
row-width r = refl

-- what shares a number is read from it
module _ (r : Row) where
  pub end-shared : end_numbers r % record_limit ≡ r.end % record_limit
  unfolding end_numbers
  end-shared = omega arith

  pub enclosing-shared : r.enclosing < around_room → end_numbers r / number_room ≡ r.enclosing
  unfolding end_numbers
  enclosing-shared h = omega arith

  pub loops-shared : r.loops < number_room → depth_numbers r % number_room ≡ r.loops
  unfolding depth_numbers
  loops-shared h = omega arith

  pub frame-shared : depth_numbers r / number_room % open_limit ≡ r.frame % open_limit
  unfolding depth_numbers
  frame-shared = omega arith

  pub depth-shared : min (depth_numbers r / (number_room * open_limit)) depth_limit ≡ min r.depth depth_limit
  unfolding depth_numbers
  depth-shared = omega arith

  pub offset-shared : r.offset < offset_room → place_numbers r % offset_room ≡ r.offset
  unfolding place_numbers
  offset-shared h = omega arith

  pub role-shared : r.role < role_room → place_numbers r / offset_room ≡ r.role
  unfolding place_numbers
  role-shared h = omega arith

module _ (before : List ℕ) (rows : List Row) (n : ℕ) where
  abbrev rows_stored : List ℕ
  rows_stored = stored_in before (joined row_numbers rows)

  pub row_number : (column : ℕ) → n < length rows → n < record_limit → column < row_width →
      number_in rows_stored n column ≡ get_or (row_numbers (get_or rows n blank_row)) column 0
  unfolding number_in
  row_number column h below c = read_back row_numbers row_width row-width record_limit before rows n column blank_row h below c

  pub row_next : (r : Row) → n ≡ length rows → n < record_limit →
      paste rows_stored (row_from n) (row_numbers r) row_width ≡ stored_in before (joined row_numbers (rows ++ (r ∷ [])))
  row_next r h below = store-next row_numbers row_width row-width record_limit before rows r n (row_numbers r) h below refl

-- ---- words

pub differences-width : (stride : ℕ) (base : ℤ) (pushes : List ℤ) → length (difference_words stride base pushes) ≡ difference_width
unfolding difference_words
differences-width stride base pushes = refl

module _ {A : Type 0} (words : A → List ℕ) (wide : (x : A) → length (words x) ≡ difference_width) (before : List ℕ) (xs : List A) (n : ℕ) where
  pub word_number : (column : ℕ) (d : A) → n < length xs → n < loop_limit → column < difference_width →
      word_in (stored_in before (joined words xs)) n column ≡ get_or (words (get_or xs n d)) column 0
  unfolding word_in
  word_number column d h below c = read_back words difference_width wide loop_limit before xs n column d h below c

  pub words-next : (x : A) (values : List ℕ) → n ≡ length xs → n < loop_limit → values ≡ words x →
      paste (stored_in before (joined words xs)) (difference_from n) values difference_width ≡ stored_in before (joined words (xs ++ (x ∷ [])))
  words-next x values h below v = store-next words difference_width wide loop_limit before xs x n values h below v

-- ---- facts

fact-width : (f : Fact) → length (fact_numbers f) ≡ fact_width
unfolding fact_numbers
fact-width f = refl

module _ (before : List ℕ) (facts : List Fact) (n : ℕ) where
  pub fact-number : (column : ℕ) (d : Fact) → n < length facts → n < loop_limit → column < fact_width →
      fact_in (stored_in before (joined fact_numbers facts)) n column ≡ get_or (fact_numbers (get_or facts n d)) column 0
  unfolding fact_in
  fact-number column d h below c = read_back fact_numbers fact_width fact-width loop_limit before facts n column d h below c

  pub facts-next : (f : Fact) (values : List ℕ) → n ≡ length facts → n < loop_limit → values ≡ fact_numbers f →
      paste (stored_in before (joined fact_numbers facts)) (fact_from n) values fact_width ≡ stored_in before (joined fact_numbers (facts ++ (f ∷ [])))
  facts-next f values h below v = store-next fact_numbers fact_width fact-width loop_limit before facts f n values h below v

-- ---- limits

mark-ranked : (ranked : Bool) (limit : ℕ) → not (ltb (limit_number ranked limit) ranked_mark) ≡ ranked
unfolding limit_number
mark-ranked true limit = ap not (le-ltb (limit % ranked_mark + ranked_mark) ranked_mark (omega arith))
mark-ranked false limit = ap not (lt-ltb (limit % ranked_mark + 0) ranked_mark (omega arith))

mark-limit : (ranked : Bool) (limit : ℕ) → limit < ranked_mark → limit_number ranked limit % ranked_mark ≡ limit
unfolding limit_number
mark-limit true limit h = omega arith
mark-limit false limit h = omega arith

-- the largest of the numbers, with one number more
largest-more : (numbers : List ℕ) (n : ℕ) → max (largest numbers) n ≡ largest (numbers ++ (n ∷ []))
unfolding largest
largest-more [] n = omega arith
largest-more (m ∷ numbers) n = let e = largest-more numbers n in omega arith

-- no number is larger
largest-above : (numbers : List ℕ) (i : ℕ) → get_or numbers i 0 ≤ largest numbers
unfolding largest
largest-above [] i = omega arith
largest-above (n ∷ numbers) zero = omega arith
largest-above (n ∷ numbers) (suc i) = let e = largest-above numbers i in omega arith

-- where a loop is ranked, some loop is
some-marked : (top limit : ℕ) (ranked : Bool) → limit_number ranked limit ≤ top → not (ltb top ranked_mark) && ranked ≡ ranked
unfolding limit_number
some-marked top limit true h = ap (λ (b : Bool). not b && true) (le-ltb top ranked_mark (omega arith))
some-marked top limit false h = none (ltb top ranked_mark)
  where
    none : (b : Bool) → not b && false ≡ false
    none true = refl
    none false = refl

-- another number before the others
first-stored : (before : List ℕ) (old new : ℕ) (others : List ℕ) → paste (stored_in before (old ∷ others)) 0 (new ∷ []) 1 ≡ stored_in before (new ∷ others)
unfolding stored_in
first-stored before old new others = refl

module _ (before numbers : List ℕ) (n : ℕ) where
  limit-stored : n < length numbers → n < loop_limit → get_or (stored_in before (with_largest numbers)) (limit_from n) 0 ≡ get_or numbers n 0
  unfolding with_largest
  limit-stored h below =
      ap (λ (m : ℕ). get_or (stored_in before (largest numbers ∷ numbers)) m 0) (let e : limit_from n ≡ suc n = omega (arith, mod-eq_of_lt below) in e)
      ∙ stored_at before (largest numbers ∷ numbers) (suc n) (omega arith)

  largest-stored : get_or (stored_in before (with_largest numbers)) 0 0 ≡ largest numbers
  unfolding with_largest
  largest-stored = stored_at before (largest numbers ∷ numbers) 0 (omega arith)

  -- of the loop whose number was made from its limit and whether it is ranked, these are read back
  module _ (ranked : Bool) (limit : ℕ) (h : n < length numbers) (below : n < loop_limit) (e : get_or numbers n 0 ≡ limit_number ranked limit) where
    pub limit-number : limit < ranked_mark → limit_at (stored_in before (with_largest numbers)) n ≡ limit
    unfolding limit_at
    limit-number small = ap (λ (x : ℕ). x % ranked_mark) (limit-stored h below ∙ e) ∙ mark-limit ranked limit small

    pub ranked-number : ranked_at (stored_in before (with_largest numbers)) n ≡ ranked
    unfolding ranked_at some_ranked
    ranked-number =
        ap₂ (λ (x y : ℕ). not (ltb x ranked_mark) && not (ltb y ranked_mark)) largest-stored (limit-stored h below ∙ e)
        ∙ ap (λ (b : Bool). not (ltb (largest numbers) ranked_mark) && b) (mark-ranked ranked limit)
        ∙ some-marked (largest numbers) limit ranked (let a = largest-above numbers n in omega arith)

  pub limits-next : (limit : ℕ) → n ≡ length numbers → n < loop_limit → {stored : List ℕ} → stored ≡ stored_in before (with_largest numbers) →
      paste (paste stored (limit_from n) (limit ∷ []) 1) 0 (max (get_or stored 0 0) limit ∷ []) 1 ≡ stored_in before (with_largest (numbers ++ (limit ∷ [])))
  unfolding with_largest
  limits-next limit h below {stored} e =
      let at : limit_from n ≡ length (largest numbers ∷ numbers) = omega (arith, mod-eq_of_lt below) in
      let next : List ℕ = numbers ++ (limit ∷ []) in
      ap₂ (λ (x : List ℕ) (m : ℕ). paste x 0 (m ∷ []) 1)
      (ap (λ (x : List ℕ). paste x (limit_from n) (limit ∷ []) 1) e ∙ stored_more before (largest numbers ∷ numbers) (limit ∷ []) (limit_from n) 1 at refl)
      (ap (λ (x : List ℕ). max (get_or x 0 0) limit) e ∙ ap (λ (m : ℕ). max m limit) largest-stored ∙ largest-more numbers limit)
      ∙ first-stored before (largest numbers) (largest next) next

-- whether a loop is ranked, by whether any is
pub ranked-by : (limits : List ℕ) (n : ℕ) {some asked : Bool} → asked ≡ some_ranked limits → asked ≡ some
    → ranked_at limits n ≡ some && not (ltb (get_or limits (limit_from n) 0) ranked_mark)
unfolding ranked_at
ranked-by limits n a e = ap (λ (b : Bool). b && not (ltb (get_or limits (limit_from n) 0) ranked_mark)) (sym a ∙ e)

-- begun, the limits are those of no loop, and those that are stored then as if in the array before
module _ (before : List ℕ) {begun : List ℕ} (b : begun ≡ paste before 0 (0 ∷ []) 1) where
  pub limits-begin : begun ≡ stored_in begun (with_largest [])
  unfolding with_largest largest stored_in
  limits-begin = b ∙ ap (λ (x : List ℕ). 0 ∷ drop 1 x) (sym b)

  pub limits-begun : (numbers : List ℕ) → stored_in begun (with_largest numbers) ≡ stored_in before (with_largest numbers)
  unfolding with_largest stored_in
  limits-begun numbers =
      ap (λ (x : List ℕ). largest numbers ∷ (numbers ++ x)) (ap (drop (suc (length numbers))) b ∙ drop-drop (length numbers) 1 before ∙ ap (λ (n : ℕ). drop n before) (let e : 1 + length numbers ≡ suc (length numbers) = omega arith in e))
