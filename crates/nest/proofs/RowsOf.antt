-- Each record's row, by the records before it and after it; what its numbers stand for.
use mathlib.Core.Path.{◌≡◌, refl, sym, ap, ap₂, ◌∙◌}
use mathlib.Core.List.{List, [], ◌∷◌, ◌++◌, append_assoc}
use Prim.Native.Nat.{ℕ, suc, ◌+◌, ◌≤◌, zero}
use native.Mathlib.Nat.{add-zero}
use native.Mathlib.Omega.{arith}
use lib.ListN.{length, drop, get_or, length-append}
use lib.Seq.{get_or-drop}
use Rattle.meaning.specs.Record.{Record, record_length, sheet_length, choice_record, end_record, loop_record, next_arm_record, work_record}
use Rattle.meaning.specs.Tree.{Arms, Block, arm, arms_records, choice, empty, last_arm, loop, records, work}
use Rattle.layout.specs.declared.rows.Row.{Row}
use Rattle.nest.specs.Rows.{end_number, onward, row_at, rows_from, rows_of, sheet_start, Position}
use Rattle.nest.specs.Walk.{records_inside}
use Rattle.nest.proofs.Walks.{loops_through, numbers_through, opens_through, position_after}

-- ---- ends

pub inside-at-most : (rs : List Record) (inside : ℕ) → records_inside inside rs ≤ length rs
unfolding records_inside
inside-at-most [] inside = omega arith
inside-at-most (work_record least most ∷ rs) inside = omega (arith, inside-at-most rs inside)
inside-at-most (loop_record l ∷ rs) inside = omega (arith, inside-at-most rs (suc inside))
inside-at-most (end_record ∷ rs) zero = omega arith
inside-at-most (end_record ∷ rs) (suc inside) = omega (arith, inside-at-most rs inside)
inside-at-most (choice_record ∷ rs) inside = omega (arith, inside-at-most rs (suc inside))
inside-at-most (next_arm_record ∷ rs) inside = omega (arith, inside-at-most rs inside)

-- an end's number is at most that of what follows the records
pub end-inside : (r : Record) (rs : List Record) (n : ℕ) → end_number n r rs ≤ suc n + length rs
unfolding end_number
end-inside (work_record least most) rs n = omega arith
end-inside (loop_record l) rs n = omega (arith, inside-at-most rs zero)
end-inside end_record rs n = omega arith
end-inside choice_record rs n = omega (arith, inside-at-most rs zero)
end-inside next_arm_record rs n = omega arith

-- ---- the end of what is open lies after a tree's records

mutual
  unfolding records_inside records

  pub records_inside-records : (b : Block) (inside : ℕ) (q : List Record) → records_inside inside (records b ++ q) ≡ length (records b) + records_inside inside q
  records_inside-records empty inside q = omega arith
  records_inside-records (work least most rest) inside q = omega (arith, records_inside-records rest inside q)
  records_inside-records (loop l body rest) inside q =
      let one = ap (records_inside (suc inside)) (append_assoc (records body) (end_record ∷ records rest) q) in
      let two = records_inside-records body (suc inside) (end_record ∷ (records rest ++ q)) in
      let three = records_inside-records rest inside q in
      omega (arith, length-append (records body) (end_record ∷ records rest))
  records_inside-records (choice arms rest) inside q =
      let one = ap (records_inside (suc inside)) (append_assoc (arms_records arms) (end_record ∷ records rest) q) in
      let two = records_inside-arms arms (suc inside) (end_record ∷ (records rest ++ q)) in
      let three = records_inside-records rest inside q in
      omega (arith, length-append (arms_records arms) (end_record ∷ records rest))

  pub records_inside-arms : (arms : Arms) (inside : ℕ) (q : List Record) →
      records_inside inside (arms_records arms ++ q) ≡ length (arms_records arms) + records_inside inside q
  records_inside-arms (last_arm b) inside q = records_inside-records b inside q
  records_inside-arms (arm b arms) inside q =
      let one = ap (records_inside inside) (append_assoc (records b) (next_arm_record ∷ arms_records arms) q) in
      let two = records_inside-records b inside (next_arm_record ∷ (arms_records arms ++ q)) in
      let three = records_inside-arms arms inside q in
      omega (arith, length-append (records b) (next_arm_record ∷ arms_records arms))

-- of a loop or choice with this body: just the body stands before the end
pub records_inside-body : (b : Block) (q : List Record) → records_inside zero (records b ++ (end_record ∷ q)) ≡ length (records b)
unfolding records_inside
records_inside-body b q = omega (arith, records_inside-records b zero (end_record ∷ q))

-- ---- rows

pub get_d-from : {A : Type 0} (n : ℕ) (xs : List A) (d : A) → get_or xs n d ≡ get_or (drop n xs) 0 d
get_d-from n xs d = sym (get_or-drop n xs 0 d ∙ ap (λ (m : ℕ). get_or xs m d) (add-zero n))

abbrev position_through : Position → List Record → Position
position_through p xs = record {
  number = p.number + length xs;
  loops = loops_through p.loops xs;
  offset = p.offset + sheet_length xs;
  opens = opens_through p.opens xs;
  numbers = numbers_through p.number p.numbers xs;
}

pub rows-length : (rs : List Record) (p : Position) → length (rows_from p rs) ≡ length rs
unfolding rows_from
rows-length [] p = refl
rows-length (r ∷ rs) p = ap suc (rows-length rs (onward p r))

-- the rows of what follows the records xs
rows-after : (xs ys : List Record) (p : Position) → drop (length xs) (rows_from p (xs ++ ys)) ≡ rows_from (position_through p xs) ys
unfolding rows_from onward sheet_length opens_through numbers_through loops_through
rows-after [] ys p = ap₂ (λ (n o : ℕ). rows_from (record { number = n; loops = p.loops; offset = o; opens = p.opens; numbers = p.numbers }) ys)
    (sym (add-zero p.number)) (sym (add-zero p.offset))
rows-after (x ∷ xs) ys p =
    let q : Position = position_through (onward p x) xs in
    rows-after xs ys (onward p x)
    ∙ ap₂ (λ (n o : ℕ). rows_from (record { number = n; loops = q.loops; offset = o; opens = q.opens; numbers = q.numbers }) ys)
    (let e : suc p.number + length xs ≡ p.number + suc (length xs) = omega arith in e)
    (let e : p.offset + record_length x + sheet_length xs ≡ p.offset + (record_length x + sheet_length xs) = omega arith in e)

-- a record's row: what stands in it is what the records before it leave
pub row-at : (xs : List Record) (r : Record) (ys : List Record) (d : Row) → get_or (rows_of (xs ++ (r ∷ ys))) (length xs) d ≡ row_at (position_after xs) r ys
unfolding rows_of rows_from
row-at xs r ys d =
    let q : Position = position_after xs in
    get_d-from (length xs) (rows_from sheet_start (xs ++ (r ∷ ys))) d ∙ ap (λ rows. get_or rows 0 d) (rows-after xs (r ∷ ys) sheet_start)
    ∙ ap₂ (λ (n o : ℕ). row_at (record { number = n; loops = q.loops; offset = o; opens = q.opens; numbers = q.numbers }) r ys)
    (let e : 0 + length xs ≡ length xs = omega arith in e) (let e : 0 + sheet_length xs ≡ sheet_length xs = omega arith in e)
