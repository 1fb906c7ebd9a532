-- The loops around a record, found backwards among the rows by how many loops stand around each, are the open ones.
use mathlib.Core.Bool.{Bool, cond, false, true, ◌&&◌}
use mathlib.Core.List.{List, [], ◌∷◌, ◌++◌, append_assoc, append-nil}
use mathlib.Core.Path.{ap, ap₂, refl, subst, sym, ◌∙◌, ◌≡◌}
use Prim.Native.Nat.{◌+◌, ◌<◌, suc, ℕ, ◌≤◌}
use native.Mathlib.Nat.{zero-add}
use native.Mathlib.Numerals.{add-one}
use native.Mathlib.Omega.{arith}
use borrow.Author.Tests.{eqb-false, eqb-true, ltb-false, ltb-true}
use lib.Dec.{eqb, ltb}
use lib.ListN.{get_or-append, get_or, length, length-append}
use lib.Seq.{get_or_at}
use Rattle.meaning.specs.Limits.{record_limit}
use Rattle.meaning.specs.Record.{Loop, Open, Record, choice_record, end_record, kind, loop_depth, loop_record, next_arm_record, open_choice, open_loop, work_record}
use Rattle.meaning.specs.Tree.{Block, records}
use Rattle.meaning.proofs.Accepted.{InPlace}
use Rattle.layout.specs.Rows.{depth_at, loop_role, role_number, role_of, role_of_kind}
use Rattle.layout.specs.declared.rows.Row.{Row}
use Rattle.nest.specs.Known.{RowsHeld}
use Rattle.nest.specs.Walk.{numbers_after, opens_after}
use Rattle.nest.proofs.Openers.{OpenerRows, open-rows}
use Rattle.nest.proofs.Places.{in-place-through, loop-in-place}
use Rattle.nest.proofs.RowsRead.{depth-reads, role-reads}
use Rattle.nest.proofs.Walks.{numbers_through, numbers-append, numbers-one-more, numbers-records, opens_through, opens-append, opens-one-more, opens-records}
use Rattle.layout.proofs.Reading.{blank_row}
use Rattle.loops.proofs.AtRecord.{loop-there}
use Rattle.planner.specs.Reasons.{loop_around}

-- the numbers of the open loops, outermost first, of the open records' numbers
unfoldable pub loop_numbers : List ℕ → List Open → List ℕ
loop_numbers [] os = []
loop_numbers (n ∷ ns) [] = []
loop_numbers (n ∷ ns) (open_loop ∷ os) = loop_numbers ns os ++ (n ∷ [])
loop_numbers (n ∷ ns) (open_choice ∷ os) = loop_numbers ns os

-- after the records xs of a sheet
abbrev pub loop_numbers_after : List Record → List ℕ
loop_numbers_after xs = loop_numbers (numbers_through 0 [] xs) (opens_through [] xs)

one_more : (xs : List Record) (r : Record) →
    loop_numbers_after (xs ++ (r ∷ [])) ≡ loop_numbers (numbers_after (length xs) (numbers_through 0 [] xs) r) (opens_after (opens_through [] xs) r)
one_more xs r =
    ap₂ loop_numbers (numbers-one-more xs r 0 [] ∙ ap (λ (k : ℕ). numbers_after k (numbers_through 0 [] xs) r) (zero-add (length xs))) (opens-one-more xs r [])

numbers-count : (row_of : ℕ → Row) (ns : List ℕ) (os : List Open) → OpenerRows row_of ns os → length (loop_numbers ns os) ≡ loop_depth os
unfolding loop_numbers loop_depth OpenerRows
numbers-count row_of [] [] h = refl
numbers-count row_of [] (o ∷ os) h = absurd h
numbers-count row_of (n ∷ ns) [] h = absurd h
numbers-count row_of (n ∷ ns) (open_loop ∷ os) h = omega (arith, numbers-count row_of ns os h.1, length-append (loop_numbers ns os) (n ∷ []))
numbers-count row_of (n ∷ ns) (open_choice ∷ os) h = numbers-count row_of ns os h.1

pub loop-numbers-count : (xs : List Record) → length (loop_numbers_after xs) ≡ loop_depth (opens_through [] xs)
loop-numbers-count xs = numbers-count _ (numbers_through 0 [] xs) (opens_through [] xs) (open-rows xs [] blank_row)

-- the innermost loop, or a choice, which is no loop
pub loop-numbers-loop : (xs : List Record) (l : Loop) → loop_numbers_after (xs ++ (loop_record l ∷ [])) ≡ loop_numbers_after xs ++ (length xs ∷ [])
unfolding opens_after numbers_after loop_numbers
loop-numbers-loop xs l = one_more xs (loop_record l)

pub loop-numbers-choice : (xs : List Record) → loop_numbers_after (xs ++ (choice_record ∷ [])) ≡ loop_numbers_after xs
unfolding opens_after numbers_after loop_numbers
loop-numbers-choice xs = one_more xs choice_record

pub loop-numbers-next-arm : (xs : List Record) → loop_numbers_after (xs ++ (next_arm_record ∷ [])) ≡ loop_numbers_after xs
unfolding opens_after numbers_after
loop-numbers-next-arm xs = one_more xs next_arm_record

-- a tree's records leave the open loops
pub loop-numbers-records : (xs : List Record) (b : Block) → loop_numbers_after (xs ++ records b) ≡ loop_numbers_after xs
loop-numbers-records xs b =
    ap₂ loop_numbers (numbers-append xs (records b) 0 [] ∙ numbers-records b (0 + length xs) (numbers_through 0 [] xs))
    (opens-append xs (records b) [] ∙ opens-records b (opens_through [] xs))

-- ---- one record more

-- the innermost loop, which has n, or a loop further out
number-inner : (ns : List ℕ) (d n m before : ℕ) → length ns ≡ d → m < suc d → (m < d → before ≡ get_or ns m 0) → cond (eqb d m) n before ≡ get_or (ns ++ (n ∷ [])) m 0
number-inner ns d n m before count less known = go (eqb d m) refl
  where
    lower : (c : Bool) → ltb m d ≡ c → eqb d m ≡ false → m < d
    lower true t e = ltb-true m d t
    lower false t e = absurd (eqb-false d m e (omega (arith, ltb-false m d t, less)))

    go : (c : Bool) → eqb d m ≡ c → cond c n before ≡ get_or (ns ++ (n ∷ [])) m 0
    go true e = sym (get_or_at ns n [] 0 m (count ∙ eqb-true d m e))
    go false e = let below = lower (ltb m d) refl e in known below ∙ sym (get_or-append ns (n ∷ []) 0 m (omega (arith, count, below)))

-- what the search finds after a record, from what it finds before it: only a loop's record is asked how many loops stand around it
next-number : (row_of : ℕ → Row) (r : Record) (ns : List ℕ) (os : List Open) → OpenerRows row_of ns os → (n m before depth : ℕ) →
    (role_number (role_of r) ≡ role_number loop_role → depth ≡ loop_depth os) → (m < loop_depth os → before ≡ get_or (loop_numbers ns os) m 0) →
    m < loop_depth (opens_after os r) →
    cond (eqb (role_number (role_of r)) (role_number loop_role) && eqb depth m) n before ≡ get_or (loop_numbers (numbers_after n ns r) (opens_after os r)) m 0
unfolding role_number role_of role_of_kind kind opens_after numbers_after loop_numbers loop_depth OpenerRows
next-number row_of (work_record least most) ns os h n m before depth d known less = known less
next-number row_of (loop_record l) ns os h n m before depth d known less =
    ap (λ (x : ℕ). cond (eqb x m) n before) (d refl) ∙ number-inner (loop_numbers ns os) (loop_depth os) n m before (numbers-count row_of ns os h) less known
next-number row_of end_record [] [] h n m before depth d known less = known less
next-number row_of end_record [] (o ∷ os) h n m before depth d known less = absurd h
next-number row_of end_record (k ∷ ns) [] h n m before depth d known less = absurd h
next-number row_of end_record (k ∷ ns) (open_loop ∷ os) h n m before depth d known less =
    known (omega arith) ∙ get_or-append (loop_numbers ns os) (k ∷ []) 0 m (omega (arith, numbers-count row_of ns os h.1, less))
next-number row_of end_record (k ∷ ns) (open_choice ∷ os) h n m before depth d known less = known less
next-number row_of choice_record ns os h n m before depth d known less = known less
next-number row_of next_arm_record ns os h n m before depth d known less = known less

-- ---- among the rows of a sheet

module _ {rows : List ℕ} {rs : List Record} (held : RowsHeld rows rs) (place : InPlace [] rs) (few : length rs ≤ record_limit) where
  -- after the records xs the search finds the open loops
  record Found (xs : List Record) : Type 0 where
    around : (m : ℕ) → m < loop_depth (opens_through [] xs) → loop_around rows m (length xs) ≡ get_or (loop_numbers_after xs) m 0

  found-next : (xs : List Record) (r : Record) (ys : List Record) → rs ≡ xs ++ (r ∷ ys) → Found xs → Found (xs ++ (r ∷ []))
  found-next xs r ys split found = record {
    around = λ m less.
        let os : List Open = opens_through [] xs in
        let ns : List ℕ = numbers_through 0 [] xs in
        let opens : opens_through [] (xs ++ (r ∷ [])) ≡ opens_after os r = opens-one-more xs r [] in
        ap (loop_around rows m) (length-append xs (r ∷ []) ∙ add-one (length xs))
        ∙ step m
        ∙ next-number _ r ns os (open-rows xs (r ∷ ys) blank_row) (length xs) m (loop_around rows m (length xs)) (depth_at rows (length xs)) (shallow r split)
        (found.around m) (subst (λ (o : List Open). m < loop_depth o) opens less)
        ∙ sym (ap (λ (ks : List ℕ). get_or ks m 0) (one_more xs r));
  }
    where
      held-here : RowsHeld rows (xs ++ (r ∷ ys))
      held-here = subst (RowsHeld rows) split held

      few-here : length (xs ++ (r ∷ ys)) ≤ record_limit
      few-here = subst (λ (x : List Record). length x ≤ record_limit) split few

      step : (m : ℕ) → loop_around rows m (suc (length xs))
          ≡ cond (eqb (role_number (role_of r)) (role_number loop_role) && eqb (depth_at rows (length xs)) m) (length xs) (loop_around rows m (length xs))
      step m = unfold loop_around in
          ap (λ (k : ℕ). cond (eqb k (role_number loop_role) && eqb (depth_at rows (length xs)) m) (length xs) (loop_around rows m (length xs)))
          (role-reads xs r ys held-here few-here)

      shallow : (r : Record) → rs ≡ xs ++ (r ∷ ys) → role_number (role_of r) ≡ role_number loop_role → depth_at rows (length xs) ≡ loop_depth (opens_through [] xs)
      shallow r s e =
          let is = loop-there r (e ∙ (unfold role_number in refl)) in
          let here = in-place-through xs (r ∷ ys) [] (subst (InPlace []) s place) in
          let low = (loop-in-place is.0 ys (opens_through [] xs) (subst (λ (x : Record). InPlace (opens_through [] xs) (x ∷ ys)) is.1 here)).0 in
          depth-reads xs r ys (subst (RowsHeld rows) s held) (subst (λ (x : List Record). length x ≤ record_limit) s few) ∙ omega (arith, low)

  found-on : (zs xs ys : List Record) → rs ≡ xs ++ (zs ++ ys) → Found xs → Found (xs ++ zs)
  found-on [] xs ys split found = subst Found (sym (append-nil xs)) found
  found-on (z ∷ zs) xs ys split found =
      subst Found (append_assoc xs (z ∷ []) zs)
      (found-on zs (xs ++ (z ∷ [])) ys (split ∙ sym (append_assoc xs (z ∷ []) (zs ++ ys))) (found-next xs z (zs ++ ys) split found))

  -- of the loops that are open after the records xs, the one with m loops around it
  pub loop-around-is : (xs ys : List Record) → rs ≡ xs ++ ys → (m : ℕ) → m < loop_depth (opens_through [] xs) →
      loop_around rows m (length xs) ≡ get_or (loop_numbers_after xs) m 0
  unfolding opens_through loop_depth
  loop-around-is xs ys split = (found-on xs [] ys split (record { around = λ m less. absurd (omega (arith, less)) })).around
