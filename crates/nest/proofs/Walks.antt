-- Where a walk stands after records: what is open, the numbers of the open records, and how many loops there were.
use mathlib.Core.Path.{◌≡◌, refl, sym, ap, ◌∙◌}
use mathlib.Core.List.{List, [], ◌∷◌, ◌++◌}
use Prim.Native.Nat.{ℕ, suc, ◌+◌, ◌≤◌}
use native.Mathlib.Nat.{add-zero}
use native.Mathlib.Omega.{arith}
use lib.ListN.{length}
use Rattle.meaning.specs.Record.{Loop, Record, work_record, loop_record, end_record, choice_record, next_arm_record, sheet_length, Open}
use Rattle.meaning.specs.Tree.{Block, Arms, empty, work, loop, choice, last_arm, arm, records, arms_records, loops, arms_loops}
use Rattle.nest.specs.Walk.{opens_after, numbers_after, loops_after}
use Rattle.nest.specs.Rows.{Position}

-- ---- a walk over records

module _ {S : Type 0} (step : ℕ → S → Record → S) where
  -- where the walk stands after the records, of which the first has the number n
  unfoldable pub through : ℕ → S → List Record → S
  through n s [] = s
  through n s (r ∷ rs) = through (suc n) (step n s r) rs

  pub through-append : (xs ys : List Record) (n : ℕ) (s : S) → through n s (xs ++ ys) ≡ through (n + length xs) (through n s xs) ys
  unfolding through
  through-append [] ys n s = ap (λ (m : ℕ). through m s ys) (sym (add-zero n))
  through-append (x ∷ xs) ys n s =
      let e : suc n + length xs ≡ n + suc (length xs) = omega arith in
      through-append xs ys (suc n) (step n s x) ∙ ap (λ (m : ℕ). through m (through (suc n) (step n s x) xs) ys) e

  -- what a record opens, its end closes; works and next arms leave it
  pub record Balanced : Type 0 where
    pub at_work : (n : ℕ) (s : S) (least most : ℕ) → step n s (work_record least most) ≡ s
    pub at_next_arm : (n : ℕ) (s : S) → step n s next_arm_record ≡ s
    pub at_loop : (n m : ℕ) (s : S) (l : Loop) → step m (step n s (loop_record l)) end_record ≡ s
    pub at_choice : (n m : ℕ) (s : S) → step m (step n s choice_record) end_record ≡ s

  module _ (balanced : Balanced) where
    mutual
      unfolding through records

      -- a tree's records lead back to where the walk stood
      pub through-records : (b : Block) (n : ℕ) (s : S) → through n s (records b) ≡ s
      through-records empty n s = refl
      through-records (work least most rest) n s = through-records rest (suc n) (step n s (work_record least most)) ∙ balanced.at_work n s least most
      through-records (loop l body rest) n s =
          let inside : S = step n s (loop_record l) in
          let m : ℕ = suc n + length (records body) in
          through-append (records body) (end_record ∷ records rest) (suc n) inside
          ∙ ap (λ x. through (suc m) (step m x end_record) (records rest)) (through-records body (suc n) inside)
          ∙ through-records rest (suc m) (step m inside end_record) ∙ balanced.at_loop n m s l
      through-records (choice arms rest) n s =
          let inside : S = step n s choice_record in
          let m : ℕ = suc n + length (arms_records arms) in
          through-append (arms_records arms) (end_record ∷ records rest) (suc n) inside
          ∙ ap (λ x. through (suc m) (step m x end_record) (records rest)) (through-arms arms (suc n) inside)
          ∙ through-records rest (suc m) (step m inside end_record) ∙ balanced.at_choice n m s

      pub through-arms : (arms : Arms) (n : ℕ) (s : S) → through n s (arms_records arms) ≡ s
      through-arms (last_arm b) n s = through-records b n s
      through-arms (arm b arms) n s =
          let m : ℕ = n + length (records b) in
          through-append (records b) (next_arm_record ∷ arms_records arms) n s
          ∙ ap (λ x. through (suc m) (step m x next_arm_record) (arms_records arms)) (through-records b n s)
          ∙ through-arms arms (suc m) (step m s next_arm_record) ∙ balanced.at_next_arm m s

-- ---- what is open, the numbers, and the count of loops

unfoldable pub opens_through : List Open → List Record → List Open
opens_through os [] = os
opens_through os (r ∷ rs) = opens_through (opens_after os r) rs

-- the numbers of the open records, the first record having the number n
unfoldable pub numbers_through : ℕ → List ℕ → List Record → List ℕ
numbers_through n ns [] = ns
numbers_through n ns (r ∷ rs) = numbers_through (suc n) (numbers_after n ns r) rs

unfoldable pub loops_through : ℕ → List Record → ℕ
loops_through n [] = n
loops_through n (r ∷ rs) = loops_through (loops_after n r) rs

-- the position after the records xs of a sheet
abbrev pub position_after : List Record → Position
position_after xs = record { number = length xs; loops = loops_through 0 xs; offset = sheet_length xs; opens = opens_through [] xs; numbers = numbers_through 0 [] xs }

pub opens-append : (xs ys : List Record) (os : List Open) → opens_through os (xs ++ ys) ≡ opens_through (opens_through os xs) ys
unfolding opens_through
opens-append [] ys os = refl
opens-append (x ∷ xs) ys os = opens-append xs ys (opens_after os x)

pub opens-one-more : (xs : List Record) (x : Record) (os : List Open) → opens_through os (xs ++ (x ∷ [])) ≡ opens_after (opens_through os xs) x
unfolding opens_through
opens-one-more xs x os = opens-append xs (x ∷ []) os

pub loops-append : (xs ys : List Record) (n : ℕ) → loops_through n (xs ++ ys) ≡ loops_through (loops_through n xs) ys
unfolding loops_through
loops-append [] ys n = refl
loops-append (x ∷ xs) ys n = loops-append xs ys (loops_after n x)

pub loops-at-most : (rs : List Record) (n : ℕ) → loops_through n rs ≤ n + length rs
unfolding loops_through loops_after
loops-at-most [] n = omega arith
loops-at-most (work_record least most ∷ rs) n = omega (arith, loops-at-most rs n)
loops-at-most (loop_record l ∷ rs) n = omega (arith, loops-at-most rs (suc n))
loops-at-most (end_record ∷ rs) n = omega (arith, loops-at-most rs n)
loops-at-most (choice_record ∷ rs) n = omega (arith, loops-at-most rs n)
loops-at-most (next_arm_record ∷ rs) n = omega (arith, loops-at-most rs n)

pub loops-grow : (rs : List Record) (n : ℕ) → n ≤ loops_through n rs
unfolding loops_through loops_after
loops-grow [] n = omega arith
loops-grow (work_record least most ∷ rs) n = loops-grow rs n
loops-grow (loop_record l ∷ rs) n = omega (arith, loops-grow rs (suc n))
loops-grow (end_record ∷ rs) n = loops-grow rs n
loops-grow (choice_record ∷ rs) n = loops-grow rs n
loops-grow (next_arm_record ∷ rs) n = loops-grow rs n

-- as many more after as before
pub loops-more : (rs : List Record) (n : ℕ) → loops_through n rs ≡ n + loops_through 0 rs
unfolding loops_through loops_after
loops-more [] n = omega arith
loops-more (work_record least most ∷ rs) n = loops-more rs n
loops-more (loop_record l ∷ rs) n = omega (arith, loops-more rs (suc n), loops-more rs 1)
loops-more (end_record ∷ rs) n = loops-more rs n
loops-more (choice_record ∷ rs) n = loops-more rs n
loops-more (next_arm_record ∷ rs) n = loops-more rs n

pub numbers-append : (xs ys : List Record) (n : ℕ) (ns : List ℕ) → numbers_through n ns (xs ++ ys) ≡ numbers_through (n + length xs) (numbers_through n ns xs) ys
unfolding numbers_through
numbers-append [] ys n ns = ap (λ (m : ℕ). numbers_through m ns ys) (let e : n ≡ n + 0 = omega arith in e)
numbers-append (x ∷ xs) ys n ns =
    numbers-append xs ys (suc n) (numbers_after n ns x)
    ∙ ap (λ (m : ℕ). numbers_through m (numbers_through (suc n) (numbers_after n ns x) xs) ys) (let e : suc n + length xs ≡ n + suc (length xs) = omega arith in e)

pub numbers-one-more : (xs : List Record) (x : Record) (n : ℕ) (ns : List ℕ) →
    numbers_through n ns (xs ++ (x ∷ [])) ≡ numbers_after (n + length xs) (numbers_through n ns xs) x
unfolding numbers_through
numbers-one-more xs x n ns = numbers-append xs (x ∷ []) n ns

opens-balanced : Balanced (λ n. opens_after)
unfolding opens_after
opens-balanced = record { at_work = λ n os least most. refl; at_next_arm = λ n os. refl; at_loop = λ n m os l. refl; at_choice = λ n m os. refl }

numbers-balanced : Balanced numbers_after
unfolding numbers_after
numbers-balanced = record { at_work = λ n ns least most. refl; at_next_arm = λ n ns. refl; at_loop = λ n m ns l. refl; at_choice = λ n m ns. refl }

through-opens : (rs : List Record) (n : ℕ) (os : List Open) → through (λ m. opens_after) n os rs ≡ opens_through os rs
unfolding through opens_through
through-opens [] n os = refl
through-opens (r ∷ rs) n os = through-opens rs (suc n) (opens_after os r)

through-numbers : (rs : List Record) (n : ℕ) (ns : List ℕ) → through numbers_after n ns rs ≡ numbers_through n ns rs
unfolding through numbers_through
through-numbers [] n ns = refl
through-numbers (r ∷ rs) n ns = through-numbers rs (suc n) (numbers_after n ns r)

-- a tree's records leave all this as it was
pub opens-records : (b : Block) (os : List Open) → opens_through os (records b) ≡ os
opens-records b os = sym (through-opens (records b) 0 os) ∙ through-records (λ m. opens_after) opens-balanced b 0 os

pub numbers-records : (b : Block) (n : ℕ) (ns : List ℕ) → numbers_through n ns (records b) ≡ ns
numbers-records b n ns = sym (through-numbers (records b) n ns) ∙ through-records numbers_after numbers-balanced b n ns

-- a tree's records have its loops
mutual
  unfolding loops_through loops_after records loops

  pub loops-records : (b : Block) (n : ℕ) → loops_through n (records b) ≡ n + loops b
  loops-records empty n = omega arith
  loops-records (work least most rest) n = loops-records rest n
  loops-records (loop l body rest) n =
      loops-append (records body) (end_record ∷ records rest) (suc n) ∙ ap (λ (m : ℕ). loops_through m (records rest)) (loops-records body (suc n))
      ∙ loops-records rest (suc n + loops body) ∙ omega arith
  loops-records (choice arms rest) n =
      loops-append (arms_records arms) (end_record ∷ records rest) n ∙ ap (λ (m : ℕ). loops_through m (records rest)) (loops-arms arms n)
      ∙ loops-records rest (n + arms_loops arms) ∙ omega arith

  pub loops-arms : (arms : Arms) (n : ℕ) → loops_through n (arms_records arms) ≡ n + arms_loops arms
  loops-arms (last_arm b) n = loops-records b n
  loops-arms (arm b arms) n =
      loops-append (records b) (next_arm_record ∷ arms_records arms) n ∙ ap (λ (m : ℕ). loops_through m (arms_records arms)) (loops-records b n)
      ∙ loops-arms arms (n + loops b) ∙ omega arith
