-- The open loops after records: as many as the reader counts, the same again after a tree's records.
use mathlib.Core.List.{◌++◌, List, [], ◌∷◌, map}
use mathlib.Core.Path.{ap, ap₂, refl, sym, ◌∙◌, ◌≡◌}
use Prim.Native.Nat.{suc, zero, ℕ}
use native.Mathlib.Omega.{arith}
use lib.ListN.{length, length-append, length-map}
use lib.IntN.{ℤ}
use Rattle.meaning.specs.Tree.{Block, records}
use Rattle.meaning.specs.Record.{Loop, Open, Record, choice_record, end_record, loop_depth, loop_record, next_arm_record, open_choice, open_loop, work_record}
use Rattle.meaning.specs.Range.{index_range, inner_ranges}
use Rattle.meaning.specs.Closed.{push, push_inner, push_own}
use Rattle.meaning.specs.Form.{value}
use Rattle.nest.specs.Walk.{opens_after}
use Rattle.nest.proofs.Walks.{Balanced, opens_through, through, through-records}
use Rattle.loops.specs.Enclosing.{Enclosing, enclosing_after, enclosing_through, enter, leave, nothing_open, without_last}

-- ---- a loop is entered and left

-- the element put last is taken away again
without_last-append-one : {A : Type 0} (xs : List A) (x : A) → without_last (xs ++ (x ∷ [])) ≡ xs
unfolding without_last
without_last-append-one [] x = refl
without_last-append-one (y ∷ []) x = refl
without_last-append-one (y ∷ z ∷ rest) x = ap (λ zs. y ∷ zs) (without_last-append-one (z ∷ rest) x)

-- another loop's pushes, without the one on the index of the loop that is left
without-inner : (l : Loop) (pushes : List (List ℤ)) → map without_last (map (push_inner l) pushes) ≡ pushes
unfolding push_inner
without-inner l [] = refl
without-inner l (p ∷ pushes) = ap₂ {C = List (List ℤ)} ◌∷◌ (without_last-append-one p (push l.lower p)) (without-inner l pushes)

module _ (ps : List ℤ) where
  -- a loop that is entered and left leaves the open loops as they were
  pub leave-enter : (l : Loop) (e : Enclosing) → leave (enter ps l e) ≡ e
  unfolding leave enter inner_ranges
  leave-enter l e = λ t. record {
    ranges = without_last-append-one e.ranges (index_range ps l e.ranges) t;
    starts = without_last-append-one e.starts (value ps l.lower e.starts) t;
    pushes = (ap (map without_last) (without_last-append-one (map (push_inner l) e.pushes) (push_own l (length e.ranges))) ∙ without-inner l e.pushes) t;
  }

-- ---- the walk

pub enclosing-append : (ps : List ℤ) (xs ys : List Record) (os : List Open) (e : Enclosing) →
    enclosing_through ps os e (xs ++ ys) ≡ enclosing_through ps (opens_through os xs) (enclosing_through ps os e xs) ys
unfolding enclosing_through opens_through
enclosing-append ps [] ys os e = refl
enclosing-append ps (x ∷ xs) ys os e = enclosing-append ps xs ys (opens_after os x) (enclosing_after ps os e x)

pub enclosing-one-more : (ps : List ℤ) (xs : List Record) (x : Record) (os : List Open) (e : Enclosing) →
    enclosing_through ps os e (xs ++ (x ∷ [])) ≡ enclosing_after ps (opens_through os xs) (enclosing_through ps os e xs) x
unfolding enclosing_through
enclosing-one-more ps xs x os e = enclosing-append ps xs (x ∷ []) os e

-- what is open and the open loops, together
record Standing : Type 0 where
  opens : List Open
  loops : Enclosing

abbrev standing : List Open → Enclosing → Standing
standing os e = record { opens = os; loops = e }

standing_after : List ℤ → ℕ → Standing → Record → Standing
standing_after ps number s r = standing (opens_after s.opens r) (enclosing_after ps s.opens s.loops r)

standing-balanced : (ps : List ℤ) → Balanced (standing_after ps)
unfolding standing_after opens_after enclosing_after
standing-balanced ps = record {
  at_work = λ number s least most. refl;
  at_next_arm = λ number s. refl;
  at_loop = λ number n s l. ap (standing s.opens) (leave-enter ps l s.loops);
  at_choice = λ number n s. refl;
}

through-standing : (ps : List ℤ) (rs : List Record) (number : ℕ) (os : List Open) (e : Enclosing) →
    through (standing_after ps) number (standing os e) rs ≡ standing (opens_through os rs) (enclosing_through ps os e rs)
unfolding through standing_after opens_through enclosing_through
through-standing ps [] number os e = refl
through-standing ps (r ∷ rs) number os e = through-standing ps rs (suc number) (opens_after os r) (enclosing_after ps os e r)

-- a tree's records leave the open loops as they were
pub enclosing-records : (ps : List ℤ) (b : Block) (os : List Open) (e : Enclosing) → enclosing_through ps os e (records b) ≡ e
enclosing-records ps b os e = ap (λ (s : Standing). s.loops) (sym (through-standing ps (records b) 0 os e) ∙ through-records (standing_after ps) (standing-balanced ps) b 0 (standing os e))

-- ---- the open loops are those that the reader counts

-- the open loops are those of os
pub record OpenLoops (os : List Open) (e : Enclosing) : Type 0 where
  pub range_count : length e.ranges ≡ loop_depth os
  pub start_count : length e.starts ≡ loop_depth os
  pub push_count : length e.pushes ≡ loop_depth os

pub nothing-open : OpenLoops [] nothing_open
unfolding loop_depth
nothing-open = record { range_count = refl; start_count = refl; push_count = refl }

-- a choice opens no loop
pub open-loops-choice : (os : List Open) (e : Enclosing) → OpenLoops os e → OpenLoops (open_choice ∷ os) e
unfolding loop_depth
open-loops-choice os e h = record { range_count = h.range_count; start_count = h.start_count; push_count = h.push_count }

module _ (ps : List ℤ) where
  pub open-loops-enter : (l : Loop) (os : List Open) (e : Enclosing) → OpenLoops os e → OpenLoops (open_loop ∷ os) (enter ps l e)
  unfolding enter inner_ranges loop_depth
  open-loops-enter l os e h = record {
    range_count = let k = length-append e.ranges (index_range ps l e.ranges ∷ []) in let i = h.range_count in omega arith;
    start_count = let k = length-append e.starts (value ps l.lower e.starts ∷ []) in let i = h.start_count in omega arith;
    push_count =
        let k = length-append (map (push_inner l) e.pushes) (push_own l (length e.ranges) ∷ []) in
        let m = length-map e.pushes (push_inner l) in
        let i = h.push_count in
        omega arith;
  }

without_last-length : {A : Type 0} (xs : List A) (n : ℕ) → length xs ≡ suc n → length (without_last xs) ≡ n
unfolding without_last
without_last-length [] n e = absurd (omega arith)
without_last-length (x ∷ []) n e = omega arith
without_last-length (x ∷ y ∷ rest) zero e = absurd (omega arith)
without_last-length (x ∷ y ∷ rest) (suc n) e = ap suc (without_last-length (y ∷ rest) n (omega arith))

open-loops-leave : (os : List Open) (e : Enclosing) → OpenLoops (open_loop ∷ os) e → OpenLoops os (leave e)
unfolding leave loop_depth
open-loops-leave os e h = record {
  range_count = without_last-length e.ranges (loop_depth os) h.range_count;
  start_count = without_last-length e.starts (loop_depth os) h.start_count;
  push_count = length-map (without_last e.pushes) without_last ∙ without_last-length e.pushes (loop_depth os) h.push_count;
}

open-loops-unchoice : (os : List Open) (e : Enclosing) → OpenLoops (open_choice ∷ os) e → OpenLoops os e
unfolding loop_depth
open-loops-unchoice os e h = record { range_count = h.range_count; start_count = h.start_count; push_count = h.push_count }

pub open-loops-after : (ps : List ℤ) (os : List Open) (e : Enclosing) (r : Record) → OpenLoops os e → OpenLoops (opens_after os r) (enclosing_after ps os e r)
unfolding opens_after enclosing_after
open-loops-after ps os e (work_record least most) h = h
open-loops-after ps os e (loop_record l) h = open-loops-enter ps l os e h
open-loops-after ps [] e end_record h = h
open-loops-after ps (open_loop ∷ os) e end_record h = open-loops-leave os e h
open-loops-after ps (open_choice ∷ os) e end_record h = open-loops-unchoice os e h
open-loops-after ps os e choice_record h = open-loops-choice os e h
open-loops-after ps os e next_arm_record h = h

pub open-loops-through : (ps : List ℤ) (rs : List Record) (os : List Open) (e : Enclosing) → OpenLoops os e → OpenLoops (opens_through os rs) (enclosing_through ps os e rs)
unfolding opens_through enclosing_through
open-loops-through ps [] os e h = h
open-loops-through ps (r ∷ rs) os e h = open-loops-through ps rs (opens_after os r) (enclosing_after ps os e r) (open-loops-after ps os e r h)
