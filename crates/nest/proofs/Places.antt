-- Records in place, as the reader accepts them: what is open before each of them, where a loop's body ends, and how many loops there can be.
use mathlib.Core.Path.{◌≡◌, refl, sym, ap, subst}
use mathlib.Core.List.{List, [], ◌∷◌, ◌++◌}
use mathlib.Core.Bool.{◌&&◌}
use mathlib.Core.Option.{some}
use Prim.Native.Nat.{ℕ, zero, suc, ◌+◌, ◌*◌, ◌≤◌, ◌<◌}
use native.Mathlib.Omega.{arith}
use lib.Dec.{ltb, ltb→lt}
use lib.ListN.{length, drop}
use Rattle.meaning.specs.Limits.{depth_limit, open_limit}
use Rattle.meaning.specs.Record.{Loop, Record, work_record, loop_record, end_record, choice_record, next_arm_record, Open, open_loop, open_choice, loop_depth, open_after}
use Rattle.meaning.specs.Tree.{Block, Segments, final, before_end, before_next_arm, segments, records, height}
use Rattle.meaning.specs.Stage.{after_end}
use Rattle.meaning.proofs.Logic.{T_and, none-is-not-some, test-passed}
use Rattle.meaning.proofs.Accepted.{InPlace, SegmentsSound, segments_records, segments-sound}
use Rattle.nest.specs.Walk.{opens_after, loops_after, records_inside}
use Rattle.nest.proofs.Walks.{opens_through, loops_through}

-- what is open after a record in its place
pub opens-in-place : (os after : List Open) (r : Record) → open_after os r ≡ some after → opens_after os r ≡ after
unfolding open_after opens_after
opens-in-place os after (work_record least most) e = cc
opens-in-place os after (loop_record l) e = (test-passed (ltb (loop_depth os) depth_limit && ltb (length os) open_limit) (open_loop ∷ os) after e).1
opens-in-place [] after end_record e = none-is-not-some e
opens-in-place (o ∷ os) after end_record e = cc
opens-in-place os after choice_record e = (test-passed (ltb (length os) open_limit) (open_choice ∷ os) after e).1
opens-in-place [] after next_arm_record e = none-is-not-some e
opens-in-place (open_loop ∷ os) after next_arm_record e = none-is-not-some e
opens-in-place (open_choice ∷ os) after next_arm_record e = cc

-- what follows a record in its place
pub in-place-next : (r : Record) (rs : List Record) (os : List Open) → InPlace os (r ∷ rs) → InPlace (opens_after os r) rs
unfolding InPlace
in-place-next r rs os h = subst (λ us. InPlace us rs) (sym (opens-in-place os h.0 r h.1)) h.3

-- what follows records in place is in place where they leave open what the walk says
pub in-place-through : (xs ys : List Record) (os : List Open) → InPlace os (xs ++ ys) → InPlace (opens_through os xs) ys
unfolding InPlace opens_through
in-place-through [] ys os h = h
in-place-through (x ∷ xs) ys os h = in-place-through xs ys (opens_after os x) (in-place-next x (xs ++ ys) os h)

-- a loop in its place: fewer loops than depth_limit and fewer records than open_limit are open before it
pub loop-in-place : (l : Loop) (rs : List Record) (os : List Open) → InPlace os (loop_record l ∷ rs) → (loop_depth os < depth_limit) × (length os < open_limit)
unfolding InPlace open_after
loop-in-place l rs os h =
    let passed = (test-passed (ltb (loop_depth os) depth_limit && ltb (length os) open_limit) (open_loop ∷ os) h.0 h.1).0 in
    let tests = T_and (ltb (loop_depth os) depth_limit) (ltb (length os) open_limit) passed in
    (ltb→lt (loop_depth os) depth_limit tests.0, ltb→lt (length os) open_limit tests.1)

pub choice-in-place : (rs : List Record) (os : List Open) → InPlace os (choice_record ∷ rs) → length os < open_limit
unfolding InPlace open_after
choice-in-place rs os h = ltb→lt (length os) open_limit (test-passed (ltb (length os) open_limit) (open_choice ∷ os) h.0 h.1).0

-- the body of a loop with d loops around it, among the records after the loop's own
pub record LoopBody (d : ℕ) (rs : List Record) : Type 0 where
  pub body : Block
  pub following : List Record
  pub split : rs ≡ records body ++ (end_record ∷ following)
  pub shallow : height body + suc d ≤ depth_limit

pub loop-body : (l : Loop) (rs : List Record) (os : List Open) → InPlace os (loop_record l ∷ rs) → LoopBody (loop_depth os) rs
unfolding InPlace opens_after loop_depth
loop-body l rs os h =
    let sound = segments-sound (open_loop ∷ os) rs (loop-in-place l rs os h).0 (in-place-next (loop_record l) rs os h) in
    found (segments rs) sound.0 sound.1
  where
    found : (s : Segments) → SegmentsSound (open_loop ∷ os) s → segments_records s ≡ rs → LoopBody (loop_depth os) rs
    found (final b) g e = unfold SegmentsSound in absurd g
    found (before_end b s) g e = unfold SegmentsSound segments_records loop_depth in record { body = b; following = segments_records s; split = sym e; shallow = g.1 }
    found (before_next_arm b s) g e = unfold SegmentsSound in absurd g

-- no more records are open than the limit allows
pub opens-few : (xs ys : List Record) (os : List Open) → InPlace os (xs ++ ys) → length os ≤ open_limit → length (opens_through os xs) ≤ open_limit
unfolding opens_through
opens-few [] ys os h few = few
opens-few (x ∷ xs) ys os h few = opens-few xs ys (opens_after os x) (in-place-next x (xs ++ ys) os h) (one x (xs ++ ys) os h few)
  where
    one : (r : Record) (rs : List Record) (os : List Open) → InPlace os (r ∷ rs) → length os ≤ open_limit → length (opens_after os r) ≤ open_limit
    one (work_record least most) rs os h few = unfold opens_after in few
    one (loop_record l) rs os h few = unfold opens_after in (loop-in-place l rs os h).1
    one end_record rs [] h few = unfold opens_after in few
    one end_record rs (o ∷ os) h few = unfold opens_after in omega arith
    one choice_record rs os h few = unfold opens_after in choice-in-place rs os h
    one next_arm_record rs os h few = unfold opens_after in few

-- each loop has an end
pub loops-few : (rs : List Record) (os : List Open) (n : ℕ) → InPlace os rs → 2 * loops_through n rs + length os ≤ 2 * n + length rs
unfolding InPlace loops_through loops_after opens_after open_after
loops-few [] os n h = omega (arith, ap length h)
loops-few (work_record least most ∷ rs) os n h = omega (arith, loops-few rs os n (in-place-next (work_record least most) rs os h))
loops-few (loop_record l ∷ rs) os n h = omega (arith, loops-few rs (open_loop ∷ os) (suc n) (in-place-next (loop_record l) rs os h))
loops-few (end_record ∷ rs) [] n h = absurd (none-is-not-some h.1)
loops-few (end_record ∷ rs) (o ∷ os) n h = omega (arith, loops-few rs os n (in-place-next end_record rs (o ∷ os) h))
loops-few (choice_record ∷ rs) os n h = omega (arith, loops-few rs (open_choice ∷ os) n (in-place-next choice_record rs os h))
loops-few (next_arm_record ∷ rs) os n h = omega (arith, loops-few rs os n (in-place-next next_arm_record rs os h))

-- what is open ends: the record found is an end, before what the definition goes on with
pub end-in-place : (rs : List Record) (os : List Open) (inside : ℕ) → InPlace os rs → inside < length os →
    drop (records_inside inside rs) rs ≡ end_record ∷ after_end inside rs
unfolding InPlace records_inside after_end opens_after
end-in-place [] os inside h below = absurd (omega (arith, ap length h))
end-in-place (work_record least most ∷ rs) os inside h below = end-in-place rs os inside (in-place-next (work_record least most) rs os h) below
end-in-place (loop_record l ∷ rs) os inside h below = end-in-place rs (open_loop ∷ os) (suc inside) (in-place-next (loop_record l) rs os h) (omega arith)
end-in-place (end_record ∷ rs) os zero h below = refl
end-in-place (end_record ∷ rs) [] (suc inside) h below = absurd (omega arith)
end-in-place (end_record ∷ rs) (o ∷ os) (suc inside) h below = end-in-place rs os inside (in-place-next end_record rs (o ∷ os) h) (omega arith)
end-in-place (choice_record ∷ rs) os inside h below = end-in-place rs (open_choice ∷ os) (suc inside) (in-place-next choice_record rs os h) (omega arith)
end-in-place (next_arm_record ∷ rs) os inside h below = end-in-place rs os inside (in-place-next next_arm_record rs os h) below
