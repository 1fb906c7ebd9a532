-- The numbers of the open records are those of records before.
use mathlib.Core.Path.{◌≡◌, subst}
use mathlib.Core.List.{List, [], ◌∷◌}
use Prim.Native.Nat.{ℕ, suc, ◌+◌, ◌≤◌, ◌<◌}
use native.Mathlib.Omega.{arith}
use lib.ListN.{length}
use Rattle.meaning.specs.Record.{Record, work_record, loop_record, end_record, choice_record, next_arm_record}
use Rattle.nest.specs.Rows.{innermost}
use Rattle.nest.specs.Walk.{numbers_after}
use Rattle.nest.proofs.Walks.{numbers_through}

unfoldable pub Below : ℕ → List ℕ → Type 0
Below n [] = Unit {0}
Below n (m ∷ ms) = (m < n) × Below n ms

below_more : (n : ℕ) (ms : List ℕ) → Below n ms → Below (suc n) ms
unfolding Below
below_more n [] h = tt
below_more n (m ∷ ms) h = (omega (arith, h.0), below_more n ms h.1)

below-after : (n : ℕ) (ms : List ℕ) (r : Record) → Below n ms → Below (suc n) (numbers_after n ms r)
unfolding Below numbers_after
below-after n ms (work_record least most) h = below_more n ms h
below-after n ms (loop_record l) h = (omega arith, below_more n ms h)
below-after n [] end_record h = tt
below-after n (m ∷ ms) end_record h = below_more n ms h.1
below-after n ms choice_record h = (omega arith, below_more n ms h)
below-after n ms next_arm_record h = below_more n ms h

pub below-through : (xs : List Record) (n : ℕ) (ms : List ℕ) → Below n ms → Below (n + length xs) (numbers_through n ms xs)
unfolding numbers_through
below-through [] n ms h = subst (λ (m : ℕ). Below m ms) (let e : n ≡ n + 0 = omega arith in e) h
below-through (x ∷ xs) n ms h =
    subst (λ (m : ℕ). Below m (numbers_through (suc n) (numbers_after n ms x) xs)) (let e : suc n + length xs ≡ n + suc (length xs) = omega arith in e)
    (below-through xs (suc n) (numbers_after n ms x) (below-after n ms x h))

pub below-first : (m : ℕ) (ms : List ℕ) (i n : ℕ) → Below i (m ∷ ms) → i ≤ n → m < n
unfolding Below
below-first m ms i n h e = omega (arith, h.0)

pub below_rest : (m : ℕ) (ms : List ℕ) (i : ℕ) → Below i (m ∷ ms) → Below i ms
unfolding Below
below_rest m ms i h = h.1

pub innermost-below : (i : ℕ) (ms : List ℕ) → Below i ms → innermost ms ≤ i
unfolding Below innermost
innermost-below i [] h = omega arith
innermost-below i (m ∷ ms) h = h.0
