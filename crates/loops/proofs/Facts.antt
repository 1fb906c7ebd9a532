-- The facts of records: those of a tree do not depend on what follows it, nor those of what follows on the tree.
use mathlib.Core.List.{◌++◌, List, [], append_assoc, ◌∷◌}
use mathlib.Core.Option.{Option, none}
use mathlib.Core.Path.{ap, refl, subst, sym, ◌∙◌, ◌≡◌}
use Prim.Native.Nat.{suc, ◌+◌, zero, ℕ}
use native.Mathlib.Omega.{arith}
use lib.ListN.{drop, length, take}
use lib.IntN.{ℤ}
use Rattle.meaning.specs.Tree.{Arms, Block, arm, arms_records, choice, empty, last_arm, loop, records, work}
use Rattle.meaning.specs.Record.{Loop, Open, Record, choice_record, end_record, loop_record, next_arm_record, open_choice, open_loop, work_record}
use Rattle.nest.specs.Walk.{opens_after, loops_after}
use Rattle.nest.proofs.Walks.{opens_through, loops_through}
use Rattle.loops.specs.Enclosing.{Enclosing, enclosing_after, enclosing_through, enter}
use Rattle.loops.specs.Facts.{LoopFacts, facts_at, facts_from, loops_in}
use Rattle.loops.proofs.Enclosings.{leave-enter}

module _ (ps : List ℤ) where
  pub facts-length : (os : List Open) (e : Enclosing) (rs : List Record) → length (facts_from ps os e rs) ≡ length rs
  unfolding facts_from
  facts-length os e [] = refl
  facts-length os e (r ∷ rs) = ap suc (facts-length (opens_after os r) (enclosing_after ps os e r) rs)

  -- where os and e are open before the records xs, us and f are open after them: their facts end where those of what follows begin
  Leads : List Open → Enclosing → List Record → List Open → Enclosing → Type 0
  Leads os e xs us f = (q : List Record) → facts_from ps os e (xs ++ q) ≡ facts_from ps os e xs ++ facts_from ps us f q

  leads-first : (os : List Open) (e : Enclosing) (r : Record) (xs : List Record) (us : List Open) (f : Enclosing) →
      Leads (opens_after os r) (enclosing_after ps os e r) xs us f → Leads os e (r ∷ xs) us f
  unfolding Leads facts_from
  leads-first os e r xs us f h q = ap {B = List (Option LoopFacts)} (λ fs. facts_at ps os e r ∷ fs) (h q)

  leads-join : (os : List Open) (e : Enclosing) (xs : List Record) (us : List Open) (f : Enclosing) (ys : List Record) (vs : List Open) (g : Enclosing) →
      Leads os e xs us f → Leads us f ys vs g → Leads os e (xs ++ ys) vs g
  unfolding Leads
  leads-join os e xs us f ys vs g h i q =
      ap (facts_from ps os e) (append_assoc xs ys q) ∙ h (ys ++ q)
      ∙ ap (λ (fs : List (Option LoopFacts)). facts_from ps os e xs ++ fs) (i q)
      ∙ sym (append_assoc (facts_from ps os e xs) (facts_from ps us f ys) (facts_from ps vs g q))
      ∙ ap (λ (fs : List (Option LoopFacts)). fs ++ facts_from ps vs g q) (sym (h ys))

  -- A tree's records lead back to what was open before them.
  mutual
    unfolding Leads facts_from opens_after enclosing_after records

    leads-records : (b : Block) (os : List Open) (e : Enclosing) → Leads os e (records b) os e
    leads-records empty os e = λ q. refl
    leads-records (work least most rest) os e = leads-first os e (work_record least most) (records rest) os e (leads-records rest os e)
    leads-records (loop l body rest) os e =
        let inside : Enclosing = enter ps l e in
        let after = subst (λ (x : Enclosing). Leads os x (records rest) os e) (sym (leave-enter ps l e)) (leads-records rest os e) in
        leads-first os e (loop_record l) (records body ++ (end_record ∷ records rest)) os e
        (leads-join (open_loop ∷ os) inside (records body) (open_loop ∷ os) inside (end_record ∷ records rest) os e
        (leads-records body (open_loop ∷ os) inside) (leads-first (open_loop ∷ os) inside end_record (records rest) os e after))
    leads-records (choice arms rest) os e =
        leads-first os e choice_record (arms_records arms ++ (end_record ∷ records rest)) os e
        (leads-join (open_choice ∷ os) e (arms_records arms) (open_choice ∷ os) e (end_record ∷ records rest) os e
        (leads-arms arms os e) (leads-first (open_choice ∷ os) e end_record (records rest) os e (leads-records rest os e)))

    leads-arms : (arms : Arms) (os : List Open) (e : Enclosing) → Leads (open_choice ∷ os) e (arms_records arms) (open_choice ∷ os) e
    leads-arms (last_arm b) os e = leads-records b (open_choice ∷ os) e
    leads-arms (arm b arms) os e =
        leads-join (open_choice ∷ os) e (records b) (open_choice ∷ os) e (next_arm_record ∷ arms_records arms) (open_choice ∷ os) e
        (leads-records b (open_choice ∷ os) e) (leads-first (open_choice ∷ os) e next_arm_record (arms_records arms) (open_choice ∷ os) e (leads-arms arms os e))

  -- The facts of a tree's records do not depend on what follows, nor those of what follows on the tree.
  pub facts-records : (b : Block) (os : List Open) (e : Enclosing) (q : List Record) →
      facts_from ps os e (records b ++ q) ≡ facts_from ps os e (records b) ++ facts_from ps os e q
  unfolding Leads
  facts-records b os e q = leads-records b os e q

  pub facts-arms : (arms : Arms) (os : List Open) (e : Enclosing) (q : List Record) →
      facts_from ps (open_choice ∷ os) e (arms_records arms ++ q) ≡ facts_from ps (open_choice ∷ os) e (arms_records arms) ++ facts_from ps (open_choice ∷ os) e q
  unfolding Leads
  facts-arms arms os e q = leads-arms arms os e q

  -- those of a loop's body, and of what follows its end
  pub facts-loop : (l : Loop) (body : Block) (os : List Open) (e : Enclosing) (q : List Record) →
      facts_from ps (open_loop ∷ os) (enter ps l e) (records body ++ (end_record ∷ q))
      ≡ facts_from ps (open_loop ∷ os) (enter ps l e) (records body) ++ (none ∷ facts_from ps os e q)
  unfolding facts_from facts_at opens_after enclosing_after
  facts-loop l body os e q =
      facts-records body (open_loop ∷ os) (enter ps l e) (end_record ∷ q)
      ∙ ap (λ (x : Enclosing). facts_from ps (open_loop ∷ os) (enter ps l e) (records body) ++ (none ∷ facts_from ps os x q)) (leave-enter ps l e)

  -- those of a choice's arms, and of what follows its end
  pub facts-choice : (arms : Arms) (os : List Open) (e : Enclosing) (q : List Record) →
      facts_from ps (open_choice ∷ os) e (arms_records arms ++ (end_record ∷ q)) ≡ facts_from ps (open_choice ∷ os) e (arms_records arms) ++ (none ∷ facts_from ps os e q)
  unfolding facts_from facts_at opens_after enclosing_after
  facts-choice arms os e q = facts-arms arms os e (end_record ∷ q)

  pub facts-after : (xs ys : List Record) (os : List Open) (e : Enclosing) →
      drop (length xs) (facts_from ps os e (xs ++ ys)) ≡ facts_from ps (opens_through os xs) (enclosing_through ps os e xs) ys
  unfolding facts_from opens_through enclosing_through
  facts-after [] ys os e = refl
  facts-after (x ∷ xs) ys os e = facts-after xs ys (opens_after os x) (enclosing_after ps os e x)

  -- those of the first records
  pub facts-take : (n : ℕ) (rs : List Record) (os : List Open) (e : Enclosing) → take n (facts_from ps os e rs) ≡ facts_from ps os e (take n rs)
  unfolding facts_from
  facts-take zero rs os e = refl
  facts-take (suc n) [] os e = refl
  facts-take (suc n) (r ∷ rs) os e =
      ap {B = List (Option LoopFacts)} (λ fs. facts_at ps os e r ∷ fs) (facts-take n rs (opens_after os r) (enclosing_after ps os e r))

  -- as many loops have facts as are counted
  loops-on : (rs : List Record) (os : List Open) (e : Enclosing) (n : ℕ) → n + length (loops_in (facts_from ps os e rs)) ≡ loops_through n rs
  unfolding facts_from facts_at loops_in loops_through loops_after
  loops-on [] os e n = omega arith
  loops-on (work_record least most ∷ rs) os e n = loops-on rs (opens_after os (work_record least most)) (enclosing_after ps os e (work_record least most)) n
  loops-on (loop_record l ∷ rs) os e n = omega (arith, loops-on rs (opens_after os (loop_record l)) (enclosing_after ps os e (loop_record l)) (suc n))
  loops-on (end_record ∷ rs) os e n = loops-on rs (opens_after os end_record) (enclosing_after ps os e end_record) n
  loops-on (choice_record ∷ rs) os e n = loops-on rs (opens_after os choice_record) (enclosing_after ps os e choice_record) n
  loops-on (next_arm_record ∷ rs) os e n = loops-on rs (opens_after os next_arm_record) (enclosing_after ps os e next_arm_record) n

  pub loops-counted : (rs : List Record) (os : List Open) (e : Enclosing) → length (loops_in (facts_from ps os e rs)) ≡ loops_through 0 rs
  loops-counted rs os e = omega (arith, loops-on rs os e 0)
