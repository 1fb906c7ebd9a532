-- The walk over the rows of a loop's body finds the choices of its tree, in their order, each with its arms: what the code decides from kept arms is
-- what the definition asks.
use mathlib.Core.Path.{◌≡◌, sym, ap, ap₂, subst, ◌∙◌}
use mathlib.Core.Bool.{Bool, ◌&&◌}
use mathlib.Core.List.{List, [], ◌∷◌, ◌++◌, append_assoc}
use Prim.Native.Nat.{ℕ, zero, suc, ◌+◌, ◌%◌, ◌≤◌, ◌<◌, max}
use native.Mathlib.Nat.{mod-eq_of_lt}
use native.Mathlib.Omega.{arith}
use lib.Dec.{eqb}
use lib.ListN.{length, length-append}
use borrow.Author.Tests.{ne_eqb}
use Rattle.meaning.specs.Limits.{record_limit}
use Rattle.meaning.specs.Record.{Loop, Record, work_record, loop_record, end_record, choice_record, next_arm_record, kind}
use Rattle.meaning.specs.Tree.{Block, Arms, empty, work, loop, choice, last_arm, arm, records, arms_records}
use Rattle.meaning.specs.Settled.{arm_count}
use Rattle.layout.specs.Rows.{choice_role, next_arm_role, role_number, role_of_kind, role_of, role_at, end_at}
use Rattle.nest.specs.Walk.{records_inside}
use Rattle.nest.specs.Rows.{end_number}
use Rattle.nest.specs.Known.{RowsHeld}
use Rattle.nest.proofs.RowsOf.{records_inside-records, records_inside-arms}
use Rattle.nest.proofs.RowsRead.{role-reads, end_reads}
use Rattle.state.specs.declared.bounds.Bounds.{Bounds}
use Rattle.ranking.specs.Settled.{settled_choice, settled_choices}
use Rattle.ranking.specs.Body.{next_in_body, arms_at, settled_at}
use Rattle.ranking.proofs.BodySteps.{next-after-loop, next-after-choice, next-after-other}
use Rattle.ranking.proofs.BodySteps.{arms_with, arms-begin, arms-done, arms-one-more, arms-no-more}
use Rattle.ranking.proofs.BodySteps.{settled_from, settled-begin, settled-done, settled-other, settled-at-choice}

module _ (rows : List ℕ) (rs : List Record) (held : RowsHeld rows rs) (few : length rs ≤ record_limit) where
  -- the records from record i on
  record Following (i : ℕ) (ys : List Record) : Type 0 where
    before : List Record
    number : length before ≡ i
    split : rs ≡ before ++ ys

  passed : (i : ℕ) (xs ys : List Record) → Following i (xs ++ ys) → Following (i + length xs) ys
  passed i xs ys h = record {
    before = h.before ++ xs;
    number = length-append h.before xs ∙ ap (λ (n : ℕ). n + length xs) h.number;
    split = h.split ∙ sym (append_assoc h.before xs ys);
  }

  passed-one : (i : ℕ) (r : Record) (ys : List Record) → Following i (r ∷ ys) → Following (suc i) ys
  passed-one i r ys h = let e : i + 1 ≡ suc i = omega arith in subst (λ (n : ℕ). Following n ys) e (passed i (r ∷ []) ys h)

  -- behind the end of a loop or choice
  passed-end : (i : ℕ) (r : Record) (inner ys : List Record) → Following i (r ∷ (inner ++ (end_record ∷ ys))) → Following (suc (suc i + length inner)) ys
  passed-end i r inner ys h =
      passed-one (suc i + length inner) end_record ys (passed (suc i) inner (end_record ∷ ys) (passed-one i r (inner ++ (end_record ∷ ys)) h))

  -- what stands in a loop or choice, and behind its end the rest of a block with what follows that
  apart : (i : ℕ) (r : Record) (inner rest ys : List Record) → Following i ((r ∷ (inner ++ (end_record ∷ rest))) ++ ys) →
      Following i (r ∷ (inner ++ (end_record ∷ (rest ++ ys))))
  apart i r inner rest ys h = subst (λ (xs : List Record). Following i (r ∷ xs)) (append_assoc inner (end_record ∷ rest) ys) h

  -- ---- what the row of a record says

  module _ (i : ℕ) (r : Record) (ys : List Record) (h : Following i (r ∷ ys)) where
    held-here : RowsHeld rows (h.before ++ (r ∷ ys))
    held-here = subst (RowsHeld rows) h.split held

    few-here : length (h.before ++ (r ∷ ys)) ≤ record_limit
    few-here = subst (λ (xs : List Record). length xs ≤ record_limit) h.split few

    role-here : role_at rows i ≡ role_number (role_of r)
    role-here = ap (role_at rows) (sym h.number) ∙ role-reads h.before r ys held-here few-here

    end-here : end_at rows i ≡ end_number i r ys % record_limit
    end-here =
        ap (end_at rows) (sym h.number) ∙ end_reads h.before r ys held-here few-here
        ∙ ap (λ (n : ℕ). end_number n r ys % record_limit) h.number

    sheet-end : i + suc (length ys) ≤ record_limit
    sheet-end = omega (arith, few-here, length-append h.before (r ∷ ys), h.number)

  -- the end of what a record opens, so many records further
  opened-end : (i : ℕ) (r : Record) (inner ys : List Record) → Following i (r ∷ (inner ++ (end_record ∷ ys))) →
      end_number i r (inner ++ (end_record ∷ ys)) ≡ suc i + length inner → end_at rows i ≡ suc i + length inner
  opened-end i r inner ys h e =
      end-here i r (inner ++ (end_record ∷ ys)) h ∙ ap (λ (n : ℕ). n % record_limit) e
      ∙ mod-eq_of_lt (omega (arith, sheet-end i r (inner ++ (end_record ∷ ys)) h, length-append inner (end_record ∷ ys)))

  loop-end : (i : ℕ) (l : Loop) (body : Block) (ys : List Record) → Following i (loop_record l ∷ (records body ++ (end_record ∷ ys))) →
      end_at rows i ≡ suc i + length (records body)
  unfolding end_number records_inside
  loop-end i l body ys h = opened-end i (loop_record l) (records body) ys h (omega (arith, records_inside-records body zero (end_record ∷ ys)))

  choice-end : (i : ℕ) (arms : Arms) (ys : List Record) → Following i (choice_record ∷ (arms_records arms ++ (end_record ∷ ys))) →
      end_at rows i ≡ suc i + length (arms_records arms)
  unfolding end_number records_inside
  choice-end i arms ys h = opened-end i choice_record (arms_records arms) ys h (omega (arith, records_inside-arms arms zero (end_record ∷ ys)))

  -- ---- what follows a record in its body

  record Next (i : ℕ) (r : Record) (next : ℕ) (ys : List Record) : Type 0 where
    role : role_at rows i ≡ role_number (role_of r)
    is : next_in_body rows i ≡ next
    following : Following next ys

  after-work : (i least most : ℕ) (ys : List Record) → Following i (work_record least most ∷ ys) → Next i (work_record least most) (suc i) ys
  unfolding role_number role_of role_of_kind kind
  after-work i least most ys h =
      let role = role-here i (work_record least most) ys h in
      record { role = role; is = next-after-other rows i (λ e. omega arith) (λ e. omega arith); following = passed-one i (work_record least most) ys h }

  after-next-arm : (i : ℕ) (ys : List Record) → Following i (next_arm_record ∷ ys) → Next i next_arm_record (suc i) ys
  unfolding role_number role_of role_of_kind kind
  after-next-arm i ys h =
      let role = role-here i next_arm_record ys h in
      record { role = role; is = next-after-other rows i (λ e. omega arith) (λ e. omega arith); following = passed-one i next_arm_record ys h }

  after-loop : (i : ℕ) (l : Loop) (body : Block) (ys : List Record) → Following i (loop_record l ∷ (records body ++ (end_record ∷ ys))) →
      Next i (loop_record l) (suc (suc i + length (records body))) ys
  unfolding role_number role_of role_of_kind kind
  after-loop i l body ys h =
      let role = role-here i (loop_record l) (records body ++ (end_record ∷ ys)) h in
      let end = loop-end i l body ys h in
      let last : max i (end_at rows i) ≡ suc i + length (records body) = omega arith in
      record { role = role; is = next-after-loop rows i role ∙ ap suc last; following = passed-end i (loop_record l) (records body) ys h }

  after-choice : (i : ℕ) (arms : Arms) (ys : List Record) → Following i (choice_record ∷ (arms_records arms ++ (end_record ∷ ys))) →
      Next i choice_record (suc (suc i + length (arms_records arms))) ys
  unfolding role_number role_of role_of_kind kind
  after-choice i arms ys h =
      let role = role-here i choice_record (arms_records arms ++ (end_record ∷ ys)) h in
      let end = choice-end i arms ys h in
      let last : max i (end_at rows i) ≡ suc i + length (arms_records arms) = omega arith in
      record { role = role; is = next-after-choice rows i (λ e. omega arith) role ∙ ap suc last; following = passed-end i choice_record (arms_records arms) ys h }

  -- ---- the arms of a choice

  module _ (found end : ℕ) where
    arms-pass : {i next : ℕ} {r : Record} {ys : List Record} → Next i r next ys → i < end → (role_number (role_of r) ≡ role_number next_arm_role → ⊥) →
        arms_with rows found end i ≡ arms_with rows found end next
    arms-pass {i} n before other =
        sym (arms-no-more rows found end i before (sym (ne_eqb (role_at rows i) (role_number next_arm_role) (λ e. other (sym n.role ∙ e))))) ∙ ap (arms_with rows found end) n.is

    -- no next arm stands directly in a block
    block-arms : (b : Block) (i : ℕ) (ys : List Record) → Following i (records b ++ ys) → i + length (records b) ≤ end →
        arms_with rows found end i ≡ arms_with rows found end (i + length (records b))
    unfolding records role_number role_of role_of_kind kind
    block-arms empty i ys h within = let e : i ≡ i + 0 = omega arith in ap (arms_with rows found end) e
    block-arms (work least most rest) i ys h within =
        let n = after-work i least most (records rest ++ ys) h in
        let e : suc i + length (records rest) ≡ i + suc (length (records rest)) = omega arith in
        arms-pass n (omega arith) (λ e. omega arith) ∙ block-arms rest (suc i) ys n.following (omega arith) ∙ ap (arms_with rows found end) e
    block-arms (loop l body rest) i ys h within =
        let n = after-loop i l body (records rest ++ ys) (apart i (loop_record l) (records body) (records rest) ys h) in
        let size = length-append (records body) (end_record ∷ records rest) in
        let e : suc (suc i + length (records body)) + length (records rest) ≡ i + suc (length (records body ++ (end_record ∷ records rest))) = omega arith in
        arms-pass n (omega arith) (λ e. omega arith) ∙ block-arms rest (suc (suc i + length (records body))) ys n.following (omega arith)
        ∙ ap (arms_with rows found end) e
    block-arms (choice arms rest) i ys h within =
        let n = after-choice i arms (records rest ++ ys) (apart i choice_record (arms_records arms) (records rest) ys h) in
        let size = length-append (arms_records arms) (end_record ∷ records rest) in
        let e : suc (suc i + length (arms_records arms)) + length (records rest) ≡ i + suc (length (arms_records arms ++ (end_record ∷ records rest))) = omega arith in
        arms-pass n (omega arith) (λ e. omega arith) ∙ block-arms rest (suc (suc i + length (arms_records arms))) ys n.following (omega arith)
        ∙ ap (arms_with rows found end) e

  -- one for each next arm, and the first
  arms_counted : (arms : Arms) (found end i : ℕ) (ys : List Record) → Following i (arms_records arms ++ ys) → i + length (arms_records arms) ≡ end →
      suc (arms_with rows found end i) ≡ found + arm_count arms
  unfolding records arm_count role_number role_of role_of_kind kind
  arms_counted (last_arm b) found end i ys h e =
      let all = block-arms found end b i ys h (omega arith) in
      let done = arms-done rows found end (i + length (records b)) (omega arith) in
      omega arith
  arms_counted (arm b arms) found end i ys h e =
      let others : List Record = arms_records arms ++ ys in
      let split = subst (Following i) (append_assoc (records b) (next_arm_record ∷ arms_records arms) ys) h in
      let size = length-append (records b) (next_arm_record ∷ arms_records arms) in
      let j : ℕ = i + length (records b) in
      let first = block-arms found end b i (next_arm_record ∷ others) split (omega arith) in
      let n = after-next-arm j others (passed i (records b) (next_arm_record ∷ others) split) in
      let more = arms-one-more rows found end j (omega arith) (sym (ap (λ (m : ℕ). eqb m (role_number next_arm_role)) n.role)) in
      let same = ap (arms_with rows (found + 1) end) n.is in
      let counted = arms_counted arms (found + 1) end (suc j) ys n.following (omega arith) in
      omega arith

  arms-of-choice : (i : ℕ) (arms : Arms) (ys : List Record) → Following i (choice_record ∷ (arms_records arms ++ (end_record ∷ ys))) →
      arms_at rows i ≡ arm_count arms
  arms-of-choice i arms ys h =
      let end = choice-end i arms ys h in
      let inner = passed-one i choice_record (arms_records arms ++ (end_record ∷ ys)) h in
      let counted = arms_counted arms 1 (end_at rows i) (suc i) (end_record ∷ ys) inner (omega arith) in
      let all = arms-begin rows i in
      let e : i + 1 ≡ suc i = omega arith in
      let same = ap (arms_with rows 1 (end_at rows i)) e in
      omega arith

  -- ---- the choices of a body

  module _ (kept : List Bounds) (count arms_per_trip : ℕ) where
    settled-pass : {i next : ℕ} {r : Record} {ys : List Record} (first end : ℕ) → Next i r next ys → i < end →
        (role_number (role_of r) ≡ role_number choice_role → ⊥) →
        settled_from rows kept count arms_per_trip first end i ≡ settled_from rows kept count arms_per_trip first end next
    settled-pass {i} first end n before other =
        sym (settled-other rows kept count arms_per_trip first end i before (sym (ne_eqb (role_at rows i) (role_number choice_role) (λ e. other (sym n.role ∙ e)))))
        ∙ ap (settled_from rows kept count arms_per_trip first end) n.is

    block_settled : (b : Block) (first end i : ℕ) (ys : List Record) → Following i (records b ++ ys) → i + length (records b) ≡ end →
        settled_from rows kept count arms_per_trip first end i ≡ settled_choices kept count arms_per_trip first b
    unfolding records settled_choices role_number role_of role_of_kind kind
    block_settled empty first end i ys h e = sym (settled-done rows kept count arms_per_trip first end i (omega arith))
    block_settled (work least most rest) first end i ys h e =
        let n = after-work i least most (records rest ++ ys) h in
        settled-pass first end n (omega arith) (λ e. omega arith) ∙ block_settled rest first end (suc i) ys n.following (omega arith)
    block_settled (loop l body rest) first end i ys h e =
        let n = after-loop i l body (records rest ++ ys) (apart i (loop_record l) (records body) (records rest) ys h) in
        let size = length-append (records body) (end_record ∷ records rest) in
        settled-pass first end n (omega arith) (λ e. omega arith)
        ∙ block_settled rest first end (suc (suc i + length (records body))) ys n.following (omega arith)
    block_settled (choice arms rest) first end i ys h e =
        let inside = apart i choice_record (arms_records arms) (records rest) ys h in
        let n = after-choice i arms (records rest ++ ys) inside in
        let size = length-append (arms_records arms) (end_record ∷ records rest) in
        settled-at-choice rows kept count arms_per_trip first end i (omega arith) (sym (ap (λ (m : ℕ). eqb m (role_number choice_role)) n.role))
        ∙ ap₂ (λ (own next : ℕ). settled_choice kept count arms_per_trip first own && settled_from rows kept count arms_per_trip (first + own) end next)
        (arms-of-choice i arms (records rest ++ ys) inside) n.is
        ∙ ap (λ (others : Bool). settled_choice kept count arms_per_trip first (arm_count arms) && others)
        (block_settled rest (first + arm_count arms) end (suc (suc i + length (arms_records arms))) ys n.following (omega arith))

    -- the loop that is record `opener`
    pub settled-rows : (opener : ℕ) (outer : List Record) (l : Loop) (body : Block) (ys : List Record) → length outer ≡ opener →
        rs ≡ outer ++ (loop_record l ∷ (records body ++ (end_record ∷ ys))) →
        settled_at rows opener kept count arms_per_trip ≡ settled_choices kept count arms_per_trip 0 body
    settled-rows opener outer l body ys number split =
        let h : Following opener (loop_record l ∷ (records body ++ (end_record ∷ ys))) = record { before = outer; number = number; split = split } in
        let end = loop-end opener l body ys h in
        let e : opener + 1 ≡ suc opener = omega arith in
        sym (settled-begin rows kept count arms_per_trip opener) ∙ ap (settled_from rows kept count arms_per_trip 0 (end_at rows opener)) e
        ∙ block_settled body 0 (end_at rows opener) (suc opener) (end_record ∷ ys) (passed-one opener (loop_record l) (records body ++ (end_record ∷ ys)) h) (omega arith)
