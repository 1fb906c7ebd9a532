-- The tests that are read off a plan's numbers, record by record, are document 02's tests of the sheet's choices and loops.
use mathlib.Core.Bool.{not}
use mathlib.Core.List.{List, [], ◌∷◌, ◌++◌, append_assoc, append-nil, map}
use mathlib.Core.Path.{ap, ap₂, refl, subst, sym, ◌∙◌, ◌≡◌}
use Prim.Native.Nat.{◌+◌, suc, zero, ℕ, ◌≤◌}
use native.Mathlib.Nat.{zero-add}
use native.Mathlib.Numerals.{add-one}
use native.Mathlib.Omega.{arith}
use lib.Dec.{eqb}
use lib.IntN.{ℤ}
use lib.ListN.{drop, length, length-append, length-map, take}
use lib.Seq.{drop-append-le, take-append_seam}
use Rattle.meaning.specs.Tree.{Arms, Block, arm, arms_loops, arms_records, choice, empty, last_arm, loop, records, work}
use Rattle.meaning.specs.Record.{Loop, Record, choice_record, end_record, loop_depth, loop_record, next_arm_record, record_length, sheet_length, work_record}
use Rattle.meaning.specs.Range.{Range, inner_ranges}
use Rattle.meaning.specs.Closed.{push_inner, push_own}
use Rattle.meaning.specs.Reason.{Around, Test, arms_choice_tests, arms_loop_tests, around_with, choice_tests, holds_loop, loop_tests, own_tests}
use Rattle.sheet.proofs.SheetRecords.{sheet_length-append, length-one-more}
use Rattle.nest.specs.Walk.{opens_after, records_inside}
use Rattle.nest.proofs.RowsOf.{records_inside-arms}
use Rattle.nest.proofs.Walks.{loops_through, loops-arms, opens_through, opens-one-more}
use Rattle.meaning.specs.Limits.{record_limit}
use Rattle.layout.specs.Rows.{offset_at}
use Rattle.nest.specs.Known.{RowsHeld}
use Rattle.nest.proofs.RowsRead.{offset-reads}
use Rattle.loops.specs.Enclosing.{Enclosing, enclosing_after, enter, loops_around, nothing_open}
use Rattle.loops.proofs.Enclosings.{enclosing-append, enclosing-one-more, enclosing-records, nothing-open, open-loops-through}
use Rattle.planner.specs.Reasons.{tests_from}
use Rattle.planner.proofs.LoopsAround.{loop_numbers_after, loop-numbers-choice, loop-numbers-count, loop-numbers-loop, loop-numbers-next-arm, loop-numbers-records}

-- ---- tests record by record

-- of the records ys, which stand after xs and before q
unfoldable pub tests : (List Record → Record → List Record → List Test) → (xs ys q : List Record) → List Test
tests each xs [] q = []
tests each xs (r ∷ ys) q = each xs r (ys ++ q) ++ tests each (xs ++ (r ∷ [])) ys q

module _ (each : List Record → Record → List Record → List Test) where
  tests-append : (xs ys zs q : List Record) → tests each xs (ys ++ zs) q ≡ tests each xs ys (zs ++ q) ++ tests each (xs ++ ys) zs q
  unfolding tests
  tests-append xs [] zs q = ap (λ (x : List Record). tests each x zs q) (sym (append-nil xs))
  tests-append xs (y ∷ ys) zs q =
      (λ t. each xs y (append_assoc ys zs q t) ++ tests-append (xs ++ (y ∷ [])) ys zs q t)
      ∙ sym (append_assoc (each xs y (ys ++ (zs ++ q))) (tests each (xs ++ (y ∷ [])) ys (zs ++ q)) (tests each ((xs ++ (y ∷ [])) ++ ys) zs q))
      ∙ ap (λ (x : List Record). (each xs y (ys ++ (zs ++ q)) ++ tests each (xs ++ (y ∷ [])) ys (zs ++ q)) ++ tests each x zs q) (append_assoc xs (y ∷ []) ys)

  -- of records on both sides of one that has none
  tests-around : (r : Record) → ((xs ys : List Record) → each xs r ys ≡ []) → (xs ys zs q : List Record) →
      tests each xs (ys ++ (r ∷ zs)) q ≡ tests each xs ys (r ∷ (zs ++ q)) ++ tests each ((xs ++ ys) ++ (r ∷ [])) zs q
  unfolding tests
  tests-around r none xs ys zs q =
      tests-append xs ys (r ∷ zs) q
      ∙ ap (λ (ts : List Test). tests each xs ys (r ∷ (zs ++ q)) ++ (ts ++ tests each ((xs ++ ys) ++ (r ∷ [])) zs q)) (none (xs ++ ys) (zs ++ q))

  -- by number, where each number has the tests of its record
  pub tests-numbered : (rs : List Record) (numbered : ℕ → List Test) →
      ((xs : List Record) (r : Record) (ys : List Record) → rs ≡ xs ++ (r ∷ ys) → numbered (length xs) ≡ each xs r ys) →
      (xs ys q : List Record) → rs ≡ xs ++ (ys ++ q) → tests_from numbered (length xs) (length ys) ≡ tests each xs ys q
  unfolding tests tests_from
  tests-numbered rs numbered same xs [] q split = refl
  tests-numbered rs numbered same xs (y ∷ ys) q split =
      let one : suc (length xs) ≡ length (xs ++ (y ∷ [])) = sym (length-append xs (y ∷ []) ∙ add-one (length xs)) in
      let later = tests-numbered rs numbered same (xs ++ (y ∷ [])) ys q (split ∙ sym (append_assoc xs (y ∷ []) (ys ++ q))) in
      (λ t. same xs y (ys ++ q) split t ++ tests_from numbered (one t) (length ys)) ∙ ap (λ (x : List Test). each xs y (ys ++ q) ++ x) later

-- ---- choices

-- how many loops stand before the end of what is open before the records
unfoldable pub loops_inside : List Record → ℕ
loops_inside ys = loops_through 0 (take (records_inside 0 ys) ys)

unfoldable pub choice_tests_of : List Record → Record → List Record → List Test
choice_tests_of xs (work_record least most) ys = []
choice_tests_of xs (loop_record l) ys = []
choice_tests_of xs end_record ys = []
choice_tests_of xs choice_record ys = record { reason = holds_loop (sheet_length xs); fails = not (eqb (loops_inside ys) 0) } ∷ []
choice_tests_of xs next_arm_record ys = []

-- before a choice's end there are the loops of its arms
inside-arms : (arms : Arms) (q : List Record) → loops_inside (arms_records arms ++ (end_record ∷ q)) ≡ arms_loops arms
unfolding loops_inside records_inside
inside-arms arms q =
    let count : records_inside 0 (arms_records arms ++ (end_record ∷ q)) ≡ length (arms_records arms) = omega (arith, records_inside-arms arms 0 (end_record ∷ q)) in
    ap (λ (n : ℕ). loops_through 0 (take n (arms_records arms ++ (end_record ∷ q)))) count
    ∙ ap (loops_through 0) (take-append_seam (arms_records arms) (end_record ∷ q)) ∙ loops-arms arms 0 ∙ zero-add (arms_loops arms)

-- the offset after one record more, and after records and one more
after_one : {at : ℕ} (xs : List Record) (r : Record) → at ≡ sheet_length xs → at + record_length r ≡ sheet_length (xs ++ (r ∷ []))
after_one xs r e = ap (λ (n : ℕ). n + record_length r) e ∙ sym (length-one-more xs r)

after_more : {at : ℕ} (xs ys : List Record) (r : Record) → at ≡ sheet_length xs → at + sheet_length ys + record_length r ≡ sheet_length ((xs ++ ys) ++ (r ∷ []))
after_more xs ys r e =
    ap (λ (n : ℕ). n + sheet_length ys + record_length r) e ∙ ap (λ (n : ℕ). n + record_length r) (sym (sheet_length-append xs ys))
    ∙ sym (length-one-more (xs ++ ys) r)

mutual
  unfolding tests choice_tests_of choice_tests records

  pub choice-tests : (b : Block) (xs q : List Record) (at : ℕ) → at ≡ sheet_length xs → tests choice_tests_of xs (records b) q ≡ choice_tests b at
  choice-tests empty xs q at e = refl
  choice-tests (work least most rest) xs q at e =
      let r : Record = work_record least most in
      choice-tests rest (xs ++ (r ∷ [])) q (at + record_length r) (after_one xs r e)
  choice-tests (loop l body rest) xs q at e =
      let inner : List Record = xs ++ (loop_record l ∷ []) in
      let start = after_one xs (loop_record l) e in
      tests-around choice_tests_of end_record (λ x y. refl) inner (records body) (records rest) q
      ∙ ap₂ {C = List Test} ◌++◌ (choice-tests body inner (end_record ∷ (records rest ++ q)) _ start)
      (choice-tests rest ((inner ++ records body) ++ (end_record ∷ [])) q _ (after_more inner (records body) end_record start))
  choice-tests (choice arms rest) xs q at e =
      let inner : List Record = xs ++ (choice_record ∷ []) in
      let start = after_one xs choice_record e in
      let holds = ap loops_inside (append_assoc (arms_records arms) (end_record ∷ records rest) q) ∙ inside-arms arms (records rest ++ q) in
      (λ t. record { reason = holds_loop (sym e t); fails = not (eqb (holds t) 0) }
      ∷ tests-around choice_tests_of end_record (λ x y. refl) inner (arms_records arms) (records rest) q t)
      ∙ ap {B = List Test} (λ ts. record { reason = holds_loop at; fails = not (eqb (arms_loops arms) 0) } ∷ ts)
      (ap₂ {C = List Test} ◌++◌ (choice-tests-arms arms inner (end_record ∷ (records rest ++ q)) _ start)
      (choice-tests rest ((inner ++ arms_records arms) ++ (end_record ∷ [])) q _ (after_more inner (arms_records arms) end_record start)))

  choice-tests-arms : (arms : Arms) (xs q : List Record) (at : ℕ) → at ≡ sheet_length xs → tests choice_tests_of xs (arms_records arms) q ≡ arms_choice_tests arms at
  choice-tests-arms (last_arm b) xs q at e = choice-tests b xs q at e
  choice-tests-arms (arm b arms) xs q at e =
      tests-around choice_tests_of next_arm_record (λ x y. refl) xs (records b) (arms_records arms) q
      ∙ ap₂ {C = List Test} ◌++◌ (choice-tests b xs (next_arm_record ∷ (arms_records arms ++ q)) at e)
      (choice-tests-arms arms ((xs ++ records b) ++ (next_arm_record ∷ [])) q _ (after_more xs (records b) next_arm_record e))

-- ---- loops

one_deeper : (xs : List Record) (l : Loop) → loop_depth (opens_through [] (xs ++ (loop_record l ∷ []))) ≡ suc (loop_depth (opens_through [] xs))
unfolding opens_after loop_depth
one_deeper xs l = ap loop_depth (opens-one-more xs (loop_record l) [])

drop-map : {A B : Type 0} (n : ℕ) (f : A → B) (xs : List A) → drop n (map f xs) ≡ map f (drop n xs)
drop-map zero f xs = refl
drop-map (suc n) f [] = refl
drop-map (suc n) f (x ∷ xs) = drop-map n f xs

module _ (ps : List ℤ) (rows : List ℕ) (d : ℕ) where
  -- the loops with these numbers and pushes
  unfoldable pub pairs : List ℕ → List (List ℤ) → List Around
  pairs [] pushes = []
  pairs (n ∷ ns) [] = []
  pairs (n ∷ ns) (p ∷ pushes) = record { offset = offset_at rows n; pushes = p } ∷ pairs ns pushes

  -- after the records xs, the open loops from the one with d loops around it inward
  unfoldable pub around_after : List Record → List Around
  around_after xs = drop d (pairs (loop_numbers_after xs) (loops_around ps xs).pushes)

  unfoldable pub loop_tests_of : List Record → Record → List Record → List Test
  loop_tests_of xs (work_record least most) ys = []
  loop_tests_of xs (loop_record k) ys = own_tests ps k (loops_around ps xs).ranges (around_after xs) (sheet_length xs)
  loop_tests_of xs end_record ys = []
  loop_tests_of xs choice_record ys = []
  loop_tests_of xs next_arm_record ys = []

  -- a loop is entered
  pairs-enter : (l : Loop) (ns : List ℕ) (pushes : List (List ℤ)) (n : ℕ) (own : List ℤ) → length ns ≡ length pushes →
      pairs (ns ++ (n ∷ [])) (map (push_inner l) pushes ++ (own ∷ []))
      ≡ map (λ m. record { offset = m.offset; pushes = push_inner l m.pushes }) (pairs ns pushes) ++ (record { offset = offset_at rows n; pushes = own } ∷ [])
  unfolding pairs
  pairs-enter l [] [] n own e = refl
  pairs-enter l [] (p ∷ pushes) n own e = absurd (omega arith)
  pairs-enter l (k ∷ ns) [] n own e = absurd (omega arith)
  pairs-enter l (k ∷ ns) (p ∷ pushes) n own e =
      ap {B = List Around} (λ others. record { offset = offset_at rows k; pushes = push_inner l p } ∷ others) (pairs-enter l ns pushes n own (omega arith))

  pub pairs-count : (ns : List ℕ) (pushes : List (List ℤ)) → length ns ≡ length pushes → length (pairs ns pushes) ≡ length ns
  unfolding pairs
  pairs-count [] pushes e = refl
  pairs-count (n ∷ ns) [] e = absurd (omega arith)
  pairs-count (n ∷ ns) (p ∷ pushes) e = ap suc (pairs-count ns pushes (omega arith))

  same_count : (xs : List Record) → length (loop_numbers_after xs) ≡ length (loops_around ps xs).pushes
  same_count xs = loop-numbers-count xs ∙ sym (open-loops-through ps xs [] nothing_open nothing-open).push_count

  around-enter : (xs : List Record) (l : Loop) → d ≤ loop_depth (opens_through [] xs) → offset_at rows (length xs) ≡ sheet_length xs →
      around_after (xs ++ (loop_record l ∷ [])) ≡ around_with l (length (loops_around ps xs).ranges) (sheet_length xs) (around_after xs)
  unfolding around_after around_with enclosing_after enter
  around-enter xs l deep placed =
      let ns : List ℕ = loop_numbers_after xs in
      let pushes : List (List ℤ) = (loops_around ps xs).pushes in
      let own : List ℤ = push_own l (length (loops_around ps xs).ranges) in
      let inner : Around → Around = λ m. record { offset = m.offset; pushes = push_inner l m.pushes } in
      let counted = same_count xs in
      let long = pairs-count ns pushes counted in
      let depth = loop-numbers-count xs in
      (λ t. drop d (pairs (loop-numbers-loop xs l t) (enclosing-one-more ps xs (loop_record l) [] nothing_open t).pushes))
      ∙ ap (drop d) (pairs-enter l ns pushes (length xs) own counted)
      ∙ drop-append-le d (map inner (pairs ns pushes)) (record { offset = offset_at rows (length xs); pushes = own } ∷ [])
      (omega (arith, length-map (pairs ns pushes) inner))
      ∙ (λ t. drop-map d inner (pairs ns pushes) t ++ (record { offset = placed t; pushes = own } ∷ []))

  -- ---- what the tests of a block take along, after the records xs

  pub record Context (xs : List Record) (ranges : List Range) (around : List Around) (at : ℕ) : Type 0 where
    pub ranges_are : ranges ≡ (loops_around ps xs).ranges
    pub around_is : around ≡ around_after xs
    pub offset_is : at ≡ sheet_length xs
    pub deep : d ≤ loop_depth (opens_through [] xs)

  -- where the same loops are open after other records
  same-context : {xs ys : List Record} {ranges : List Range} {around : List Around} {at past : ℕ} → Context xs ranges around at →
      loops_around ps ys ≡ loops_around ps xs → loop_numbers_after ys ≡ loop_numbers_after xs → past ≡ sheet_length ys → Context ys ranges around past
  unfolding around_after
  same-context {xs} {ys} c loops numbers offset = record {
    ranges_are = c.ranges_are ∙ sym (ap (λ (e : Enclosing). e.ranges) loops);
    around_is = c.around_is ∙ sym (λ t. drop d (pairs (numbers t) (loops t).pushes));
    offset_is = offset;
    deep = omega (arith, c.deep, loop-numbers-count xs, loop-numbers-count ys, ap length numbers);
  }

  context-records : {xs : List Record} {ranges : List Range} {around : List Around} {at past : ℕ} (b : Block) → Context xs ranges around at →
      past ≡ sheet_length (xs ++ records b) → Context (xs ++ records b) ranges around past
  context-records {xs} b c =
      same-context c (enclosing-append ps xs (records b) [] nothing_open ∙ enclosing-records ps b (opens_through [] xs) (loops_around ps xs)) (loop-numbers-records xs b)

  context-choice : {xs : List Record} {ranges : List Range} {around : List Around} {at : ℕ} → Context xs ranges around at →
      Context (xs ++ (choice_record ∷ [])) ranges around (at + record_length choice_record)
  unfolding enclosing_after
  context-choice {xs} c =
      same-context c (enclosing-one-more ps xs choice_record [] nothing_open) (loop-numbers-choice xs) (after_one xs choice_record c.offset_is)

  context-next-arm : {xs : List Record} {ranges : List Range} {around : List Around} {at : ℕ} → Context xs ranges around at →
      Context (xs ++ (next_arm_record ∷ [])) ranges around (at + record_length next_arm_record)
  unfolding enclosing_after
  context-next-arm {xs} c =
      same-context c (enclosing-one-more ps xs next_arm_record [] nothing_open) (loop-numbers-next-arm xs) (after_one xs next_arm_record c.offset_is)

  pub context-loop : {xs : List Record} {ranges : List Range} {around : List Around} {at : ℕ} (l : Loop) → offset_at rows (length xs) ≡ sheet_length xs →
      Context xs ranges around at →
      Context (xs ++ (loop_record l ∷ [])) (inner_ranges ps l ranges) (around_with l (length ranges) at around) (at + record_length (loop_record l))
  unfolding enclosing_after enter
  context-loop {xs} {ranges} {around} {at} l placed c = record {
    ranges_are = ap (inner_ranges ps l) c.ranges_are ∙ sym (ap (λ (e : Enclosing). e.ranges) (enclosing-one-more ps xs (loop_record l) [] nothing_open));
    around_is = (λ t. around_with l (length (c.ranges_are t)) (c.offset_is t) (c.around_is t)) ∙ sym (around-enter xs l c.deep placed);
    offset_is = after_one xs (loop_record l) c.offset_is;
    deep = omega (arith, c.deep, one_deeper xs l);
  }

  -- after the end of what a record opened
  context-closed : {xs : List Record} {ranges : List Range} {around : List Around} {at : ℕ} (b : Block) (r : Record) (ys : List Record) →
      records b ≡ r ∷ (ys ++ (end_record ∷ [])) → Context xs ranges around at →
      Context (((xs ++ (r ∷ [])) ++ ys) ++ (end_record ∷ [])) ranges around (at + record_length r + sheet_length ys + record_length end_record)
  context-closed {xs} {ranges} {around} {at} b r ys same c =
      let inner : List Record = xs ++ (r ∷ []) in
      let joined : xs ++ records b ≡ (inner ++ ys) ++ (end_record ∷ []) =
      ap (λ (x : List Record). xs ++ x) same ∙ sym (append_assoc inner ys (end_record ∷ []) ∙ append_assoc xs (r ∷ []) (ys ++ (end_record ∷ []))) in
      let past = after_more inner ys end_record (after_one xs r c.offset_is) in
      subst (λ (x : List Record). Context x ranges around (at + record_length r + sheet_length ys + record_length end_record)) joined
      (context-records b c (past ∙ sym (ap sheet_length joined)))

  -- ---- the tests of a block's loops

  module _ {rs : List Record} (held : RowsHeld rows rs) (few : length rs ≤ record_limit) where
    placed : (xs : List Record) (r : Record) (ys : List Record) → rs ≡ xs ++ (r ∷ ys) → offset_at rows (length xs) ≡ sheet_length xs
    placed xs r ys split = offset-reads xs r ys (subst (RowsHeld rows) split held) (subst (λ (x : List Record). length x ≤ record_limit) split few)

    -- what stands inside what a record opens, and what stands behind its end
    inside : (xs : List Record) (r : Record) (ys zs q : List Record) → rs ≡ xs ++ (r ∷ ((ys ++ zs) ++ q)) → rs ≡ (xs ++ (r ∷ [])) ++ (ys ++ (zs ++ q))
    inside xs r ys zs q split = split ∙ ap (λ (x : List Record). xs ++ (r ∷ x)) (append_assoc ys zs q) ∙ sym (append_assoc xs (r ∷ []) (ys ++ (zs ++ q)))

    behind : (xs ys : List Record) (r : Record) (zs : List Record) → rs ≡ xs ++ (ys ++ (r ∷ zs)) → rs ≡ ((xs ++ ys) ++ (r ∷ [])) ++ zs
    behind xs ys r zs split = split ∙ sym (append_assoc xs ys (r ∷ zs)) ∙ sym (append_assoc (xs ++ ys) (r ∷ []) zs)

    mutual
      unfolding tests loop_tests_of loop_tests records

      pub loop-tests : (b : Block) (xs q : List Record) {ranges : List Range} {around : List Around} {at : ℕ} → rs ≡ xs ++ (records b ++ q) →
          Context xs ranges around at → tests loop_tests_of xs (records b) q ≡ loop_tests ps b ranges around at
      loop-tests empty xs q split c = refl
      loop-tests (work least most rest) xs q split c =
          let r : Record = work_record least most in
          loop-tests rest (xs ++ (r ∷ [])) q (split ∙ sym (append_assoc xs (r ∷ []) (records rest ++ q)))
          (context-records (work least most empty) c (after_one xs r c.offset_is))
      loop-tests (loop k body rest) xs q {ranges} {around} {at} split c =
          let inner : List Record = xs ++ (loop_record k ∷ []) in
          let within = inside xs (loop_record k) (records body) (end_record ∷ records rest) q split in
          let more =
          tests-around loop_tests_of end_record (λ x y. refl) inner (records body) (records rest) q
          ∙ ap₂ {C = List Test} ◌++◌
          (loop-tests body inner (end_record ∷ (records rest ++ q)) within (context-loop k (placed xs (loop_record k) _ split) c))
          (loop-tests rest ((inner ++ records body) ++ (end_record ∷ [])) q (behind inner (records body) end_record (records rest ++ q) within)
          (context-closed (loop k body empty) (loop_record k) (records body) refl c)) in
          (λ t. own_tests ps k (sym c.ranges_are t) (sym c.around_is t) (sym c.offset_is t) ++ more t)
          ∙ sym (append_assoc (own_tests ps k ranges around at) (loop_tests ps body _ _ _) (loop_tests ps rest _ _ _))
      loop-tests (choice arms rest) xs q split c =
          let inner : List Record = xs ++ (choice_record ∷ []) in
          let within = inside xs choice_record (arms_records arms) (end_record ∷ records rest) q split in
          tests-around loop_tests_of end_record (λ x y. refl) inner (arms_records arms) (records rest) q
          ∙ ap₂ {C = List Test} ◌++◌ (loop-tests-arms arms inner (end_record ∷ (records rest ++ q)) within (context-choice c))
          (loop-tests rest ((inner ++ arms_records arms) ++ (end_record ∷ [])) q (behind inner (arms_records arms) end_record (records rest ++ q) within)
          (context-closed (choice arms empty) choice_record (arms_records arms) refl c))

      loop-tests-arms : (arms : Arms) (xs q : List Record) {ranges : List Range} {around : List Around} {at : ℕ} → rs ≡ xs ++ (arms_records arms ++ q) →
          Context xs ranges around at → tests loop_tests_of xs (arms_records arms) q ≡ arms_loop_tests ps arms ranges around at
      loop-tests-arms (last_arm b) xs q split c = loop-tests b xs q split c
      loop-tests-arms (arm b arms) xs q split c =
          let within = split ∙ ap (λ (x : List Record). xs ++ x) (append_assoc (records b) (next_arm_record ∷ arms_records arms) q) in
          tests-around loop_tests_of next_arm_record (λ x y. refl) xs (records b) (arms_records arms) q
          ∙ ap₂ {C = List Test} ◌++◌ (loop-tests b xs (next_arm_record ∷ (arms_records arms ++ q)) within c)
          (loop-tests-arms arms ((xs ++ records b) ++ (next_arm_record ∷ [])) q (behind xs (records b) next_arm_record (arms_records arms ++ q) within)
          (context-next-arm (context-records b c (sym (sheet_length-append xs (records b) ∙ ap (λ (n : ℕ). n + sheet_length (records b)) (sym c.offset_is))))))
