-- The reason that is read off a plan's numbers is the reason of the sheet's loop.
use mathlib.Core.Bool.{not}
use mathlib.Core.List.{List, [], ◌∷◌, ◌++◌, append_assoc, map}
use mathlib.Core.Path.{ap, ap₂, refl, sym, ◌∙◌, ◌≡◌}
use Prim.Native.Nat.{◌%◌, ◌+◌, ◌-◌, ◌<◌, min, suc, zero, ℕ, ◌≤◌}
use native.Mathlib.Nat.{mod-eq_of_lt}
use native.Mathlib.Numerals.{add-one}
use native.Mathlib.Omega.{arith}
use borrow.Author.Tests.{eq-eqb, le-ltb, lt-ltb, ne_eqb}
use lib.Dec.{eqb, ltb}
use lib.IntN.{ℤ, pos}
use lib.ListN.{drop, drop_of_length-le, get_or, length, length-append, take, take-append-drop}
use lib.Seq.{drop-cons, length-take-le}
use Rattle.whole.specs.Integer.{divides}
use Rattle.meaning.specs.Limits.{index_factors, record_limit}
use Rattle.meaning.specs.Tree.{Block, records, tree}
use Rattle.meaning.specs.Record.{Loop, stride_size, Open, Record, choice_record, end_record, kind, loop_depth, loop_record, next_arm_record, open_choice, record_length, sheet_length, work_record}
use Rattle.meaning.specs.Time.{difference}
use Rattle.meaning.specs.Closed.{push}
use Rattle.meaning.specs.Reason.{Around, Test, closing_tests, first_failing, holds_loop, own_tests, reason_of, too_few_trips, uneven_in, uneven_tests}
use Rattle.meaning.proofs.Accepted.{InPlace}
use Rattle.meaning.specs.Stage.{after_end}
use Rattle.meaning.proofs.Trees.{tree-before-end}
use Rattle.layout.specs.Rows.{depth_at, end_at, loop_at, loops_before_at, offset_at, role_at, role_number, role_of, role_of_kind}
use Rattle.sheet.proofs.SheetRecords.{few-records, length-one-more, records-in-place}
use Rattle.nest.specs.Rows.{end_number}
use Rattle.nest.specs.Walk.{loops_after, opens_after, records_inside}
use Rattle.nest.proofs.Places.{end-in-place, in-place-next, loop-body, LoopBody}
use Rattle.nest.proofs.RowsOf.{inside-at-most, records_inside-body}
use Rattle.nest.proofs.RowsRead.{loops-before-reads, opened-end}
use Rattle.nest.proofs.Walks.{loops-append, loops-more, loops_through, opens_through}
use Rattle.loops.specs.Enclosing.{loops_around, nothing_open}
use Rattle.loops.specs.Facts.{loop_facts}
use Rattle.loops.proofs.Enclosings.{nothing-open, open-loops-through}
use Rattle.loops.proofs.AtRecord.{four-small}
use Rattle.loops.proofs.Sizes.{SmallParameters}
use Rattle.planner.specs.Closing.{uneven_at}
use Rattle.planner.specs.Known.{LoopAmong, SheetHeld}
use Rattle.planner.specs.Reasons.{choice_tests_at, choice_tests_inside, holds_loop_at, loop_around, loop_tests_at, loop_tests_inside, reason_at, tests_from, uneven_test_at}
use Rattle.planner.proofs.Preventing.{uneven-at}
use Rattle.planner.proofs.LoopsAround.{loop_numbers_after, loop-around-is, loop-numbers-count}
use Rattle.planner.proofs.LoopRead.{few-here, loop-depth, loop-end, loop-known, offset-here, place-before, role-here, rows-here, shallow}
use Rattle.planner.proofs.TestsRead.{Context, around_after, choice-tests, choice_tests_of, context-loop, loop-tests, loop_tests_of, loops_inside, pairs, pairs-count, tests, tests-numbered}

-- the tests of numbers from d on, one each, are those of the elements of a list from d on
tests-listed : (each : ℕ → List Test) (test : Around → Test) (blank : Around) (loops : List Around) →
    ((m : ℕ) → m < length loops → each m ≡ test (get_or loops m blank) ∷ []) → (n d : ℕ) → n ≡ length loops - d → tests_from each d n ≡ map test (drop d loops)
unfolding tests_from
tests-listed each test blank loops same zero d e = sym (ap (map test) (drop_of_length-le loops {i = d} (omega arith)))
tests-listed each test blank loops same (suc n) d e =
    let less : d < length loops = omega arith in
    ap₂ {C = List Test} ◌++◌ (same d less) (tests-listed each test blank loops same n (suc d) (omega arith)) ∙ sym (ap (map test) (drop-cons loops d blank less))

get_d_map : {A B : Type 0} (f : A → B) (xs : List A) (m : ℕ) (a : A) (b : B) → m < length xs → get_or (map f xs) m b ≡ f (get_or xs m a)
get_d_map f [] m a b h = absurd (omega arith)
get_d_map f (x ∷ xs) zero a b h = refl
get_d_map f (x ∷ xs) (suc m) a b h = get_d_map f xs m a b (omega arith)

-- fewer loops before than after
some_more : (a b : ℕ) → ltb a (a + b) ≡ not (eqb b 0)
some_more a zero = le-ltb a (a + zero) (omega arith) ∙ sym (ap not (eq-eqb zero 0 refl))
some_more a (suc b) = lt-ltb a (a + suc b) (omega arith) ∙ sym (ap not (ne_eqb (suc b) 0 (λ e. omega arith)))

module _ {ps : List ℤ} {rs : List Record} {rows differences facts : List ℕ} (held : SheetHeld ps rs rows differences facts) (place : InPlace [] rs)
    (few : length rs ≤ record_limit) where
  -- ---- choices

  holds-here : (xs ys : List Record) → rs ≡ xs ++ (choice_record ∷ ys) → holds_loop_at rows (length xs) ≡ not (eqb (loops_inside ys) 0)
  unfolding holds_loop_at loops_inside loops_through loops_after end_number opens_after
  holds-here xs ys split =
      let os : List Open = opens_through [] xs in
      let within : InPlace (open_choice ∷ os) ys = in-place-next choice_record ys os (place-before held place few xs choice_record ys split) in
      let ends = opened-end xs choice_record ys (open_choice ∷ os) (rows-here held place few xs choice_record ys split) (few-here held place few xs choice_record ys split) refl within (omega arith) in
      let inner : List Record = take (records_inside 0 ys) ys in
      let parts : ys ≡ inner ++ (end_record ∷ after_end 0 ys) =
      sym (take-append-drop (records_inside 0 ys) ys) ∙ ap (λ (x : List Record). inner ++ x) (end-in-place ys (open_choice ∷ os) 0 within (omega arith)) in
      let before : List Record = xs ++ (choice_record ∷ inner) in
      let again : rs ≡ before ++ (end_record ∷ after_end 0 ys) =
      split ∙ ap (λ (x : List Record). xs ++ (choice_record ∷ x)) parts ∙ sym (append_assoc xs (choice_record ∷ inner) (end_record ∷ after_end 0 ys)) in
      let size : length before ≡ suc (length xs) + records_inside 0 ys =
      omega (arith, length-append xs (choice_record ∷ inner), length-take-le (records_inside 0 ys) ys (inside-at-most ys 0)) in
      let first = loops-before-reads xs choice_record ys (rows-here held place few xs choice_record ys split) (few-here held place few xs choice_record ys split) in
      let last : loops_before_at rows (end_at rows (length xs)) ≡ loops_through 0 xs + loops_through 0 inner =
      ap (loops_before_at rows) (ends ∙ sym size)
      ∙ loops-before-reads before end_record (after_end 0 ys) (rows-here held place few before end_record (after_end 0 ys) again) (few-here held place few before end_record (after_end 0 ys) again)
      ∙ loops-append xs (choice_record ∷ inner) 0 ∙ loops-more inner (loops_through 0 xs) in
      ap₂ ltb first last ∙ some_more (loops_through 0 xs) (loops_through 0 inner)

  choice-numbered : (xs : List Record) (r : Record) (ys : List Record) → rs ≡ xs ++ (r ∷ ys) → choice_tests_at rows (length xs) ≡ choice_tests_of xs r ys
  unfolding choice_tests_at choice_tests_of role_number role_of role_of_kind kind
  choice-numbered xs r ys split = go r split (role-here held place few xs r ys split)
    where
      go : (r : Record) → rs ≡ xs ++ (r ∷ ys) → role_at rows (length xs) ≡ role_number (role_of r) → choice_tests_at rows (length xs) ≡ choice_tests_of xs r ys
      go (work_record least most) s e = rw e
      go (loop_record l) s e = rw e
      go end_record s e = rw e
      go choice_record s e = rw e (λ t. record { reason = holds_loop (offset-here held place few xs choice_record ys s t); fails = holds-here xs ys s t } ∷ [])
      go next_arm_record s e = rw e

  -- ---- loops

  module _ (sized : SmallParameters ps) (d : ℕ) where
    abbrev nothing : Around
    nothing = record { offset = 0; pushes = [] }

    pairs-at : (ns : List ℕ) (pushes : List (List ℤ)) (m : ℕ) → length ns ≡ length pushes → m < length ns →
        get_or (pairs ps rows d ns pushes) m nothing ≡ record { offset = offset_at rows (get_or ns m 0); pushes = get_or pushes m [] }
    unfolding pairs
    pairs-at [] pushes m e h = absurd (omega arith)
    pairs-at (n ∷ ns) [] m e h = absurd (omega arith)
    pairs-at (n ∷ ns) (p ∷ pushes) zero e h = refl
    pairs-at (n ∷ ns) (p ∷ pushes) (suc m) e h = pairs-at ns pushes m (omega arith) (omega arith)

    module _ (xs : List Record) (k : Loop) (ys : List Record) (split : rs ≡ xs ++ (loop_record k ∷ ys)) where
      abbrev loops : List Around
      loops = pairs ps rows d (loop_numbers_after xs) (loops_around ps xs).pushes

      counted : length (loop_numbers_after xs) ≡ length (loops_around ps xs).pushes
      counted = loop-numbers-count xs ∙ sym (open-loops-through ps xs [] nothing_open nothing-open).push_count

      loops-count : length loops ≡ loop_depth (opens_through [] xs)
      loops-count = pairs-count ps rows d (loop_numbers_after xs) (loops_around ps xs).pushes counted ∙ loop-numbers-count xs

      low : loop_depth (opens_through [] xs) ≤ index_factors
      low = omega (arith, shallow held place few xs k ys split)

      uneven-test : Around → Test
      uneven-test m = record { reason = uneven_in (sheet_length xs) m.offset; fails = not (divides (stride_size k) (push (difference k) m.pushes)) }

      -- against the loop with m loops around it
      uneven-numbered : (m : ℕ) → m < length loops → uneven_test_at rows differences (length xs) m ≡ uneven-test (get_or loops m nothing) ∷ []
      unfolding uneven_test_at uneven-test loop_facts
      uneven-numbered m less =
          let pushes : List (List ℤ) = (loops_around ps xs).pushes in
          let found : loop_around rows m (length xs) ≡ get_or (loop_numbers_after xs) m 0 =
          loop-around-is held.rows_are place few xs (loop_record k ∷ ys) split m (omega (arith, loops-count, less)) in
          let known = loop-known held place few xs k ys split sized in
          let uneven : uneven_at differences (loop_at rows (length xs)) m ≡ not (divides (stride_size k) (push (difference k) (get_or pushes m []))) =
          uneven-at known (omega (arith, loops-count, less, low))
          ∙ ap (λ z. not (divides (stride_size k) z))
          (get_d_map (push (difference k)) pushes m [] (pos zero) (omega (arith, loops-count, less, loop-numbers-count xs, counted))) in
          (λ t. record { reason = uneven_in (offset-here held place few xs (loop_record k) ys split t) (offset_at rows (found t)); fails = uneven t } ∷ [])
          ∙ sym (ap {B = List Test} (λ m. uneven-test m ∷ [])
          (pairs-at (loop_numbers_after xs) pushes m counted (omega (arith, loops-count, less, loop-numbers-count xs))))

      own-numbered : loop_tests_at rows differences facts d (length xs) ≡ loop_tests_of ps rows d xs (loop_record k) ys
      unfolding loop_tests_at loop_tests_of own_tests uneven_tests around_after uneven-test role_number role_of role_of_kind kind loop_facts
      own-numbered =
          let known = loop-known held place few xs k ys split sized in
          let size : min (depth_at rows (length xs)) index_factors - d ≡ length loops - d = omega (arith, loop-depth held place few xs k ys split, loops-count, low) in
          rw (role-here held place few xs (loop_record k) ys split)
          (λ t. record { reason = too_few_trips (offset-here held place few xs (loop_record k) ys split t); fails = not (known.enough_is t) }
          ∷ tests-listed (uneven_test_at rows differences (length xs)) uneven-test nothing loops uneven-numbered _ d size t)

    loop-numbered : (xs : List Record) (r : Record) (ys : List Record) → rs ≡ xs ++ (r ∷ ys) →
        loop_tests_at rows differences facts d (length xs) ≡ loop_tests_of ps rows d xs r ys
    unfolding loop_tests_at loop_tests_of role_number role_of role_of_kind kind
    loop-numbered xs r ys split = go r split (role-here held place few xs r ys split)
      where
        go : (r : Record) → rs ≡ xs ++ (r ∷ ys) → role_at rows (length xs) ≡ role_number (role_of r) →
            loop_tests_at rows differences facts d (length xs) ≡ loop_tests_of ps rows d xs r ys
        go (work_record least most) s e = rw e
        go (loop_record k) s e = own-numbered xs k ys s
        go end_record s e = rw e
        go choice_record s e = rw e
        go next_arm_record s e = rw e

  -- ---- the loop's reason

  module _ (sized : SmallParameters ps) (xs : List Record) (l : Loop) (ys : List Record) (split : rs ≡ xs ++ (loop_record l ∷ ys)) where
    abbrev n : ℕ
    n = length xs

    abbrev inner : List Record
    inner = xs ++ (loop_record l ∷ [])

    body-of : LoopBody (loop_depth (opens_through [] xs)) ys
    body-of = loop-body l ys (opens_through [] xs) (place-before held place few xs (loop_record l) ys split)

    within : rs ≡ inner ++ (records body-of.body ++ (end_record ∷ body-of.following))
    within = split ∙ ap (λ (x : List Record). xs ++ (loop_record l ∷ x)) body-of.split ∙ sym (append_assoc xs (loop_record l ∷ []) _)

    -- the records inside it, by number
    inside-numbered : (numbered : ℕ → List Test) (each : List Record → Record → List Record → List Test) →
        ((zs : List Record) (r : Record) (qs : List Record) → rs ≡ zs ++ (r ∷ qs) → numbered (length zs) ≡ each zs r qs) →
        tests_from numbered (suc n) (end_at rows n - suc n) ≡ tests each inner (records body-of.body) (end_record ∷ body-of.following)
    inside-numbered numbered each same =
        let start : suc n ≡ length inner = sym (length-append xs (loop_record l ∷ []) ∙ add-one n) in
        let ends : end_at rows n ≡ suc n + records_inside 0 ys = loop-end held place few xs l ys split in
        let count : end_at rows n - suc n ≡ length (records body-of.body) =
        omega (arith, ends, ap (records_inside 0) body-of.split, records_inside-body body-of.body body-of.following) in
        ap₂ (tests_from numbered) start count ∙ tests-numbered each rs numbered same inner (records body-of.body) (end_record ∷ body-of.following) within

    -- no loop stands between the loop and those around it
    context-here : Context ps rows (loop_depth (opens_through [] xs)) xs (loops_around ps xs).ranges [] (sheet_length xs)
    unfolding around_after
    context-here = record {
      ranges_are = refl;
      around_is = sym (drop_of_length-le (loops sized (loop_depth (opens_through [] xs)) xs l ys split) {i = loop_depth (opens_through [] xs)}
          (omega (arith, loops-count sized (loop_depth (opens_through [] xs)) xs l ys split)));
      offset_is = refl;
      deep = omega arith;
    }

    pub reason-read : reason_at rows differences facts n ≡ reason_of ps l (tree ys) (loops_around ps xs).ranges (sheet_length xs)
    unfolding reason_at reason_of closing_tests choice_tests_inside loop_tests_inside
    reason-read =
        let d : ℕ = loop_depth (opens_through [] xs) in
        let at : ℕ = sheet_length xs in
        let body : Block = body-of.body in
        let small : n % record_limit ≡ n = mod-eq_of_lt (omega (arith, few, ap length split, length-append xs (loop_record l ∷ ys))) in
        let choices = inside-numbered (choice_tests_at rows) choice_tests_of choice-numbered
        ∙ choice-tests body inner (end_record ∷ body-of.following) (at + record_length (loop_record l)) (sym (length-one-more xs (loop_record l))) in
        let entered = context-loop ps rows d l (offset-here held place few xs (loop_record l) ys split) context-here in
        let loops =
        ap (λ (m : ℕ). tests_from (loop_tests_at rows differences facts m) (suc n) (end_at rows n - suc n)) (loop-depth held place few xs l ys split)
        ∙ inside-numbered (loop_tests_at rows differences facts d) (loop_tests_of ps rows d) (loop-numbered sized d)
        ∙ loop-tests ps rows d held.rows_are few body inner (end_record ∷ body-of.following) within entered in
        ap (λ (m : ℕ). first_failing (choice_tests_inside rows m ++ loop_tests_inside rows differences facts m)) small
        ∙ (λ t. first_failing (choices t ++ loops t))
        ∙ ap (λ (b : Block). reason_of ps l b (loops_around ps xs).ranges at) (sym (ap tree body-of.split ∙ tree-before-end body body-of.following))

-- of a loop of a sheet that was read
pub reason-among : {sheet : List ℕ} {ps : List ℤ} {rows differences facts : List ℕ} {number : ℕ} {xs : List Record} {l : Loop} {ys : List Record} →
    LoopAmong sheet ps rows differences facts number xs l ys →
    reason_at rows differences facts number ≡ reason_of ps l (tree ys) (loops_around ps xs).ranges (sheet_length xs)
reason-among {sheet} {ps} {rows} {differences} {facts} {number} {xs} {l} {ys} among =
    ap (reason_at rows differences facts) among.number_is
    ∙ reason-read among.surveyed.sheet_is (records-in-place sheet) (few-records sheet) (four-small ps among.surveyed.small) xs l ys among.split
