-- The walk that lays the rows: what it carries from one record to the next, and the rows laid so far.
use mathlib.Core.List.{List, [], ◌∷◌, ◌++◌}
use mathlib.Core.Path.{ap, ap₂, refl, subst, sym, ◌∙◌, ◌≡◌}
use Prim.Native.Nat.{◌%◌, ◌+◌, ◌-◌, ◌<◌, ◌^◌, suc, ℕ, ◌≤◌, ◌/◌}
use native.Mathlib.Omega.{arith}
use native.Mathlib.Nat.{mod-eq_of_lt}
use native.Mathlib.Numerals.{add-one}
use lib.ListN.{drop, get_or, length, length-drop, take, take-append-drop}
use lib.Seq.{get_or-take, length-take-le, paste, take_all, take-suc}
use Rattle.meaning.specs.Record.{Kind, skip_cycles, decode_record, kind, kind_number, kind_of, loop_depth, loop_record, open_after, work_record, sheet_length, Record, Open, end_record, choice_record, next_arm_record}
use Rattle.meaning.specs.Reader.{body_at}
use Rattle.meaning.specs.Limits.{record_limit}
use Rattle.meaning.proofs.Accepted.{InPlace}
use Rattle.meaning.proofs.RecordBytes.{kind_of-kind_number}
use Rattle.sheet.specs.declared.nesting.Nesting.{Nesting}
use Rattle.sheet.specs.Nestings.{nesting_of, open_after_as, open_after_kind}
use Rattle.records.specs.View.{length_of_kind}
use Rattle.sheet.proofs.Openings.{depth-at-most}
use Rattle.layout.specs.declared.rows.Row.{Row}
use Rattle.layout.specs.declared.rows.Role.{Role}
use Rattle.layout.specs.Rows.{end_numbers, number_room, first_cost, role_number, role_of, row_numbers, second_cost, skip_cost, row_from, row_width}
use Rattle.layout.specs.Numbers.{joined, stored_in}
use Rattle.layout.proofs.Reading.{blank_row, row_number, row_next, enclosing-shared}
use Rattle.layout.proofs.Storing.{stored-none}
use Rattle.nest.specs.Known.{AtPosition, InnersKnown, RecordAt}
use Rattle.nest.specs.Rows.{Position, end_number, innermost, row_at, rows_of, sheet_start, rows_stored}
use Rattle.nest.specs.Roles.{cost_by, cost_in, end_of_role, role_of_byte, enclosing_after_role, loops_after_role, skip_cost_by, skip_cost_in}
use Rattle.nest.specs.Walk.{numbers_after}
use Rattle.sheet.specs.Sheets.{records_of}
use Rattle.nest.proofs.Openers.{OpenerRows, open-rows}
use Rattle.sheet.proofs.SheetRecords.{few-records, one_more, records-in-place, around}
use Rattle.nest.proofs.Endings.{kind-read, offset-small, present, role-read, stands-there, next-by-kind}
use Rattle.nest.proofs.Roles.{end-by-role, enclosing-by-role, loops-by-role, loops-more}
use Rattle.nest.proofs.RowsOf.{end-inside, rows-length, row-at}
use Rattle.nest.proofs.Places.{in-place-through, opens-in-place, opens-few}
use Rattle.nest.proofs.OpenNumbers.{Below, below-through, below-first, below_rest, innermost-below}
use Rattle.nest.proofs.Walks.{numbers_through, opens-one-more, opens_through, loops-append, loops_through, numbers-one-more, position_after}
use mathlib.Core.Option.{Option, some}

opener-enclosing : (row_of : ℕ → Row) (n : ℕ) (ms : List ℕ) (os : List Open) → OpenerRows row_of (n ∷ ms) os → (row_of n).enclosing ≡ innermost ms
unfolding OpenerRows
opener-enclosing row_of n ms [] h = absurd h
opener-enclosing row_of n ms (o ∷ os) h = h.0.enclosing_is

-- the rows of the records before record n, stored into an array
abbrev pub laid : List ℕ → List Record → ℕ → List ℕ
laid before rs n = stored_in before (joined row_numbers (take n (rows_of rs)))

inners-known : (before : List ℕ) (rs : List Record) (n : ℕ) → n < length rs → length rs ≤ record_limit →
    InnersKnown (laid before rs (n + 1)) (numbers_through 0 [] (take n rs))
inners-known before rs n h few = record {
  around = λ m ms e.
      let long : length (rows_of rs) ≡ length rs = (unfold rows_of in rows-length rs sheet_start) in
      let empty : Below 0 [] = (unfold Below in tt) in
      let size : length (take n rs) ≡ n = length-take-le n rs (omega arith) in
      let below = subst (Below (0 + length (take n rs))) e (below-through (take n rs) 0 [] empty) in
      let less : m < n = below-first m ms (0 + length (take n rs)) n below (omega arith) in
      let some : length (take (n + 1) (rows_of rs)) ≡ n + 1 = length-take-le (n + 1) (rows_of rs) (omega arith) in
      let opener =
      subst (λ xs. OpenerRows (λ i. get_or (rows_of xs) i blank_row) (numbers_through 0 [] (take n rs)) (opens_through [] (take n rs))) (take-append-drop n rs)
      (open-rows (take n rs) (drop n rs) blank_row) in
      let row : Row = get_or (take (n + 1) (rows_of rs)) m blank_row in
      let enclosing : row.enclosing ≡ innermost ms =
      ap (λ (r : Row). r.enclosing) (get_or-take (n + 1) (rows_of rs) m blank_row (omega arith))
      ∙ opener-enclosing (λ i. get_or (rows_of rs) i blank_row) m ms (opens_through [] (take n rs))
      (subst (λ xs. OpenerRows (λ i. get_or (rows_of rs) i blank_row) xs (opens_through [] (take n rs))) e opener) in
      let shared : get_or (row_numbers row) 3 0 ≡ end_numbers row = (unfold row_numbers in refl) in
      ap (λ (x : ℕ). x / number_room) (row_number before (take (n + 1) (rows_of rs)) m 3 (omega arith) (omega arith) (omega arith) ∙ shared)
      ∙ enclosing-shared row (omega (arith, enclosing, innermost-below (0 + length (take n rs)) ms (below_rest m ms (0 + length (take n rs)) below))) ∙ enclosing;
}

-- ---- one row

-- works and loops have their costs in front
first-cost : (r : Record) (body : List ℕ) → decode_record (kind r) body ≡ r → cost_in (kind_number (kind r)) body 0 ≡ first_cost r
unfolding cost_in cost_by kind_of kind_number kind decode_record first_cost
first-cost (work_record least most) body e = cc
first-cost (loop_record l) body e = ap (λ (o : Option Kind). cost_by o body 0) (kind_of-kind_number (kind (loop_record l))) ∙ ap first_cost e
first-cost end_record body e = refl
first-cost choice_record body e = refl
first-cost next_arm_record body e = refl

second-cost : (r : Record) (body : List ℕ) → decode_record (kind r) body ≡ r → cost_in (kind_number (kind r)) body 2 ≡ second_cost r
unfolding cost_in cost_by kind_of kind_number kind decode_record second_cost
second-cost (work_record least most) body e = cc
second-cost (loop_record l) body e = ap (λ (o : Option Kind). cost_by o body 2) (kind_of-kind_number (kind (loop_record l))) ∙ ap second_cost e
second-cost end_record body e = refl
second-cost choice_record body e = refl
second-cost next_arm_record body e = refl

-- a loop's skip is its own, or its start
skip-cost : (r : Record) (body : List ℕ) → decode_record (kind r) body ≡ r → skip_cost_in (kind_number (kind r)) body ≡ skip_cost r
unfolding skip_cost_in skip_cost_by kind_of kind_number kind decode_record skip_cost skip_cycles
skip-cost (work_record least most) body e = refl
skip-cost (loop_record l) body e = ap (λ (o : Option Kind). skip_cost_by o body) (kind_of-kind_number (kind (loop_record l))) ∙ ap skip_cost e
skip-cost end_record body e = refl
skip-cost choice_record body e = refl
skip-cost next_arm_record body e = refl

-- the row of a record, from what is read at its offset
pub row_is : {sheet : List ℕ} {count n at : ℕ} (g : RecordAt sheet count n at) {byte : ℕ} → byte ≡ get_or sheet at 0 → {body : List ℕ} → body ≡ body_at sheet at →
    {role : Role} {numbered first second skip end loops enclosing frame depth offset : ℕ} {here : Nesting} → role ≡ role_of_byte byte → numbered ≡ role_number role →
    first ≡ cost_in byte body 0 → second ≡ cost_in byte body 2 → skip ≡ skip_cost_in byte body → end ≡ end_of_role role n (drop (n + 1) (records_of sheet)) % 2 ^ 16 →
    frame ≡ here.size % 2 ^ 16 → depth ≡ here.depth % 2 ^ 16 → offset ≡ at % 2 ^ 16 →
    (p : Position) → AtPosition p n at loops enclosing here →
    record { role = numbered; first = first; second = second; end = end; enclosing = enclosing; frame = frame; depth = depth; loops = loops; offset = offset; skip = skip }
    ≡ row_at p (get_or (records_of sheet) n end_record) (drop (n + 1) (records_of sheet))
unfolding row_at nesting_of
row_is {sheet} {count} {n} {at} g {byte} b {body} bs {role} {numbered} {first} {second} {skip} {end} {loops} {enclosing} {frame} {depth} {offset} {here} r rn f s k e fr de o p q =
    let this : Record = get_or (records_of sheet) n end_record in
    let rest : List Record = drop (n + 1) (records_of sheet) in
    let number : byte ≡ kind_number (kind this) = b ∙ kind-read g in
    let decoded = (stands-there g).decoded in
    let is-role : role ≡ role_of this = role-read g b r in
    let role-numbered : numbered ≡ role_number (role_of this) = rn ∙ ap role_number is-role in
    let one : first ≡ first_cost this = f ∙ ap₂ (λ (k : ℕ) (l : List ℕ). cost_in k l 0) number bs ∙ first-cost this (body_at sheet at) decoded in
    let two : second ≡ second_cost this = s ∙ ap₂ (λ (k : ℕ) (l : List ℕ). cost_in k l 2) number bs ∙ second-cost this (body_at sheet at) decoded in
    let passed : skip ≡ skip_cost this = k ∙ ap₂ skip_cost_in number bs ∙ skip-cost this (body_at sheet at) decoded in
    let size : length rest ≡ length (records_of sheet) - (n + 1) = length-drop (n + 1) (records_of sheet) in
    let small : end_number n this rest < 2 ^ 16 = omega (arith, end-inside this rest n, size, few-records sheet, present g) in
    let last : end ≡ end_number p.number this rest =
    e ∙ ap (λ (m : ℕ). m % 2 ^ 16) (ap (λ (m : Role). end_of_role m n rest) is-role ∙ end-by-role this n rest) ∙ mod-eq_of_lt small
    ∙ ap (λ (m : ℕ). end_number m this rest) q.number_is in
    let open-now : frame ≡ length p.opens =
    fr ∙ ap (λ (x : Nesting). x.size % 2 ^ 16) q.opens_are ∙ mod-eq_of_lt (let h : length p.opens < 2 ^ 16 = omega (arith, q.few_open) in h) in
    let deep : depth ≡ loop_depth p.opens =
    de ∙ ap (λ (x : Nesting). x.depth % 2 ^ 16) q.opens_are ∙ mod-eq_of_lt (let h : loop_depth p.opens < 2 ^ 16 = omega (arith, q.few_open, depth-at-most p.opens) in h) in
    let stands : offset ≡ p.offset = o ∙ mod-eq_of_lt (offset-small g) ∙ q.offset_is in
    λ t. record {
      role = role-numbered t;
      first = one t;
      second = two t;
      end = last t;
      enclosing = q.enclosing_is t;
      frame = open-now t;
      depth = deep t;
      loops = q.loops_are t;
      offset = stands t;
      skip = passed t;
    }

-- ---- the rows laid so far

by_number : (os : List Open) (r : Record) → open_after_kind os (kind_number (kind r)) ≡ open_after os r
unfolding open_after_kind open_after_as
by_number os r = ap (open_after_as os) (kind_of-kind_number (kind r)) ∙ go r
  where
    go : (r : Record) → open_after os (decode_record (kind r) []) ≡ open_after os r
    go (work_record least most) = unfold open_after decode_record kind in refl
    go (loop_record l) = unfold open_after decode_record kind in refl
    go end_record = unfold decode_record kind in refl
    go choice_record = unfold decode_record kind in refl
    go next_arm_record = unfold decode_record kind in refl

-- what is open after record n
pub opens-next : (sheet : List ℕ) (n : ℕ) → n < length (records_of sheet) →
    open_after_kind (opens_through [] (take n (records_of sheet))) (kind_number (kind (get_or (records_of sheet) n end_record)))
    ≡ some (opens_through [] (take (n + 1) (records_of sheet)))
unfolding InPlace
opens-next sheet n there =
    let rs : List Record = records_of sheet in
    let this : Record = get_or rs n end_record in
    let os : List Open = opens_through [] (take n rs) in
    let placed = in-place-through (take n rs) (this ∷ drop (suc n) rs) [] (subst (InPlace []) (around sheet n there) (records-in-place sheet)) in
    by_number os this ∙ placed.1
    ∙ ap some (sym (opens-in-place os placed.0 this placed.1) ∙ sym (opens-one-more (take n rs) this []) ∙ ap (opens_through []) (sym (one_more sheet n there)))

pub record Laying (sheet : List ℕ) (count : ℕ) (before rows : List ℕ) (at loops enclosing : ℕ) (here : Nesting) (n : ℕ) : Type 0 where
  pub all : count ≡ length (records_of sheet)
  pub so_far : n ≤ count
  pub loops-few : loops ≤ n
  pub position : AtPosition (position_after (take n (records_of sheet))) n at loops enclosing here
  pub rows_so_far : rows ≡ laid before (records_of sheet) n

pub laying-start : {sheet : List ℕ} {count : ℕ} (before : List ℕ) {here : Nesting} → count ≡ length (records_of sheet) → here ≡ nesting_of [] →
    Laying sheet count before before 0 0 0 here 0
unfolding sheet_length numbers_through innermost opens_through loops_through joined
laying-start before all fresh = record {
  all = all;
  so_far = omega arith;
  loops-few = omega arith;
  position = record { number_is = refl; offset_is = refl; loops_are = refl; enclosing_is = refl; opens_are = fresh; few_open = omega arith };
  rows_so_far = sym (stored-none before);
}

module _ {sheet : List ℕ} {count : ℕ} {before rows : List ℕ} {at loops enclosing : ℕ} {here : Nesting} {n : ℕ}
    (g : Laying sheet count before rows at loops enclosing here n) where
  abbrev rs : List Record
  rs = records_of sheet

  count-rows : length (rows_of rs) ≡ length rs
  unfolding rows_of
  count-rows = rows-length rs sheet_start

  pub laying-done : count ≤ n → rows ≡ stored_in before (rows_stored rs)
  unfolding rows_stored
  laying-done h = g.rows_so_far ∙ ap (λ (l : List Row). stored_in before (joined row_numbers l)) (take_all n (rows_of rs) (omega (arith, g.all, count-rows)))

  module _ (more : n < count) where
    pub laying-at : RecordAt sheet count n at
    laying-at = record { all = g.all; there = more; offset = g.position.offset_is }

    abbrev current : Record
    current = get_or rs n end_record

    size : length (take n rs) ≡ n
    size = length-take-le n rs (omega (arith, g.all))

    module _ {row : Row} (is : row ≡ row_at (position_after (take n rs)) current (drop (n + 1) rs)) where
      row-of-n : row ≡ get_or (rows_of rs) n blank_row
      row-of-n =
          is ∙ ap (λ (m : ℕ). row_at (position_after (take n rs)) current (drop m rs)) (add-one n)
          ∙ sym (row-at (take n rs) current (drop (suc n) rs) blank_row)
          ∙ ap₂ (λ (xs : List Record) (m : ℕ). get_or (rows_of xs) m blank_row) (sym (around sheet n (present laying-at))) size

      laid_next : paste rows (row_from n) (row_numbers row) row_width ≡ laid before rs (n + 1)
      laid_next =
          let inside : n < length (rows_of rs) = omega (arith, present laying-at, count-rows) in
          let long : n ≡ length (take n (rows_of rs)) = sym (length-take-le n (rows_of rs) (omega (arith, inside))) in
          ap₂ (λ (l : List ℕ) (r : Row). paste l (row_from n) (row_numbers r) row_width) g.rows_so_far row-of-n
          ∙ row_next before (take n (rows_of rs)) n (get_or (rows_of rs) n blank_row) long (omega (arith, present laying-at, few-records sheet))
          ∙ ap (λ (l : List Row). stored_in before (joined row_numbers l)) (sym (take-suc (rows_of rs) n blank_row inside) ∙ ap (λ (m : ℕ). take m (rows_of rs)) (sym (add-one n)))

      module _ {rows2 : List ℕ} (stored : rows2 ≡ paste rows (row_from n) (row_numbers row) row_width) {byte : ℕ} {role : Role}
          (b : byte ≡ get_or sheet at 0) (r : role ≡ role_of_byte byte) where
        inners-there : InnersKnown rows2 (numbers_through 0 [] (take n rs))
        inners-there =
            subst (λ (l : List ℕ). InnersKnown l (numbers_through 0 [] (take n rs))) (sym (stored ∙ laid_next))
            (inners-known before rs n (present laying-at) (few-records sheet))

        pub laying-next : {enclosing2 loops2 : ℕ} → enclosing2 ≡ enclosing_after_role rows2 role n enclosing → loops2 ≡ loops_after_role role loops →
            {here2 : Nesting} → ((os us : List Open) → here ≡ nesting_of os → open_after_kind os byte ≡ some us → here2 ≡ nesting_of us) →
            {long : ℕ} → long ≡ length_of_kind byte → Laying sheet count before rows2 (at + (1 + long)) loops2 enclosing2 here2 (n + 1)
        laying-next {enclosing2} {loops2} e l {here2} h k =
            let now : AtPosition (position_after (take n rs)) n at loops enclosing here = g.position in
            let known : role ≡ role_of current = role-read laying-at b r in
            let longer = one_more sheet n (present laying-at) in
            let number : length (take (n + 1) rs) ≡ n + 1 = length-take-le (n + 1) rs (omega (arith, g.all)) in
            let kinds : open_after_kind (opens_through [] (take n rs)) byte ≡ some (opens_through [] (take (n + 1) rs)) =
            ap (open_after_kind (opens_through [] (take n rs))) (b ∙ kind-read laying-at) ∙ opens-next sheet n (present laying-at) in
            let whole : InPlace [] (take (n + 1) rs ++ drop (n + 1) rs) = subst (InPlace []) (sym (take-append-drop (n + 1) rs)) (records-in-place sheet) in
            record {
              all = g.all;
              so_far = omega arith;
              loops-few = omega (arith, g.loops-few, l, loops-more role loops);
              position = record {
                number_is = sym number;
                offset_is = next-by-kind laying-at b k;
                loops_are =
                    l ∙ ap₂ loops_after_role known now.loops_are ∙ loops-by-role current (loops_through 0 (take n rs))
                    ∙ sym (ap (loops_through 0) longer ∙ loops-append (take n rs) (current ∷ []) 0 ∙ (unfold loops_through in refl));
                enclosing_is =
                    e ∙ ap₂ (λ (m : Role) (i : ℕ). enclosing_after_role rows2 m n i) known now.enclosing_is
                    ∙ enclosing-by-role rows2 current n (numbers_through 0 [] (take n rs)) inners-there
                    ∙ ap (λ (m : ℕ). innermost (numbers_after m (numbers_through 0 [] (take n rs)) current)) (let z : n ≡ 0 + length (take n rs) = omega (arith, size) in z)
                    ∙ ap innermost (sym (numbers-one-more (take n rs) current 0 []) ∙ ap (numbers_through 0 []) (sym longer));
                opens_are = h (opens_through [] (take n rs)) (opens_through [] (take (n + 1) rs)) now.opens_are kinds;
                few_open = opens-few (take (n + 1) rs) (drop (n + 1) rs) [] whole (omega arith);
              };
              rows_so_far = stored ∙ laid_next;
            }
