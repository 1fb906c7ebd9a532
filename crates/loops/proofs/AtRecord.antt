-- What is known at a record of a sheet that was read: its facts, the open loops and how large their numbers are, what its row says.
use mathlib.Core.List.{◌++◌, List, [], map, ◌∷◌}
use mathlib.Core.Bool.{Bool, false, true}
use mathlib.Core.Option.{Option, none}
use mathlib.Core.Path.{ap, ap₂, refl, subst, sym, ◌∙◌, ◌≡◌}
use Prim.Native.Nat.{◌+◌, ◌<◌, suc, zero, ℕ, ◌≤◌}
use native.Mathlib.Omega.{arith}
use borrow.Author.Tests.{ltb-false, ltb-true}
use lib.ListN.{get_or-eq_default, drop, get_or, length, length-take, take}
use lib.Dec.{T, ltb, eqb}
use lib.Seq.{length-take-le}
use lib.IntN.{ℤ}
use Rattle.meaning.specs.Record.{Loop, is_given, Open, Record, fields_in_range, kind, kind_number, loop_depth, loop_kind, decode_record, open_choice, open_loop, sheet_length}
use Rattle.meaning.specs.Record.{choice_record, end_record, loop_record, next_arm_record, work_record}
use Rattle.meaning.specs.Range.{Range}
use Rattle.meaning.specs.Reader.{body_at}
use Rattle.meaning.specs.Limits.{depth_limit, record_limit, stride_limit}
use Rattle.meaning.proofs.Accepted.{InPlace, LoopInRange, loop-in-range}
use Rattle.meaning.proofs.RecordReader.{StandsAt}
use Rattle.form.proofs.FormLaws.{NumbersWithin, RangesWithin}
use Rattle.sheet.specs.Sheets.{records_of}
use Rattle.sheet.proofs.SheetRecords.{around, few-records, one_more, record-stands, records-in-place, kind-there}
use Rattle.records.proofs.ByKind.{skip-by-number}
use Rattle.layout.specs.declared.rows.Row.{Row}
use Rattle.layout.specs.Rows.{loop_at, offset_at, role_at, role_number, role_of, role_of_kind}
use Rattle.layout.specs.Loops.{loop_limit}
use Rattle.layout.proofs.Reading.{blank_row}
use Rattle.nest.specs.Known.{RowsHeld}
use Rattle.nest.specs.Walk.{opens_after}
use Rattle.nest.specs.Rows.{row_at, rows_of}
use Rattle.nest.proofs.RowsOf.{get_d-from, row-at}
use Rattle.nest.proofs.Places.{in-place-through, loop-in-place}
use Rattle.nest.proofs.RowsRead.{loop-number-small, loop-reads, offset-reads, role-reads}
use Rattle.nest.proofs.Walks.{loops_through, opens-one-more, opens_through}
use Rattle.loops.specs.declared.forms.Around.{Around}
use Rattle.loops.specs.Enclosing.{Enclosing, enclosing_after, loops_around, nothing_open}
use Rattle.loops.specs.Reckoned.{FourSmall}
use Rattle.loops.specs.Facts.{LoopFacts, facts_at, facts_from, loops_in, sheet_facts}
use Rattle.loops.proofs.Sizes.{AllRising, Rising, SmallEnclosing, SmallParameters, fixed_limit, nothing-small, reach, sizes, small-through, sum}
use Rattle.loops.proofs.Holding.{Holding, Small, holding-left, holding-same}
use Rattle.loops.proofs.Enclosings.{OpenLoops, enclosing-one-more, nothing-open, open-loops-through}
use Rattle.loops.proofs.Facts.{facts-after, facts-length, facts-take, loops-counted}

-- ---- sizes

pub four-small : (ps : List ℤ) → FourSmall ps → SmallParameters ps
unfolding SmallParameters sum
four-small [] f = absurd (omega (arith, f.count))
four-small (a ∷ []) f = absurd (omega (arith, f.count))
four-small (a ∷ b ∷ []) f = absurd (omega (arith, f.count))
four-small (a ∷ b ∷ c ∷ []) f = absurd (omega (arith, f.count))
four-small (a ∷ b ∷ c ∷ d ∷ []) f =
    let p = f.small 0 in let q = f.small 1 in let r = f.small 2 in let s = f.small 3 in
    omega arith
four-small (a ∷ b ∷ c ∷ d ∷ x ∷ rest) f = absurd (omega (arith, f.count))

within-numbers : (b : ℕ) (xs : List ℤ) → b ≤ fixed_limit → length xs ≤ depth_limit → Rising b (sizes xs) → NumbersWithin xs
unfolding Rising NumbersWithin
within-numbers b [] l n h = tt
within-numbers b (x ∷ []) l n (p, h) = (omega arith, tt)
within-numbers b (x ∷ y ∷ []) l n (p, (q, h)) = (omega arith, (omega arith, tt))
within-numbers b (x ∷ y ∷ z ∷ []) l n (p, (q, (r, h))) = (omega arith, (omega arith, (omega arith, tt)))
within-numbers b (x ∷ y ∷ z ∷ w ∷ []) l n (p, (q, (r, (s, h)))) = (omega arith, (omega arith, (omega arith, (omega arith, tt))))
within-numbers b (x ∷ y ∷ z ∷ w ∷ v ∷ rest) l n h = absurd (omega arith)

within-ranges : (rs : List Range) → length rs ≤ depth_limit → Rising fixed_limit (map reach rs) → RangesWithin rs
unfolding Rising RangesWithin
within-ranges [] n h = tt
within-ranges (x ∷ []) n (p, h) = (omega arith, (omega arith, tt))
within-ranges (x ∷ y ∷ []) n (p, (q, h)) = (omega arith, (omega arith, (omega arith, (omega arith, tt))))
within-ranges (x ∷ y ∷ z ∷ []) n (p, (q, (r, h))) = (omega arith, (omega arith, (omega arith, (omega arith, (omega arith, (omega arith, tt))))))
within-ranges (x ∷ y ∷ z ∷ w ∷ []) n (p, (q, (r, (s, h)))) =
    (omega arith, (omega arith, (omega arith, (omega arith, (omega arith, (omega arith, (omega arith, (omega arith, tt))))))))
within-ranges (x ∷ y ∷ z ∷ w ∷ v ∷ rest) n h = absurd (omega arith)

row-rising : (b m : ℕ) (rows : List (List ℤ)) → AllRising b rows → Rising b (sizes (get_or rows m []))
unfolding AllRising Rising
row-rising b m [] h = tt
row-rising b zero (r ∷ rows) h = h.0
row-rising b (suc m) (r ∷ rows) h = row-rising b m rows h.1

module _ {os : List Open} {e : Enclosing} {a : Around} {pushes : List (List ℤ)} (h : Holding os e a pushes) (o : OpenLoops os e) (shallow : loop_depth os ≤ depth_limit) where
  row-short : (m : ℕ) → length (get_or e.pushes m []) ≤ depth_limit
  row-short m = go (ltb m (loop_depth os)) refl
    where
      go : (t : Bool) → ltb m (loop_depth os) ≡ t → length (get_or e.pushes m []) ≤ depth_limit
      go true t = omega (arith, ap length (h.rows m (ltb-true m (loop_depth os) t)), length-take (loop_depth os) (get_or pushes m []))
      go false t = omega (arith, ap length (get_or-eq_default e.pushes [] {n = m} (omega (arith, ltb-false m (loop_depth os) t, o.push_count))))

  pub small_open : (ps : List ℤ) → FourSmall ps → SmallEnclosing e → Small ps e
  small_open ps four s = record {
    parameters_small = four-small ps four;
    ranges_small = within-ranges e.ranges (omega (arith, o.range_count)) s.ranges_small;
    starts_small = within-numbers fixed_limit e.starts (omega arith) (omega (arith, o.start_count)) s.starts_small;
    rows_small = λ m. within-numbers stride_limit (get_or e.pushes m []) (omega arith) (row-short m) (row-rising stride_limit m e.pushes s.pushes_small);
  }

-- ---- the facts of a record

pub in-range-of : (l : Loop) (rs : List Record) (os : List Open) → InPlace os (loop_record l ∷ rs) → T (fields_in_range os (loop_record l))
unfolding InPlace
in-range-of l rs os h = h.2

-- over a record that is no loop
pub holding-over : (ps : List ℤ) (os : List Open) (e : Enclosing) (a : Around) (pushes : List (List ℤ)) (r : Record) → (role_number (role_of r) ≡ 1 → ⊥) →
    loop_depth os ≤ depth_limit → OpenLoops os e → Holding os e a pushes →
    Holding (opens_after os r) (enclosing_after ps os e r) a pushes × (loop_depth (opens_after os r) ≤ depth_limit)
unfolding role_number role_of role_of_kind kind opens_after enclosing_after loop_depth
holding-over ps os e a pushes (work_record least most) n s o h = (h, s)
holding-over ps os e a pushes (loop_record l) n s o h = absurd (n refl)
holding-over ps [] e a pushes end_record n s o h = (h, s)
holding-over ps (open_loop ∷ os) e a pushes end_record n s o h = (holding-left os e a pushes h o (omega arith), omega arith)
holding-over ps (open_choice ∷ os) e a pushes end_record n s o h = (holding-same os e a pushes (open_choice ∷ os) refl h, s)
holding-over ps os e a pushes choice_record n s o h = (holding-same (open_choice ∷ os) e a pushes os refl h, s)
holding-over ps os e a pushes next_arm_record n s o h = (h, s)

pub no-facts : (ps : List ℤ) (os : List Open) (e : Enclosing) (r : Record) → (role_number (role_of r) ≡ 1 → ⊥) → facts_at ps os e r ≡ none
unfolding role_number role_of role_of_kind kind facts_at
no-facts ps os e (work_record least most) n = refl
no-facts ps os e (loop_record l) n = absurd (n refl)
no-facts ps os e end_record n = refl
no-facts ps os e choice_record n = refl
no-facts ps os e next_arm_record n = refl

pub loop-there : (r : Record) → role_number (role_of r) ≡ 1 → (l : Loop) × (r ≡ loop_record l)
unfolding role_number role_of role_of_kind kind
loop-there (work_record least most) e = absurd (omega arith)
loop-there (loop_record l) e = (l, refl)
loop-there end_record e = absurd (omega arith)
loop-there choice_record e = absurd (omega arith)
loop-there next_arm_record e = absurd (omega arith)

module _ (sheet : List ℕ) (ps : List ℤ) where
  abbrev rs : List Record
  rs = records_of sheet

  abbrev facts : List (Option LoopFacts)
  facts = sheet_facts ps (records_of sheet)

  pub facts-count : length facts ≡ length rs
  unfolding sheet_facts
  facts-count = facts-length ps [] nothing_open rs

  module _ (n : ℕ) (there : n < length rs) where
    abbrev current : Record
    current = get_or (records_of sheet) n end_record

    abbrev opens_at : List Open
    opens_at = opens_through [] (take n (records_of sheet))

    abbrev loops_at : Enclosing
    loops_at = loops_around ps (take n (records_of sheet))

    pub records-before : length (take n rs) ≡ n
    records-before = length-take-le n rs (omega (arith, there))

    pub fact-at : get_or facts n none ≡ facts_at ps opens_at loops_at current
    unfolding sheet_facts facts_from
    fact-at =
        get_d-from n facts none
        ∙ ap (λ (l : List (Option LoopFacts)). get_or l 0 none)
        (ap₂ (λ (m : ℕ) (xs : List Record). drop m (facts_from ps [] nothing_open xs)) (sym records-before) (around sheet n there)
        ∙ facts-after ps (take n rs) (current ∷ drop (suc n) rs) [] nothing_open)

    -- the records before it, itself and those after it
    pub split-in-place : InPlace [] (take n rs ++ (current ∷ drop (suc n) rs))
    split-in-place = subst (InPlace []) (around sheet n there) (records-in-place sheet)

    pub few-at : length (take n rs ++ (current ∷ drop (suc n) rs)) ≤ record_limit
    few-at = subst (λ (xs : List Record). length xs ≤ record_limit) (around sheet n there) (few-records sheet)

    placed : InPlace opens_at (current ∷ drop (suc n) rs)
    placed = in-place-through (take n rs) (current ∷ drop (suc n) rs) [] split-in-place

    pub opens-step : opens_after opens_at current ≡ opens_through [] (take (n + 1) rs)
    opens-step = sym (opens-one-more (take n rs) current []) ∙ ap (opens_through []) (sym (one_more sheet n there))

    pub loops-step : enclosing_after ps opens_at loops_at current ≡ loops_around ps (take (n + 1) rs)
    loops-step = sym (enclosing-one-more ps (take n rs) current [] nothing_open) ∙ ap (loops_around ps) (sym (one_more sheet n there))

    pub open-loops-at : OpenLoops opens_at loops_at
    open-loops-at = open-loops-through ps (take n rs) [] nothing_open nothing-open

    pub small_at : FourSmall ps → SmallEnclosing loops_at
    small_at four = small-through ps (four-small ps four) (take n rs) (current ∷ drop (suc n) rs) [] nothing_open split-in-place nothing-small

    -- how many loops were stored before it
    loops-before : length (loops_in (take n facts)) ≡ loops_through 0 (take n rs)
    unfolding sheet_facts
    loops-before = ap (λ (fs : List (Option LoopFacts)). length (loops_in fs)) (facts-take ps n rs [] nothing_open) ∙ loops-counted ps (take n rs) [] nothing_open

    -- what its row says
    module _ {rows : List ℕ} (held : RowsHeld rows rs) where
      pub rows_at : RowsHeld rows (take n rs ++ (current ∷ drop (suc n) rs))
      rows_at = subst (RowsHeld rows) (around sheet n there) held

      pub role-is : role_at rows n ≡ role_number (role_of current)
      role-is = ap (role_at rows) (sym records-before) ∙ role-reads (take n rs) current (drop (suc n) rs) rows_at few-at

      pub offset-is : offset_at rows n ≡ sheet_length (take n rs)
      offset-is = ap (offset_at rows) (sym records-before) ∙ offset-reads (take n rs) current (drop (suc n) rs) rows_at few-at

      pub row-offset : offset_at rows n ≡ (get_or (rows_of rs) n blank_row).offset
      unfolding row_at
      row-offset =
          offset-is
          ∙ ap (λ (r : Row). r.offset) (sym (row-at (take n rs) current (drop (suc n) rs) blank_row))
          ∙ ap₂ (λ (xs : List Record) (m : ℕ). (get_or (rows_of xs) m blank_row).offset) (sym (around sheet n there)) records-before

      -- a loop's number among the loops
      pub number_is : (l : Loop) → current ≡ loop_record l → (loop_at rows n ≡ length (loops_in (take n facts))) × (loop_at rows n < loop_limit)
      number_is l e =
          let place = subst (λ (r : Record). InPlace [] (take n rs ++ (r ∷ drop (suc n) rs))) e split-in-place in
          let here = subst (λ (r : Record). RowsHeld rows (take n rs ++ (r ∷ drop (suc n) rs))) e rows_at in
          let few = subst (λ (r : Record). length (take n rs ++ (r ∷ drop (suc n) rs)) ≤ record_limit) e few-at in
          let reads = ap (loop_at rows) (sym records-before) ∙ loop-reads (take n rs) l (drop (suc n) rs) here place few in
          (reads ∙ sym loops-before, omega (arith, reads, loop-number-small (take n rs) l (drop (suc n) rs) place few))

    pub loop-placed : (l : Loop) → current ≡ loop_record l → LoopInRange (loop_depth opens_at) l × (loop_depth opens_at < depth_limit)
    loop-placed l e =
        let here = subst (λ (r : Record). InPlace opens_at (r ∷ drop (suc n) rs)) e placed in
        (loop-in-range opens_at l (in-range-of l (drop (suc n) rs) opens_at here), (loop-in-place l (drop (suc n) rs) opens_at here).0)

    -- what is read of a loop's record
    pub source_is : (l : Loop) → current ≡ loop_record l → (at : ℕ) → at ≡ sheet_length (take n rs) →
        decode_record (loop_kind (eqb (get_or sheet at 0) 6)) (body_at sheet at) ≡ loop_record l
    unfolding kind
    source_is l e at o =
        let stands = subst (λ (m : ℕ). StandsAt sheet m current) (sym o) (record-stands sheet n there) in
        let byte : get_or sheet at 0 ≡ kind_number (kind (loop_record l)) = ap (λ (m : ℕ). get_or sheet m 0) o ∙ kind-there sheet n there ∙ ap (λ (r : Record). kind_number (kind r)) e in
        ap (λ (m : ℕ). decode_record (loop_kind (eqb m 6)) (body_at sheet at)) byte
        ∙ ap (λ (s : Bool). decode_record (loop_kind s) (body_at sheet at)) (skip-by-number (is_given l.skip))
        ∙ subst (λ (r : Record). decode_record (kind r) (body_at sheet at) ≡ r) e stands.decoded
