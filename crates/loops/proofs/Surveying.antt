-- The walk that stores what the parameters make of the loops: what it carries from one record to the next, and what is stored so far.
use mathlib.Core.List.{◌++◌, List, [], append-nil, map, map-append, ◌∷◌, append_assoc}
use mathlib.Core.Bool.{Bool, cond, false, true}
use mathlib.Core.Option.{Option, some, none}
use mathlib.Core.Path.{ap, ap₂, refl, subst, sym, ◌∙◌, ◌≡◌}
use Prim.Native.Nat.{◌+◌, ◌<◌, suc, ℕ, ◌≤◌, ◌^◌}
use native.Mathlib.Numerals.{add-one}
use native.Mathlib.Omega.{arith}
use lib.ListN.{drop, drop_of_length-le, get_or, length, length-map, replicate, take}
use lib.Seq.{drop-cons, paste, take-suc}
use lib.Dec.{ltb, eqb}
use lib.IntN.{ℤ}
use Rattle.meaning.specs.Form.{Form}
use Rattle.meaning.specs.Record.{Loop, counts_down, Open, Record, end_record, kind, kind_number, loop_depth, loop_record, open_loop, sheet_length, decode_record, loop_kind}
use Rattle.meaning.specs.Limits.{ceiling_limit, depth_limit}
use Rattle.meaning.specs.Report.{or_else}
use Rattle.meaning.specs.Reader.{body_at}
use Rattle.meaning.proofs.Accepted.{LoopInRange}
use Rattle.meaning.proofs.Logic.{none-is-not-some}
use Rattle.form.specs.Forms.{folded, wide_form}
use Rattle.sheet.specs.declared.nesting.Nesting.{Nesting}
use Rattle.sheet.specs.Nestings.{nesting_of, open_after_kind}
use Rattle.sheet.specs.Sheets.{records_of}
use Rattle.sheet.proofs.SheetRecords.{kind-there}
use Rattle.layout.specs.declared.rows.Row.{Row}
use Rattle.layout.specs.Loops.{difference_from, difference_width, fact_from, fact_numbers, fact_width, loop_limit}
use Rattle.layout.specs.Numbers.{joined, stored_in}
use Rattle.layout.specs.Rows.{loop_at, offset_at, role_at, role_number, role_of}
use Rattle.layout.proofs.Reading.{blank_row, facts-next, words-next}
use Rattle.layout.proofs.Storing.{stored-none}
use Rattle.nest.specs.Known.{RowsHeld}
use Rattle.nest.specs.Walk.{opens_after}
use Rattle.nest.specs.Rows.{rows_of, sheet_start}
use Rattle.nest.proofs.RowWalk.{opens-next}
use Rattle.nest.proofs.Walks.{opens_through}
use Rattle.nest.proofs.RowsOf.{rows-length}
use Rattle.loops.specs.declared.forms.Around.{Around}
use Rattle.loops.specs.declared.forms.Barred.{Barred}
use Rattle.loops.specs.declared.forms.Forms.{Forms}
use Rattle.loops.specs.Enclosing.{Enclosing, enclosing_after, enclosing_through, enter, loops_around}
use Rattle.loops.specs.Forms.{FormsOf}
use Rattle.loops.specs.Reckoned.{FourSmall, around_with, barred_by, ceiling_within, fact_within, loop_words, pushes_with}
use Rattle.loops.specs.Facts.{LoopFacts, fact_of, facts_at, facts_stored, loop_facts, loops_in, over_ceiling, sheet_facts, words_of, words_stored, within_ceiling}
use Rattle.loops.proofs.Holding.{Holding, Small, ceiling-of-loop, fact-of-loop, holding-entered, holding-start, no_numbers, words-of-loop}
use Rattle.loops.proofs.AtRecord.{fact-at, facts-count, loop-placed, loop-there, no-facts, number_is, offset-is, role-is, row-offset, source_is}
use Rattle.loops.proofs.AtRecord.{holding-over, loops-step, open-loops-at, opens-step, small_at, small_open}
use Rattle.loops.proofs.Sizes.{stride-moves}
use Rattle.loops.proofs.Choices.{choice_depth-small, rank-closing}
use Rattle.loops.proofs.LoopsRead.{loops-append-in, words-wide}
use Rattle.layout.specs.declared.facts.Fact.{Fact}

-- ---- the first ceiling above the limit

module _ (rows : List Row) (facts : List (Option LoopFacts)) (n : ℕ) (in_rows : n < length rows) (in_facts : n < length facts) where
  over-both : over_ceiling (drop n rows) (drop n facts) ≡ over_ceiling (get_or rows n blank_row ∷ drop (suc n) rows) (get_or facts n none ∷ drop (suc n) facts)
  over-both = ap₂ over_ceiling (drop-cons rows n blank_row in_rows) (drop-cons facts n none in_facts)

  over_none : get_or facts n none ≡ none → over_ceiling (drop n rows) (drop n facts) ≡ over_ceiling (drop (suc n) rows) (drop (suc n) facts)
  unfolding over_ceiling
  over_none e = over-both ∙ ap (λ (f : Option LoopFacts). over_ceiling (get_or rows n blank_row ∷ drop (suc n) rows) (f ∷ drop (suc n) facts)) e

  over-some : (f : LoopFacts) → get_or facts n none ≡ some f →
      over_ceiling (drop n rows) (drop n facts)
      ≡ or_else (ltb ceiling_limit f.ceiling) (get_or rows n blank_row).offset (over_ceiling (drop (suc n) rows) (drop (suc n) facts))
  unfolding over_ceiling
  over-some f e = over-both ∙ ap (λ (g : Option LoopFacts). over_ceiling (get_or rows n blank_row ∷ drop (suc n) rows) (g ∷ drop (suc n) facts)) e

-- the loops before it
within-next : (facts : List (Option LoopFacts)) (n : ℕ) → n < length facts → within_ceiling facts ≡ loops_in (take n facts) ++ within_ceiling (drop n facts) →
    (f : Option LoopFacts) → get_or facts n none ≡ f → within_ceiling facts ≡ loops_in (take n facts) ++ within_ceiling (f ∷ drop (suc n) facts)
within-next facts n inside e f is =
    e ∙ ap (λ (l : List (Option LoopFacts)). loops_in (take n facts) ++ within_ceiling l) (drop-cons facts n none inside ∙ ap (λ (o : Option LoopFacts). o ∷ drop (suc n) facts) is)

-- all of them where none is above the limit
pub within_all : (rows : List Row) (facts : List (Option LoopFacts)) → length rows ≡ length facts → over_ceiling rows facts ≡ none → within_ceiling facts ≡ loops_in facts
unfolding over_ceiling within_ceiling loops_in
within_all rows [] e h = refl
within_all [] (f ∷ facts) e h = absurd (omega arith)
within_all (r ∷ rows) (none ∷ facts) e h = within_all rows facts (omega arith) h
within_all (r ∷ rows) (some f ∷ facts) e h = go (ltb ceiling_limit f.ceiling) h (λ i. within_all rows facts (omega arith) i)
  where
    go : (t : Bool) → or_else t r.offset (over_ceiling rows facts) ≡ none → (over_ceiling rows facts ≡ none → within_ceiling facts ≡ loops_in facts) →
        cond t [] (f ∷ within_ceiling facts) ≡ f ∷ loops_in facts
    go true i on = unfold or_else in none-is-not-some (sym i)
    go false i on = unfold or_else in ap (λ l. f ∷ l) (on i)

over-end : (rows : List Row) → over_ceiling rows [] ≡ none
unfolding over_ceiling
over-end [] = refl
over-end (r ∷ rows) = refl

first-if : {A : Type 0} (c : Bool) (x y : A) → c ≡ true → cond c x y ≡ x
first-if c x y e = rw e

deeper : (os : List Open) → loop_depth os < depth_limit → loop_depth (open_loop ∷ os) ≤ depth_limit
unfolding loop_depth
deeper os h = h

-- ---- the walk

pub record Surveying (sheet : List ℕ) (count : ℕ) (ps : List ℤ) (words₀ facts₀ words facts : List ℕ) (a : Around) (pushes : List (List ℤ)) (here : Nesting)
    (n : ℕ) : Type 0 where
  pub all : count ≡ length (records_of sheet)
  pub so_far : n ≤ count
  pub words_so_far : words ≡ stored_in words₀ (words_stored (loops_in (take n (sheet_facts ps (records_of sheet)))))
  pub facts_so_far : facts ≡ stored_in facts₀ (facts_stored (loops_in (take n (sheet_facts ps (records_of sheet)))))
  pub opens : here ≡ nesting_of (opens_through [] (take n (records_of sheet)))
  pub shallow : loop_depth (opens_through [] (take n (records_of sheet))) ≤ depth_limit
  pub holding : Holding (opens_through [] (take n (records_of sheet))) (loops_around ps (take n (records_of sheet))) a pushes
  pub none_over : over_ceiling (rows_of (records_of sheet)) (sheet_facts ps (records_of sheet))
      ≡ over_ceiling (drop n (rows_of (records_of sheet))) (drop n (sheet_facts ps (records_of sheet)))
  pub within_so_far : within_ceiling (sheet_facts ps (records_of sheet))
      ≡ loops_in (take n (sheet_facts ps (records_of sheet))) ++ within_ceiling (drop n (sheet_facts ps (records_of sheet)))

pub surveying-start : {sheet : List ℕ} {count : ℕ} (ps : List ℤ) (words facts : List ℕ) {here : Nesting} → count ≡ length (records_of sheet) → here ≡ nesting_of [] →
    Surveying sheet count ps words facts words facts (record { lo = no_numbers; hi = no_numbers; starts = no_numbers }) (replicate depth_limit no_numbers) here 0
unfolding opens_through enclosing_through loop_depth loops_in words_stored facts_stored joined
surveying-start ps words facts all fresh = record {
  all = all;
  so_far = omega arith;
  words_so_far = sym (stored-none words);
  facts_so_far = sym (stored-none facts);
  opens = fresh;
  shallow = omega arith;
  holding = holding-start;
  none_over = refl;
  within_so_far = refl;
}

module _ {sheet : List ℕ} {count : ℕ} {ps : List ℤ} {words₀ facts₀ words facts : List ℕ} {a : Around} {pushes : List (List ℤ)} {here : Nesting} {n : ℕ}
    (g : Surveying sheet count ps words₀ facts₀ words facts a pushes here n) where
  abbrev rs : List Record
  rs = records_of sheet

  abbrev all_facts : List (Option LoopFacts)
  all_facts = sheet_facts ps (records_of sheet)

  abbrev all_rows : List Row
  all_rows = rows_of (records_of sheet)

  rows-count : length all_rows ≡ length rs
  unfolding rows_of
  rows-count = rows-length rs sheet_start

  -- what the walk answers
  abbrev Answer : List ℕ → List ℕ → Option ℕ → Type 0
  Answer words2 facts2 found = (found ≡ over_ceiling all_rows all_facts)
      × ((words2 ≡ stored_in words₀ (words_stored (within_ceiling all_facts))) × (facts2 ≡ stored_in facts₀ (facts_stored (within_ceiling all_facts))))

  pub surveying-done : count ≤ n → Answer words facts none
  surveying-done h =
      let past : length all_facts ≤ n = omega (arith, g.all, facts-count sheet ps) in
      let none_left : drop n all_facts ≡ [] = drop_of_length-le all_facts {i = n} past in
      let whole : loops_in (take n all_facts) ≡ within_ceiling all_facts =
      sym (g.within_so_far ∙ ap (λ (l : List (Option LoopFacts)). loops_in (take n all_facts) ++ within_ceiling l) none_left ∙ (unfold within_ceiling in append-nil (loops_in (take n all_facts)))) in (
        sym (g.none_over ∙ ap (over_ceiling (drop n all_rows)) none_left ∙ over-end (drop n all_rows)),
        (
          g.words_so_far ∙ ap (λ (l : List LoopFacts). stored_in words₀ (words_stored l)) whole,
          g.facts_so_far ∙ ap (λ (l : List LoopFacts). stored_in facts₀ (facts_stored l)) whole,
        ),
      )

  module _ (more : n < count) {rows : List ℕ} (held : RowsHeld rows (records_of sheet)) where
    there : n < length rs
    there = omega (arith, g.all)

    abbrev this : Record
    this = get_or (records_of sheet) n end_record

    abbrev os : List Open
    os = opens_through [] (take n (records_of sheet))

    abbrev es : Enclosing
    es = loops_around ps (take n (records_of sheet))

    in-facts : n < length all_facts
    in-facts = omega (arith, there, facts-count sheet ps)

    in_rows : n < length all_rows
    in_rows = omega (arith, there, rows-count)

    taken : take (n + 1) all_facts ≡ take n all_facts ++ (get_or all_facts n none ∷ [])
    taken = ap (λ (m : ℕ). take m all_facts) (add-one n) ∙ take-suc all_facts n none in-facts

    surveying-role : role_at rows n ≡ role_number (role_of this)
    surveying-role = role-is sheet ps n there held

    place : {at : ℕ} → at ≡ offset_at rows n → at ≡ sheet_length (take n rs)
    place e = e ∙ offset-is sheet ps n there held

    module _ {at byte : ℕ} (at_is : at ≡ offset_at rows n) (byte_is : byte ≡ get_or sheet at 0) {here2 : Nesting}
        (after : (os us : List Open) → here ≡ nesting_of os → open_after_kind os byte ≡ some us → here2 ≡ nesting_of us) where
      opens-now : here2 ≡ nesting_of (opens_through [] (take (n + 1) rs))
      opens-now =
          let number : byte ≡ kind_number (kind this) = byte_is ∙ ap (λ (m : ℕ). get_or sheet m 0) (place at_is) ∙ kind-there sheet n there in
          after os (opens_through [] (take (n + 1) rs)) g.opens (ap (open_after_kind os) number ∙ opens-next sheet n there)

      -- another record
      pub surveying-skip : (role_at rows n ≡ 1 → ⊥) → Surveying sheet count ps words₀ facts₀ words facts a pushes here2 (n + 1)
      surveying-skip other =
          let no_loop : role_number (role_of this) ≡ 1 → ⊥ = λ e. other (surveying-role ∙ e) in
          let none_here : get_or all_facts n none ≡ none = fact-at sheet ps n there ∙ no-facts ps os es this no_loop in
          let over = holding-over ps os es a pushes this no_loop g.shallow (open-loops-at sheet ps n there) g.holding in
          let us = opens-step sheet ps n there in
          let same : loops_in (take n all_facts) ≡ loops_in (take (n + 1) all_facts) =
          sym (ap loops_in (taken ∙ ap (λ (f : Option LoopFacts). take n all_facts ++ (f ∷ [])) none_here) ∙ loops-append-in (take n all_facts) (none ∷ [])
          ∙ (unfold loops_in in append-nil (loops_in (take n all_facts)))) in
          let skips : loops_in (take n all_facts) ++ within_ceiling (none ∷ drop (suc n) all_facts) ≡ loops_in (take n all_facts) ++ within_ceiling (drop (suc n) all_facts) =
          (unfold within_ceiling in refl) in
          record {
            all = g.all;
            so_far = omega arith;
            words_so_far = g.words_so_far ∙ ap (λ (fs : List LoopFacts). stored_in words₀ (words_stored fs)) same;
            facts_so_far = g.facts_so_far ∙ ap (λ (fs : List LoopFacts). stored_in facts₀ (facts_stored fs)) same;
            opens = opens-now;
            shallow = subst (λ (us : List Open). loop_depth us ≤ depth_limit) us over.1;
            holding = subst (λ (us : List Open). Holding us (loops_around ps (take (n + 1) rs)) a pushes) us
                (subst (λ (x : Enclosing). Holding (opens_after os this) x a pushes) (loops-step sheet ps n there) over.0);
            none_over = g.none_over ∙ over_none all_rows all_facts n in_rows in-facts none_here
                ∙ ap (λ (m : ℕ). over_ceiling (drop m all_rows) (drop m all_facts)) (sym (add-one n));
            within_so_far =
                within-next all_facts n in-facts g.within_so_far none none_here ∙ skips
                ∙ ap₂ (λ (l : List LoopFacts) (m : ℕ). l ++ within_ceiling (drop m all_facts)) same (sym (add-one n));
          }

    -- a loop, from what is read of its record
    module _ (four : FourSmall ps) (is_loop : role_at rows n ≡ 1) {at : ℕ} (at_is : at ≡ offset_at rows n) {forms : Forms}
        (forms_are : (l : Loop) → decode_record (loop_kind (eqb (get_or sheet at 0) 6)) (body_at sheet at) ≡ loop_record l → FormsOf l ps forms) where
      found : (l : Loop) × (this ≡ loop_record l)
      found = loop-there this (sym surveying-role ∙ is_loop)

      abbrev l : Loop
      l = found.0

      forms-of : FormsOf l ps forms
      forms-of = forms_are l (source_is sheet ps n there l found.1 at (place at_is))

      in-range : LoopInRange (loop_depth os) l × (loop_depth os < depth_limit)
      in-range = loop-placed sheet ps n there l found.1

      pub stride-range : 0 < forms.size
      stride-range = omega (arith, forms-of.size_is, stride-moves in-range.0)

      depth_is : here.depth ≡ loop_depth os
      unfolding nesting_of
      depth_is = ap (λ (x : Nesting). x.depth) g.opens

      pub depth-range : here.depth < depth_limit
      depth-range = omega (arith, depth_is, in-range.1)

      pub barred-small : {barred : Barred} → barred ≡ barred_by os → (barred.choice < 2 ^ 16) × (barred.rank < 2 ^ 16)
      unfolding barred_by
      barred-small e =
          let choice = choice_depth-small os in
          let rank = rank-closing os in
          (omega (arith, ap (λ (b : Barred). b.choice) e, in-range.1), omega (arith, ap (λ (b : Barred). b.rank) e, in-range.1))

      small : Small ps es
      small = small_open g.holding (open-loops-at sheet ps n there) g.shallow ps four (small_at sheet ps n there four)

      abbrev fact : LoopFacts
      fact = loop_facts ps os es l

      fact-is : get_or all_facts n none ≡ some fact
      unfolding facts_at
      fact-is = fact-at sheet ps n there ∙ ap (facts_at ps os es) found.1

      ceiling-is : ceiling_within (wide_form forms.difference) forms.size a ≡ fact.ceiling
      ceiling-is =
          ap₂ (λ (f : Form) (m : ℕ). ceiling_within f m a) forms-of.difference_is forms-of.size_is
          ∙ ceiling-of-loop ps os es a pushes g.holding small (open-loops-at sheet ps n there) l in-range.0 in-range.1

      over-rest : over_ceiling all_rows all_facts
          ≡ or_else (ltb ceiling_limit (ceiling_within (wide_form forms.difference) forms.size a)) (get_or all_rows n blank_row).offset
          (over_ceiling (drop (suc n) all_rows) (drop (suc n) all_facts))
      over-rest =
          g.none_over ∙ over-some all_rows all_facts n in_rows in-facts fact fact-is
          ∙ ap (λ (m : ℕ). or_else (ltb ceiling_limit m) (get_or all_rows n blank_row).offset (over_ceiling (drop (suc n) all_rows) (drop (suc n) all_facts))) (sym ceiling-is)

      module _ {over : Bool} (over_is : over ≡ ltb ceiling_limit (ceiling_within (wide_form forms.difference) forms.size a)) where
        over-now : over_ceiling all_rows all_facts ≡ or_else over (get_or all_rows n blank_row).offset (over_ceiling (drop (suc n) all_rows) (drop (suc n) all_facts))
        over-now =
            over-rest
            ∙ ap (λ (t : Bool). or_else t (get_or all_rows n blank_row).offset (over_ceiling (drop (suc n) all_rows) (drop (suc n) all_facts))) (sym over_is)

        -- what is stored stops before a loop above the limit, and goes on with another
        test-is : over ≡ ltb ceiling_limit fact.ceiling
        test-is = over_is ∙ ap (ltb ceiling_limit) ceiling-is

        stops-over : over ≡ true → loops_in (take n all_facts) ++ within_ceiling (some fact ∷ drop (suc n) all_facts) ≡ loops_in (take n all_facts)
        unfolding within_ceiling
        stops-over above =
            ap (λ (t : Bool). loops_in (take n all_facts) ++ cond t [] (fact ∷ within_ceiling (drop (suc n) all_facts))) (sym test-is ∙ above) ∙ append-nil (loops_in (take n all_facts))

        goes_on : over ≡ false → loops_in (take n all_facts) ++ within_ceiling (some fact ∷ drop (suc n) all_facts)
            ≡ (loops_in (take n all_facts) ++ (fact ∷ [])) ++ within_ceiling (drop (suc n) all_facts)
        unfolding within_ceiling
        goes_on under =
            ap (λ (t : Bool). loops_in (take n all_facts) ++ cond t [] (fact ∷ within_ceiling (drop (suc n) all_facts))) (sym test-is ∙ under)
            ∙ sym (append_assoc (loops_in (take n all_facts)) (fact ∷ []) (within_ceiling (drop (suc n) all_facts)))

        module _ {number : ℕ} (number_read : number ≡ loop_at rows n) {barred : Barred} (barred_is : barred ≡ barred_by os) {words2 facts2 : List ℕ}
            (words_put : words2 ≡ cond over words (paste words (difference_from number) (loop_words (wide_form forms.difference) forms.size here.depth a.starts pushes) difference_width))
            (facts_put : facts2 ≡ cond over facts (paste facts (fact_from number) (fact_numbers (fact_within (wide_form forms.difference) forms.size forms.asked barred a)) fact_width))
          where
            pub surveying-over : over ≡ true → Answer words2 facts2 (some at)
            unfolding or_else
            surveying-over above =
                let whole : loops_in (take n all_facts) ≡ within_ceiling all_facts =
                sym (within-next all_facts n in-facts g.within_so_far (some fact) fact-is ∙ stops-over above) in (
                  sym (over-now ∙ ap (λ (t : Bool). or_else t (get_or all_rows n blank_row).offset (over_ceiling (drop (suc n) all_rows) (drop (suc n) all_facts))) above
                      ∙ ap some (sym (at_is ∙ row-offset sheet ps n there held))),
                  (
                    words_put ∙ first-if over words _ above ∙ g.words_so_far ∙ ap (λ (l : List LoopFacts). stored_in words₀ (words_stored l)) whole,
                    facts_put ∙ first-if over facts _ above ∙ g.facts_so_far ∙ ap (λ (l : List LoopFacts). stored_in facts₀ (facts_stored l)) whole,
                  ),
                )

            abbrev stored : List LoopFacts
            stored = loops_in (take n all_facts)

            place_is : (number ≡ length stored) × (number < loop_limit)
            place_is = let h = number_is sheet ps n there held l found.1 in (number_read ∙ h.0, omega (arith, number_read, h.1))

            one-more-stored : stored ++ (fact ∷ []) ≡ loops_in (take (n + 1) all_facts)
            unfolding loops_in
            one-more-stored =
                sym (ap loops_in (taken ∙ ap (λ (f : Option LoopFacts). take n all_facts ++ (f ∷ [])) fact-is) ∙ loops-append-in (take n all_facts) (some fact ∷ []))

            words-now : over ≡ false → words2 ≡ stored_in words₀ (words_stored (loops_in (take (n + 1) all_facts)))
            unfolding words_stored
            words-now under =
                let values : List ℕ = loop_words (wide_form forms.difference) forms.size here.depth a.starts pushes in
                let are : values ≡ words_of fact =
                (λ t. loop_words (forms-of.difference_is t) (forms-of.size_is t) (depth_is t) a.starts pushes)
                ∙ words-of-loop ps os es a pushes g.holding small (open-loops-at sheet ps n there) l in-range.0 in-range.1 in
                words_put ∙ ap (λ (t : Bool). cond t words (paste words (difference_from number) values difference_width)) under
                ∙ ap (λ (w : List ℕ). paste w (difference_from number) values difference_width) g.words_so_far
                ∙ words-next words_of words-wide words₀ stored number fact values place_is.0 place_is.1 are
                ∙ ap (λ (fs : List LoopFacts). stored_in words₀ (joined words_of fs)) one-more-stored

            facts-now : over ≡ false → facts2 ≡ stored_in facts₀ (facts_stored (loops_in (take (n + 1) all_facts)))
            unfolding facts_stored
            facts-now under =
                let known : Fact = fact_within (wide_form forms.difference) forms.size forms.asked barred a in
                let is : known ≡ fact_of fact =
                (λ t. fact_within (forms-of.difference_is t) (forms-of.size_is t) (forms-of.asked_is t) barred a)
                ∙ fact-of-loop ps os es a pushes g.holding small (open-loops-at sheet ps n there) l in-range.0 in-range.1 barred barred_is in
                facts_put ∙ ap (λ (t : Bool). cond t facts (paste facts (fact_from number) (fact_numbers known) fact_width)) under
                ∙ ap (λ (w : List ℕ). paste w (fact_from number) (fact_numbers known) fact_width) g.facts_so_far
                ∙ facts-next facts₀ (map fact_of stored) number (fact_of fact) (fact_numbers known) (place_is.0 ∙ sym (length-map stored fact_of)) place_is.1 (ap fact_numbers is)
                ∙ ap (λ (fs : List Fact). stored_in facts₀ (joined fact_numbers fs)) (sym (map-append fact_of stored (fact ∷ [])) ∙ ap (map fact_of) one-more-stored)

            pub surveying-next : over ≡ false → {byte : ℕ} → byte ≡ get_or sheet at 0 → {here2 : Nesting} →
                ((os us : List Open) → here ≡ nesting_of os → open_after_kind os byte ≡ some us → here2 ≡ nesting_of us) →
                {a2 : Around} → a2 ≡ around_with forms.down (wide_form forms.lower) (wide_form forms.upper) here.depth a →
                {pushes2 : List (List ℤ)} → pushes2 ≡ pushes_with (wide_form forms.lower) forms.stride here.depth pushes →
                Surveying sheet count ps words₀ facts₀ words2 facts2 a2 pushes2 here2 (n + 1)
            unfolding or_else opens_after enclosing_after
            surveying-next under {byte} byte_is {here2} after {a2} q {pushes2} p =
                let entered = holding-entered ps os es a pushes g.holding small (open-loops-at sheet ps n there) l in-range.0 in-range.1 in
                let inside : a2 ≡ around_with (counts_down l) (folded ps l.lower) (folded ps l.upper) (loop_depth os) a =
                q ∙ (λ t. around_with (forms-of.down_is t) (forms-of.lower_is t) (forms-of.upper_is t) (depth_is t) a) in
                let pushed : pushes2 ≡ pushes_with (folded ps l.lower) l.stride (loop_depth os) pushes =
                p ∙ (λ t. pushes_with (forms-of.lower_is t) (forms-of.stride_is t) (depth_is t) pushes) in
                let us : open_loop ∷ os ≡ opens_through [] (take (n + 1) rs) = ap (opens_after os) (sym found.1) ∙ opens-step sheet ps n there in
                let xs : enter ps l es ≡ loops_around ps (take (n + 1) rs) = ap (enclosing_after ps os es) (sym found.1) ∙ loops-step sheet ps n there in
                let held_on : Holding (open_loop ∷ os) (enter ps l es) a2 pushes2 =
                subst (λ (x : Around). Holding (open_loop ∷ os) (enter ps l es) x pushes2) (sym inside)
                (subst (Holding (open_loop ∷ os) (enter ps l es) (around_with (counts_down l) (folded ps l.lower) (folded ps l.upper) (loop_depth os) a)) (sym pushed) entered) in
                record {
                  all = g.all;
                  so_far = omega arith;
                  words_so_far = words-now under;
                  facts_so_far = facts-now under;
                  opens = opens-now at_is byte_is after;
                  shallow = subst (λ (us : List Open). loop_depth us ≤ depth_limit) us (deeper os in-range.1);
                  holding = subst (λ (us : List Open). Holding us (loops_around ps (take (n + 1) rs)) a2 pushes2) us
                      (subst (λ (x : Enclosing). Holding (open_loop ∷ os) x a2 pushes2) xs held_on);
                  none_over =
                      over-now ∙ ap (λ (t : Bool). or_else t (get_or all_rows n blank_row).offset (over_ceiling (drop (suc n) all_rows) (drop (suc n) all_facts))) under
                      ∙ ap (λ (m : ℕ). over_ceiling (drop m all_rows) (drop m all_facts)) (sym (add-one n));
                  within_so_far =
                      within-next all_facts n in-facts g.within_so_far (some fact) fact-is ∙ goes_on under
                      ∙ ap₂ (λ (l : List LoopFacts) (m : ℕ). l ++ within_ceiling (drop m all_facts)) one-more-stored (sym (add-one n));
                }
