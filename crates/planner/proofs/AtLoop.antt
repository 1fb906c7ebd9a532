-- What the rows, words and facts say of a loop and of the loops inside it.
use mathlib.Core.List.{◌++◌, List, [], ◌∷◌}
use mathlib.Core.Bool.{Bool, false, true}
use mathlib.Core.Option.{Option, none, some}
use mathlib.Core.Path.{ap, refl, subst, sym, ◌∙◌, ◌≡◌}
use Prim.Native.Nat.{◌+◌, ◌<◌, suc, zero, ℕ, ◌≤◌}
use native.Mathlib.Omega.{arith}
use borrow.Author.Tests.{ltb-false, ltb-true}
use lib.ListN.{get_or-eq_default, drop, get_or, length, length-drop, take}
use lib.Seq.{split_at}
use lib.Dec.{ltb}
use lib.IntN.{ℤ}
use Rattle.meaning.specs.Record.{Open, Record, choice_record, end_record, kind, loop_depth, loop_record, next_arm_record, work_record, Loop}
use Rattle.meaning.specs.Limits.{record_limit}
use Rattle.meaning.proofs.Logic.{none-is-not-some}
use Rattle.layout.specs.Rows.{depth_at, end_at, loop_at, loop_role, role_at, role_number, role_of, role_of_kind}
use Rattle.nest.specs.Walk.{records_inside}
use Rattle.sheet.specs.Sheets.{records_of}
use Rattle.sheet.proofs.SheetRecords.{few-records, records-in-place}
use Rattle.nest.proofs.RowsOf.{inside-at-most}
use Rattle.nest.proofs.Walks.{opens_through}
use Rattle.loops.specs.Facts.{facts_at, loop_facts, sheet_facts, LoopFacts}
use Rattle.loops.proofs.AtRecord.{fact-at, facts-count, four-small, loop-there, role-is, records-before}
use Rattle.planner.specs.Known.{KnownFacts, KnownInside, Surveyed}
use Rattle.planner.proofs.LoopRead.{loop-depth, loop-end, loop-known}
use Rattle.loops.specs.Enclosing.{Enclosing, loops_around}

loop-of-fact : (ps : List ℤ) (os : List Open) (e : Enclosing) (r : Record) (f : LoopFacts) → facts_at ps os e r ≡ some f →
    (l : Loop) × (r ≡ loop_record l) × (f ≡ loop_facts ps os e l)
unfolding facts_at
loop-of-fact ps os e (work_record least most) f h = none-is-not-some h
loop-of-fact ps os e (loop_record l) f h = (l, refl, cc)
loop-of-fact ps os e end_record f h = none-is-not-some h
loop-of-fact ps os e choice_record f h = none-is-not-some h
loop-of-fact ps os e next_arm_record f h = none-is-not-some h

-- ---- what the arrays say

module _ {sheet : List ℕ} {ps : List ℤ} {count : ℕ} {rows differences facts : List ℕ} (g : Surveyed sheet ps count rows differences facts) where
  abbrev rs : List Record
  rs = records_of sheet

  abbrev fs : List (Option LoopFacts)
  fs = sheet_facts ps (records_of sheet)

  module _ (i : ℕ) (there : i < length rs) where
    abbrev this : Record
    this = get_or (records_of sheet) i end_record

    abbrev os : List Open
    os = opens_through [] (take i (records_of sheet))

    module _ (l : Loop) (is : this ≡ loop_record l) where
      abbrev before : List Record
      before = take i (records_of sheet)

      abbrev rest : List Record
      rest = drop (suc i) (records_of sheet)

      size : length before ≡ i
      size = records-before sheet ps i there

      split : rs ≡ before ++ (loop_record l ∷ rest)
      split = split_at rs i end_record there ∙ ap (λ (r : Record). before ++ (r ∷ rest)) is

      few : length rs ≤ record_limit
      few = few-records sheet

      pub depth-there : depth_at rows i ≡ loop_depth os
      depth-there = ap (depth_at rows) (sym size) ∙ loop-depth g.sheet_is (records-in-place sheet) few before l rest split

      pub end-there : end_at rows i ≡ suc i + records_inside zero rest
      end-there =
          ap (end_at rows) (sym size) ∙ loop-end g.sheet_is (records-in-place sheet) few before l rest split ∙ ap (λ (n : ℕ). suc n + records_inside zero rest) size

      known_facts : (f : LoopFacts) → f ≡ loop_facts ps os (loops_around ps before) l → KnownFacts differences facts (loop_at rows i) f
      known_facts f same =
          let known = loop-known g.sheet_is (records-in-place sheet) few before l rest split (four-small ps g.small) in
          subst (λ (x : LoopFacts). KnownFacts differences facts (loop_at rows i) x) (sym same)
          (subst (λ (n : ℕ). KnownFacts differences facts (loop_at rows n) (loop_facts ps os (loops_around ps before) l)) size known)

  pub known-inside : (n : ℕ) (there : n < length rs) (l : Loop) → get_or rs n end_record ≡ loop_record l → KnownInside rows differences facts n fs
  known-inside n there l is = record {
    ends =
        let short = inside-at-most (drop (suc n) rs) zero in
        omega (arith, end-there n there l is, short, length-drop (suc n) rs, facts-count sheet ps, there);
    loops = λ i f less e. at-loop i (in_list i f e) f e;
    others = λ i less inside e one. other i (omega (arith, facts-count sheet ps)) e one;
  }
    where
      in_list : (i : ℕ) (f : LoopFacts) → get_or fs i none ≡ some f → i < length rs
      in_list i f e = go (ltb i (length rs)) refl
        where
          go : (t : Bool) → ltb i (length rs) ≡ t → i < length rs
          go true t = ltb-true i (length rs) t
          go false t = none-is-not-some (sym (get_or-eq_default fs none {n = i} (omega (arith, ltb-false i (length rs) t, facts-count sheet ps))) ∙ e)

      at-loop : (i : ℕ) (here : i < length rs) (f : LoopFacts) → get_or fs i none ≡ some f →
          (role_at rows i ≡ role_number loop_role) × ((depth_at rows i ≡ f.depth) × KnownFacts differences facts (loop_at rows i) f)
      at-loop i here f e =
          let found = loop-of-fact ps (os i here) (loops_around ps (take i rs)) (this i here) f (sym (fact-at sheet ps i here) ∙ e) in
          let l : Loop = found.0 in (
            role-is sheet ps i here g.sheet_is.rows_are ∙ ap (λ (r : Record). role_number (role_of r)) found.1 ∙ (unfold role_of role_of_kind kind in refl),
            (
              depth-there i here l found.1 ∙ sym (ap (λ (x : LoopFacts). x.depth) found.2 ∙ (unfold loop_facts in refl)),
              known_facts i here l found.1 f found.2,
            ),
          )

      other : (i : ℕ) (here : i < length rs) → get_or fs i none ≡ none → role_at rows i ≡ role_number loop_role → ⊥
      other i here e one =
          let found = loop-there (this i here) (sym (role-is sheet ps i here g.sheet_is.rows_are) ∙ one ∙ (unfold role_number in refl)) in
          let known : facts_at ps (os i here) (loops_around ps (take i rs)) (loop_record found.0) ≡ some (loop_facts ps (os i here) (loops_around ps (take i rs)) found.0) =
          (unfold facts_at in refl) in
          none-is-not-some (sym e ∙ fact-at sheet ps i here ∙ ap (facts_at ps (os i here) (loops_around ps (take i rs))) found.1 ∙ known)
