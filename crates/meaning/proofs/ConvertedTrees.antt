-- The tree of a converted sheet is the old tree with its loops changed: its time, its visits, its ranges and what is closed are the same.
use mathlib.Core.Path.{◌≡◌, refl, sym, ap, ◌∙◌}
use mathlib.Core.List.{List, [], ◌∷◌, ◌++◌, map, map-append}
use mathlib.Core.Bool.{cond, not, ◌&&◌, ◌||◌}
use Prim.Native.Nat.{ℕ, zero, suc, ◌+◌, min, max}
use lib.IntN.{ℤ}
use lib.Signed.{le_z}
use lib.Dec.{eqb}
use lib.ListN.{length}
use Rattle.meaning.specs.Record.{Loop, stride_size, counts_down, Record, work_record, loop_record, end_record, choice_record, next_arm_record}
use Rattle.meaning.specs.Tree.{Block, Arms, empty, work, loop, choice, last_arm, arm, tree, records, arms_records, loops, arms_loops, height, arms_height}
use Rattle.meaning.specs.Time.{difference, entry_cost, bounds, exactly, ◌⊕◌, hull, sum_over}
use Rattle.meaning.specs.Time.{trips, index_at, inner_indexes, time, arms_time}
use Rattle.meaning.specs.Range.{Range, index_range, inner_ranges, difference_range, ceiling}
use Rattle.meaning.specs.Closed.{push_own, push_inner, closed_class, ranked_class, walked_class, closable, closed, arms_closable, rankable, ranked, loop_class}
use Rattle.meaning.specs.ClosedSum.{first_sums}
use Rattle.meaning.specs.Settled.{all_settled, arms_sums, choices_sums, settled, summed}
use Rattle.meaning.specs.Visits.{count_over, visited_trips, visits, visits_by, arms_visits}
use Rattle.meaning.specs.Answer.{figures, figures_of}
use Rattle.meaning.specs.Converter.{with_skip, change_loop}
use Rattle.meaning.proofs.Accepted.{WellFormed, in-place-formed}
use Rattle.meaning.proofs.Trees.{tree-records}
use Rattle.meaning.proofs.SameLoops.{SameLoop, same-with-skip, same-entry, same_asked, same-divides}

-- ---- the changed tree

module _ (change : Loop → Loop) where
  unfoldable mutual
    pub change_block : Block → Block
    change_block empty = empty
    change_block (work least most rest) = work least most (change_block rest)
    change_block (loop l body rest) = loop (change l) (change_block body) (change_block rest)
    change_block (choice arms rest) = choice (change_arms arms) (change_block rest)

    pub change_arms : Arms → Arms
    change_arms (last_arm b) = last_arm (change_block b)
    change_arms (arm b arms) = arm (change_block b) (change_arms arms)

  abbrev pub change_all : List Record → List Record
  change_all rs = map (change_loop change) rs

  mutual
    unfolding records change_block change_loop

    pub records-changed : (b : Block) → records (change_block b) ≡ change_all (records b)
    records-changed empty = refl
    records-changed (work least most rest) = ap (λ rs. work_record least most ∷ rs) (records-changed rest)
    records-changed (loop l body rest) =
        (λ t. loop_record (change l) ∷ (records-changed body t ++ (end_record ∷ records-changed rest t)))
        ∙ ap (λ rs. loop_record (change l) ∷ rs) (sym (map-append (change_loop change) (records body) (end_record ∷ records rest)))
    records-changed (choice arms rest) =
        (λ t. choice_record ∷ (arms-records-changed arms t ++ (end_record ∷ records-changed rest t)))
        ∙ ap (λ rs. choice_record ∷ rs) (sym (map-append (change_loop change) (arms_records arms) (end_record ∷ records rest)))

    pub arms-records-changed : (arms : Arms) → arms_records (change_arms arms) ≡ change_all (arms_records arms)
    arms-records-changed (last_arm b) = records-changed b
    arms-records-changed (arm b arms) =
        (λ t. records-changed b t ++ (next_arm_record ∷ arms-records-changed arms t))
        ∙ sym (map-append (change_loop change) (records b) (next_arm_record ∷ arms_records arms))

  pub tree-changed : (rs : List Record) → WellFormed rs → tree (change_all rs) ≡ change_block (tree rs)
  tree-changed rs w =
      ap (λ xs. tree (change_all xs)) (sym (in-place-formed rs w.in_place).same) ∙ ap tree (sym (records-changed (tree rs)))
      ∙ tree-records (change_block (tree rs))

  -- ---- its loops and heights

  mutual
    unfolding loops change_block

    pub loops-changed : (b : Block) → loops (change_block b) ≡ loops b
    loops-changed empty = refl
    loops-changed (work least most rest) = loops-changed rest
    loops-changed (loop l body rest) = λ t. suc (loops-changed body t) + loops-changed rest t
    loops-changed (choice arms rest) = λ t. arms-loops-changed arms t + loops-changed rest t

    pub arms-loops-changed : (arms : Arms) → arms_loops (change_arms arms) ≡ arms_loops arms
    arms-loops-changed (last_arm b) = loops-changed b
    arms-loops-changed (arm b arms) = λ t. loops-changed b t + arms-loops-changed arms t

  mutual
    unfolding height change_block

    pub height-changed : (b : Block) → height (change_block b) ≡ height b
    height-changed empty = refl
    height-changed (work least most rest) = height-changed rest
    height-changed (loop l body rest) = λ t. max (suc (height-changed body t)) (height-changed rest t)
    height-changed (choice arms rest) = λ t. max (arms-height-changed arms t) (height-changed rest t)

    arms-height-changed : (arms : Arms) → arms_height (change_arms arms) ≡ arms_height arms
    arms-height-changed (last_arm b) = height-changed b
    arms-height-changed (arm b arms) = λ t. max (height-changed b t) (arms-height-changed arms t)

-- ---- what does not change

module _ (ps : List ℤ) {change : Loop → Loop} (same : (l : Loop) → SameLoop l (change l)) where
  -- a loop that means the same, in both places given a field for its skip
  abbrev both : (l : Loop) → with_skip (change l) ≡ with_skip l
  both l = same-with-skip (same l)

  pub trips-changed : (l : Loop) (indexes : List ℤ) → trips ps (change l) indexes ≡ trips ps l indexes
  unfolding trips difference stride_size counts_down with_skip
  trips-changed l indexes = ap (λ (m : Loop). trips ps m indexes) (both l)

  pub ranges-changed : (l : Loop) (ranges : List Range) → inner_ranges ps (change l) ranges ≡ inner_ranges ps l ranges
  unfolding inner_ranges index_range counts_down with_skip
  ranges-changed l ranges = ap (λ (m : Loop). inner_ranges ps m ranges) (both l)

  pub ceiling-changed : (l : Loop) (ranges : List Range) → ceiling ps (change l) ranges ≡ ceiling ps l ranges
  unfolding ceiling difference_range difference stride_size counts_down with_skip
  ceiling-changed l ranges = ap (λ (m : Loop). ceiling ps m ranges) (both l)

  mutual
    unfolding time change_block inner_indexes index_at with_skip

    pub time-changed : (b : Block) (indexes : List ℤ) → time ps (change_block change b) indexes ≡ time ps b indexes
    time-changed empty indexes = refl
    time-changed (work least most rest) indexes = ap (λ x. bounds least most ⊕ x) (time-changed rest indexes)
    time-changed (loop l body rest) indexes =
        let entry : entry_cost (change l) (trips ps (change l) indexes) ≡ entry_cost l (trips ps l indexes) =
        same-entry (same l) (trips ps (change l) indexes) ∙ ap (entry_cost l) (trips-changed l indexes) in
        λ t. exactly (entry t)
        ⊕ sum_over (trips-changed l indexes t) (λ trip. time-changed body (inner_indexes ps (both l t) indexes trip) t ⊕ exactly (both l t).step)
        ⊕ time-changed rest indexes t
    time-changed (choice arms rest) indexes = λ t. arms-time-changed arms indexes t ⊕ time-changed rest indexes t

    arms-time-changed : (arms : Arms) (indexes : List ℤ) → arms_time ps (change_arms change arms) indexes ≡ arms_time ps arms indexes
    arms-time-changed (last_arm b) indexes = time-changed b indexes
    arms-time-changed (arm b arms) indexes = λ t. hull (time-changed b indexes t) (arms-time-changed arms indexes t)

  closable-changed : (b : Block) (ranges : List Range) (pushes : List (List ℤ)) →
      closable ps (change_block change b) ranges pushes ≡ closable ps b ranges pushes
  unfolding closable change_block difference_range difference counts_down push_own push_inner with_skip
  closable-changed empty ranges pushes = refl
  closable-changed (work least most rest) ranges pushes = closable-changed rest ranges pushes
  closable-changed (loop l body rest) ranges pushes =
      λ t. le_z (same_asked (same l) t) (difference_range ps (both l t) ranges).lo && same-divides (same l) pushes t
      && closable-changed body (ranges-changed l ranges t) (push_own (both l t) (length ranges) ∷ map (push_inner (both l t)) pushes) t
      && closable-changed rest ranges pushes t
  closable-changed (choice arms rest) ranges pushes = λ t. eqb (arms-loops-changed change arms t) zero && closable-changed rest ranges pushes t

  arms-closable-changed : (arms : Arms) (ranges : List Range) (pushes : List (List ℤ)) →
      arms_closable ps (change_arms change arms) ranges pushes ≡ arms_closable ps arms ranges pushes
  unfolding arms_closable change_block
  arms-closable-changed (last_arm b) ranges pushes = closable-changed b ranges pushes
  arms-closable-changed (arm b arms) ranges pushes = λ t. closable-changed b ranges pushes t && arms-closable-changed arms ranges pushes t

  rankable-changed : (b : Block) (ranges : List Range) (pushes : List (List ℤ)) →
      rankable ps (change_block change b) ranges pushes ≡ rankable ps b ranges pushes
  unfolding rankable change_block
  rankable-changed empty ranges pushes = refl
  rankable-changed (work least most rest) ranges pushes = rankable-changed rest ranges pushes
  rankable-changed (loop l body rest) ranges pushes = λ t. closable-changed (loop l body empty) ranges pushes t && rankable-changed rest ranges pushes t
  rankable-changed (choice arms rest) ranges pushes = λ t. arms-closable-changed arms ranges pushes t && rankable-changed rest ranges pushes t

  closed-changed : (l : Loop) (body : Block) (ranges : List Range) → closed ps (change l) (change_block change body) ranges ≡ closed ps l body ranges
  unfolding closed push_own with_skip
  closed-changed l body ranges = λ t. closable-changed body (ranges-changed l ranges t) (push_own (both l t) (length ranges) ∷ []) t

  ranked-changed : (l : Loop) (body : Block) (ranges : List Range) → ranked ps (change l) (change_block change body) ranges ≡ ranked ps l body ranges
  unfolding ranked push_own with_skip
  ranked-changed l body ranges =
      λ t. not (closed-changed l body ranges t) && rankable-changed body (ranges-changed l ranges t) (push_own (both l t) (length ranges) ∷ []) t

  pub class-changed : (l : Loop) (body : Block) (ranges : List Range) → loop_class ps (change l) (change_block change body) ranges ≡ loop_class ps l body ranges
  unfolding loop_class
  class-changed l body ranges = λ t. cond (closed-changed l body ranges t) closed_class (cond (ranked-changed l body ranges t) ranked_class walked_class)

  -- the arms of its choices take what they took
  arms-sums-changed : (arms : Arms) (count : ℕ) (indexes_at : ℕ → List ℤ) → arms_sums ps count indexes_at (change_arms change arms) ≡ arms_sums ps count indexes_at arms
  unfolding arms_sums change_block
  arms-sums-changed (last_arm b) count indexes_at = λ t. first_sums count (λ trip. time-changed b (indexes_at trip) t) ∷ []
  arms-sums-changed (arm b arms) count indexes_at = λ t. first_sums count (λ trip. time-changed b (indexes_at trip) t) ∷ arms-sums-changed arms count indexes_at t

  choices-sums-changed : (b : Block) (count : ℕ) (indexes_at : ℕ → List ℤ) → choices_sums ps count indexes_at (change_block change b) ≡ choices_sums ps count indexes_at b
  unfolding choices_sums change_block
  choices-sums-changed empty count indexes_at = refl
  choices-sums-changed (work least most rest) count indexes_at = choices-sums-changed rest count indexes_at
  choices-sums-changed (loop l body rest) count indexes_at = choices-sums-changed rest count indexes_at
  choices-sums-changed (choice arms rest) count indexes_at = λ t. arms-sums-changed arms count indexes_at t ∷ choices-sums-changed rest count indexes_at t

  visited-changed : (l : Loop) (body : Block) (ranges : List Range) (indexes : List ℤ) (n : ℕ) →
      visited_trips ps (change l) (change_block change body) ranges indexes n ≡ visited_trips ps l body ranges indexes n
  unfolding visited_trips summed settled inner_indexes index_at with_skip
  visited-changed l body ranges indexes n =
      λ t. cond (closed-changed l body ranges t
      || (ranked-changed l body ranges t
      && all_settled (choices-sums-changed body (min n (suc (height-changed change body t))) (inner_indexes ps (both l t) indexes) t)))
      (min n (suc (height-changed change body t))) n

  mutual
    unfolding visits_by change_block inner_indexes index_at with_skip

    pub visits-changed : (b : Block) (ranges : List Range) (indexes : List ℤ) → visits ps (change_block change b) ranges indexes ≡ visits ps b ranges indexes
    visits-changed empty ranges indexes = refl
    visits-changed (work least most rest) ranges indexes = visits-changed rest ranges indexes
    visits-changed (loop l body rest) ranges indexes =
        λ t. count_over ((ap (visited_trips ps (change l) (change_block change body) ranges indexes) (trips-changed l indexes)
        ∙ visited-changed l body ranges indexes (trips ps l indexes)) t)
        (λ trip. suc (visits-changed body (ranges-changed l ranges t) (inner_indexes ps (both l t) indexes trip) t))
        + visits-changed rest ranges indexes t
    visits-changed (choice arms rest) ranges indexes = λ t. arms-visits-changed arms ranges indexes t + visits-changed rest ranges indexes t

    arms-visits-changed : (arms : Arms) (ranges : List Range) (indexes : List ℤ) →
        arms_visits ps (change_arms change arms) ranges indexes ≡ arms_visits ps arms ranges indexes
    arms-visits-changed (last_arm b) ranges indexes = visits-changed b ranges indexes
    arms-visits-changed (arm b arms) ranges indexes = λ t. visits-changed b ranges indexes t + arms-visits-changed arms ranges indexes t

  pub figures-changed : (b : Block) → figures_of ps (change_block change b) ≡ figures_of ps b
  unfolding figures_of
  figures-changed b = λ t. figures (time-changed b [] t).least (time-changed b [] t).most (visits-changed b [] [] t)
