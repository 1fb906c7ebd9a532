-- The nest that counts up has records as long as the other's, as many loops, the same heights and the same time; and all its loops count up.
use mathlib.Core.Path.{◌≡◌, refl, sym, ap, ◌∙◌}
use mathlib.Core.List.{List, [], ◌∷◌}
use mathlib.Core.Bool.{Bool, true, not, ◌&&◌}
use Prim.Native.Nat.{ℕ, zero, ◌+◌}
use lib.IntN.{ℤ, pos}
use lib.ListN.{length}
use Rattle.meaning.specs.Form.{Form}
use Rattle.meaning.specs.Record.{Loop, Record, kind, work_record, loop_record, end_record, choice_record, next_arm_record, record_length, sheet_length}
use Rattle.meaning.specs.Tree.{Block, Arms, empty, work, loop, choice, last_arm, arm, records, arms_records, arms_loops, height}
use Rattle.meaning.specs.Time.{entry_cost, bounds, exactly, ◌⊕◌, hull, sum_over, trips, inner_indexes, time, arms_time}
use Rattle.meaning.specs.Place.{after_loop, after_choice}
use Rattle.meaning.specs.Converter.{change_loop}
use Rattle.meaning.proofs.Upward.{turn, turn_each, upward_loop, downs_inside, upward, upward_arms, counts_up, arms_count_up}
use Rattle.meaning.proofs.ConvertedTrees.{change_block, change_arms, change_all, records-changed, arms-records-changed, arms-loops-changed, height-changed}
use Rattle.meaning.proofs.UpwardLoops.{loop-counts-up, entry-upward, trips-upward, inner-indexes-upward, inner-indexes-length}

-- ---- what does not depend on strides and forms

no_form : Form
no_form = record { constant = pos zero; index = []; parameter = [] }

-- the loop without its stride and its forms
unfoldable outline : Loop → Loop
outline l = record { start = l.start; step = l.step; stride = pos zero; lower = no_form; upper = no_form; skip = l.skip }

outline-record-length : (r : Record) → record_length (change_loop outline r) ≡ record_length r
unfolding record_length kind change_loop outline
outline-record-length (work_record least most) = refl
outline-record-length (loop_record l) = refl
outline-record-length end_record = refl
outline-record-length choice_record = refl
outline-record-length next_arm_record = refl

outline-length : (rs : List Record) → sheet_length (change_all outline rs) ≡ sheet_length rs
unfolding sheet_length
outline-length [] = refl
outline-length (r ∷ rs) = λ t. outline-record-length r t + outline-length rs t

mutual
  unfolding change_block upward upward_loop outline

  same-outline : (b : Block) (downs : List Bool) → change_block outline (upward downs b) ≡ change_block outline b
  same-outline empty downs = refl
  same-outline (work least most rest) downs = ap (work least most) (same-outline rest downs)
  same-outline (loop l body rest) downs = λ t. loop (outline l) (same-outline body (downs_inside l downs) t) (same-outline rest downs t)
  same-outline (choice arms rest) downs = λ t. choice (same-arms-outline arms downs t) (same-outline rest downs t)

  same-arms-outline : (arms : Arms) (downs : List Bool) → change_arms outline (upward_arms downs arms) ≡ change_arms outline arms
  same-arms-outline (last_arm b) downs = ap last_arm (same-outline b downs)
  same-arms-outline (arm b arms) downs = λ t. arm (same-outline b downs t) (same-arms-outline arms downs t)

pub height-upward : (b : Block) (downs : List Bool) → height (upward downs b) ≡ height b
height-upward b downs = sym (height-changed outline (upward downs b)) ∙ ap height (same-outline b downs) ∙ height-changed outline b

pub arms-loops-upward : (arms : Arms) (downs : List Bool) → arms_loops (upward_arms downs arms) ≡ arms_loops arms
arms-loops-upward arms downs =
    sym (arms-loops-changed outline (upward_arms downs arms)) ∙ ap arms_loops (same-arms-outline arms downs) ∙ arms-loops-changed outline arms

length-upward : (b : Block) (downs : List Bool) → sheet_length (records (upward downs b)) ≡ sheet_length (records b)
length-upward b downs = sym (of-outline (upward downs b)) ∙ ap (λ c. sheet_length (records c)) (same-outline b downs) ∙ of-outline b
  where
    of-outline : (b : Block) → sheet_length (records (change_block outline b)) ≡ sheet_length (records b)
    of-outline b = ap sheet_length (records-changed outline b) ∙ outline-length (records b)

arms-length-upward : (arms : Arms) (downs : List Bool) → sheet_length (arms_records (upward_arms downs arms)) ≡ sheet_length (arms_records arms)
arms-length-upward arms downs =
    sym (of-outline (upward_arms downs arms)) ∙ ap (λ c. sheet_length (arms_records c)) (same-arms-outline arms downs) ∙ of-outline arms
  where
    of-outline : (arms : Arms) → sheet_length (arms_records (change_arms outline arms)) ≡ sheet_length (arms_records arms)
    of-outline arms = ap sheet_length (arms-records-changed outline arms) ∙ outline-length (arms_records arms)

-- ---- places

module _ (downs : List Bool) (at : ℕ) where
  pub start-upward : (l : Loop) → at + record_length (loop_record (upward_loop downs l)) ≡ at + record_length (loop_record l)
  unfolding record_length kind upward_loop
  start-upward l = refl

  pub after-loop-upward : (l : Loop) (body : Block) → after_loop at (upward_loop downs l) (upward (downs_inside l downs) body) ≡ after_loop at l body
  after-loop-upward l body = λ t. start-upward l t + length-upward body (downs_inside l downs) t + record_length end_record

  pub after-choice-upward : (arms : Arms) → after_choice at (upward_arms downs arms) ≡ after_choice at arms
  after-choice-upward arms = λ t. at + record_length choice_record + arms-length-upward arms downs t + record_length end_record

  pub after-arm-upward : (b : Block) →
      at + sheet_length (records (upward downs b)) + record_length next_arm_record ≡ at + sheet_length (records b) + record_length next_arm_record
  after-arm-upward b = λ t. at + length-upward b downs t + record_length next_arm_record

-- ---- the direction

mutual
  unfolding counts_up upward

  pub counts-up : (b : Block) (downs : List Bool) → counts_up (upward downs b) ≡ true
  counts-up empty downs = refl
  counts-up (work least most rest) downs = counts-up rest downs
  counts-up (loop l body rest) downs = λ t. not (loop-counts-up downs l t) && counts-up body (downs_inside l downs) t && counts-up rest downs t
  counts-up (choice arms rest) downs = λ t. arms-count-up arms downs t && counts-up rest downs t

  arms-count-up : (arms : Arms) (downs : List Bool) → arms_count_up (upward_arms downs arms) ≡ true
  arms-count-up (last_arm b) downs = counts-up b downs
  arms-count-up (arm b arms) downs = λ t. counts-up b downs t && arms-count-up arms downs t

-- ---- the time

module _ (ps : List ℤ) where
  mutual
    unfolding time upward upward_loop

    pub time-upward : (b : Block) (downs : List Bool) (indexes : List ℤ) → length indexes ≡ length downs →
        time ps (upward downs b) (turn_each turn downs indexes) ≡ time ps b indexes
    time-upward empty downs indexes same = refl
    time-upward (work least most rest) downs indexes same = ap (λ x. bounds least most ⊕ x) (time-upward rest downs indexes same)
    time-upward (loop l body rest) downs indexes same =
        let count = trips-upward downs l ps indexes in
        let entry = entry-upward downs l (trips ps (upward_loop downs l) (turn_each turn downs indexes)) ∙ ap (entry_cost l) count in
        λ t. exactly (entry t)
        ⊕ sum_over (count t) (λ trip. (ap (time ps (upward (downs_inside l downs) body)) (inner-indexes-upward downs l ps indexes same trip)
        ∙ time-upward body (downs_inside l downs) (inner_indexes ps l indexes trip) (inner-indexes-length downs l ps indexes same trip)) t ⊕ exactly l.step)
        ⊕ time-upward rest downs indexes same t
    time-upward (choice arms rest) downs indexes same = λ t. arms-time-upward arms downs indexes same t ⊕ time-upward rest downs indexes same t

    arms-time-upward : (arms : Arms) (downs : List Bool) (indexes : List ℤ) → length indexes ≡ length downs →
        arms_time ps (upward_arms downs arms) (turn_each turn downs indexes) ≡ arms_time ps arms indexes
    arms-time-upward (last_arm b) downs indexes same = time-upward b downs indexes same
    arms-time-upward (arm b arms) downs indexes same = λ t. hull (time-upward b downs indexes same t) (arms-time-upward arms downs indexes same t)
