-- The new offset of a record of a converted sheet is where its changed record stands.
use mathlib.Core.Path.{◌≡◌, refl, sym, ap, ◌∙◌, subst}
use mathlib.Core.List.{List, [], ◌∷◌, ◌++◌}
use mathlib.Core.Bool.{cond}
use Prim.Native.Nat.{ℕ, zero, suc, ◌+◌, ◌-◌}
use native.Mathlib.Nat.{zero-add, add_assoc, add-zero}
use native.Mathlib.Omega.{arith}
use lib.ListN.{take}
use borrow.Author.Tests.{lt-ltb, le-ltb}
use Rattle.meaning.specs.Record.{Loop, Record, loop_record, end_record, choice_record, next_arm_record, record_length, sheet_length}
use Rattle.meaning.specs.Tree.{Block, Arms, loop, choice, arm, records, arms_records}
use Rattle.meaning.specs.Place.{after_loop, after_choice}
use Rattle.meaning.specs.Converter.{change_loop}
use Rattle.meaning.specs.Moved.{record_number, new_offset}
use Rattle.meaning.proofs.ConvertedTrees.{change_block, change_arms, change_all, records-changed, arms-records-changed}

module _ (change : Loop → Loop) where
  -- `place` says where each changed record stands: the records stand at `at`, the changed ones at `to`
  unfoldable pub Moves : (ℕ → ℕ) → List Record → (at to : ℕ) → Type 0
  Moves place [] at to = Unit {0}
  Moves place (r ∷ rs) at to = (place at ≡ to) × Moves place rs (at + record_length r) (to + record_length (change_loop change r))

  -- ---- the new offsets of all records

  module _ (r : Record) (rs : List Record) where
    first-stays : new_offset (r ∷ rs) (change_all change (r ∷ rs)) 0 ≡ 0
    unfolding new_offset record_number sheet_length
    first-stays =
        ap (λ b. sheet_length (take (cond b zero (suc (record_number rs (0 - record_length r)))) (change_all change (r ∷ rs))))
        (lt-ltb 0 (record_length r) (unfold record_length in omega arith))

    others-follow : (at : ℕ) →
        new_offset (r ∷ rs) (change_all change (r ∷ rs)) (record_length r + at) ≡ record_length (change_loop change r) + new_offset rs (change_all change rs) at
    unfolding new_offset record_number sheet_length
    others-follow at =
        let past : record_length r + at - record_length r ≡ at = omega arith in
        ap (λ b. sheet_length (take (cond b zero (suc (record_number rs (record_length r + at - record_length r)))) (change_all change (r ∷ rs))))
        (le-ltb (record_length r + at) (record_length r) (omega arith))
        ∙ ap (λ (n : ℕ). record_length (change_loop change r) + sheet_length (take (record_number rs n) (change_all change rs))) past

  -- what agrees with the new offsets of the records moves them
  moves-by-new-offsets : (place : ℕ → ℕ) (rs : List Record) (at to : ℕ) →
      ((offset : ℕ) → place (at + offset) ≡ to + new_offset rs (change_all change rs) offset) → Moves place rs at to
  unfolding Moves
  moves-by-new-offsets place [] at to h = tt
  moves-by-new-offsets place (r ∷ rs) at to h = (
    ap place (sym (add-zero at)) ∙ h 0 ∙ ap (λ (n : ℕ). to + n) (first-stays r rs) ∙ add-zero to,
    moves-by-new-offsets place rs (at + record_length r) (to + record_length (change_loop change r)) (λ offset.
        ap place (add_assoc at (record_length r) offset) ∙ h (record_length r + offset) ∙ ap (λ (n : ℕ). to + n) (others-follow r rs offset)
        ∙ sym (add_assoc to (record_length (change_loop change r)) (new_offset rs (change_all change rs) offset))),
  )

  pub new-offsets-move : (rs : List Record) → Moves (new_offset rs (change_all change rs)) rs 0 0
  new-offsets-move rs = moves-by-new-offsets (new_offset rs (change_all change rs)) rs 0 0 (λ offset. simp zero-add)

  -- ---- parts of the records

  module _ (place : ℕ → ℕ) where
    moves-at : (rs : List Record) {at at' to to' : ℕ} → at ≡ at' → to ≡ to' → Moves place rs at to → Moves place rs at' to'
    moves-at rs {at} {at'} {to} {to'} e f m = subst (λ (x : ℕ). Moves place rs at' x) f (subst (λ (x : ℕ). Moves place rs x to) e m)

    moves-append : (rs ss : List Record) (at to : ℕ) → Moves place (rs ++ ss) at to →
        Moves place rs at to × Moves place ss (at + sheet_length rs) (to + sheet_length (change_all change rs))
    unfolding Moves sheet_length
    moves-append [] ss at to m = (tt, moves-at ss (sym (add-zero at)) (sym (add-zero to)) m)
    moves-append (r ∷ rs) ss at to (first, m) =
        let parts = moves-append rs ss (at + record_length r) (to + record_length (change_loop change r)) m in (
          (first, parts.0),
          moves-at ss (add_assoc at (record_length r) (sheet_length rs))
              (add_assoc to (record_length (change_loop change r)) (sheet_length (change_all change rs))) parts.1,
        )

    -- the records rs, one record after them, and ss
    moves-around : (rs changed : List Record) (r : Record) (ss : List Record) (at to : ℕ) → changed ≡ change_all change rs → Moves place (rs ++ (r ∷ ss)) at to →
        Moves place rs at to × Moves place ss (at + sheet_length rs + record_length r) (to + sheet_length changed + record_length (change_loop change r))
    unfolding Moves
    moves-around rs changed r ss at to e m =
        let parts = moves-append rs (r ∷ ss) at to m in
        (parts.0, moves-at ss refl (ap (λ xs. to + sheet_length xs + record_length (change_loop change r)) (sym e)) parts.1.1)

    -- the parts of a tree's records
    module _ (at to : ℕ) where
      pub loop-moves : (l : Loop) (body rest : Block) → Moves place (records (loop l body rest)) at to → (place at ≡ to)
          × Moves place (records body) (at + record_length (loop_record l)) (to + record_length (loop_record (change l)))
          × Moves place (records rest) (after_loop at l body) (after_loop to (change l) (change_block change body))
      unfolding Moves records change_loop
      loop-moves l body rest (first, m) =
          let parts = moves-around (records body) (records (change_block change body)) end_record (records rest) _ _ (records-changed change body) m in
          (first, parts.0, parts.1)

      pub choice-moves : (arms : Arms) (rest : Block) → Moves place (records (choice arms rest)) at to → (place at ≡ to)
          × Moves place (arms_records arms) (at + record_length choice_record) (to + record_length choice_record)
          × Moves place (records rest) (after_choice at arms) (after_choice to (change_arms change arms))
      unfolding Moves records change_loop
      choice-moves arms rest (first, m) =
          let changed : List Record = arms_records (change_arms change arms) in
          let parts = moves-around (arms_records arms) changed end_record (records rest) _ _ (arms-records-changed change arms) m in
          (first, parts.0, parts.1)

      pub arm-moves : (b : Block) (arms : Arms) → Moves place (arms_records (arm b arms)) at to → Moves place (records b) at to
          × Moves place (arms_records arms) (at + sheet_length (records b) + record_length next_arm_record)
          (to + sheet_length (records (change_block change b)) + record_length next_arm_record)
      unfolding arms_records change_loop
      arm-moves b arms m = moves-around (records b) (records (change_block change b)) next_arm_record (arms_records arms) at to (records-changed change b) m

  -- ---- the law of the new offset

  -- a record after `before` stands, changed, after the changed `before`
  pub new-offset : (before after : List Record) (r : Record) →
      new_offset (before ++ (r ∷ after)) (change_all change (before ++ (r ∷ after))) (sheet_length before) ≡ sheet_length (change_all change before)
  unfolding Moves
  new-offset before after r =
      let rs : List Record = before ++ (r ∷ after) in
      simp zero-add at (moves-append (new_offset rs (change_all change rs)) before (r ∷ after) 0 0 (new-offsets-move rs)).1.0
