-- The reports of a sheet's records, one after another, are those of the sheet's loops; so is the loop that refusal 6 falls on.
use mathlib.Core.List.{◌++◌, List, [], append_assoc, append-nil, ◌∷◌}
use mathlib.Core.Path.{ap, refl, subst, sym, ◌∙◌, ◌≡◌}
use Prim.Native.Nat.{◌+◌, ℕ, ◌≤◌}
use native.Mathlib.Omega.{arith}
use lib.Dec.{ltb}
use lib.IntN.{ℤ}
use Rattle.meaning.specs.Tree.{Arms, Block, arm, arms_records, choice, empty, last_arm, loop, records, tree, work}
use Rattle.meaning.specs.Record.{Loop, Open, choice_record, end_record, loop_record, next_arm_record, open_choice, open_loop, record_length, sheet_length, work_record, Record}
use Rattle.meaning.specs.Report.{arms_reports, first_over_ceiling, loop_reports, or_else, report_of, LoopReport}
use Rattle.meaning.specs.Limits.{ceiling_limit}
use Rattle.meaning.specs.Range.{inner_ranges, ceiling}
use Rattle.meaning.specs.Answer.{sheet_reports}
use Rattle.meaning.proofs.Accepted.{InPlace, in-place-formed}
use Rattle.meaning.proofs.Reports.{WithinCeiling, within-append}
use Rattle.meaning.proofs.Trees.{tree-before-end}
use Rattle.nest.specs.Rows.{Position, onward, row_at, rows_from, rows_of, sheet_start}
use Rattle.nest.specs.Walk.{opens_after}
use Rattle.sheet.proofs.SheetRecords.{sheet_length-append}
use Rattle.loops.specs.Enclosing.{Enclosing, enclosing_after, enclosing_through, enter, nothing_open}
use Rattle.loops.specs.Facts.{facts_at, facts_from, loop_facts, over_ceiling, sheet_facts}
use Rattle.loops.proofs.Enclosings.{leave-enter}

module _ (ps : List ℤ) where
  -- the report of a record at an offset, where the loops e are open, before the records rs; nothing of a record that is no loop
  unfoldable pub record_reports : ℕ → Enclosing → Record → List Record → List LoopReport
  record_reports at e (work_record least most) rs = []
  record_reports at e (loop_record l) rs = report_of ps l (tree rs) e.ranges at ∷ []
  record_reports at e end_record rs = []
  record_reports at e choice_record rs = []
  record_reports at e next_arm_record rs = []

  -- of the records from an offset on, where os and the loops e are open
  unfoldable pub reports_from : ℕ → List Open → Enclosing → List Record → List LoopReport
  reports_from at os e [] = []
  reports_from at os e (r ∷ rs) = record_reports at e r rs ++ reports_from (at + record_length r) (opens_after os r) (enclosing_after ps os e r) rs

  -- The walk over a tree's records reports the tree's loops, and goes on with what was open before them, at the offset `past`.
  mutual
    unfolding reports_from record_reports opens_after enclosing_after loop_reports records sheet_length enter

    pub reports-records : (b : Block) (q : List Record) (at past : ℕ) (os : List Open) (e : Enclosing) → past ≡ at + sheet_length (records b) →
        reports_from at os e (records b ++ q) ≡ loop_reports ps b e.ranges at ++ reports_from past os e q
    reports-records empty q at past os e p = ap (λ (n : ℕ). reports_from n os e q) (omega arith)
    reports-records (work least most rest) q at past os e p = reports-records rest q (at + record_length (work_record least most)) past os e (omega arith)
    reports-records (loop l body rest) q at past os e p =
        let start : ℕ = at + record_length (loop_record l) in
        let finish : ℕ = start + sheet_length (records body) in
        let inner : List LoopReport = loop_reports ps body (inner_ranges ps l e.ranges) start in
        let bytes = sheet_length-append (records body) (end_record ∷ records rest) in
        let inside = reports-records body (end_record ∷ (records rest ++ q)) start finish (open_loop ∷ os) (enter ps l e) refl in
        let after = reports-records rest q (finish + record_length end_record) past os e (omega arith) in
        ap (λ rs. reports_from at os e (loop_record l ∷ rs)) (append_assoc (records body) (end_record ∷ records rest) q)
        ∙ ap {B = List LoopReport}
        (λ b. report_of ps l b e.ranges at ∷ reports_from start (open_loop ∷ os) (enter ps l e) (records body ++ (end_record ∷ (records rest ++ q))))
        (tree-before-end body (records rest ++ q))
        ∙ ap {B = List LoopReport} (λ rs. report_of ps l body e.ranges at ∷ rs)
        (inside
        ∙ ap (λ x. inner ++ reports_from (finish + record_length end_record) os x (records rest ++ q)) (leave-enter ps l e)
        ∙ ap (λ rs. inner ++ rs) after
        ∙ sym (append_assoc inner (loop_reports ps rest e.ranges (finish + record_length end_record)) (reports_from past os e q)))
    reports-records (choice arms rest) q at past os e p =
        let start : ℕ = at + record_length choice_record in
        let finish : ℕ = start + sheet_length (arms_records arms) in
        let bytes = sheet_length-append (arms_records arms) (end_record ∷ records rest) in
        let after = reports-records rest q (finish + record_length end_record) past os e (omega arith) in
        ap (λ rs. reports_from start (open_choice ∷ os) e rs) (append_assoc (arms_records arms) (end_record ∷ records rest) q)
        ∙ reports-arms arms (end_record ∷ (records rest ++ q)) start finish os e refl
        ∙ ap (λ rs. arms_reports ps arms e.ranges start ++ rs) after
        ∙ sym (append_assoc (arms_reports ps arms e.ranges start) (loop_reports ps rest e.ranges (finish + record_length end_record)) (reports_from past os e q))

    reports-arms : (arms : Arms) (q : List Record) (at past : ℕ) (os : List Open) (e : Enclosing) → past ≡ at + sheet_length (arms_records arms) →
        reports_from at (open_choice ∷ os) e (arms_records arms ++ q) ≡ arms_reports ps arms e.ranges at ++ reports_from past (open_choice ∷ os) e q
    reports-arms (last_arm b) q at past os e p = reports-records b q at past (open_choice ∷ os) e p
    reports-arms (arm b arms) q at past os e p =
        let finish : ℕ = at + sheet_length (records b) in
        let bytes = sheet_length-append (records b) (next_arm_record ∷ arms_records arms) in
        let after = reports-arms arms q (finish + record_length next_arm_record) past os e (omega arith) in
        ap (λ rs. reports_from at (open_choice ∷ os) e rs) (append_assoc (records b) (next_arm_record ∷ arms_records arms) q)
        ∙ reports-records b (next_arm_record ∷ (arms_records arms ++ q)) at finish (open_choice ∷ os) e refl
        ∙ ap (λ rs. loop_reports ps b e.ranges at ++ rs) after
        ∙ sym (append_assoc (loop_reports ps b e.ranges at) (arms_reports ps arms e.ranges (finish + record_length next_arm_record)) (reports_from past (open_choice ∷ os) e q))

-- ---- the whole sheet

-- of a sheet whose records are in place, the walk reports what the definition does
pub sheet-reports : (ps : List ℤ) (rs : List Record) → InPlace [] rs → reports_from ps 0 [] nothing_open rs ≡ sheet_reports ps rs
unfolding sheet_reports reports_from
sheet-reports ps rs h =
    let b : Block = tree rs in
    ap (reports_from ps 0 [] nothing_open) (sym (in-place-formed rs h).same ∙ sym (append-nil (records b)))
    ∙ reports-records ps b [] 0 (0 + sheet_length (records b)) [] nothing_open refl
    ∙ append-nil (loop_reports ps b [] 0)

-- where no report is above the limit, neither is the ceiling of a loop after the records xs
pub ceiling-within : (ps : List ℤ) (xs : List Record) (l : Loop) (ys : List Record) (at : ℕ) (os : List Open) (e : Enclosing) →
    WithinCeiling (reports_from ps at os e (xs ++ (loop_record l ∷ ys))) → ceiling ps l (enclosing_through ps os e xs).ranges ≤ ceiling_limit
unfolding reports_from record_reports WithinCeiling enclosing_through
ceiling-within ps [] l ys at os e w = w.0
ceiling-within ps (x ∷ xs) l ys at os e w =
    let rs : List Record = xs ++ (loop_record l ∷ ys) in
    let others : List LoopReport = reports_from ps (at + record_length x) (opens_after os x) (enclosing_after ps os e x) rs in
    ceiling-within ps xs l ys (at + record_length x) (opens_after os x) (enclosing_after ps os e x) (within-append (record_reports ps at e x rs) others w).1

-- nor is that of any loop inside it
pub inside-within : (ps : List ℤ) (xs : List Record) (l : Loop) (b : Block) (q : List Record) (at : ℕ) (os : List Open) (e : Enclosing) →
    WithinCeiling (reports_from ps at os e (xs ++ (loop_record l ∷ (records b ++ q)))) →
    (offset : ℕ) × WithinCeiling (loop_reports ps b (inner_ranges ps l (enclosing_through ps os e xs).ranges) offset)
unfolding reports_from record_reports WithinCeiling enclosing_through enclosing_after enter opens_after
inside-within ps [] l b q at os e w =
    let start : ℕ = at + record_length (loop_record l) in
    let all = subst WithinCeiling (reports-records ps b q start (start + sheet_length (records b)) (open_loop ∷ os) (enter ps l e) refl) w.1 in
    (start, (within-append (loop_reports ps b (inner_ranges ps l e.ranges) start) (reports_from ps (start + sheet_length (records b)) (open_loop ∷ os) (enter ps l e) q) all).0)
inside-within ps (x ∷ xs) l b q at os e w =
    let rs : List Record = xs ++ (loop_record l ∷ (records b ++ q)) in
    let others : List LoopReport = reports_from ps (at + record_length x) (opens_after os x) (enclosing_after ps os e x) rs in
    inside-within ps xs l b q (at + record_length x) (opens_after os x) (enclosing_after ps os e x) (within-append (record_reports ps at e x rs) others w).1

-- ---- refusal 6

over-reports : (ps : List ℤ) (rs : List Record) (p : Position) (e : Enclosing) →
    over_ceiling (rows_from p rs) (facts_from ps p.opens e rs) ≡ first_over_ceiling (reports_from ps p.offset p.opens e rs)
unfolding over_ceiling rows_from row_at onward facts_from facts_at loop_facts reports_from record_reports first_over_ceiling
over-reports ps [] p e = refl
over-reports ps (work_record least most ∷ rs) p e = over-reports ps rs (onward p (work_record least most)) (enclosing_after ps p.opens e (work_record least most))
over-reports ps (loop_record l ∷ rs) p e =
    ap (or_else (ltb ceiling_limit (ceiling ps l e.ranges)) p.offset) (over-reports ps rs (onward p (loop_record l)) (enclosing_after ps p.opens e (loop_record l)))
over-reports ps (end_record ∷ rs) p e = over-reports ps rs (onward p end_record) (enclosing_after ps p.opens e end_record)
over-reports ps (choice_record ∷ rs) p e = over-reports ps rs (onward p choice_record) (enclosing_after ps p.opens e choice_record)
over-reports ps (next_arm_record ∷ rs) p e = over-reports ps rs (onward p next_arm_record) (enclosing_after ps p.opens e next_arm_record)

-- of a sheet in place, the walk finds the loop that refusal 6 falls on
pub over-ceiling : (ps : List ℤ) (rs : List Record) → InPlace [] rs → over_ceiling (rows_of rs) (sheet_facts ps rs) ≡ first_over_ceiling (sheet_reports ps rs)
unfolding rows_of sheet_facts
over-ceiling ps rs h = over-reports ps rs sheet_start nothing_open ∙ ap first_over_ceiling (sheet-reports ps rs h)
