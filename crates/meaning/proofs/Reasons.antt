-- Document 02's promise of the reasons: a walked loop's is the first thing that fails of document 01's definition of closed, and a closed loop has none.
use mathlib.Core.Path.{◌≡◌, refl, ap}
use mathlib.Core.List.{List, [], ◌∷◌, ◌++◌}
use mathlib.Core.Logic.{◌↔◌, ◌⊎◌}
use mathlib.Core.Option.{none, some}
use Prim.Native.Nat.{ℕ, ◌+◌, ◌≤◌}
use native.Mathlib.Omega.{arith}
use lib.IntN.{ℤ}
use lib.Dec.{T}
use Rattle.meaning.specs.Limits.{offset_limit}
use Rattle.meaning.specs.Record.{Loop, Record, work_record, next_arm_record, record_length, sheet_length}
use Rattle.meaning.specs.Tree.{Block, Arms, empty, work, loop, choice, last_arm, arm, records, arms_records, tree}
use Rattle.meaning.specs.Range.{Range, inner_ranges}
use Rattle.meaning.specs.Closed.{is_closed, loop_class}
use Rattle.meaning.specs.Reason.{Reason, holds_loop, too_few_trips, uneven_in, Test, closing_tests, reason_of}
use Rattle.meaning.specs.ReasonOrder.{Fails, Precedes, StandsAt, Stands, Explained}
use Rattle.meaning.specs.ReasonLine.{OffsetsBelow, reason_line}
use Rattle.meaning.specs.Reader.{Result, ok, refused, read}
use Rattle.meaning.specs.Report.{LoopReport, report_of, loop_reports, arms_reports}
use Rattle.meaning.specs.Answer.{sheet_reports}
use Rattle.meaning.proofs.Accepted.{WellFormed, in-place-formed, read-well-formed}
use Rattle.meaning.proofs.ReasonLines.{reads-back}
use Rattle.meaning.proofs.Closable.{class-closed, closed-class}
use Rattle.meaning.proofs.RecordBytes.{sheet_length-append, sheet_length-bound}
use Rattle.meaning.specs.ReasonsTold.{Each, no_member, one_more, ReasonTold, EachTold, ReasonsTold}
use Rattle.meaning.proofs.TestLists.{each_append, each-follows, none-fails, none-failing, first-fails, first-precedes}
use Rattle.meaning.proofs.PassingTests.{closed-without-reason}
use Rattle.meaning.proofs.FailingTests.{each-failing, failing-each}
use Rattle.meaning.proofs.TestOrder.{tests-ascend}
use Rattle.meaning.proofs.ReasonPlaces.{stands-behind, stands-earlier, in-loop, in_body, after-loop, in_arms, after-choice, later-arm}
use Rattle.meaning.proofs.ReasonPlaces.{in-loop-alone, choice-stands, loops-stand, failing-stands, Within, stands-within}

-- ---- the reason of a loop

module _ (ps : List ℤ) (l : Loop) (body : Block) (ranges : List Range) (at : ℕ) where
  reason-fails : (r : Reason) → reason_of ps l body ranges at ≡ some r → Fails ps l body ranges at r
  unfolding reason_of
  reason-fails r = first-fails (Fails ps l body ranges at) (closing_tests ps l body ranges at) r (each-failing ps l body ranges at _ (λ s fails. fails))

  nothing-before : (r s : Reason) → reason_of ps l body ranges at ≡ some r → Fails ps l body ranges at s → (r ≡ s) ⊎ Precedes r s
  unfolding reason_of
  nothing-before r s e =
      failing-each ps l body ranges at _ (first-precedes Precedes (closing_tests ps l body ranges at) r (tests-ascend ps l body ranges at) e) s

  some-reason : (r : Reason) → Fails ps l body ranges at r → reason_of ps l body ranges at ≡ none → ⊥
  unfolding reason_of
  some-reason r fails e =
      let tests : List Test = closing_tests ps l body ranges at in
      failing-each ps l body ranges at (λ s. ⊥) (none-failing tests ((none-fails tests).0 e)) r fails

  pub explained : Explained ps l body ranges at
  explained = record {
    closed_has_none = (closed-without-reason ps l body ranges at).1;
    none_is_closed = (closed-without-reason ps l body ranges at).0;
    fails_has_reason = some-reason;
    reason_fails = reason-fails;
    nothing_before = nothing-before;
    reason_stands = λ r e. failing-stands r (reason-fails r e);
    choice_stands = λ c arms i. (in-loop-alone l body (choice-stands body i)).0;
    loop_stands = λ between k found i. (in-loop-alone l body (loops-stand body i).own).0;
  }

-- ---- the reasons of a sheet

-- what holds of the report of each loop that stands within a sheet holds of each report of records that do
module _ (ps : List ℤ) (P : LoopReport → Type 0) (sheet : List Record) (from : ℕ)
    (holds : (l : Loop) (body : Block) (ranges : List Range) (at : ℕ) → Within (records (loop l body empty)) at sheet from → P (report_of ps l body ranges at)) where
  mutual
    unfolding loop_reports records

    each-report : (b : Block) (ranges : List Range) (at : ℕ) → Within (records b) at sheet from → Each P (loop_reports ps b ranges at)
    each-report empty ranges at within = no_member
    each-report (work least most rest) ranges at within = each-report rest ranges _ (λ part k s. within part k (stands-behind (work_record least most) s))
    each-report (loop l body rest) ranges at within =
        one_more (holds l body ranges at (λ part k s. within part k (in-loop l body rest s)))
        (each_append (each-report body (inner_ranges ps l ranges) _ (λ part k s. within part k (in_body l body rest s)))
        (each-report rest ranges _ (λ part k s. within part k (after-loop l body rest s))))
    each-report (choice arms rest) ranges at within =
        each_append (each-arms-report arms ranges _ (λ part k s. within part k (in_arms arms rest s)))
        (each-report rest ranges _ (λ part k s. within part k (after-choice arms rest s)))

    each-arms-report : (arms : Arms) (ranges : List Range) (at : ℕ) → Within (arms_records arms) at sheet from → Each P (arms_reports ps arms ranges at)
    each-arms-report (last_arm b) ranges at within = each-report b ranges at within
    each-arms-report (arm b arms) ranges at within =
        each_append (each-report b ranges at (λ part k s. within part k (stands-earlier (next_arm_record ∷ arms_records arms) s)))
        (each-arms-report arms ranges _ (λ part k s. within part k (later-arm b arms s)))

-- a loop is reported closed exactly where no reason is
pub walked-has-reason : (ps : List ℤ) (b : Block) (ranges : List Range) (at : ℕ) →
    Each (λ report. T (is_closed report.class) ↔ (report.reason ≡ none)) (loop_reports ps b ranges at)
walked-has-reason ps b ranges at = each-report ps _ (records b) at closed-exactly b ranges at (λ part k s. s)
  where
    closed-exactly : (l : Loop) (body : Block) (ranges : List Range) (place : ℕ) → Within (records (loop l body empty)) place (records b) at →
        T (is_closed (loop_class ps l body ranges)) ↔ (reason_of ps l body ranges place ≡ none)
    closed-exactly l body ranges place within =
        let e = closed-without-reason ps l body ranges place in
        (λ t. e.1 (class-closed ps l body ranges t), λ none. closed-class ps l body ranges (e.0 none))

-- this holds of each reason that is reported
abbrev pub EachReason : (Reason → Type 0) → List LoopReport → Type 0
EachReason P reports = Each (λ report. (r : Reason) → report.reason ≡ some r → P r) reports

-- the offsets in the reasons of a sheet are those of its choices and loops
pub reasons-stand : (ps : List ℤ) (rs : List Record) → WellFormed rs → EachReason (Stands rs 0) (sheet_reports ps rs)
unfolding sheet_reports
reasons-stand ps rs h =
    each-report ps _ rs 0 (λ l body ranges at within r e. stands-within within r ((explained ps l body ranges at).reason_stands r e))
    (tree rs) [] 0 (λ part k s. rw (in-place-formed rs h.in_place).same at s)

stands-up-to : {rs part : List Record} {at offset : ℕ} → StandsAt rs at part offset → offset + sheet_length part ≤ at + sheet_length rs
stands-up-to {part} s =
    omega (arith, ap sheet_length s.split, sheet_length-append s.before (part ++ s.after), sheet_length-append part s.after)

offsets-below : (rs : List Record) (r : Reason) → sheet_length rs ≤ offset_limit → Stands rs 0 r → OffsetsBelow r
unfolding Stands OffsetsBelow records sheet_length record_length
offsets-below rs (holds_loop c) short (arms, s, holds_some, after) = omega (arith, stands-up-to s)
offsets-below rs (too_few_trips k) short (found, s, after) = omega (arith, stands-up-to s)
offsets-below rs (uneven_in k m) short (mover, inner, s, (found, t, after)) = omega (arith, stands-up-to s, stands-up-to t)

pub reasons-below : (ps : List ℤ) (rs : List Record) → WellFormed rs → EachReason OffsetsBelow (sheet_reports ps rs)
reasons-below ps rs h =
    let short : sheet_length rs ≤ offset_limit = omega (arith, sheet_length-bound rs, h.short) in
    each-follows (λ report stands r e. offsets-below rs r short (stands r e)) (reasons-stand ps rs h)

-- ---- all that is promised

-- of the reports of a sheet
module _ {rs : List Record} where
  pub all_told : {reports : List LoopReport} → Each (λ report. T (is_closed report.class) ↔ (report.reason ≡ none)) reports →
      EachReason (Stands rs 0) reports → EachReason OffsetsBelow reports → Each (ReasonTold rs) reports
  all_told no_member no_member no_member = no_member
  all_told (one_more exact exacts) (one_more place places) (one_more below belows) =
      one_more (record { exactly = exact; stands = place; reads_back = λ r e. (reads-back (reason_line r)).its r (below r e) refl }) (all_told exacts places belows)

pub reasons-told : (ps : List ℤ) (sheet : List ℕ) → ReasonsTold ps (read sheet)
reasons-told ps sheet = record { explained = explained ps; told = go (read sheet) refl }
  where
    go : (result : Result (List Record)) → read sheet ≡ result → EachTold ps result
    go (ok rs) e = unfold EachTold in
        (let formed = read-well-formed sheet rs e in
        all_told (unfold sheet_reports in walked-has-reason ps (tree rs) [] 0) (reasons-stand ps rs formed) (reasons-below ps rs formed))
    go (refused number place) e = unfold EachTold in tt
