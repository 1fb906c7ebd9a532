-- The tests for closing a loop stand in document 02's order.
use mathlib.Core.Path.{refl}
use mathlib.Core.List.{List, [], ◌∷◌, ◌++◌}
use mathlib.Core.Logic.{inl, inr}
use Prim.Native.Nat.{ℕ, ◌+◌, ◌≤◌, ◌<◌}
use native.Mathlib.Nat.{le_refl}
use native.Mathlib.Omega.{arith}
use lib.IntN.{ℤ}
use lib.ListN.{length}
use Rattle.meaning.specs.Record.{Loop, work_record, loop_record, end_record, choice_record, next_arm_record, record_length, sheet_length}
use Rattle.meaning.specs.Tree.{Block, Arms, empty, work, loop, choice, last_arm, arm, records, arms_records}
use Rattle.meaning.specs.Range.{Range, inner_ranges}
use Rattle.meaning.specs.Place.{after_loop, after_choice}
use Rattle.meaning.specs.Reason.{Reason, holds_loop, too_few_trips, uneven_in, Test, Around, around_with, uneven_tests}
use Rattle.meaning.specs.Reason.{choice_tests, arms_choice_tests, own_tests, loop_tests, arms_loop_tests, closing_tests}
use Rattle.meaning.specs.ReasonOrder.{Precedes}
use Rattle.meaning.proofs.RecordBytes.{sheet_length-append}
use Rattle.meaning.specs.ReasonsTold.{Each, no_member, one_more}
use Rattle.meaning.proofs.TestLists.{each_append, each-follows, each_map}
use Rattle.meaning.proofs.TestLists.{Ascending, ended, before, ascending-append, ascending-map}

-- ---- the loops around stand before what is inside them, in this order

record Inward (around : List Around) (at : ℕ) : Type 0 where
  outside : Each (λ m. m.offset < at) around
  inward : Ascending (λ m n. m.offset < n.offset) around

inward-later : {around : List Around} {at later : ℕ} → at ≤ later → Inward around at → Inward around later
inward-later h i = record { outside = each-follows (λ m below. omega arith) i.outside; inward = i.inward }

inward-with : {around : List Around} {at inside : ℕ} (l : Loop) (depth : ℕ) → at < inside → Inward around at → Inward (around_with l depth at around) inside
unfolding around_with
inward-with l depth h i = record {
  outside = each_append (each_map _ (λ m below. omega arith) i.outside) (one_more h no_member);
  inward = ascending-append (each_map _ (λ m below. one_more below no_member) i.outside) (ascending-map _ (λ m n below. below) i.inward) (before no_member ended);
}

-- ---- tests in document 02's order

-- C or K stands before `past`
NamesBefore : ℕ → Reason → Type 0
NamesBefore past (holds_loop c) = c < past
NamesBefore past (too_few_trips k) = k < past
NamesBefore past (uneven_in k m) = k < past

module _ (past : ℕ) where
  -- where a reason stands in the order: a choice at its offset, a loop after all choices
  rank : Reason → ℕ
  rank (holds_loop c) = c
  rank (too_few_trips k) = past + k
  rank (uneven_in k m) = past + k

  rank-precedes : (r s : Reason) → NamesBefore past r → NamesBefore past s → rank r < rank s → Precedes r s
  unfolding rank NamesBefore Precedes
  rank-precedes (holds_loop c) (holds_loop d) p q h = h
  rank-precedes (holds_loop c) (too_few_trips k) p q h = tt
  rank-precedes (holds_loop c) (uneven_in k m) p q h = tt
  rank-precedes (too_few_trips k) (holds_loop c) p q h = absurd (omega arith)
  rank-precedes (too_few_trips k) (too_few_trips j) p q h = omega arith
  rank-precedes (too_few_trips k) (uneven_in j m) p q h = omega arith
  rank-precedes (uneven_in k m) (holds_loop c) p q h = absurd (omega arith)
  rank-precedes (uneven_in k m) (too_few_trips j) p q h = omega arith
  rank-precedes (uneven_in k m) (uneven_in j n) p q h = inl (omega arith)

  -- the reason stands from rank `lo` up to `hi`
  record Standing (lo hi : ℕ) (r : Reason) : Type 0 where
    names : NamesBefore past r
    low : lo ≤ rank r
    high : rank r < hi

  record Ordered (lo hi : ℕ) (ts : List Test) : Type 0 where
    standing : Each (λ t. Standing lo hi t.reason) ts
    ascending : Ascending (λ t u. Precedes t.reason u.reason) ts

  ordered-none : {lo hi : ℕ} → Ordered lo hi []
  ordered-none = record { standing = no_member; ascending = ended }

  ordered-one : {lo hi : ℕ} {t : Test} → Standing lo hi t.reason → Ordered lo hi (t ∷ [])
  ordered-one s = record { standing = one_more s no_member; ascending = before no_member ended }

  wider : {lo first last hi : ℕ} {ts : List Test} → lo ≤ first → last ≤ hi → Each (λ t. Standing first last t.reason) ts →
      Each (λ t. Standing lo hi t.reason) ts
  wider p q each = each-follows (λ t s. record { names = s.names; low = omega arith; high = omega arith }) each

  -- tests, and others after them, all from `lo` up to `hi`
  ordered-append : (lo hi : ℕ) {first mid late last : ℕ} {ts us : List Test} → Ordered first mid ts → Ordered late last us →
      (lo ≤ first) × (mid ≤ late) × (mid ≤ hi) × (lo ≤ late) × (last ≤ hi) → Ordered lo hi (ts ++ us)
  ordered-append lo hi a b (p, q, r, s, t) = record {
    standing = each_append (wider p r a.standing) (wider s t b.standing);
    ascending = ascending-append (each-follows (λ t i. each-follows (λ u j. rank-precedes t.reason u.reason i.names j.names (omega arith)) b.standing)
        a.standing) a.ascending b.ascending;
  }

  -- records that stand at `at` and have so many bytes lie from `lo` up to `hi`
  record Room (lo at bytes hi : ℕ) : Type 0 where
    from : lo ≤ at
    up_to : at + bytes ≤ hi
    inside : hi ≤ past

  module _ (ps : List ℤ) where
    own-ordered : {around : List Around} {lo at hi : ℕ} (k : Loop) (ranges : List Range) → Inward around at → Room lo at (record_length (loop_record k)) hi →
        Ordered (past + lo) (past + hi) (own_tests ps k ranges around at)
    unfolding own_tests uneven_tests rank NamesBefore Precedes record_length
    own-ordered {around} {lo} {at} {hi} k ranges i room =
        let few : Standing (past + lo) (past + hi) (too_few_trips at) = omega arith in
        let uneven : (m : Around) → m.offset < at → Standing (past + lo) (past + hi) (uneven_in at m.offset) = λ m below. omega arith in
        let further : (m n : Around) → m.offset < n.offset → Precedes (uneven_in at m.offset) (uneven_in at n.offset) = λ m n below. inr (refl, below) in
        record {
          standing = one_more few (each_map _ uneven i.outside);
          ascending = before (each_map _ (λ m below. le_refl at) i.outside) (ascending-map _ further i.inward);
        }

    mutual
      unfolding choice_tests loop_tests records sheet_length rank NamesBefore record_length

      ordered : (b : Block) (ranges : List Range) (around : List Around) (lo at hi : ℕ) → Inward around at → Room lo at (sheet_length (records b)) hi →
          Ordered lo hi (choice_tests b at) × Ordered (past + lo) (past + hi) (loop_tests ps b ranges around at)
      ordered empty ranges around lo at hi i room = (ordered-none, ordered-none)
      ordered (work least most rest) ranges around lo at hi i room =
          ordered rest ranges around lo (at + record_length (work_record least most)) hi (inward-later (omega arith) i) (omega arith)
      ordered (loop l body rest) ranges around lo at hi i room =
          let bytes = sheet_length-append (records body) (end_record ∷ records rest) in
          let start : ℕ = at + record_length (loop_record l) in
          let end : ℕ = after_loop at l body in
          let own = own-ordered {lo = lo} {hi = start} l ranges i (omega arith) in
          let further = inward-with {inside = start} l (length ranges) (omega arith) i in
          let inside = ordered body (inner_ranges ps l ranges) (around_with l (length ranges) at around) start start end further (omega arith) in
          let after = ordered rest ranges around end end hi (inward-later (omega arith) i) (omega arith) in (
            ordered-append lo hi inside.0 after.0 (omega arith),
            ordered-append (past + lo) (past + hi) (ordered-append (past + lo) (past + end) own inside.1 (omega arith)) after.1 (omega arith),
          )
      ordered (choice arms rest) ranges around lo at hi i room =
          let bytes = sheet_length-append (arms_records arms) (end_record ∷ records rest) in
          let start : ℕ = at + record_length choice_record in
          let end : ℕ = after_choice at arms in
          let own : Standing lo start (holds_loop at) = omega arith in
          let inside = arms-ordered arms ranges around start start end (inward-later (omega arith) i) (omega arith) in
          let after = ordered rest ranges around end end hi (inward-later (omega arith) i) (omega arith) in (
            ordered-append lo hi (ordered-append lo end (ordered-one own) inside.0 (omega arith)) after.0 (omega arith),
            ordered-append (past + lo) (past + hi) inside.1 after.1 (omega arith),
          )

      arms-ordered : (arms : Arms) (ranges : List Range) (around : List Around) (lo at hi : ℕ) → Inward around at → Room lo at (sheet_length (arms_records arms)) hi →
          Ordered lo hi (arms_choice_tests arms at) × Ordered (past + lo) (past + hi) (arms_loop_tests ps arms ranges around at)
      arms-ordered (last_arm b) ranges around lo at hi i room = ordered b ranges around lo at hi i room
      arms-ordered (arm b arms) ranges around lo at hi i room =
          let bytes = sheet_length-append (records b) (next_arm_record ∷ arms_records arms) in
          let next : ℕ = at + sheet_length (records b) + record_length next_arm_record in
          let first = ordered b ranges around lo at next i (omega arith) in
          let others = arms-ordered arms ranges around next next hi (inward-later (omega arith) i) (omega arith) in
          (ordered-append lo hi first.0 others.0 (omega arith), ordered-append (past + lo) (past + hi) first.1 others.1 (omega arith))

-- ---- the tests of a loop

module _ (ps : List ℤ) (l : Loop) (body : Block) (ranges : List Range) (at : ℕ) where
  closing-ordered : Ordered (after_loop at l body) at (after_loop at l body + after_loop at l body) (closing_tests ps l body ranges at)
  unfolding closing_tests record_length
  closing-ordered =
      let start : ℕ = at + record_length (loop_record l) in
      let end : ℕ = after_loop at l body in
      let around = inward-with {at = at} {inside = start} l (length ranges) (omega arith) (record { outside = no_member; inward = ended }) in
      let both = ordered end ps body (inner_ranges ps l ranges) (around_with l (length ranges) at []) start start end around (omega arith) in
      ordered-append end at (end + end) both.0 both.1 (omega arith)

  pub tests-ascend : Ascending (λ t u. Precedes t.reason u.reason) (closing_tests ps l body ranges at)
  tests-ascend = closing-ordered.ascending
