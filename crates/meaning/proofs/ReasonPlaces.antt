-- The offsets that a reason gives are those of records: C of a choice, K and M of loops.
use mathlib.Core.Path.{refl, sym, ap, ◌∙◌}
use mathlib.Core.List.{List, [], ◌∷◌, ◌++◌, append_assoc}
use Prim.Native.Nat.{ℕ, ◌+◌, ◌<◌}
use native.Mathlib.Omega.{arith}
use lib.IntN.{ℤ}
use Rattle.meaning.specs.Record.{Loop, Record, work_record, loop_record, end_record, choice_record, next_arm_record, record_length, sheet_length}
use Rattle.meaning.specs.Tree.{Block, Arms, empty, work, loop, choice, last_arm, arm, records, arms_records}
use Rattle.meaning.specs.Range.{Range}
use Rattle.meaning.specs.Place.{after_loop, after_choice}
use Rattle.meaning.specs.Reason.{Reason, holds_loop, too_few_trips, uneven_in}
use Rattle.meaning.specs.ReasonOrder.{ChoiceIn, choice_here, choice_in_arms, choice_after_choice, choice_in_body, choice_after_loop, choice_after_work}
use Rattle.meaning.specs.ReasonOrder.{ChoiceInArms, choice_in_last_arm, choice_in_arm, choice_in_later_arm}
use Rattle.meaning.specs.ReasonOrder.{Placed, LoopIn, loop_here, loop_in_body, loop_after_loop, loop_in_arms, loop_after_choice, loop_after_work}
use Rattle.meaning.specs.ReasonOrder.{LoopInArms, loop_in_last_arm, loop_in_arm, loop_in_later_arm, Fails, choice_fails, smallest_fails, division_fails}
use Rattle.meaning.specs.ReasonOrder.{StandsAt, Stands}
use Rattle.meaning.proofs.RecordBytes.{sheet_length-append}
use Rattle.meaning.specs.ReasonsTold.{Each, no_member, one_more}
use Rattle.meaning.proofs.TestLists.{each_first, each-split, each-follows}

-- ---- what stands among some records stands among more

abbrev pub Within : List Record → ℕ → List Record → ℕ → Type 0
Within rs at whole from = (part : List Record) (offset : ℕ) → StandsAt rs at part offset → StandsAt whole from part offset

stands-first : (part rs : List Record) {at : ℕ} → StandsAt (part ++ rs) at part at
unfolding sheet_length
stands-first part rs = record { before = []; after = rs; split = refl; place = omega arith }

loop-first : {at : ℕ} (l : Loop) (body rest : Block) → StandsAt (records (loop l body rest)) at (records (loop l body empty)) at
unfolding records
loop-first {at} l body rest = rw append_assoc at (stands-first (records (loop l body empty)) (records rest) {at = at})

choice-first : {at : ℕ} (arms : Arms) (rest : Block) → StandsAt (records (choice arms rest)) at (records (choice arms empty)) at
unfolding records
choice-first {at} arms rest = rw append_assoc at (stands-first (records (choice arms empty)) (records rest) {at = at})

module _ {part : List Record} {offset : ℕ} where
  -- one record stands before what the part is of
  pub stands-behind : {rs : List Record} {at : ℕ} (first : Record) → StandsAt rs (at + record_length first) part offset → StandsAt (first ∷ rs) at part offset
  unfolding sheet_length
  stands-behind first s = record { before = first ∷ s.before; after = s.after; split = ap (λ rs. first ∷ rs) s.split; place = omega arith }

  -- several records stand before it
  stands-later : {rs : List Record} {at : ℕ} (earlier : List Record) → StandsAt rs (at + sheet_length earlier) part offset → StandsAt (earlier ++ rs) at part offset
  stands-later earlier s = record {
    before = earlier ++ s.before;
    after = s.after;
    split = ap (λ rs. earlier ++ rs) s.split ∙ sym (append_assoc earlier s.before (part ++ s.after));
    place = omega (arith, sheet_length-append earlier s.before);
  }

  -- several records stand after it
  pub stands-earlier : {rs : List Record} {at : ℕ} (later : List Record) → StandsAt rs at part offset → StandsAt (rs ++ later) at part offset
  stands-earlier later s = record {
    before = s.before;
    after = s.after ++ later;
    split = ap (λ rs. rs ++ later) s.split ∙ simp append_assoc;
    place = s.place;
  }

  pub in_body : {at : ℕ} (l : Loop) (body rest : Block) → StandsAt (records body) (at + record_length (loop_record l)) part offset →
      StandsAt (records (loop l body rest)) at part offset
  unfolding records
  in_body l body rest s = stands-behind (loop_record l) (stands-earlier (end_record ∷ records rest) s)

  -- a loop without what follows it
  pub in-loop : {at : ℕ} (l : Loop) (body rest : Block) → StandsAt (records (loop l body empty)) at part offset →
      StandsAt (records (loop l body rest)) at part offset
  unfolding records
  in-loop l body rest s = rw append_assoc at (stands-earlier (records rest) s)

  pub after-loop : {at : ℕ} (l : Loop) (body rest : Block) → StandsAt (records rest) (after_loop at l body) part offset →
      StandsAt (records (loop l body rest)) at part offset
  unfolding records
  after-loop l body rest s = stands-behind (loop_record l) (stands-later (records body) (stands-behind end_record s))

  pub in_arms : {at : ℕ} (arms : Arms) (rest : Block) → StandsAt (arms_records arms) (at + record_length choice_record) part offset →
      StandsAt (records (choice arms rest)) at part offset
  unfolding records
  in_arms arms rest s = stands-behind choice_record (stands-earlier (end_record ∷ records rest) s)

  pub after-choice : {at : ℕ} (arms : Arms) (rest : Block) → StandsAt (records rest) (after_choice at arms) part offset →
      StandsAt (records (choice arms rest)) at part offset
  unfolding records
  after-choice arms rest s = stands-behind choice_record (stands-later (arms_records arms) (stands-behind end_record s))

  pub later-arm : {at : ℕ} (b : Block) (arms : Arms) → StandsAt (arms_records arms) (at + sheet_length (records b) + record_length next_arm_record) part offset →
      StandsAt (arms_records (arm b arms)) at part offset
  unfolding arms_records
  later-arm b arms s = stands-later (records b) (stands-behind next_arm_record s)

-- ---- choices and loops stand where they are said to

mutual
  unfolding records

  pub choice-stands : (b : Block) {at c : ℕ} {found : Arms} → ChoiceIn b at c found → StandsAt (records b) at (records (choice found empty)) c
  choice-stands empty {at = at} {c = c} {found = found} i = elim i [ ]
  choice-stands (work least most rest) (choice_after_work i) = stands-behind (work_record least most) (choice-stands rest i)
  choice-stands (loop l body rest) (choice_in_body i) = in_body l body rest (choice-stands body i)
  choice-stands (loop l body rest) (choice_after_loop i) = after-loop l body rest (choice-stands rest i)
  choice-stands (choice arms rest) choice_here = choice-first arms rest
  choice-stands (choice arms rest) (choice_in_arms i) = in_arms arms rest (choice-stands-arms arms i)
  choice-stands (choice arms rest) (choice_after_choice i) = after-choice arms rest (choice-stands rest i)

  choice-stands-arms : (arms : Arms) {at c : ℕ} {found : Arms} → ChoiceInArms arms at c found →
      StandsAt (arms_records arms) at (records (choice found empty)) c
  choice-stands-arms (last_arm b) (choice_in_last_arm i) = choice-stands b i
  choice-stands-arms (arm b arms) (choice_in_arm i) = stands-earlier (next_arm_record ∷ arms_records arms) (choice-stands b i)
  choice-stands-arms (arm b arms) (choice_in_later_arm i) = later-arm b arms (choice-stands-arms arms i)

-- what stands in the body stands after the record of the loop
pub in-loop-alone : {part : List Record} {at offset : ℕ} (l : Loop) (body : Block) → StandsAt (records body) (at + record_length (loop_record l)) part offset →
    StandsAt (records (loop l body empty)) at part offset × (at < offset)
unfolding record_length
in-loop-alone l body s = (in_body l body empty s, omega arith)

-- a loop stands at its offset, and loop K inside it
abbrev pub StandsAround : List Record → ℕ → ℕ → Loop → Placed → Type 0
StandsAround rs at k found p =
    (inner : Block) × StandsAt rs at (records (loop p.placed inner empty)) p.offset
    × StandsAt (records (loop p.placed inner empty)) p.offset (loop_record found ∷ []) k × (p.offset < k)

-- loop K stands at k, and each loop between at its offset, with K inside it
pub record LoopStands (rs : List Record) (at : ℕ) (between : List Placed) (k : ℕ) (found : Loop) : Type 0 where
  pub own : StandsAt rs at (loop_record found ∷ []) k
  pub around : Each (StandsAround rs at k found) between

loops-within : {rs whole : List Record} {at from k : ℕ} {between : List Placed} {found : Loop} → Within rs at whole from → LoopStands rs at between k found →
    LoopStands whole from between k found
loops-within within s = record {
  own = within _ _ s.own;
  around = each-follows (λ p a. (a.0, within _ _ a.1, a.2, a.3)) s.around;
}

mutual
  unfolding records

  pub loops-stand : (b : Block) {at k : ℕ} {between : List Placed} {found : Loop} → LoopIn b at between k found → LoopStands (records b) at between k found
  loops-stand empty {at = at} {k = k} {between = between} {found = found} i = elim i [ ]
  loops-stand (work least most rest) (loop_after_work i) = loops-within (λ part k. stands-behind (work_record least most)) (loops-stand rest i)
  loops-stand (loop l body rest) loop_here = record { own = stands-first (loop_record l ∷ []) _; around = no_member }
  loops-stand (loop l body rest) (loop_in_body i) =
      let inside = in-loop-alone l body (loops-stand body i).own in
      let others = loops-within (λ part k. in_body l body rest) (loops-stand body i) in
      record { own = others.own; around = one_more (body, loop-first l body rest, inside.0, inside.1) others.around }
  loops-stand (loop l body rest) (loop_after_loop i) = loops-within (λ part k. after-loop l body rest) (loops-stand rest i)
  loops-stand (choice arms rest) (loop_in_arms i) = loops-within (λ part k. in_arms arms rest) (loops-stand-arms arms i)
  loops-stand (choice arms rest) (loop_after_choice i) = loops-within (λ part k. after-choice arms rest) (loops-stand rest i)

  loops-stand-arms : (arms : Arms) {at k : ℕ} {between : List Placed} {found : Loop} → LoopInArms arms at between k found →
      LoopStands (arms_records arms) at between k found
  loops-stand-arms (last_arm b) (loop_in_last_arm i) = loops-stand b i
  loops-stand-arms (arm b arms) (loop_in_arm i) = loops-within (λ part k. stands-earlier (next_arm_record ∷ arms_records arms)) (loops-stand b i)
  loops-stand-arms (arm b arms) (loop_in_later_arm i) = loops-within (λ part k. later-arm b arms) (loops-stand-arms arms i)

-- ---- what fails stands

pub failing-stands : {ps : List ℤ} {l : Loop} {body : Block} {ranges : List Range} {at : ℕ} (r : Reason) → Fails ps l body ranges at r →
    Stands (records (loop l body empty)) at r
unfolding Stands
failing-stands {l} {body} r (choice_fails arms i holds_some) = let s = in-loop-alone l body (choice-stands body i) in (arms, s.0, holds_some, s.1)
failing-stands {l} {body} r (smallest_fails between found i t) = let s = in-loop-alone l body (loops-stand body i).own in (found, s.0, s.1)
failing-stands {l} {body} r (division_fails between outer m inner found i e t) =
    let around = each-split outer (m ∷ inner) (rw e at (loops-stand (loop l body empty) (loop_in_body i)).around) in
    let a = (each_first around.1).0 in
    (m.placed, a.0, a.1, (found, a.2, a.3))

pub stands-within : {rs sheet : List Record} {at : ℕ} → Within rs at sheet 0 → (r : Reason) → Stands rs at r → Stands sheet 0 r
unfolding Stands
stands-within within (holds_loop c) (arms, s, holds_some, after) = (arms, within _ c s, holds_some, omega arith)
stands-within within (too_few_trips k) (found, s, after) = (found, within _ k s, omega arith)
stands-within within (uneven_in k m) (mover, inner, s, inside) = (mover, inner, within _ m s, inside)
