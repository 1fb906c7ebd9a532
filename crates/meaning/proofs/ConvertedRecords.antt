-- The records of a converted sheet are well formed, so the writer's check accepts them and its sheet is the converter's.
use mathlib.Core.Path.{◌≡◌, refl, sym, ap, ◌∙◌, subst}
use mathlib.Core.List.{List, [], ◌∷◌, map}
use mathlib.Core.Bool.{cond}
use Prim.Native.Nat.{ℕ, ◌+◌}
use native.Mathlib.Omega.{arith}
use lib.ListN.{length, length-map}
use lib.Dec.{T, eqb}
use Rattle.meaning.specs.Record.{Loop, stride_size, skip_or, skip_cycles, Record, work_record, loop_record, end_record, choice_record, next_arm_record, record_length}
use Rattle.meaning.specs.Record.{Open, fields_in_range, open_after}
use Rattle.meaning.specs.Reader.{ok, and_then, read}
use Rattle.meaning.specs.Writer.{store, fit_sheet, check, write, write_up_to}
use Rattle.meaning.specs.Converter.{with_skip, without_skip, change_loop, skips_start, drop_skips, convert}
use Rattle.meaning.proofs.Logic.{T→true, and_then-ok, require-ok, ok-injective}
use Rattle.meaning.proofs.Accepted.{InPlace, WellFormed, read-well-formed}
use Rattle.meaning.proofs.Raw.{raw_of, well-formed-checked}
use Rattle.meaning.proofs.SameLoops.{SameLoop, with-skip-same, without_start_skip, without-start-skip-same, same-with-skip}

-- ---- one record

-- a loop's record, or one that no change of loops changes
pub data LoopOrNot : Record → Type 0 where
  is_loop : (l : Loop) → LoopOrNot (loop_record l)
  no_loop : {r : Record} → ((change : Loop → Loop) → change_loop change r ≡ r) → T (skips_start r) → LoopOrNot r

pub loop_or_not : (r : Record) → LoopOrNot r
unfolding change_loop skips_start
loop_or_not (work_record least most) = no_loop (λ change. refl) tt
loop_or_not (loop_record l) = is_loop l
loop_or_not end_record = no_loop (λ change. refl) tt
loop_or_not choice_record = no_loop (λ change. refl) tt
loop_or_not next_arm_record = no_loop (λ change. refl) tt

-- ---- a change of loops keeps records well formed

module _ {change : Loop → Loop} (same : (l : Loop) → SameLoop l (change l)) where
  changed-open : (os : List Open) {r : Record} → LoopOrNot r → open_after os (change_loop change r) ≡ open_after os r
  unfolding open_after change_loop
  changed-open os (is_loop l) = refl
  changed-open os (no_loop unchanged start) = ap (open_after os) (unchanged change)

  changed-in-range : (os : List Open) {r : Record} → LoopOrNot r → fields_in_range os (change_loop change r) ≡ fields_in_range os r
  unfolding fields_in_range stride_size change_loop with_skip skip_cycles skip_or
  changed-in-range os (is_loop l) = ap (λ (m : Loop). fields_in_range os (loop_record m)) (same-with-skip (same l))
  changed-in-range os (no_loop unchanged start) = ap (fields_in_range os) (unchanged change)

  changed-in-place : (os : List Open) (rs : List Record) → InPlace os rs → InPlace os (map (change_loop change) rs)
  unfolding InPlace
  changed-in-place os [] h = h
  changed-in-place os (r ∷ rs) (after, e, t, h) =
      (after, changed-open os (loop_or_not r) ∙ e, subst T (sym (changed-in-range os (loop_or_not r))) t, changed-in-place after rs h)

  pub changed-well-formed : {rs : List Record} → WellFormed rs → WellFormed (map (change_loop change) rs)
  changed-well-formed {rs} w =
      record { in_place = changed-in-place [] rs w.in_place; short = omega (arith, w.short, length-map rs (change_loop change)) }

-- ---- what the converters make of records

-- the records `new` are the records `old` with their loops changed, each into one that means the same
pub record Converted (old new : List Record) : Type 0 where
  pub change : Loop → Loop
  pub same : (l : Loop) → SameLoop l (change l)
  pub changed : map (change_loop change) old ≡ new

pub with-skips-converted : (rs : List Record) → Converted rs (map (change_loop with_skip) rs)
with-skips-converted rs = record { change = with_skip; same = with-skip-same; changed = refl }

-- leaving out a skip that is the start is a change of loops
without-start : {r : Record} → LoopOrNot r → T (skips_start r) → change_loop without_start_skip r ≡ change_loop without_skip r
unfolding change_loop without_start_skip skips_start
without-start (is_loop l) t = ap (λ b. loop_record (cond b (without_skip l) l)) (T→true (eqb (skip_cycles l) l.start) t)
without-start (no_loop unchanged start) t = unchanged without_start_skip ∙ sym (unchanged without_skip)

dropped-changed : (at : ℕ) (rs new : List Record) → drop_skips at rs ≡ ok new → map (change_loop without_start_skip) rs ≡ new
unfolding drop_skips
dropped-changed at [] new e = ok-injective e
dropped-changed at (r ∷ rs) new e =
    let q = require-ok (skips_start r) 10 _ _ new e in
    let c = and_then-ok (drop_skips (at + record_length r) rs) _ new q.1 in
    let first = without-start (loop_or_not r) q.0 in
    let others = dropped-changed (at + record_length r) rs c.0 c.1 in
    (λ t. first t ∷ others t) ∙ ok-injective c.2

pub without-skips-converted : (at : ℕ) (rs new : List Record) → drop_skips at rs ≡ ok new → Converted rs new
without-skips-converted at rs new e = record { change = without_start_skip; same = without-start-skip-same; changed = dropped-changed at rs new e }

-- ---- what is written of them

-- what the writer's check accepts it writes as a converter does
pub checked-written : (rs : List Record) → check (map raw_of rs) (length rs) ≡ ok rs → (buffer : List ℕ) →
    write (map raw_of rs) (length rs) buffer ≡ convert (ok rs) buffer
unfolding write_up_to convert
checked-written rs c buffer = ap (λ r. store buffer (and_then r (fit_sheet buffer))) c

module _ (sheet : List ℕ) (rs : List Record) (e : read sheet ≡ ok rs) (new : List Record) (c : Converted rs new) where
  pub converted-well-formed : WellFormed new
  converted-well-formed = subst WellFormed c.changed (changed-well-formed c.same (read-well-formed sheet rs e))

  pub converted-checked : check (map raw_of new) (length new) ≡ ok new
  converted-checked = well-formed-checked new converted-well-formed

  pub converted-written : (buffer : List ℕ) → write (map raw_of new) (length new) buffer ≡ convert (ok new) buffer
  converted-written = checked-written new converted-checked
