-- Each converter turns every loop, and there and back returns the old bytes of a sheet that has no loop of the kind that it makes.
use mathlib.Core.Path.{◌≡◌, refl, sym, ap, ◌∙◌, subst}
use mathlib.Core.List.{List, [], ◌∷◌, map}
use mathlib.Core.Bool.{Bool, true, false, not}
use mathlib.Core.Option.{Option, none, some}
use Prim.Native.Nat.{ℕ, ◌+◌, ◌≤◌}
use native.Mathlib.Omega.{arith}
use lib.ListN.{length, take}
use lib.Dec.{T, eqb, eqb_refl}
use Rattle.meaning.specs.Record.{loop_kind, kind_number, Loop, is_given, skip_or, skip_cycles, Record, loop_record, kind, record_length}
use Rattle.meaning.specs.Record.{work_record, end_record, choice_record, next_arm_record}
use Rattle.meaning.specs.Reader.{Result, ok, read}
use Rattle.meaning.specs.Writer.{store}
use Rattle.meaning.specs.Converter.{with_skip, without_skip, change_loop, skips_start, add_skips, drop_skips}
use Rattle.meaning.specs.Converter.{records_with_skips, records_without_skips, convert, with_skips, without_skips}
use Rattle.meaning.specs.Moved.{Without, Turned}
use Rattle.meaning.specs.ReasonsTold.{no_member, one_more}
use Rattle.meaning.proofs.Logic.{and_then-ok, require-ok, and_then-yes, require-yes, ok-injective}
use Rattle.meaning.proofs.Number.{Bytes}
use Rattle.meaning.proofs.Raw.{read-checked}
use Rattle.meaning.proofs.Written.{write_read}
use Rattle.meaning.proofs.SameLoops.{SameLoop, same-with-skip}
use Rattle.meaning.proofs.ConvertedRecords.{LoopOrNot, is_loop, no_loop, loop_or_not, Converted, without-skips-converted, checked-written}
use Rattle.meaning.proofs.Converters.{converter, converter-ok, add-skips-converted}

-- ---- loops of one kind

given-skip : (l : Loop) → ¬ (kind (loop_record l) ≡ loop_kind false) → with_skip l ≡ l
unfolding with_skip kind skip_cycles
given-skip l h = go l.skip refl
  where
    go : (s : Option ℕ) → l.skip ≡ s → with_skip l ≡ l
    go none e = absurd (h (unfold is_given in ap (λ s. loop_kind (is_given s)) e))
    go (some n) e =
        let cycles : skip_or l.skip l.start ≡ n = unfold skip_or in ap (λ s. skip_or s l.start) e in
        let same : some (skip_or l.skip l.start) ≡ l.skip = ap some cycles ∙ sym e in
        λ t. record { start = l.start; step = l.step; stride = l.stride; lower = l.lower; upper = l.upper; skip = same t }

pub no-skip : (l : Loop) → ¬ (kind (loop_record l) ≡ loop_kind true) → l.skip ≡ none
unfolding kind
no-skip l h = go l.skip refl
  where
    go : (s : Option ℕ) → l.skip ≡ s → l.skip ≡ none
    go none e = e
    go (some n) e = absurd (h (unfold is_given in ap (λ s. loop_kind (is_given s)) e))

-- ---- kind 2 to kind 6 and back

module _ (l : Loop) (h : ¬ (kind (loop_record l) ≡ loop_kind true)) where
  back-can-say : T (skips_start (change_loop with_skip (loop_record l)))
  unfolding skips_start change_loop with_skip skip_cycles skip_or
  back-can-say = subst (λ s. T (eqb (skip_or s l.start) l.start)) (sym (no-skip l h)) (eqb_refl l.start)

  back-without : without_skip (with_skip l) ≡ l
  unfolding with_skip without_skip
  back-without = λ t. record { start = l.start; step = l.step; stride = l.stride; lower = l.lower; upper = l.upper; skip = sym (no-skip l h) t }

added-can-say : {r : Record} → LoopOrNot r → ¬ (kind r ≡ loop_kind true) → T (skips_start (change_loop with_skip r))
added-can-say (is_loop l) h = back-can-say l h
added-can-say (no_loop unchanged start) h = subst (λ x. T (skips_start x)) (sym (unchanged with_skip)) start

added-undone : {r : Record} → LoopOrNot r → ¬ (kind r ≡ loop_kind true) → change_loop without_skip (change_loop with_skip r) ≡ r
unfolding change_loop
added-undone (is_loop l) h = ap loop_record (back-without l h)
added-undone (no_loop unchanged start) h = ap (change_loop without_skip) (unchanged with_skip) ∙ unchanged without_skip

drops-added : (at : ℕ) (rs : List Record) → Without (loop_kind true) rs → drop_skips at (map (change_loop with_skip) rs) ≡ ok rs
unfolding drop_skips
drops-added at [] w = refl
drops-added at (r ∷ rs) (one_more h w) =
    require-yes (skips_start (change_loop with_skip r)) 10 _ _ (added-can-say (loop_or_not r) h)
    ∙ and_then-yes _ (drops-added (at + record_length (change_loop with_skip r)) rs w)
    ∙ ap (λ x. ok (x ∷ rs)) (added-undone (loop_or_not r) h)

-- ---- kind 6 to kind 2 and back

given_stays : {r : Record} → LoopOrNot r → ¬ (kind r ≡ loop_kind false) → change_loop with_skip r ≡ r
unfolding change_loop
given_stays (is_loop l) h = ap loop_record (given-skip l h)
given_stays (no_loop unchanged start) h = unchanged with_skip

all-given-stay : (rs : List Record) → Without (loop_kind false) rs → map (change_loop with_skip) rs ≡ rs
all-given-stay [] w = refl
all-given-stay (r ∷ rs) (one_more h w) = λ t. given_stays (loop_or_not r) h t ∷ all-given-stay rs w t

-- a change of loops that mean the same is lost where each is given a field for its skip
module _ {change : Loop → Loop} (same : (l : Loop) → SameLoop l (change l)) where
  change-lost : {r : Record} → LoopOrNot r → change_loop with_skip (change_loop change r) ≡ change_loop with_skip r
  unfolding change_loop
  change-lost (is_loop l) = ap loop_record (same-with-skip (same l))
  change-lost (no_loop unchanged start) = ap (change_loop with_skip) (unchanged change)

  changes-lost : (rs : List Record) → map (change_loop with_skip) (map (change_loop change) rs) ≡ map (change_loop with_skip) rs
  changes-lost [] = refl
  changes-lost (r ∷ rs) = λ t. change-lost (loop_or_not r) t ∷ changes-lost rs t

-- ---- the old bytes

-- the old records are written as the old sheet
old-written : (sheet : List ℕ) (rs : List Record) (buffer : List ℕ) → Bytes sheet → read sheet ≡ ok rs → length sheet ≤ length buffer →
    convert (ok rs) buffer ≡ store buffer (ok sheet)
unfolding store
old-written sheet rs buffer h e fits = sym (checked-written rs (read-checked sheet rs e) buffer) ∙ write_read sheet rs buffer h e fits

-- ---- every loop

other-number : (b : Bool) (n : ℕ) → ¬ (n ≡ 2) → ¬ (n ≡ 6) → ¬ (n ≡ kind_number (loop_kind b))
unfolding kind_number
other-number true n two six e = six e
other-number false n two six e = two e

-- no record is of a kind that no changed loop has
none_left : (b : Bool) (change : Loop → Loop) → ((l : Loop) → ¬ (kind (loop_record (change l)) ≡ loop_kind b)) → (r : Record) → ¬ (kind (change_loop change r) ≡ loop_kind b)
unfolding kind change_loop kind_number
none_left b change loops (work_record least most) e = other-number b 1 (λ z. omega arith) (λ z. omega arith) (ap kind_number e)
none_left b change loops (loop_record l) e = loops l e
none_left b change loops end_record e = other-number b 3 (λ z. omega arith) (λ z. omega arith) (ap kind_number e)
none_left b change loops choice_record e = other-number b 4 (λ z. omega arith) (λ z. omega arith) (ap kind_number e)
none_left b change loops next_arm_record e = other-number b 5 (λ z. omega arith) (λ z. omega arith) (ap kind_number e)

with-skip-kind : (l : Loop) → ¬ (kind (loop_record (with_skip l)) ≡ loop_kind false)
unfolding kind with_skip is_given kind_number
with-skip-kind l e = let n = ap kind_number e in omega arith

without-skip-kind : (l : Loop) → ¬ (kind (loop_record (without_skip l)) ≡ loop_kind true)
unfolding kind without_skip is_given kind_number
without-skip-kind l e = let n = ap kind_number e in omega arith

-- "every kind 2 into kind 6"
all-added : (rs : List Record) → Without (loop_kind false) (map (change_loop with_skip) rs)
all-added [] = no_member
all-added (r ∷ rs) = one_more (none_left false with_skip with-skip-kind r) (all-added rs)

-- "every kind 6 into kind 2"
all-dropped : (at : ℕ) (rs new : List Record) → drop_skips at rs ≡ ok new → Without (loop_kind true) new
unfolding drop_skips
all-dropped at [] new e = subst (Without (loop_kind true)) (ok-injective e) no_member
all-dropped at (r ∷ rs) new e =
    let passed = require-ok (skips_start r) 10 at _ new e in
    let others = and_then-ok (drop_skips (at + record_length r) rs) _ new passed.1 in
    subst (Without (loop_kind true)) (ok-injective others.2) (one_more (none_left true without_skip without-skip-kind r) (all-dropped (at + record_length r) rs others.0 others.1))

-- ---- both

-- where `back` takes the new records to the old
module _ (there back : List Record → Result (List Record)) (converts : (rs new : List Record) → there rs ≡ ok new → Converted rs new) (has_skip : Bool)
    (turns : (rs new : List Record) → there rs ≡ ok new → Without (loop_kind (not has_skip)) new)
    (undoes : (rs new : List Record) → Without (loop_kind has_skip) rs → there rs ≡ ok new → back new ≡ ok rs) where
  turned : (sheet buffer : List ℕ) (n : ℕ) → Bytes sheet → (converter there sheet buffer).result ≡ ok n →
      Turned has_skip (converter back) sheet (take n (converter there sheet buffer).buffer)
  turned sheet buffer n h a =
      let i = converter-ok there converts sheet buffer n a in
      record {
        every_loop = λ rs e. subst (Without (loop_kind (not has_skip))) (ok-injective (sym i.new_read ∙ e)) (turns i.old i.new i.changed);
        comes_back = λ rs e without room fits.
            let old-same : i.old ≡ rs = ok-injective (sym i.old_read ∙ e) in
            let undone : back i.new ≡ ok rs = undoes rs i.new without (ap there (sym old-same) ∙ i.changed) in
            ap (λ r. convert r room) (and_then-yes back i.new_read ∙ undone) ∙ old-written sheet rs room h e fits;
      }

module _ (sheet buffer : List ℕ) (n : ℕ) (bytes : Bytes sheet) where
  pub with-skips-turned : (with_skips sheet buffer).result ≡ ok n → Turned true without_skips sheet (take n (with_skips sheet buffer).buffer)
  unfolding with_skips records_with_skips without_skips records_without_skips
  with-skips-turned a = turned add_skips (drop_skips 0) add-skips-converted true turns undoes sheet buffer n bytes a
    where
      added : (rs new : List Record) → add_skips rs ≡ ok new → map (change_loop with_skip) rs ≡ new
      added rs new e = unfold add_skips in ok-injective e

      turns : (rs new : List Record) → add_skips rs ≡ ok new → Without (loop_kind false) new
      turns rs new e = subst (Without (loop_kind false)) (added rs new e) (all-added rs)

      undoes : (rs new : List Record) → Without (loop_kind true) rs → add_skips rs ≡ ok new → drop_skips 0 new ≡ ok rs
      undoes rs new w e = ap (drop_skips 0) (sym (added rs new e)) ∙ drops-added 0 rs w

  pub without-skips-turned : (without_skips sheet buffer).result ≡ ok n → Turned false with_skips sheet (take n (without_skips sheet buffer).buffer)
  unfolding with_skips records_with_skips without_skips records_without_skips
  without-skips-turned a = turned (drop_skips 0) add_skips (without-skips-converted 0) false (all-dropped 0) undoes sheet buffer n bytes a
    where
      undoes : (rs new : List Record) → Without (loop_kind false) rs → drop_skips 0 rs ≡ ok new → add_skips new ≡ ok rs
      undoes rs new w e =
          let c = without-skips-converted 0 rs new e in
          unfold add_skips in ap ok (ap (map (change_loop with_skip)) (sym c.changed) ∙ changes-lost c.same rs ∙ all-given-stay rs w)
