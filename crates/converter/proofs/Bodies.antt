-- What a record's body says of the record's bytes in the new sheet, and of its skip.
use mathlib.Core.Path.{◌≡◌, refl, sym, ap, ◌∙◌}
use mathlib.Core.List.{List, ◌∷◌, ◌++◌, append-nil}
use mathlib.Core.Bool.{Bool, true, false, not}
use mathlib.Core.Option.{Option, none, some}
use Prim.Native.Nat.{ℕ, suc, ◌≤◌}
use native.Mathlib.Omega.{arith}
use borrow.Author.Tests.{eq-eqb}
use lib.Dec.{eqb}
use lib.ListN.{length, take, length-append}
use lib.Seq.{take_at}
use Rattle.meaning.specs.Limits.{body_limit, constant_half}
use Rattle.meaning.specs.Number.{little_endian, encode_signed, unsigned16}
use Rattle.meaning.specs.Form.{form_bytes}
use Rattle.meaning.specs.Record.{Kind, loop_kind, kind_number, body_length, Loop, is_given, skip_or, skip_cycles, skip_bytes, Record, work_record, loop_record, end_record, choice_record, next_arm_record, kind, record_length, decode_record, body_bytes, record_bytes}
use Rattle.meaning.specs.Converter.{with_skip, without_skip, change_loop, skips_start}
use Rattle.meaning.proofs.Number.{length-little_endian}
use Rattle.meaning.proofs.Logic.{true-is-not-false}
use Rattle.meaning.proofs.RecordBytes.{body_length-bound, length-skip_bytes}
use Rattle.records.specs.View.{is_loop_kind, skip_in}
use Rattle.converter.specs.Converting.{BodyOf, changed, stays}

-- ---- a loop's bytes

module _ {l : Loop} {k : Kind} {body : List ℕ} (b : BodyOf (loop_record l) k body) where
  -- all but the skip
  abbrev plain : List ℕ
  plain = little_endian 2 l.start ++ little_endian 2 l.step ++ little_endian 2 (encode_signed constant_half l.stride) ++ form_bytes l.lower ++ form_bytes l.upper

  split : plain ++ skip_bytes l.skip ≡ body
  unfolding body_bytes
  split = b.bytes

  plain-long : length plain ≡ 24
  unfolding kind
  plain-long =
      let whole = ap (λ (bs : List ℕ). length bs) split in
      let long = b.long in
      let skip = length-skip_bytes l.skip in
      let parts = length-append plain (skip_bytes l.skip) in
      omega arith

  plain-taken : take 24 body ≡ plain
  plain-taken = ap (take 24) (sym split) ∙ take_at plain (skip_bytes l.skip) 24 plain-long

  -- without a skip
  pub without-bytes : 2 ∷ take 24 body ≡ record_bytes (loop_record (changed false l))
  unfolding changed without_skip record_bytes kind is_given kind_number body_bytes skip_bytes
  without-bytes = ap (λ (bs : List ℕ). 2 ∷ bs) (plain-taken ∙ sym (append-nil plain))

  -- with one
  pub with-bytes : {skip : ℕ} → skip ≡ skip_cycles l → 6 ∷ (take 24 body ++ little_endian 2 skip) ≡ record_bytes (loop_record (changed true l))
  unfolding changed with_skip record_bytes kind is_given kind_number body_bytes skip_bytes
  with-bytes e = λ i. 6 ∷ (plain-taken i ++ little_endian 2 (e i))

-- ---- a loop's skip

loop-injective : {l m : Loop} → loop_record l ≡ loop_record m → l ≡ m
loop-injective e = cc

module _ {l : Loop} {body : List ℕ} (own : Bool) (b : BodyOf (loop_record l) (loop_kind own) body) where
  decoded-own : decode_record (loop_kind own) body ≡ loop_record l
  decoded-own = ap (λ (k : Kind). decode_record k body) b.named ∙ b.decoded

  -- its own, or its start where it has none
  pub skip-said : {skip : ℕ} → skip ≡ skip_in own body → skip ≡ skip_cycles l
  unfolding decode_record skip_cycles
  skip-said e = e ∙ ap skip_cycles (loop-injective decoded-own)

  pub start-said : {start : ℕ} → start ≡ unsigned16 body 0 → start ≡ l.start
  unfolding decode_record
  start-said e = e ∙ ap (λ (m : Loop). m.start) (loop-injective decoded-own)

-- ---- whether it differs from the start

-- a record of another kind than that with a skip has none that does
pub no-skip : {k : Kind} {body : List ℕ} → (k ≡ loop_kind true → ⊥) → (x : Record) → BodyOf x k body → false ≡ not (skips_start x)
unfolding skips_start
no-skip other (work_record least most) b = refl
no-skip {k} other (loop_record l) b = sym (ap not (eq-eqb (skip_cycles l) l.start (same l.skip refl)))
  where
    same : (s : Option ℕ) → l.skip ≡ s → skip_cycles l ≡ l.start
    same none e = unfold skip_cycles skip_or in ap (λ (o : Option ℕ). skip_or o l.start) e
    same (some n) e = absurd (other (b.named ∙ (unfold kind is_given in ap (λ (o : Option ℕ). loop_kind (is_given o)) e)))
no-skip other end_record b = refl
no-skip other choice_record b = refl
no-skip other next_arm_record b = refl

-- one with a skip, as its body says
pub own-skip : {body : List ℕ} {skip start : ℕ} → skip ≡ skip_in true body → start ≡ unsigned16 body 0 →
    (x : Record) → BodyOf x (loop_kind true) body → not (eqb skip start) ≡ not (skips_start x)
unfolding skips_start kind
own-skip e f (work_record least most) b = let n = b.named in cc
own-skip e f (loop_record l) b = λ i. not (eqb (skip-said true b e i) (start-said true b f i))
own-skip e f end_record b = let n = b.named in cc
own-skip e f choice_record b = let n = b.named in cc
own-skip e f next_arm_record b = let n = b.named in cc

-- and so none is lost
pub none_lost : (skips : Bool) {k : Kind} {body : List ℕ} → (k ≡ loop_kind true → ⊥) → (x : Record) → BodyOf x k body → false ≡ not (stays skips x)
unfolding stays
none_lost true other x b = refl
none_lost false other x b = no-skip other x b

-- ---- a record's bytes

kind-tells : {x : Record} {k : Kind} {body : List ℕ} → BodyOf x k body → is_loop_kind (some k) ≡ is_loop_kind (some (kind x))
kind-tells b = ap (λ (k : Kind). is_loop_kind (some k)) b.named

-- of one that is no loop
pub other-bytes : {k : Kind} {body : List ℕ} → is_loop_kind (some k) ≡ false → (skips : Bool) (x : Record) → BodyOf x k body →
    kind_number k ∷ body ≡ record_bytes (change_loop (changed skips) x)
unfolding change_loop record_bytes is_loop_kind kind
other-bytes other skips (work_record least most) b = λ i. kind_number (b.named i) ∷ sym b.bytes i
other-bytes other skips (loop_record l) b = true-is-not-false (sym (kind-tells b) ∙ other)
other-bytes other skips end_record b = λ i. kind_number (b.named i) ∷ sym b.bytes i
other-bytes other skips choice_record b = λ i. kind_number (b.named i) ∷ sym b.bytes i
other-bytes other skips next_arm_record b = λ i. kind_number (b.named i) ∷ sym b.bytes i

-- what holds of the changed record of a loop's kind and body, where it holds of the loop
pub of-loop : {own : Bool} {body : List ℕ} (skips : Bool) (P : List ℕ → Type 0) →
    ((l : Loop) → BodyOf (loop_record l) (loop_kind own) body → P (record_bytes (loop_record (changed skips l)))) →
    (x : Record) → BodyOf x (loop_kind own) body → P (record_bytes (change_loop (changed skips) x))
unfolding change_loop kind
of-loop skips P h (work_record least most) b = let n = b.named in cc
of-loop skips P h (loop_record l) b = h l b
of-loop skips P h end_record b = let n = b.named in cc
of-loop skips P h choice_record b = let n = b.named in cc
of-loop skips P h next_arm_record b = let n = b.named in cc

-- how long a body is: never more than the longest, and at least 24 bytes of a loop's
pub body-short : {x : Record} {k : Kind} {body : List ℕ} → BodyOf x k body → length body ≤ body_limit
body-short {x} b = omega (arith, b.long, body_length-bound (kind x))

pub loop-long : {own : Bool} {body : List ℕ} (x : Record) → BodyOf x (loop_kind own) body → 24 ≤ length body
unfolding kind
loop-long (work_record least most) b = let n = b.named in absurd (cc)
loop-long (loop_record l) b = omega (arith, b.long, length-skip_bytes l.skip)
loop-long end_record b = let n = b.named in absurd (cc)
loop-long choice_record b = let n = b.named in absurd (cc)
loop-long next_arm_record b = let n = b.named in absurd (cc)

-- and how long the changed record is
pub changed-length : {k : Kind} {body : List ℕ} (skips : Bool) (x : Record) → BodyOf x k body →
    length (record_bytes (change_loop (changed skips) x)) ≡ record_length (change_loop (changed skips) x)
unfolding change_loop record_bytes record_length changed with_skip without_skip kind is_given body_length body_bytes skip_bytes
changed-length skips (work_record least most) b = simp (length-append, length-little_endian)
changed-length {k} {body} true (loop_record l) b =
    let skip : List ℕ = little_endian 2 (skip_cycles l) in
    let taken : length (take 24 body) ≡ 24 = ap length (plain-taken b) ∙ plain-long b in
    let long : length (6 ∷ (take 24 body ++ skip)) ≡ 27 = omega (arith, length-append (take 24 body) skip, length-little_endian 2 (skip_cycles l)) in
    ap length (sym (with-bytes b refl)) ∙ long
changed-length false (loop_record l) b = ap length (sym (without-bytes b)) ∙ ap suc (ap length (plain-taken b) ∙ plain-long b)
changed-length skips end_record b = refl
changed-length skips choice_record b = refl
changed-length skips next_arm_record b = refl
