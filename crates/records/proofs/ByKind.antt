-- Kinds by their numbers: what follows for a number from each kind and from no kind; a record from its body.
use mathlib.Core.Path.{◌≡◌, refl, sym, ap, subst, ◌∙◌}
use mathlib.Core.List.{List}
use mathlib.Core.Bool.{Bool, true, false, cond, ◌||◌}
use mathlib.Core.Option.{Option, none, some}
use Prim.Native.Nat.{ℕ, ◌<◌}
use native.Mathlib.Omega.{arith}
use borrow.Author.Tests.{eqb-true, eqb-false, ne_eqb}
use lib.Dec.{eqb}
use Rattle.meaning.specs.Record as M
use Rattle.meaning.specs.Record.{Kind, work_kind, loop_kind, end_kind, choice_kind, next_arm_kind, kind_number, kind_of, is_given, skip_where, skip_or, decode_record, loop_record}
use Rattle.meaning.proofs.Logic.{true-is-not-false}
use Rattle.meaning.proofs.RecordBytes.{kind_of-kind_number, kind_number-kind_of}
use Rattle.records.specs.declared.work.Work.{Work}
use Rattle.records.specs.declared.loops.Loop.{Loop}
use Rattle.records.specs.declared.Record.{Record}
use Rattle.records.specs.View.{is_loop_kind, is_loop, blank_work, blank_record, work_of, loop_of, record_in, decoded_as, decoded}

by_number : (P : ℕ → Option Kind → Type 0) (n m : ℕ) (x y : Option Kind) → P m x → ((n ≡ m → ⊥) → P n y) → P n (cond (eqb n m) x y)
by_number P n m x y p q = go (eqb n m) refl
  where
    go : (b : Bool) → eqb n m ≡ b → P n (cond b x y)
    go true h = subst (λ (k : ℕ). P k x) (sym (eqb-true n m h)) p
    go false h = q (eqb-false n m h)

-- a number is 1 to 6, or no kind's
pub by_kind : (P : ℕ → Option Kind → Type 0)
    → P 1 (some work_kind) → P 2 (some (loop_kind false)) → P 3 (some end_kind) → P 4 (some choice_kind) → P 5 (some next_arm_kind) → P 6 (some (loop_kind true))
    → ((n : ℕ) → (0 < n → n < 7 → ⊥) → P n none) → (n : ℕ) → P n (kind_of n)
unfolding kind_of
by_kind P work loop end choice arm skip_loop other n =
    by_number P n 1 (some work_kind) _ work λ h1.
    by_number P n 2 (some (loop_kind false)) _ loop λ h2.
    by_number P n 3 (some end_kind) _ end λ h3.
    by_number P n 4 (some choice_kind) _ choice λ h4.
    by_number P n 5 (some next_arm_kind) _ arm λ h5.
    by_number P n 6 (some (loop_kind true)) none skip_loop λ h6.
    other n λ above below. omega arith

-- loops have the numbers 2 and 6
pub loop-numbers : (n : ℕ) → eqb n 2 || eqb n 6 ≡ is_loop n
unfolding is_loop_kind
loop-numbers =
    by_kind (λ (n : ℕ) (k : Option Kind). eqb n 2 || eqb n 6 ≡ is_loop_kind k) refl refl refl refl refl refl
    (λ n h. λ i. ne_eqb n 2 (λ e. h (omega arith) (omega arith)) i || ne_eqb n 6 (λ e. h (omega arith) (omega arith)) i)

-- a kind's number names it
pub named : (k : Kind) {n : ℕ} → n ≡ kind_number k → kind_of n ≡ some k
named k e = ap kind_of e ∙ kind_of-kind_number k

-- only the kind with a skip has the number 6
pub skip-by-number : (has_skip : Bool) → eqb (kind_number (loop_kind has_skip)) 6 ≡ has_skip
unfolding kind_number
skip-by-number true = refl
skip-by-number false = refl

-- a number that is neither a work's nor a loop's names a kind without fields, or none
pub without-fields : (P : ℕ → Option Kind → Type 0) → P 3 (some end_kind) → P 4 (some choice_kind) → P 5 (some next_arm_kind) → ((n : ℕ) → P n none)
    → {n : ℕ} → (n ≡ 1 → ⊥) → is_loop n ≡ false → P n (kind_of n)
unfolding is_loop_kind
without-fields P end choice arm other {n} =
    by_kind (λ (m : ℕ) (k : Option Kind). (m ≡ 1 → ⊥) → is_loop_kind k ≡ false → P m k)
    (λ h _. absurd (h refl)) (λ _ h. true-is-not-false h) (λ _ _. end) (λ _ _. choice) (λ _ _. arm) (λ _ h. true-is-not-false h) (λ m _ _ _. other m) n

-- the number of a loop's kind: 6 where it has a skip
pub loop-named : (n : ℕ) → is_loop n ≡ true → kind_of n ≡ some (loop_kind (eqb n 6))
unfolding is_loop_kind
loop-named n =
    by_kind (λ (m : ℕ) (k : Option Kind). is_loop_kind k ≡ true → k ≡ some (loop_kind (eqb m 6)))
    (λ h. true-is-not-false (sym h)) (λ _. refl) (λ h. true-is-not-false (sym h)) (λ h. true-is-not-false (sym h)) (λ h. true-is-not-false (sym h)) (λ _. refl)
    (λ m _ h. true-is-not-false (sym h)) n

-- ---- a record from its body: a blank one of its kind, in which the kind's fields are stored

module _ (kind : ℕ) (body : List ℕ) {r : Record} (blank : r ≡ blank_record kind) where
  pub decoded-work : kind_of kind ≡ some work_kind → {w : Work} → work_of w ≡ decode_record work_kind body
      → record { kind = r.kind; work = w; looping = r.looping } ≡ decoded kind body
  unfolding decoded decoded_as kind_number record_in
  decoded-work name {w} e =
      (λ i. record { kind = (ap (λ (x : Record). x.kind) blank ∙ sym (kind_number-kind_of kind work_kind name)) i; work = w; looping = (blank i).looping })
      ∙ ap record_in e ∙ sym (ap (decoded_as kind body) name)

  -- the fields of a loop, which are 0 where its kind has none, as the record that they were read from
  packed-again : (has_skip : Bool) {l : Loop} → (has_skip ≡ false → l.skip ≡ 0) →
      record { kind = kind_number (loop_kind has_skip); work = blank_work; looping = l } ≡ record_in (loop_record (loop_of has_skip l))
  unfolding record_in M.kind is_given skip_where skip_or
  packed-again false {l} z = λ i. record {
    kind = kind_number (loop_kind false);
    work = blank_work;
    looping = record {
      start = l.start;
      step = l.step;
      stride = l.stride;
      lower = l.lower;
      upper = l.upper;
      skip = z refl i;
    };
  }
  packed-again true z = refl

  pub decoded-loop : {has_skip : Bool} → kind_of kind ≡ some (loop_kind has_skip) → {l : Loop} → loop_record (loop_of has_skip l) ≡ decode_record (loop_kind has_skip) body →
      (has_skip ≡ false → l.skip ≡ 0) → record { kind = r.kind; work = r.work; looping = l } ≡ decoded kind body
  unfolding decoded decoded_as
  decoded-loop {has_skip} name {l} e z =
      (λ i. record { kind = (ap (λ (x : Record). x.kind) blank ∙ sym (kind_number-kind_of kind (loop_kind has_skip) name)) i; work = (blank i).work; looping = l })
      ∙ packed-again has_skip z ∙ ap record_in e ∙ sym (ap (decoded_as kind body) name)

  -- a kind without fields, or none: nothing is stored
  pub decoded-end : kind_of kind ≡ some end_kind → r ≡ decoded kind body
  unfolding decoded decoded_as decode_record record_in
  decoded-end name = blank ∙ ap blank_record (sym (kind_number-kind_of kind end_kind name)) ∙ sym (ap (decoded_as kind body) name)

  pub decoded-choice : kind_of kind ≡ some choice_kind → r ≡ decoded kind body
  unfolding decoded decoded_as decode_record record_in
  decoded-choice name = blank ∙ ap blank_record (sym (kind_number-kind_of kind choice_kind name)) ∙ sym (ap (decoded_as kind body) name)

  pub decoded-next_arm : kind_of kind ≡ some next_arm_kind → r ≡ decoded kind body
  unfolding decoded decoded_as decode_record record_in
  decoded-next_arm name = blank ∙ ap blank_record (sym (kind_number-kind_of kind next_arm_kind name)) ∙ sym (ap (decoded_as kind body) name)

  pub decoded-none : kind_of kind ≡ none → r ≡ decoded kind body
  unfolding decoded decoded_as
  decoded-none name = blank ∙ sym (ap (decoded_as kind body) name)
