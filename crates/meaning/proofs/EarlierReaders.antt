-- Nothing changes for the sheets that the readers before document 02's requests read: they are read alike, and each of their loops means what it meant.
use mathlib.Core.Path.{◌≡◌, refl, sym, ap, ◌∙◌, subst}
use mathlib.Core.List.{List, [], ◌∷◌, ◌++◌}
use mathlib.Core.Bool.{Bool, true, false, cond}
use mathlib.Core.Logic.{◌⊎◌, inl, inr}
use mathlib.Core.Option.{Option, none, some}
use Prim.Native.Nat.{ℕ, zero, ◌+◌, ◌≤◌, ◌<◌}
use native.Mathlib.Nat.{zero-add, add-zero}
use native.Mathlib.Omega.{arith}
use lib.IntN.{ℤ, pos, neg_ℤ, nat_abs, ◌+ℤ◌, ◌*ℤ◌}
use lib.Signed.{lt_z}
use lib.ListN.{length, get_or, take, drop, replicate}
use lib.Seq.{get_or-drop, get_or-take}
use lib.Dec.{T, leb, ltb}
use borrow.Author.Tests.{leb-true, leb-false, ltb-true, ltb-false, le-ltb, eq-eqb}
use Rattle.meaning.specs.Limits.{constant_half}
use Rattle.meaning.specs.Number.{unsigned, unsigned16, signed16}
use Rattle.meaning.specs.Form.{Form, value}
use Rattle.meaning.specs.Record.{Kind, work_kind, loop_kind, end_kind, choice_kind, next_arm_kind, kind_number, kind_of, body_length}
use Rattle.meaning.specs.Record.{Loop, stride_size, counts_down, skip_or, skip_cycles, Record, work_record, loop_record, end_record, choice_record, next_arm_record, kind}
use Rattle.meaning.specs.Record.{decode_record, Open, fields_in_range}
use Rattle.meaning.specs.Reader.{Result, refused, require, or_refuse, and_then, Accepted, accept, read_record_of, read_from_of, read_record}
use Rattle.meaning.specs.Time.{trip_count, trips, index_at}
use Rattle.meaning.specs.Range.{range_up, range, difference_range, ceiling}
use Rattle.meaning.specs.Closed.{push_own, asked_difference}
use Rattle.meaning.specs.Converter.{change_loop}
use Rattle.meaning.specs.EarlierReaders.{earlier_record_limit, first_kind_of, with_stride, decode_unsigned, first_read, unsigned_read, short_read, LoopAsBefore, CountsUp}
use Rattle.meaning.specs.EarlierReaders.{StrideAbove, ReadAsBefore}
use Rattle.meaning.proofs.Logic.{true→T, none-is-not-some, require-no, and_then-no}
use Rattle.meaning.proofs.Accepted.{kind-decode_record, loop-in-range}
use Rattle.meaning.proofs.RecordBytes.{kind_number-kind_of}
use Rattle.meaning.proofs.Number.{decoded-high}
use Rattle.meaning.proofs.Strides.{difference-up, index_range-up}
use Rattle.meaning.proofs.StrideFields.{stride-lower}
use Rattle.meaning.proofs.Skips.{entry-start}
use Rattle.meaning.proofs.WaysBack.{no-skip}
use Rattle.meaning.proofs.AlikeReaders.{alike_from, each-record, each_at}
use Rattle.meaning.proofs.LongerSheets.{alike-longer, shorter-read, longer-refused}

-- ---- kinds

above-five : (k : Kind) → 6 ≤ kind_number k → kind_number k ≡ 6
unfolding kind_number
above-five work_kind h = absurd (omega arith)
above-five (loop_kind false) h = absurd (omega arith)
above-five (loop_kind true) h = refl
above-five end_kind h = absurd (omega arith)
above-five choice_kind h = absurd (omega arith)
above-five next_arm_kind h = absurd (omega arith)

-- a byte names the kind that it named, or is the new one, which named none
kind-before : (n : ℕ) → (first_kind_of n ≡ kind_of n) ⊎ ((first_kind_of n ≡ none) × (n ≡ 6))
unfolding first_kind_of
kind-before n = by_limit (leb n 5) refl
  where
    by_kind : 6 ≤ n → (o : Option Kind) → kind_of n ≡ o → (none ≡ kind_of n) ⊎ ((◌≡◌ {A = Option Kind} none none) × (n ≡ 6))
    by_kind h none e = inl (sym e)
    by_kind h (some k) e = let number = kind_number-kind_of n k e in inr (refl, sym number ∙ above-five k (omega arith))

    by_limit : (b : Bool) → leb n 5 ≡ b → (cond b (kind_of n) none ≡ kind_of n) ⊎ ((cond b (kind_of n) none ≡ none) × (n ≡ 6))
    by_limit true e = inl refl
    by_limit false e = by_kind (leb-false n 5 e) (kind_of n) refl

-- and none that it named is the new one
first_kind : (n : ℕ) (k : Kind) → first_kind_of n ≡ some k → ¬ (k ≡ loop_kind true)
unfolding first_kind_of
first_kind n k e new = by_limit (leb n 5) refl e
  where
    by_limit : (b : Bool) → leb n 5 ≡ b → cond b (kind_of n) none ≡ some k → ⊥
    by_limit true t f = unfold kind_number in omega (arith, kind_number-kind_of n k f, ap kind_number new, leb-true n 5 t)
    by_limit false t f = none-is-not-some f

-- bytes that begin with a 6
abbrev BeginSix : List ℕ → Type 0
BeginSix bytes = get_or bytes 0 0 ≡ 6

record-alike : (at : ℕ) (os : List Open) (k : ℕ) (bytes : List ℕ) →
    (read_record_of first_kind_of decode_unsigned at os k bytes ≡ read_record_of kind_of decode_unsigned at os k bytes)
    ⊎ ((read_record_of first_kind_of decode_unsigned at os k bytes ≡ refused 2 at) × BeginSix (k ∷ bytes))
unfolding read_record_of
record-alike at os k bytes = by_kind (kind-before k)
  where
    by_kind : (first_kind_of k ≡ kind_of k) ⊎ ((first_kind_of k ≡ none) × (k ≡ 6)) →
        (read_record_of first_kind_of decode_unsigned at os k bytes ≡ read_record_of kind_of decode_unsigned at os k bytes)
        ⊎ ((read_record_of first_kind_of decode_unsigned at os k bytes ≡ refused 2 at) × BeginSix (k ∷ bytes))
    by_kind (inl e) = inl (ap (λ o. and_then (or_refuse o 2 at) λ c.
        require (leb (body_length c) (length bytes)) 1 at (accept at os (decode_unsigned c (take (body_length c) bytes)))) e)
    by_kind (inr (e, six)) = inr (unfold or_refuse in and_then-no _ (ap (λ o. or_refuse o 2 at) e), six)

-- ---- strides

-- bytes that begin with a loop whose stride's field is 64,536 or more
abbrev BeginAbove : List ℕ → Type 0
BeginAbove bytes = StrideAbove bytes 0

module _ (at : ℕ) (os : List Open) (body : List ℕ) (has_skip : Bool) where
  abbrev loop_before : Record
  loop_before = decode_unsigned (loop_kind has_skip) body

  abbrev loop_now : Record
  loop_now = decode_record (loop_kind has_skip) body

  -- a field below half of the patterns is the same number
  small-field : unsigned16 body 4 < constant_half → loop_before ≡ loop_now
  unfolding decode_unsigned change_loop with_stride decode_record
  small-field h = λ t. change_loop (with_stride (sym (stride-lower body h) t)) loop_now

  -- any other was above every stride
  large-refused : constant_half ≤ unsigned16 body 4 → accept at os loop_before ≡ refused 3 at
  unfolding accept
  large-refused h = require-no 3 at _ (go (fields_in_range os loop_before) refl)
    where
      go : (b : Bool) → fields_in_range os loop_before ≡ b → b ≡ false
      go true e = absurd (unfold decode_unsigned change_loop with_stride decode_record stride_size in
          let small = (loop-in-range os _ (true→T (fields_in_range os loop_before) e)).stride_small in omega arith)
      go false e = refl

  -- and is a stride only as a negative one
  large-allowed : constant_half ≤ unsigned16 body 4 → T (fields_in_range os loop_now) → 64536 ≤ unsigned16 body 4
  unfolding decode_record signed16 stride_size
  large-allowed h t =
      let size = ap nat_abs (decoded-high constant_half (unsigned16 body 4) h) in
      let small = (loop-in-range os _ t).stride_small in
      omega arith

  loop-signed : (accept at os loop_before ≡ accept at os loop_now) ⊎ ((accept at os loop_before ≡ refused 3 at) × (64536 ≤ unsigned16 body 4))
  loop-signed = by_field (ltb (unsigned16 body 4) constant_half) refl
    where
      by_range : constant_half ≤ unsigned16 body 4 → (b : Bool) → fields_in_range os loop_now ≡ b →
          (accept at os loop_before ≡ accept at os loop_now) ⊎ ((accept at os loop_before ≡ refused 3 at) × (64536 ≤ unsigned16 body 4))
      by_range h true e = inr (large-refused h, large-allowed h (true→T (fields_in_range os loop_now) e))
      by_range h false e = inl (large-refused h ∙ sym (unfold accept in require-no 3 at _ e))

      by_field : (b : Bool) → ltb (unsigned16 body 4) constant_half ≡ b →
          (accept at os loop_before ≡ accept at os loop_now) ⊎ ((accept at os loop_before ≡ refused 3 at) × (64536 ≤ unsigned16 body 4))
      by_field true e = inl (ap (accept at os) (small-field (ltb-true (unsigned16 body 4) constant_half e)))
      by_field false e = by_range (ltb-false (unsigned16 body 4) constant_half e) (fields_in_range os loop_now) refl

-- the stride's field, in the body and in the record
stride-field : (k n : ℕ) (bytes : List ℕ) → 6 ≤ n → unsigned16 (take n bytes) 4 ≡ unsigned16 (k ∷ bytes) 5
unfolding unsigned16
stride-field k n bytes h = λ t. unsigned (get_or-take n bytes 4 0 (omega arith) t ∷ get_or-take n bytes 5 0 (omega arith) t ∷ [])

record-signed : (at : ℕ) (os : List Open) (k : ℕ) (bytes : List ℕ) →
    (read_record_of kind_of decode_unsigned at os k bytes ≡ read_record at os k bytes)
    ⊎ ((read_record_of kind_of decode_unsigned at os k bytes ≡ refused 3 at) × BeginAbove (k ∷ bytes))
unfolding read_record_of
record-signed at os k bytes = by_kind (kind_of k) refl
  where
    -- one record, by the kind that its byte names
    read_as : (Kind → List ℕ → Record) → Option Kind → Result Accepted
    read_as decode o = and_then (or_refuse o 2 at) λ c. require (leb (body_length c) (length bytes)) 1 at (accept at os (decode c (take (body_length c) bytes)))

    Same : Kind → Type 0
    Same c =
        let body : List ℕ = take (body_length c) bytes in
        (accept at os (decode_unsigned c body) ≡ accept at os (decode_record c body)) ⊎ ((accept at os (decode_unsigned c body) ≡ refused 3 at) × BeginAbove (k ∷ bytes))

    by_loop : (has_skip : Bool) → kind_of k ≡ some (loop_kind has_skip) → 6 ≤ body_length (loop_kind has_skip) → Same (loop_kind has_skip)
    by_loop has_skip e long = go (loop-signed at os (take (body_length (loop_kind has_skip)) bytes) has_skip)
      where
        body : List ℕ
        body = take (body_length (loop_kind has_skip)) bytes

        go : (accept at os (decode_unsigned (loop_kind has_skip) body) ≡ accept at os (decode_record (loop_kind has_skip) body))
            ⊎ ((accept at os (decode_unsigned (loop_kind has_skip) body) ≡ refused 3 at) × (64536 ≤ unsigned16 body 4)) → Same (loop_kind has_skip)
        go (inl same) = inl same
        go (inr (refusal, large)) = inr (refusal, (has_skip, e, subst (λ (n : ℕ). 64536 ≤ n) (stride-field k (body_length (loop_kind has_skip)) bytes long) large))

    same_kind : (c : Kind) → kind_of k ≡ some c → Same c
    same_kind work_kind e = inl (unfold decode_unsigned change_loop with_stride decode_record in refl)
    same_kind (loop_kind false) e = by_loop false e (unfold body_length in omega arith)
    same_kind (loop_kind true) e = by_loop true e (unfold body_length in omega arith)
    same_kind end_kind e = inl (unfold decode_unsigned change_loop with_stride decode_record in refl)
    same_kind choice_kind e = inl (unfold decode_unsigned change_loop with_stride decode_record in refl)
    same_kind next_arm_kind e = inl (unfold decode_unsigned change_loop with_stride decode_record in refl)

    by_length : (c : Kind) → Same c → (b : Bool) →
        (require b 1 at (accept at os (decode_unsigned c (take (body_length c) bytes))) ≡ require b 1 at (accept at os (decode_record c (take (body_length c) bytes))))
        ⊎ ((require b 1 at (accept at os (decode_unsigned c (take (body_length c) bytes))) ≡ refused 3 at) × BeginAbove (k ∷ bytes))
    by_length c same true = unfold require in same
    by_length c same false = unfold require in inl refl

    by_kind : (o : Option Kind) → kind_of k ≡ o →
        (read_as decode_unsigned o ≡ read_as decode_record o) ⊎ ((read_as decode_unsigned o ≡ refused 3 at) × BeginAbove (k ∷ bytes))
    by_kind none e = unfold or_refuse and_then in inl refl
    by_kind (some c) e = unfold or_refuse and_then in by_length c (same_kind c e) (leb (body_length c) (length bytes))

-- ---- each loop as it was

kind-unsigned : (k : Kind) (body : List ℕ) → kind (decode_unsigned k body) ≡ k
unfolding decode_unsigned change_loop with_stride kind
kind-unsigned k body = same_kind (decode_record k body) ∙ kind-decode_record k body
  where
    same_kind : (r : Record) → kind (change_loop (with_stride (pos (unsigned16 body 4))) r) ≡ kind r
    same_kind (work_record least most) = refl
    same_kind (loop_record l) = refl
    same_kind end_record = refl
    same_kind choice_record = refl
    same_kind next_arm_record = refl

loop-as-before : (l : Loop) → l.skip ≡ none → LoopAsBefore l
unfolding skip_cycles skip_or asked_difference
loop-as-before l e =
    let start : skip_cycles l ≡ l.start = ap (λ s. skip_or s l.start) e in
    record {
      no_skip = e;
      entry = entry-start l start;
      asked = ap (λ b. cond b (neg_ℤ (pos (stride_size l))) (pos 0)) (eq-eqb (skip_cycles l) l.start start);
    }

-- at a stride without a minus sign whatever the sign changed is document 01's expression
pub positive-as-before : (l : Loop) (n : ℕ) → l.stride ≡ pos n → CountsUp l
unfolding trips index_at ceiling difference_range push_own
positive-as-before l n e = record {
  positive = size;
  difference_up = difference-up l no_down;
  trips_up = λ ps indexes. ap (λ (f : Form). trip_count (value ps f indexes) (stride_size l)) (difference-up l no_down);
  index_up = λ ps indexes trip. ap (λ (z : ℤ). value ps l.lower indexes +ℤ pos trip *ℤ z) size;
  index_range_up = λ ps ranges. unfold range_up in index_range-up l ps ranges no_down;
  ceiling_up = λ ps ranges. ap (λ (f : Form). trip_count (range ps f ranges).hi (stride_size l)) (difference-up l no_down);
  push_up = λ depth. ap (λ (z : ℤ). replicate depth (pos zero) ++ (z ∷ [])) size;
}
  where
    size : l.stride ≡ pos (stride_size l)
    size = unfold stride_size in e ∙ sym (ap (λ (z : ℤ). pos (nat_abs z)) e)

    no_down : counts_down l ≡ false
    no_down = unfold counts_down in ap (λ (z : ℤ). lt_z z (pos zero)) e ∙ le-ltb n zero (omega arith)

-- a record's loop, if it is one, counts up
unfoldable LoopUp : Record → Type 0
LoopUp (work_record least most) = Unit {0}
LoopUp (loop_record l) = CountsUp l
LoopUp end_record = Unit {0}
LoopUp choice_record = Unit {0}
LoopUp next_arm_record = Unit {0}

unsigned-up : (k : Kind) (body : List ℕ) → LoopUp (decode_unsigned k body)
unfolding decode_unsigned LoopUp change_loop with_stride
unsigned-up k body = go (decode_record k body)
  where
    go : (r : Record) → LoopUp (change_loop (with_stride (pos (unsigned16 body 4))) r)
    go (work_record least most) = tt
    go (loop_record l) = positive-as-before _ (unsigned16 body 4) refl
    go end_record = tt
    go choice_record = tt
    go next_arm_record = tt

-- ---- read as before

module _ (sheet : List ℕ) where
  begins-six : (i : ℕ) → BeginSix (drop i sheet) → get_or sheet i 0 ≡ 6
  begins-six i six = ap (λ (n : ℕ). get_or sheet n 0) (sym (add-zero i)) ∙ sym (get_or-drop i sheet 0 0) ∙ six

  begins-above : (i : ℕ) → BeginAbove (drop i sheet) → StrideAbove sheet i
  unfolding unsigned16
  begins-above i (has_skip, e, large) =
      let first : get_or (drop i sheet) 0 0 ≡ get_or sheet i 0 = get_or-drop i sheet 0 0 ∙ ap (λ (n : ℕ). get_or sheet n 0) (add-zero i) in
      let second : i + 6 ≡ i + 5 + 1 = omega arith in
      let field : unsigned16 (drop i sheet) 5 ≡ unsigned16 sheet (i + 5) =
      λ t. unsigned (get_or-drop i sheet 5 0 t ∷ (get_or-drop i sheet 6 0 ∙ ap (λ (n : ℕ). get_or sheet n 0) second) t ∷ []) in
      (has_skip, ap kind_of (sym first) ∙ e, subst (λ (n : ℕ). 64536 ≤ n) field large)

pub read-as-before : (sheet : List ℕ) → ReadAsBefore sheet
unfolding first_read unsigned_read short_read
read-as-before sheet = record {
  alike = from_start (alike_from 2 BeginSix first_kind_of kind_of decode_unsigned decode_unsigned record-alike earlier_record_limit 0 [] sheet);
  alike_signed = signed_from_start (alike_from 3 BeginAbove kind_of kind_of decode_unsigned decode_record record-signed earlier_record_limit 0 [] sheet);
  alike_longer = alike-longer sheet;
  shorter = shorter-read sheet;
  longer = longer-refused sheet;
  loops = λ before after l e. loop-as-before l (no-skip l (each_at (λ r. ¬ (kind r ≡ loop_kind true)) before after (loop_record l)
      (each-record first_kind_of decode_unsigned (λ r. ¬ (kind r ≡ loop_kind true)) (λ k c body known kind_is. first_kind k c known (sym (kind-unsigned c body) ∙ kind_is))
      earlier_record_limit 0 [] sheet (before ++ (loop_record l ∷ after)) e)));
  loops_up = λ before after l e. unfold LoopUp in
      each_at LoopUp before after (loop_record l) (each-record kind_of decode_unsigned LoopUp (λ k c body known. unsigned-up c body) earlier_record_limit 0 [] sheet (before ++ (loop_record l ∷ after)) e);
}
  where
    from_start : (first_read sheet ≡ unsigned_read sheet) ⊎ ((i : ℕ) × (first_read sheet ≡ refused 2 (0 + i)) × BeginSix (drop i sheet)) →
        (first_read sheet ≡ unsigned_read sheet) ⊎ ((at : ℕ) × (first_read sheet ≡ refused 2 at) × (get_or sheet at 0 ≡ 6))
    from_start (inl e) = inl e
    from_start (inr (i, e, six)) = inr (i, e ∙ ap (refused 2) (zero-add i), begins-six sheet i six)

    signed_from_start : (unsigned_read sheet ≡ short_read sheet) ⊎ ((i : ℕ) × (unsigned_read sheet ≡ refused 3 (0 + i)) × BeginAbove (drop i sheet)) →
        (unsigned_read sheet ≡ short_read sheet) ⊎ ((at : ℕ) × (unsigned_read sheet ≡ refused 3 at) × StrideAbove sheet at)
    signed_from_start (inl e) = inl e
    signed_from_start (inr (i, e, told)) = inr (i, e ∙ ap (refused 3) (zero-add i), begins-above sheet i told)

-- a byte 6 was no kind
pub six-refused : (bytes : List ℕ) → first_read (6 ∷ bytes) ≡ refused 2 0
unfolding first_read read_from_of read_record_of first_kind_of or_refuse and_then
six-refused bytes = refl
