-- One record of a sheet: what the reader makes of it, from its head, its body and the numbers of what is open.
use mathlib.Core.Path.{◌≡◌, refl, sym, ap, ◌∙◌}
use mathlib.Core.List.{List, []}
use mathlib.Core.Bool.{Bool, true, false, ◌&&◌}
use mathlib.Core.Option.{Option, none, some}
use Prim.Native.Nat.{ℕ, zero, suc, ◌+◌, ◌-◌, ◌<◌, ◌≤◌}
use native.Mathlib.Nat.{add-sub_cancel_left}
use native.Mathlib.Omega.{arith}
use lib.ListN.{length, get_or, take, drop, length-drop, replicate}
use lib.Seq.{length-take-le}
use lib.Dec.{leb}
use Rattle.meaning.specs.Limits.{cost_limit, stride_limit}
use Rattle.meaning.specs.Form.{form_in_range}
use Rattle.meaning.specs.Record.{Kind, work_kind, loop_kind, end_kind, choice_kind, next_arm_kind, kind_of, body_length, record_length, decode_record}
use Rattle.meaning.specs.Record.{stride_size, skip_cycles, Record, work_record, loop_record, end_record, choice_record, next_arm_record, Open, open_loop, loop_depth, fields_in_range, open_after}
use Rattle.meaning.specs.Reader.{read_record_of, Result, ok, refused, require, or_refuse, and_then, Accepted, accept, read_record, Head, head_of, head_at}
use Rattle.meaning.proofs.Logic.{refused-is-not-ok, true-is-not-false}
use Rattle.meaning.proofs.Accepted.{kind-decode_record}
use Rattle.meaning.proofs.RoundTrip.{read_record-accept}
use Rattle.sheet.specs.declared.nesting.Nesting.{Nesting}
use Rattle.sheet.specs.declared.nesting.AcceptedRecord.{AcceptedRecord}
use Rattle.sheet.specs.Nestings.{nesting_of, fields_pass_as, fields_pass, open_after_as, open_after_kind, is_there, may_stand, nesting_after, may_stand_in}
use Rattle.sheet.specs.Answers.{accepted_of, accept_in}
use Rattle.sheet.proofs.Openings.{depth_is, after_is, may-stand-is}
use Rattle.sheet.proofs.Heads.{head-there, HeadStands}

-- ---- refusals 3 and 5

-- a record's fields do not matter to what is open after it
open-by-kind : (os : List Open) (k : Kind) (body : List ℕ) → open_after os (decode_record k body) ≡ open_after os (decode_record k [])
unfolding open_after decode_record
open-by-kind os work_kind body = refl
open-by-kind os (loop_kind has_skip) body = refl
open-by-kind os end_kind body = refl
open-by-kind os choice_kind body = refl
open-by-kind os next_arm_kind body = refl

module _ (at : ℕ) (os : List Open) (kind_byte : ℕ) {k : Kind} (is : kind_of kind_byte ≡ some k) (body : List ℕ) where
  abbrev result : Result AcceptedRecord
  result = accepted_of (accept at os (decode_record k body))

  -- the tests by the kind's number are those of the record
  fields-by-number : fields_in_range os (decode_record k body) ≡ fields_pass os kind_byte body
  unfolding fields_pass fields_pass_as
  fields-by-number = sym (ap (fields_pass_as os body) is)

  opens-by-number : open_after os (decode_record k body) ≡ open_after_kind os kind_byte
  unfolding open_after_kind open_after_as
  opens-by-number = open-by-kind os k body ∙ sym (ap (open_after_as os) is)

  with-tests : {f : Bool} {o : Option (List Open)} → f ≡ fields_pass os kind_byte body → open_after_kind os kind_byte ≡ o → accept at os (decode_record k body)
      ≡ require f 3 at (and_then (or_refuse o 5 at) λ after. ok (record { accepted = decode_record k body; after = after }))
  unfolding accept
  with-tests f e =
      λ i. require ((fields-by-number ∙ sym f) i) 3 at
      (and_then (or_refuse ((opens-by-number ∙ e) i) 5 at) λ after. ok (record { accepted = decode_record k body; after = after }))

  refused-3 : false ≡ fields_pass os kind_byte body → refused 3 at ≡ result
  unfolding require accepted_of
  refused-3 f = sym (ap accepted_of (with-tests f refl))

  module _ (f : true ≡ fields_pass os kind_byte body) where
    refused-5 : false ≡ may_stand os kind_byte → refused 5 at ≡ result
    unfolding may_stand is_there require and_then or_refuse accepted_of
    refused-5 m = go (open_after_kind os kind_byte) refl
      where
        go : (o : Option (List Open)) → open_after_kind os kind_byte ≡ o → refused 5 at ≡ result
        go (some us) e = true-is-not-false (sym (m ∙ ap is_there e))
        go none e = sym (ap accepted_of (with-tests f e))

    accepted-record : true ≡ may_stand os kind_byte → (n : Nesting)
        → ((us : List Open) → open_after_kind os kind_byte ≡ some us → n ≡ nesting_of us) → length body ≡ body_length k
        → ok (record { length = 1 + length body; after = n }) ≡ result
    unfolding may_stand is_there require and_then or_refuse accepted_of record_length
    accepted-record m n after long = go (open_after_kind os kind_byte) refl
      where
        go : (o : Option (List Open)) → open_after_kind os kind_byte ≡ o → ok (record { length = 1 + length body; after = n }) ≡ result
        go none e = true-is-not-false (m ∙ ap is_there e)
        go (some us) e =
            (λ i. ok (record { length = 1 + (long ∙ ap body_length (sym (kind-decode_record k body))) i; after = after us e i }))
            ∙ sym (ap accepted_of (with-tests f e))

-- the same by the three numbers

pub loops-around : (n : ℕ) → loop_depth (replicate n open_loop) ≡ n
unfolding loop_depth
loops-around zero = refl
loops-around (suc n) = ap suc (loops-around n)

-- to the fields only the number of loops around the record matters
range-by-depth : (os us : List Open) → loop_depth os ≡ loop_depth us → (r : Record) → fields_in_range os r ≡ fields_in_range us r
unfolding fields_in_range
range-by-depth os us e (work_record least most) = refl
range-by-depth os us e (loop_record l) =
    λ i. leb l.start cost_limit && leb l.step cost_limit && leb 1 (stride_size l) && leb (stride_size l) stride_limit
    && form_in_range (e i) l.lower && form_in_range (e i) l.upper && leb (skip_cycles l) cost_limit
range-by-depth os us e end_record = refl
range-by-depth os us e choice_record = refl
range-by-depth os us e next_arm_record = refl

module _ (at : ℕ) (here : Nesting) (kind_byte : ℕ) (body : List ℕ) where
  abbrev fields : Bool
  fields = fields_pass (replicate here.depth open_loop) kind_byte body

  abbrev passed : Result AcceptedRecord
  passed = ok (record { length = 1 + length body; after = nesting_after here kind_byte })

  pub number-3 : false ≡ fields → refused 3 at ≡ accept_in at here kind_byte body
  unfolding accept_in require
  number-3 f = ap (λ (b : Bool). require b 3 at (require (may_stand_in here kind_byte) 5 at passed)) f

  pub number-5 : true ≡ fields → false ≡ may_stand_in here kind_byte → refused 5 at ≡ accept_in at here kind_byte body
  unfolding accept_in require
  number-5 f m = λ i. require (f i) 3 at (require (m i) 5 at passed)

  pub number-none : true ≡ fields → true ≡ may_stand_in here kind_byte → {n : Nesting} → n ≡ nesting_after here kind_byte →
      ok (record { length = 1 + length body; after = n }) ≡ accept_in at here kind_byte body
  unfolding accept_in require
  number-none f m a = λ i. require (f i) 3 at (require (m i) 5 at (ok (record { length = 1 + length body; after = a i })))

  by-depth : (os : List Open) {k : Kind} → here ≡ nesting_of os → kind_of kind_byte ≡ some k → fields ≡ fields_pass os kind_byte body
  unfolding fields_pass fields_pass_as
  by-depth os {k} e is =
      ap (fields_pass_as (replicate here.depth open_loop) body) is
      ∙ range-by-depth (replicate here.depth open_loop) os (loops-around here.depth ∙ depth_is os e) (decode_record k body)
      ∙ sym (ap (fields_pass_as os body) is)

  -- where the numbers are those of what is open, it is what the meaning accepts
  pub accept-is : (os : List Open) (k : Kind) → here ≡ nesting_of os → kind_of kind_byte ≡ some k → length body ≡ body_length k →
      accept_in at here kind_byte body ≡ accepted_of (accept at os (decode_record k body))
  unfolding accept_in require
  accept-is os k e is long = go fields (by-depth os e is) (may_stand_in here kind_byte) (may-stand-is os e kind_byte)
    where
      go : (f : Bool) → f ≡ fields_pass os kind_byte body → (m : Bool) → m ≡ may_stand os kind_byte →
          require f 3 at (require m 5 at passed) ≡ accepted_of (accept at os (decode_record k body))
      go false f m n = refused-3 at os kind_byte is body f
      go true f false n = refused-5 at os kind_byte is body f n
      go true f true n = accepted-record at os kind_byte is body f n (nesting_after here kind_byte) (λ us a. after_is os e kind_byte a) long

-- ---- refusals 2 and 1

-- the record reader and the reader refuse together
refused-alike : {A B : Type 0} (o : Option Kind) (b : Kind → Bool) (f : Kind → A) (g : Kind → Result B) (at number place : ℕ) →
    (and_then (or_refuse o 2 at) λ k. require (b k) 1 at (ok (f k))) ≡ refused number place →
    (and_then (or_refuse o 2 at) λ k. require (b k) 1 at (g k)) ≡ refused number place
unfolding and_then or_refuse require
refused-alike {A} {B} none b f g at number place e =
    let p : 2 ≡ number = cc in let q : at ≡ place = cc in λ i. refused (p i) (q i)
refused-alike {A} {B} (some k) b f g at number place e = go (b k) e
  where
    go : (c : Bool) → require c 1 at (ok (f k)) ≡ refused number place → require c 1 at (g k) ≡ refused number place
    go true h = refused-is-not-ok (sym h)
    go false h = let p : 1 ≡ number = cc in let q : at ≡ place = cc in λ i. refused (p i) (q i)

module _ (sheet : List ℕ) (at : ℕ) (os : List Open) where
  abbrev whole : Result Accepted
  whole = read_record at os (get_or sheet at 0) (drop (at + 1) sheet)

  pub read-refused : at < length sheet → {number place : ℕ} → head_at sheet at ≡ refused number place → refused number place ≡ accepted_of whole
  unfolding head_of read_record_of accepted_of
  read-refused inside {number} {place} e =
      let bytes : List ℕ = drop (at + 1) sheet in
      sym (ap accepted_of (refused-alike (kind_of (get_or sheet at 0)) (λ k. leb (body_length k) (length bytes)) _
      (λ k. accept at os (decode_record k (take (body_length k) bytes))) at number place (sym (head-there sheet at inside) ∙ e)))

  -- the part of the sheet that a head names is its record's body
  module _ {h : Head} (s : HeadStands sheet at h) where
    abbrev part : List ℕ
    part = take (h.body_offset + h.body_length - h.body_offset) (drop h.body_offset sheet)

    part-is : part ≡ take (body_length s.kind) (drop (at + 1) sheet)
    part-is =
        ap (λ (n : ℕ). take n (drop h.body_offset sheet)) (add-sub_cancel_left h.body_offset h.body_length)
        ∙ (λ i. take (s.long i) (drop (s.offset i) sheet))

    room : body_length s.kind ≤ length (drop (at + 1) sheet)
    room = omega (arith, length-drop (at + 1) sheet, s.fits, s.offset, s.long)

    pub part-long : length part ≡ body_length s.kind
    part-long = ap (λ (l : List ℕ). length l) part-is ∙ length-take-le (body_length s.kind) (drop (at + 1) sheet) room

    pub read_found : accept at os (decode_record s.kind part) ≡ whole
    read_found =
        ap (λ (l : List ℕ). accept at os (decode_record s.kind l)) part-is
        ∙ sym (read_record-accept at os (get_or sheet at 0) (drop (at + 1) sheet) s.kind s.named room)
