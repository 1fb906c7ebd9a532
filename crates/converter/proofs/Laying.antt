-- The loop over a sheet's records: the first so many stand in the new sheet, and none of them loses a skip that differs from its start.
use mathlib.Core.Path.{◌≡◌, refl, sym, ap, ◌∙◌, subst}
use mathlib.Core.List.{List, [], ◌∷◌, ◌++◌, map, map-append, append-nil}
use mathlib.Core.Bool.{Bool, true, false, not}
use mathlib.Core.Option.{Option, none, some}
use Prim.Native.Nat.{ℕ, ◌+◌, ◌*◌, ◌<◌, ◌≤◌}
use native.Mathlib.Numerals.{add-one}
use native.Mathlib.Omega.{arith}
use lib.ListN.{length, get_or, take, drop, length-map, drop_of_length-le}
use lib.Seq.{length-take-le, drop-cons}
use Rattle.meaning.specs.Limits.{record_limit, record_length_limit, sheet_length_limit}
use Rattle.meaning.specs.Record.{Kind, kind_of, Record, end_record, kind, body_length, record_length, decode_record, body_bytes, record_bytes, sheet_length, sheet_bytes}
use Rattle.meaning.specs.Reader.{Result, ok, refused, require, and_then, Head, head_at, body_of, body_at}
use Rattle.meaning.specs.Converter.{change_loop, add_skips, drop_skips}
use Rattle.meaning.proofs.Number.{Bytes, bytes_take, bytes_drop}
use Rattle.meaning.proofs.RecordReader.{StandsAt}
use Rattle.meaning.proofs.RecordBytes.{kind_of-kind_number, body_bytes-decode_record, sheet_length-bound}
use Rattle.encoding.specs.Append.{Appended}
use Rattle.encoding.proofs.Appending.{nothing, same_bytes, keeps-length}
use Rattle.encoding.proofs.Appending as Append
use Rattle.sheet.specs.Sheets.{records_of}
use Rattle.sheet.proofs.Reading.{prepend, prepend-none, prepend-one}
use Rattle.sheet.proofs.SheetRecords.{few-records, record-stands, kind-there, one_more, next-offset, length-one-more}
use Rattle.writer.proofs.Laying.{bytes-one-more}
use Rattle.converter.specs.Converting.{changed, stays, changed_from, BodyOf}
use Rattle.converter.proofs.Bodies.{changed-length}

twice-not : (b : Bool) → b ≡ not (not b)
twice-not true = refl
twice-not false = refl

-- the bytes of a body are bytes
bytes-body : (sheet : List ℕ) (at : ℕ) → Bytes sheet → Bytes (body_at sheet at)
unfolding body_at
bytes-body sheet at b = go (head_at sheet at)
  where
    go : (h : Result (Option Head)) → Bytes (body_of sheet h)
    go (ok (some h)) = unfold body_of in bytes_take h.body_length (drop h.body_offset sheet) (bytes_drop h.body_offset sheet b)
    go (ok none) = unfold body_of Bytes in tt
    go (refused number place) = unfold body_of Bytes in tt

-- both converters, record by record
pub changed-one : (skips : Bool) (at : ℕ) (r : Record) (rs : List Record) → changed_from skips at (r ∷ rs)
    ≡ require (stays skips r) 10 at (and_then (changed_from skips (at + record_length r) rs) λ new. ok (change_loop (changed skips) r ∷ new))
unfolding changed_from changed stays add_skips drop_skips require and_then
changed-one true at r rs = refl
changed-one false at r rs = refl

module _ (sheet : List ℕ) (skips : Bool) where
  -- the new records of the first so many
  abbrev pub done : ℕ → List Record
  done number = map (change_loop (changed skips)) (take number (records_of sheet))

  -- `blank` is the new sheet's room as it was
  pub record Laying (count : ℕ) (blank target : List ℕ) (from to number : ℕ) : Type 0 where
    pub all : count ≡ length (records_of sheet)
    pub so_far : number ≤ count
    pub offset : from ≡ sheet_length (take number (records_of sheet))
    pub leaves : changed_from skips 0 (records_of sheet) ≡ prepend (done number) (changed_from skips from (drop number (records_of sheet)))
    pub laid : Appended blank 0 (sheet_bytes (done number)) target to
    pub reached : to ≡ sheet_length (done number)

  pub laying-start : (count : ℕ) (blank : List ℕ) → count ≡ length (records_of sheet) → Laying count blank blank 0 0 0
  unfolding sheet_length sheet_bytes
  laying-start count blank e = record {
    all = e;
    so_far = omega arith;
    offset = refl;
    leaves = prepend-none (changed_from skips 0 (records_of sheet));
    laid = nothing (omega arith);
    reached = refl;
  }

  module _ {count : ℕ} {blank target : List ℕ} {from to number : ℕ} (g : Laying count blank target from to number) where
    -- the next record
    module _ (more : number < count) where
      there : number < length (records_of sheet)
      there = omega (arith, g.all)

      abbrev pub this : Record
      this = get_or (records_of sheet) number end_record

      stands : StandsAt sheet from this
      stands = subst (λ (at : ℕ). StandsAt sheet at this) (sym g.offset) (record-stands sheet number there)

      -- what is read of it
      pub kind-named : kind_of (get_or sheet from 0) ≡ some (kind this)
      kind-named = ap (λ (at : ℕ). kind_of (get_or sheet at 0)) g.offset ∙ ap kind_of (kind-there sheet number there) ∙ kind_of-kind_number (kind this)

      pub body-of : {k : Kind} {body : List ℕ} → Bytes sheet → some k ≡ kind_of (get_or sheet from 0) → body ≡ body_at sheet from → BodyOf this k body
      body-of {k} {body} bytes b e =
          let decoded : decode_record (kind this) body ≡ this = ap (decode_record (kind this)) e ∙ stands.decoded in
          let long : length body ≡ body_length (kind this) = ap length e ∙ stands.body_long in
          record {
            named = let same = b ∙ kind-named in cc;
            decoded = decoded;
            bytes = sym (ap body_bytes decoded) ∙ body_bytes-decode_record body (subst Bytes (sym e) (bytes-body sheet from bytes)) (kind this) long;
            long = long;
          }

      pub few : number + 1 ≤ record_limit
      few = omega (arith, g.all, few-records sheet)

      done-few : length (done number) ≡ number
      done-few = length-map (take number (records_of sheet)) (change_loop (changed skips)) ∙ length-take-le number (records_of sheet) (omega (arith, there))

      -- there is room for it
      pub laying-room : length blank ≡ sheet_length_limit → to + record_length_limit ≤ length target
      laying-room room = omega (arith, g.reached, sheet_length-bound (done number), done-few, few, keeps-length g.laid, room)

      pub from-small : from ≤ record_length_limit * number
      from-small = omega (arith, g.offset, sheet_length-bound (take number (records_of sheet)), length-take-le number (records_of sheet) (omega (arith, there)))

      abbrev others : Result (List Record)
      others = changed_from skips (from + record_length this) (drop (number + 1) (records_of sheet))

      left_split : drop number (records_of sheet) ≡ this ∷ drop (number + 1) (records_of sheet)
      left_split = drop-cons (records_of sheet) number end_record there ∙ ap (λ (n : ℕ). this ∷ drop n (records_of sheet)) (sym (add-one number))

      one-changed : {loses : Bool} → loses ≡ not (stays skips this) → changed_from skips 0 (records_of sheet)
          ≡ prepend (done number) (require (not loses) 10 from (and_then others λ new. ok (change_loop (changed skips) this ∷ new)))
      one-changed {loses} e =
          g.leaves ∙ ap (λ (rs : List Record). prepend (done number) (changed_from skips from rs)) left_split
          ∙ ap (prepend (done number)) (changed-one skips from this (drop (number + 1) (records_of sheet)))
          ∙ ap (λ (b : Bool). prepend (done number) (require b 10 from (and_then others λ new. ok (change_loop (changed skips) this ∷ new))))
          (twice-not (stays skips this) ∙ ap not (sym e))

      pub laying_refused : true ≡ not (stays skips this) → changed_from skips 0 (records_of sheet) ≡ refused 10 from
      unfolding require prepend
      laying_refused e = one-changed e

      done_more : done (number + 1) ≡ done number ++ (change_loop (changed skips) this ∷ [])
      done_more = ap (map (change_loop (changed skips))) (one_more sheet number there) ∙ map-append (change_loop (changed skips)) (take number (records_of sheet)) (this ∷ [])

      pub laying-next : {k : Kind} {body : List ℕ} → BodyOf this k body → false ≡ not (stays skips this) → {after : List ℕ} {end : ℕ} →
          Appended target to (record_bytes (change_loop (changed skips) this)) after end → Laying count blank after (from + (1 + length body)) end (number + 1)
      unfolding require
      laying-next {k} {body} b e {after} {end} put =
          let reaches : 1 + length body ≡ record_length this = (unfold record_length in ap (λ (n : ℕ). 1 + n) b.long) in
          let new : Record = change_loop (changed skips) this in
          record {
            all = g.all;
            so_far = omega arith;
            offset = (λ i. g.offset i + reaches i) ∙ sym (next-offset sheet number there);
            leaves = one-changed e ∙ prepend-one (done number) new others
                ∙ (λ i. prepend (sym done_more i) (changed_from skips (from + sym reaches i) (drop (number + 1) (records_of sheet))));
            laid = same_bytes (sym (ap sheet_bytes done_more ∙ bytes-one-more (done number) new)) (Append.and_then g.laid put);
            reached = put.ends ∙ (λ i. g.reached i + changed-length skips this b i) ∙ sym (ap sheet_length done_more ∙ length-one-more (done number) new);
          }

    -- no record is left
    module _ (end : count ≤ number) where
      none_left : drop number (records_of sheet) ≡ []
      none_left = let past : length (records_of sheet) ≤ number = omega (arith, g.all) in drop_of_length-le (records_of sheet) past

      pub laying-done : changed_from skips 0 (records_of sheet) ≡ ok (done number)
      laying-done = g.leaves ∙ ap (λ (rs : List Record). prepend (done number) (changed_from skips from rs)) none_left ∙ finished skips
        where
          finished : (b : Bool) → prepend (done number) (changed_from b from []) ≡ ok (done number)
          finished true = unfold changed_from add_skips prepend in ap {B = Result (List Record)} ok (append-nil (done number))
          finished false = unfold changed_from drop_skips prepend in ap {B = Result (List Record)} ok (append-nil (done number))
