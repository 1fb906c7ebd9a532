-- Reading and writing a sheet undo each other.
use mathlib.Core.Path.{◌≡◌, sym, ap, ◌∙◌, subst}
use mathlib.Core.List.{List, [], ◌∷◌, ◌++◌}
use mathlib.Core.Option.{some}
use Prim.Native.Nat.{ℕ, zero, suc, ◌+◌, ◌≤◌}
use native.Mathlib.Omega.{arith}
use lib.ListN.{length, take, drop, length-append, take-append-drop}
use lib.Seq.{take_at, drop_at, length-take-le}
use lib.Dec.{T, leb, le→leb}
use Rattle.meaning.specs.Limits.{record_limit}
use Rattle.meaning.specs.Record.{Kind, kind_number, kind_of, body_length, Record, kind, record_length, decode_record}
use Rattle.meaning.specs.Record.{body_bytes, record_bytes, sheet_bytes, Open, fields_in_range, open_after}
use Rattle.meaning.specs.Reader.{read_from_of, read_record_of, ok, accept, read_record, end_of_sheet, read_from, read}
use Rattle.meaning.proofs.Logic.{and_then-yes, require-yes, or_refuse-yes}
use Rattle.meaning.proofs.Number.{Bytes, bytes_take, bytes_drop}
use Rattle.meaning.proofs.Accepted.{IsAccepted, accept-in-place, read_from-first, read_from-none, InPlace, WellFormed}
use Rattle.meaning.proofs.RecordBytes.{kind_of-kind_number, kind_number-kind_of, body_bytes-decode_record, length-body_bytes, decode_record-body_bytes}

-- ---- writing what was read

bytes-tail : (k : ℕ) (bytes : List ℕ) → Bytes (k ∷ bytes) → Bytes bytes
unfolding Bytes
bytes-tail k bytes h = h.1

-- the bytes of an accepted record are those that it was read from
pub record_bytes-accepted : (os : List Open) (k : ℕ) (bytes : List ℕ) (r : Record) (after : List Open) → Bytes bytes → IsAccepted os k bytes r after →
    record_bytes r ≡ k ∷ take (body_length (kind r)) bytes
unfolding record_bytes
record_bytes-accepted os k bytes r after h i =
    let n : ℕ = body_length (kind r) in
    let number : kind_number (kind r) ≡ k = kind_number-kind_of k (kind r) i.kind_named in
    let body : body_bytes r ≡ take n bytes =
    ap body_bytes (sym i.decoded) ∙ body_bytes-decode_record (take n bytes) (bytes_take n bytes h) (kind r) (length-take-le n bytes i.body_there) in
    λ t. number t ∷ body t

read_from-written : (rs : List Record) (left at : ℕ) (os : List Open) (bytes : List ℕ) → Bytes bytes → read_from left at os bytes ≡ ok rs → sheet_bytes rs ≡ bytes
unfolding sheet_bytes
read_from-written [] left at os bytes h e = sym (read_from-none left at os bytes e).1
read_from-written (r ∷ rs) left at os bytes h e =
    let f = read_from-first left at os bytes r rs e in
    let n : ℕ = body_length (kind r) in
    let g : Bytes f.following = bytes-tail f.kind_byte f.following (subst Bytes f.bytes_are h) in
    let first = record_bytes-accepted os f.kind_byte f.following r f.after g f.is_accepted in
    let others = read_from-written rs f.left_after _ f.after (drop n f.following) (bytes_drop n f.following g) f.others_read in
    (λ t. first t ++ others t) ∙ ap (λ (x : List ℕ). f.kind_byte ∷ x) (take-append-drop n f.following) ∙ sym f.bytes_are

-- what was read is written as it stood; every sheet in memory is bytes
pub written-as-read : (sheet : List ℕ) (rs : List Record) → Bytes sheet → read sheet ≡ ok rs → sheet_bytes rs ≡ sheet
unfolding read
written-as-read sheet rs h e = read_from-written rs record_limit 0 [] sheet h e

-- ---- reading what was written

-- where the kind byte names a kind and the body is there, refusals 3 and 5 are left
pub read_record-accept : (at : ℕ) (os : List Open) (k : ℕ) (bytes : List ℕ) (c : Kind) → kind_of k ≡ some c → body_length c ≤ length bytes →
    read_record at os k bytes ≡ accept at os (decode_record c (take (body_length c) bytes))
unfolding read_record_of
read_record-accept at os k bytes c e n =
    and_then-yes _ (or_refuse-yes 2 at e) ∙ require-yes (leb (body_length c) (length bytes)) 1 at _ (le→leb (body_length c) (length bytes) n)

read_record-written : (at : ℕ) (os after : List Open) (r : Record) (rest : List ℕ) → T (fields_in_range os r) → open_after os r ≡ some after →
    read_record at os (kind_number (kind r)) (body_bytes r ++ rest) ≡ ok (record { accepted = r; after = after })
read_record-written at os after r rest t e =
    let n = length-body_bytes os r t in
    read_record-accept at os (kind_number (kind r)) (body_bytes r ++ rest) (kind r) (kind_of-kind_number (kind r))
    (omega (arith, n, length-append (body_bytes r) rest))
    ∙ ap (λ (x : List ℕ). accept at os (decode_record (kind r) x)) (take_at (body_bytes r) rest (body_length (kind r)) n)
    ∙ ap (accept at os) (decode_record-body_bytes os r t)
    ∙ accept-in-place at os after r t e

-- one record and those after it
pub read_from-step : (left at : ℕ) (os : List Open) (k : ℕ) (bytes : List ℕ) (r : Record) (after : List Open) (rs : List Record) →
    read_record at os k bytes ≡ ok (record { accepted = r; after = after }) →
    read_from left (at + record_length r) after (drop (body_length (kind r)) bytes) ≡ ok rs → read_from (suc left) at os (k ∷ bytes) ≡ ok (r ∷ rs)
unfolding read_from_of
read_from-step left at os k bytes r after rs e q = and_then-yes _ e ∙ and_then-yes _ q

read_from-as-written : (rs : List Record) (left at : ℕ) (os : List Open) → length rs ≤ left → InPlace os rs → read_from left at os (sheet_bytes rs) ≡ ok rs
unfolding sheet_bytes record_bytes InPlace
read_from-as-written [] zero at os n h = unfold read_from_of end_of_sheet in ap (λ (x : List Open). end_of_sheet at x []) h
read_from-as-written [] (suc left) at os n h = unfold read_from_of end_of_sheet in ap (λ (x : List Open). end_of_sheet at x []) h
read_from-as-written (r ∷ rs) zero at os n h = absurd (omega arith)
read_from-as-written (r ∷ rs) (suc left) at os n (after, e, t, h) =
    read_from-step left at os (kind_number (kind r)) (body_bytes r ++ sheet_bytes rs) r after rs (read_record-written at os after r (sheet_bytes rs) t e)
    (ap (read_from left (at + record_length r) after) (drop_at (body_bytes r) (sheet_bytes rs) (body_length (kind r)) (length-body_bytes os r t))
    ∙ read_from-as-written rs left (at + record_length r) after (omega arith) h)

-- what was written is read as it was; `read-well-formed` is the converse
pub read-as-written : (rs : List Record) → WellFormed rs → read (sheet_bytes rs) ≡ ok rs
unfolding read
read-as-written rs w = read_from-as-written rs record_limit 0 [] w.short w.in_place
