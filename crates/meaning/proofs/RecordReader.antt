-- The record reader and the reader agree: at the offset of each record of an accepted sheet stand its head and its body.
use mathlib.Core.Path.{◌≡◌, refl, sym, ap, ◌∙◌}
use mathlib.Core.List.{List, [], ◌∷◌, ◌++◌}
use mathlib.Core.Option.{Option, none, some}
use Prim.Native.Nat.{ℕ, suc, ◌+◌, ◌≤◌}
use native.Mathlib.Nat.{add-zero, add_assoc}
use native.Mathlib.Omega.{arith}
use lib.ListN.{length, take, drop, length-drop}
use lib.Seq.{drop-length, drop-drop, length-take-le}
use lib.Dec.{leb, leb→le, le→leb}
use Rattle.meaning.specs.Limits.{record_limit}
use Rattle.meaning.specs.Record.{kind_number, kind_of, body_length, Record, kind, record_length, decode_record, sheet_length, Open}
use Rattle.meaning.specs.Reader.{Result, ok, or_refuse, read_from, read, Head, head_of, head_at, body_of, body_at}
use Rattle.meaning.proofs.Logic.{and_then-ok, require-ok, and_then-yes, require-yes, or_refuse-yes, none-is-not-some, ok-injective}
use Rattle.meaning.proofs.Accepted.{IsAccepted, FirstRead, read_from-first, read_from-none}
use Rattle.meaning.proofs.RecordBytes.{kind_number-kind_of}

-- ---- one record

-- the head of a record at an offset
unfoldable pub record_head : ℕ → Record → Head
record_head at r = record { kind_number = kind_number (kind r); body_offset = at + 1; body_length = body_length (kind r) }

-- a head at the first of some bytes: its body begins after the byte of kind and is there
head_of-ok : (at k : ℕ) (bytes : List ℕ) (h : Head) → head_of at (k ∷ bytes) ≡ ok (some h) → (h.body_offset ≡ at + 1) × (h.body_length ≤ length bytes)
unfolding head_of
head_of-ok at k bytes h e =
    let n = and_then-ok (or_refuse (kind_of k) 2 at) _ (some h) e in
    let b = require-ok (leb (body_length n.0) (length bytes)) 1 at _ (some h) n.2 in
    let z : record { kind_number = k; body_offset = at + 1; body_length = body_length n.0 } ≡ h = cc b.1 in
    (ap (λ (x : Head). x.body_offset) (sym z), omega (arith, leb→le (body_length n.0) (length bytes) b.0, ap (λ (x : Head). x.body_length) z))

head_of-accepted : (at : ℕ) (os : List Open) (k : ℕ) (bytes : List ℕ) (r : Record) (after : List Open) → IsAccepted os k bytes r after →
    head_of at (k ∷ bytes) ≡ ok (some (record_head at r))
unfolding head_of record_head
head_of-accepted at os k bytes r after i =
    let n : ℕ = body_length (kind r) in
    and_then-yes _ (or_refuse-yes 2 at i.kind_named)
    ∙ require-yes (leb n (length bytes)) 1 at _ (le→leb n (length bytes) i.body_there)
    ∙ ap {B = Result (Option Head)} (λ (m : ℕ). ok (some (record { kind_number = m; body_offset = at + 1; body_length = n })))
    (sym (kind_number-kind_of k (kind r) i.kind_named))

-- ---- one record of a sheet

-- the body is what follows the byte of kind
body_at-cons : (sheet : List ℕ) (at k : ℕ) (bytes : List ℕ) (h : Head) → drop at sheet ≡ k ∷ bytes → head_at sheet at ≡ ok (some h) →
    (body_at sheet at ≡ take h.body_length bytes) × (h.body_length ≤ length bytes)
unfolding head_at body_at body_of
body_at-cons sheet at k bytes h d e =
    let i = head_of-ok at k bytes h (ap (head_of at) (sym d) ∙ e) in
    let start : drop h.body_offset sheet ≡ bytes = ap (λ (n : ℕ). drop n sheet) i.0 ∙ sym (drop-drop 1 at sheet) ∙ ap (drop 1) d in
    (ap (body_of sheet) e ∙ ap (take h.body_length) start, i.1)

-- where a record stands, the body has the length that the head says
pub length-body_at : (sheet : List ℕ) (at : ℕ) (h : Head) → head_at sheet at ≡ ok (some h) → length (body_at sheet at) ≡ h.body_length
length-body_at sheet at h e = go (drop at sheet) refl
  where
    go : (bytes : List ℕ) → drop at sheet ≡ bytes → length (body_at sheet at) ≡ h.body_length
    go [] d = unfold head_at head_of in none-is-not-some (ok-injective (ap (head_of at) (sym d) ∙ e))
    go (k ∷ bytes) d =
        let b = body_at-cons sheet at k bytes h d e in
        ap (λ (x : List ℕ). length x) b.0 ∙ length-take-le h.body_length bytes b.1

-- ---- every record of an accepted sheet

record_length-body : (r : Record) → record_length r ≡ suc (body_length (kind r))
unfolding record_length
record_length-body r = omega arith

-- what follows the first record
drop-first : (left at : ℕ) (os : List Open) (bytes : List ℕ) (r : Record) (rs : List Record) (f : FirstRead left at os bytes r rs) →
    drop (record_length r) bytes ≡ drop (body_length (kind r)) f.following
drop-first left at os bytes r rs f = λ t. drop (record_length-body r t) (f.bytes_are t)

-- what is read after the records xs
pub record ReadAfter (at : ℕ) (bytes : List ℕ) (xs ys : List Record) : Type 0 where
  pub left : ℕ
  pub still_open : List Open
  pub read_there : read_from left (at + sheet_length xs) still_open (drop (sheet_length xs) bytes) ≡ ok ys

pub read_from-after : (xs ys : List Record) (left at : ℕ) (os : List Open) (bytes : List ℕ) → read_from left at os bytes ≡ ok (xs ++ ys) →
    ReadAfter at bytes xs ys
unfolding sheet_length
read_from-after [] ys left at os bytes e = record { left = left; still_open = os; read_there = ap (λ (m : ℕ). read_from left m os bytes) (add-zero at) ∙ e }
read_from-after (x ∷ xs) ys left at os bytes e =
    let f = read_from-first left at os bytes x (xs ++ ys) e in
    let others : List ℕ = drop (body_length (kind x)) f.following in
    let i = read_from-after xs ys f.left_after (at + record_length x) f.after others f.others_read in
    let offset : at + (record_length x + sheet_length xs) ≡ at + record_length x + sheet_length xs = sym (add_assoc at (record_length x) (sheet_length xs)) in
    let rest : drop (record_length x + sheet_length xs) bytes ≡ drop (sheet_length xs) others =
    sym (drop-drop (sheet_length xs) (record_length x) bytes) ∙ ap (drop (sheet_length xs)) (drop-first left at os bytes x (xs ++ ys) f) in
    record { left = i.left; still_open = i.still_open; read_there = (λ t. read_from i.left (offset t) i.still_open (rest t)) ∙ i.read_there }

-- the record r of an accepted sheet, at its offset
pub record StandsAt (sheet : List ℕ) (at : ℕ) (r : Record) : Type 0 where
  pub head_there : head_at sheet at ≡ ok (some (record_head at r))
  pub body_long : length (body_at sheet at) ≡ body_length (kind r)
  pub decoded : decode_record (kind r) (body_at sheet at) ≡ r

pub read-stands : (sheet : List ℕ) (xs : List Record) (r : Record) (ys : List Record) → read sheet ≡ ok (xs ++ (r ∷ ys)) → StandsAt sheet (sheet_length xs) r
unfolding read head_at record_head
read-stands sheet xs r ys e =
    let at : ℕ = sheet_length xs in
    let a = read_from-after xs (r ∷ ys) record_limit 0 [] sheet e in
    let f = read_from-first a.left (0 + at) a.still_open (drop at sheet) r ys a.read_there in
    let h : head_at sheet at ≡ ok (some (record_head at r)) =
    ap (head_of at) f.bytes_are ∙ head_of-accepted at a.still_open f.kind_byte f.following r f.after f.is_accepted in
    record {
      head_there = h;
      body_long = length-body_at sheet at (record_head at r) h;
      decoded = ap (decode_record (kind r)) (body_at-cons sheet at f.kind_byte f.following (record_head at r) f.bytes_are h).0 ∙ f.is_accepted.decoded;
    }

-- ---- the end of an accepted sheet

read_from-length : (rs : List Record) (left at : ℕ) (os : List Open) (bytes : List ℕ) → read_from left at os bytes ≡ ok rs → length bytes ≡ sheet_length rs
unfolding sheet_length
read_from-length [] left at os bytes e = ap (λ (x : List ℕ). length x) (read_from-none left at os bytes e).1
read_from-length (r ∷ rs) left at os bytes e =
    let f = read_from-first left at os bytes r rs e in
    let n : ℕ = body_length (kind r) in
    let i = read_from-length rs f.left_after (at + record_length r) f.after (drop n f.following) f.others_read in
    omega (arith, i, length-drop n f.following, ap (λ (x : List ℕ). length x) f.bytes_are, f.is_accepted.body_there, record_length-body r)

-- an accepted sheet is as long as its records
pub read_length : (sheet : List ℕ) (rs : List Record) → read sheet ≡ ok rs → length sheet ≡ sheet_length rs
unfolding read
read_length sheet rs e = read_from-length rs record_limit 0 [] sheet e

-- after its last record the record reader finds the end
pub read-end : (sheet : List ℕ) (rs : List Record) → read sheet ≡ ok rs → head_at sheet (sheet_length rs) ≡ ok none
unfolding head_at head_of
read-end sheet rs e = ap (head_at sheet) (sym (read_length sheet rs e)) ∙ ap (head_of (length sheet)) (drop-length sheet)
