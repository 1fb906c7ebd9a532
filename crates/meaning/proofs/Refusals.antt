-- The numbers and places of refusals: the reader's from 1 to 5 at a place inside the sheet or at its end, the writer's 2, 3, 4, 5 or 9.
use mathlib.Core.Path.{◌≡◌, refl, subst}
use mathlib.Core.Logic.{◌≢◌}
use mathlib.Core.List.{List, [], ◌∷◌}
use mathlib.Core.Bool.{Bool, true, false}
use mathlib.Core.Option.{Option, none, some}
use Prim.Native.Nat.{ℕ, zero, suc, ◌+◌, ◌*◌, ◌≤◌}
use native.Mathlib.Omega.{arith}
use lib.ListN.{length, take, drop, length-take, length-drop}
use lib.Dec.{T, leb, leb→le}
use Rattle.meaning.specs.Limits.{record_limit, record_length_limit}
use Rattle.meaning.specs.Record.{kind_of, body_length, Record, kind, record_length, decode_record, sheet_bytes, Open, fields_in_range, open_after}
use Rattle.meaning.specs.Reader.{read_from_of, read_record_of, Result, ok, refused, require, or_refuse, and_then, Accepted, accept, read_record, end_of_sheet, read_from, read}
use Rattle.meaning.specs.Writer.{RawRecord, foreign_fields_zero, record_of, check_record, check_from, check, check_up_to, store, write, write_up_to, fit_sheet}
use Rattle.meaning.proofs.Accepted.{read_record-ok}
use Rattle.meaning.proofs.RecordBytes.{record_length-bound}

-- ---- refusals of a result

-- if the result is a refusal, P holds of its number and place
unfoldable pub Refusals : {A : Type 0} → (ℕ → ℕ → Type 0) → Result A → Type 0
Refusals P (ok a) = Unit {0}
Refusals P (refused number place) = P number place

refusals-refused : {A : Type 0} (P : ℕ → ℕ → Type 0) (r : Result A) (number place : ℕ) → Refusals P r → r ≡ refused number place → P number place
unfolding Refusals
refusals-refused P r number place h e = subst (Refusals P) e h

module _ (P : ℕ → ℕ → Type 0) where
  refusals-ok : {A : Type 0} (a : A) → Refusals P (ok a)
  unfolding Refusals
  refusals-ok a = tt

  refusals-and_then : {A B : Type 0} (r : Result A) (f : A → Result B) → Refusals P r → ((a : A) → r ≡ ok a → Refusals P (f a)) → Refusals P (and_then r f)
  unfolding Refusals and_then
  refusals-and_then (ok a) f h k = k a refl
  refusals-and_then (refused number place) f h k = h

  refusals-require : {A : Type 0} (c : Bool) (number place : ℕ) (r : Result A) → P number place → (T c → Refusals P r) → Refusals P (require c number place r)
  unfolding Refusals require
  refusals-require true number place r p h = h tt
  refusals-require false number place r p h = p

  refusals-or_refuse : {A : Type 0} (o : Option A) (number place : ℕ) → P number place → Refusals P (or_refuse o number place)
  unfolding Refusals or_refuse
  refusals-or_refuse (some a) number place p = tt
  refusals-or_refuse none number place p = p

  refusals-end_of_sheet : {A : Type 0} (at : ℕ) (os : List Open) (a : A) → P 5 at → Refusals P (end_of_sheet at os a)
  unfolding Refusals end_of_sheet
  refusals-end_of_sheet at [] a p = tt
  refusals-end_of_sheet at (o ∷ os) a p = p

  refusals-accept : (at : ℕ) (os : List Open) (r : Record) → P 3 at → P 5 at → Refusals P (accept at os r)
  unfolding accept
  refusals-accept at os r p3 p5 =
      refusals-require (fields_in_range os r) 3 at _ p3 (λ t.
      refusals-and_then (or_refuse (open_after os r) 5 at) _ (refusals-or_refuse (open_after os r) 5 at p5) (λ after e. refusals-ok _))

-- ---- the reader

-- a refusal of a sheet of this length
pub record ReaderRefusal (sheet_length number place : ℕ) : Type 0 where
  pub at_least1 : 1 ≤ number
  pub at_most5 : number ≤ 5
  pub inside : place ≤ sheet_length

module _ (limit : ℕ) where
  read_record-refusals : (at : ℕ) (os : List Open) (k : ℕ) (bytes : List ℕ) → at ≤ limit → Refusals (ReaderRefusal limit) (read_record at os k bytes)
  unfolding read_record_of
  read_record-refusals at os k bytes n =
      refusals-and_then (ReaderRefusal limit) (or_refuse (kind_of k) 2 at) _ (refusals-or_refuse (ReaderRefusal limit) (kind_of k) 2 at (omega arith)) (λ c e.
      refusals-require (ReaderRefusal limit) (leb (body_length c) (length bytes)) 1 at _ (omega arith) (λ t.
      refusals-accept (ReaderRefusal limit) at os (decode_record c (take (body_length c) bytes)) (omega arith) (omega arith)))

  read_from-refusals : (left at : ℕ) (os : List Open) (bytes : List ℕ) → at + length bytes ≤ limit → Refusals (ReaderRefusal limit) (read_from left at os bytes)
  unfolding read_from_of
  read_from-refusals zero at os [] n = refusals-end_of_sheet (ReaderRefusal limit) at os [] (omega arith)
  read_from-refusals zero at os (k ∷ bytes) n = unfold Refusals in omega arith
  read_from-refusals (suc left) at os [] n = refusals-end_of_sheet (ReaderRefusal limit) at os [] (omega arith)
  read_from-refusals (suc left) at os (k ∷ bytes) n =
      refusals-and_then (ReaderRefusal limit) (read_record at os k bytes) _ (read_record-refusals at os k bytes (omega arith)) (λ a e.
      refusals-and_then (ReaderRefusal limit) (read_from left (at + record_length a.accepted) a.after (drop (body_length (kind a.accepted)) bytes)) _
      (read_from-refusals left (at + record_length a.accepted) a.after (drop (body_length (kind a.accepted)) bytes)
      (inside a (read_record-ok at os k bytes a e).body_there))
      (λ rs q. refusals-ok (ReaderRefusal limit) _))
    where
      inside : (a : Accepted) → body_length (kind a.accepted) ≤ length bytes →
          at + record_length a.accepted + length (drop (body_length (kind a.accepted)) bytes) ≤ limit
      inside a b = unfold record_length in omega (arith, length-drop (body_length (kind a.accepted)) bytes)

pub read-refused : (sheet : List ℕ) (number place : ℕ) → read sheet ≡ refused number place → ReaderRefusal (length sheet) number place
unfolding read
read-refused sheet number place e =
    refusals-refused (ReaderRefusal (length sheet)) (read sheet) number place (read_from-refusals (length sheet) record_limit 0 [] sheet (omega arith)) e

-- ---- the writer

-- 2, 3, 4, 5 or 9, at an offset inside the longest sheet, or at its end
pub record WriterRefusal (number place : ℕ) : Type 0 where
  pub at_least2 : 2 ≤ number
  pub at_most9 : number ≤ 9
  pub not6 : number ≢ 6
  pub not7 : number ≢ 7
  pub not8 : number ≢ 8
  pub inside : place ≤ record_length_limit * record_limit

check_record-refusals : (at : ℕ) (os : List Open) (e : RawRecord) → at ≤ record_length_limit * record_limit → Refusals WriterRefusal (check_record at os e)
unfolding check_record
check_record-refusals at os e n =
    refusals-and_then WriterRefusal (or_refuse (kind_of e.kind_byte) 2 at) _ (refusals-or_refuse WriterRefusal (kind_of e.kind_byte) 2 at (omega arith)) (λ k q.
    refusals-require WriterRefusal (foreign_fields_zero k e) 3 at _ (omega arith)
    (λ t. refusals-accept WriterRefusal at os (record_of k e) (omega arith) (omega arith)))

check_from-refusals : (at : ℕ) (os : List Open) (es : List RawRecord) → at + record_length_limit * length es ≤ record_length_limit * record_limit → Refusals WriterRefusal (check_from at os es)
unfolding check_from
check_from-refusals at os [] n = refusals-end_of_sheet WriterRefusal at os [] (omega arith)
check_from-refusals at os (e ∷ es) n =
    refusals-and_then WriterRefusal (check_record at os e) _ (check_record-refusals at os e (omega arith)) (λ a q.
    refusals-and_then WriterRefusal (check_from (at + record_length a.accepted) a.after es) _
    (check_from-refusals (at + record_length a.accepted) a.after es (omega (arith, record_length-bound a.accepted)))
    (λ rs p. refusals-ok WriterRefusal _))

check-refusals : (es : List RawRecord) (count : ℕ) → Refusals WriterRefusal (check es count)
unfolding check_up_to
check-refusals es count =
    refusals-require WriterRefusal (leb count record_limit) 4 0 _ (omega arith) (λ t.
    check_from-refusals 0 [] (take count es) (omega (arith, leb→le count record_limit t, length-take count es)))

store-result : (buffer : List ℕ) (r : Result (List ℕ)) → Refusals WriterRefusal r → Refusals WriterRefusal (store buffer r).result
unfolding store Refusals
store-result buffer (ok bytes) h = tt
store-result buffer (refused number place) h = h

pub write-refusal : (es : List RawRecord) (count : ℕ) (buffer : List ℕ) (number place : ℕ) → (write es count buffer).result ≡ refused number place →
    WriterRefusal number place
unfolding write_up_to fit_sheet
write-refusal es count buffer number place e =
    refusals-refused WriterRefusal (write es count buffer).result number place
    (store-result buffer _ (refusals-and_then WriterRefusal (check es count) _ (check-refusals es count) (λ rs q.
    refusals-require WriterRefusal (leb (length (sheet_bytes rs)) (length buffer)) 9 0 _ (omega arith) (λ t. refusals-ok WriterRefusal (sheet_bytes rs))))) e
