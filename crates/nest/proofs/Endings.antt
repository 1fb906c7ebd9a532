-- What the code reads at a record's offset; the end of a record, found by the roles of the records after it.
use mathlib.Core.List.{List, [], ◌∷◌}
use mathlib.Core.Path.{ap, ap₂, subst, sym, ◌∙◌, ◌≡◌}
use mathlib.Core.Bool.{cond}
use Prim.Native.Nat.{◌+◌, ◌-◌, ◌<◌, ◌^◌, suc, ℕ, ◌≤◌}
use native.Mathlib.Numerals.{add-one}
use native.Mathlib.Omega.{arith}
use borrow.Author.Tests.{ne_eqb}
use lib.ListN.{drop, drop_of_length-le, get_or, length, take}
use lib.Seq.{drop-cons, length-take-le}
use lib.Dec.{eqb}
use Rattle.meaning.specs.Record.{Record, body_length, end_record, kind_number, record_length, sheet_length, kind}
use Rattle.meaning.specs.Reader.{body_at}
use Rattle.meaning.specs.Limits.{record_limit}
use Rattle.meaning.proofs.RecordReader.{StandsAt}
use Rattle.meaning.proofs.RecordBytes.{sheet_length-bound}
use Rattle.records.specs.View.{length_of_kind}
use Rattle.sheet.specs.Sheets.{records_of}
use Rattle.sheet.proofs.SheetRecords.{few-records, kind-there, length-by-number, next-offset, record-fits, record-stands}
use Rattle.layout.specs.declared.rows.Role.{Role}
use Rattle.layout.specs.Rows.{role_of}
use Rattle.nest.specs.Known.{RecordAt}
use Rattle.nest.specs.Roles.{open_after_role, role_of_byte}
use Rattle.nest.specs.Walk.{records_inside}
use Rattle.nest.proofs.Roles.{inside-step, open-small, role-of-record}

-- ---- what the code reads at a record's offset

module _ {sheet : List ℕ} {count n at : ℕ} (g : RecordAt sheet count n at) where
  abbrev current : Record
  current = get_or (records_of sheet) n end_record

  pub present : n < length (records_of sheet)
  present = omega (arith, g.all, g.there)

  pub kind-read : get_or sheet at 0 ≡ kind_number (kind current)
  kind-read = ap (λ (m : ℕ). get_or sheet m 0) g.offset ∙ kind-there sheet n present

  pub role-read : {byte : ℕ} {role : Role} → byte ≡ get_or sheet at 0 → role ≡ role_of_byte byte → role ≡ role_of current
  role-read k r = r ∙ ap role_of_byte (k ∙ kind-read) ∙ role-of-record current

  pub stands-there : StandsAt sheet at current
  stands-there = subst (λ (m : ℕ). StandsAt sheet m current) (sym g.offset) (record-stands sheet n present)

  pub next-by-body : {body : List ℕ} → body ≡ body_at sheet at → at + (1 + length body) ≡ sheet_length (take (n + 1) (records_of sheet))
  unfolding record_length
  next-by-body b = omega (arith, ap length b, stands-there.body_long, g.offset, next-offset sheet n present)

  pub next-by-kind : {byte long : ℕ} → byte ≡ get_or sheet at 0 → long ≡ length_of_kind byte → at + (1 + long) ≡ sheet_length (take (n + 1) (records_of sheet))
  next-by-kind k e =
      let l = ap (λ (m : ℕ). 1 + m) (e ∙ ap length_of_kind (k ∙ kind-read)) ∙ length-by-number current in
      omega (arith, l, g.offset, next-offset sheet n present)

  pub offset-small : at < 2 ^ 16
  unfolding body_length
  offset-small =
      let few : length (take n (records_of sheet)) ≡ n = length-take-le n (records_of sheet) (omega (arith, present)) in
      omega (arith, g.offset, sheet_length-bound (take n (records_of sheet)), few, few-records sheet, present)

  pub next-inside : sheet_length (take (n + 1) (records_of sheet)) ≤ length sheet
  next-inside = omega (arith, record-fits sheet n present, next-offset sheet n present)

-- ---- the search for the end of the record with the number n

-- where `opened` records are open, the one that is searched for among them, before record i, which stands at `here`
pub record Ending (sheet : List ℕ) (count n opened here i : ℕ) : Type 0 where
  pub all : count ≡ length (records_of sheet)
  pub so_far : i ≤ count
  pub small : opened ≤ i
  pub some-open : 0 < opened
  pub offset : here ≡ sheet_length (take i (records_of sheet))
  pub same : n + 1 + records_inside 0 (drop (n + 1) (records_of sheet)) ≡ i + records_inside (opened - 1) (drop i (records_of sheet))

module _ {sheet : List ℕ} {count n opened here i : ℕ} (g : Ending sheet count n opened here i) where
  abbrev rs : List Record
  rs = records_of sheet

  pub ending-done : count ≤ i → i ≡ n + 1 + records_inside 0 (drop (n + 1) rs)
  unfolding records_inside
  ending-done h =
      let none : drop i rs ≡ [] = drop_of_length-le rs {i = i} (omega (arith, g.all)) in
      omega (arith, g.same, ap (records_inside (opened - 1)) none)

  pub ending-few : opened ≤ record_limit
  ending-few = omega (arith, g.small, g.so_far, g.all, few-records sheet)

  module _ (more : i < count) where
    pub ending_at : RecordAt sheet count i here
    ending_at = record { all = g.all; there = more; offset = g.offset }

    first : drop i rs ≡ get_or rs i end_record ∷ drop (i + 1) rs
    first = drop-cons rs i end_record (present ending_at) ∙ ap (λ (m : ℕ). get_or rs i end_record ∷ drop m rs) (sym (add-one i))

    module _ {byte after : ℕ} {role : Role} (k : byte ≡ get_or sheet here 0) (r : role ≡ role_of_byte byte) (a : after ≡ open_after_role role opened) where
      step : records_inside (opened - 1) (drop i rs) ≡ cond (eqb after 0) 0 (suc (records_inside (after - 1) (drop (i + 1) rs)))
      step =
          let back : opened - 1 + 1 ≡ opened = omega (arith, g.some-open) in
          let now : open_after_role (role_of (get_or rs i end_record)) (opened - 1 + 1) ≡ after =
          ap₂ open_after_role (sym (role-read ending_at k r)) back ∙ sym a in
          ap (records_inside (opened - 1)) first ∙ inside-step (get_or rs i end_record) (drop (i + 1) rs) (opened - 1)
          ∙ ap (λ (m : ℕ). cond (eqb m 0) 0 (suc (records_inside (m - 1) (drop (i + 1) rs)))) now

      pub ending-found : after ≡ 0 → i ≡ n + 1 + records_inside 0 (drop (n + 1) rs)
      ending-found z =
          let stop : cond (eqb after 0) 0 (suc (records_inside (after - 1) (drop (i + 1) rs))) ≡ 0 = rw z in
          omega (arith, g.same, step, stop)

      pub ending-next : (after ≡ 0 → ⊥) → {long : ℕ} → long ≡ length_of_kind byte → Ending sheet count n after (here + (1 + long)) (i + 1)
      ending-next z q =
          let go_on : cond (eqb after 0) 0 (suc (records_inside (after - 1) (drop (i + 1) rs))) ≡ suc (records_inside (after - 1) (drop (i + 1) rs)) =
          rw (ne_eqb after 0 z) in
          record {
            all = g.all;
            so_far = omega arith;
            small = omega (arith, open-small role opened, a, g.small);
            some-open = omega arith;
            offset = next-by-kind ending_at k q;
            same = omega (arith, g.same, step, go_on);
          }
