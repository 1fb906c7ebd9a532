-- One record in the writer: its refusals, and its bytes in the sheet.
use mathlib.Core.Path.{◌≡◌, sym, ap, subst, ◌∙◌}
use mathlib.Core.List.{List, [], ◌∷◌, ◌++◌}
use mathlib.Core.Bool.{Bool, true, false}
use mathlib.Core.Option.{Option, none, some}
use Prim.Native.Nat.{ℕ, ◌+◌}
use native.Mathlib.Omega.{arith}
use lib.ListN.{take}
use Rattle.meaning.specs.Record as M
use Rattle.meaning.specs.Record.{Kind, kind_number, kind_of, body_length, kind, record_length, decode_record, body_bytes, record_bytes, Open}
use Rattle.meaning.specs.Reader.{Result, ok, refused, require, or_refuse, and_then, Accepted, accept}
use Rattle.meaning.specs.Writer.{foreign_fields_zero, record_of, check_record}
use Rattle.meaning.proofs.Logic.{true→T, refused-is-not-ok}
use Rattle.meaning.proofs.Accepted.{accept-ok}
use Rattle.meaning.proofs.RecordBytes.{kind_number-kind_of}
use Rattle.encoding.specs.Append.{Appended}
use Rattle.encoding.proofs.Appending as bytes
use Rattle.records.specs.declared.Record.{Record}
use Rattle.records.specs.View.{raw_record_of}
use Rattle.sheet.specs.Answers.{accepted_of}
use Rattle.writer.specs.Writing.{RecordLaid}
use Rattle.writer.proofs.Fits.{RecordFits}
use Rattle.writer.proofs.Given.{given_back, decoded-back, body-long, kind-given}

module _ (at : ℕ) (os : List Open) (item : Record) where
  abbrev checked : Result Accepted
  checked = check_record at os (raw_record_of item)

  abbrev with-kind : Option Kind → Result Accepted
  with-kind o = and_then (or_refuse o 2 at) λ k. require (foreign_fields_zero k (raw_record_of item)) 3 at (accept at os (record_of k (raw_record_of item)))

  pub check-no-kind : kind_of item.kind ≡ none → refused 2 at ≡ accepted_of checked
  unfolding check_record and_then or_refuse accepted_of
  check-no-kind h = sym (ap (λ (o : Option Kind). accepted_of (with-kind o)) h)

  -- a record that is refused is not laid
  pub not-laid : {X : Type 0} {number place : ℕ} → refused number place ≡ accepted_of checked → {a : Accepted} → checked ≡ ok a → X
  unfolding accepted_of
  not-laid e q = refused-is-not-ok (e ∙ ap accepted_of q)

  module _ {k : Kind} (named : kind_of item.kind ≡ some k) where
    abbrev this : M.Record
    this = record_of k (raw_record_of item)

    with-foreign : {b : Bool} → b ≡ foreign_fields_zero k (raw_record_of item) → checked ≡ require b 3 at (accept at os this)
    unfolding check_record and_then or_refuse
    with-foreign e = ap with-kind named ∙ ap (λ (x : Bool). require x 3 at (accept at os this)) (sym e)

    pub check-foreign : false ≡ foreign_fields_zero k (raw_record_of item) → refused 3 at ≡ accepted_of checked
    unfolding require accepted_of
    check-foreign f = sym (ap accepted_of (with-foreign f))

    module _ (f : true ≡ foreign_fields_zero k (raw_record_of item)) (fits : RecordFits item) where
      passes : checked ≡ accept at os this
      unfolding require
      passes = with-foreign f

      pub check-accept : {body : List ℕ} → body ≡ body_bytes this → accept at os (decode_record k body) ≡ checked
      check-accept is = ap (λ (l : List ℕ). accept at os (decode_record k l)) is ∙ ap (accept at os) (decoded-back fits k) ∙ sym passes

      -- the kind's byte, and then the body
      module _ {before middle after : List ℕ} {from to : ℕ} (first : Appended before at (item.kind ∷ []) middle from)
          (second : Appended middle from (body_bytes this) after to) where
        stored : take (at + record_length this) after ≡ take at before ++ record_bytes this
        unfolding record_length record_bytes
        stored =
            let whole = bytes.and_then first second in
            let long : to ≡ at + (1 + body_length (kind this)) = omega (arith, whole.ends, body-long fits k, ap body_length (kind-given item k)) in
            let number : item.kind ≡ kind_number (kind this) = sym (kind_number-kind_of item.kind k named) ∙ ap kind_number (sym (kind-given item k)) in
            ap (λ (n : ℕ). take n after) (sym long) ∙ bytes.up-to-end whole ∙ ap (λ (n : ℕ). take at before ++ n ∷ body_bytes this) number

        pub record-laid : {a : Accepted} → checked ≡ ok a → RecordLaid item at a.accepted before after
        record-laid {a} e =
            subst (λ (x : M.Record). RecordLaid item at x before after) (accept-ok at os this a (sym passes ∙ e)).0
            (record { given = given_back fits named (true→T (foreign_fields_zero k (raw_record_of item)) (sym f)); stored = stored })
