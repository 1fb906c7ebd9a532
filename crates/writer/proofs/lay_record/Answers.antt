-- Refusal 2, refusal 3, or what accepting says of the bytes that are stored, which are those of the record.
use mathlib.Core.Path.{◌≡◌, sym, ap, ◌∙◌}
use mathlib.Core.List.{List}
use Prim.Native.Nat.{ℕ}
use lib.ListN.{length}
use Rattle.meaning.specs.Record.{Open}
use Rattle.meaning.specs.Reader.{refused}
use Rattle.meaning.specs.Writer.{check_record}
use Rattle.encoding.proofs.Appending.{between}
use Rattle.records.specs.View.{meant, meant_kind, raw_record_of}
use Rattle.sheet.specs.Answers.{accepted_of}
use Rattle.writer.proofs.Fits.{record-fits}
use Rattle.writer.proofs.Given.{body-long}
use Rattle.writer.proofs.LaidRecord.{check-no-kind, not-laid, check-foreign, check-accept, record-laid}
use Rattle.writer.proofs.lay_record.Goals as goal

pub returns-in_default : goal.returns-in_default
returns-in_default c =
    let a = c.args in
    let refusal : (os : List Open) → refused 2 a.at ≡ accepted_of (check_record a.at os (raw_record_of a.item)) = λ os.
    check-no-kind a.at os a.item (sym c.of.ensures ∙ ap meant c.in_default.is) in
    record {
      answer = λ os e. refusal os;
      laid = λ os x e q. not-laid a.at os a.item (refusal os) q;
    }

pub returns-then-not-foreign_blank : goal.returns-then-not-foreign_blank
returns-then-not-foreign_blank c =
    let a = c.args in
    let refusal : (os : List Open) → refused 3 a.at ≡ accepted_of (check_record a.at os (raw_record_of a.item)) = λ os.
    check-foreign a.at os a.item (sym c.in-Some.ensures) (sym c.if-not-foreign_blank.true ∙ c.foreign_blank.ensures) in
    record {
      answer = λ os e. refusal os;
      laid = λ os x e q. not-laid a.at os a.item (refusal os) q;
    }

pub returns : goal.returns
returns c =
    let a = c.args in
    let named = sym c.in-Some.ensures in
    let kind = meant_kind c.in-Some.kind in
    let blank = sym c.if-not-foreign_blank.false ∙ c.foreign_blank.ensures in
    let fits = record-fits a.item _ c.well_formed.0 in
    let stored = c.put_body-to.ensures in
    let part = between stored in
    record {
      answer = λ os e. c.accept_record.ensures.records os kind e named (ap (λ (l : List ℕ). length l) part ∙ body-long fits kind)
          ∙ ap accepted_of (check-accept a.at os a.item named blank fits part);
      laid = λ os x e q. record-laid a.at os a.item named blank fits c.put_byte-from.ensures stored q;
    }
