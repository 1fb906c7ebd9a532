-- The invariant: the records passed stand in the new sheet, and the next one at `from` in the old.
use mathlib.Core.Path.{sym, ap, ◌∙◌}
use mathlib.Core.List.{List, ◌++◌}
use Prim.Native.Nat.{ℕ}
use native.Mathlib.Omega.{arith}
use lib.ListN.{length, drop}
use Rattle.meaning.specs.Record.{Record, kind_of, sheet_bytes}
use Rattle.meaning.specs.Reader.{Result, ok}
use Rattle.meaning.proofs.Logic.{none-is-not-some, refused-is-not-ok, ok-injective}
use Rattle.encoding.proofs.Appending.{from_start, length-written}
use Rattle.records.specs.View.{meant}
use Rattle.sheet.proofs.WrittenBack.{bytes-all}
use Rattle.converter.specs.Converting.{new_length}
use Rattle.converter.proofs.Bodies.{body-short}
use Rattle.converter.proofs.Laying.{laying-start, body-of, kind-named, laying-room, from-small, few, laying_refused, laying-next, laying-done}
use Rattle.converter.proofs.lay_out.Goals as goal

pub loop-init : goal.loop-init
loop-init c = laying-start c.args.sheet.now c.args.skips c.args.count c.args.target.now c.requires.0

pub unreachable-requires : goal.unreachable-requires
unreachable-requires c =
    none-is-not-some (sym (ap meant c.in_default.is) ∙ c.of.ensures ∙ ap kind_of c.byte_at.ensures
    ∙ kind-named c.args.sheet.now c.args.skips c.loop.invariant c.loop-test.true)

pub returns-then-loses_skip : goal.returns-then-loses_skip
unfolding new_length
returns-then-loses_skip c =
    let inv = c.loop.invariant in
    let more = c.loop-test.true in
    let sheet = c.args.sheet.now in
    let bytes = bytes-all sheet (λ i. (c.type_inv.sheet i).fits) in
    let this = body-of sheet c.args.skips inv more bytes (c.in-Some.ensures ∙ ap kind_of c.byte_at.ensures) c.body_at-body.ensures in
    let refused = laying_refused sheet c.args.skips inv more (sym c.if-loses_skip.true ∙ c.loses_skip.ensures _ this) in
    record {
      answer = sym (ap new_length refused);
      laid = λ new e. refused-is-not-ok (sym refused ∙ e);
    }

pub put_record-to-requires : goal.put_record-to-requires
put_record-to-requires c =
    let inv = c.loop.invariant in
    let more = c.loop-test.true in
    let sheet = c.args.sheet.now in
    let bytes = bytes-all sheet (λ i. (c.type_inv.sheet i).fits) in
    let this = body-of sheet c.args.skips inv more bytes (c.in-Some.ensures ∙ ap kind_of c.byte_at.ensures) c.body_at-body.ensures in
    ((_, this), laying-room sheet c.args.skips inv more c.requires.1)

pub overflow_add-from-in-loop : goal.overflow_add-from-in-loop
overflow_add-from-in-loop c =
    let inv = c.loop.invariant in
    let more = c.loop-test.true in
    let sheet = c.args.sheet.now in
    let bytes = bytes-all sheet (λ i. (c.type_inv.sheet i).fits) in
    let this = body-of sheet c.args.skips inv more bytes (c.in-Some.ensures ∙ ap kind_of c.byte_at.ensures) c.body_at-body.ensures in
    record { fits = omega (arith, body-short this, from-small sheet c.args.skips inv more, few sheet c.args.skips inv more) }

pub loop-preserved : goal.loop-preserved
loop-preserved c =
    let inv = c.loop.invariant in
    let more = c.loop-test.true in
    let sheet = c.args.sheet.now in
    let bytes = bytes-all sheet (λ i. (c.type_inv.sheet i).fits) in
    let this = body-of sheet c.args.skips inv more bytes (c.in-Some.ensures ∙ ap kind_of c.byte_at.ensures) c.body_at-body.ensures in
    laying-next sheet c.args.skips inv more this (sym c.if-loses_skip.false ∙ c.loses_skip.ensures _ this) (c.put_record-to.ensures _ this)

pub returns : goal.returns
unfolding new_length
returns c =
    let inv = c.loop.invariant in
    let done = laying-done c.args.sheet.now c.args.skips inv c.loop-test.false in
    record {
      answer = ap {B = Result ℕ} ok (length-written inv.laid) ∙ sym (ap new_length done);
      laid = λ new e.
          from_start inv.laid ∙ ap (λ (rs : List Record). sheet_bytes rs ++ drop (length (sheet_bytes rs)) c.args.target.now) (ok-injective (sym done ∙ e));
    }
