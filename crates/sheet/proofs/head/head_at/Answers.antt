-- Past the end nothing stands; else refusal 2 of a byte that is no kind, refusal 1 of a body cut off, or the head.
use mathlib.Core.Path.{◌≡◌, sym, ap, ◌∙◌}
use mathlib.Core.Option.{some}
use Prim.Native.Nat.{◌+◌}
use Rattle.meaning.specs.Reader.{ok}
use Rattle.records.specs.View.{is_kind, length_of_kind}
use borrow.Author.Rules.{rules}
use borrow.Author.Tests.{ltb-true, ltb-false}
use lib.ListN.{length, get_or}
use Rattle.sheet.proofs.Heads.{head-end, head-no-kind, head-short, head-found}
use Rattle.sheet.proofs.head.head_at.Goals as goal

pub returns-in_default : goal.returns-in_default
returns-in_default c = head-end c.args.sheet.now c.args.at (ltb-false c.args.at (length c.args.sheet.now) (search rules))

pub returns-then-not-is_kind : goal.returns-then-not-is_kind
returns-then-not-is_kind c =
    let a = c.args in
    let byte : c.in-Some.field-0.now ≡ get_or a.sheet.now a.at 0 = search rules in
    let inside = ltb-true a.at (length a.sheet.now) (search rules) in
    head-no-kind a.sheet.now a.at inside (ap is_kind (sym byte) ∙ sym c.is_kind.ensures ∙ c.if-not-is_kind.true)

pub returns-then-sheet-at : goal.returns-then-sheet-at
returns-then-sheet-at c =
    let a = c.args in
    let byte : c.in-Some.field-0.now ≡ get_or a.sheet.now a.at 0 = search rules in
    let inside = ltb-true a.at (length a.sheet.now) (search rules) in
    head-short a.sheet.now a.at inside (c.body_length-length.ensures ∙ ap length_of_kind byte)
    (ap is_kind (sym byte) ∙ sym c.is_kind.ensures ∙ c.if-not-is_kind.false) c.if-sheet-at.true

pub returns : goal.returns
returns c =
    let a = c.args in
    let byte : c.in-Some.field-0.now ≡ get_or a.sheet.now a.at 0 = search rules in
    let inside = ltb-true a.at (length a.sheet.now) (search rules) in
    (λ i. ok (some (record { kind_number = byte i; body_offset = a.at + 1; body_length = c.body_length-length.result })))
    ∙ head-found a.sheet.now a.at inside (c.body_length-length.ensures ∙ ap length_of_kind byte)
    (ap is_kind (sym byte) ∙ sym c.is_kind.ensures ∙ c.if-not-is_kind.false) c.if-sheet-at.false
