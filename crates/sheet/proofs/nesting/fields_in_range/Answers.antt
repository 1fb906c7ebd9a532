-- A work and a loop have their own tests; any other kind has no fields to be out of range.
use mathlib.Core.Path.{◌≡◌, refl, sym, ap, ◌∙◌}
use mathlib.Core.Bool.{Bool, true}
use mathlib.Core.Option.{Option}
use Prim.Native.Nat.{ℕ}
use lib.Dec.{eqb}
use Rattle.meaning.specs.Record.{Kind, work_kind, loop_kind, kind_number, decode_record, fields_in_range}
use Rattle.sheet.specs.Nestings.{fields_pass, fields_pass_as}
use Rattle.records.proofs.ByKind.{named, loop-named, without-fields}
use Rattle.sheet.proofs.nesting.fields_in_range.Goals as goal

pub returns-then-kind-number : goal.returns-then-kind-number
unfolding fields_pass fields_pass_as
returns-then-kind-number c os d =
    let body = c.args.body.now in
    c.in_range.ensures os ∙ sym (ap (fields_pass_as os body) (named work_kind (c.if-kind-number.true ∙ c.number.ensures)))

pub returns-then-is_loop : goal.returns-then-is_loop
unfolding fields_pass fields_pass_as kind_number
returns-then-is_loop c os d =
    let a = c.args in
    c.in_range-then-is_loop.ensures os d
    ∙ ap (λ (n : ℕ). fields_in_range os (decode_record (loop_kind (eqb a.kind n)) a.body.now)) c.number-then-is_loop.ensures
    ∙ sym (ap (fields_pass_as os a.body.now) (loop-named a.kind (sym c.is_loop.ensures ∙ c.if-is_loop.true)))

pub returns : goal.returns
unfolding fields_pass fields_pass_as fields_in_range decode_record kind_number
returns c os d =
    let body = c.args.body.now in
    without-fields (λ (n : ℕ) (k : Option Kind). true ≡ fields_pass_as os body k) refl refl refl (λ n. refl)
    (λ e. c.if-kind-number.false (e ∙ sym c.number.ensures)) (sym c.is_loop.ensures ∙ c.if-is_loop.false)
