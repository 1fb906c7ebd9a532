-- Each number of the row is read of the record that stands at `at`, or carried there; a row has the last 16 bits of what is wider.
use mathlib.Core.Path.{ap, ◌∙◌}
use Prim.Native.Nat.{ℕ, ◌%◌, ◌^◌}
use mathlib.Core.Option.{Option}
use Rattle.meaning.specs.Record.{Kind}
use Rattle.nest.specs.Roles.{role_by, role_of_byte, cost_by, cost_in, skip_cost_by, skip_cost_in}
use Rattle.nest.proofs.Endings.{next-by-body, next-inside}
use Rattle.nest.proofs.RowWalk.{row_is}
use native.Mathlib.Omega.{arith}
use Rattle.nest.proofs.row_of.Goals as goal

pub overflow_add-place : goal.overflow_add-place
overflow_add-place c =
    let next = next-by-body c.requires c.body_at-body.ensures in
    record { fits = omega (arith, next, next-inside c.requires, c.well_formed) }

pub end_of-end-requires : goal.end_of-end-requires
end_of-end-requires c =
    let known = c.requires in
    record { all = known.all; there = known.there; offset = next-by-body known c.body_at-body.ensures }

pub returns : goal.returns
unfolding role_of_byte cost_in skip_cost_in
returns c =
    let body = c.body_at-body.result.now in
    let kind = c.of-kind.ensures in
    let end = c.narrow.ensures ∙ ap (λ (n : ℕ). n % 2 ^ 16) c.end_of-end.ensures in
    row_is c.requires c.byte_at.ensures c.body_at-body.ensures (c.role_of-role.ensures ∙ ap role_by kind) c.number.ensures
    (c.cost-first.ensures ∙ ap (λ (k : Option Kind). cost_by k body 0) kind) (c.cost-second.ensures ∙ ap (λ (k : Option Kind). cost_by k body 2) kind)
    (c.skip_cost-skip.ensures ∙ ap (λ (k : Option Kind). skip_cost_by k body) kind) end c.narrow-2.ensures c.narrow-3.ensures
    c.narrow-4.ensures
