-- The invariant: the record is still open before record `i`, and the records from there on settle where it ends.
use native.Mathlib.Omega.{arith}
use mathlib.Core.Path.{sym, ap, ◌∙◌}
use Rattle.nest.specs.Roles.{end_of_role, role_by, role_of_byte}
use Rattle.nest.proofs.Endings.{ending-done, ending-few, ending_at, ending-found, ending-next, next-by-kind, next-inside}
use Prim.Native.Nat.{◌+◌, ◌^◌, ◌<◌}
use Rattle.nest.proofs.end_of.Goals as goal

pub returns-then-not-opens : goal.returns-then-not-opens
unfolding end_of_role
returns-then-not-opens c = let closed = sym c.opens.ensures ∙ c.if-not-opens.true in rw closed

pub open_after-opened-requires : goal.open_after-opened-requires
open_after-opened-requires c = let few = ending-few c.loop-i.invariant in omega arith

pub returns-then-opened-eq0 : goal.returns-then-opened-eq0
unfolding end_of_role role_of_byte
returns-then-opened-eq0 c =
    let opening = sym c.opens.ensures ∙ c.if-not-opens.false in
    rw opening (ending-found c.loop-i.invariant c.loop-i-test.true c.byte_at-kind.ensures (c.role_of.ensures ∙ ap role_by c.of.ensures) c.open_after-opened.ensures c.if-opened-eq0.true)

-- the offset of the next record
module _ (c : goal.After-body_length) where
  abbrev turn : goal.After-body_length
  turn = c

  next_fits : turn.loop-i.here + (1 + c.body_length.result) < 2 ^ 64
  next_fits =
      let at = ending_at turn.loop-i.invariant turn.loop-i-test.true in
      let next = next-by-kind at c.byte_at-kind.ensures c.body_length.ensures in
      omega (arith, next, next-inside at, turn.well_formed)

pub overflow_add-here : goal.overflow_add-here
overflow_add-here c = record { fits = omega (arith, next_fits c) }

pub overflow_add-here-in-loop-i : goal.overflow_add-here-in-loop-i
overflow_add-here-in-loop-i c = record { fits = omega (arith, next_fits c) }

pub loop-i-preserved : goal.loop-i-preserved
unfolding role_of_byte
loop-i-preserved c =
    ending-next (turn c).loop-i.invariant (turn c).loop-i-test.true c.byte_at-kind.ensures
    (c.role_of.ensures ∙ ap role_by c.of.ensures) c.open_after-opened.ensures c.if-opened-eq0.false c.body_length.ensures

pub returns : goal.returns
unfolding end_of_role
returns c =
    let opening = sym c.opens.ensures ∙ c.if-not-opens.false in
    rw opening (omega (arith, ending-done c.loop-i.invariant c.loop-i-test.false, c.loop-i.invariant.so_far))
