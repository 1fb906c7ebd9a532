-- The stride of a loop divides the push where the push's size leaves no remainder; the size is that of the integer that the word stands for.
use mathlib.Core.Bool.{not}
use mathlib.Core.Path.{◌≡◌, ap, ap₂, ◌∙◌}
use Prim.Native.Nat.{ℕ, ◌%◌}
use lib.Dec.{eqb}
use borrow.Author.Tests.{ne_eqb}
use Rattle.planner.specs.Closing.{uneven_at, word_size}
use Rattle.planner.proofs.Preventing.{size-cast}
use Rattle.planner.proofs.closing.uneven_in.Goals as goal

pub returns-then-stride-ne0 : goal.returns-then-stride-ne0
unfolding uneven_at
returns-then-stride-ne0 c =
    let size : c.unsigned_abs.result ≡ word_size c.push_at.result = size-cast (record { sfits = c.cast_signed-push.type_inv }) c.push_at.type_inv c.cast_signed-push.ensures c.unsigned_abs.ensures.value in
    ap₂ (λ (a b : ℕ). not (eqb (a % b) 0)) (size ∙ ap word_size c.push_at.ensures) c.stride_at-stride.ensures
    ∙ rw (ne_eqb _ 0 (λ e. c.if-stride-ne0.true (c.stride_at-stride.ensures ∙ e)))
