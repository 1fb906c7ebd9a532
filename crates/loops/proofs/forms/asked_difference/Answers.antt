-- 0 where the skip and the start differ, otherwise minus the stride's size, whose 16 bits fit 64.
use mathlib.Core.Path.{sym, ap, ◌∙◌}
use Prim.Native.Nat.{ℕ}
use lib.IntN.{pos, neg_ℤ}
use native.Mathlib.Omega.{arith}
use borrow.Author.Tests.{not-true, not-false}
use Rattle.meaning.specs.Record.{stride_size}
use Rattle.meaning.proofs.Skips.{asked-same, asked-other}
use Rattle.records.specs.View.{loop_of}
use Rattle.loops.proofs.Words.{field-size, minus-size}
use Rattle.loops.proofs.forms.asked_difference.Goals as goal

pub returns-then-skip_differs : goal.returns-then-skip_differs
returns-then-skip_differs c =
    let given = c.args in
    sym (asked-other (loop_of given.skips given.source) (not-true _ (sym c.skip_differs.ensures ∙ c.if-skip_differs.true)))

pub returns : goal.returns
unfolding stride_size
returns c =
    let given = c.args in
    let field = field-size given.source.stride (record { sfits = c.struct_told-1.given.1.1.0.1 }) in
    minus-size c.stride_size.result (omega arith) (record { sfits = c.from.type_inv }) c.from.ensures
    ∙ ap (λ (n : ℕ). neg_ℤ (pos n)) (c.stride_size.ensures ∙ field)
    ∙ sym (asked-same (loop_of given.skips given.source) (not-false _ (sym c.skip_differs.ensures ∙ c.if-skip_differs.false)))
