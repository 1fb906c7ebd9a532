-- The constant within the limit plus the sum of the products fits 64 bits, and is the value at these indexes.
use mathlib.Core.Path.{◌≡◌, ◌∙◌}
use mathlib.Core.List.{map}
use Prim.Native.Nat.{◌+◌, ◌*◌, ◌^◌}
use native.Mathlib.Omega.{arith}
use lib.IntN.{◌+ℤ◌}
use mir.Syntax.{w64}
use mir.Val.{SFits}
use lib.ListN.{length}
use borrow.Author.Rules.{rules}
use Rattle.whole.specs.Integer.{dot}
use Rattle.meaning.specs.Limits.{index_factors}
use Rattle.form.specs.Forms.{size_limit, bounded, wide_form}
use Rattle.form.proofs.Reckoned.{held, Reckoned, limited, add, InWidth}
use Rattle.form.proofs.FormLists.{at, dot-read, value-at}
use Rattle.form.proofs.Form.at.Goals as goal

-- the constant, and the sum of products
module _ (c : goal.After-dot) where
  abbrev start : goal.After-dot
  start = c

  sum_is : Reckoned (held w64 c.limited.result +ℤ held w64 c.dot.result)
      (bounded start.args.self.constant +ℤ dot start.args.self.index (map bounded start.args.indexes)) (size_limit + index_factors * 2 ^ 61)
  sum_is =
      let told : SFits w64 start.args.self.constant = search rules in
      let ys = start.args.indexes in
      let x : InWidth w64 (at ys 0) = search rules in
      let y : InWidth w64 (at ys 1) = search rules in
      let z : InWidth w64 (at ys 2) = search rules in
      let lx : length start.args.self.index ≡ index_factors = search rules in
      add (limited {z = start.args.self.constant} told c.limited.ensures)
      (dot-read start.args.self.index ys lx x y z c.dot.ensures) (omega arith)

pub overflow_add-result : goal.overflow_add-result
overflow_add-result c = (sum_is c).fits

pub returns : goal.returns
returns c = (sum_is c).same ∙ value-at (wide_form (start c).args.self) (start c).args.indexes
