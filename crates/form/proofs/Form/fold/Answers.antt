-- The constant within the limit plus the shares of the parameters fits 64 bits; the factors of indexes stay, those of parameters are 0.
use Prim.Native.Nat.{◌+◌, ◌^◌}
use native.Mathlib.Omega.{arith}
use lib.IntN.{pos, ◌+ℤ◌}
use lib.ListN.{replicate}
use mir.Syntax.{w64}
use Rattle.whole.specs.Integer.{dot}
use Rattle.meaning.specs.Limits.{parameter_factors}
use Rattle.form.specs.Forms.{size_limit, bounded, folded}
use Rattle.form.proofs.Reckoned.{held, Reckoned, limited, known, add}
use Rattle.form.proofs.Form.fold.Goals as goal

-- the constant, and the parameters' shares
module _ (c : goal.After-shares) where
  abbrev start : goal.After-shares
  start = c

  sum_is : Reckoned (held w64 c.limited.result +ℤ held w64 c.shares.result)
      (bounded start.args.self.constant +ℤ dot start.args.self.parameter start.args.parameters) (size_limit + 2 ^ 32)
  sum_is =
      add (limited {z = start.args.self.constant} (record { sfits = c.struct_told-1.given.0.1 }) c.limited.ensures)
      (known c.shares.ensures.0 c.shares.ensures.1 (omega arith)) (omega arith)

pub overflow_add-result : goal.overflow_add-result
overflow_add-result c = (sum_is c).fits

pub returns : goal.returns
unfolding folded
returns c = λ i. record { constant = (sum_is c).same i; index = (start c).args.self.index; parameter = replicate parameter_factors (pos 0) }
