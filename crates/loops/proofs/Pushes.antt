-- The pushes of the loops around a loop, with those on the index of the loop itself.
use mathlib.Core.List.{List}
use Prim.Native.Nat.{ℕ, zero, suc}
use lib.IntN.{ℤ}
use lib.ListN.{set}
use Rattle.meaning.specs.Form.{Form}
use Rattle.loops.specs.Reckoned.{row_with}

module _ (lower : Form) (pushes : List (List ℤ)) (depth : ℕ) where
  -- with those of the first m loops
  abbrev pub pushed_rows : ℕ → List (List ℤ)
  pushed_rows zero = pushes
  pushed_rows (suc m) = set (pushed_rows m) m (row_with lower pushes depth m)
