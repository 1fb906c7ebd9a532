-- The differences so far are those of the factors.
use Rattle.std.proofs.Common.{◌≡◌, ℕ, ◌<◌, get_or, length, pos, ◌-ℤ◌}
use Rattle.form.proofs.differences.Given as goal

abbrev pub invariant-loop-k : goal.invariant-loop-k
invariant-loop-k g l =
    (length l.differences ≡ g.row.N) × ((k : ℕ) → k < l.k → get_or l.differences k (pos 0) ≡ get_or l.x k (pos 0) -ℤ get_or l.y k (pos 0))
