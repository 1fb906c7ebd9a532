-- Demand 3, about the figures that are read back out of the area which the C call left.
use Rattle.std.specs.Prelude.{◌≡◌, List, ℕ, ℤ}
use Rattle.meaning.specs.Reader.{ok}
use Rattle.meaning.specs.CCall.{figures_in}
use Rattle.figures.specs.Demand.{Answered}

-- where the call returned 0, the demand holds of the figures that the area holds
unfoldable pub Stored : List ℕ → List ℤ → ℕ → List ℕ → Type 0
Stored sheet parameters number area = number ≡ 0 → Answered sheet parameters (ok (figures_in area))
