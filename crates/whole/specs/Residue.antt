-- Integers modulo a number.
use Rattle.std.specs.Prelude.{◌≡◌, ℕ, ℤ, pos, ◌+ℤ◌, ◌*ℤ◌}

-- z is the residue plus a multiple of the modulus
pub record Congruent (modulus residue : ℕ) (z : ℤ) : Type 0 where
  pub quotient : ℤ
  pub equation : z ≡ pos residue +ℤ quotient *ℤ pos modulus
