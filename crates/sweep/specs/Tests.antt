-- A closure that tests two numbers of 64 bits.
use Rattle.std.specs.Prelude.{◌≡◌, ℕ, Bool, ◌^◌, ◌<◌}

-- what the closure answers of two numbers is the test's answer
abbrev pub Tests : (ℕ → ℕ → Bool → Type 0) → (ℕ → ℕ → Bool) → Type 0
Tests answers test = (a b : ℕ) (r : Bool) → a < 2 ^ 64 → b < 2 ^ 64 → answers a b r → r ≡ test a b
