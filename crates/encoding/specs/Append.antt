-- Appending: bytes are put into a buffer part by part.
use Rattle.std.specs.Prelude.{◌≡◌, List, ◌++◌, ℕ, ◌+◌, ◌≤◌, length, take, drop}

-- the buffer with the bytes from `at` on; all other bytes stay
unfoldable pub written : List ℕ → ℕ → List ℕ → List ℕ
written buffer at bytes = take at buffer ++ bytes ++ drop (at + length bytes) buffer

-- the bytes have room from `at` on, stand there afterwards, and end at `next`
pub record Appended (before : List ℕ) (at : ℕ) (bytes after : List ℕ) (next : ℕ) : Type 0 where
  pub fits : at + length bytes ≤ length before
  pub stored : after ≡ written before at bytes
  pub ends : next ≡ at + length bytes

-- the most digits of a number of 64 bits
abbrev pub decimal_limit : ℕ
decimal_limit = 20
