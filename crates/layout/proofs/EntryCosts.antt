-- The cost of entering a loop, with no trip and with some.
use mathlib.Core.Path.{◌≡◌, refl, sym, ap}
use mathlib.Core.List.{List}
use Prim.Native.Nat.{ℕ, zero, suc}
use Rattle.layout.specs.Rows.{first_at, skip_at, entry_cost_at}

module _ (rows : List ℕ) (number : ℕ) {trips : ℕ} where
  pub no-trip : trips ≡ 0 → skip_at rows number ≡ entry_cost_at rows number trips
  unfolding entry_cost_at
  no-trip e = sym (ap (entry_cost_at rows number) e)

  pub some-trip : (trips ≡ 0 → ⊥) → first_at rows number ≡ entry_cost_at rows number trips
  some-trip h = go trips h
    where
      go : (n : ℕ) → (n ≡ 0 → ⊥) → first_at rows number ≡ entry_cost_at rows number n
      go zero h = absurd (h refl)
      go (suc n) h = unfold entry_cost_at in refl
