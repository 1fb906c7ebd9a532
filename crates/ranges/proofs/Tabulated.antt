-- The list f 0, .., f (n - 1): its length, its elements, and a function of each.
use mathlib.Core.Path.{◌≡◌, refl, ap, fun_ext}
use mathlib.Core.List.{List, [], ◌∷◌, map}
use Prim.Native.Nat.{ℕ, zero, suc, ◌<◌}
use native.Mathlib.Omega.{arith}
use lib.ListN.{length, get_or}

unfoldable pub tabulate : {A : Type 0} → ℕ → (ℕ → A) → List A
tabulate zero f = []
tabulate (suc n) f = f zero ∷ tabulate n (λ k. f (suc k))

pub length-tabulate : {A : Type 0} (n : ℕ) (f : ℕ → A) → length (tabulate n f) ≡ n
unfolding tabulate
length-tabulate zero f = refl
length-tabulate (suc n) f = ap suc (length-tabulate n (λ k. f (suc k)))

pub get_d_tabulate : {A : Type 0} (n k : ℕ) (f : ℕ → A) (d : A) → k < n → get_or (tabulate n f) k d ≡ f k
unfolding tabulate
get_d_tabulate zero k f d h = absurd (omega arith)
get_d_tabulate (suc n) zero f d h = refl
get_d_tabulate (suc n) (suc k) f d h = get_d_tabulate n k (λ j. f (suc j)) d (omega arith)

pub map-tabulate : {A B : Type 0} (g : A → B) (n : ℕ) (f : ℕ → A) → map g (tabulate n f) ≡ tabulate n (λ k. g (f k))
unfolding tabulate
map-tabulate g zero f = refl
map-tabulate {B = B} g (suc n) f = ap {B = List B} (λ rest. g (f zero) ∷ rest) (map-tabulate g n (λ k. f (suc k)))

pub tabulate-same : {A : Type 0} (n : ℕ) (f g : ℕ → A) → ((k : ℕ) → f k ≡ g k) → tabulate n f ≡ tabulate n g
tabulate-same n f g h = ap (tabulate n) (fun_ext h)
