-- What a call leaves, as a definition says it.
use mathlib.Core.Path.{◌≡◌, sym, ap, subst}
use mathlib.Core.List.{List}
use Prim.Native.Nat.{ℕ}
use Rattle.meaning.specs.Lent.{Lent}

-- what a definition says of a call is this number, this buffer and this area
abbrev pub Leaves : Lent → ℕ → List ℕ → List ℕ → Type 0
Leaves called number buffer area = (number ≡ called.number) × ((buffer ≡ called.buffer) × (area ≡ called.area))

pub leaves_by : {called : Lent} {number : ℕ} {buffer area : List ℕ} → called ≡ record { number = number; buffer = buffer; area = area } →
    Leaves called number buffer area
leaves_by e = (sym (ap (λ (c : Lent). c.number) e), (sym (ap (λ (c : Lent). c.buffer) e), sym (ap (λ (c : Lent). c.area) e)))

-- the same of a number that is told to be another
pub by-number : (P : ℕ → Type 0) {n m : ℕ} → n ≡ m → P m → P n
by-number P e p = subst P (sym e) p
