-- Tests joined by `&&`, as the code takes them one after another.
use mathlib.Core.Path.{◌≡◌, refl, sym, ap, ◌∙◌}
use mathlib.Core.Bool.{Bool, true, false, ◌&&◌}
use lib.Dec.{T}

pub and-pass : (p q : Bool) {r : Bool} → p ≡ true → p && q ≡ r → q ≡ r
and-pass p q e f = sym (ap (λ (b : Bool). b && q) e) ∙ f

pub and-stop : (p q : Bool) {r : Bool} → p ≡ false → p && q ≡ r → p ≡ r
and-stop p q e f = e ∙ sym (ap (λ (b : Bool). b && q) e) ∙ f

pub refuted : (b : Bool) → (T b → ⊥) → false ≡ b
refuted true h = absurd (h tt)
refuted false h = refl
