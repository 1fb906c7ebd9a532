-- Of constant sequences the larger one dominates.
use mathlib.Core.Path.{◌≡◌, sym, ap, ◌∙◌, subst}
use mathlib.Core.Bool.{Bool, true, false, ◌&&◌}
use mathlib.Core.List.{List, [], ◌∷◌}
use Prim.Native.Nat.{ℕ, zero, suc, ◌≤◌}
use lib.IntN.{ℤ, pos, ◌-ℤ◌, +ℤ_invr, +ℤ_idr}
use lib.Signed.{le_z}
use lib.Dec.{T}
use lib.ListN.{length}
use Rattle.whole.specs.Integer.{subtract_lists}
use Rattle.whole.specs.Newton.{values, difference}
use Rattle.whole.specs.Ranking.{coefficients, newton_series, none_negative, dominates}
use Rattle.whole.proofs.Order.{AtMost, AtMost→le_z, AtMost-subtract, pos-AtMost}
use Rattle.whole.proofs.Newton.{values_length, values-extensional}
use Rattle.whole.proofs.Ranking.{coefficients-values}

and : (a b : Bool) → T a → T b → T (a && b)
and true b t u = u
and false b t u = t

same-none-negative : (zs : List ℤ) → T (none_negative (subtract_lists zs zs))
unfolding none_negative
same-none-negative [] = tt
same-none-negative (z ∷ zs) =
    and (le_z (pos zero) (z -ℤ z)) (none_negative (subtract_lists zs zs)) (subst (λ (x : ℤ). T (le_z (pos zero) x)) (sym (+ℤ_invr z)) tt) (same-none-negative zs)

constant-coefficients : (count : ℕ) (x : ℤ) → coefficients (suc count) (values (suc count) (λ k. x)) ≡ x ∷ coefficients count (values count (λ k. pos zero))
constant-coefficients count x =
    coefficients-values count (λ k. x)
    ∙ ap (λ (p : List ℤ). x ∷ coefficients count p) (values-extensional count (difference (λ k. x)) (λ k. pos zero) (λ k made. +ℤ_invr x))

constant-none-negative : (count x y : ℕ) → y ≤ x →
    T (none_negative (subtract_lists (coefficients count (values count (λ k. pos x))) (coefficients count (values count (λ k. pos y)))))
unfolding coefficients none_negative
constant-none-negative zero x y h = tt
constant-none-negative (suc count) x y h =
    let zs : List ℤ = coefficients count (values count (λ k. pos zero)) in
    let above = AtMost→le_z (pos zero) (pos x -ℤ pos y) (AtMost-subtract (pos y) (pos zero) (pos x) (subst (λ (z : ℤ). AtMost z (pos x)) (sym (+ℤ_idr (pos y))) (pos-AtMost h))) in
    subst (λ (p : List ℤ). T (none_negative (subtract_lists p (coefficients (suc count) (values (suc count) (λ k. pos y)))))) (sym (constant-coefficients count (pos x)))
    (subst (λ (q : List ℤ). T (none_negative (subtract_lists (pos x ∷ zs) q))) (sym (constant-coefficients count (pos y)))
    (and (le_z (pos zero) (pos x -ℤ pos y)) (none_negative (subtract_lists zs zs)) above (same-none-negative zs)))

pub constant-dominates : (count x y : ℕ) → y ≤ x → T (dominates (values count (λ k. pos x)) (values count (λ k. pos y)))
unfolding dominates newton_series
constant-dominates count x y h =
    subst (λ (m : ℕ). T (none_negative (subtract_lists (coefficients m (values count (λ k. pos x))) (coefficients (length (values count (λ k. pos y))) (values count (λ k. pos y))))))
    (sym (values_length count (λ k. pos x)))
    (subst (λ (m : ℕ). T (none_negative (subtract_lists (coefficients count (values count (λ k. pos x))) (coefficients m (values count (λ k. pos y))))))
    (sym (values_length count (λ k. pos y))) (constant-none-negative count x y h))
