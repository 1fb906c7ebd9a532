-- An array whose elements were made by calls that leave what is called as it is.
use Rattle.std.proofs.Common.{◌≡◌, ℕ, zero, suc, ◌+◌, ◌≤◌, ◌<◌, Bool, true, false, List, get_or, refl, sym, subst, ap, ◌∙◌, arith}
use borrow.Author.Tests.{eqb-true, eqb-false}
use lib.Dec.{eqb}
use Rattle.std.specs.Fn.{Mut, Called}
use Rattle.std.specs.Array.{IsFromFnResultFrom, IsFromFnResult}

module _ {F B : Type 0} (g : Mut F (ℕ × Unit {0}) B) (P : ℕ → B → Type 0) (f : F)
    (gives : (i : ℕ) (y : B) (q : F) → Called g f (i, tt) y q → P i y × (q ≡ f)) where
  from-index : (ys : List B) (i n : ℕ) (s : F) → s ≡ f → IsFromFnResultFrom g s ys i n → (d : B) (k : ℕ) → i ≤ k → k < i + n → P k (get_or ys k d)
  from-index ys i zero s e each d k l h = absurd (omega arith)
  from-index ys i (suc n) s e (q, y, here, called, rest) d k l h = go (eqb k i) refl (from-index ys (i + 1) n q call.1 rest d k)
    where
      call : P i y × (q ≡ f)
      call = gives i y q (subst (λ (p : F). Called g p (i, tt) y q) e called)

      go : (b : Bool) → eqb k i ≡ b → (i + 1 ≤ k → k < i + 1 + n → P k (get_or ys k d)) → P k (get_or ys k d)
      go true w later = subst (λ (j : ℕ). P j (get_or ys j d)) (sym (eqb-true k i w)) (subst (P i) (sym (here.1 d)) call.0)
      go false w later = let other = eqb-false k i w in later (omega arith) (omega arith)

  pub each-made : {ys : List B} {n : ℕ} → IsFromFnResult g f ys n → (d : B) (k : ℕ) → k < n → P k (get_or ys k d)
  each-made {ys} {n} made d k h = from-index ys 0 n f refl made.each d k (omega arith) (omega arith)
