-- Numbers at the start of an array with zeros after them: one number more, and the numbers taken out again.
use mathlib.Core.Path.{◌≡◌, refl, sym, ap, ◌∙◌}
use mathlib.Core.List.{List, [], ◌∷◌, ◌++◌, append_assoc}
use Prim.Native.Nat.{ℕ, suc, ◌-◌, ◌<◌}
use native.Mathlib.Omega.{arith}
use lib.ListN.{length, set, take, replicate, length-append}
use lib.Seq.{take_at}
use Rattle.meaning.specs.Limits.{value_limit}
use Rattle.sweep.specs.Overs.{blank, padded}

set_after : (ns rest : List ℕ) (x y : ℕ) → set (ns ++ (x ∷ rest)) (length ns) y ≡ ns ++ (y ∷ rest)
set_after [] rest x y = refl
set_after (n ∷ ns) rest x y = ap (λ (l : List ℕ). n ∷ l) (set_after ns rest x y)

-- one number more at its place
pub padded-more : (ns : List ℕ) (n : ℕ) → length ns < value_limit → set (padded ns) (length ns) n ≡ padded (ns ++ (n ∷ []))
unfolding padded
padded-more ns n h =
    let zeros : value_limit - length ns ≡ suc (value_limit - suc (length ns)) = omega arith in
    let fewer : value_limit - suc (length ns) ≡ value_limit - length (ns ++ (n ∷ [])) = omega (arith, length-append ns (n ∷ [])) in
    ap (λ (m : ℕ). set (ns ++ replicate m 0) (length ns) n) zeros ∙ set_after ns (replicate (value_limit - suc (length ns)) 0) 0 n
    ∙ ap (λ (m : ℕ). ns ++ (n ∷ replicate m 0)) fewer ∙ sym (append_assoc ns (n ∷ []) (replicate (value_limit - length (ns ++ (n ∷ []))) 0))

-- no number at all
pub padded-none : padded [] ≡ blank
unfolding padded
padded-none = refl

-- the numbers themselves
pub padded-numbers : (ns : List ℕ) {count : ℕ} → length ns ≡ count → take count (padded ns) ≡ ns
unfolding padded
padded-numbers ns {count} e = take_at ns (replicate (value_limit - length ns) 0) count e
