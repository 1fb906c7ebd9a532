-- Loops that differ only in whether their skip has a field: kind 2 and kind 6 can say the same loop, and what it means is the same.
use mathlib.Core.Path.{◌≡◌, refl, sym, ◌∙◌}
use mathlib.Core.List.{List, [], ◌∷◌}
use mathlib.Core.Bool.{Bool, true, false, cond, ◌&&◌}
use mathlib.Core.Option.{some}
use Prim.Native.Nat.{ℕ, zero, suc}
use lib.IntN.{ℤ, pos, neg_ℤ, nat_abs}
use lib.Signed.{lt_z}
use lib.Dec.{eqb}
use borrow.Author.Tests.{eqb-true}
use Rattle.meaning.specs.Record.{Loop, stride_size, counts_down, skip_or, skip_cycles}
use Rattle.whole.specs.Integer.{divides}
use Rattle.meaning.specs.Time.{difference_up, difference_down, difference, entry_cost}
use Rattle.meaning.specs.Closed.{push, stride_divides, asked_difference}
use Rattle.meaning.specs.Converter.{with_skip, without_skip}

-- loop m has the fields of loop l, and skips in as many cycles
pub record SameLoop (l m : Loop) : Type 0 where
  pub start : m.start ≡ l.start
  pub step : m.step ≡ l.step
  pub stride : m.stride ≡ l.stride
  pub lower : m.lower ≡ l.lower
  pub upper : m.upper ≡ l.upper
  pub skips : skip_cycles m ≡ skip_cycles l

pub with-skip-same : (l : Loop) → SameLoop l (with_skip l)
unfolding with_skip skip_cycles skip_or
with-skip-same l = record { start = refl; step = refl; stride = refl; lower = refl; upper = refl; skips = refl }

-- of kind 2 where that can say the loop; one whose skip differs from its start stays as it is
unfoldable pub without_start_skip : Loop → Loop
without_start_skip l = cond (eqb (skip_cycles l) l.start) (without_skip l) l

pub without-start-skip-same : (l : Loop) → SameLoop l (without_start_skip l)
unfolding without_start_skip
without-start-skip-same l = go (eqb (skip_cycles l) l.start) refl
  where
    without : skip_cycles (without_skip l) ≡ l.start
    without = unfold without_skip skip_cycles skip_or in refl

    go : (b : Bool) → eqb (skip_cycles l) l.start ≡ b → SameLoop l (cond b (without_skip l) l)
    go true e = unfold without_skip in record {
      start = refl;
      step = refl;
      stride = refl;
      lower = refl;
      upper = refl;
      skips = without ∙ sym (eqb-true (skip_cycles l) l.start e);
    }
    go false e = record { start = refl; step = refl; stride = refl; lower = refl; upper = refl; skips = refl }

-- given a field for their skip, the two are one
pub same-with-skip : {l m : Loop} → SameLoop l m → with_skip m ≡ with_skip l
unfolding with_skip
same-with-skip s = λ t. record { start = s.start t; step = s.step t; stride = s.stride t; lower = s.lower t; upper = s.upper t; skip = some (s.skips t) }

-- ---- what the two mean

module _ {l m : Loop} (s : SameLoop l m) where
  pub same-entry : (trips : ℕ) → entry_cost m trips ≡ entry_cost l trips
  unfolding entry_cost
  same-entry zero = s.skips
  same-entry (suc n) = s.start

  pub same_asked : asked_difference m ≡ asked_difference l
  unfolding asked_difference stride_size
  same_asked = λ t. cond (eqb (s.skips t) (s.start t)) (neg_ℤ (pos (nat_abs (s.stride t)))) (pos zero)

  pub same-divides : (pushes : List (List ℤ)) → stride_divides m pushes ≡ stride_divides l pushes
  unfolding stride_divides stride_size difference counts_down
  same-divides [] = refl
  same-divides (p ∷ others) = λ t. divides (nat_abs (s.stride t)) (push (cond (lt_z (s.stride t) (pos zero)) (difference_down (s.lower t) (s.upper t)) (difference_up (s.lower t) (s.upper t))) p)
      && same-divides others t
