-- What a skip comes to: the smallest D that closing asks, in document 02's words, and where entering a loop costs the same whatever its trips are.
use mathlib.Core.Path.{◌≡◌, refl, sym, ap, subst}
use mathlib.Core.Bool.{Bool, true, false, cond}
use Prim.Native.Nat.{ℕ, zero, suc}
use lib.IntN.{ℤ, pos, negsuc, neg_ℤ, suc_ℤ}
use lib.Signed.{le_z}
use lib.Dec.{T, eqb, eqb→eq, eqb_refl}
use Rattle.whole.specs.Integer.{at_least_zero, floor_divide}
use Rattle.whole.proofs.Order.{AtMost, AtMost-trans, le_z→AtMost, AtMost→le_z}
use Rattle.whole.proofs.Floor.{count-pos}
use Rattle.meaning.specs.Record.{Loop, stride_size, skip_cycles}
use Rattle.meaning.specs.Time.{entry_cost, trip_count}
use Rattle.meaning.specs.Closed.{asked_difference}

module _ (l : Loop) where
  below-zero : (stride : ℕ) → AtMost (neg_ℤ (pos stride)) (pos zero)
  below-zero zero = record { gap = zero; equation = refl }
  below-zero (suc n) = le_z→AtMost (negsuc n) (pos zero) tt

  -- by whether the skip is the start
  pub asked-same : eqb (skip_cycles l) l.start ≡ true → asked_difference l ≡ neg_ℤ (pos (stride_size l))
  unfolding asked_difference
  asked-same e = ap (λ (b : Bool). cond b (neg_ℤ (pos (stride_size l))) (pos zero)) e

  pub asked-other : eqb (skip_cycles l) l.start ≡ false → asked_difference l ≡ pos zero
  unfolding asked_difference
  asked-other e = ap (λ (b : Bool). cond b (neg_ℤ (pos (stride_size l))) (pos zero)) e

  -- closing asks no more than the two sentences say: "smallest D ≥ minus K's stride", and where skip and start differ 0 or more
  pub stride-asked : (d : ℤ) → T (le_z (neg_ℤ (pos (stride_size l))) d) → (¬ (skip_cycles l ≡ l.start) → T (le_z (pos zero) d)) → T (le_z (asked_difference l) d)
  unfolding asked_difference
  stride-asked d t skips = go (eqb (skip_cycles l) l.start) refl
    where
      go : (b : Bool) → eqb (skip_cycles l) l.start ≡ b → T (le_z (cond b (neg_ℤ (pos (stride_size l))) (pos zero)) d)
      go true e = t
      go false e = skips (λ same. subst T e (subst (λ (n : ℕ). T (eqb (skip_cycles l) n)) same (eqb_refl (skip_cycles l))))

  -- and no less
  pub asked-stride : (d : ℤ) → T (le_z (asked_difference l) d) → T (le_z (neg_ℤ (pos (stride_size l))) d)
  unfolding asked_difference
  asked-stride d t = go (eqb (skip_cycles l) l.start) t
    where
      go : (b : Bool) → T (le_z (cond b (neg_ℤ (pos (stride_size l))) (pos zero)) d) → T (le_z (neg_ℤ (pos (stride_size l))) d)
      go true h = h
      go false h = AtMost→le_z _ d (AtMost-trans (neg_ℤ (pos (stride_size l))) (pos zero) d (below-zero (stride_size l)) (le_z→AtMost (pos zero) d h))

  -- "Where skip and start differ .. only if the inner loop's smallest D is 0 or more"
  pub asked-skip : (d : ℤ) → T (le_z (asked_difference l) d) → ¬ (skip_cycles l ≡ l.start) → T (le_z (pos zero) d)
  unfolding asked_difference
  asked-skip d t differ = go (eqb (skip_cycles l) l.start) refl t
    where
      go : (b : Bool) → eqb (skip_cycles l) l.start ≡ b → T (le_z (cond b (neg_ℤ (pos (stride_size l))) (pos zero)) d) → T (le_z (pos zero) d)
      go true e h = absurd (differ (eqb→eq (skip_cycles l) l.start (subst T (sym e) tt)))
      go false e h = h

  -- where the skip is the start, entering costs the start
  pub entry-start : skip_cycles l ≡ l.start → (trips : ℕ) → entry_cost l trips ≡ l.start
  unfolding entry_cost
  entry-start same zero = same
  entry-start same (suc n) = refl

  -- as it does where D is as large as closing asks, since there is a trip then
  pub entry-asked : (d : ℤ) → T (le_z (asked_difference l) d) → entry_cost l (trip_count d (stride_size l)) ≡ l.start
  unfolding trip_count
  entry-asked d t = go (eqb (skip_cycles l) l.start) refl
    where
      with-trip : (z : ℤ) → T (le_z (pos zero) z) → entry_cost l (at_least_zero (suc_ℤ (floor_divide z (stride_size l)))) ≡ l.start
      with-trip (pos a) h = unfold entry_cost in ap (entry_cost l) (count-pos a (stride_size l))
      with-trip (negsuc a) h = absurd h

      go : (b : Bool) → eqb (skip_cycles l) l.start ≡ b → entry_cost l (at_least_zero (suc_ℤ (floor_divide d (stride_size l)))) ≡ l.start
      go true e = entry-start (eqb→eq (skip_cycles l) l.start (subst T (sym e) tt)) _
      go false e = with-trip d (asked-skip d t (λ same. subst T e (subst (λ (n : ℕ). T (eqb (skip_cycles l) n)) same (eqb_refl (skip_cycles l)))))
