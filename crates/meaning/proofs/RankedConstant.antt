-- A choice without loops is always settled: its arms' times are constants, of which one is the largest and one the smallest. So to keep the arms of
-- such choices too changes no decision, and the choices of a closed loop are always settled.
use mathlib.Core.Path.{◌≡◌, refl, sym, ap, ap₂, ◌∙◌, subst}
use mathlib.Core.List.{List, [], ◌∷◌, map}
use mathlib.Core.Logic.{◌⊎◌, inl, inr}
use mathlib.Core.Bool.{Bool, true, false, ◌||◌}
use Prim.Native.Nat.{ℕ, zero, ◌+◌, ◌≤◌}
use native.Mathlib.Decide.{dec_le}
use native.Mathlib.Omega.{arith}
use lib.IntN.{ℤ, pos}
use lib.Dec.{T}
use Rattle.whole.specs.Newton.{values}
use Rattle.whole.specs.Ranking.{dominated}
use Rattle.whole.proofs.Ranking.{dominated-exchanged}
use Rattle.whole.proofs.RankingConstant.{constant-dominates}
use Rattle.meaning.specs.Tree.{Block, Arms, last_arm, arm, loops, arms_loops}
use Rattle.meaning.specs.Time.{Bounds, exactly, ◌⊕◌, time}
use Rattle.meaning.specs.ClosedSum.{leasts, mosts, first_sums}
use Rattle.meaning.specs.Settled.{best_among, some_best, slower, faster, choice_settled, arms_sums}
use Rattle.meaning.proofs.Logic.{and_t}
use Rattle.meaning.proofs.ClosedLoops.{time-without-loops, figure-first_sums}
use Rattle.meaning.proofs.RankedArms.{first-extensional, arms_times}

or_left : (a b : Bool) → T a → T (a || b)
or_left true b t = tt
or_left false b t = absurd t

or_right : (a b : Bool) → T b → T (a || b)
or_right true b t = tt
or_right false b t = t

-- ---- numbers of which each stands for a list, and a test that agrees with a total order of the numbers

module _ (list_of : ℕ → List ℤ) (better : List ℤ → List ℤ → Bool) (Prefers : ℕ → ℕ → Type 0)
    (total : (x y : ℕ) → Prefers x y ⊎ Prefers y x) (chain : (x y z : ℕ) → Prefers x y → Prefers y z → Prefers x z)
    (agrees : (x y : ℕ) → Prefers x y → T (better (list_of x) (list_of y))) where
  same : (x : ℕ) → Prefers x x
  same x = go (total x x)
    where
      go : Prefers x x ⊎ Prefers x x → Prefers x x
      go (inl h) = h
      go (inr h) = h

  best-longer : (x y : ℕ) (ys : List ℕ) → Prefers x y → T (best_among better (list_of x) (map list_of ys)) → T (best_among better (list_of x) (map list_of (y ∷ ys)))
  unfolding best_among
  best-longer x y ys h t = and_t (better (list_of x) (list_of y)) (best_among better (list_of x) (map list_of ys)) (agrees x y h) t

  -- the best number of a list, among which it stands
  record Best (x : ℕ) (ys : List ℕ) : Type 0 where
    best : ℕ
    preferred : Prefers best x
    others : T (best_among better (list_of best) (map list_of ys))
    chosen : (qs : List (List ℤ)) → T (best_among better (list_of best) qs) → T (some_best better (map list_of (x ∷ ys)) qs)
    above : (z : ℕ) → Prefers z best → T (best_among better (list_of z) (map list_of (x ∷ ys)))

  find : (x : ℕ) (ys : List ℕ) → Best x ys
  unfolding best_among some_best
  find x [] = record {
    best = x;
    preferred = same x;
    others = tt;
    chosen = λ qs t. or_left (best_among better (list_of x) qs) false t;
    above = λ z h. and_t (better (list_of z) (list_of x)) true (agrees z x h) tt;
  }
  find x (y ∷ ys) = go (find y ys) (total x (find y ys).best)
    where
      go : (b : Best y ys) → Prefers x b.best ⊎ Prefers b.best x → Best x (y ∷ ys)
      go b (inl h) = record {
        best = x;
        preferred = same x;
        others = b.above x h;
        chosen = λ qs t. or_left (best_among better (list_of x) qs) (some_best better (map list_of (y ∷ ys)) qs) t;
        above = λ z i. and_t (better (list_of z) (list_of x)) (best_among better (list_of z) (map list_of (y ∷ ys))) (agrees z x i) (b.above z (chain z x b.best i h));
      }
      go b (inr h) = record {
        best = b.best;
        preferred = h;
        others = b.above b.best (same b.best);
        chosen = λ qs t. or_right (best_among better (list_of x) qs) (some_best better (map list_of (y ∷ ys)) qs) (b.chosen qs t);
        above = λ z i. and_t (better (list_of z) (list_of x)) (best_among better (list_of z) (map list_of (y ∷ ys))) (agrees z x (chain z b.best x i h)) (b.above z i);
      }

  some-best : (x : ℕ) (ys : List ℕ) → T (some_best better (map list_of (x ∷ ys)) (map list_of (x ∷ ys)))
  some-best x ys = let b = find x ys in b.chosen (map list_of (x ∷ ys)) (b.above b.best (same b.best))

-- ---- choices without loops

module _ (ps : List ℤ) where
  module _ (figure : Bounds → ℕ) (figure-⊕ : (a b : Bounds) → figure (a ⊕ b) ≡ figure a + figure b) (figure-exactly : (n : ℕ) → figure (exactly n) ≡ n)
      (count : ℕ) (indexes_at : ℕ → List ℤ) where
    -- an arm's figures are one number again and again
    arm-constant : (b : Block) → loops b ≡ zero →
        map (λ x. pos (figure x)) (first_sums count (λ trip. time ps b (indexes_at trip))) ≡ values count (λ k. pos (figure (time ps b [])))
    arm-constant b none =
        ap (map (λ x. pos (figure x))) (first-extensional count (λ trip. time ps b (indexes_at trip)) (λ trip. time ps b []) (λ trip. time-without-loops ps b (indexes_at trip) none))
        ∙ figure-first_sums ps figure figure-⊕ figure-exactly count (λ trip. time ps b [])

    arms-constant : (arms : Arms) → arms_loops arms ≡ zero →
        map (λ sums. map (λ x. pos (figure x)) sums) (arms_sums ps count indexes_at arms) ≡ map (λ n. values count (λ k. pos n)) (map figure (arms_times ps arms []))
    unfolding arms_sums arms_times loops
    arms-constant (last_arm b) none = ap (λ x. x ∷ []) (arm-constant b none)
    arms-constant (arm b arms) none = ap₂ ◌∷◌ (arm-constant b (omega arith)) (arms-constant arms (omega arith))

  -- one arm at least
  module _ (count : ℕ) (better : List ℤ → List ℤ → Bool) (Prefers : ℕ → ℕ → Type 0)
      (total : (x y : ℕ) → Prefers x y ⊎ Prefers y x) (chain : (x y z : ℕ) → Prefers x y → Prefers y z → Prefers x z)
      (agrees : (x y : ℕ) → Prefers x y → T (better (values count (λ k. pos x)) (values count (λ k. pos y)))) (figure : Bounds → ℕ) where
    arms-best : (arms : Arms) →
        T (some_best better (map (λ n. values count (λ k. pos n)) (map figure (arms_times ps arms []))) (map (λ n. values count (λ k. pos n)) (map figure (arms_times ps arms []))))
    unfolding arms_times
    arms-best (last_arm b) = some-best (λ n. values count (λ k. pos n)) better Prefers total chain agrees (figure (time ps b [])) []
    arms-best (arm b arms) = some-best (λ n. values count (λ k. pos n)) better Prefers total chain agrees (figure (time ps b [])) (map figure (arms_times ps arms []))

  order-total : (x y : ℕ) → (x ≤ y) ⊎ (y ≤ x)
  order-total x y = go (dec_le x y)
    where
      go : Dec (x ≤ y) → (x ≤ y) ⊎ (y ≤ x)
      go (yes h) = inl h
      go (no h) = inr (omega arith)

  constant-dominated : (count x y : ℕ) → x ≤ y → T (dominated (values count (λ k. pos x)) (values count (λ k. pos y)))
  constant-dominated count x y h =
      subst T (sym (dominated-exchanged (values count (λ k. pos x)) (values count (λ k. pos y)))) (constant-dominates count y x h)

  pub without-loops-settled : (count : ℕ) (indexes_at : ℕ → List ℤ) (arms : Arms) → arms_loops arms ≡ zero → T (choice_settled (arms_sums ps count indexes_at arms))
  unfolding choice_settled
  without-loops-settled count indexes_at arms none =
      let sums : List (List Bounds) = arms_sums ps count indexes_at arms in
      and_t (some_best slower (map mosts sums) (map mosts sums)) (some_best faster (map leasts sums) (map leasts sums))
      (subst (λ (x : List (List ℤ)). T (some_best slower x x)) (sym (arms-constant (λ b. b.most) (λ a b. refl) (λ n. refl) count indexes_at arms none))
      (arms-best count slower (λ x y. y ≤ x) (λ x y. order-total y x) (λ x y z h k. omega arith) (λ x y h. constant-dominates count x y h) (λ b. b.most) arms))
      (subst (λ (x : List (List ℤ)). T (some_best faster x x)) (sym (arms-constant (λ b. b.least) (λ a b. refl) (λ n. refl) count indexes_at arms none))
      (arms-best count faster (λ x y. x ≤ y) order-total (λ x y z h k. omega arith) (λ x y h. constant-dominated count x y h) (λ b. b.least) arms))
