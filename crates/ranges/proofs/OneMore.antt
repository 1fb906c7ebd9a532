-- The figures from the first value on, with one value more: its figures follow, or its refusal is that of every longer range.
use mathlib.Core.Path.{◌≡◌, refl, sym, ap, ◌∙◌}
use mathlib.Core.List.{List, [], ◌∷◌, ◌++◌}
use Prim.Native.Nat.{ℕ, zero, suc, ◌+◌}
use native.Mathlib.Omega.{arith}
use lib.IntN.{ℤ}
use lib.ListN.{length}
use Rattle.meaning.specs.Record.{Record}
use Rattle.meaning.specs.Reader.{Result, ok, refused}
use Rattle.meaning.specs.Tree.{tree}
use Rattle.meaning.specs.Answer.{Figures, accepted, figures_of}
use Rattle.meaning.proofs.Logic.{ok-injective}
use Rattle.ranges.specs.ParameterRange.{ParameterRange, parameters_at}
use Rattle.ranges.specs.FiguresOver.{total_visits, figures_from}
use Rattle.ranges.proofs.FirstValue.{first-figured, with-first, others-refused, first-refused}

pub visits-more : (fs : List Figures) (f : Figures) → total_visits (fs ++ (f ∷ [])) ≡ total_visits fs + f.visits
unfolding total_visits
visits-more [] f = omega arith
visits-more (g ∷ fs) f = let i = visits-more fs f in omega arith

module _ (sheet : List ℕ) (ps : List ℤ) (range : ParameterRange) where
  abbrev at : ℕ → List ℤ
  at k = parameters_at range ps k

  abbrev with_last : List Figures → ℕ → List Record → Result (List Figures)
  with_last fs n rs = ok (fs ++ (figures_of (at n) (tree rs) ∷ []))

  -- where the values before have figures and the next one is accepted
  pub one-value-more : (count k : ℕ) (fs : List Figures) (rs : List Record) → figures_from sheet ps range count k ≡ ok fs → accepted sheet (at (count + k)) ≡ ok rs →
      figures_from sheet ps range (suc count) k ≡ ok (fs ++ (figures_of (at (count + k)) (tree rs) ∷ []))
  unfolding figures_from
  one-value-more zero k fs rs e a =
      let plain : zero + k ≡ k = omega arith in
      with-first sheet ps range zero k (ap (λ n. accepted sheet (at n)) (sym plain) ∙ a) refl
      ∙ (λ t. with_last (ok-injective e t) (sym plain t) rs)
  one-value-more (suc count) k fs rs e a =
      let first = first-figured sheet ps range count k fs e in
      let moved : count + suc k ≡ suc count + k = omega arith in
      let later = one-value-more count (suc k) first.others rs first.others_are (ap (λ n. accepted sheet (at n)) moved ∙ a) in
      with-first sheet ps range (suc count) k first.accepted_as later ∙ (λ t. with_last (sym first.same t) (moved t) rs)

  -- where the next one is refused, so is every longer range
  pub one-value-refused : (count k more number place : ℕ) (fs : List Figures) → figures_from sheet ps range count k ≡ ok fs →
      accepted sheet (at (count + k)) ≡ refused number place → figures_from sheet ps range (count + suc more) k ≡ refused number place
  one-value-refused zero k more number place fs e a =
      let plain : zero + k ≡ k = omega arith in
      let size : zero + suc more ≡ suc more = omega arith in
      ap (λ n. figures_from sheet ps range n k) size ∙ first-refused sheet ps range more k (ap (λ n. accepted sheet (at n)) (sym plain) ∙ a)
  one-value-refused (suc count) k more number place fs e a =
      let first = first-figured sheet ps range count k fs e in
      let moved : count + suc k ≡ suc count + k = omega arith in
      let size : suc count + suc more ≡ suc (count + suc more) = omega arith in
      let later = one-value-refused count (suc k) more number place first.others first.others_are (ap (λ n. accepted sheet (at n)) moved ∙ a) in
      ap (λ n. figures_from sheet ps range n k) size ∙ others-refused sheet ps range (count + suc more) k first.accepted_as later

  -- there are as many figures as values
  pub figures-counted : (count k : ℕ) (fs : List Figures) → figures_from sheet ps range count k ≡ ok fs → length fs ≡ count
  unfolding figures_from
  figures-counted zero k fs e = ap (λ (xs : List Figures). length xs) (sym (ok-injective e))
  figures-counted (suc count) k fs e =
      let first = first-figured sheet ps range count k fs e in
      ap (λ (xs : List Figures). length xs) first.same ∙ ap suc (figures-counted count (suc k) first.others first.others_are)
