-- The figures from a value on: that value's and those of the others, or the first refusal among them.
use mathlib.Core.Path.{◌≡◌, sym, ◌∙◌}
use mathlib.Core.List.{List, ◌∷◌}
use Prim.Native.Nat.{ℕ, suc}
use lib.IntN.{ℤ}
use Rattle.meaning.specs.Record.{Record}
use Rattle.meaning.specs.Reader.{Result, ok, refused, and_then}
use Rattle.meaning.specs.Tree.{tree}
use Rattle.meaning.specs.Answer.{Figures, accepted, figures_of}
use Rattle.meaning.proofs.Logic.{ok-injective, and_then-ok, and_then-yes, and_then-no}
use Rattle.ranges.specs.ParameterRange.{ParameterRange, parameters_at}
use Rattle.ranges.specs.FiguresOver.{figures_from}

module _ (sheet : List ℕ) (ps : List ℤ) (range : ParameterRange) where
  abbrev with_first : ℕ → List Record → List Figures → Result (List Figures)
  with_first k rs fs = ok (figures_of (parameters_at range ps k) (tree rs) ∷ fs)

  abbrev and_others : ℕ → ℕ → List Record → Result (List Figures)
  and_others count k rs = and_then (figures_from sheet ps range count (suc k)) (with_first k rs)

  -- of figures: one value, and the others
  pub record FirstFigured (count k : ℕ) (fs : List Figures) : Type 0 where
    pub rs : List Record
    pub others : List Figures
    pub accepted_as : accepted sheet (parameters_at range ps k) ≡ ok rs
    pub others_are : figures_from sheet ps range count (suc k) ≡ ok others
    pub same : fs ≡ figures_of (parameters_at range ps k) (tree rs) ∷ others

  pub first-figured : (count k : ℕ) (fs : List Figures) → figures_from sheet ps range (suc count) k ≡ ok fs → FirstFigured count k fs
  unfolding figures_from
  first-figured count k fs e =
      let a = and_then-ok (accepted sheet (parameters_at range ps k)) (and_others count k) fs e in
      let b = and_then-ok (figures_from sheet ps range count (suc k)) (with_first k a.0) fs a.2 in
      record { rs = a.0; others = b.0; accepted_as = a.1; others_are = b.1; same = sym (ok-injective b.2) }

  -- where the value is accepted
  module _ (count k : ℕ) {rs : List Record} (a : accepted sheet (parameters_at range ps k) ≡ ok rs) where
    pub with-first : {fs : List Figures} → figures_from sheet ps range count (suc k) ≡ ok fs →
        figures_from sheet ps range (suc count) k ≡ ok (figures_of (parameters_at range ps k) (tree rs) ∷ fs)
    unfolding figures_from
    with-first e = and_then-yes (and_others count k) a ∙ and_then-yes (with_first k rs) e

    pub others-refused : {number place : ℕ} → figures_from sheet ps range count (suc k) ≡ refused number place →
        figures_from sheet ps range (suc count) k ≡ refused number place
    unfolding figures_from
    others-refused e = and_then-yes (and_others count k) a ∙ and_then-no (with_first k rs) e

  -- where it is refused
  pub first-refused : (count k : ℕ) {number place : ℕ} → accepted sheet (parameters_at range ps k) ≡ refused number place →
      figures_from sheet ps range (suc count) k ≡ refused number place
  unfolding figures_from
  first-refused count k a = and_then-no (and_others count k) a
