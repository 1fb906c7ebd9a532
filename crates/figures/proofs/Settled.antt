-- The library call's contract leaves one value: where the answer has figures, `Ok` of these figures.
use mathlib.Core.Path.{◌≡◌, sym, subst, ap, ◌∙◌}
use mathlib.Core.List.{List}
use mathlib.Core.Bool.{Bool, true, false}
use Prim.Native.Nat.{ℕ}
use lib.IntN.{ℤ}
use lib.Dec.{T}
use Rattle.meaning.specs.Reader.{Result, ok, refused}
use Rattle.meaning.specs.Answer as Meaning
use Rattle.meaning.specs.Answer.{figures}
use Rattle.std.specs.Prelude as prelude
use Rattle.std.specs.Prelude.{Ok, Err}
use Rattle.sheet.specs.declared.refusal.Refusal.{Refusal}
use Rattle.figures.specs.declared.Figures as Code
use Rattle.figures.specs.Answers.{answer_result}

-- whatever the library call returns by its contract is these figures
abbrev pub Returns : List ℕ → List ℤ → ℕ → ℕ → ℕ → ℕ → Type 0
Returns sheet parameters budget least most visits =
    (r : prelude.Result Code.Figures Refusal) → answer_result r ≡ Meaning.answer sheet parameters budget → r ≡ Ok (record { least = least; most = most; visits = visits })

answered : Result Meaning.Figures → Bool
answered (ok f) = true
answered (refused number place) = false

-- the figures of an answer, or others
figures_or : Meaning.Figures → Result Meaning.Figures → Meaning.Figures
figures_or g (ok f) = f
figures_or g (refused number place) = g

pub returns :
    (sheet : List ℕ) (parameters : List ℤ) (budget least most visits : ℕ)
    → Meaning.answer sheet parameters budget ≡ ok (figures least most visits) → Returns sheet parameters budget least most visits
unfolding answered figures_or
returns sheet parameters budget least most visits known (Ok f) h =
    let same = ap (figures_or (figures 0 0 0)) (h ∙ known) in
    λ i. Ok (record { least = (same i).least; most = (same i).most; visits = (same i).visits })
returns sheet parameters budget least most visits known (Err r) h = absurd (subst T (sym (ap answered (h ∙ known))) tt)
