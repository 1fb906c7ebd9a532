-- What a call that fills an answer area does, and when: 9, then the library call's refusal, then the answer; all other bytes stay.
use mathlib.Core.Path.{◌≡◌, refl, sym, ap, ◌∙◌}
use mathlib.Core.List.{List, ◌++◌}
use mathlib.Core.Bool.{Bool}
use mathlib.Core.Logic.{◌↔◌}
use Prim.Native.Nat.{ℕ, ◌≤◌, ◌<◌}
use native.Mathlib.Decide.{dec_le}
use native.Mathlib.Omega.{arith}
use lib.Dec.{leb}
use lib.ListN.{length, drop, length-append, length-drop}
use lib.Seq.{drop_at}
use borrow.Author.Tests.{le-leb, lt-leb}
use Rattle.meaning.specs.Reader.{Result, ok, refused, require}
use Rattle.meaning.specs.CCall.{fill_area, answer_into}
use Rattle.meaning.proofs.Logic.{refused-is-not-ok, ok-injective}
use Rattle.meaning.proofs.Vocabulary.{called}

module _ {A : Type 0} (size : ℕ) (bytes : A → List ℕ) (area : List ℕ) (r : Result A) where
  by_tests : {c : Bool} {s : Result A} → leb size (length area) ≡ c → r ≡ s → answer_into size bytes area r ≡ fill_area size bytes area (require c 9 0 s)
  unfolding answer_into
  by_tests e f = λ t. fill_area size bytes area (require (e t) 9 0 (f t))

  -- refusal 9
  pub short-area : length area < size → answer_into size bytes area r ≡ called 9 area
  unfolding require fill_area
  short-area h = by_tests (lt-leb size (length area) h) refl

  -- otherwise what the library call answers
  pub long-area : {s : Result A} → size ≤ length area → r ≡ s → answer_into size bytes area r ≡ fill_area size bytes area s
  unfolding require
  long-area h e = by_tests (le-leb size (length area) h) e

  pub data AreaOutcome : Type 0 where
    area_refused : length area < size → answer_into size bytes area r ≡ called 9 area → AreaOutcome
    answer_refused : (number place : ℕ) → size ≤ length area → r ≡ refused number place → answer_into size bytes area r ≡ called number area → AreaOutcome
    stored : (a : A) → size ≤ length area → r ≡ ok a → answer_into size bytes area r ≡ called 0 (bytes a ++ drop size area) → AreaOutcome

  pub area_outcome : AreaOutcome
  unfolding fill_area
  area_outcome = by_area (dec_le size (length area))
    where
      by_answer : size ≤ length area → (s : Result A) → r ≡ s → AreaOutcome
      by_answer h (ok a) e = stored a h e (long-area h e)
      by_answer h (refused number place) e = answer_refused number place h e (long-area h e)

      by_area : Dec (size ≤ length area) → AreaOutcome
      by_area (yes h) = by_answer h r refl
      by_area (no h) = let h' : length area < size = omega arith in area_refused h' (short-area h')

  -- it returns 0 exactly where there is an answer and the area is long enough, if no refusal has the number 0
  pub area-number-zero : ((number place : ℕ) → r ≡ refused number place → 1 ≤ number) →
      ((answer_into size bytes area r).number ≡ 0) ↔ ((size ≤ length area) × (a : A) × (r ≡ ok a))
  area-number-zero positive = (λ z. go z area_outcome, λ h. back h.0 h.1 h.2 area_outcome)
    where
      go : (answer_into size bytes area r).number ≡ 0 → AreaOutcome → (size ≤ length area) × (a : A) × (r ≡ ok a)
      go z (area_refused h e) = absurd (let n = ap (λ c. c.number) e in omega arith)
      go z (answer_refused number place h a e) = absurd (let n = ap (λ c. c.number) e in let i = positive number place a in omega arith)
      go z (stored a h e f) = (h, a, e)

      back : size ≤ length area → (a : A) → r ≡ ok a → AreaOutcome → (answer_into size bytes area r).number ≡ 0
      back h a e (area_refused h' f) = absurd (omega arith)
      back h a e (answer_refused number place h' e' f) = refused-is-not-ok (sym e' ∙ e)
      back h a e (stored a' h' e' f) = ap (λ c. c.number) f

  -- a refusal writes nothing
  pub area-refusal : ¬ ((answer_into size bytes area r).number ≡ 0) → (answer_into size bytes area r).area ≡ area
  area-refusal z = go area_outcome
    where
      go : AreaOutcome → (answer_into size bytes area r).area ≡ area
      go (area_refused h e) = ap (λ c. c.area) e
      go (answer_refused number place h a e) = ap (λ c. c.area) e
      go (stored a h e f) = absurd (z (ap (λ c. c.number) f))

  -- an answer stands at the area's start
  pub area-stored : (a : A) → (answer_into size bytes area r).number ≡ 0 → r ≡ ok a → (answer_into size bytes area r).area ≡ bytes a ++ drop size area
  area-stored a z e = go area_outcome
    where
      go : AreaOutcome → (answer_into size bytes area r).area ≡ bytes a ++ drop size area
      go (area_refused h f) = absurd (let n = ap (λ c. c.number) f in omega arith)
      go (answer_refused number place h e' f) = refused-is-not-ok (sym e' ∙ e)
      go (stored a' h e' f) = ap (λ c. c.area) f ∙ ap (λ (x : A). bytes x ++ drop size area) (ok-injective (sym e' ∙ e))

  -- where every answer takes `size` bytes, those past them never change, and the area keeps its length
  module _ (sized : (a : A) → length (bytes a) ≡ size) where
    pub area-tail : drop size (answer_into size bytes area r).area ≡ drop size area
    area-tail = go area_outcome
      where
        go : AreaOutcome → drop size (answer_into size bytes area r).area ≡ drop size area
        go (area_refused h e) = ap (λ c. drop size c.area) e
        go (answer_refused number place h a e) = ap (λ c. drop size c.area) e
        go (stored a h e f) = ap (λ c. drop size c.area) f ∙ drop_at (bytes a) (drop size area) size (sized a)

    pub area-length : length (answer_into size bytes area r).area ≡ length area
    area-length = go area_outcome
      where
        go : AreaOutcome → length (answer_into size bytes area r).area ≡ length area
        go (area_refused h e) = ap (λ c. length c.area) e
        go (answer_refused number place h a e) = ap (λ c. length c.area) e
        go (stored a h e f) =
            let n = ap (λ c. length c.area) f in
            omega (arith, length-append (bytes a) (drop size area), length-drop size area, sized a)
