-- The search for a reason over the numbers of a plan: what is left of it settles the whole, until a test fails.
use mathlib.Core.Bool.{Bool, cond, false, not, true, ◌&&◌}
use mathlib.Core.List.{List, [], ◌∷◌, ◌++◌}
use mathlib.Core.Option.{Option, none, some}
use mathlib.Core.Path.{ap, ap₂, refl, sym, ◌∙◌, ◌≡◌}
use Prim.Native.Nat.{◌%◌, ◌+◌, ◌-◌, ◌<◌, zero, suc, ℕ, ◌≤◌, min}
use native.Mathlib.Numerals.{add-one}
use native.Mathlib.Omega.{arith}
use borrow.Author.Tests.{eq-eqb, ne_eqb}
use lib.Dec.{eqb}
use Rattle.meaning.proofs.Logic.{none-is-not-some, true-is-not-false}
use Rattle.std.specs.Prelude as Std
use Rattle.std.specs.Prelude.{Some, None, MatchOption, IsSomeAnd}
use Rattle.reasons.specs.View.{found_in}
use Rattle.reasons.specs.declared.Reason as Code
use Rattle.reasons.specs.declared.Reason.TheVariants as code
use Rattle.std.specs.List.{find, range_with_len}
use Rattle.std.specs.Option.{option_map}
use Rattle.meaning.specs.Limits.{index_factors, record_limit}
use Rattle.meaning.specs.Reason.{Reason, Test, first_failing, holds_loop, too_few_trips, uneven_in}
use Rattle.layout.specs.Rows.{choice_role, depth_at, end_at, loop_at, loop_role, offset_at, role_at, role_number}
use Rattle.layout.specs.Loops.{enough_at}
use Rattle.planner.specs.Closing.{uneven_at}
use Rattle.planner.specs.Reasons.{choice_tests_at, choice_tests_inside, holds_loop_at, loop_around, loop_tests_at, loop_tests_inside, reason_at, tests_from, uneven_test_at}

-- ---- tests that follow one another

pub first_passes : (ts us : List Test) → first_failing ts ≡ none → first_failing (ts ++ us) ≡ first_failing us
unfolding first_failing
first_passes [] us e = refl
first_passes (t ∷ ts) us e = go t.fails e (first_passes ts us)
  where
    go : (c : Bool) → cond c (some t.reason) (first_failing ts) ≡ none → (first_failing ts ≡ none → first_failing (ts ++ us) ≡ first_failing us) →
        cond c (some t.reason) (first_failing (ts ++ us)) ≡ first_failing us
    go true e later = none-is-not-some (sym e)
    go false e later = later e

pub first_stops : (ts us : List Test) {r : Reason} → first_failing ts ≡ some r → first_failing (ts ++ us) ≡ some r
unfolding first_failing
first_stops [] us e = none-is-not-some e
first_stops (t ∷ ts) us {r} e = go t.fails e (first_stops ts us)
  where
    go : (c : Bool) → cond c (some t.reason) (first_failing ts) ≡ some r → (first_failing ts ≡ some r → first_failing (ts ++ us) ≡ some r) →
        cond c (some t.reason) (first_failing (ts ++ us)) ≡ some r
    go true e later = e
    go false e later = later e

-- ---- a search over numbers

-- the tests of the numbers from i up to the end settle what is found
pub record Searching (tests : ℕ → List Test) (whole : Option Reason) (end i : ℕ) : Type 0 where
  pub rest : whole ≡ first_failing (tests_from tests i (end - i))

-- from the record after the number n on, where the tests are those at this depth
pub search-start-at : (tests : ℕ → ℕ → List Test) (n depth : ℕ) {level end last : ℕ} → depth ≡ level → end ≡ last →
    Searching (tests depth) (first_failing (tests_from (tests level) (suc n) (last - suc n))) end (n + 1)
search-start-at tests n depth d e = record {
  rest = (λ t. first_failing (tests_from (tests (sym d t)) (sym (add-one n) t) (sym e t - sym (add-one n) t)));
}

module _ {tests : ℕ → List Test} {whole : Option Reason} {end i : ℕ} (s : Searching tests whole end i) where
  pub search-done : end ≤ i → none ≡ whole
  unfolding tests_from first_failing
  search-done h = sym (s.rest ∙ ap (λ (n : ℕ). first_failing (tests_from tests i n)) (let e : end - i ≡ 0 = omega arith in e))

  module _ (more : i < end) where
    next : whole ≡ first_failing (tests i ++ tests_from tests (suc i) (end - suc i))
    unfolding tests_from
    next = s.rest ∙ ap (λ (n : ℕ). first_failing (tests_from tests i n)) (let e : end - i ≡ suc (end - suc i) = omega arith in e)

    pub search-found : {r : Reason} → first_failing (tests i) ≡ some r → some r ≡ whole
    search-found e = sym (next ∙ first_stops (tests i) (tests_from tests (suc i) (end - suc i)) e)

    pub search-next : first_failing (tests i) ≡ none → Searching tests whole end (i + 1)
    search-next e = record {
      rest =
          next ∙ first_passes (tests i) (tests_from tests (suc i) (end - suc i)) e
          ∙ ap (λ (n : ℕ). first_failing (tests_from tests n (end - n))) (sym (add-one i));
    }

-- ---- one test

one-fails : (r : Reason) (fails : Bool) → fails ≡ true → first_failing (record { reason = r; fails = fails } ∷ []) ≡ some r
unfolding first_failing
one-fails r fails e = ap (λ (c : Bool). cond c (some r) none) e

one_passes : (r : Reason) (fails : Bool) → fails ≡ false → first_failing (record { reason = r; fails = fails } ∷ []) ≡ none
unfolding first_failing
one_passes r fails e = ap (λ (c : Bool). cond c (some r) none) e

-- ---- choices

module _ (rows : List ℕ) (i : ℕ) {holds : Bool} (holds_is : holds ≡ eqb (role_at rows i) (role_number choice_role) && holds_loop_at rows i) where
  pub choice-passes : holds ≡ false → first_failing (choice_tests_at rows i) ≡ none
  unfolding choice_tests_at first_failing
  choice-passes e = go (eqb (role_at rows i) (role_number choice_role)) (holds_loop_at rows i) (sym holds_is ∙ e)
    where
      go : (a b : Bool) → a && b ≡ false → first_failing (cond a (record { reason = holds_loop (offset_at rows i); fails = b } ∷ []) []) ≡ none
      go true b f = one_passes (holds_loop (offset_at rows i)) b f
      go false b f = refl

  pub choice-fails : holds ≡ true → {place : ℕ} → place ≡ offset_at rows i → first_failing (choice_tests_at rows i) ≡ some (holds_loop place)
  unfolding choice_tests_at first_failing
  choice-fails e {place} p = go (eqb (role_at rows i) (role_number choice_role)) (holds_loop_at rows i) (sym holds_is ∙ e)
    where
      go : (a b : Bool) → a && b ≡ true → first_failing (cond a (record { reason = holds_loop (offset_at rows i); fails = b } ∷ []) []) ≡ some (holds_loop place)
      go true b f = one-fails (holds_loop (offset_at rows i)) b f ∙ ap (λ (n : ℕ). some (holds_loop n)) (sym p)
      go false b f = true-is-not-false (sym f)

-- the reason of the choice that the search finds
pub choice_found : List ℕ → Std.Option ℕ → Option Reason
choice_found rows None = none
choice_found rows (Some i) = some (holds_loop (offset_at rows i))

abbrev pub holds : List ℕ → ℕ → Bool
holds rows i = eqb (role_at rows i) (role_number choice_role) && holds_loop_at rows i

choices-from : (rows : List ℕ) (n i : ℕ) → choice_found rows (find (holds rows) (range_with_len i n)) ≡ first_failing (tests_from (choice_tests_at rows) i n)
unfolding tests_from first_failing choice_found
choices-from rows zero i = refl
choices-from rows (suc n) i = go (holds rows i) refl (choices-from rows n (i + 1))
  where
    rest : List Test
    rest = tests_from (choice_tests_at rows) (suc i) n

    found : Bool → Option Reason
    found c = choice_found rows (cond c (Some i) (find (holds rows) (range_with_len (i + 1) n)))

    go : (c : Bool) → holds rows i ≡ c →
        choice_found rows (find (holds rows) (range_with_len (i + 1) n)) ≡ first_failing (tests_from (choice_tests_at rows) (i + 1) n) →
        found (holds rows i) ≡ first_failing (choice_tests_at rows i ++ rest)
    go true e later = ap found e ∙ sym (first_stops (choice_tests_at rows i) rest (choice-fails rows i refl e refl))
    go false e later =
        ap found e ∙ later ∙ ap (λ (k : ℕ). first_failing (tests_from (choice_tests_at rows) k n)) (add-one i)
        ∙ sym (first_passes (choice_tests_at rows i) rest (choice-passes rows i refl e))

pub choices-inside : (rows : List ℕ) (number : ℕ) {end : ℕ} → end ≡ end_at rows number →
    choice_found rows (find (holds rows) (range_with_len (number + 1) (end - (number + 1)))) ≡ first_failing (choice_tests_inside rows number)
unfolding choice_tests_inside
choices-inside rows number {end} e =
    choices-from rows (end - (number + 1)) (number + 1)
    ∙ (λ t. first_failing (tests_from (choice_tests_at rows) (add-one number t) (e t - add-one number t)))

pub choice-read : (rows : List ℕ) (found : Std.Option ℕ) (answer : Std.Option Code.Reason) {Gives : ℕ → Code.Reason → Type 0} →
    MatchOption found (answer ≡ None) (λ i. IsSomeAnd answer (Gives i)) → ((i : ℕ) (r : Code.Reason) → Gives i r → r ≡ code.HoldsLoop (offset_at rows i)) →
    found_in answer ≡ choice_found rows found
unfolding choice_found
choice-read rows None answer h gives = ap found_in h
choice-read rows (Some i) None h gives = absurd h
choice-read rows (Some i) (Some r) h gives = ap (λ (q : Code.Reason). found_in (Some q)) (gives i r h)

pub found_as : (found : Std.Option ℕ) → found ≡ option_map (λ i. i) found
found_as None = refl
found_as (Some i) = refl

-- ---- the loop around a record

module _ (rows : List ℕ) (m i : ℕ) {is : Bool} (is_is : is ≡ eqb (role_at rows i) (role_number loop_role) && eqb (depth_at rows i) m) where
  around-step : loop_around rows m (i + 1) ≡ cond is i (loop_around rows m i)
  unfolding loop_around
  around-step = ap (loop_around rows m) (add-one i) ∙ ap (λ (c : Bool). cond c i (loop_around rows m i)) (sym is_is)

  pub around-found : is ≡ true → i ≡ loop_around rows m (i + 1)
  around-found e = sym (around-step ∙ ap (λ (c : Bool). cond c i (loop_around rows m i)) e)

  pub around-next : is ≡ false → loop_around rows m i ≡ loop_around rows m (i + 1)
  around-next e = sym (around-step ∙ ap (λ (c : Bool). cond c i (loop_around rows m i)) e)

-- ---- loops

module _ (rows differences : List ℕ) (k m : ℕ) {of_k : ℕ} (of_k_is : of_k ≡ loop_at rows k) {uneven : Bool} (uneven_is : uneven ≡ uneven_at differences of_k m) where
  same-uneven : uneven ≡ uneven_at differences (loop_at rows k) m
  same-uneven = uneven_is ∙ ap (λ (j : ℕ). uneven_at differences j m) of_k_is

  pub even-passes : uneven ≡ false → first_failing (uneven_test_at rows differences k m) ≡ none
  unfolding uneven_test_at
  even-passes e = one_passes (uneven_in (offset_at rows k) (offset_at rows (loop_around rows m k))) (uneven_at differences (loop_at rows k) m) (sym same-uneven ∙ e)

  pub uneven-fails : uneven ≡ true → {inner outer place : ℕ} → inner ≡ offset_at rows k → outer ≡ loop_around rows m k → place ≡ offset_at rows outer →
      first_failing (uneven_test_at rows differences k m) ≡ some (uneven_in inner place)
  unfolding uneven_test_at
  uneven-fails e {inner} {outer} {place} i o p =
      one-fails (uneven_in (offset_at rows k) (offset_at rows (loop_around rows m k))) (uneven_at differences (loop_at rows k) m) (sym same-uneven ∙ e)
      ∙ ap₂ (λ (a b : ℕ). some (uneven_in a b)) (sym i) (sym (p ∙ ap (offset_at rows) o))

module _ (rows differences facts : List ℕ) (depth k : ℕ) where
  pub other-passes : (role_at rows k ≡ 1 → ⊥) → first_failing (loop_tests_at rows differences facts depth k) ≡ none
  unfolding loop_tests_at role_number first_failing
  other-passes n = rw (ne_eqb (role_at rows k) 1 n)

  module _ (one : role_at rows k ≡ 1) {of_k : ℕ} (of_k_is : of_k ≡ loop_at rows k) {enough : Bool} (enough_is : enough ≡ enough_at facts of_k) where
    first : first_failing (loop_tests_at rows differences facts depth k)
        ≡ cond (not enough) (some (too_few_trips (offset_at rows k))) (first_failing (tests_from (uneven_test_at rows differences k) depth (min (depth_at rows k) index_factors - depth)))
    unfolding loop_tests_at role_number first_failing
    first = rw (eq-eqb (role_at rows k) 1 one, enough_is, of_k_is) refl

    pub few-fails : enough ≡ false → {place : ℕ} → place ≡ offset_at rows k → first_failing (loop_tests_at rows differences facts depth k) ≡ some (too_few_trips place)
    few-fails e p = first ∙ rw e (ap (λ (n : ℕ). some (too_few_trips n)) (sym p))

    -- where it makes enough trips, the loops around it are left
    pub left-around : enough ≡ true → {last : ℕ} → last ≡ min (depth_at rows k) index_factors →
        first_failing (loop_tests_at rows differences facts depth k) ≡ first_failing (tests_from (uneven_test_at rows differences k) depth (last - depth))
    left-around e l = first ∙ rw e (ap (λ (n : ℕ). first_failing (tests_from (uneven_test_at rows differences k) depth (n - depth))) (sym l))

-- ---- choices before loops

module _ (rows differences facts : List ℕ) (number : ℕ) where
  pub reason-choice : {r : Reason} → some r ≡ first_failing (choice_tests_inside rows (number % record_limit)) → some r ≡ reason_at rows differences facts number
  unfolding reason_at
  reason-choice e = sym (first_stops (choice_tests_inside rows (number % record_limit)) (loop_tests_inside rows differences facts (number % record_limit)) (sym e))

  pub reason-loop : none ≡ first_failing (choice_tests_inside rows (number % record_limit)) → {found : Option Reason} →
      found ≡ first_failing (loop_tests_inside rows differences facts (number % record_limit)) → found ≡ reason_at rows differences facts number
  unfolding reason_at
  reason-loop e f = f ∙ sym (first_passes (choice_tests_inside rows (number % record_limit)) (loop_tests_inside rows differences facts (number % record_limit)) (sym e))

  pub reason-read : (first answer : Std.Option Code.Reason) → found_in first ≡ first_failing (choice_tests_inside rows (number % record_limit)) → {Gives : Type 0} →
      MatchOption first Gives (λ r. answer ≡ Some r) → (Gives → found_in answer ≡ first_failing (loop_tests_inside rows differences facts (number % record_limit))) →
      found_in answer ≡ reason_at rows differences facts number
  reason-read None answer e h gives = reason-loop e (gives h)
  reason-read (Some r) answer e h gives = ap found_in h ∙ reason-choice e
