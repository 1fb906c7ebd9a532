-- What the words and facts of a sheet's loops say where they are read by a loop's number among the loops.
use mathlib.Core.List.{◌++◌, List, [], map, ◌∷◌}
use mathlib.Core.Bool.{Bool, cond, not, false, true}
use mathlib.Core.Option.{Option, none, some}
use mathlib.Core.Path.{ap, refl, ◌∙◌, ◌≡◌}
use Prim.Native.Nat.{◌+◌, ◌<◌, suc, zero, ℕ}
use native.Mathlib.Omega.{arith}
use lib.ListN.{get_or-map, drop, get_or, length, length-append, length-map, take}
use lib.Dec.{eqb}
use lib.Seq.{get_or_at, split_at}
use lib.IntN.{pos}
use Rattle.meaning.specs.Limits.{index_factors}
use Rattle.layout.specs.declared.facts.Fact.{Fact}
use Rattle.layout.specs.Loops.{base_at, ceiling_at, choice_depth_at, difference_width, difference_words, enough_at, fact_in, fact_numbers, fact_width, loop_limit, push_word_at, rank_depth_at, stride_at, word_in, word_of}
use Rattle.layout.proofs.Reading.{word_number, differences-width, fact-number}
use Rattle.loops.specs.Facts.{LoopFacts, fact_of, facts_stored, loops_in, words_of, words_stored}
use Rattle.loops.specs.Known.{LoopsHeld}

pub loops-append-in : {A : Type 0} (xs ys : List (Option A)) → loops_in (xs ++ ys) ≡ loops_in xs ++ loops_in ys
unfolding loops_in
loops-append-in [] ys = refl
loops-append-in (none ∷ xs) ys = loops-append-in xs ys
loops-append-in (some x ∷ xs) ys = ap (λ l. x ∷ l) (loops-append-in xs ys)

-- the loop of a record among those of all records
pub loop-among : {A : Type 0} (fs : List (Option A)) (n : ℕ) (f : A) → n < length fs → get_or fs n none ≡ some f →
    loops_in fs ≡ loops_in (take n fs) ++ (f ∷ loops_in (drop (suc n) fs))
unfolding loops_in
loop-among fs n f there e =
    ap loops_in (split_at fs n none there ∙ ap (λ o. take n fs ++ (o ∷ drop (suc n) fs)) e) ∙ loops-append-in (take n fs) (some f ∷ drop (suc n) fs)

pub words-wide : (f : LoopFacts) → length (words_of f) ≡ difference_width
unfolding words_of
words-wide f = differences-width f.stride f.base f.pushes

module _ {differences facts : List ℕ} (xs : List LoopFacts) (f : LoopFacts) (ys : List LoopFacts) (held : LoopsHeld differences facts (xs ++ (f ∷ ys)))
    (below : length xs < loop_limit) where
  size : length (xs ++ (f ∷ ys)) ≡ length xs + suc (length ys)
  size = length-append xs (f ∷ ys)

  word-reads : (column : ℕ) → column < difference_width → word_in differences (length xs) column ≡ get_or (words_of f) column 0
  unfolding words_stored
  word-reads column c =
      ap (λ (l : List ℕ). word_in l (length xs) column) held.words_are
      ∙ word_number words_of words-wide held.words_before (xs ++ (f ∷ ys)) (length xs) column f (omega (arith, size)) below c
      ∙ ap (λ (g : LoopFacts). get_or (words_of g) column 0) (get_or_at xs f ys f (length xs) refl)

  fact-reads : (column : ℕ) → column < fact_width → fact_in facts (length xs) column ≡ get_or (fact_numbers (fact_of f)) column 0
  unfolding facts_stored
  fact-reads column c =
      ap (λ (l : List ℕ). fact_in l (length xs) column) held.facts_are
      ∙ fact-number held.facts_before (map fact_of (xs ++ (f ∷ ys))) (length xs) column (fact_of f) (omega (arith, size, length-map (xs ++ (f ∷ ys)) fact_of)) below c
      ∙ ap (λ (g : Fact). get_or (fact_numbers g) column 0) (get_or-map fact_of (xs ++ (f ∷ ys)) (length xs) f ∙ ap fact_of (get_or_at xs f ys f (length xs) refl))

  pub stride-reads : stride_at differences (length xs) ≡ f.stride
  unfolding words_of difference_words
  stride-reads = word-reads 0 (omega arith)

  pub base-reads : base_at differences (length xs) ≡ word_of f.base
  unfolding words_of difference_words
  base-reads = word-reads 1 (omega arith)

  pub push-reads : (m : ℕ) → m < index_factors → push_word_at differences (length xs) m ≡ word_of (get_or f.pushes m (pos zero))
  unfolding words_of difference_words
  push-reads zero h = word-reads 2 (omega arith)
  push-reads (suc zero) h = word-reads 3 (omega arith)
  push-reads (suc (suc zero)) h = word-reads 4 (omega arith)
  push-reads (suc (suc (suc m))) h = absurd (omega arith)

  pub ceiling-reads : ceiling_at facts (length xs) ≡ f.ceiling
  unfolding fact_numbers fact_of
  ceiling-reads = fact-reads 0 (omega arith)

  pub choice-reads : choice_depth_at facts (length xs) ≡ f.choice_depth
  unfolding fact_numbers fact_of
  choice-reads = fact-reads 1 (omega arith)

  pub rank-reads : rank_depth_at facts (length xs) ≡ f.rank_depth
  unfolding fact_numbers fact_of
  rank-reads = fact-reads 2 (omega arith)

  pub enough-reads : enough_at facts (length xs) ≡ f.enough
  unfolding fact_numbers fact_of
  enough-reads = ap (λ (n : ℕ). not (eqb n 0)) (fact-reads 3 (omega arith)) ∙ go f.enough
    where
      go : (b : Bool) → not (eqb (cond b 1 0) 0) ≡ b
      go true = refl
      go false = refl
