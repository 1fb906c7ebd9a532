-- What the arrays of words and facts hold of a sheet's loops.
use Rattle.std.specs.Prelude.{◌≡◌, List, ℕ}
use Rattle.layout.specs.Numbers.{stored_in}
use Rattle.loops.specs.Facts.{LoopFacts, words_stored, facts_stored}

-- two arrays hold the words and the facts of these loops
pub record LoopsHeld (differences facts : List ℕ) (fs : List LoopFacts) : Type 0 where
  pub words_before : List ℕ
  pub words_are : differences ≡ stored_in words_before (words_stored fs)
  pub facts_before : List ℕ
  pub facts_are : facts ≡ stored_in facts_before (facts_stored fs)
