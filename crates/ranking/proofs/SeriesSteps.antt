-- The words of a series are those of the differences of its values.
use Rattle.std.proofs.Common.{◌≡◌, ℕ, List, get_or, ◌+◌, ◌%◌, ◌^◌, cond, ltb, ℤ, ap, ◌∙◌, arith, [], ◌∷◌}
use Rattle.whole.specs.Residue.{Congruent}
use Rattle.whole.proofs.Residue.{congruent-pos, congruent-add, congruent-mod, congruent-unique, congruent-floor_remainder}
use Rattle.newton.specs.Weights.{word_of, differences_of}
use Rattle.ranking.specs.declared.series.Series.{Series}
use Rattle.ranking.specs.Series.{rank, rank_known, series_of}

-- ---- the series' words

rank-word : {w : ℕ} {z : ℤ} → Congruent (2 ^ 64) w z → (w + 2 ^ 63) % 2 ^ 64 ≡ rank z
unfolding rank
rank-word {w} {z} h = congruent-unique (2 ^ 64) (omega arith) (congruent-mod (2 ^ 64) (congruent-add (2 ^ 64) h (congruent-pos (2 ^ 64) (2 ^ 63))))

rank-known : (order count : ℕ) (z : ℤ) {r w : ℕ} → w ≡ word_of z → r ≡ cond (ltb order count) ((w + 2 ^ 63) % 2 ^ 64) 0 → r ≡ rank_known order count z
rank-known order count z k e =
    e
    ∙ ap (λ (n : ℕ). cond (ltb order count) ((n + 2 ^ 63) % 2 ^ 64) 0) k
    ∙ ap (λ (n : ℕ). cond (ltb order count) n 0) (rank-word (congruent-floor_remainder (2 ^ 64) (omega arith) z))

-- of the differences of the values
module _ (count : ℕ) (p : List ℕ) {words : List ℕ} (d : words ≡ differences_of p) where
  at-order : (order : ℕ) → get_or words order 0 ≡ get_or (differences_of p) order 0
  at-order order = ap (λ ns. get_or ns order 0) d

  pub series-words : {word0 word1 word2 word3 : ℕ} →
      word0 ≡ cond (ltb 0 count) ((get_or words 0 0 + 2 ^ 63) % 2 ^ 64) 0 → word1 ≡ cond (ltb 1 count) ((get_or words 1 0 + 2 ^ 63) % 2 ^ 64) 0 →
      word2 ≡ cond (ltb 2 count) ((get_or words 2 0 + 2 ^ 63) % 2 ^ 64) 0 → word3 ≡ cond (ltb 3 count) ((get_or words 3 0 + 2 ^ 63) % 2 ^ 64) 0 →
      ◌≡◌ {A = Series} (record { words = word0 ∷ word1 ∷ word2 ∷ word3 ∷ [] }) (series_of count (get_or p 0 0) (get_or p 1 0) (get_or p 2 0) (get_or p 3 0))
  unfolding series_of differences_of
  series-words is_word0 is_word1 is_word2 is_word3 =
      let p0 = rank-known 0 count _ (at-order 0) is_word0 in
      let p1 = rank-known 1 count _ (at-order 1) is_word1 in
      let p2 = rank-known 2 count _ (at-order 2) is_word2 in
      let p3 = rank-known 3 count _ (at-order 3) is_word3 in
      λ i. record { words = p0 i ∷ p1 i ∷ p2 i ∷ p3 i ∷ [] }
