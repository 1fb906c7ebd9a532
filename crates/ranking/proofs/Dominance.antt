-- The test of two series is that of the definition, for the most and, turned, for the least.
use Rattle.std.proofs.Common.{◌≡◌, ℕ, zero, suc, ◌^◌, ◌<◌, ◌≤◌, Bool, true, false, cond, ◌&&◌, ltb, leb, List, [], ◌∷◌, take, ℤ, pos, ◌-ℤ◌, refl, ap, arith}
use lib.Signed.{le_z}
use Rattle.whole.specs.Newton.{differences}
use Rattle.whole.specs.Ranking.{coefficients, newton_series, none_negative, dominates}
use Rattle.ranking.specs.declared.series.Series.{Series}
use Rattle.ranking.specs.Series.{rank, rank_known, value_limit, first_difference, second_difference, third_difference, word, series_of}
use Rattle.ranking.specs.Lead.{at_least, turned_series}
use Rattle.ranking.proofs.Signed.{small-value, small-first-difference, small-second-difference, small-third-difference, rank_below, rank-order, turned-order}

-- the values that count are small
pub record Small (count a b c d : ℕ) : Type 0 where
  pub first : 0 < count → a < value_limit
  pub second : 1 < count → b < value_limit
  pub third : 2 < count → c < value_limit
  pub fourth : 3 < count → d < value_limit

-- the words of two small coefficients compare as the coefficients do
value-order : {a e : ℕ} → a < value_limit → e < value_limit → leb (rank (pos e)) (rank (pos a)) ≡ le_z (pos zero) (pos a -ℤ pos e)
value-order {a} {e} ha he = rank-order (pos a) (pos e) (small-value ha) (small-value he)

first-difference-order : {a b e f : ℕ} → a < value_limit → b < value_limit → e < value_limit → f < value_limit →
    leb (rank (first_difference (pos e) (pos f))) (rank (first_difference (pos a) (pos b)))
    ≡ le_z (pos zero) (first_difference (pos a) (pos b) -ℤ first_difference (pos e) (pos f))
first-difference-order {a} {b} {e} {f} ha hb he hf =
    rank-order (first_difference (pos a) (pos b)) (first_difference (pos e) (pos f)) (small-first-difference ha hb) (small-first-difference he hf)

second-difference-order : {a b c e f g : ℕ} → a < value_limit → b < value_limit → c < value_limit → e < value_limit → f < value_limit → g < value_limit →
    leb (rank (second_difference (pos e) (pos f) (pos g))) (rank (second_difference (pos a) (pos b) (pos c)))
    ≡ le_z (pos zero) (second_difference (pos a) (pos b) (pos c) -ℤ second_difference (pos e) (pos f) (pos g))
second-difference-order {a} {b} {c} {e} {f} {g} ha hb hc he hf hg =
    rank-order (second_difference (pos a) (pos b) (pos c)) (second_difference (pos e) (pos f) (pos g)) (small-second-difference ha hb hc)
    (small-second-difference he hf hg)

third-difference-order : {a b c d e f g h : ℕ} → a < value_limit → b < value_limit → c < value_limit → d < value_limit → e < value_limit → f < value_limit →
    g < value_limit → h < value_limit →
    leb (rank (third_difference (pos e) (pos f) (pos g) (pos h))) (rank (third_difference (pos a) (pos b) (pos c) (pos d)))
    ≡ le_z (pos zero) (third_difference (pos a) (pos b) (pos c) (pos d) -ℤ third_difference (pos e) (pos f) (pos g) (pos h))
third-difference-order {a} {b} {c} {d} {e} {f} {g} {h} ha hb hc hd he hf hg hh =
    rank-order (third_difference (pos a) (pos b) (pos c) (pos d)) (third_difference (pos e) (pos f) (pos g) (pos h)) (small-third-difference ha hb hc hd)
    (small-third-difference he hf hg hh)

-- the first `count` of four values
abbrev pub first_of : ℕ → ℕ → ℕ → ℕ → ℕ → List ℤ
first_of count a b c d = take count (pos a ∷ pos b ∷ pos c ∷ pos d ∷ [])

pub series-dominate : (count a b c d e f g h : ℕ) → count ≤ 4 → Small count a b c d → Small count e f g h →
    at_least (series_of count a b c d) (series_of count e f g h) ≡ dominates (first_of count a b c d) (first_of count e f g h)
unfolding at_least series_of dominates newton_series coefficients differences none_negative
series-dominate zero a b c d e f g h few s t = refl
series-dominate (suc zero) a b c d e f g h few s t =
    let ha = s.first (omega arith) in let he = t.first (omega arith) in
    ap (λ x. x && true) (value-order ha he)
series-dominate (suc (suc zero)) a b c d e f g h few s t =
    let ha = s.first (omega arith) in let he = t.first (omega arith) in
    let hb = s.second (omega arith) in let hf = t.second (omega arith) in
    λ i. value-order ha he i && (first-difference-order ha hb he hf i && true)
series-dominate (suc (suc (suc zero))) a b c d e f g h few s t =
    let ha = s.first (omega arith) in let he = t.first (omega arith) in
    let hb = s.second (omega arith) in let hf = t.second (omega arith) in
    let hc = s.third (omega arith) in let hg = t.third (omega arith) in
    λ i. value-order ha he i && (first-difference-order ha hb he hf i && (second-difference-order ha hb hc he hf hg i && true))
series-dominate (suc (suc (suc (suc zero)))) a b c d e f g h few s t =
    let ha = s.first (omega arith) in let he = t.first (omega arith) in
    let hb = s.second (omega arith) in let hf = t.second (omega arith) in
    let hc = s.third (omega arith) in let hg = t.third (omega arith) in
    let hd = s.fourth (omega arith) in let hh = t.fourth (omega arith) in
    λ i. value-order ha he i
    && (first-difference-order ha hb he hf i
    && (second-difference-order ha hb hc he hf hg i && (third-difference-order ha hb hc hd he hf hg hh i && true)))
series-dominate (suc (suc (suc (suc (suc n))))) a b c d e f g h few s t = absurd (omega arith)

-- ---- turned

known-below : (order count : ℕ) (z : ℤ) → rank_known order count z < 2 ^ 64
known-below order count z = by-test (ltb order count)
  where
    by-test : (t : Bool) → cond t (rank z) 0 < 2 ^ 64
    by-test true = rank_below z
    by-test false = omega arith

-- a series of words
pub record Words (s : Series) : Type 0 where
  pub word0 : (word s 0) < 2 ^ 64
  pub word1 : (word s 1) < 2 ^ 64
  pub word2 : (word s 2) < 2 ^ 64
  pub word3 : (word s 3) < 2 ^ 64

pub series-words-below : (count a b c d : ℕ) → Words (series_of count a b c d)
unfolding series_of
series-words-below count a b c d = record {
  word0 = known-below 0 count (pos a);
  word1 = known-below 1 count (first_difference (pos a) (pos b));
  word2 = known-below 2 count (second_difference (pos a) (pos b) (pos c));
  word3 = known-below 3 count (third_difference (pos a) (pos b) (pos c) (pos d));
}

pub turned-at-least : (s t : Series) → Words s → Words t → at_least (turned_series s) (turned_series t) ≡ at_least t s
unfolding at_least turned_series
turned-at-least s t hs ht =
    let p0 = turned-order (word t 0) (word s 0) ht.word0 hs.word0 in
    let p1 = turned-order (word t 1) (word s 1) ht.word1 hs.word1 in
    let p2 = turned-order (word t 2) (word s 2) ht.word2 hs.word2 in
    let p3 = turned-order (word t 3) (word s 3) ht.word3 hs.word3 in
    λ i. p0 i && (p1 i && (p2 i && (p3 i && true)))
