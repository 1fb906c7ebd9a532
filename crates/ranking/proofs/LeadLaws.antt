-- The comparison arm after arm decides whether one arm is at least each: the law of `meaning` over any order, for series.
use Rattle.std.proofs.Common.{◌≡◌, ℕ, zero, suc, ◌≤◌, max, Bool, true, ◌&&◌, T, leb, List, [], ◌∷◌, get_or, ℤ, pos, refl, ap, ◌∙◌, arith, le→leb, leb→le}
use Rattle.whole.specs.Integer.{at_least_zero}
use Rattle.meaning.specs.Settled.{some_best}
use Rattle.meaning.proofs.Logic.{T_and, and_t, same_truth}
use Rattle.meaning.proofs.RankedLead as Meaning
use Rattle.ranking.specs.declared.series.Series.{Series}
use Rattle.ranking.specs.declared.lead.Lead.{Lead}
use Rattle.ranking.specs.Series.{word as series_word}
use Rattle.ranking.specs.Lead.{at_least, joined_series, first_lead, next_lead, lead_over}

-- ---- the order of lists that the law asks for: of their first four elements

abbrev word : ℕ → List ℤ → ℕ
word k x = at_least_zero (get_or x k (pos zero))

pub record Above (x y : List ℤ) : Type 0 where
  above0 : word 0 y ≤ word 0 x
  above1 : word 1 y ≤ word 1 x
  above2 : word 2 y ≤ word 2 x
  above3 : word 3 y ≤ word 3 x

unfoldable pub better : List ℤ → List ℤ → Bool
better x y = leb (word 0 y) (word 0 x) && (leb (word 1 y) (word 1 x) && (leb (word 2 y) (word 2 x) && (leb (word 3 y) (word 3 x) && true)))

unfoldable pub join : List ℤ → List ℤ → List ℤ
join x y = pos (max (word 0 x) (word 0 y)) ∷ pos (max (word 1 x) (word 1 y)) ∷ pos (max (word 2 x) (word 2 y)) ∷ pos (max (word 3 x) (word 3 y)) ∷ []

above_same : (x : List ℤ) → Above x x
above_same x = record { above0 = omega arith; above1 = omega arith; above2 = omega arith; above3 = omega arith }

above-chain : (x y z : List ℤ) → Above x y → Above y z → Above x z
above-chain x y z h k = record { above0 = omega arith; above1 = omega arith; above2 = omega arith; above3 = omega arith }

join_first : (x y : List ℤ) → Above (join x y) x
unfolding join
join_first x y = record { above0 = omega arith; above1 = omega arith; above2 = omega arith; above3 = omega arith }

join-second : (x y : List ℤ) → Above (join x y) y
unfolding join
join-second x y = record { above0 = omega arith; above1 = omega arith; above2 = omega arith; above3 = omega arith }

join-least : (x y z : List ℤ) → Above z x → Above z y → Above z (join x y)
unfolding join
join-least x y z h k = record { above0 = omega arith; above1 = omega arith; above2 = omega arith; above3 = omega arith }

sound : (x y : List ℤ) → T (better x y) → Above x y
unfolding better
sound x y t =
    let t0 = T_and (leb (word 0 y) (word 0 x)) (leb (word 1 y) (word 1 x) && (leb (word 2 y) (word 2 x) && (leb (word 3 y) (word 3 x) && true))) t in
    let t1 = T_and (leb (word 1 y) (word 1 x)) (leb (word 2 y) (word 2 x) && (leb (word 3 y) (word 3 x) && true)) t0.1 in
    let t2 = T_and (leb (word 2 y) (word 2 x)) (leb (word 3 y) (word 3 x) && true) t1.1 in
    let t3 = T_and (leb (word 3 y) (word 3 x)) true t2.1 in
    record {
      above0 = leb→le (word 0 y) (word 0 x) t0.0;
      above1 = leb→le (word 1 y) (word 1 x) t1.0;
      above2 = leb→le (word 2 y) (word 2 x) t2.0;
      above3 = leb→le (word 3 y) (word 3 x) t3.0;
    }

complete : (x y : List ℤ) → Above x y → T (better x y)
unfolding better
complete x y h =
    and_t (leb (word 0 y) (word 0 x)) (leb (word 1 y) (word 1 x) && (leb (word 2 y) (word 2 x) && (leb (word 3 y) (word 3 x) && true))) (le→leb (word 0 y) (word 0 x) h.above0)
    (and_t (leb (word 1 y) (word 1 x)) (leb (word 2 y) (word 2 x) && (leb (word 3 y) (word 3 x) && true)) (le→leb (word 1 y) (word 1 x) h.above1)
    (and_t (leb (word 2 y) (word 2 x)) (leb (word 3 y) (word 3 x) && true) (le→leb (word 2 y) (word 2 x) h.above2)
    (and_t (leb (word 3 y) (word 3 x)) true (le→leb (word 3 y) (word 3 x) h.above3) tt)))

-- ---- the code's lead is the law's

-- a series as such a list
unfoldable pub words_of : Series → List ℤ
words_of s = pos (series_word s 0) ∷ pos (series_word s 1) ∷ pos (series_word s 2) ∷ pos (series_word s 3) ∷ []

pub better-at-least : (s t : Series) → better (words_of s) (words_of t) ≡ at_least s t
unfolding better words_of at_least
better-at-least s t = refl

-- those of the arms from j on, as many as said
unfoldable pub words_from : (ℕ → Series) → ℕ → ℕ → List (List ℤ)
words_from f zero j = []
words_from f (suc left) j = words_of (f j) ∷ words_from f left (suc j)

abbrev LawLead : Type 0
LawLead = Meaning.Lead Above above_same above-chain join join_first join-second join-least better sound complete

abbrev law_next : LawLead → List ℤ → LawLead
law_next = Meaning.next_lead Above above_same above-chain join join_first join-second join-least better sound complete

abbrev law_from : LawLead → List (List ℤ) → LawLead
law_from = Meaning.lead_from Above above_same above-chain join join_first join-second join-least better sound complete

abbrev lead_of : Lead → LawLead
lead_of l = record { largest = words_of l.largest; attained = l.attained }

next-lead-of : (l : Lead) (s : Series) → lead_of (next_lead l s) ≡ law_next (lead_of l) (words_of s)
unfolding next_lead joined_series words_of join better at_least
next-lead-of l s = refl

leads-of : (f : ℕ → Series) (left j : ℕ) (l : Lead) → lead_of (lead_over f left j l) ≡ law_from (lead_of l) (words_from f left j)
unfolding lead_over words_from Meaning.lead_from
leads-of f zero j l = refl
leads-of f (suc left) j l = leads-of f left (suc j) (next_lead l (f j)) ∙ ap (λ k. law_from k (words_from f left (suc j))) (next-lead-of l (f j))

-- one list is at least each exactly where the law's lead is attained
decided : (x : List ℤ) (xs : List (List ℤ)) → (law_from (record { largest = x; attained = true }) xs).attained ≡ some_best better (x ∷ xs) (x ∷ xs)
decided x xs = same_truth (law_from (record { largest = x; attained = true }) xs).attained (some_best better (x ∷ xs) (x ∷ xs))
    (Meaning.lead-decides Above above_same above-chain join join_first join-second join-least better sound complete x xs)
    (Meaning.decides-lead Above above_same above-chain join join_first join-second join-least better sound complete x xs)

pub lead-decided : (f : ℕ → Series) (more first : ℕ) →
    (lead_over f more (suc first) (first_lead (f first))).attained ≡ some_best better (words_from f (suc more) first) (words_from f (suc more) first)
unfolding first_lead words_from
lead-decided f more first = ap (λ (l : LawLead). l.attained) (leads-of f more (suc first) (first_lead (f first))) ∙ decided (words_of (f first)) (words_from f more (suc first))
