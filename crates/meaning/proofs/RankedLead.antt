-- The comparison that code can make arm after arm: the largest coefficient of each order so far, and whether one arm has them all. It decides as the
-- definition does. `Above p q` is "no coefficient of p is below that of q", `join` takes the larger of each, `better` is the test of `Above`.
use mathlib.Core.Path.{◌≡◌, refl, sym, subst}
use mathlib.Core.List.{List, [], ◌∷◌, ◌++◌, append_assoc, append-nil}
use mathlib.Core.Logic.{◌⊎◌, inl, inr}
use mathlib.Core.Bool.{Bool, true, false, ◌&&◌, ◌||◌}
use lib.IntN.{ℤ}
use lib.Dec.{T}
use Rattle.meaning.specs.Settled.{best_among, some_best}
use Rattle.meaning.proofs.Logic.{T_and, and_t}
use Rattle.meaning.proofs.RankedLoops.{T-or}

or_left : (a b : Bool) → T a → T (a || b)
or_left true b t = tt
or_left false b t = absurd t

or_right : (a b : Bool) → T b → T (a || b)
or_right true b t = tt
or_right false b t = t

module _ (Above : List ℤ → List ℤ → Type 0) (Above-same : (x : List ℤ) → Above x x)
    (above-chain : (x y z : List ℤ) → Above x y → Above y z → Above x z)
    (join : List ℤ → List ℤ → List ℤ) (join_first : (x y : List ℤ) → Above (join x y) x) (join-second : (x y : List ℤ) → Above (join x y) y)
    (join-least : (x y z : List ℤ) → Above z x → Above z y → Above z (join x y))
    (better : List ℤ → List ℤ → Bool) (sound : (x y : List ℤ) → T (better x y) → Above x y) (complete : (x y : List ℤ) → Above x y → T (better x y)) where
  -- the larger of each coefficient so far, and whether an arm has them all
  pub record Lead : Type 0 where
    pub largest : List ℤ
    pub attained : Bool

  abbrev pub first_lead : List ℤ → Lead
  first_lead x = record { largest = x; attained = true }

  -- with one arm more
  abbrev pub next_lead : Lead → List ℤ → Lead
  next_lead l a = record { largest = join l.largest a; attained = better a l.largest || (l.attained && better l.largest a) }

  unfoldable pub lead_from : Lead → List (List ℤ) → Lead
  lead_from l [] = l
  lead_from l (a ∷ rest) = lead_from (next_lead l a) rest

  unfoldable AboveAll : List ℤ → List (List ℤ) → Type 0
  AboveAll z [] = Unit {0}
  AboveAll z (x ∷ xs) = Above z x × AboveAll z xs

  unfoldable Among : List ℤ → List (List ℤ) → Type 0
  Among p [] = ⊥
  Among p (x ∷ xs) = (p ≡ x) ⊎ Among p xs

  all-before : (z : List ℤ) (xs : List (List ℤ)) (a : List ℤ) → AboveAll z (xs ++ (a ∷ [])) → AboveAll z xs × Above z a
  unfolding AboveAll
  all-before z [] a h = (tt, h.0)
  all-before z (x ∷ xs) a h = let r = all-before z xs a h.1 in ((h.0, r.0), r.1)

  all-with : (z : List ℤ) (xs : List (List ℤ)) (a : List ℤ) → AboveAll z xs → Above z a → AboveAll z (xs ++ (a ∷ []))
  unfolding AboveAll
  all-with z [] a h k = (k, tt)
  all-with z (x ∷ xs) a h k = (h.0, all-with z xs a h.1 k)

  among-earlier : (p : List ℤ) (xs : List (List ℤ)) (a : List ℤ) → Among p xs → Among p (xs ++ (a ∷ []))
  unfolding Among
  among-earlier p [] a h = absurd h
  among-earlier p (x ∷ xs) a (inl e) = inl e
  among-earlier p (x ∷ xs) a (inr h) = inr (among-earlier p xs a h)

  among-last : (xs : List (List ℤ)) (a : List ℤ) → Among a (xs ++ (a ∷ []))
  unfolding Among
  among-last [] a = inl refl
  among-last (x ∷ xs) a = inr (among-last xs a)

  among-split : (p : List ℤ) (xs : List (List ℤ)) (a : List ℤ) → Among p (xs ++ (a ∷ [])) → Among p xs ⊎ (p ≡ a)
  unfolding Among
  among-split p [] a (inl e) = inr e
  among-split p [] a (inr h) = absurd h
  among-split p (x ∷ xs) a (inl e) = inl (inl e)
  among-split p (x ∷ xs) a (inr h) = go (among-split p xs a h)
    where
      go : Among p xs ⊎ (p ≡ a) → ((p ≡ x) ⊎ Among p xs) ⊎ (p ≡ a)
      go (inl i) = inl (inr i)
      go (inr e) = inr e

  above-all-chain : (z x : List ℤ) (xs : List (List ℤ)) → Above z x → AboveAll x xs → AboveAll z xs
  unfolding AboveAll
  above-all-chain z x [] h k = tt
  above-all-chain z x (y ∷ xs) h k = (above-chain z x y h k.0, above-all-chain z x xs h k.1)

  all_among : (z p : List ℤ) (xs : List (List ℤ)) → AboveAll z xs → Among p xs → Above z p
  unfolding AboveAll Among
  all_among z p [] h i = absurd i
  all_among z p (x ∷ xs) h (inl e) = rw e h.0
  all_among z p (x ∷ xs) h (inr i) = all_among z p xs h.1 i

  -- what the lead says of the arms seen
  pub record LeadOf (seen : List (List ℤ)) (l : Lead) : Type 0 where
    covers : AboveAll l.largest seen
    smallest : (z : List ℤ) → AboveAll z seen → Above z l.largest
    reached : T l.attained → (p : List ℤ) × Among p seen × Above p l.largest
    reaches : (p : List ℤ) → Among p seen → Above p l.largest → T l.attained

  pub lead-first : (x : List ℤ) → LeadOf (x ∷ []) (first_lead x)
  unfolding AboveAll Among
  lead-first x = record {
    covers = (Above-same x, tt);
    smallest = λ z h. h.0;
    reached = λ t. (x, inl refl, Above-same x);
    reaches = λ p i h. tt;
  }

  -- one arm more
  pub lead-next : (seen : List (List ℤ)) (l : Lead) (a : List ℤ) → LeadOf seen l → LeadOf (seen ++ (a ∷ [])) (next_lead l a)
  lead-next seen l a inv = record {
    covers = all-with (join l.largest a) seen a (above-all-chain (join l.largest a) l.largest seen (join_first l.largest a) inv.covers) (join-second l.largest a);
    smallest = λ z h. let parts = all-before z seen a h in join-least l.largest a z (inv.smallest z parts.0) parts.1;
    reached = λ t. found (T-or (better a l.largest) (l.attained && better l.largest a) t);
    reaches = λ p i h. decided p h (among-split p seen a i);
  }
    where
      found : T (better a l.largest) ⊎ T (l.attained && better l.largest a) → (p : List ℤ) × Among p (seen ++ (a ∷ [])) × Above p (join l.largest a)
      found (inl t) = (a, among-last seen a, join-least l.largest a a (sound a l.largest t) (Above-same a))
      found (inr t) =
          let tests = T_and l.attained (better l.largest a) t in
          let before = inv.reached tests.0 in
          let p = before.0 in
          (p, among-earlier p seen a before.1, join-least l.largest a p before.2 (above-chain p l.largest a before.2 (sound l.largest a tests.1)))

      decided : (p : List ℤ) → Above p (join l.largest a) → Among p seen ⊎ (p ≡ a) → T (better a l.largest || (l.attained && better l.largest a))
      decided p h (inl i) =
          let over_lead = above-chain p (join l.largest a) l.largest h (join_first l.largest a) in
          let over_arm = above-chain p (join l.largest a) a h (join-second l.largest a) in
          or_right (better a l.largest) (l.attained && better l.largest a)
          (and_t l.attained (better l.largest a) (inv.reaches p i over_lead)
          (complete l.largest a (above-chain l.largest p a (all_among l.largest p seen inv.covers i) over_arm)))
      decided p h (inr e) =
          or_left (better a l.largest) (l.attained && better l.largest a)
          (complete a l.largest (above-chain a (join l.largest a) l.largest (subst (λ (x : List ℤ). Above x (join l.largest a)) e h) (join_first l.largest a)))

  pub lead-from : (seen : List (List ℤ)) (l : Lead) (rest : List (List ℤ)) → LeadOf seen l → LeadOf (seen ++ rest) (lead_from l rest)
  unfolding lead_from
  lead-from seen l [] inv = subst (λ (xs : List (List ℤ)). LeadOf xs l) (sym (append-nil seen)) inv
  lead-from seen l (a ∷ rest) inv =
      subst (λ (xs : List (List ℤ)). LeadOf xs (lead_from (next_lead l a) rest)) (append_assoc seen (a ∷ []) rest)
      (lead-from (seen ++ (a ∷ [])) (next_lead l a) rest (lead-next seen l a inv))

  -- ---- the same as the definition

  all-best : (p : List ℤ) (xs : List (List ℤ)) → AboveAll p xs → T (best_among better p xs)
  unfolding AboveAll best_among
  all-best p [] h = tt
  all-best p (x ∷ xs) h = and_t (better p x) (best_among better p xs) (complete p x h.0) (all-best p xs h.1)

  best-all : (p : List ℤ) (xs : List (List ℤ)) → T (best_among better p xs) → AboveAll p xs
  unfolding AboveAll best_among
  best-all p [] t = tt
  best-all p (x ∷ xs) t = let tests = T_and (better p x) (best_among better p xs) t in (sound p x tests.0, best-all p xs tests.1)

  among-some : (p : List ℤ) (xs qs : List (List ℤ)) → Among p xs → T (best_among better p qs) → T (some_best better xs qs)
  unfolding Among some_best
  among-some p [] qs i t = absurd i
  among-some p (x ∷ xs) qs (inl e) t = or_left (best_among better x qs) (some_best better xs qs) (subst (λ (y : List ℤ). T (best_among better y qs)) e t)
  among-some p (x ∷ xs) qs (inr i) t = or_right (best_among better x qs) (some_best better xs qs) (among-some p xs qs i t)

  some-among : (xs qs : List (List ℤ)) → T (some_best better xs qs) → (p : List ℤ) × Among p xs × T (best_among better p qs)
  unfolding Among some_best
  some-among [] qs t = absurd t
  some-among (x ∷ xs) qs t = go (T-or (best_among better x qs) (some_best better xs qs) t) (λ u. some-among xs qs u)
    where
      go : T (best_among better x qs) ⊎ T (some_best better xs qs) → (T (some_best better xs qs) → (p : List ℤ) × Among p xs × T (best_among better p qs)) →
          (p : List ℤ) × ((p ≡ x) ⊎ Among p xs) × T (best_among better p qs)
      go (inl u) further = (x, inl refl, u)
      go (inr u) further = let found = further u in (found.0, inr found.1, found.2)

  -- one arm has all the largest coefficients exactly where one arm is better than each
  pub lead-decides : (x : List ℤ) (xs : List (List ℤ)) → T (lead_from (first_lead x) xs).attained → T (some_best better (x ∷ xs) (x ∷ xs))
  lead-decides x xs t =
      let inv = lead-from (x ∷ []) (first_lead x) xs (lead-first x) in
      let found = inv.reached t in
      among-some found.0 (x ∷ xs) (x ∷ xs) found.1
      (all-best found.0 (x ∷ xs) (above-all-chain found.0 (lead_from (first_lead x) xs).largest (x ∷ xs) found.2 inv.covers))

  pub decides-lead : (x : List ℤ) (xs : List (List ℤ)) → T (some_best better (x ∷ xs) (x ∷ xs)) → T (lead_from (first_lead x) xs).attained
  decides-lead x xs t =
      let inv = lead-from (x ∷ []) (first_lead x) xs (lead-first x) in
      let found = some-among (x ∷ xs) (x ∷ xs) t in
      inv.reaches found.0 found.1 (inv.smallest found.0 (best-all found.0 (x ∷ xs) found.2))
