-- What the stages keep of a loop's visited trips, and how they find out trip by trip how many are visited.
use mathlib.Core.Path.{◌≡◌, refl, sym, ap, ◌∙◌, subst}
use mathlib.Core.List.{List, [], ◌∷◌, ◌++◌, append_assoc, append-nil}
use mathlib.Core.Bool.{Bool, true, false, ◌&&◌, ◌||◌, cond, true≢false}
use mathlib.Core.Logic.{◌⊎◌, inl, inr}
use Prim.Native.Nat.{ℕ, zero, suc, min, ◌≤◌, ◌<◌}
use native.Mathlib.Decide.{dec_le}
use native.Mathlib.Omega.{arith}
use lib.Dec.{T, leb, leb→le}
use Rattle.meaning.specs.Time.{Bounds, ◌⊕◌, sum_over}
use Rattle.meaning.specs.ClosedSum.{first_sums, add_all, add_trip}
use Rattle.meaning.specs.Stage.{KeptArms, kept_arms, keep_arm}
use borrow.Author.Tests.{le-leb, lt-leb}
use Rattle.meaning.proofs.Logic.{bounds-equal}
use Rattle.meaning.proofs.SumsOfBounds.{⊕-assoc, ⊕-zero}

-- ---- the visited trips that are kept, where `keeps` tells which trips are kept each

unfoldable pub kept_sums : (ℕ → Bool) → (ℕ → Bounds) → ℕ → List Bounds
kept_sums keeps f zero = []
kept_sums keeps f (suc k) = add_trip (keeps k) (kept_sums keeps f k) (f k)

pub kept_sums-each : (keeps : ℕ → Bool) (f : ℕ → Bounds) (k : ℕ) → ((j : ℕ) → j < k → keeps j ≡ true) → kept_sums keeps f k ≡ first_sums k f
unfolding kept_sums add_trip first_sums
kept_sums-each keeps f zero h = refl
kept_sums-each keeps f (suc k) h =
    ap (λ (x : Bool). add_trip x (kept_sums keeps f k) (f k)) (h k (omega arith))
    ∙ ap (λ sums. sums ++ (f k ∷ [])) (kept_sums-each keeps f k (λ j i. h j (omega arith)))

add_all-one-more : (sums : List Bounds) (b : Bounds) → add_all (sums ++ (b ∷ [])) ≡ add_all sums ⊕ b
unfolding add_all
add_all-one-more [] b = bounds-equal _ _ (omega arith) (omega arith)
add_all-one-more (x ∷ sums) b = ap (λ (y : Bounds). x ⊕ y) (add_all-one-more sums b) ∙ sym (⊕-assoc x (add_all sums) b)

add_trip-sum : (each : Bool) (sums : List Bounds) (b : Bounds) → add_all (add_trip each sums b) ≡ add_all sums ⊕ b
unfolding add_trip add_all
add_trip-sum true sums b = add_all-one-more sums b
add_trip-sum false sums b = ⊕-zero (add_all sums ⊕ b)

kept_sums-sum : (keeps : ℕ → Bool) (f : ℕ → Bounds) (k : ℕ) → add_all (kept_sums keeps f k) ≡ sum_over k f
unfolding kept_sums sum_over add_all
kept_sums-sum keeps f zero = refl
kept_sums-sum keeps f (suc k) = add_trip-sum (keeps k) (kept_sums keeps f k) (f k) ∙ ap (λ sum. sum ⊕ f k) (kept_sums-sum keeps f k)

-- the last trip added
pub kept_sums-all : (keeps : ℕ → Bool) (f : ℕ → Bounds) (k : ℕ) → add_all (add_trip false (kept_sums keeps f k) (f k)) ≡ sum_over (suc k) f
unfolding sum_over
kept_sums-all keeps f k = add_trip-sum false (kept_sums keeps f k) (f k) ∙ ap (λ sum. sum ⊕ f k) (kept_sums-sum keeps f k)

-- ---- the arms that are kept

unfoldable pub keep_all : Bool → List Bounds → KeptArms → KeptArms
keep_all keeps [] a = a
keep_all keeps (b ∷ bs) a = keep_all keeps bs (keep_arm keeps a b)

pub keep_all-append : (keeps : Bool) (first second : List Bounds) (a : KeptArms) → keep_all keeps (first ++ second) a ≡ keep_all keeps second (keep_all keeps first a)
unfolding keep_all
keep_all-append keeps [] second a = refl
keep_all-append keeps (b ∷ first) second a = keep_all-append keeps first second (keep_arm keeps a b)

pub keep_all-none : (bs : List Bounds) (a : KeptArms) → keep_all false bs a ≡ a
unfolding keep_all keep_arm
keep_all-none [] a = refl
keep_all-none (b ∷ bs) a = keep_all-none bs a

pub keep_all-each : (bs : List Bounds) (a : KeptArms) → keep_all true bs a ≡ kept_arms a.passed_trips (a.open_trip ++ bs)
unfolding keep_all keep_arm
keep_all-each [] a = ap (kept_arms a.passed_trips) (sym (append-nil a.open_trip))
keep_all-each (b ∷ bs) a =
    keep_all-each bs (kept_arms a.passed_trips (a.open_trip ++ (b ∷ [])))
    ∙ ap (kept_arms a.passed_trips) (append_assoc a.open_trip (b ∷ []) bs)

-- ---- how many of n trips are visited of a loop with the height h: what its choices come to is known after the first min(n, h + 1) trips

-- a further trip is visited where the definition says so
pub further-agrees : (n h : ℕ) (is_closed is_ranked is_settled : Bool) (settled_by : ℕ → Bool) →
    ((k : ℕ) → T is_ranked → k ≤ h → suc k ≡ min n (suc h) → settled_by k ≡ is_settled) →
    (k : ℕ) → suc k < cond (is_closed || (is_ranked && is_settled)) (min n (suc h)) n →
    suc k < cond (is_closed || (is_ranked && leb k h && settled_by k)) (min n (suc h)) n
further-agrees n h true is_ranked is_settled settled_by agree k more = more
further-agrees n h false false is_settled settled_by agree k more = more
further-agrees n h false true true settled_by agree k more = either (leb k h && settled_by k)
  where
    either : (x : Bool) → suc k < cond x (min n (suc h)) n
    either true = more
    either false = omega arith
further-agrees n h false true false settled_by agree k more = go (leb k h) refl (settled_by k) refl
  where
    not_yet : k ≤ h → settled_by k ≡ true → Dec (suc (suc k) ≤ min n (suc h)) → suc k < min n (suc h)
    not_yet small d (yes y) = y
    not_yet small d (no y) = absurd (true≢false (sym d ∙ agree k tt small (omega arith)))

    go : (within : Bool) → leb k h ≡ within → (s : Bool) → settled_by k ≡ s → suc k < cond (within && s) (min n (suc h)) n
    go false e s d = more
    go true e false d = more
    go true e true d = not_yet (leb→le k h (subst T (sym e) tt)) d (dec_le (suc (suc k)) (min n (suc h)))

-- where the last one is visited: the rest is summed and the trips visited are the first ones, or all are visited
pub record LastSummed (n h k : ℕ) (is_summed summing : Bool) : Type 0 where
  pub defined : is_summed ≡ true
  pub found : summing ≡ true
  pub first : min n (suc h) ≡ suc k

pub record LastOfAll (n k : ℕ) (summing : Bool) : Type 0 where
  pub found : summing ≡ false
  pub all : n ≡ suc k

pub last-agrees : (n h : ℕ) (is_closed is_ranked is_settled : Bool) (settled_by : ℕ → Bool) →
    ((k : ℕ) → T is_ranked → k ≤ h → suc k ≡ min n (suc h) → settled_by k ≡ is_settled) →
    (k : ℕ) → cond (is_closed || (is_ranked && is_settled)) (min n (suc h)) n ≡ suc k →
    LastSummed n h k (is_closed || (is_ranked && is_settled)) (is_closed || (is_ranked && leb k h && settled_by k))
    ⊎ LastOfAll n k (is_closed || (is_ranked && leb k h && settled_by k))
last-agrees n h true is_ranked is_settled settled_by agree k last = inl (record { defined = refl; found = refl; first = last })
last-agrees n h false false is_settled settled_by agree k last = inr (record { found = refl; all = last })
last-agrees n h false true true settled_by agree k last =
    inl (record { defined = refl; found = λ i. le-leb k h (omega arith) i && agree k tt (omega arith) (sym last) i; first = last })
last-agrees n h false true false settled_by agree k last = inr (record { found = go (dec_le k h); all = last })
  where
    neither : (x : Bool) → x && false ≡ false
    neither true = refl
    neither false = refl

    go : Dec (k ≤ h) → leb k h && settled_by k ≡ false
    go (yes small) = ap (λ (x : Bool). leb k h && x) (agree k tt small (omega arith)) ∙ neither (leb k h)
    go (no large) = ap (λ (x : Bool). x && settled_by k) (lt-leb k h (omega arith))
