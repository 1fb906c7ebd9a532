-- What follows a trip, as the code's state and as the definition say it: a further trip, one with the choices found unsettled, or the loop is left.
use mathlib.Core.Bool.{Bool, cond, false, not, true, true≢false, ◌&&◌, ◌||◌}
use mathlib.Core.Logic.{◌⊎◌, inl, inr}
use mathlib.Core.Path.{ap, refl, sym, ◌∙◌, ◌≡◌}
use Prim.Native.Nat.{◌<◌, min, suc, ℕ, ◌≤◌}
use native.Mathlib.Decide.{dec_le}
use native.Mathlib.Omega.{arith}
use lib.Dec.{leb, ltb}
use borrow.Author.Tests.{le-leb, le-ltb, lt-leb, lt-ltb}
use Rattle.std.proofs.Math.Bool.{and-false}
use Rattle.trips.specs.Trips.{visited_by}
use Rattle.passing.specs.Pass.{AfterTrip, further_trip, loop_left, unsettled_trip}
use Rattle.stages.proofs.Steps.{limit_for}

-- The trip with the counter j of a loop that makes n trips, of the height h; whether it is closed, whether it is ranked, and whether its choices are
-- settled, by the code's state and by the definition.
module _ (is_closed is_ranked found settled : Bool) (n h j : ℕ) where
  -- each trip before is kept: where this trip is open, with this trip, and where the next one is open
  abbrev pub each_before : Bool
  each_before = is_closed || (is_ranked && leb j h)

  abbrev pub each_with : Bool
  each_with = is_closed || (is_ranked && ltb j h)

  abbrev pub each_after : Bool
  each_after = is_closed || (is_ranked && leb (suc j) h)

  -- by the code's state
  abbrev pub after_trip : AfterTrip
  after_trip = cond (ltb (suc j) (visited_by (limit_for each_before h) n)) further_trip (cond (is_ranked && (ltb (suc j) n && not found)) unsettled_trip loop_left)

  -- by the definition
  abbrev pub is_further : Bool
  is_further = ltb (suc j) (cond (is_closed || (is_ranked && leb j h && settled)) (min n (suc h)) n)

  pub record Further : Type 0 where
    pub defined : is_further ≡ true
    pub made : after_trip ≡ further_trip
    pub stays : each_after ≡ each_before
    pub joins : each_with ≡ each_before

  pub record Unsettled : Type 0 where
    pub defined : is_further ≡ true
    pub made : after_trip ≡ unsettled_trip
    pub before : each_before ≡ true
    pub joined : each_with ≡ false
    pub after : each_after ≡ false
    pub ranked : is_ranked ≡ true
    pub last : h ≤ j

  pub record Left : Type 0 where
    pub defined : is_further ≡ false
    pub made : after_trip ≡ loop_left

abbrev pub Outcome : (is_closed is_ranked found settled : Bool) (n h j : ℕ) → Type 0
Outcome is_closed is_ranked found settled n h j =
    Further is_closed is_ranked found settled n h j ⊎ (Unsettled is_closed is_ranked found settled n h j ⊎ Left is_closed is_ranked found settled n h j)

-- one of them
pub after-trip : (is_closed is_ranked found settled : Bool) (n h j : ℕ) → (is_ranked ≡ true → is_closed ≡ false) → (is_ranked ≡ true → j ≤ h → found ≡ settled) →
    Outcome is_closed is_ranked found settled n h j
unfolding limit_for visited_by
after-trip true true found settled n h j open-so agrees = absurd (true≢false (open-so refl))
after-trip true false found settled n h j open-so agrees = go (dec_le (suc (suc j)) (min n (suc h)))
  where
    go : Dec (suc (suc j) ≤ min n (suc h)) → Outcome true false found settled n h j
    go (yes more) =
        let e = lt-ltb (suc j) (min n (suc h)) more in
        inl (record { defined = e; made = ap (λ (x : Bool). cond x further_trip (cond (false && (ltb (suc j) n && not found)) unsettled_trip loop_left)) e; stays = refl; joins = refl })
    go (no last) =
        let e = le-ltb (suc j) (min n (suc h)) (omega arith) in
        inr (inr (record { defined = e; made = ap (λ (x : Bool). cond x further_trip (cond (false && (ltb (suc j) n && not found)) unsettled_trip loop_left)) e }))
after-trip false false found settled n h j open-so agrees = go (dec_le (suc (suc j)) n)
  where
    go : Dec (suc (suc j) ≤ n) → Outcome false false found settled n h j
    go (yes more) =
        let e = lt-ltb (suc j) n more in
        inl (record { defined = e; made = ap (λ (x : Bool). cond x further_trip loop_left) e; stays = refl; joins = refl })
    go (no last) =
        let e = le-ltb (suc j) n (omega arith) in
        inr (inr (record { defined = e; made = ap (λ (x : Bool). cond x further_trip loop_left) e }))
after-trip false true found settled n h j open-so agrees = by_first (dec_le j h)
  where
    -- in a later trip
    later : h < j → Dec (suc (suc j) ≤ n) → Outcome false true found settled n h j
    later past (yes more) =
        let w = lt-leb j h past in
        let e = lt-ltb (suc j) n more in
        inl (record {
          defined = (λ i. ltb (suc j) (cond (w i && settled) (min n (suc h)) n)) ∙ e;
          made = (λ i. cond (ltb (suc j) (visited_by (limit_for (w i) h) n)) further_trip (cond (ltb (suc j) n && not found) unsettled_trip loop_left))
              ∙ ap (λ (x : Bool). cond x further_trip (cond (ltb (suc j) n && not found) unsettled_trip loop_left)) e;
          stays = lt-leb (suc j) h (omega arith) ∙ sym w;
          joins = le-ltb j h (omega arith) ∙ sym w;
        })
    later past (no last) =
        let w = lt-leb j h past in
        let e = le-ltb (suc j) n (omega arith) in
        inr (inr (record {
          defined = (λ i. ltb (suc j) (cond (w i && settled) (min n (suc h)) n)) ∙ e;
          made = (λ i. cond (ltb (suc j) (visited_by (limit_for (w i) h) n)) further_trip (cond (ltb (suc j) n && not found) unsettled_trip loop_left))
              ∙ ap (λ (x : Bool). cond x further_trip (cond (x && not found) unsettled_trip loop_left)) e;
        }))

    -- in one of the first, by what is settled
    first : j ≤ h → (s : Bool) → settled ≡ s → Dec (suc (suc j) ≤ min n (suc h)) → Dec (suc (suc j) ≤ n) → Outcome false true found settled n h j
    first small s e (yes more) all =
        let w = le-leb j h small in
        let yet = lt-ltb (suc j) (min n (suc h)) more in
        let bound : suc j < cond s (min n (suc h)) n = either s in
        inl (record {
          defined = (λ i. ltb (suc j) (cond (w i && e i) (min n (suc h)) n)) ∙ lt-ltb (suc j) (cond s (min n (suc h)) n) bound;
          made = (λ i. cond (ltb (suc j) (visited_by (limit_for (w i) h) n)) further_trip (cond (ltb (suc j) n && not found) unsettled_trip loop_left))
              ∙ ap (λ (x : Bool). cond x further_trip (cond (ltb (suc j) n && not found) unsettled_trip loop_left)) yet;
          stays = le-leb (suc j) h (omega arith) ∙ sym w;
          joins = lt-ltb j h (omega arith) ∙ sym w;
        })
      where
        either : (x : Bool) → suc j < cond x (min n (suc h)) n
        either true = more
        either false = omega arith
    first small true e (no last) all =
        let w = le-leb j h small in
        let yet = le-ltb (suc j) (min n (suc h)) (omega arith) in
        let so = agrees refl small ∙ e in
        inr (inr (record {
          defined = (λ i. ltb (suc j) (cond (w i && e i) (min n (suc h)) n)) ∙ yet;
          made = (λ i. cond (ltb (suc j) (visited_by (limit_for (w i) h) n)) further_trip (cond (ltb (suc j) n && not (so i)) unsettled_trip loop_left))
              ∙ (λ i. cond (yet i) further_trip (cond (and-false (ltb (suc j) n) i) unsettled_trip loop_left));
        }))
    first small false e (no last) (yes more) =
        let w = le-leb j h small in
        let yet = le-ltb (suc j) (min n (suc h)) (omega arith) in
        let so = agrees refl small ∙ e in
        let further = lt-ltb (suc j) n more in
        inr (inl (record {
          defined = (λ i. ltb (suc j) (cond (w i && e i) (min n (suc h)) n)) ∙ further;
          made = (λ i. cond (ltb (suc j) (visited_by (limit_for (w i) h) n)) further_trip (cond (ltb (suc j) n && not (so i)) unsettled_trip loop_left))
              ∙ (λ i. cond (yet i) further_trip (cond (further i && true) unsettled_trip loop_left));
          before = w;
          joined = le-ltb j h (omega arith);
          after = lt-leb (suc j) h (omega arith);
          ranked = refl;
          last = omega arith;
        }))
    first small false e (no last) (no past) =
        let w = le-leb j h small in
        let yet = le-ltb (suc j) (min n (suc h)) (omega arith) in
        let over = le-ltb (suc j) n (omega arith) in
        inr (inr (record {
          defined = (λ i. ltb (suc j) (cond (w i && e i) (min n (suc h)) n)) ∙ over;
          made = (λ i. cond (ltb (suc j) (visited_by (limit_for (w i) h) n)) further_trip (cond (over i && not found) unsettled_trip loop_left))
              ∙ ap (λ (x : Bool). cond x further_trip loop_left) yet;
        }))

    by_first : Dec (j ≤ h) → Outcome false true found settled n h j
    by_first (yes small) = first small settled refl (dec_le (suc (suc j)) (min n (suc h))) (dec_le (suc (suc j)) n)
    by_first (no large) = later (omega arith) (dec_le (suc (suc j)) n)
