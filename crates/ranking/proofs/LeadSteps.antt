-- What the code's steps from arm to arm come to, and when it says of a choice that it is settled.
use Rattle.std.proofs.Common.{◌≡◌, ℕ, zero, suc, ◌+◌, ◌-◌, ◌<◌, ◌≤◌, Bool, true, false, cond, ◌&&◌, leb, T, List, sym, refl, ap, ◌∙◌, subst, arith, le-leb, leb→le}
use Rattle.state.specs.declared.bounds.Bounds.{Bounds}
use Rattle.ranking.specs.declared.Leads.{Leads}
use Rattle.ranking.specs.Lead.{lead_over}
use Rattle.ranking.specs.Settled.{trip_arms_limit, first_leads, next_leads, leads_from, both_attained, settled_choice}

module _ (arms : List Bounds) (count arms_per_trip : ℕ) where
  abbrev begun : ℕ → Leads
  begun = first_leads arms count arms_per_trip

  abbrev onward : ℕ → ℕ → Leads → Leads
  onward = leads_from arms count arms_per_trip

  -- ---- arm after arm

  pub leads-done : (j end : ℕ) (leads : Leads) → end ≤ j → leads ≡ onward (end - j) j leads
  unfolding leads_from lead_over
  leads-done j end leads h = let e : end - j ≡ 0 = omega arith in rw e

  pub leads-step : (j end : ℕ) (leads next : Leads) → j < end → next ≡ next_leads arms count arms_per_trip leads j →
      onward (end - (j + 1)) (j + 1) next ≡ onward (end - j) j leads
  unfolding leads_from lead_over next_leads
  leads-step j end leads next h e =
      let left : end - j ≡ suc (end - (j + 1)) = omega arith in
      let further : j + 1 ≡ suc j = omega arith in
      (λ i. onward (end - (j + 1)) (further i) (e i)) ∙ ap (λ n. onward n j leads) (sym left)

  -- ---- a choice

  pub settled-by : (first own : ℕ) (leads : Leads) (r : Bool) → arms_per_trip ≤ trip_arms_limit → 1 ≤ own → first + own ≤ arms_per_trip →
      leads ≡ onward (first + own - suc first) (suc first) (begun first) →
      r ≡ both_attained leads → r ≡ settled_choice arms count arms_per_trip first own
  unfolding settled_choice
  settled-by first zero leads r small some fits e f = absurd (omega arith)
  settled-by first (suc more) leads r small some fits e f =
      let left : first + suc more - suc first ≡ more = omega arith in
      rw (le-leb arms_per_trip trip_arms_limit small, le-leb (first + suc more) arms_per_trip fits)
      (f ∙ ap both_attained (e ∙ ap (λ n. onward n (suc first) (begun first)) left))

  -- no choice is meant
  pub not-settled : (first own : ℕ) → ((own ≡ 0 → ⊥) → arms_per_trip ≤ trip_arms_limit → first + own ≤ arms_per_trip → ⊥) → false ≡ settled_choice arms count arms_per_trip first own
  unfolding settled_choice
  not-settled first zero h = refl
  not-settled first (suc more) h = by-tests (leb arms_per_trip trip_arms_limit) (leb (first + suc more) arms_per_trip) refl refl
    where
      by-tests : (a b : Bool) → leb arms_per_trip trip_arms_limit ≡ a → leb (first + suc more) arms_per_trip ≡ b →
          false ≡ cond (a && b) (both_attained (onward more (suc first) (begun first))) false
      by-tests true true e f = absurd (h (λ z. omega arith) (leb→le arms_per_trip trip_arms_limit (subst T (sym e) tt)) (leb→le (first + suc more) arms_per_trip (subst T (sym f) tt)))
      by-tests true false e f = refl
      by-tests false b e f = refl
