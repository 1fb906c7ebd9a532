-- Straight work, one record after another.
use Rattle.std.proofs.Common.{◌≡◌, ℕ, zero, suc, ◌+◌, ◌-◌, ◌<◌, ◌≤◌, Bool, true, false, eqb, List, sym, refl, ap, ◌∙◌, arith}
use Rattle.layout.specs.Rows.{role_number, straight_role, role_at, first_at, second_at}
use Rattle.state.specs.declared.State.{State}
use Rattle.state.specs.declared.bounds.Bounds.{Bounds}
use Rattle.state.specs.Bounds.{bounds, plus}
use Rattle.state.specs.Sums.{with_sums}
use Rattle.state.specs.States.{state_with}
use Rattle.passing.specs.Pass.{StraightWork, straight_work, straight_work_on, straight_work_from, pass_straight_work}

module _ (rows : List ℕ) (at : ℕ) (passed : Bounds) where
  abbrev from : ℕ → StraightWork
  from many = straight_work_from rows many at passed.least passed.most

  abbrev on : ℕ → Bool → StraightWork
  on many b = straight_work_on rows b (λ next l m. straight_work_from rows many next l m) at passed.least passed.most

  -- at the last record
  pub work-end : (count : ℕ) → count ≤ at → from (count - at) ≡ straight_work at passed.least passed.most
  unfolding straight_work_from
  work-end count h = let e : count - at ≡ 0 = omega arith in ap from e

  -- at another record
  pub work-stop : (many : ℕ) → false ≡ eqb (role_at rows at) (role_number straight_role) → from many ≡ straight_work at passed.least passed.most
  unfolding straight_work_from straight_work_on
  work-stop zero h = refl
  work-stop (suc many) h = ap (on many) (sym h)

  -- a straight record is passed
  pub work-more :
      (count : ℕ) {own next : Bounds} → at < count → true ≡ eqb (role_at rows at) (role_number straight_role)
      → own ≡ bounds (first_at rows at) (second_at rows at) → next ≡ plus passed own
      → from (count - at) ≡ straight_work_from rows (count - (at + 1)) (at + 1) next.least next.most
  unfolding straight_work_from straight_work_on
  work-more count h e o n =
      let c : count - at ≡ suc (count - (at + 1)) = omega arith in
      ap from c ∙ ap (on (count - (at + 1))) (sym e)
      ∙ ap (λ (b : Bounds). straight_work_from rows (count - (at + 1)) (at + 1) b.least b.most) (sym (n ∙ ap (plus passed) o))

-- the state after straight work that ends at `at`
pub work-passed :
    (rows : List ℕ) (count : ℕ) (s : State) (at : ℕ) (passed : Bounds)
    → straight_work_from rows (count - s.at) s.at s.sums.passed.least s.sums.passed.most ≡ straight_work at passed.least passed.most
    → pass_straight_work rows count s ≡ state_with at (with_sums s.sums passed) s.opened
unfolding pass_straight_work
work-passed rows count s at passed e = ap (λ (w : StraightWork). state_with w.at (with_sums s.sums (bounds w.least w.most)) s.opened) e
