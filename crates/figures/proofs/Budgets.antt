-- What the test of the budget says of it.
use mathlib.Core.Bool.{Bool, true, false, ◌&&◌}
use mathlib.Core.Path.{◌≡◌, sym, ◌∙◌}
use mathlib.Core.Logic.{⊎_elim}
use Prim.Native.Nat.{ℕ}
use lib.Dec.{leb}
use Rattle.meaning.specs.Limits.{budget_limit}
use Rattle.meaning.proofs.Answers.{BudgetInRange, BudgetOutOfRange, budget-decided, in-range-passes, out-of-range-fails}
use Rattle.meaning.proofs.Logic.{true-is-not-false}

module _ (budget : ℕ) {allowed : Bool} (tested : allowed ≡ (leb 1 budget && leb budget budget_limit)) where
  pub in-range : allowed ≡ true → BudgetInRange budget
  in-range e =
      ⊎_elim (λ (out : BudgetOutOfRange budget). true-is-not-false (sym e ∙ tested ∙ out-of-range-fails budget out))
      (λ (is : BudgetInRange budget). is) (budget-decided budget)

  pub out-of-range : allowed ≡ false → BudgetOutOfRange budget
  out-of-range e =
      ⊎_elim (λ (out : BudgetOutOfRange budget). out)
      (λ (is : BudgetInRange budget). true-is-not-false (sym (tested ∙ in-range-passes budget is) ∙ e)) (budget-decided budget)
