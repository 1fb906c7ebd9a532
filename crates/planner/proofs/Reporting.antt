-- A plan's numbers give each record's report.
use mathlib.Core.List.{List, [], ◌∷◌}
use mathlib.Core.Option.{Option}
use mathlib.Core.Bool.{Bool}
use mathlib.Core.Path.{ap, ap₂, ◌∙◌, ◌≡◌}
use Prim.Native.Nat.{ℕ}
use borrow.Author.Tests.{eq-eqb, ne_eqb}
use Rattle.meaning.specs.Closed.{LoopClass}
use Rattle.meaning.specs.Reason.{Reason}
use Rattle.layout.specs.Loops.{ceiling_at, limit_at, ranked_at}
use Rattle.layout.specs.Rows.{loop_at, offset_at, role_at, role_number}
use Rattle.planner.specs.Closing.{class_by}
use Rattle.planner.specs.Reasons.{reason_at}
use Rattle.planner.specs.Reports.{reason_by, report_at}

-- the code's report
module _ (rows differences facts limits : List ℕ) (n : ℕ) where
  pub report-none : (role_at rows n ≡ 1 → ⊥) → [] ≡ report_at rows differences facts limits n
  unfolding report_at role_number
  report-none h = rw (ne_eqb (role_at rows n) 1 h)

  pub report-loop : role_at rows n ≡ 1 → {number : ℕ} → number ≡ loop_at rows n → {offset limit ceiling : ℕ} {ranked : Bool} {class : LoopClass} {reason : Option Reason} →
      offset ≡ offset_at rows n → limit ≡ limit_at limits number → ranked ≡ ranked_at limits number → class ≡ class_by limit ranked → ceiling ≡ ceiling_at facts number →
      reason ≡ reason_by class (reason_at rows differences facts n) →
      record { offset = offset; class = class; ceiling = ceiling; reason = reason } ∷ [] ≡ report_at rows differences facts limits n
  unfolding report_at role_number
  report-loop is_loop j o l r c m w =
      let same = c ∙ ap₂ class_by (l ∙ ap (limit_at limits) j) (r ∙ ap (ranked_at limits) j) in
      rw (eq-eqb (role_at rows n) 1 is_loop)
      (λ i. record {
        offset = o i;
        class = same i;
        ceiling = (m ∙ ap (ceiling_at facts) j) i;
        reason = (w ∙ ap (λ (k : LoopClass). reason_by k (reason_at rows differences facts n)) same) i;
      } ∷ [])
