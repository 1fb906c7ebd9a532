-- A converted sheet is answered as the old one, with the same figures and refusals, 6 at the new offset.
use mathlib.Core.Path.{◌≡◌, refl, sym, ap, ◌∙◌, subst}
use mathlib.Core.List.{List, [], ◌∷◌, map}
use mathlib.Core.Bool.{Bool, true, false}
use mathlib.Core.Option
use mathlib.Core.Option.{Option, none, some}
use Prim.Native.Nat.{ℕ, ◌≤◌, ◌<◌}
use lib.IntN.{ℤ}
use lib.Dec.{ltb}
use Rattle.meaning.specs.Limits.{ceiling_limit}
use Rattle.meaning.specs.Record.{Loop, Record}
use Rattle.meaning.specs.Reader.{Result, ok, read}
use Rattle.meaning.specs.Tree.{tree}
use Rattle.meaning.specs.Report.{LoopReport, or_else, first_over_ceiling}
use Rattle.meaning.specs.Answer.{Figures, sheet_reports, figures_of, answer}
use Rattle.meaning.specs.Moved.{new_offset, moved_answer, moved_report, SameSheet}
use Rattle.meaning.proofs.Logic.{refused-is-not-ok, ok-injective}
use Rattle.meaning.proofs.Accepted.{WellFormed, read-well-formed}
use Rattle.meaning.proofs.Answers.{accepted-over, accepted-within, answer-out-of-range, answer-refused, answer-spent, answer-figures}
use Rattle.meaning.proofs.Answers.{Outcome, budget_refused, read_refused, ceiling_refused, visits_refused, answered, outcome}
use Rattle.meaning.proofs.SameLoops.{SameLoop}
use Rattle.meaning.proofs.ConvertedRecords.{Converted}
use Rattle.meaning.proofs.ConvertedTrees.{change_all, tree-changed, figures-changed}
use Rattle.meaning.proofs.ConvertedReports.{sheet-reports-moved}

-- the first loop above the limit is the same loop
first-over-moved : (place : ℕ → ℕ) (reports : List LoopReport) →
    first_over_ceiling (map (moved_report place) reports) ≡ Option.map place (first_over_ceiling reports)
unfolding first_over_ceiling or_else moved_report
first-over-moved place [] = refl
first-over-moved place (r ∷ rs) = go (ltb ceiling_limit r.ceiling) (first-over-moved place rs)
  where
    go : (over : Bool) → first_over_ceiling (map (moved_report place) rs) ≡ Option.map place (first_over_ceiling rs) →
        or_else over (place r.offset) (first_over_ceiling (map (moved_report place) rs)) ≡ Option.map place (or_else over r.offset (first_over_ceiling rs))
    go true others = refl
    go false others = others

module _ {change : Loop → Loop} (same : (l : Loop) → SameLoop l (change l)) (old new : List ℕ) (rs : List Record) (old_read : read old ≡ ok rs)
    (new_read : read new ≡ ok (change_all change rs)) where
  abbrev place : ℕ → ℕ
  place = new_offset rs (change_all change rs)

  abbrev well_formed : WellFormed rs
  well_formed = read-well-formed old rs old_read

  module _ (ps : List ℤ) (budget : ℕ) where
    figures-same : figures_of ps (tree (change_all change rs)) ≡ figures_of ps (tree rs)
    figures-same = ap (figures_of ps) (tree-changed change rs well_formed) ∙ figures-changed ps same (tree rs)

    over-same : {o : Option ℕ} → first_over_ceiling (sheet_reports ps rs) ≡ o → first_over_ceiling (sheet_reports ps (change_all change rs)) ≡ Option.map place o
    over-same e =
        ap first_over_ceiling (sheet-reports-moved ps same rs well_formed) ∙ first-over-moved place (sheet_reports ps rs) ∙ ap (Option.map place) e

    same_answer : answer new ps budget ≡ moved_answer place (answer old ps budget)
    unfolding moved_answer figures_of
    same_answer = go (outcome old ps budget)
      where
        moved : {r : Result Figures} → answer old ps budget ≡ r → answer new ps budget ≡ moved_answer place r →
            answer new ps budget ≡ moved_answer place (answer old ps budget)
        moved e f = f ∙ ap (moved_answer place) (sym e)

        records-same : {xs : List Record} → read old ≡ ok xs → xs ≡ rs
        records-same e = ok-injective (sym e ∙ old_read)

        within : (xs : List Record) → read old ≡ ok xs → first_over_ceiling (sheet_reports ps xs) ≡ none →
            first_over_ceiling (sheet_reports ps (change_all change rs)) ≡ none
        within xs e f = over-same (subst (λ ys. first_over_ceiling (sheet_reports ps ys) ≡ none) (records-same e) f)

        -- the figures of what was read
        given : (xs : List Record) → read old ≡ ok xs → figures_of ps (tree (change_all change rs)) ≡ figures_of ps (tree xs)
        given xs e = figures-same ∙ ap (λ ys. figures_of ps (tree ys)) (sym (records-same e))

        go : Outcome old ps budget → answer new ps budget ≡ moved_answer place (answer old ps budget)
        go (budget_refused b e) = moved e (answer-out-of-range new ps budget b)
        go (read_refused number at b r e) = refused-is-not-ok (sym r ∙ old_read)
        go (ceiling_refused xs offset b r f e) =
            let over = over-same (subst (λ ys. first_over_ceiling (sheet_reports ps ys) ≡ some offset) (records-same r) f) in
            moved e (answer-refused new ps budget 6 (place offset) b (accepted-over new ps (change_all change rs) (place offset) new_read over))
        go (visits_refused xs b r f h e) =
            moved e (answer-spent new ps budget (change_all change rs) b (accepted-within new ps (change_all change rs) new_read (within xs r f))
            (subst (λ (x : Figures). budget < x.visits) (sym (given xs r)) h))
        go (answered xs b r f h e) =
            moved e (answer-figures new ps budget (change_all change rs) b (accepted-within new ps (change_all change rs) new_read (within xs r f))
            (subst (λ (x : Figures). x.visits ≤ budget) (sym (given xs r)) h)
            ∙ ap {B = Result Figures} ok (given xs r))

  changed-same-sheet : SameSheet old new
  changed-same-sheet = record {
    old_records = rs;
    new_records = change_all change rs;
    old_read = old_read;
    new_read = new_read;
    same_answer = same_answer;
    same_reports = λ ps. sheet-reports-moved ps same rs well_formed;
  }

pub same-sheet : (old new : List ℕ) (rs changed : List Record) → read old ≡ ok rs → read new ≡ ok changed → Converted rs changed → SameSheet old new
same-sheet old new rs changed old_read new_read c =
    changed-same-sheet c.same old new rs old_read (new_read ∙ ap {B = Result (List Record)} ok (sym c.changed))
