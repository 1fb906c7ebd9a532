-- Demand 3, whole: of every answer with figures, all that document 00 asks; and the stages of every sheet that is not refused 1 to 6.
use mathlib.Core.Path.{◌≡◌, refl, sym, ap, ◌∙◌, subst}
use mathlib.Core.List.{List, []}
use Prim.Native.Nat.{ℕ, suc, ◌<◌}
use native.Mathlib.Omega.{arith}
use lib.IntN.{ℤ}
use lib.ListN.{length}
use mathlib.Core.Option.{none}
use Rattle.meaning.specs.Record.{Record}
use Rattle.meaning.specs.Reader.{ok, refused, read}
use Rattle.meaning.specs.Tree.{tree}
use Rattle.meaning.specs.Visits.{visits}
use Rattle.meaning.specs.Report.{first_over_ceiling}
use Rattle.meaning.specs.Stage.{State, first_state, stages}
use Rattle.meaning.specs.Answer.{Figures, figures_of, sheet_reports, accepted, answer}
use Rattle.meaning.specs.Demand.{StagesReach, defined_stages, Demand3}
use Rattle.meaning.proofs.Accepted.{read-formed, read_short}
use Rattle.meaning.proofs.Runs.{run-between, run-reached}
use Rattle.meaning.proofs.Reports.{report-count}
use Rattle.meaning.proofs.FewVisits.{visits-few}
use Rattle.meaning.proofs.SmallFigures.{figures-small}
use Rattle.meaning.proofs.Stages.{stages-reach}
use Rattle.meaning.proofs.Answers.{BudgetInRange, answer_ok, accepted-ok, answer-spent}

module _ (ps : List ℤ) where
  -- the stages of a sheet that the reader accepts
  pub read-stages : (sheet : List ℕ) (rs : List Record) → read sheet ≡ ok rs → StagesReach ps rs
  read-stages sheet rs read_as =
      let formed = read-formed sheet rs read_as in
      stages-reach ps rs formed.sound formed.same

  -- the figures of the definitions meet the demand
  figures-meet : (sheet : List ℕ) (rs : List Record) → read sheet ≡ ok rs → first_over_ceiling (sheet_reports ps rs) ≡ none →
      Demand3 ps rs (defined_stages ps rs) (figures_of ps (tree rs))
  unfolding figures_of sheet_reports
  figures-meet sheet rs read_as within =
      let formed = read-formed sheet rs read_as in
      let reach = read-stages sheet rs read_as in
      let ends = run-reached (tree rs) formed.sound ps [] in
      let few-records = ap (λ (xs : List Record). length xs) formed.same in
      let at-end = reach.reached (suc (visits ps (tree rs) [] [])) in
      record {
        never_below = λ cycles run. (run-between (tree rs) ps [] cycles run).low;
        never_above = λ cycles run. (run-between (tree rs) ps [] cycles run).high;
        fastest = ends.fastest;
        slowest = ends.slowest;
        trip_by_trip = refl;
        small = figures-small ps (tree rs) formed.sound formed.deep (omega (arith, few-records, read_short sheet rs read_as)) within;
        reached = ap (λ (s : State). s.remaining) (at-end (omega arith));
        final = at-end (omega arith);
        only_end = reach.only_end;
        none_before = reach.none_before;
        counted = reach.counted;
        begun = sym (ap (λ (s : State). s.visits) (at-end (omega arith))) ∙ reach.counted (suc (visits ps (tree rs) [] []));
        defined = refl;
        few = visits-few ps (tree rs) formed.deep 0;
        reported = report-count ps (tree rs) [] 0;
      }

  -- DEMAND 3, of every sheet, parameters and budget that are answered with figures
  pub demand3 : (sheet : List ℕ) (budget : ℕ) (f : Figures) → answer sheet ps budget ≡ ok f →
      (rs : List Record) × (read sheet ≡ ok rs) × Demand3 ps rs (defined_stages ps rs) f
  demand3 sheet budget f e =
      let a = (answer_ok sheet ps budget f).0 e in (
        a.rs,
        a.read_as,
        subst (Demand3 ps a.rs (defined_stages ps a.rs)) (sym a.figures_are)
            (figures-meet sheet a.rs a.read_as a.ceilings_within),
      )

  -- Stopping once the visits pass the budget is refusal 8: the visits never fall, and never pass those of the definition.
  pub passed-budget : (sheet : List ℕ) (rs : List Record) (budget n : ℕ) → accepted sheet ps ≡ ok rs → BudgetInRange budget →
      budget < (stages ps n (first_state rs)).visits → answer sheet ps budget ≡ refused 8 0
  passed-budget sheet rs budget n e within more =
      let a = (accepted-ok sheet ps rs).0 e in
      let reach = read-stages sheet rs a.0 in
      answer-spent sheet ps budget rs within e (omega (arith, reach.bounded n))
