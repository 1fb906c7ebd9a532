-- The reader's refusal, which stores nothing; refusal 6 at the first loop above the ceiling; or the plan with the limits of its loops.
use mathlib.Core.Path.{sym, ◌∙◌, ap}
use mathlib.Core.List.{List}
use Prim.Native.Nat.{ℕ}
use Rattle.layout.specs.Numbers.{stored_in}
use Rattle.loops.specs.Facts.{LoopFacts, words_stored, facts_stored, loops_in, place_in}
use Rattle.planner.specs.Plan.{limits_stored, sheet_plans}
use Rattle.planner.specs.Known.{Surveyed}
use native.Mathlib.Omega.{arith}
use Rattle.sheet.specs.Sheets.{records_of}
use Rattle.sheet.proofs.Refused.{passed-on}
use Rattle.sheet.proofs.SheetRecords.{few-records}
use Rattle.planner.proofs.Parameters.{four-of}
use Rattle.planner.proofs.Planning.{count-read, refusal-read, refused-unread, refused_over, all-within, answered}
use Rattle.planner.proofs.plan.Goals as goal

pub returns-in_err-count : goal.returns-in_err-count
returns-in_err-count c =
    let given = c.args in
    let arrays = given.arrays.now in
    let r = refused-unread given.sheet.now given.parameters arrays.limits (refusal-read given.sheet.now c.check_sheet.result c.check_sheet.ensures _ c.in_err-count.was)
    arrays.rows arrays.differences arrays.facts in
    record {
      answer = passed-on c.from_residual.result _ c.from_residual.ensures.1 ∙ r.0;
      rows = r.1.0;
      differences = r.1.1.0;
      facts = r.1.1.1.0;
      limits = r.1.1.1.1;
    }

pub lay_rows-requires : goal.lay_rows-requires
lay_rows-requires c = (count-read c.args.sheet.now c.check_sheet.result c.check_sheet.ensures c.in_ok-count.count c.in_ok-count.was).1

pub survey-requires : goal.survey-requires
survey-requires c = (
  (count-read c.args.sheet.now c.check_sheet.result c.check_sheet.ensures c.in_ok-count.count c.in_ok-count.was).1,
  (
    record { before = c.args.arrays.now.rows; are = c.lay_rows.ensures },
    four-of c.args.parameters _ c.well_formed.1.0,
  ),
)

pub returns-in-Some : goal.returns-in-Some
returns-in-Some c =
    let given = c.args in
    let known = count-read given.sheet.now c.check_sheet.result c.check_sheet.ensures c.in_ok-count.count c.in_ok-count.was in
    let found = c.survey.ensures in
    let above = sym found.over ∙ ap place_in c.in-Some.is in
    let answers = refused_over given.sheet.now given.parameters given.arrays.now.limits known.0 c.in-Some.offset above in
    record {
      answer = answers.0;
      rows = found.others.0 ∙ c.lay_rows.ensures;
      differences = found.differences;
      facts = found.facts;
      limits = found.others.1 ∙ answers.1;
    }

pub put_limits-requires : goal.put_limits-requires
put_limits-requires c =
    omega (arith, (count-read c.args.sheet.now c.check_sheet.result c.check_sheet.ensures c.in_ok-count.count c.in_ok-count.was).1, few-records c.args.sheet.now)

pub returns : goal.returns
returns c =
    let given = c.args in
    let sheet = given.sheet.now in
    let parameters = given.parameters in
    let known = count-read sheet c.check_sheet.result c.check_sheet.ensures c.in_ok-count.count c.in_ok-count.was in
    let found = c.survey.ensures in
    let stored = c.put_limits.ensures in
    let none_over = sym found.over ∙ ap place_in c.in_default.is in
    let within = all-within sheet parameters known.0 none_over in
    let arrays = c.survey.new.arrays in
    let held : Surveyed sheet parameters c.in_ok-count.count arrays.rows arrays.differences arrays.facts =
    record {
      small = four-of parameters _ c.well_formed.1.0;
      all = known.1;
      sheet_is = record {
        rows_are = record { before = given.arrays.now.rows; are = found.others.0 ∙ c.lay_rows.ensures };
        loops_are = record {
          words_before = given.arrays.now.differences;
          words_are = found.differences ∙ ap (λ (l : List LoopFacts). stored_in given.arrays.now.differences (words_stored l)) within;
          facts_before = given.arrays.now.facts;
          facts_are = found.facts ∙ ap (λ (l : List LoopFacts). stored_in given.arrays.now.facts (facts_stored l)) within;
        };
      };
    } in
    let limits =
    stored.limits sheet parameters held
    ∙ ap (λ (l : List ℕ). stored_in l (limits_stored (loops_in (sheet_plans parameters (records_of sheet))))) found.others.1 in
    let answers =
    answered sheet parameters given.arrays.now.limits known.0 none_over c.in_ok-count.count known.1 limits in
    record {
      answer = answers.0;
      rows = stored.rows ∙ found.others.0 ∙ c.lay_rows.ensures;
      differences = stored.differences ∙ found.differences;
      facts = stored.facts ∙ found.facts;
      limits = answers.1;
    }
