-- The invariant: the loops passed are stored and within the ceiling, and the open ones' indexes are held; the rows and the limits stay.
use mathlib.Core.Path.{◌≡◌, refl, sym, ap, ◌∙◌, subst}
use mathlib.Core.Bool.{Bool, true, false, cond}
use mathlib.Core.List.{List}
use Prim.Native.Nat.{ℕ}
use lib.Seq.{paste}
use Rattle.std.specs.Prelude.{Some, None}
use Rattle.layout.specs.declared.facts.Fact.{Fact}
use Rattle.layout.specs.Rows.{role_number, loop_role}
use Rattle.layout.proofs.Roles.{role-found, role-other}
use Rattle.layout.specs.Loops.{difference_from, difference_width, fact_from, fact_width, fact_numbers}
use Rattle.meaning.specs.Record.{Record}
use Rattle.nest.specs.Known.{RowsHeld}
use Rattle.loops.proofs.Surveying.{surveying-start, surveying-done, surveying-skip, surveying-over, surveying-next, stride-range, depth-range, barred-small}
use Rattle.loops.proofs.survey.Goals as goal

-- what `fact_of` answers says whether the ceiling is above the limit
none-over : (over : Bool) (x : Fact) → None ≡ cond over None (Some x) → true ≡ over
none-over true x e = refl
none-over false x e = cc

some-under : (over : Bool) (x y : Fact) → Some y ≡ cond over None (Some x) → (false ≡ over) × (y ≡ x)
some-under true x y e = cc
some-under false x y e = (refl, cc)

rows-held : {rows rows0 : List ℕ} {rs : List Record} → rows ≡ rows0 → RowsHeld rows0 rs → RowsHeld rows rs
rows-held {rs = rs} e h = subst (λ (rows : List ℕ). RowsHeld rows rs) (sym e) h

pub loop-number-init : goal.loop-number-init
loop-number-init c =
    (surveying-start c.args.parameters c.args.arrays.now.differences c.args.arrays.now.facts c.requires.0 c.nothing-here.ensures, (refl, refl))

pub loop-number-preserved-then-ne : goal.loop-number-preserved-then-ne
unfolding role_number
loop-number-preserved-then-ne c = (
  surveying-skip c.loop-number.invariant.0 c.loop-number-test.true (rows-held c.loop-number.invariant.1.0 c.requires.1.0)
      c.offset_at-at.ensures c.byte_at.ensures c.after-here.ensures.«open» (role-other loop_role refl _ c.role_at.ensures c.ne.ensures c.if-ne.true),
  c.loop-number.invariant.1,
)

pub fact_of-requires : goal.fact_of-requires
unfolding role_number
fact_of-requires c =
    let held = rows-held c.loop-number.invariant.1.0 c.requires.1.0 in
    let loop = role-found loop_role refl _ c.role_at.ensures c.ne.ensures c.if-ne.false in (
      stride-range c.loop-number.invariant.0 c.loop-number-test.true held c.requires.1.1 loop c.offset_at-at.ensures c.forms_at-forms.ensures,
      barred-small c.loop-number.invariant.0 c.loop-number-test.true held c.requires.1.1 loop c.offset_at-at.ensures c.forms_at-forms.ensures
          (c.barred_by.ensures _ c.loop-number.invariant.0.opens),
    )

pub around_with-inside-requires : goal.around_with-inside-requires
unfolding role_number
around_with-inside-requires c =
    depth-range c.loop-number.invariant.0 c.loop-number-test.true (rows-held c.loop-number.invariant.1.0 c.requires.1.0) c.requires.1.1
    (role-found loop_role refl _ c.role_at.ensures c.ne.ensures c.if-ne.false) c.offset_at-at.ensures c.forms_at-forms.ensures

pub pushes_with-deeper-requires : goal.pushes_with-deeper-requires
unfolding role_number
pushes_with-deeper-requires c =
    depth-range c.loop-number.invariant.0 c.loop-number-test.true (rows-held c.loop-number.invariant.1.0 c.requires.1.0) c.requires.1.1
    (role-found loop_role refl _ c.role_at.ensures c.ne.ensures c.if-ne.false) c.offset_at-at.ensures c.forms_at-forms.ensures

pub returns-in_default : goal.returns-in_default
unfolding role_number
returns-in_default c =
    let held = rows-held c.loop-number.invariant.1.0 c.requires.1.0 in
    let loop = role-found loop_role refl _ c.role_at.ensures c.ne.ensures c.if-ne.false in
    let above = surveying-over c.loop-number.invariant.0 c.loop-number-test.true held c.requires.1.1 loop c.offset_at-at.ensures c.forms_at-forms.ensures
    (none-over _ _ (sym c.in_default.is ∙ c.fact_of.ensures)) refl (c.barred_by.ensures _ c.loop-number.invariant.0.opens) refl refl refl in
    record {
      over = above.0;
      differences = above.1.0;
      facts = above.1.1;
      others = c.loop-number.invariant.1;
    }

pub loop-number-preserved : goal.loop-number-preserved
unfolding role_number
loop-number-preserved c =
    let held = rows-held c.loop-number.invariant.1.0 c.requires.1.0 in
    let loop = role-found loop_role refl _ c.role_at.ensures c.ne.ensures c.if-ne.false in
    let known = some-under _ _ _ (sym c.in-Some.is ∙ c.fact_of.ensures) in (
      surveying-next c.loop-number.invariant.0 c.loop-number-test.true held c.requires.1.1 loop c.offset_at-at.ensures c.forms_at-forms.ensures
          known.0 c.loop_at-of_loop.ensures (c.barred_by.ensures _ c.loop-number.invariant.0.opens)
          (c.put_difference.ensures ∙ ap (λ (words : List ℕ). paste c.loop-number.arrays.differences (difference_from c.loop_at-of_loop.result) words difference_width) c.loop_words-words.ensures)
          (c.put_fact.ensures ∙ ap (λ (fact : Fact). paste c.loop-number.arrays.facts (fact_from c.loop_at-of_loop.result) (fact_numbers fact) fact_width) known.1)
          refl c.byte_at.ensures c.after-here.ensures.«open» c.around_with-inside.ensures c.pushes_with-deeper.ensures,
      c.loop-number.invariant.1,
    )

pub returns : goal.returns
returns c =
    let done = surveying-done c.loop-number.invariant.0 c.loop-number-test.false in
    record { over = done.0; differences = done.1.0; facts = done.1.1; others = c.loop-number.invariant.1 }
