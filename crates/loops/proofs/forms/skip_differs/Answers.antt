-- A loop without a skip of its own has its start as its skip, so that they do not differ.
use mathlib.Core.Path.{refl, sym, ap, ◌∙◌}
use mathlib.Core.Bool.{Bool, not}
use borrow.Author.Tests.{eq-eqb}
use lib.Dec.{eqb}
use Rattle.meaning.specs.Record.{skip_where, skip_or, skip_cycles}
use Rattle.loops.proofs.forms.skip_differs.Goals as goal

pub returns-then-skips : goal.returns-then-skips
unfolding skip_where skip_or skip_cycles
returns-then-skips c =
    let l = c.args.source in
    sym (ap (λ (s : Bool). not (eqb (skip_or (skip_where s l.skip) l.start) l.start)) c.if-skips.true)

pub returns-else-skips : goal.returns-else-skips
unfolding skip_where skip_or skip_cycles
returns-else-skips c =
    let l = c.args.source in
    c.if-skips.false ∙ sym (ap (λ (s : Bool). not (eqb (skip_or (skip_where s l.skip) l.start) l.start)) c.if-skips.false ∙ ap not (eq-eqb l.start l.start refl))
