-- The loop has a skip of its own where its kind's number is 6.
use mathlib.Core.Path.{◌≡◌, ap, ◌∙◌, subst}
use lib.Dec.{eqb}
use Prim.Native.Nat.{ℕ}
use Rattle.meaning.specs.Record.{Loop, decode_record, loop_kind, loop_record}
use Rattle.loops.specs.Forms.{FormsOf}
use Rattle.records.specs.View.{loop_of}
use Rattle.loops.proofs.Skips.{skips-read, same-loop}
use Rattle.loops.proofs.forms.forms_at.Goals as goal

pub returns : goal.returns
returns c l e =
    let skips = skips-read _ c.of.result c.of.ensures c.eq-skips.ensures ∙ ap (λ (n : ℕ). eqb n 6) c.byte_at.ensures in
    let read : loop_record (loop_of c.eq-skips.result c.decode-source.result) ≡ loop_record l =
    c.decode-source.ensures.fields ∙ (λ i. decode_record (loop_kind (skips i)) (c.body_at.ensures i)) ∙ e in
    subst (λ (m : Loop). FormsOf m c.args.parameters c.forms_of.result) (same-loop _ l read) c.forms_of.ensures
