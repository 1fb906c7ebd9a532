-- Each field is the number at its offset of the body, as a loop's record is decoded.
use mathlib.Core.Path.{◌≡◌, refl, ◌∙◌, ap}
use mathlib.Core.Bool.{Bool, true, false}
use mir.Syntax.{w16}
use Prim.Native.Nat.{ℕ}
use Rattle.meaning.specs.Number.{unsigned16}
use Rattle.encoding.proofs.Patterns.{kept}
use Rattle.meaning.specs.Record.{skip_where, skip_or, loop_record, decode_record}
use Rattle.records.proofs.loops.Loop.decode.Goals as goal

-- the field is the skip where the body has one
skip-kept : (skips : Bool) (n : ℕ) → skip_where skips (skip_or (skip_where skips n) 0) ≡ skip_where skips n
unfolding skip_where skip_or
skip-kept true n = refl
skip-kept false n = refl

-- and 0 where it has none
no-skip : (skips : Bool) (n : ℕ) → skips ≡ false → skip_or (skip_where skips n) 0 ≡ 0
unfolding skip_where skip_or
no-skip skips n e = ap (λ (s : Bool). skip_or (skip_where s n) 0) e

pub returns : goal.returns
unfolding decode_record
returns c =
    let stride = kept {w = w16} (record { sfits = c.signed16_at.type_inv }) c.signed16_at.ensures in
    let a = c.args in
    record {
      fields = λ i.
          loop_record (record {
            start = c.unsigned16_at.ensures i;
            step = c.unsigned16_at-2.ensures i;
            stride = stride i;
            lower = c.form_at.ensures i;
            upper = c.form_at-2.ensures i;
            skip = (ap (skip_where a.skips) c.skip_or.ensures ∙ skip-kept a.skips (unsigned16 a.body.now 24)) i;
          });
      blank = λ e. c.skip_or.ensures ∙ no-skip a.skips (unsigned16 a.body.now 24) e;
    }
