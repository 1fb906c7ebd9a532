-- The kind's byte, all of the body but a skip, and the skip where there is to be one, are appended one after another.
use mathlib.Core.Path.{sym, ap, ◌∙◌}
use mathlib.Core.List.{[], ◌∷◌}
use mathlib.Core.Bool.{Bool}
use Prim.Native.Nat.{ℕ}
use Rattle.meaning.specs.Record.{kind_number, loop_record, record_bytes}
use native.Mathlib.Omega.{arith}
use Rattle.std.proofs.lemmas.List.{length-take-le}
use mir.Syntax.{w16}
use Rattle.encoding.proofs.Fields.{numbered}
use Rattle.encoding.proofs.Appending.{and_then, same_bytes, keeps-length}
use Rattle.converter.specs.Converting.{changed}
use Rattle.converter.proofs.Bodies.{without-bytes, with-bytes, skip-said}
use Rattle.converter.proofs.record.put_loop.Goals as goal

pub returns-then-not-skips : goal.returns-then-not-skips
unfolding kind_number
returns-then-not-skips c l b =
    let skips = c.if-not-skips.true in
    same_bytes (without-bytes b ∙ sym (ap (λ (s : Bool). record_bytes (loop_record (changed s l))) skips))
    (and_then (same_bytes (ap (λ (n : ℕ). n ∷ []) c.number.ensures) c.put_byte-next.ensures) c.put.ensures)

pub put-requires-2 : goal.put-requires-2
put-requires-2 c =
    omega (arith, keeps-length c.put_byte-next-2.ensures, keeps-length c.put-next.ensures, length-take-le 24 c.args.body.now c.requires.0)

pub returns : goal.returns
unfolding kind_number
returns c l b =
    let own = c.args.own in
    let skips = c.if-not-skips.false in
    same_bytes (with-bytes b (skip-said own b c.skip_cycles.ensures) ∙ sym (ap (λ (s : Bool). record_bytes (loop_record (changed s l))) skips))
    (and_then (and_then (same_bytes (ap (λ (n : ℕ). n ∷ []) c.number-2.ensures) c.put_byte-next-2.ensures) c.put-next.ensures) (numbered w16 c.skip_cycles.result c.to_le_bytes.ensures c.put-2.ensures))
