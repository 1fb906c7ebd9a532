-- A loop's bytes are made anew; of any other record the kind's byte and the body are appended as they are.
use mathlib.Core.Path.{◌≡◌, ap, subst, ◌∙◌}
use mathlib.Core.List.{List, ◌∷◌}
use mathlib.Core.Option.{some}
use mathlib.Core.Bool.{false}
use Prim.Native.Nat.{ℕ}
use native.Mathlib.Omega.{arith}
use Rattle.encoding.specs.Append.{Appended}
use Rattle.encoding.proofs.Appending.{and_then, same_bytes}
use Rattle.records.specs.declared.Kind.{Kind}
use Rattle.records.specs.View.{meant_kind, is_loop_kind}
use Rattle.converter.specs.Converting.{BodyOf}
use Rattle.converter.proofs.Bodies.{other-bytes, of-loop, body-short, loop-long}
use Rattle.converter.proofs.record.put_record.Goals as goal

pub put_loop-requires : goal.put_loop-requires
put_loop-requires c =
    let x = c.requires.0.0 in
    (loop-long x (subst (λ (k : Kind). BodyOf x (meant_kind k) c.args.body.now) c.in-Loop.is c.requires.0.1), c.requires.1)

pub put_loop-requires-in-SkipLoop : goal.put_loop-requires-in-SkipLoop
put_loop-requires-in-SkipLoop c =
    let x = c.requires.0.0 in
    (loop-long x (subst (λ (k : Kind). BodyOf x (meant_kind k) c.args.body.now) c.in-SkipLoop.is c.requires.0.1), c.requires.1)

pub put-requires : goal.put-requires
put-requires c = omega (arith, body-short c.requires.0.1, c.requires.1, c.put_byte-next.ensures.ends)

pub returns-in-Loop : goal.returns-in-Loop
returns-in-Loop c x b =
    let given = c.args in
    of-loop given.skips (λ (bytes : List ℕ). Appended given.buffer.now given.at bytes c.put_loop.new.buffer c.put_loop.result) c.put_loop.ensures x
    (subst (λ (k : Kind). BodyOf x (meant_kind k) given.body.now) c.in-Loop.is b)

pub returns-in-SkipLoop : goal.returns-in-SkipLoop
returns-in-SkipLoop c x b =
    let given = c.args in
    let put = c.put_loop-in-SkipLoop in
    of-loop given.skips (λ (bytes : List ℕ). Appended given.buffer.now given.at bytes put.new.buffer put.result) put.ensures x
    (subst (λ (k : Kind). BodyOf x (meant_kind k) given.body.now) c.in-SkipLoop.is b)

pub returns-in-Work : goal.returns-in-Work
unfolding is_loop_kind
returns-in-Work c x b =
    let given = c.args in
    let other : is_loop_kind (some (meant_kind given.kind)) ≡ false = grind arith in
    same_bytes (ap (λ (n : ℕ). n ∷ given.body.now) c.number.ensures ∙ other-bytes other given.skips x b)
    (and_then c.put_byte-next.ensures c.put.ensures)
