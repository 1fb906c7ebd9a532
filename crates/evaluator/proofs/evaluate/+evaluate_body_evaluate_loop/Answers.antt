-- The ways through both evaluators are those of their definitions.
use Rattle.std.proofs.Common.{sym, ◌∙◌, arith}
use Rattle.evaluator.specs.Machine.{body_evaluator}
use Rattle.evaluator.proofs.MachineLaws.{body-done, body-past, body-loop, body-choice, loop-shallow, loop-begun, loop-on}
use Rattle.evaluator.proofs.evaluate.+evaluate_body_evaluate_loop.Goals as goal
use Rattle.evaluator.proofs.evaluate.+evaluate_body_evaluate_loop.Goals.{evaluate_body-then-left-eq0-via-then-left-eq0, evaluate_body-then-left-eq0-via-else-left-eq0+then-count-state}

pub evaluate_body-returns-then-left-eq0 : goal.evaluate_body-returns-then-left-eq0
evaluate_body-returns-then-left-eq0 t c =
    let a = c.args in
    let m = a.arrays.now in
    elim c.then-left-eq0.branch [
      | evaluate_body-then-left-eq0-via-then-left-eq0 w ↦
          body-done m.rows m.differences m.limits a.count a.left a.depth a.state.now c.pass_straight_work.ensures w.if-left-eq0.true
      | evaluate_body-then-left-eq0-via-else-left-eq0+then-count-state w ↦
          body-past m.rows m.differences m.limits a.count a.left a.depth
          a.state.now c.pass_straight_work.ensures w.if-left-eq0.false w.if-count-state.true
    ]

pub evaluate_body-returns-then-of_loop : goal.evaluate_body-returns-then-of_loop
evaluate_body-returns-then-of_loop t c = let a = c.args in let m = a.arrays.now in
    body-loop m.rows m.differences m.limits a.count a.left a.depth
    a.state.now c.pass_straight_work.ensures c.if-left-eq0.false c.if-count-state.false
    (sym c.of_loop.ensures ∙ c.if-of_loop.true) c.evaluate_loop.ensures

pub evaluate_body-returns : goal.evaluate_body-returns
evaluate_body-returns t c = let a = c.args in let m = a.arrays.now in
    body-choice m.rows m.differences m.limits a.count a.left a.depth
    a.state.now c.pass_straight_work.ensures c.if-left-eq0.false c.pass_choice.new.state c.if-count-state.false
    (sym c.of_loop.ensures ∙ c.if-of_loop.false) c.pass_choice.ensures.after c.evaluate_body.ensures

pub evaluate_loop-returns-then-outcome : goal.evaluate_loop-returns-then-outcome
evaluate_loop-returns-then-outcome t c = let a = c.args in let m = a.arrays.now in
    loop-begun m.rows m.differences m.limits a.count
    (body_evaluator m.rows m.differences m.limits a.count a.left) a.depth
    a.state.now c.pass_loop-outcome.ensures c.if-outcome.true

pub evaluate_loop-evaluate_body-requires : goal.evaluate_loop-evaluate_body-requires
evaluate_loop-evaluate_body-requires t c = let a = c.args in let m = a.arrays.now in
    let h = loop-shallow m.rows m.differences m.limits a.count
    (body_evaluator m.rows m.differences m.limits a.count a.left) a.depth
    a.state.now c.pass_loop-outcome.ensures c.if-outcome.false in
    omega arith

pub evaluate_loop-returns : goal.evaluate_loop-returns
evaluate_loop-returns t c = let a = c.args in let m = a.arrays.now in
    loop-on m.rows m.differences m.limits a.count
    (body_evaluator m.rows m.differences m.limits a.count a.left) a.depth
    a.state.now c.pass_loop-outcome.ensures c.if-outcome.false c.evaluate_body.ensures
