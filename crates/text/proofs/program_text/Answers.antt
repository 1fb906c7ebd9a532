-- The refusal of an input with less than a header; or the answer to its sheet at its parameters and budget.
use native.Mathlib.Omega.{arith}
use Rattle.meaning.specs.Program.{refused_line, program_text}
use Rattle.meaning.proofs.Input.{program_text-take}
use Rattle.meaning.proofs.LongerSheets.{printed-alike}
use Rattle.text.proofs.Inputs.{sheet-part}
use Rattle.text.proofs.Answering.{short-text, long-text, at-start}
use Rattle.meaning.specs.Program.{input_parameters, input_sheet}
use Rattle.meaning.proofs.Reasons.{reasons-told}
use Rattle.text.proofs.program_text.Goals as goal

pub returns-then-input-lt-HEADER_LENGTH : goal.returns-then-input-lt-HEADER_LENGTH
returns-then-input-lt-HEADER_LENGTH c =
    let input = c.args.input.now in
    let text = at-start (program_text input) c.args.buffer.now (refused_line 1 0) c.put_refusal_line.new.buffer c.put_refusal_line.result (omega arith)
    (short-text input c.if-input-lt-HEADER_LENGTH.true) c.put_refusal_line.ensures.appended in
    record {
      length = text.0;
      bytes = text.1.0;
      fits = text.1.1;
      reasons = reasons-told (input_parameters input) (input_sheet input);
      before = printed-alike input;
      cut = program_text-take input;
    }

pub returns : goal.returns
returns c =
    let input = c.args.input.now in
    let text = at-start (program_text input) c.args.buffer.now _ c.put_answer.new.buffer c.put_answer.result (omega arith)
    (long-text input _ _ _ c.if-input-lt-HEADER_LENGTH.false (sheet-part input)
    c.parameters_of.ensures c.budget_of.ensures) c.put_answer.ensures in
    record {
      length = text.0;
      bytes = text.1.0;
      fits = text.1.1;
      reasons = reasons-told (input_parameters input) (input_sheet input);
      before = printed-alike input;
      cut = program_text-take input;
    }
