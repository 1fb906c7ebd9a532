-- The line is put from the start on; its offsets have 16 bits, so that it reads back.
use mathlib.Core.Path.{refl}
use Rattle.meaning.specs.Reason.{Reason}
use Rattle.meaning.specs.ReasonLine.{reason_line}
use Rattle.meaning.proofs.ReasonLines.{reads-back}
use Rattle.meaning.proofs.ReasonConsequences.{never-one-line}
use native.Mathlib.Omega.{arith}
use Rattle.encoding.proofs.Appending.{from_start, keeps-length, length-written}
use Rattle.reasons.specs.View.{reason_in}
use Rattle.reasons.proofs.Fits.{reason-fits}
use Rattle.reasons.proofs.line.reason_line.Goals as goal

pub returns : goal.returns
returns c =
    let put = c.put_reason_line.ensures.appended in
    let reason : Reason = reason_in c.args.reason in
    let fits = reason-fits c.args.reason _ c.well_formed.0 in
    record {
      length = length-written put;
      bytes = from_start put;
      fits = (omega (arith, c.put_reason_line.ensures.short.1), omega (arith, keeps-length put));
      reads = (reads-back (reason_line reason)).its reason fits refl;
      only = λ other h e. never-one-line reads-back (reason_in other) reason h fits e;
    }
