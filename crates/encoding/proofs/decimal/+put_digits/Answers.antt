-- The digits of a tenth of the number, and then the last one.
use Rattle.std.proofs.Common.{arith}
use Rattle.encoding.proofs.Appending.{nothing, same_bytes, and_then}
use Rattle.encoding.proofs.Digits.{no-digits, one-digit, more-digits}
use Rattle.encoding.proofs.decimal.+put_digits.Goals as goal

pub returns-then-more-eq0-clause-appended : goal.returns-then-more-eq0-clause-appended
returns-then-more-eq0-clause-appended t c =
    let a = c.args in same_bytes (no-digits a.more a.n c.if-more-eq0.true) (nothing (omega arith))

pub returns-then-n-lt10-clause-appended : goal.returns-then-n-lt10-clause-appended
returns-then-n-lt10-clause-appended t c =
    let a = c.args in same_bytes (one-digit a.more a.n c.if-more-eq0.false c.if-n-lt10.true) c.put_digit.ensures

pub returns-clause-appended : goal.returns-clause-appended
returns-clause-appended t c =
    let a = c.args in
    same_bytes (more-digits a.more a.n c.if-more-eq0.false c.if-n-lt10.false) (and_then c.put_digits-last.ensures.appended c.put_digit-2.ensures)
