-- In decimal: at most 20 digits.
use Rattle.meaning.specs.Text.{decimal}
use Rattle.encoding.proofs.decimal.put_decimal.Goals as goal

pub returns : goal.returns
unfolding decimal
returns c = let put = c.put_digits.ensures in record {
  appended = put.appended;
  short = (put.appended.ends, put.short);
}
