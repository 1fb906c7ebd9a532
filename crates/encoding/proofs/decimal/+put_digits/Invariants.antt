-- The measure: how many digits there may still be.
use Rattle.encoding.proofs.decimal.+put_digits.Given as goal

abbrev pub decreases-put_digits : goal.decreases-put_digits
decreases-put_digits l = l.more
