-- The five numbers are put one after the other from the start of the area; the bytes after them stay.
use Rattle.std.proofs.Common.{◌≡◌, ℕ, ℤ, ◌++◌, length, refl, arith}
use mir.Syntax.{w64}
use Rattle.meaning.specs.Number.{little_endian}
use Rattle.ranges.specs.RangeCall.{value_bytes, extremes_bytes}
use Rattle.encoding.proofs.Appending.{and_then, from_start, keeps-length}
use Rattle.encoding.proofs.Fields.{numbered}
use Rattle.exports.proofs.area.put_extremes.Goals as goal

extreme-length : (n : ℕ) (z : ℤ) → length (little_endian 8 n ++ value_bytes z) ≡ 16
unfolding little_endian value_bytes
extreme-length n z = refl

pub put_extreme-at-requires-2 : goal.put_extreme-at-requires-2
put_extreme-at-requires-2 c = omega (arith, keeps-length c.put_extreme-at.ensures, c.put_extreme-at.ensures.ends, extreme-length)

pub put-requires : goal.put-requires
put-requires c =
    omega (
      arith,
      keeps-length c.put_extreme-at.ensures,
      c.put_extreme-at.ensures.ends,
      keeps-length c.put_extreme-at-2.ensures,
      c.put_extreme-at-2.ensures.ends,
      extreme-length,
    )

pub returns : goal.returns
unfolding extremes_bytes value_bytes little_endian
returns c =
    from_start (and_then (and_then c.put_extreme-at.ensures c.put_extreme-at-2.ensures) (numbered w64 c.args.e.visits c.to_le_bytes.ensures c.put.ensures))
