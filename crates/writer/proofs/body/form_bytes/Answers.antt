-- The two bytes of the constant and the byte of each factor are their patterns, in the order of the sheet.
use Rattle.writer.proofs.Fits.{form-fits}
use Rattle.writer.proofs.Bodies.{form-bytes}
use Rattle.writer.proofs.body.form_bytes.Goals as goal

pub returns : goal.returns
returns c =
    form-bytes (form-fits c.args.form _ c.well_formed.0) c.cast_unsigned.ensures c.to_le_bytes.ensures
    c.cast_unsigned-2.ensures c.cast_unsigned-3.ensures c.cast_unsigned-4.ensures
    c.cast_unsigned-5.ensures c.cast_unsigned-6.ensures
    c.cast_unsigned-7.ensures c.cast_unsigned-8.ensures
