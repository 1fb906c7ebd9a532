-- The sheet with no skip in any loop is stored, or a refusal answered; it says what it said, and the way back returns it.
use mathlib.Core.Path.{refl}
use mathlib.Core.Bool.{false}
use Rattle.meaning.specs.Converter.{records_without_skips, without_skips, with_skips}
use Rattle.meaning.proofs.Converters.{without-skips-same}
use Rattle.meaning.proofs.LongerSheets.{without-skips-alike}
use Rattle.meaning.proofs.WaysBack.{without-skips-turned}
use Rattle.sheet.proofs.WrittenBack.{bytes-all}
use Rattle.converter.specs.Converting.{changed_from, new_records}
use Rattle.converter.proofs.Conversions.{promised}
use Rattle.converter.proofs.without_skips.Goals as goal

pub returns : goal.returns
unfolding without_skips records_without_skips new_records changed_from
returns c =
    let sheet = c.args.sheet.now in
    let buffer = c.args.buffer.now in
    let bytes = bytes-all sheet (λ i. (c.type_inv.sheet i).fits) in
    let p = promised false with_skips sheet (λ n a. without-skips-same sheet buffer n a) (λ n a. without-skips-turned sheet buffer n bytes a) refl
    c.store.ensures.answer c.store.ensures.bytes in
    record {
      answer = p.0;
      bytes = p.1.0;
      same = p.1.1.0;
      turned = p.1.1.1;
      before = without-skips-alike sheet buffer;
    }
