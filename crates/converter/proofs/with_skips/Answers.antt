-- The sheet with a skip in every loop is stored, or a refusal answered; it says what it said, and the way back returns it.
use mathlib.Core.Path.{refl}
use mathlib.Core.Bool.{true}
use Rattle.meaning.specs.Converter.{records_with_skips, with_skips, without_skips}
use Rattle.meaning.proofs.Converters.{with-skips-same}
use Rattle.meaning.proofs.LongerSheets.{with-skips-alike}
use Rattle.meaning.proofs.WaysBack.{with-skips-turned}
use Rattle.sheet.proofs.WrittenBack.{bytes-all}
use Rattle.converter.specs.Converting.{changed_from, new_records}
use Rattle.converter.proofs.Conversions.{promised}
use Rattle.converter.proofs.with_skips.Goals as goal

pub returns : goal.returns
unfolding with_skips records_with_skips new_records changed_from
returns c =
    let sheet = c.args.sheet.now in
    let buffer = c.args.buffer.now in
    let bytes = bytes-all sheet (λ i. (c.type_inv.sheet i).fits) in
    let p = promised true without_skips sheet (λ n a. with-skips-same sheet buffer n a) (λ n a. with-skips-turned sheet buffer n bytes a) refl
    c.store.ensures.answer c.store.ensures.bytes in
    record {
      answer = p.0;
      bytes = p.1.0;
      same = p.1.1.0;
      turned = p.1.1.1;
      before = with-skips-alike sheet buffer;
    }
