-- What storing the converted sheet leaves, and what is promised of the converter and its call.
use mathlib.Core.Path.{◌∙◌}
use mathlib.Core.Bool.{true}
use Rattle.meaning.specs.Converter.{records_with_skips, with_skips, without_skips}
use Rattle.meaning.specs.ConverterCall.{with_skips_call}
use Rattle.meaning.proofs.LongerSheets.{with-skips-alike}
use Rattle.meaning.proofs.WaysBack.{with-skips-turned}
use Rattle.meaning.proofs.ConverterCalls.{with-skips-call}
use Rattle.sheet.proofs.WrittenBack.{bytes-all}
use Rattle.converter.specs.Converting.{changed_from, new_records}
use Rattle.exports.proofs.LentSheets.{promised}
use Rattle.exports.proofs.pumdalin_with_skips.Goals as goal

pub returns : goal.returns
unfolding with_skips records_with_skips with_skips_call new_records changed_from
returns c =
    let a = c.args in
    let bytes = bytes-all a.sheet.now (λ i. (c.type_inv.sheet i).fits) in
    let p = promised (records_with_skips a.sheet.now) true without_skips a.sheet.now a.target.now a.answer.now
    (with-skips-call a.sheet.now a.target.now a.answer.now) (λ n e. with-skips-turned a.sheet.now a.target.now n bytes e)
    (c.returned.ensures ∙ c.store_sheet.ensures.number, (c.store_sheet.ensures.sheet, c.store_sheet.ensures.area)) in
    record {
      number = p.0;
      sheet = p.1.0;
      area = p.1.1.0;
      same = p.1.1.1.0;
      turned = p.1.1.1.1;
      before = with-skips-alike a.sheet.now a.target.now;
    }
