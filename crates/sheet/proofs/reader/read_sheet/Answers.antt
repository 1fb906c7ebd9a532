-- The check gives the answer and the count, by which the records are decoded; writing them gives the bytes of the sheet back.
use mathlib.Core.Path.{◌≡◌, refl, ap, ◌∙◌}
use Prim.Native.Nat.{ℕ}
use Rattle.std.specs.Prelude.{Result, Ok, Err}
use Rattle.std.specs.Result.{result_unwrap_or}
use Rattle.meaning.proofs.EarlierReaders.{read-as-before}
use Rattle.sheet.specs.declared.refusal.Refusal.{Refusal}
use Rattle.sheet.specs.Answers.{refusable, or_zero}
use Rattle.sheet.proofs.WrittenBack.{bytes-all, written_back}
use Rattle.sheet.proofs.reader.read_sheet.Goals as goal

count-of : (r : Result ℕ Refusal) → result_unwrap_or r 0 ≡ or_zero (refusable r)
unfolding or_zero
count-of (Ok n) = refl
count-of (Err r) = refl

pub decode_all-records-requires : goal.decode_all-records-requires
decode_all-records-requires c = c.unwrap_or-count.ensures ∙ count-of c.check_sheet-answer.result ∙ ap or_zero c.check_sheet-answer.ensures

pub returns : goal.returns
returns c =
    let checked = c.check_sheet-answer in
    let sheet = c.args.sheet.now in
    let bytes = bytes-all sheet (λ i. (c.type_inv.sheet i).fits) in
    record {
      answer = checked.ensures;
      records = c.decode_all-records.ensures;
      undone = written_back sheet bytes checked.ensures c.decode_all-records.ensures;
      before = read-as-before sheet;
    }
