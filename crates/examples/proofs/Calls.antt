-- The writer, C calls, the record reader, the program's text, reasons read back, converters, by cases.
-- Last three numbers that only theorems name.
use mathlib.Core.Path.{◌≡◌, refl}
use mathlib.Core.List.{[], ◌∷◌}
use mathlib.Core.Option.{none, some}
use lib.IntN.{pos, negsuc}
use Rattle.meaning.specs.Limits.{figure_limit, visits_per_loop, input_limit}
use Rattle.meaning.specs.Form.{Form}
use Rattle.meaning.specs.Reader.{refused, head_at, body_at}
use Rattle.meaning.specs.Writer.{RawRecord, write}
use Rattle.meaning.specs.CCall.{c_call}
use Rattle.meaning.specs.Text.{text}
use Rattle.meaning.specs.Reason.{holds_loop, too_few_trips, uneven_in}
use Rattle.meaning.specs.ReasonLine.{read_reason}
use Rattle.meaning.specs.Program.{program_text}
use Rattle.meaning.specs.TextCall.{text_call}
use Rattle.meaning.specs.Converter.{with_skips, without_skips}
use Rattle.meaning.specs.ConverterCall.{with_skips_call, without_skips_call}
use Rattle.meaning.proofs.Vocabulary.{hex, zero_parameters, form, raw, written, not_written, called, lent, found, sheet_end}
use Rattle.meaning.proofs.Computes.{computes}

abbrev no_form : Form
no_form = form (pos 0) (pos 0 ∷ pos 0 ∷ pos 0 ∷ []) (pos 0 ∷ pos 0 ∷ pos 0 ∷ pos 0 ∷ [])

abbrev a_work : RawRecord
a_work = raw 1 1 2 0 0 (pos 0) no_form no_form 0

abbrev a_loop : RawRecord
a_loop = raw 2 0 0 0 0 (pos 1) no_form (form (pos 3) (pos 0 ∷ pos 0 ∷ pos 0 ∷ []) (pos 0 ∷ pos 0 ∷ pos 0 ∷ pos 0 ∷ [])) 0

abbrev an_end : RawRecord
an_end = raw 3 0 0 0 0 (pos 0) no_form no_form 0

abbrev a_choice : RawRecord
a_choice = raw 4 0 0 0 0 (pos 0) no_form no_form 0

abbrev a_next_arm : RawRecord
a_next_arm = raw 5 0 0 0 0 (pos 0) no_form no_form 0

abbrev a_skip_loop : RawRecord
a_skip_loop = raw 6 0 0 3 0 (pos 1) no_form (form (pos 3) (pos 0 ∷ pos 0 ∷ pos 0 ∷ []) (pos 0 ∷ pos 0 ∷ pos 0 ∷ pos 0 ∷ [])) 1

pub writer-1 :
    -- count 0, no buffer
    (write [] 0 [] ≡ written 0 [])
    -- count 0, the buffer stays
    × (write [] 0 (hex "c9ca") ≡ written 0 (hex "c9ca"))
    -- count 0, an entry of no kind past it
    × (write (raw 9 0 0 0 0 (pos 0) no_form no_form 0 ∷ []) 0 (hex "07") ≡ written 0 (hex "07"))
    -- count 1, entries past it are not looked at
    × (write (a_work ∷ raw 9 3 0 0 0 (pos 0) no_form no_form 0 ∷ a_choice ∷ []) 1 (hex "05060708090a") ≡ written 5 (hex "01010002000a"))
    -- 127 records
    × (write (a_choice ∷ a_next_arm ∷ an_end ∷ a_choice ∷ an_end ∷ a_choice ∷ an_end ∷ a_choice ∷ an_end ∷ a_choice ∷ an_end ∷ a_choice ∷ an_end ∷ a_choice ∷ an_end ∷ a_choice ∷ an_end ∷ a_choice ∷ an_end ∷ a_choice ∷ an_end ∷ a_choice ∷ an_end ∷ a_choice ∷ an_end ∷ a_choice ∷ an_end ∷ a_choice ∷ an_end ∷ a_choice ∷ an_end ∷ a_choice ∷ an_end ∷ a_choice ∷ an_end ∷ a_choice ∷ an_end ∷ a_choice ∷ an_end ∷ a_choice ∷ an_end ∷ a_choice ∷ an_end ∷ a_choice ∷ an_end ∷ a_choice ∷ an_end ∷ a_choice ∷ an_end ∷ a_choice ∷ an_end ∷ a_choice ∷ an_end ∷ a_choice ∷ an_end ∷ a_choice ∷ an_end ∷ a_choice ∷ an_end ∷ a_choice ∷ an_end ∷ a_choice ∷ an_end ∷ a_choice ∷ an_end ∷ a_choice ∷ an_end ∷ a_choice ∷ an_end ∷ a_choice ∷ an_end ∷ a_choice ∷ an_end ∷ a_choice ∷ an_end ∷ a_choice ∷ an_end ∷ a_choice ∷ an_end ∷ a_choice ∷ an_end ∷ a_choice ∷ an_end ∷ a_choice ∷ an_end ∷ a_choice ∷ an_end ∷ a_choice ∷ an_end ∷ a_choice ∷ an_end ∷ a_choice ∷ an_end ∷ a_choice ∷ an_end ∷ a_choice ∷ an_end ∷ a_choice ∷ an_end ∷ a_choice ∷ an_end ∷ a_choice ∷ an_end ∷ a_choice ∷ an_end ∷ a_choice ∷ an_end ∷ a_choice ∷ an_end ∷ a_choice ∷ an_end ∷ a_choice ∷ an_end ∷ a_choice ∷ an_end ∷ a_choice ∷ an_end ∷ a_choice ∷ an_end ∷ a_choice ∷ an_end ∷ a_choice ∷ an_end ∷ a_choice ∷ an_end ∷ a_choice ∷ an_end ∷ []) 127 (hex "c9cacbcccdcecfd0d1d2d3d4d5d6d7d8d9dadbdcdddedfe0e1e2e3e4e5e6e7e8e9eaebecedeeeff0f1f2f3f4f5f6f7f8f9fac9cacbcccdcecfd0d1d2d3d4d5d6d7d8d9dadbdcdddedfe0e1e2e3e4e5e6e7e8e9eaebecedeeeff0f1f2f3f4f5f6f7f8f9fac9cacbcccdcecfd0d1d2d3d4d5d6d7d8d9dadbdcdddedfe0e1e2e3e4") ≡ written 127 (hex "04050304030403040304030403040304030403040304030403040304030403040304030403040304030403040304030403040304030403040304030403040304030403040304030403040304030403040304030403040304030403040304030403040304030403040304030403040304030403040304030403040304030403e4"))
    -- 128 records
    × (write (a_choice ∷ an_end ∷ a_choice ∷ an_end ∷ a_choice ∷ an_end ∷ a_choice ∷ an_end ∷ a_choice ∷ an_end ∷ a_choice ∷ an_end ∷ a_choice ∷ an_end ∷ a_choice ∷ an_end ∷ a_choice ∷ an_end ∷ a_choice ∷ an_end ∷ a_choice ∷ an_end ∷ a_choice ∷ an_end ∷ a_choice ∷ an_end ∷ a_choice ∷ an_end ∷ a_choice ∷ an_end ∷ a_choice ∷ an_end ∷ a_choice ∷ an_end ∷ a_choice ∷ an_end ∷ a_choice ∷ an_end ∷ a_choice ∷ an_end ∷ a_choice ∷ an_end ∷ a_choice ∷ an_end ∷ a_choice ∷ an_end ∷ a_choice ∷ an_end ∷ a_choice ∷ an_end ∷ a_choice ∷ an_end ∷ a_choice ∷ an_end ∷ a_choice ∷ an_end ∷ a_choice ∷ an_end ∷ a_choice ∷ an_end ∷ a_choice ∷ an_end ∷ a_choice ∷ an_end ∷ a_choice ∷ an_end ∷ a_choice ∷ an_end ∷ a_choice ∷ an_end ∷ a_choice ∷ an_end ∷ a_choice ∷ an_end ∷ a_choice ∷ an_end ∷ a_choice ∷ an_end ∷ a_choice ∷ an_end ∷ a_choice ∷ an_end ∷ a_choice ∷ an_end ∷ a_choice ∷ an_end ∷ a_choice ∷ an_end ∷ a_choice ∷ an_end ∷ a_choice ∷ an_end ∷ a_choice ∷ an_end ∷ a_choice ∷ an_end ∷ a_choice ∷ an_end ∷ a_choice ∷ an_end ∷ a_choice ∷ an_end ∷ a_choice ∷ an_end ∷ a_choice ∷ an_end ∷ a_choice ∷ an_end ∷ a_choice ∷ an_end ∷ a_choice ∷ an_end ∷ a_choice ∷ an_end ∷ a_choice ∷ an_end ∷ a_choice ∷ an_end ∷ a_choice ∷ an_end ∷ a_choice ∷ an_end ∷ a_choice ∷ an_end ∷ a_choice ∷ an_end ∷ a_choice ∷ an_end ∷ []) 128 (hex "c9cacbcccdcecfd0d1d2d3d4d5d6d7d8d9dadbdcdddedfe0e1e2e3e4e5e6e7e8e9eaebecedeeeff0f1f2f3f4f5f6f7f8f9fac9cacbcccdcecfd0d1d2d3d4d5d6d7d8d9dadbdcdddedfe0e1e2e3e4e5e6e7e8e9eaebecedeeeff0f1f2f3f4f5f6f7f8f9fac9cacbcccdcecfd0d1d2d3d4d5d6d7d8d9dadbdcdddedfe0e1e2e3e4") ≡ written 128 (hex "0403040304030403040304030403040304030403040304030403040304030403040304030403040304030403040304030403040304030403040304030403040304030403040304030403040304030403040304030403040304030403040304030403040304030403040304030403040304030403040304030403040304030403"))
    -- 128 records, a byte short
    × (write (a_choice ∷ an_end ∷ a_choice ∷ an_end ∷ a_choice ∷ an_end ∷ a_choice ∷ an_end ∷ a_choice ∷ an_end ∷ a_choice ∷ an_end ∷ a_choice ∷ an_end ∷ a_choice ∷ an_end ∷ a_choice ∷ an_end ∷ a_choice ∷ an_end ∷ a_choice ∷ an_end ∷ a_choice ∷ an_end ∷ a_choice ∷ an_end ∷ a_choice ∷ an_end ∷ a_choice ∷ an_end ∷ a_choice ∷ an_end ∷ a_choice ∷ an_end ∷ a_choice ∷ an_end ∷ a_choice ∷ an_end ∷ a_choice ∷ an_end ∷ a_choice ∷ an_end ∷ a_choice ∷ an_end ∷ a_choice ∷ an_end ∷ a_choice ∷ an_end ∷ a_choice ∷ an_end ∷ a_choice ∷ an_end ∷ a_choice ∷ an_end ∷ a_choice ∷ an_end ∷ a_choice ∷ an_end ∷ a_choice ∷ an_end ∷ a_choice ∷ an_end ∷ a_choice ∷ an_end ∷ a_choice ∷ an_end ∷ a_choice ∷ an_end ∷ a_choice ∷ an_end ∷ a_choice ∷ an_end ∷ a_choice ∷ an_end ∷ a_choice ∷ an_end ∷ a_choice ∷ an_end ∷ a_choice ∷ an_end ∷ a_choice ∷ an_end ∷ a_choice ∷ an_end ∷ a_choice ∷ an_end ∷ a_choice ∷ an_end ∷ a_choice ∷ an_end ∷ a_choice ∷ an_end ∷ a_choice ∷ an_end ∷ a_choice ∷ an_end ∷ a_choice ∷ an_end ∷ a_choice ∷ an_end ∷ a_choice ∷ an_end ∷ a_choice ∷ an_end ∷ a_choice ∷ an_end ∷ a_choice ∷ an_end ∷ a_choice ∷ an_end ∷ a_choice ∷ an_end ∷ a_choice ∷ an_end ∷ a_choice ∷ an_end ∷ a_choice ∷ an_end ∷ a_choice ∷ an_end ∷ a_choice ∷ an_end ∷ a_choice ∷ an_end ∷ a_choice ∷ an_end ∷ a_choice ∷ an_end ∷ []) 128 (hex "c9cacbcccdcecfd0d1d2d3d4d5d6d7d8d9dadbdcdddedfe0e1e2e3e4e5e6e7e8e9eaebecedeeeff0f1f2f3f4f5f6f7f8f9fac9cacbcccdcecfd0d1d2d3d4d5d6d7d8d9dadbdcdddedfe0e1e2e3e4e5e6e7e8e9eaebecedeeeff0f1f2f3f4f5f6f7f8f9fac9cacbcccdcecfd0d1d2d3d4d5d6d7d8d9dadbdcdddedfe0e1e2e3") ≡ not_written 9 0 (hex "c9cacbcccdcecfd0d1d2d3d4d5d6d7d8d9dadbdcdddedfe0e1e2e3e4e5e6e7e8e9eaebecedeeeff0f1f2f3f4f5f6f7f8f9fac9cacbcccdcecfd0d1d2d3d4d5d6d7d8d9dadbdcdddedfe0e1e2e3e4e5e6e7e8e9eaebecedeeeff0f1f2f3f4f5f6f7f8f9fac9cacbcccdcecfd0d1d2d3d4d5d6d7d8d9dadbdcdddedfe0e1e2e3"))
    -- count 129
    × (write (a_choice ∷ an_end ∷ a_choice ∷ an_end ∷ a_choice ∷ an_end ∷ a_choice ∷ an_end ∷ a_choice ∷ an_end ∷ a_choice ∷ an_end ∷ a_choice ∷ an_end ∷ a_choice ∷ an_end ∷ a_choice ∷ an_end ∷ a_choice ∷ an_end ∷ a_choice ∷ an_end ∷ a_choice ∷ an_end ∷ a_choice ∷ an_end ∷ a_choice ∷ an_end ∷ a_choice ∷ an_end ∷ a_choice ∷ an_end ∷ a_choice ∷ an_end ∷ a_choice ∷ an_end ∷ a_choice ∷ an_end ∷ a_choice ∷ an_end ∷ a_choice ∷ an_end ∷ a_choice ∷ an_end ∷ a_choice ∷ an_end ∷ a_choice ∷ an_end ∷ a_choice ∷ an_end ∷ a_choice ∷ an_end ∷ a_choice ∷ an_end ∷ a_choice ∷ an_end ∷ a_choice ∷ an_end ∷ a_choice ∷ an_end ∷ a_choice ∷ an_end ∷ a_choice ∷ an_end ∷ a_choice ∷ an_end ∷ a_choice ∷ an_end ∷ a_choice ∷ an_end ∷ a_choice ∷ an_end ∷ a_choice ∷ an_end ∷ a_choice ∷ an_end ∷ a_choice ∷ an_end ∷ a_choice ∷ an_end ∷ a_choice ∷ an_end ∷ a_choice ∷ an_end ∷ a_choice ∷ an_end ∷ a_choice ∷ an_end ∷ a_choice ∷ an_end ∷ a_choice ∷ an_end ∷ a_choice ∷ an_end ∷ a_choice ∷ an_end ∷ a_choice ∷ an_end ∷ a_choice ∷ an_end ∷ a_choice ∷ an_end ∷ a_choice ∷ an_end ∷ a_choice ∷ an_end ∷ a_choice ∷ an_end ∷ a_choice ∷ an_end ∷ a_choice ∷ an_end ∷ a_choice ∷ an_end ∷ a_choice ∷ an_end ∷ a_choice ∷ an_end ∷ a_choice ∷ an_end ∷ a_choice ∷ an_end ∷ a_choice ∷ an_end ∷ a_choice ∷ an_end ∷ a_choice ∷ an_end ∷ []) 129 (hex "0102") ≡ not_written 4 0 (hex "0102"))
    -- 4 before 2
    × (write (raw 9 0 0 0 0 (pos 0) no_form no_form 0 ∷ []) 129 [] ≡ not_written 4 0 [])
    -- buffer just as long
    × (write (a_work ∷ []) 1 (hex "c9cacbcccd") ≡ written 5 (hex "0101000200"))
    -- buffer one shorter
    × (write (a_work ∷ []) 1 (hex "c9cacbcc") ≡ not_written 9 0 (hex "c9cacbcc"))
    -- buffer longer
    × (write (a_work ∷ []) 1 (hex "c9cacbcccdcecfd0") ≡ written 5 (hex "0101000200cecfd0"))
    -- no buffer
    × (write (a_work ∷ []) 1 [] ≡ not_written 9 0 [])
    -- all kinds
    × (write (a_choice ∷ a_loop ∷ a_work ∷ an_end ∷ a_next_arm ∷ a_skip_loop ∷ an_end ∷ an_end ∷ []) 8 (hex "c9cacbcccdcecfd0d1d2d3d4d5d6d7d8d9dadbdcdddedfe0e1e2e3e4e5e6e7e8e9eaebecedeeeff0f1f2f3f4f5f6f7f8f9fac9cacbcccdcecfd0d1d2d3d4d5d6d7") ≡ written 62 (hex "0402000000000100000000000000000000030000000000000000010100020003050603000000010000000000000000000003000000000000000001000303d5d6d7"))
    -- a loop's fields in order, signed ones
    × (write (raw 2 0 0 4095 258 (pos 1000) (form (negsuc 1) (pos 0 ∷ pos 0 ∷ pos 0 ∷ []) (pos 1 ∷ negsuc 0 ∷ pos 127 ∷ negsuc 127 ∷ [])) (form (pos 300) (pos 0 ∷ pos 0 ∷ pos 0 ∷ []) (negsuc 2 ∷ pos 4 ∷ pos 0 ∷ pos 5 ∷ [])) 0 ∷ an_end ∷ []) 2 (hex "c9cacbcccdcecfd0d1d2d3d4d5d6d7d8d9dadbdcdddedfe0e1e2") ≡ written 26 (hex "02ff0f0201e803feff00000001ff7f802c01000000fd04000503"))
    -- a loop's fields in order, skip last
    × (write (raw 6 0 0 4095 258 (pos 1000) (form (negsuc 1) (pos 0 ∷ pos 0 ∷ pos 0 ∷ []) (pos 1 ∷ negsuc 0 ∷ pos 127 ∷ negsuc 127 ∷ [])) (form (pos 300) (pos 0 ∷ pos 0 ∷ pos 0 ∷ []) (negsuc 2 ∷ pos 4 ∷ pos 0 ∷ pos 5 ∷ [])) 769 ∷ an_end ∷ []) 2 (hex "c9cacbcccdcecfd0d1d2d3d4d5d6d7d8d9dadbdcdddedfe0e1e2e3e4") ≡ written 28 (hex "06ff0f0201e803feff00000001ff7f802c01000000fd040005010303"))
    -- a loop's fields in order, a negative stride
    × (write (raw 2 0 0 4095 258 (negsuc 768) (form (negsuc 1) (pos 0 ∷ pos 0 ∷ pos 0 ∷ []) (pos 1 ∷ negsuc 0 ∷ pos 127 ∷ negsuc 127 ∷ [])) (form (pos 300) (pos 0 ∷ pos 0 ∷ pos 0 ∷ []) (negsuc 2 ∷ pos 4 ∷ pos 0 ∷ pos 5 ∷ [])) 0 ∷ an_end ∷ []) 2 (hex "c9cacbcccdcecfd0d1d2d3d4d5d6d7d8d9dadbdcdddedfe0e1e2") ≡ written 26 (hex "02ff0f0201fffcfeff00000001ff7f802c01000000fd04000503"))
    -- a loop's fields in order, a negative stride and skip last
    × (write (raw 6 0 0 4095 258 (negsuc 768) (form (negsuc 1) (pos 0 ∷ pos 0 ∷ pos 0 ∷ []) (pos 1 ∷ negsuc 0 ∷ pos 127 ∷ negsuc 127 ∷ [])) (form (pos 300) (pos 0 ∷ pos 0 ∷ pos 0 ∷ []) (negsuc 2 ∷ pos 4 ∷ pos 0 ∷ pos 5 ∷ [])) 513 ∷ an_end ∷ []) 2 (hex "c9cacbcccdcecfd0d1d2d3d4d5d6d7d8d9dadbdcdddedfe0e1e2e3e4") ≡ written 28 (hex "06ff0f0201fffcfeff00000001ff7f802c01000000fd040005010203"))
    -- a loop with a skip, buffer one shorter
    × (write (a_skip_loop ∷ an_end ∷ []) 2 (hex "c9cacbcccdcecfd0d1d2d3d4d5d6d7d8d9dadbdcdddedfe0e1e2e3") ≡ not_written 9 0 (hex "c9cacbcccdcecfd0d1d2d3d4d5d6d7d8d9dadbdcdddedfe0e1e2e3"))
    -- kind 0
    × (write (raw 0 0 0 0 0 (pos 0) no_form no_form 0 ∷ []) 1 (hex "c9cacbcc") ≡ not_written 2 0 (hex "c9cacbcc"))
unfolding computes
writer-1 = (refl, refl, refl, refl, refl, refl, refl, refl, refl, refl, refl, refl, refl, refl, refl, refl, refl, refl, refl, refl)

pub writer-2 :
    -- kind 7
    (write (raw 7 0 0 0 0 (pos 0) no_form no_form 0 ∷ []) 1 (hex "c9cacbcc") ≡ not_written 2 0 (hex "c9cacbcc"))
    -- kind 255 after a work
    × (write (a_work ∷ raw 255 0 0 0 0 (pos 0) no_form no_form 0 ∷ []) 2 (hex "c9cacbcc") ≡ not_written 2 5 (hex "c9cacbcc"))
    -- 2 before 3
    × (write (raw 7 1 0 0 0 (pos 2000) no_form no_form 0 ∷ []) 1 (hex "c9cacbcc") ≡ not_written 2 0 (hex "c9cacbcc"))
    -- most 4,095
    × (write (raw 1 0 4095 0 0 (pos 0) no_form no_form 0 ∷ []) 1 (hex "c9cacbcccd") ≡ written 5 (hex "010000ff0f"))
    -- least 4,095
    × (write (raw 1 4095 4095 0 0 (pos 0) no_form no_form 0 ∷ []) 1 (hex "c9cacbcccd") ≡ written 5 (hex "01ff0fff0f"))
    -- most 4,096
    × (write (raw 1 0 4096 0 0 (pos 0) no_form no_form 0 ∷ []) 1 (hex "c9cacbcccd") ≡ not_written 3 0 (hex "c9cacbcccd"))
    -- most 65,535
    × (write (raw 1 0 65535 0 0 (pos 0) no_form no_form 0 ∷ []) 1 (hex "c9cacbcccd") ≡ not_written 3 0 (hex "c9cacbcccd"))
    -- least above most
    × (write (raw 1 3 2 0 0 (pos 0) no_form no_form 0 ∷ []) 1 (hex "c9cacbcccd") ≡ not_written 3 0 (hex "c9cacbcccd"))
    -- 3 at the second record
    × (write (a_work ∷ raw 1 1 0 0 0 (pos 0) no_form no_form 0 ∷ []) 2 (hex "c9cacbcccdcecfd0d1d2") ≡ not_written 3 5 (hex "c9cacbcccdcecfd0d1d2"))
    -- start 4,095
    × (write (raw 2 0 0 4095 0 (pos 1) no_form (form (pos 3) (pos 0 ∷ pos 0 ∷ pos 0 ∷ []) (pos 0 ∷ pos 0 ∷ pos 0 ∷ pos 0 ∷ [])) 0 ∷ an_end ∷ []) 2 (hex "c9cacbcccdcecfd0d1d2d3d4d5d6d7d8d9dadbdcdddedfe0e1e2") ≡ written 26 (hex "02ff0f0000010000000000000000000003000000000000000003"))
    -- start 4,096
    × (write (raw 2 0 0 4096 0 (pos 1) no_form (form (pos 3) (pos 0 ∷ pos 0 ∷ pos 0 ∷ []) (pos 0 ∷ pos 0 ∷ pos 0 ∷ pos 0 ∷ [])) 0 ∷ an_end ∷ []) 2 (hex "c9cacbcccdcecfd0d1d2d3d4d5d6d7d8d9dadbdcdddedfe0e1e2") ≡ not_written 3 0 (hex "c9cacbcccdcecfd0d1d2d3d4d5d6d7d8d9dadbdcdddedfe0e1e2"))
    -- step 4,095
    × (write (raw 2 0 0 0 4095 (pos 1) no_form (form (pos 3) (pos 0 ∷ pos 0 ∷ pos 0 ∷ []) (pos 0 ∷ pos 0 ∷ pos 0 ∷ pos 0 ∷ [])) 0 ∷ an_end ∷ []) 2 (hex "c9cacbcccdcecfd0d1d2d3d4d5d6d7d8d9dadbdcdddedfe0e1e2") ≡ written 26 (hex "020000ff0f010000000000000000000003000000000000000003"))
    -- step 4,096
    × (write (raw 2 0 0 0 4096 (pos 1) no_form (form (pos 3) (pos 0 ∷ pos 0 ∷ pos 0 ∷ []) (pos 0 ∷ pos 0 ∷ pos 0 ∷ pos 0 ∷ [])) 0 ∷ an_end ∷ []) 2 (hex "c9cacbcccdcecfd0d1d2d3d4d5d6d7d8d9dadbdcdddedfe0e1e2") ≡ not_written 3 0 (hex "c9cacbcccdcecfd0d1d2d3d4d5d6d7d8d9dadbdcdddedfe0e1e2"))
    -- stride 0
    × (write (raw 2 0 0 0 0 (pos 0) no_form (form (pos 3) (pos 0 ∷ pos 0 ∷ pos 0 ∷ []) (pos 0 ∷ pos 0 ∷ pos 0 ∷ pos 0 ∷ [])) 0 ∷ an_end ∷ []) 2 (hex "c9cacbcccdcecfd0d1d2d3d4d5d6d7d8d9dadbdcdddedfe0e1e2") ≡ not_written 3 0 (hex "c9cacbcccdcecfd0d1d2d3d4d5d6d7d8d9dadbdcdddedfe0e1e2"))
    -- stride 1,000
    × (write (raw 2 0 0 0 0 (pos 1000) no_form (form (pos 3) (pos 0 ∷ pos 0 ∷ pos 0 ∷ []) (pos 0 ∷ pos 0 ∷ pos 0 ∷ pos 0 ∷ [])) 0 ∷ an_end ∷ []) 2 (hex "c9cacbcccdcecfd0d1d2d3d4d5d6d7d8d9dadbdcdddedfe0e1e2") ≡ written 26 (hex "0200000000e80300000000000000000003000000000000000003"))
    -- stride 1,001
    × (write (raw 2 0 0 0 0 (pos 1001) no_form (form (pos 3) (pos 0 ∷ pos 0 ∷ pos 0 ∷ []) (pos 0 ∷ pos 0 ∷ pos 0 ∷ pos 0 ∷ [])) 0 ∷ an_end ∷ []) 2 (hex "c9cacbcccdcecfd0d1d2d3d4d5d6d7d8d9dadbdcdddedfe0e1e2") ≡ not_written 3 0 (hex "c9cacbcccdcecfd0d1d2d3d4d5d6d7d8d9dadbdcdddedfe0e1e2"))
    -- stride 32,767
    × (write (raw 2 0 0 0 0 (pos 32767) no_form (form (pos 3) (pos 0 ∷ pos 0 ∷ pos 0 ∷ []) (pos 0 ∷ pos 0 ∷ pos 0 ∷ pos 0 ∷ [])) 0 ∷ an_end ∷ []) 2 (hex "c9cacbcccdcecfd0d1d2d3d4d5d6d7d8d9dadbdcdddedfe0e1e2") ≡ not_written 3 0 (hex "c9cacbcccdcecfd0d1d2d3d4d5d6d7d8d9dadbdcdddedfe0e1e2"))
    -- stride -1
    × (write (raw 2 0 0 0 0 (negsuc 0) no_form (form (pos 3) (pos 0 ∷ pos 0 ∷ pos 0 ∷ []) (pos 0 ∷ pos 0 ∷ pos 0 ∷ pos 0 ∷ [])) 0 ∷ an_end ∷ []) 2 (hex "c9cacbcccdcecfd0d1d2d3d4d5d6d7d8d9dadbdcdddedfe0e1e2") ≡ written 26 (hex "0200000000ffff00000000000000000003000000000000000003"))
    -- stride -1,000
    × (write (raw 2 0 0 0 0 (negsuc 999) no_form (form (pos 3) (pos 0 ∷ pos 0 ∷ pos 0 ∷ []) (pos 0 ∷ pos 0 ∷ pos 0 ∷ pos 0 ∷ [])) 0 ∷ an_end ∷ []) 2 (hex "c9cacbcccdcecfd0d1d2d3d4d5d6d7d8d9dadbdcdddedfe0e1e2") ≡ written 26 (hex "020000000018fc00000000000000000003000000000000000003"))
    -- stride -1,001
    × (write (raw 2 0 0 0 0 (negsuc 1000) no_form (form (pos 3) (pos 0 ∷ pos 0 ∷ pos 0 ∷ []) (pos 0 ∷ pos 0 ∷ pos 0 ∷ pos 0 ∷ [])) 0 ∷ an_end ∷ []) 2 (hex "c9cacbcccdcecfd0d1d2d3d4d5d6d7d8d9dadbdcdddedfe0e1e2") ≡ not_written 3 0 (hex "c9cacbcccdcecfd0d1d2d3d4d5d6d7d8d9dadbdcdddedfe0e1e2"))
unfolding computes
writer-2 = (refl, refl, refl, refl, refl, refl, refl, refl, refl, refl, refl, refl, refl, refl, refl, refl, refl, refl, refl, refl)

pub writer-3 :
    -- stride -32,768
    (write (raw 2 0 0 0 0 (negsuc 32767) no_form (form (pos 3) (pos 0 ∷ pos 0 ∷ pos 0 ∷ []) (pos 0 ∷ pos 0 ∷ pos 0 ∷ pos 0 ∷ [])) 0 ∷ an_end ∷ []) 2 (hex "c9cacbcccdcecfd0d1d2d3d4d5d6d7d8d9dadbdcdddedfe0e1e2") ≡ not_written 3 0 (hex "c9cacbcccdcecfd0d1d2d3d4d5d6d7d8d9dadbdcdddedfe0e1e2"))
    -- skip 4,095
    × (write (raw 6 0 0 3 0 (pos 1) no_form (form (pos 3) (pos 0 ∷ pos 0 ∷ pos 0 ∷ []) (pos 0 ∷ pos 0 ∷ pos 0 ∷ pos 0 ∷ [])) 4095 ∷ an_end ∷ []) 2 (hex "c9cacbcccdcecfd0d1d2d3d4d5d6d7d8d9dadbdcdddedfe0e1e2e3e4") ≡ written 28 (hex "06030000000100000000000000000000030000000000000000ff0f03"))
    -- skip 4,096
    × (write (raw 6 0 0 3 0 (pos 1) no_form (form (pos 3) (pos 0 ∷ pos 0 ∷ pos 0 ∷ []) (pos 0 ∷ pos 0 ∷ pos 0 ∷ pos 0 ∷ [])) 4096 ∷ an_end ∷ []) 2 (hex "c9cacbcccdcecfd0d1d2d3d4d5d6d7d8d9dadbdcdddedfe0e1e2e3e4") ≡ not_written 3 0 (hex "c9cacbcccdcecfd0d1d2d3d4d5d6d7d8d9dadbdcdddedfe0e1e2e3e4"))
    -- skip 65,535
    × (write (raw 6 0 0 3 0 (pos 1) no_form (form (pos 3) (pos 0 ∷ pos 0 ∷ pos 0 ∷ []) (pos 0 ∷ pos 0 ∷ pos 0 ∷ pos 0 ∷ [])) 65535 ∷ an_end ∷ []) 2 (hex "c9cacbcccdcecfd0d1d2d3d4d5d6d7d8d9dadbdcdddedfe0e1e2e3e4") ≡ not_written 3 0 (hex "c9cacbcccdcecfd0d1d2d3d4d5d6d7d8d9dadbdcdddedfe0e1e2e3e4"))
    -- skip 0
    × (write (raw 6 0 0 3 0 (pos 1) no_form (form (pos 3) (pos 0 ∷ pos 0 ∷ pos 0 ∷ []) (pos 0 ∷ pos 0 ∷ pos 0 ∷ pos 0 ∷ [])) 0 ∷ an_end ∷ []) 2 (hex "c9cacbcccdcecfd0d1d2d3d4d5d6d7d8d9dadbdcdddedfe0e1e2e3e4") ≡ written 28 (hex "06030000000100000000000000000000030000000000000000000003"))
    -- skip equal to start
    × (write (raw 6 0 0 3 0 (pos 1) no_form (form (pos 3) (pos 0 ∷ pos 0 ∷ pos 0 ∷ []) (pos 0 ∷ pos 0 ∷ pos 0 ∷ pos 0 ∷ [])) 3 ∷ an_end ∷ []) 2 (hex "c9cacbcccdcecfd0d1d2d3d4d5d6d7d8d9dadbdcdddedfe0e1e2e3e4") ≡ written 28 (hex "06030000000100000000000000000000030000000000000000030003"))
    -- kind 2 with a skip equal to start
    × (write (raw 2 0 0 3 0 (pos 1) no_form (form (pos 3) (pos 0 ∷ pos 0 ∷ pos 0 ∷ []) (pos 0 ∷ pos 0 ∷ pos 0 ∷ pos 0 ∷ [])) 3 ∷ an_end ∷ []) 2 (hex "c9cacbcccdcecfd0d1d2d3d4d5d6d7d8d9dadbdcdddedfe0e1e2") ≡ not_written 3 0 (hex "c9cacbcccdcecfd0d1d2d3d4d5d6d7d8d9dadbdcdddedfe0e1e2"))
    -- start 4,096 of kind 6
    × (write (raw 6 0 0 4096 0 (pos 1) no_form (form (pos 3) (pos 0 ∷ pos 0 ∷ pos 0 ∷ []) (pos 0 ∷ pos 0 ∷ pos 0 ∷ pos 0 ∷ [])) 1 ∷ an_end ∷ []) 2 (hex "c9cacbcccdcecfd0d1d2d3d4d5d6d7d8d9dadbdcdddedfe0e1e2e3e4") ≡ not_written 3 0 (hex "c9cacbcccdcecfd0d1d2d3d4d5d6d7d8d9dadbdcdddedfe0e1e2e3e4"))
    -- stride 0 of kind 6
    × (write (raw 6 0 0 3 0 (pos 0) no_form (form (pos 3) (pos 0 ∷ pos 0 ∷ pos 0 ∷ []) (pos 0 ∷ pos 0 ∷ pos 0 ∷ pos 0 ∷ [])) 1 ∷ an_end ∷ []) 2 (hex "c9cacbcccdcecfd0d1d2d3d4d5d6d7d8d9dadbdcdddedfe0e1e2e3e4") ≡ not_written 3 0 (hex "c9cacbcccdcecfd0d1d2d3d4d5d6d7d8d9dadbdcdddedfe0e1e2e3e4"))
    -- stride -1,000 of kind 6
    × (write (raw 6 0 0 3 0 (negsuc 999) no_form (form (pos 3) (pos 0 ∷ pos 0 ∷ pos 0 ∷ []) (pos 0 ∷ pos 0 ∷ pos 0 ∷ pos 0 ∷ [])) 1 ∷ an_end ∷ []) 2 (hex "c9cacbcccdcecfd0d1d2d3d4d5d6d7d8d9dadbdcdddedfe0e1e2e3e4") ≡ written 28 (hex "060300000018fc000000000000000000030000000000000000010003"))
    -- stride -1,001 of kind 6
    × (write (raw 6 0 0 3 0 (negsuc 1000) no_form (form (pos 3) (pos 0 ∷ pos 0 ∷ pos 0 ∷ []) (pos 0 ∷ pos 0 ∷ pos 0 ∷ pos 0 ∷ [])) 1 ∷ an_end ∷ []) 2 (hex "c9cacbcccdcecfd0d1d2d3d4d5d6d7d8d9dadbdcdddedfe0e1e2e3e4") ≡ not_written 3 0 (hex "c9cacbcccdcecfd0d1d2d3d4d5d6d7d8d9dadbdcdddedfe0e1e2e3e4"))
    -- lower form's own depth of kind 6
    × (write (raw 6 0 0 3 0 (pos 1) (form (pos 0) (pos 1 ∷ pos 0 ∷ pos 0 ∷ []) (pos 0 ∷ pos 0 ∷ pos 0 ∷ pos 0 ∷ [])) (form (pos 3) (pos 0 ∷ pos 0 ∷ pos 0 ∷ []) (pos 0 ∷ pos 0 ∷ pos 0 ∷ pos 0 ∷ [])) 1 ∷ an_end ∷ []) 2 (hex "c9cacbcccdcecfd0d1d2d3d4d5d6d7d8d9dadbdcdddedfe0e1e2e3e4") ≡ not_written 3 0 (hex "c9cacbcccdcecfd0d1d2d3d4d5d6d7d8d9dadbdcdddedfe0e1e2e3e4"))
    -- lower form's own depth
    × (write (raw 2 0 0 0 0 (pos 1) (form (pos 0) (pos 1 ∷ pos 0 ∷ pos 0 ∷ []) (pos 0 ∷ pos 0 ∷ pos 0 ∷ pos 0 ∷ [])) (form (pos 3) (pos 0 ∷ pos 0 ∷ pos 0 ∷ []) (pos 0 ∷ pos 0 ∷ pos 0 ∷ pos 0 ∷ [])) 0 ∷ an_end ∷ []) 2 (hex "c9cacbcccdcecfd0d1d2d3d4d5d6d7d8d9dadbdcdddedfe0e1e2") ≡ not_written 3 0 (hex "c9cacbcccdcecfd0d1d2d3d4d5d6d7d8d9dadbdcdddedfe0e1e2"))
    -- upper form's depth 3
    × (write (raw 2 0 0 0 0 (pos 1) no_form (form (pos 0) (pos 0 ∷ pos 0 ∷ negsuc 0 ∷ []) (pos 0 ∷ pos 0 ∷ pos 0 ∷ pos 0 ∷ [])) 0 ∷ an_end ∷ []) 2 (hex "c9cacbcccdcecfd0d1d2d3d4d5d6d7d8d9dadbdcdddedfe0e1e2") ≡ not_written 3 0 (hex "c9cacbcccdcecfd0d1d2d3d4d5d6d7d8d9dadbdcdddedfe0e1e2"))
    -- enclosing depth
    × (write (a_loop ∷ raw 2 0 0 0 0 (pos 1) (form (pos 0) (negsuc 0 ∷ pos 0 ∷ pos 0 ∷ []) (pos 0 ∷ pos 0 ∷ pos 0 ∷ pos 0 ∷ [])) (form (pos 0) (pos 1 ∷ pos 0 ∷ pos 0 ∷ []) (pos 0 ∷ pos 0 ∷ pos 0 ∷ pos 0 ∷ [])) 0 ∷ an_end ∷ an_end ∷ []) 4 (hex "c9cacbcccdcecfd0d1d2d3d4d5d6d7d8d9dadbdcdddedfe0e1e2e3e4e5e6e7e8e9eaebecedeeeff0f1f2f3f4f5f6f7f8f9fac9ca") ≡ written 52 (hex "02000000000100000000000000000000030000000000000000020000000001000000ff0000000000000000010000000000000303"))
    -- enclosing depth of kind 6, a record's offset after it
    × (write (a_skip_loop ∷ raw 2 0 0 0 0 (pos 1) (form (pos 0) (negsuc 0 ∷ pos 0 ∷ pos 0 ∷ []) (pos 0 ∷ pos 0 ∷ pos 0 ∷ pos 0 ∷ [])) (form (pos 0) (pos 1 ∷ pos 0 ∷ pos 0 ∷ []) (pos 0 ∷ pos 0 ∷ pos 0 ∷ pos 0 ∷ [])) 0 ∷ raw 1 2 1 0 0 (pos 0) no_form no_form 0 ∷ []) 3 (hex "c9cacbcccdcecfd0d1d2d3d4d5d6d7d8d9dadbdcdddedfe0e1e2e3e4e5e6e7e8e9eaebecedeeeff0f1f2f3f4f5f6f7f8f9fac9cacbcccdcecfd0d1d2") ≡ not_written 3 52 (hex "c9cacbcccdcecfd0d1d2d3d4d5d6d7d8d9dadbdcdddedfe0e1e2e3e4e5e6e7e8e9eaebecedeeeff0f1f2f3f4f5f6f7f8f9fac9cacbcccdcecfd0d1d2"))
    -- own depth 2
    × (write (a_loop ∷ raw 2 0 0 0 0 (pos 1) no_form (form (pos 0) (pos 0 ∷ pos 1 ∷ pos 0 ∷ []) (pos 0 ∷ pos 0 ∷ pos 0 ∷ pos 0 ∷ [])) 0 ∷ []) 2 (hex "c9cacbcccdcecfd0d1d2d3d4d5d6d7d8d9dadbdcdddedfe0e1e2e3e4e5e6") ≡ not_written 3 25 (hex "c9cacbcccdcecfd0d1d2d3d4d5d6d7d8d9dadbdcdddedfe0e1e2e3e4e5e6"))
    -- a choice is no depth
    × (write (a_choice ∷ raw 2 0 0 0 0 (pos 1) no_form (form (pos 0) (pos 1 ∷ pos 0 ∷ pos 0 ∷ []) (pos 0 ∷ pos 0 ∷ pos 0 ∷ pos 0 ∷ [])) 0 ∷ []) 2 (hex "c9cacbcccdcecfd0d1d2d3d4d5d6d7d8d9dadbdcdddedfe0e1e2e3e4e5e6") ≡ not_written 3 1 (hex "c9cacbcccdcecfd0d1d2d3d4d5d6d7d8d9dadbdcdddedfe0e1e2e3e4e5e6"))
    -- work with a start
    × (write (a_choice ∷ raw 1 1 2 1 0 (pos 0) no_form no_form 0 ∷ []) 2 (hex "c9cacbcc") ≡ not_written 3 1 (hex "c9cacbcc"))
    -- work with a step
    × (write (a_choice ∷ raw 1 1 2 0 1 (pos 0) no_form no_form 0 ∷ []) 2 (hex "c9cacbcc") ≡ not_written 3 1 (hex "c9cacbcc"))
unfolding computes
writer-3 = (refl, refl, refl, refl, refl, refl, refl, refl, refl, refl, refl, refl, refl, refl, refl, refl, refl, refl, refl, refl)

pub writer-4 :
    -- work with a stride
    (write (a_choice ∷ raw 1 1 2 0 0 (pos 1) no_form no_form 0 ∷ []) 2 (hex "c9cacbcc") ≡ not_written 3 1 (hex "c9cacbcc"))
    -- work with a lower
    × (write (a_choice ∷ raw 1 1 2 0 0 (pos 0) (form (pos 1) (pos 0 ∷ pos 0 ∷ pos 0 ∷ []) (pos 0 ∷ pos 0 ∷ pos 0 ∷ pos 0 ∷ [])) no_form 0 ∷ []) 2 (hex "c9cacbcc") ≡ not_written 3 1 (hex "c9cacbcc"))
    -- work with a upper
    × (write (a_choice ∷ raw 1 1 2 0 0 (pos 0) no_form (form (pos 0) (pos 0 ∷ pos 0 ∷ pos 0 ∷ []) (pos 0 ∷ pos 0 ∷ pos 0 ∷ negsuc 0 ∷ [])) 0 ∷ []) 2 (hex "c9cacbcc") ≡ not_written 3 1 (hex "c9cacbcc"))
    -- work with a skip
    × (write (a_choice ∷ raw 1 1 2 0 0 (pos 0) no_form no_form 1 ∷ []) 2 (hex "c9cacbcc") ≡ not_written 3 1 (hex "c9cacbcc"))
    -- work with a stride of -1
    × (write (a_choice ∷ raw 1 1 2 0 0 (negsuc 0) no_form no_form 0 ∷ []) 2 (hex "c9cacbcc") ≡ not_written 3 1 (hex "c9cacbcc"))
    -- loop with a least
    × (write (a_choice ∷ raw 2 1 0 0 0 (pos 1) no_form (form (pos 3) (pos 0 ∷ pos 0 ∷ pos 0 ∷ []) (pos 0 ∷ pos 0 ∷ pos 0 ∷ pos 0 ∷ [])) 0 ∷ []) 2 (hex "c9cacbcc") ≡ not_written 3 1 (hex "c9cacbcc"))
    -- loop with a most
    × (write (a_choice ∷ raw 2 0 1 0 0 (pos 1) no_form (form (pos 3) (pos 0 ∷ pos 0 ∷ pos 0 ∷ []) (pos 0 ∷ pos 0 ∷ pos 0 ∷ pos 0 ∷ [])) 0 ∷ []) 2 (hex "c9cacbcc") ≡ not_written 3 1 (hex "c9cacbcc"))
    -- loop with a skip
    × (write (a_choice ∷ raw 2 0 0 0 0 (pos 1) no_form (form (pos 3) (pos 0 ∷ pos 0 ∷ pos 0 ∷ []) (pos 0 ∷ pos 0 ∷ pos 0 ∷ pos 0 ∷ [])) 1 ∷ []) 2 (hex "c9cacbcc") ≡ not_written 3 1 (hex "c9cacbcc"))
    -- end with a least
    × (write (a_choice ∷ raw 3 1 0 0 0 (pos 0) no_form no_form 0 ∷ []) 2 (hex "c9cacbcc") ≡ not_written 3 1 (hex "c9cacbcc"))
    -- end with a most
    × (write (a_choice ∷ raw 3 0 1 0 0 (pos 0) no_form no_form 0 ∷ []) 2 (hex "c9cacbcc") ≡ not_written 3 1 (hex "c9cacbcc"))
    -- end with a start
    × (write (a_choice ∷ raw 3 0 0 1 0 (pos 0) no_form no_form 0 ∷ []) 2 (hex "c9cacbcc") ≡ not_written 3 1 (hex "c9cacbcc"))
    -- end with a step
    × (write (a_choice ∷ raw 3 0 0 0 1 (pos 0) no_form no_form 0 ∷ []) 2 (hex "c9cacbcc") ≡ not_written 3 1 (hex "c9cacbcc"))
    -- end with a stride
    × (write (a_choice ∷ raw 3 0 0 0 0 (pos 1) no_form no_form 0 ∷ []) 2 (hex "c9cacbcc") ≡ not_written 3 1 (hex "c9cacbcc"))
    -- end with a lower
    × (write (a_choice ∷ raw 3 0 0 0 0 (pos 0) (form (pos 1) (pos 0 ∷ pos 0 ∷ pos 0 ∷ []) (pos 0 ∷ pos 0 ∷ pos 0 ∷ pos 0 ∷ [])) no_form 0 ∷ []) 2 (hex "c9cacbcc") ≡ not_written 3 1 (hex "c9cacbcc"))
    -- end with a upper
    × (write (a_choice ∷ raw 3 0 0 0 0 (pos 0) no_form (form (pos 0) (pos 0 ∷ pos 0 ∷ pos 0 ∷ []) (pos 0 ∷ pos 0 ∷ pos 0 ∷ negsuc 0 ∷ [])) 0 ∷ []) 2 (hex "c9cacbcc") ≡ not_written 3 1 (hex "c9cacbcc"))
    -- end with a skip
    × (write (a_choice ∷ raw 3 0 0 0 0 (pos 0) no_form no_form 1 ∷ []) 2 (hex "c9cacbcc") ≡ not_written 3 1 (hex "c9cacbcc"))
    -- end with a stride of -1
    × (write (a_choice ∷ raw 3 0 0 0 0 (negsuc 0) no_form no_form 0 ∷ []) 2 (hex "c9cacbcc") ≡ not_written 3 1 (hex "c9cacbcc"))
    -- choice with a least
    × (write (a_choice ∷ raw 4 1 0 0 0 (pos 0) no_form no_form 0 ∷ []) 2 (hex "c9cacbcc") ≡ not_written 3 1 (hex "c9cacbcc"))
    -- choice with a most
    × (write (a_choice ∷ raw 4 0 1 0 0 (pos 0) no_form no_form 0 ∷ []) 2 (hex "c9cacbcc") ≡ not_written 3 1 (hex "c9cacbcc"))
    -- choice with a start
    × (write (a_choice ∷ raw 4 0 0 1 0 (pos 0) no_form no_form 0 ∷ []) 2 (hex "c9cacbcc") ≡ not_written 3 1 (hex "c9cacbcc"))
unfolding computes
writer-4 = (refl, refl, refl, refl, refl, refl, refl, refl, refl, refl, refl, refl, refl, refl, refl, refl, refl, refl, refl, refl)

pub writer-5 :
    -- choice with a step
    (write (a_choice ∷ raw 4 0 0 0 1 (pos 0) no_form no_form 0 ∷ []) 2 (hex "c9cacbcc") ≡ not_written 3 1 (hex "c9cacbcc"))
    -- choice with a stride
    × (write (a_choice ∷ raw 4 0 0 0 0 (pos 1) no_form no_form 0 ∷ []) 2 (hex "c9cacbcc") ≡ not_written 3 1 (hex "c9cacbcc"))
    -- choice with a lower
    × (write (a_choice ∷ raw 4 0 0 0 0 (pos 0) (form (pos 1) (pos 0 ∷ pos 0 ∷ pos 0 ∷ []) (pos 0 ∷ pos 0 ∷ pos 0 ∷ pos 0 ∷ [])) no_form 0 ∷ []) 2 (hex "c9cacbcc") ≡ not_written 3 1 (hex "c9cacbcc"))
    -- choice with a upper
    × (write (a_choice ∷ raw 4 0 0 0 0 (pos 0) no_form (form (pos 0) (pos 0 ∷ pos 0 ∷ pos 0 ∷ []) (pos 0 ∷ pos 0 ∷ pos 0 ∷ negsuc 0 ∷ [])) 0 ∷ []) 2 (hex "c9cacbcc") ≡ not_written 3 1 (hex "c9cacbcc"))
    -- choice with a skip
    × (write (a_choice ∷ raw 4 0 0 0 0 (pos 0) no_form no_form 1 ∷ []) 2 (hex "c9cacbcc") ≡ not_written 3 1 (hex "c9cacbcc"))
    -- choice with a stride of -1
    × (write (a_choice ∷ raw 4 0 0 0 0 (negsuc 0) no_form no_form 0 ∷ []) 2 (hex "c9cacbcc") ≡ not_written 3 1 (hex "c9cacbcc"))
    -- next arm with a least
    × (write (a_choice ∷ raw 5 1 0 0 0 (pos 0) no_form no_form 0 ∷ []) 2 (hex "c9cacbcc") ≡ not_written 3 1 (hex "c9cacbcc"))
    -- next arm with a most
    × (write (a_choice ∷ raw 5 0 1 0 0 (pos 0) no_form no_form 0 ∷ []) 2 (hex "c9cacbcc") ≡ not_written 3 1 (hex "c9cacbcc"))
    -- next arm with a start
    × (write (a_choice ∷ raw 5 0 0 1 0 (pos 0) no_form no_form 0 ∷ []) 2 (hex "c9cacbcc") ≡ not_written 3 1 (hex "c9cacbcc"))
    -- next arm with a step
    × (write (a_choice ∷ raw 5 0 0 0 1 (pos 0) no_form no_form 0 ∷ []) 2 (hex "c9cacbcc") ≡ not_written 3 1 (hex "c9cacbcc"))
    -- next arm with a stride
    × (write (a_choice ∷ raw 5 0 0 0 0 (pos 1) no_form no_form 0 ∷ []) 2 (hex "c9cacbcc") ≡ not_written 3 1 (hex "c9cacbcc"))
    -- next arm with a lower
    × (write (a_choice ∷ raw 5 0 0 0 0 (pos 0) (form (pos 1) (pos 0 ∷ pos 0 ∷ pos 0 ∷ []) (pos 0 ∷ pos 0 ∷ pos 0 ∷ pos 0 ∷ [])) no_form 0 ∷ []) 2 (hex "c9cacbcc") ≡ not_written 3 1 (hex "c9cacbcc"))
    -- next arm with a upper
    × (write (a_choice ∷ raw 5 0 0 0 0 (pos 0) no_form (form (pos 0) (pos 0 ∷ pos 0 ∷ pos 0 ∷ []) (pos 0 ∷ pos 0 ∷ pos 0 ∷ negsuc 0 ∷ [])) 0 ∷ []) 2 (hex "c9cacbcc") ≡ not_written 3 1 (hex "c9cacbcc"))
    -- next arm with a skip
    × (write (a_choice ∷ raw 5 0 0 0 0 (pos 0) no_form no_form 1 ∷ []) 2 (hex "c9cacbcc") ≡ not_written 3 1 (hex "c9cacbcc"))
    -- next arm with a stride of -1
    × (write (a_choice ∷ raw 5 0 0 0 0 (negsuc 0) no_form no_form 0 ∷ []) 2 (hex "c9cacbcc") ≡ not_written 3 1 (hex "c9cacbcc"))
    -- loop of kind 6 with a least
    × (write (a_choice ∷ raw 6 1 0 3 0 (pos 1) no_form (form (pos 3) (pos 0 ∷ pos 0 ∷ pos 0 ∷ []) (pos 0 ∷ pos 0 ∷ pos 0 ∷ pos 0 ∷ [])) 1 ∷ []) 2 (hex "c9cacbcc") ≡ not_written 3 1 (hex "c9cacbcc"))
    -- loop of kind 6 with a most
    × (write (a_choice ∷ raw 6 0 1 3 0 (pos 1) no_form (form (pos 3) (pos 0 ∷ pos 0 ∷ pos 0 ∷ []) (pos 0 ∷ pos 0 ∷ pos 0 ∷ pos 0 ∷ [])) 1 ∷ []) 2 (hex "c9cacbcc") ≡ not_written 3 1 (hex "c9cacbcc"))
    -- end with a factor
    × (write (a_choice ∷ raw 3 0 0 0 0 (pos 0) (form (pos 0) (pos 1 ∷ pos 0 ∷ pos 0 ∷ []) (pos 0 ∷ pos 0 ∷ pos 0 ∷ pos 0 ∷ [])) no_form 0 ∷ []) 2 (hex "c9cacbcc") ≡ not_written 3 1 (hex "c9cacbcc"))
    -- end with a factor
    × (write (a_choice ∷ raw 3 0 0 0 0 (pos 0) (form (pos 0) (pos 0 ∷ pos 1 ∷ pos 0 ∷ []) (pos 0 ∷ pos 0 ∷ pos 0 ∷ pos 0 ∷ [])) no_form 0 ∷ []) 2 (hex "c9cacbcc") ≡ not_written 3 1 (hex "c9cacbcc"))
    -- end with a factor
    × (write (a_choice ∷ raw 3 0 0 0 0 (pos 0) (form (pos 0) (pos 0 ∷ pos 0 ∷ negsuc 0 ∷ []) (pos 0 ∷ pos 0 ∷ pos 0 ∷ pos 0 ∷ [])) no_form 0 ∷ []) 2 (hex "c9cacbcc") ≡ not_written 3 1 (hex "c9cacbcc"))
unfolding computes
writer-5 = (refl, refl, refl, refl, refl, refl, refl, refl, refl, refl, refl, refl, refl, refl, refl, refl, refl, refl, refl, refl)

pub writer-6 :
    -- end with a factor
    (write (a_choice ∷ raw 3 0 0 0 0 (pos 0) (form (pos 0) (pos 0 ∷ pos 0 ∷ pos 0 ∷ []) (pos 1 ∷ pos 0 ∷ pos 0 ∷ pos 0 ∷ [])) no_form 0 ∷ []) 2 (hex "c9cacbcc") ≡ not_written 3 1 (hex "c9cacbcc"))
    -- end with a factor
    × (write (a_choice ∷ raw 3 0 0 0 0 (pos 0) (form (pos 0) (pos 0 ∷ pos 0 ∷ pos 0 ∷ []) (pos 0 ∷ pos 1 ∷ pos 0 ∷ pos 0 ∷ [])) no_form 0 ∷ []) 2 (hex "c9cacbcc") ≡ not_written 3 1 (hex "c9cacbcc"))
    -- end with a factor
    × (write (a_choice ∷ raw 3 0 0 0 0 (pos 0) (form (pos 0) (pos 0 ∷ pos 0 ∷ pos 0 ∷ []) (pos 0 ∷ pos 0 ∷ pos 1 ∷ pos 0 ∷ [])) no_form 0 ∷ []) 2 (hex "c9cacbcc") ≡ not_written 3 1 (hex "c9cacbcc"))
    -- end with nothing open
    × (write (an_end ∷ []) 1 (hex "c9cacbcc") ≡ not_written 5 0 (hex "c9cacbcc"))
    -- end with nothing open, later
    × (write (a_work ∷ a_choice ∷ an_end ∷ an_end ∷ []) 4 (hex "c9cacbcc") ≡ not_written 5 7 (hex "c9cacbcc"))
    -- next arm with nothing open
    × (write (a_next_arm ∷ []) 1 (hex "c9cacbcc") ≡ not_written 5 0 (hex "c9cacbcc"))
    -- next arm in a loop in a choice
    × (write (a_choice ∷ a_loop ∷ a_next_arm ∷ []) 3 (hex "c9cacbcc") ≡ not_written 5 26 (hex "c9cacbcc"))
    -- fifth loop depth
    × (write (a_loop ∷ a_loop ∷ a_loop ∷ a_loop ∷ a_loop ∷ []) 5 (hex "c9cacbcc") ≡ not_written 5 100 (hex "c9cacbcc"))
    -- fifth loop depth, kinds 2 and 6 in turn
    × (write (a_loop ∷ a_skip_loop ∷ a_loop ∷ a_skip_loop ∷ a_skip_loop ∷ []) 5 (hex "c9cacbcc") ≡ not_written 5 104 (hex "c9cacbcc"))
    -- next arm in a loop of kind 6
    × (write (a_choice ∷ a_skip_loop ∷ a_next_arm ∷ []) 3 (hex "c9cacbcc") ≡ not_written 5 28 (hex "c9cacbcc"))
    -- 3 before 5 at the fifth depth
    × (write (a_loop ∷ a_loop ∷ a_loop ∷ a_loop ∷ raw 2 0 0 0 0 (pos 0) no_form (form (pos 3) (pos 0 ∷ pos 0 ∷ pos 0 ∷ []) (pos 0 ∷ pos 0 ∷ pos 0 ∷ pos 0 ∷ [])) 0 ∷ []) 5 (hex "c9cacbcc") ≡ not_written 3 100 (hex "c9cacbcc"))
    -- fifth depth, factors of all three depths
    × (write (a_loop ∷ a_loop ∷ a_loop ∷ a_loop ∷ raw 2 0 0 0 0 (pos 1) (form (pos 0) (pos 1 ∷ pos 1 ∷ pos 1 ∷ []) (pos 0 ∷ pos 0 ∷ pos 0 ∷ pos 0 ∷ [])) no_form 0 ∷ []) 5 (hex "c9cacbcc") ≡ not_written 5 100 (hex "c9cacbcc"))
    -- ninth open record, a choice
    × (write (a_choice ∷ a_choice ∷ a_choice ∷ a_choice ∷ a_choice ∷ a_choice ∷ a_choice ∷ a_choice ∷ a_choice ∷ []) 9 (hex "c9cacbcc") ≡ not_written 5 8 (hex "c9cacbcc"))
    -- ninth open record, a loop
    × (write (a_choice ∷ a_choice ∷ a_choice ∷ a_choice ∷ a_choice ∷ a_choice ∷ a_choice ∷ a_choice ∷ a_loop ∷ []) 9 (hex "c9cacbcc") ≡ not_written 5 8 (hex "c9cacbcc"))
    -- ninth open record, a loop of kind 6
    × (write (a_choice ∷ a_choice ∷ a_choice ∷ a_choice ∷ a_choice ∷ a_choice ∷ a_choice ∷ a_choice ∷ a_skip_loop ∷ []) 9 (hex "c9cacbcc") ≡ not_written 5 8 (hex "c9cacbcc"))
    -- eight open
    × (write (a_choice ∷ a_choice ∷ a_choice ∷ a_choice ∷ a_choice ∷ a_choice ∷ a_choice ∷ a_choice ∷ an_end ∷ an_end ∷ an_end ∷ an_end ∷ an_end ∷ an_end ∷ an_end ∷ an_end ∷ []) 16 (hex "c9cacbcccdcecfd0d1d2d3d4d5d6d7d8") ≡ written 16 (hex "04040404040404040303030303030303"))
    -- open at the end
    × (write (a_work ∷ a_choice ∷ []) 2 (hex "c9cacbcc") ≡ not_written 5 6 (hex "c9cacbcc"))
    -- a loop open at the end
    × (write (a_loop ∷ a_work ∷ []) 2 (hex "c9cacbcccdcecfd0d1d2d3d4d5d6d7d8d9dadbdcdddedfe0e1e2e3e4e5e6e7e8e9eaebecedeeeff0") ≡ not_written 5 30 (hex "c9cacbcccdcecfd0d1d2d3d4d5d6d7d8d9dadbdcdddedfe0e1e2e3e4e5e6e7e8e9eaebecedeeeff0"))
    -- 3 before 5
    × (write (raw 3 0 1 0 0 (pos 0) no_form no_form 0 ∷ []) 1 (hex "c9cacbcc") ≡ not_written 3 0 (hex "c9cacbcc"))
    -- 5 of the first before 2 of the second
    × (write (an_end ∷ raw 9 0 0 0 0 (pos 0) no_form no_form 0 ∷ []) 2 (hex "c9cacbcc") ≡ not_written 5 0 (hex "c9cacbcc"))
unfolding computes
writer-6 = (refl, refl, refl, refl, refl, refl, refl, refl, refl, refl, refl, refl, refl, refl, refl, refl, refl, refl, refl, refl)

pub writer-7 :
    -- open at the end before 9
    (write (a_choice ∷ []) 1 [] ≡ not_written 5 1 [])
unfolding computes
writer-7 = refl

pub c-call-1 :
    -- area of 24 bytes
    (c_call (hex "0200000000010000000000000000000009000000000000000002000000000100000000000000000000ffff0100000000000001010001000303") zero_parameters 100 (hex "65666768696a6b6c6d6e6f707172737475767778797a7b7c") ≡ called 0 (hex "2d000000000000002d000000000000000300000000000000"))
    -- area of 27 bytes: the last three stay
    × (c_call (hex "0200000000010000000000000000000009000000000000000002000000000100000000000000000000ffff0100000000000001010001000303") zero_parameters 100 (hex "65666768696a6b6c6d6e6f707172737475767778797a7b7c7d7e7f") ≡ called 0 (hex "2d000000000000002d0000000000000003000000000000007d7e7f"))
    -- area of 23 bytes
    × (c_call (hex "0200000000010000000000000000000009000000000000000002000000000100000000000000000000ffff0100000000000001010001000303") zero_parameters 100 (hex "65666768696a6b6c6d6e6f707172737475767778797a7b") ≡ called 9 (hex "65666768696a6b6c6d6e6f707172737475767778797a7b"))
    -- no area
    × (c_call (hex "0200000000010000000000000000000009000000000000000002000000000100000000000000000000ffff0100000000000001010001000303") zero_parameters 100 [] ≡ called 9 [])
    -- 9 before 7 and 2
    × (c_call (hex "09") zero_parameters 0 (hex "65") ≡ called 9 (hex "65"))
    -- empty sheet
    × (c_call [] zero_parameters 1 (hex "65666768696a6b6c6d6e6f707172737475767778797a7b7c") ≡ called 0 (hex "000000000000000000000000000000000000000000000000"))
    -- low byte first
    × (c_call (hex "0101002c0102ff0fff0f0100000000000000000000ff0700000000000000010000ff0f03") zero_parameters 1 (hex "65666768696a6b6c6d6e6f707172737475767778797a7b7c7d") ≡ called 0 (hex "00088000000000002b0100010000000001000000000000007d"))
    -- a parameter
    × (c_call (hex "020000000001000100000000000000000000000000010000000200000000010000000100000000000000000000000100000001010001000303") (pos 100 ∷ pos 0 ∷ pos 0 ∷ pos 0 ∷ []) 4 (hex "65666768696a6b6c6d6e6f707172737475767778797a7b7c") ≡ called 0 (hex "ba13000000000000ba130000000000000400000000000000"))
    -- budget 0
    × (c_call (hex "0200000000010000000000000000000009000000000000000002000000000100000000000000000000ffff0100000000000001010001000303") zero_parameters 0 (hex "65666768696a6b6c6d6e6f707172737475767778797a7b7c") ≡ called 7 (hex "65666768696a6b6c6d6e6f707172737475767778797a7b7c"))
    -- budget 1,000,000
    × (c_call (hex "0103000500") zero_parameters 1000000 (hex "65666768696a6b6c6d6e6f707172737475767778797a7b7c") ≡ called 0 (hex "030000000000000005000000000000000000000000000000"))
    -- budget 1,000,001
    × (c_call (hex "0103000500") zero_parameters 1000001 (hex "65666768696a6b6c6d6e6f707172737475767778797a7b7c") ≡ called 7 (hex "65666768696a6b6c6d6e6f707172737475767778797a7b7c"))
    -- budget 2^32 - 1, before 2
    × (c_call (hex "09") zero_parameters 4294967295 (hex "65666768696a6b6c6d6e6f707172737475767778797a7b7c7d") ≡ called 7 (hex "65666768696a6b6c6d6e6f707172737475767778797a7b7c7d"))
    -- 1
    × (c_call (hex "0200000000010000000000000000000009000000") zero_parameters 1 (hex "65666768696a6b6c6d6e6f707172737475767778797a7b7c7d7e") ≡ called 1 (hex "65666768696a6b6c6d6e6f707172737475767778797a7b7c7d7e"))
    -- 2
    × (c_call (hex "010300050007") zero_parameters 1 (hex "65666768696a6b6c6d6e6f707172737475767778797a7b7c7d7e") ≡ called 2 (hex "65666768696a6b6c6d6e6f707172737475767778797a7b7c7d7e"))
    -- 3
    × (c_call (hex "0100000010") zero_parameters 1 (hex "65666768696a6b6c6d6e6f707172737475767778797a7b7c") ≡ called 3 (hex "65666768696a6b6c6d6e6f707172737475767778797a7b7c"))
    -- 4
    × (c_call (hex "040304030403040304030403040304030403040304030403040304030403040304030403040304030403040304030403040304030403040304030403040304030403040304030403040304030403040304030403040304030403040304030403040304030403040304030403040304030403040304030403040304030403040309") zero_parameters 1 (hex "65666768696a6b6c6d6e6f707172737475767778797a7b7c") ≡ called 4 (hex "65666768696a6b6c6d6e6f707172737475767778797a7b7c"))
    -- 5
    × (c_call (hex "03") zero_parameters 1 (hex "65666768696a6b6c6d6e6f707172737475767778797a7b7c") ≡ called 5 (hex "65666768696a6b6c6d6e6f707172737475767778797a7b7c"))
    -- 5, open at the end
    × (c_call (hex "04") zero_parameters 1 (hex "65666768696a6b6c6d6e6f707172737475767778797a7b7c") ≡ called 5 (hex "65666768696a6b6c6d6e6f707172737475767778797a7b7c"))
    -- 6
    × (c_call (hex "0200000000010000000000000000000000080000000000000003") zero_parameters 1 (hex "65666768696a6b6c6d6e6f707172737475767778797a7b7c") ≡ called 6 (hex "65666768696a6b6c6d6e6f707172737475767778797a7b7c"))
    -- skip in place of start
    × (c_call (hex "06050009000100000000000000000000ffff000000000000000200010300050003") zero_parameters 1 (hex "65666768696a6b6c6d6e6f707172737475767778797a7b7c") ≡ called 0 (hex "020000000000000002000000000000000000000000000000"))
unfolding computes
c-call-1 = (refl, refl, refl, refl, refl, refl, refl, refl, refl, refl, refl, refl, refl, refl, refl, refl, refl, refl, refl, refl)

pub c-call-2 :
    -- counting down
    (c_call (hex "0200000000ffff0900000000000000000000000000000000000200000000feff00000100000000000000000000000000000001010002000303") zero_parameters 20 (hex "65666768696a6b6c6d6e6f707172737475767778797a7b7c") ≡ called 0 (hex "1e000000000000003c000000000000001400000000000000"))
    -- counting down, stride -1,001
    × (c_call (hex "020000000017fc01000000000000000000000000000000000003") zero_parameters 1 (hex "65666768696a6b6c6d6e6f707172737475767778797a7b7c") ≡ called 3 (hex "65666768696a6b6c6d6e6f707172737475767778797a7b7c"))
    -- 20 visits, budget 20
    × (c_call (hex "020000000001000000000000000000000900000000000000000200000000020000000000000000000000000100000000000001010001000303") zero_parameters 20 (hex "65666768696a6b6c6d6e6f707172737475767778797a7b7c") ≡ called 0 (hex "1e000000000000001e000000000000001400000000000000"))
    -- 20 visits, budget 19
    × (c_call (hex "020000000001000000000000000000000900000000000000000200000000020000000000000000000000000100000000000001010001000303") zero_parameters 19 (hex "65666768696a6b6c6d6e6f707172737475767778797a7b7c") ≡ called 8 (hex "65666768696a6b6c6d6e6f707172737475767778797a7b7c"))
unfolding computes
c-call-2 = (refl, refl, refl, refl)

pub record-reader-1 :
    -- choice
    (head_at (hex "04020000000001000000000000000000000300000000000000000101000200030503") 0 ≡ found 4 1 0)
    × (body_at (hex "04020000000001000000000000000000000300000000000000000101000200030503") 0 ≡ [])
    -- loop
    × (head_at (hex "04020000000001000000000000000000000300000000000000000101000200030503") 1 ≡ found 2 2 24)
    × (body_at (hex "04020000000001000000000000000000000300000000000000000101000200030503") 1 ≡ (hex "000000000100000000000000000000030000000000000000"))
    -- work
    × (head_at (hex "04020000000001000000000000000000000300000000000000000101000200030503") 26 ≡ found 1 27 4)
    × (body_at (hex "04020000000001000000000000000000000300000000000000000101000200030503") 26 ≡ (hex "01000200"))
    -- end
    × (head_at (hex "04020000000001000000000000000000000300000000000000000101000200030503") 31 ≡ found 3 32 0)
    × (body_at (hex "04020000000001000000000000000000000300000000000000000101000200030503") 31 ≡ [])
    -- next arm
    × (head_at (hex "04020000000001000000000000000000000300000000000000000101000200030503") 32 ≡ found 5 33 0)
    × (body_at (hex "04020000000001000000000000000000000300000000000000000101000200030503") 32 ≡ [])
    -- last record
    × (head_at (hex "04020000000001000000000000000000000300000000000000000101000200030503") 33 ≡ found 3 34 0)
    × (body_at (hex "04020000000001000000000000000000000300000000000000000101000200030503") 33 ≡ [])
    -- the sheet's end
    × (head_at (hex "04020000000001000000000000000000000300000000000000000101000200030503") 34 ≡ sheet_end)
    × (body_at (hex "04020000000001000000000000000000000300000000000000000101000200030503") 34 ≡ [])
    -- past the sheet's end
    × (head_at (hex "04020000000001000000000000000000000300000000000000000101000200030503") 35 ≡ sheet_end)
    × (body_at (hex "04020000000001000000000000000000000300000000000000000101000200030503") 35 ≡ [])
    -- empty sheet
    × (head_at [] 0 ≡ sheet_end)
    × (body_at [] 0 ≡ [])
    -- inside a body
    × (head_at (hex "04020000000001000000000000000000000300000000000000000101000200030503") 2 ≡ refused 2 2)
    × (body_at (hex "04020000000001000000000000000000000300000000000000000101000200030503") 2 ≡ [])
unfolding computes
record-reader-1 = (refl, refl, refl, refl, refl, refl, refl, refl, refl, refl, refl, refl, refl, refl, refl, refl, refl, refl, refl, refl)

pub record-reader-2 :
    -- loop, one byte short
    (head_at (hex "04020000000001000000000000000000000300000000000000") 1 ≡ refused 1 1)
    × (body_at (hex "04020000000001000000000000000000000300000000000000") 1 ≡ [])
    -- loop, just whole
    × (head_at (hex "0402000000000100000000000000000000030000000000000000") 1 ≡ found 2 2 24)
    × (body_at (hex "0402000000000100000000000000000000030000000000000000") 1 ≡ (hex "000000000100000000000000000000030000000000000000"))
    -- kind alone
    × (head_at (hex "02") 0 ≡ refused 1 0)
    × (body_at (hex "02") 0 ≡ [])
    -- work, one byte short
    × (head_at (hex "01030005") 0 ≡ refused 1 0)
    × (body_at (hex "01030005") 0 ≡ [])
    -- work, just whole
    × (head_at (hex "0103000500") 0 ≡ found 1 1 4)
    × (body_at (hex "0103000500") 0 ≡ (hex "03000500"))
    -- kind 0
    × (head_at (hex "00") 0 ≡ refused 2 0)
    × (body_at (hex "00") 0 ≡ [])
    -- loop of kind 6, just whole
    × (head_at (hex "06050009000100000000000000000000ffff000000000000000200") 0 ≡ found 6 1 26)
    × (body_at (hex "06050009000100000000000000000000ffff000000000000000200") 0 ≡ (hex "050009000100000000000000000000ffff000000000000000200"))
    -- loop of kind 6, one byte short
    × (head_at (hex "06050009000100000000000000000000ffff0000000000000002") 0 ≡ refused 1 0)
    × (body_at (hex "06050009000100000000000000000000ffff0000000000000002") 0 ≡ [])
    -- after a loop of kind 6
    × (head_at (hex "06050009000100000000000000000000ffff000000000000000200010300050003") 27 ≡ found 1 28 4)
    × (body_at (hex "06050009000100000000000000000000ffff000000000000000200010300050003") 27 ≡ (hex "03000500"))
    -- kind 7
    × (head_at (hex "010300050007") 5 ≡ refused 2 5)
    × (body_at (hex "010300050007") 5 ≡ [])
unfolding computes
record-reader-2 = (refl, refl, refl, refl, refl, refl, refl, refl, refl, refl, refl, refl, refl, refl, refl, refl, refl, refl, refl, refl)

pub record-reader-3 :
    -- kind 255
    (head_at (hex "03ff03") 1 ≡ refused 2 1)
    × (body_at (hex "03ff03") 1 ≡ [])
    -- fields are not looked at
    × (head_at (hex "01ffff0000") 0 ≡ found 1 1 4)
    × (body_at (hex "01ffff0000") 0 ≡ (hex "ffff0000"))
unfolding computes
record-reader-3 = (refl, refl, refl, refl)

pub program-text-1 :
    -- the printed example
    (program_text (hex "0000000000000000640000000200000000010000000000000000000009000000000000000002000000000100000000000000000000ffff0100000000000001010001000303") ≡ (text "best 45 worst 45 visits 3\nloop 0 closed ceiling 10\nloop 25 closed ceiling 9\n"))
    -- walked
    × (program_text (hex "000000000000000064000000020000000001000000000000000000000900000000000000000200000000020000000000000000000000000100000000000001010001000303") ≡ (text "best 30 worst 30 visits 20\nloop 0 walked ceiling 10\nloop 25 is uneven in loop 0\nloop 25 closed ceiling 5\n"))
    -- empty sheet
    × (program_text (hex "000000000000000064000000") ≡ (text "best 0 worst 0 visits 0\n"))
    -- no input
    × (program_text [] ≡ (text "refused 1 at 0\n"))
    -- 11 bytes
    × (program_text (hex "0000000000000000640000") ≡ (text "refused 1 at 0\n"))
    -- 2 at a place of two digits
    × (program_text (hex "0000000000000000640000000103000500010300050007") ≡ (text "refused 2 at 10\n"))
    -- skip in place of start
    × (program_text (hex "00000000000000006400000006050009000100000000000000000000ffff000000000000000200010300050003") ≡ (text "best 2 worst 2 visits 0\nloop 0 closed ceiling 0\n"))
    -- walked, since skip and start differ
    × (program_text (hex "0000000000000000640000000200000000010000000000000000000003000000000000000006050000000100000000000000000000ffff01000000000000010001030005000303") ≡ (text "best 34 worst 46 visits 7\nloop 0 walked ceiling 4\nloop 25 may fall below no trips\nloop 25 closed ceiling 3\n"))
    -- counting down, walked
    × (program_text (hex "0000000000000000640000000200000000ffff0900000000000000000000000000000000000200000000feff00000100000000000000000000000000000001010002000303") ≡ (text "best 30 worst 60 visits 20\nloop 0 walked ceiling 10\nloop 25 is uneven in loop 0\nloop 25 closed ceiling 5\n"))
    -- budget 0
    × (program_text (hex "0000000000000000000000000200000000010000000000000000000009000000000000000002000000000100000000000000000000ffff0100000000000001010001000303") ≡ (text "refused 7 at 0\n"))
    -- budget's third byte
    × (program_text (hex "0000000000000000000001000103000500") ≡ (text "best 3 worst 5 visits 0\n"))
    -- budget's fourth byte
    × (program_text (hex "0000000000000000010000010103000500") ≡ (text "refused 7 at 0\n"))
    -- 8
    × (program_text (hex "0000000000000000020000000200000000010000000000000000000009000000000000000002000000000100000000000000000000ffff0100000000000001010001000303") ≡ (text "refused 8 at 0\n"))
    -- 6 in the second loop
    × (program_text (hex "0000000000000000640000000200000000010000000000000000000001000000000000000002000000000100000000000000000000ff07010000000000000303") ≡ (text "refused 6 at 25\n"))
    -- parameters in order, signed
    × (program_text (hex "fbff0400d4fe140064000000020000000002000000000000010000fe00000000000003ff000101000a0003") ≡ (text "best 179 worst 1790 visits 1\nloop 0 closed ceiling 179\n"))
    -- parameters 2 and 4 negative
    × (program_text (hex "0500fcffd4feecff64000000020000000002000000000000010000fe00000000000003ff000101000a0003") ≡ (text "best 122 worst 1220 visits 1\nloop 0 closed ceiling 122\n"))
    -- a large figure
    × (program_text (hex "0000000000000000640000000101002c0102ff0fff0f0100000000000000000000ff0700000000000000010000ff0f03") ≡ (text "best 8390656 worst 16777515 visits 1\nloop 5 closed ceiling 2048\n"))
unfolding computes
program-text-1 = (refl, refl, refl, refl, refl, refl, refl, refl, refl, refl, refl, refl, refl, refl, refl, refl, refl)

pub text-call-1 :
    -- buffer as long as the text
    (text_call (hex "0000000000000000640000000200000000010000000000000000000009000000000000000002000000000100000000000000000000ffff0100000000000001010001000303") (hex "bbbbbbbbbbbbbbbbbbbbbbbbbbbbbbbbbbbbbbbbbbbbbbbbbbbbbbbbbbbbbbbbbbbbbbbbbbbbbbbbbbbbbbbbbbbbbbbbbbbbbbbbbbbbbbbbbbbbbbbbbbbbbbbbbbbbbbbbbbbbbbbbbbbbbbbb") (hex "65666768696a6b6c") ≡ lent 0 (hex "6265737420343520776f7273742034352076697369747320330a6c6f6f70203020636c6f736564206365696c696e672031300a6c6f6f7020323520636c6f736564206365696c696e6720390a") (hex "4c00000000000000"))
    -- buffer one byte short
    × (text_call (hex "0000000000000000640000000200000000010000000000000000000009000000000000000002000000000100000000000000000000ffff0100000000000001010001000303") (hex "bbbbbbbbbbbbbbbbbbbbbbbbbbbbbbbbbbbbbbbbbbbbbbbbbbbbbbbbbbbbbbbbbbbbbbbbbbbbbbbbbbbbbbbbbbbbbbbbbbbbbbbbbbbbbbbbbbbbbbbbbbbbbbbbbbbbbbbbbbbbbbbbbbbbbb") (hex "65666768696a6b6c") ≡ lent 12 (hex "bbbbbbbbbbbbbbbbbbbbbbbbbbbbbbbbbbbbbbbbbbbbbbbbbbbbbbbbbbbbbbbbbbbbbbbbbbbbbbbbbbbbbbbbbbbbbbbbbbbbbbbbbbbbbbbbbbbbbbbbbbbbbbbbbbbbbbbbbbbbbbbbbbbbbb") (hex "65666768696a6b6c"))
    -- no buffer
    × (text_call (hex "0000000000000000640000000200000000010000000000000000000009000000000000000002000000000100000000000000000000ffff0100000000000001010001000303") [] (hex "65666768696a6b6c") ≡ lent 12 [] (hex "65666768696a6b6c"))
    -- buffer five bytes longer: they stay
    × (text_call (hex "0000000000000000640000000200000000010000000000000000000009000000000000000002000000000100000000000000000000ffff0100000000000001010001000303") (hex "bbbbbbbbbbbbbbbbbbbbbbbbbbbbbbbbbbbbbbbbbbbbbbbbbbbbbbbbbbbbbbbbbbbbbbbbbbbbbbbbbbbbbbbbbbbbbbbbbbbbbbbbbbbbbbbbbbbbbbbbbbbbbbbbbbbbbbbbbbbbbbbbbbbbbbbbbbbbbbbbbb") (hex "65666768696a6b6c") ≡ lent 0 (hex "6265737420343520776f7273742034352076697369747320330a6c6f6f70203020636c6f736564206365696c696e672031300a6c6f6f7020323520636c6f736564206365696c696e6720390abbbbbbbbbb") (hex "4c00000000000000"))
    -- area of 11 bytes: the last three stay
    × (text_call (hex "0000000000000000640000000200000000010000000000000000000009000000000000000002000000000100000000000000000000ffff0100000000000001010001000303") (hex "bbbbbbbbbbbbbbbbbbbbbbbbbbbbbbbbbbbbbbbbbbbbbbbbbbbbbbbbbbbbbbbbbbbbbbbbbbbbbbbbbbbbbbbbbbbbbbbbbbbbbbbbbbbbbbbbbbbbbbbbbbbbbbbbbbbbbbbbbbbbbbbbbbbbbbbb") (hex "65666768696a6b6c6d6e6f") ≡ lent 0 (hex "6265737420343520776f7273742034352076697369747320330a6c6f6f70203020636c6f736564206365696c696e672031300a6c6f6f7020323520636c6f736564206365696c696e6720390a") (hex "4c000000000000006d6e6f"))
    -- area of 7 bytes
    × (text_call (hex "0000000000000000640000000200000000010000000000000000000009000000000000000002000000000100000000000000000000ffff0100000000000001010001000303") (hex "bbbbbbbbbbbbbbbbbbbbbbbbbbbbbbbbbbbbbbbbbbbbbbbbbbbbbbbbbbbbbbbbbbbbbbbbbbbbbbbbbbbbbbbbbbbbbbbbbbbbbbbbbbbbbbbbbbbbbbbbbbbbbbbbbbbbbbbbbbbbbbbbbbbbbbbb") (hex "65666768696a6b") ≡ lent 9 (hex "bbbbbbbbbbbbbbbbbbbbbbbbbbbbbbbbbbbbbbbbbbbbbbbbbbbbbbbbbbbbbbbbbbbbbbbbbbbbbbbbbbbbbbbbbbbbbbbbbbbbbbbbbbbbbbbbbbbbbbbbbbbbbbbbbbbbbbbbbbbbbbbbbbbbbbbb") (hex "65666768696a6b"))
    -- no area
    × (text_call (hex "0000000000000000640000000200000000010000000000000000000009000000000000000002000000000100000000000000000000ffff0100000000000001010001000303") (hex "bbbbbbbbbbbbbbbbbbbbbbbbbbbbbbbbbbbbbbbbbbbbbbbbbbbbbbbbbbbbbbbbbbbbbbbbbbbbbbbbbbbbbbbbbbbbbbbbbbbbbbbbbbbbbbbbbbbbbbbbbbbbbbbbbbbbbbbbbbbbbbbbbbbbbbbb") [] ≡ lent 9 (hex "bbbbbbbbbbbbbbbbbbbbbbbbbbbbbbbbbbbbbbbbbbbbbbbbbbbbbbbbbbbbbbbbbbbbbbbbbbbbbbbbbbbbbbbbbbbbbbbbbbbbbbbbbbbbbbbbbbbbbbbbbbbbbbbbbbbbbbbbbbbbbbbbbbbbbbbb") [])
    -- 9 before 12
    × (text_call (hex "0000000000000000640000000200000000010000000000000000000009000000000000000002000000000100000000000000000000ffff0100000000000001010001000303") (hex "bbbbbbbbbbbbbbbbbbbbbbbbbbbbbbbbbbbbbbbbbbbbbbbbbbbbbbbbbbbbbbbbbbbbbbbbbbbbbbbbbbbbbbbbbbbbbbbbbbbbbbbbbbbbbbbbbbbbbbbbbbbbbbbbbbbbbbbbbbbbbbbbbbbbbb") (hex "65666768696a6b") ≡ lent 9 (hex "bbbbbbbbbbbbbbbbbbbbbbbbbbbbbbbbbbbbbbbbbbbbbbbbbbbbbbbbbbbbbbbbbbbbbbbbbbbbbbbbbbbbbbbbbbbbbbbbbbbbbbbbbbbbbbbbbbbbbbbbbbbbbbbbbbbbbbbbbbbbbbbbbbbbbb") (hex "65666768696a6b"))
    -- neither buffer nor area: 9
    × (text_call (hex "0000000000000000640000000200000000010000000000000000000009000000000000000002000000000100000000000000000000ffff0100000000000001010001000303") [] [] ≡ lent 9 [] [])
    -- 12 with an area of 11 bytes: all stay
    × (text_call (hex "0000000000000000640000000200000000010000000000000000000009000000000000000002000000000100000000000000000000ffff0100000000000001010001000303") [] (hex "65666768696a6b6c6d6e6f") ≡ lent 12 [] (hex "65666768696a6b6c6d6e6f"))
    -- a refusal is text
    × (text_call (hex "000000000000000064000000010300050007") (hex "bbbbbbbbbbbbbbbbbbbbbbbbbbbbbbbbbb") (hex "65666768696a6b6c") ≡ lent 0 (hex "72656675736564203220617420350abbbb") (hex "0f00000000000000"))
    -- a refusal is text, buffer one byte short
    × (text_call (hex "000000000000000064000000010300050007") (hex "bbbbbbbbbbbbbbbbbbbbbbbbbbbb") (hex "65666768696a6b6c") ≡ lent 12 (hex "bbbbbbbbbbbbbbbbbbbbbbbbbbbb") (hex "65666768696a6b6c"))
    -- budget 0 is text
    × (text_call (hex "0000000000000000000000000200000000010000000000000000000009000000000000000002000000000100000000000000000000ffff0100000000000001010001000303") (hex "bbbbbbbbbbbbbbbbbbbbbbbbbbbbbb") (hex "65666768696a6b6c") ≡ lent 0 (hex "72656675736564203720617420300a") (hex "0f00000000000000"))
    -- empty sheet
    × (text_call (hex "000000000000000064000000") (hex "bbbbbbbbbbbbbbbbbbbbbbbbbbbbbbbbbbbbbbbbbbbbbbbb") (hex "65666768696a6b6c") ≡ lent 0 (hex "62657374203020776f72737420302076697369747320300a") (hex "1800000000000000"))
    -- 11 bytes of input
    × (text_call (hex "0000000000000000640000") (hex "bbbbbbbbbbbbbbbbbbbbbbbbbbbbbb") (hex "65666768696a6b6c") ≡ lent 0 (hex "72656675736564203120617420300a") (hex "0f00000000000000"))
    -- 11 bytes of input, buffer one byte short
    × (text_call (hex "0000000000000000640000") (hex "bbbbbbbbbbbbbbbbbbbbbbbbbbbb") (hex "65666768696a6b6c") ≡ lent 12 (hex "bbbbbbbbbbbbbbbbbbbbbbbbbbbb") (hex "65666768696a6b6c"))
    -- no input
    × (text_call [] (hex "bbbbbbbbbbbbbbbbbbbbbbbbbbbbbbbbbbbb") (hex "65666768696a6b6c") ≡ lent 0 (hex "72656675736564203120617420300abbbbbb") (hex "0f00000000000000"))
    -- no input and no buffer: 12
    × (text_call [] [] (hex "65666768696a6b6c") ≡ lent 12 [] (hex "65666768696a6b6c"))
    -- nothing at all: 9
    × (text_call [] [] [] ≡ lent 9 [] [])
    -- a reason's line
    × (text_call (hex "000000000000000064000000020000000001000000000000000000000900000000000000000200000000020000000000000000000000000100000000000001010001000303") (hex "bbbbbbbbbbbbbbbbbbbbbbbbbbbbbbbbbbbbbbbbbbbbbbbbbbbbbbbbbbbbbbbbbbbbbbbbbbbbbbbbbbbbbbbbbbbbbbbbbbbbbbbbbbbbbbbbbbbbbbbbbbbbbbbbbbbbbbbbbbbbbbbbbbbbbbbbbbbbbbbbbbbbbbbbbbbbbbbbbbbbbbbbbbbbbbbbbbbbbbbbbbbbbbbbbb") (hex "65666768696a6b6c") ≡ lent 0 (hex "6265737420333020776f727374203330207669736974732032300a6c6f6f7020302077616c6b6564206365696c696e672031300a6c6f6f7020323520697320756e6576656e20696e206c6f6f7020300a6c6f6f7020323520636c6f736564206365696c696e6720350a") (hex "6900000000000000"))
unfolding computes
text-call-1 = (refl, refl, refl, refl, refl, refl, refl, refl, refl, refl, refl, refl, refl, refl, refl, refl, refl, refl, refl, refl)

pub text-call-2 :
    -- a reason's line, buffer one byte short
    (text_call (hex "000000000000000064000000020000000001000000000000000000000900000000000000000200000000020000000000000000000000000100000000000001010001000303") (hex "bbbbbbbbbbbbbbbbbbbbbbbbbbbbbbbbbbbbbbbbbbbbbbbbbbbbbbbbbbbbbbbbbbbbbbbbbbbbbbbbbbbbbbbbbbbbbbbbbbbbbbbbbbbbbbbbbbbbbbbbbbbbbbbbbbbbbbbbbbbbbbbbbbbbbbbbbbbbbbbbbbbbbbbbbbbbbbbbbbbbbbbbbbbbbbbbbbbbbbbbbbbbbbbb") (hex "65666768696a6b6c") ≡ lent 12 (hex "bbbbbbbbbbbbbbbbbbbbbbbbbbbbbbbbbbbbbbbbbbbbbbbbbbbbbbbbbbbbbbbbbbbbbbbbbbbbbbbbbbbbbbbbbbbbbbbbbbbbbbbbbbbbbbbbbbbbbbbbbbbbbbbbbbbbbbbbbbbbbbbbbbbbbbbbbbbbbbbbbbbbbbbbbbbbbbbbbbbbbbbbbbbbbbbbbbbbbbbbbbbbbbbb") (hex "65666768696a6b6c"))
    -- a reason's line, buffer one byte longer: it stays
    × (text_call (hex "000000000000000064000000020000000001000000000000000000000900000000000000000200000000020000000000000000000000000100000000000001010001000303") (hex "bbbbbbbbbbbbbbbbbbbbbbbbbbbbbbbbbbbbbbbbbbbbbbbbbbbbbbbbbbbbbbbbbbbbbbbbbbbbbbbbbbbbbbbbbbbbbbbbbbbbbbbbbbbbbbbbbbbbbbbbbbbbbbbbbbbbbbbbbbbbbbbbbbbbbbbbbbbbbbbbbbbbbbbbbbbbbbbbbbbbbbbbbbbbbbbbbbbbbbbbbbbbbbbbbbbb") (hex "65666768696a6b6c") ≡ lent 0 (hex "6265737420333020776f727374203330207669736974732032300a6c6f6f7020302077616c6b6564206365696c696e672031300a6c6f6f7020323520697320756e6576656e20696e206c6f6f7020300a6c6f6f7020323520636c6f736564206365696c696e6720350abb") (hex "6900000000000000"))
unfolding computes
text-call-2 = (refl, refl)

pub reading-back-1 :
    -- a choice's line
    (read_reason (text "choice 25 holds a loop\n") ≡ some (holds_loop 25))
    -- a line of too few trips
    × (read_reason (text "loop 50 may fall below no trips\n") ≡ some (too_few_trips 50))
    -- an uneven loop's line
    × (read_reason (text "loop 1574 is uneven in loop 0\n") ≡ some (uneven_in 1574 0))
    -- offset 0
    × (read_reason (text "choice 0 holds a loop\n") ≡ some (holds_loop 0))
    -- a leading zero
    × (read_reason (text "choice 01 holds a loop\n") ≡ none)
    -- a leading zero in the second offset
    × (read_reason (text "loop 50 is uneven in loop 00\n") ≡ none)
    -- offset 65,535
    × (read_reason (text "loop 65535 may fall below no trips\n") ≡ some (too_few_trips 65535))
    -- offset 65,536
    × (read_reason (text "loop 65536 may fall below no trips\n") ≡ none)
    -- second offset 65,535
    × (read_reason (text "loop 65535 is uneven in loop 65535\n") ≡ some (uneven_in 65535 65535))
    -- second offset 65,536
    × (read_reason (text "loop 65535 is uneven in loop 65536\n") ≡ none)
    -- offset 65,536 + 25
    × (read_reason (text "choice 65561 holds a loop\n") ≡ none)
    -- no offset
    × (read_reason (text "choice  holds a loop\n") ≡ none)
    -- no second offset
    × (read_reason (text "loop 50 is uneven in loop \n") ≡ none)
    -- a loop's phrase after a choice
    × (read_reason (text "choice 25 may fall below no trips\n") ≡ none)
    -- a choice's phrase after a loop
    × (read_reason (text "loop 25 holds a loop\n") ≡ none)
    -- no line feed
    × (read_reason (text "choice 25 holds a loop") ≡ none)
    -- no line feed after the second offset
    × (read_reason (text "loop 50 is uneven in loop 25") ≡ none)
    -- a line feed too much
    × (read_reason (text "choice 25 holds a loop\n\n") ≡ none)
    -- two lines
    × (read_reason (text "choice 25 holds a loop\nchoice 25 holds a loop\n") ≡ none)
    -- nothing
    × (read_reason (text "") ≡ none)
unfolding computes
reading-back-1 = (refl, refl, refl, refl, refl, refl, refl, refl, refl, refl, refl, refl, refl, refl, refl, refl, refl, refl, refl, refl)

pub reading-back-2 :
    -- a line feed
    (read_reason (text "\n") ≡ none)
    -- the figures line
    × (read_reason (text "best 45 worst 45 visits 3\n") ≡ none)
    -- a loop's line
    × (read_reason (text "loop 0 walked ceiling 10\n") ≡ none)
unfolding computes
reading-back-2 = (refl, refl, refl)

pub converter-1 :
    -- kind 2 becomes kind 6, its skip its start
    (with_skips (hex "0203000000010000000000000000000003000000000000000003") (hex "c9cacbcccdcecfd0d1d2d3d4d5d6d7d8d9dadbdcdddedfe0e1e2e3e4") ≡ written 28 (hex "06030000000100000000000000000000030000000000000000030003"))
    -- to kind 6, buffer one byte short
    × (with_skips (hex "0203000000010000000000000000000003000000000000000003") (hex "c9cacbcccdcecfd0d1d2d3d4d5d6d7d8d9dadbdcdddedfe0e1e2e3") ≡ not_written 9 0 (hex "c9cacbcccdcecfd0d1d2d3d4d5d6d7d8d9dadbdcdddedfe0e1e2e3"))
    -- to kind 6, buffer three bytes longer: they stay
    × (with_skips (hex "0203000000010000000000000000000003000000000000000003") (hex "c9cacbcccdcecfd0d1d2d3d4d5d6d7d8d9dadbdcdddedfe0e1e2e3e4e5e6e7") ≡ written 28 (hex "06030000000100000000000000000000030000000000000000030003e5e6e7"))
    -- to kind 6, a buffer that holds the old sheet
    × (with_skips (hex "0203000000010000000000000000000003000000000000000003") (hex "c9cacbcccdcecfd0d1d2d3d4d5d6d7d8d9dadbdcdddedfe0e1e2") ≡ not_written 9 0 (hex "c9cacbcccdcecfd0d1d2d3d4d5d6d7d8d9dadbdcdddedfe0e1e2"))
    -- kind 6 stays, a skip below start
    × (with_skips (hex "06030000000100000000000000000000030000000000000000010003") (hex "c9cacbcccdcecfd0d1d2d3d4d5d6d7d8d9dadbdcdddedfe0e1e2e3e4") ≡ written 28 (hex "06030000000100000000000000000000030000000000000000010003"))
    -- kind 6 stays, a skip above start
    × (with_skips (hex "06030000000100000000000000000000030000000000000000040003") (hex "c9cacbcccdcecfd0d1d2d3d4d5d6d7d8d9dadbdcdddedfe0e1e2e3e4") ≡ written 28 (hex "06030000000100000000000000000000030000000000000000040003"))
    -- to kind 6, all kinds
    × (with_skips (hex "0402020107000300feff00000000000000ff0f00000000000000060000000001000000ff000000000000050001000000000000040301010001000303050603000000010000000000000000000003000000000000000003000303") (hex "c9cacbcccdcecfd0d1d2d3d4d5d6d7d8d9dadbdcdddedfe0e1e2e3e4e5e6e7e8e9eaebecedeeeff0f1f2f3f4f5f6f7f8f9fac9cacbcccdcecfd0d1d2d3d4d5d6d7d8d9dadbdcdddedfe0e1e2e3e4e5e6e7e8e9eaebecedeeeff0f1f2") ≡ written 92 (hex "0406020107000300feff00000000000000ff0f000000000000000201060000000001000000ff000000000000050001000000000000040301010001000303050603000000010000000000000000000003000000000000000003000303"))
    -- to kind 6, no loop
    × (with_skips (hex "040101002c010503") (hex "c9cacbcccdcecfd0") ≡ written 8 (hex "040101002c010503"))
    -- to kind 6, no loop, buffer one byte short
    × (with_skips (hex "040101002c010503") (hex "c9cacbcccdcecf") ≡ not_written 9 0 (hex "c9cacbcccdcecf"))
    -- to kind 6, empty sheet
    × (with_skips [] [] ≡ written 0 [])
    -- to kind 6, empty sheet, the buffer stays
    × (with_skips [] (hex "c9ca") ≡ written 0 (hex "c9ca"))
    -- to kind 6, a loop that counts down
    × (with_skips (hex "0203000000fffc03000000000000000000000000000000000003") (hex "c9cacbcccdcecfd0d1d2d3d4d5d6d7d8d9dadbdcdddedfe0e1e2e3e4") ≡ written 28 (hex "0603000000fffc030000000000000000000000000000000000030003"))
    -- kind 6 stays, a loop that counts down
    × (with_skips (hex "060300000018fc030000000000000000000000000000000000010003") (hex "c9cacbcccdcecfd0d1d2d3d4d5d6d7d8d9dadbdcdddedfe0e1e2e3e4") ≡ written 28 (hex "060300000018fc030000000000000000000000000000000000010003"))
    -- to kind 6, loops that count down, both kinds
    × (with_skips (hex "0202010000ffff030000000000000000000000000000000000060300000018fc0000010000000000000000ff000000000000030001010001000303") (hex "c9cacbcccdcecfd0d1d2d3d4d5d6d7d8d9dadbdcdddedfe0e1e2e3e4e5e6e7e8e9eaebecedeeeff0f1f2f3f4f5f6f7f8f9fac9cacbcccdcecfd0d1d2d3") ≡ written 61 (hex "0602010000ffff0300000000000000000000000000000000000201060300000018fc0000010000000000000000ff000000000000030001010001000303"))
    -- to kind 6, stride -1,001
    × (with_skips (hex "060300000017fc030000000000000000000000000000000000030003") (hex "c9cacbcccdcecfd0d1d2d3d4d5d6d7d8d9dadbdcdddedfe0e1e2e3e4e5e6") ≡ not_written 3 0 (hex "c9cacbcccdcecfd0d1d2d3d4d5d6d7d8d9dadbdcdddedfe0e1e2e3e4e5e6"))
    -- to kind 6, 1 before 9
    × (with_skips (hex "0603000000010000000000000000000003000000000000000003") [] ≡ not_written 1 0 [])
    -- to kind 6, 2 before 9
    × (with_skips (hex "0407") [] ≡ not_written 2 1 [])
    -- to kind 6, 3 before 9
    × (with_skips (hex "06000000000100000000000000000000030000000000000000001003") [] ≡ not_written 3 0 [])
    -- to kind 6, 4 before 9
    × (with_skips (hex "040304030403040304030403040304030403040304030403040304030403040304030403040304030403040304030403040304030403040304030403040304030403040304030403040304030403040304030403040304030403040304030403040304030403040304030403040304030403040304030403040304030403040303") [] ≡ not_written 4 128 [])
    -- to kind 6, 5 before 9
    × (with_skips (hex "020300000001000000000000000000000300000000000000000303") [] ≡ not_written 5 26 [])
unfolding computes
converter-1 = (refl, refl, refl, refl, refl, refl, refl, refl, refl, refl, refl, refl, refl, refl, refl, refl, refl, refl, refl, refl)

pub converter-2 :
    -- to kind 6, open at the end before 9
    (with_skips (hex "02030000000100000000000000000000030000000000000000") [] ≡ not_written 5 25 [])
    -- to kind 6, a refusal leaves buffer and area
    × (with_skips (hex "06000000000100000000000000000000030000000000000000001003") (hex "c9cacbcccdcecfd0d1d2d3d4d5d6d7d8d9dadbdcdddedfe0e1e2e3e4e5e6") ≡ not_written 3 0 (hex "c9cacbcccdcecfd0d1d2d3d4d5d6d7d8d9dadbdcdddedfe0e1e2e3e4e5e6"))
    -- kind 6 becomes kind 2
    × (without_skips (hex "06030000000100000000000000000000030000000000000000030003") (hex "c9cacbcccdcecfd0d1d2d3d4d5d6d7d8d9dadbdcdddedfe0e1e2") ≡ written 26 (hex "0203000000010000000000000000000003000000000000000003"))
    -- to kind 2, buffer one byte short
    × (without_skips (hex "06030000000100000000000000000000030000000000000000030003") (hex "c9cacbcccdcecfd0d1d2d3d4d5d6d7d8d9dadbdcdddedfe0e1") ≡ not_written 9 0 (hex "c9cacbcccdcecfd0d1d2d3d4d5d6d7d8d9dadbdcdddedfe0e1"))
    -- to kind 2, buffer three bytes longer: they stay
    × (without_skips (hex "06030000000100000000000000000000030000000000000000030003") (hex "c9cacbcccdcecfd0d1d2d3d4d5d6d7d8d9dadbdcdddedfe0e1e2e3e4e5") ≡ written 26 (hex "0203000000010000000000000000000003000000000000000003e3e4e5"))
    -- kind 2 stays
    × (without_skips (hex "0203000000010000000000000000000003000000000000000003") (hex "c9cacbcccdcecfd0d1d2d3d4d5d6d7d8d9dadbdcdddedfe0e1e2") ≡ written 26 (hex "0203000000010000000000000000000003000000000000000003"))
    -- to kind 2, all kinds
    × (without_skips (hex "0406020107000300feff00000000000000ff0f000000000000000201060000000001000000ff00000000000005000100000000000000000101000100030305020300000001000000000000000000000300000000000000000303") (hex "c9cacbcccdcecfd0d1d2d3d4d5d6d7d8d9dadbdcdddedfe0e1e2e3e4e5e6e7e8e9eaebecedeeeff0f1f2f3f4f5f6f7f8f9fac9cacbcccdcecfd0d1d2d3d4d5d6d7d8d9dadbdcdddedfe0e1e2e3e4e5e6e7e8e9eaebec") ≡ written 86 (hex "0402020107000300feff00000000000000ff0f00000000000000020000000001000000ff0000000000000500010000000000000101000100030305020300000001000000000000000000000300000000000000000303"))
    -- to kind 2, no loop
    × (without_skips (hex "040101002c010503") (hex "c9cacbcccdcecfd0") ≡ written 8 (hex "040101002c010503"))
    -- to kind 2, empty sheet
    × (without_skips [] [] ≡ written 0 [])
    -- to kind 2, empty sheet, the buffer stays
    × (without_skips [] (hex "c9ca") ≡ written 0 (hex "c9ca"))
    -- to kind 2, a loop that counts down
    × (without_skips (hex "0603000000fffc030000000000000000000000000000000000030003") (hex "c9cacbcccdcecfd0d1d2d3d4d5d6d7d8d9dadbdcdddedfe0e1e2") ≡ written 26 (hex "0203000000fffc03000000000000000000000000000000000003"))
    -- kind 2 stays, a loop that counts down
    × (without_skips (hex "0203000000fffc03000000000000000000000000000000000003") (hex "c9cacbcccdcecfd0d1d2d3d4d5d6d7d8d9dadbdcdddedfe0e1e2") ≡ written 26 (hex "0203000000fffc03000000000000000000000000000000000003"))
    -- to kind 2, loops that count down, both kinds
    × (without_skips (hex "0202010000ffff030000000000000000000000000000000000060300000018fc0000010000000000000000ff000000000000030001010001000303") (hex "c9cacbcccdcecfd0d1d2d3d4d5d6d7d8d9dadbdcdddedfe0e1e2e3e4e5e6e7e8e9eaebecedeeeff0f1f2f3f4f5f6f7f8f9fac9cacbcccdcecf") ≡ written 57 (hex "0202010000ffff030000000000000000000000000000000000020300000018fc0000010000000000000000ff00000000000001010001000303"))
    -- 10: a loop that counts down
    × (without_skips (hex "060300000018fc030000000000000000000000000000000000010003") (hex "c9cacbcccdcecfd0d1d2d3d4d5d6d7d8d9dadbdcdddedfe0e1e2e3e4e5e6e7e8e9eaebecedeeeff0") ≡ not_written 10 0 (hex "c9cacbcccdcecfd0d1d2d3d4d5d6d7d8d9dadbdcdddedfe0e1e2e3e4e5e6e7e8e9eaebecedeeeff0"))
    -- stride -1,001 of a later record before 10
    × (without_skips (hex "060300000018fc030000000000000000000000000000000000010003060300000017fc030000000000000000000000000000000000030003") [] ≡ not_written 3 28 [])
    -- 10: a skip below start
    × (without_skips (hex "06030000000100000000000000000000030000000000000000010003") (hex "c9cacbcccdcecfd0d1d2d3d4d5d6d7d8d9dadbdcdddedfe0e1e2e3e4e5e6e7e8e9eaebecedeeeff0") ≡ not_written 10 0 (hex "c9cacbcccdcecfd0d1d2d3d4d5d6d7d8d9dadbdcdddedfe0e1e2e3e4e5e6e7e8e9eaebecedeeeff0"))
    -- 10: a skip above start
    × (without_skips (hex "06030000000100000000000000000000030000000000000000040003") (hex "c9cacbcccdcecfd0d1d2d3d4d5d6d7d8d9dadbdcdddedfe0e1e2e3e4e5e6e7e8e9eaebecedeeeff0") ≡ not_written 10 0 (hex "c9cacbcccdcecfd0d1d2d3d4d5d6d7d8d9dadbdcdddedfe0e1e2e3e4e5e6e7e8e9eaebecedeeeff0"))
    -- 10: a skip that differs in its second byte
    × (without_skips (hex "06030000000100000000000000000000030000000000000000030103") (hex "c9cacbcccdcecfd0d1d2d3d4d5d6d7d8d9dadbdcdddedfe0e1e2e3e4e5e6e7e8e9eaebecedeeeff0") ≡ not_written 10 0 (hex "c9cacbcccdcecfd0d1d2d3d4d5d6d7d8d9dadbdcdddedfe0e1e2e3e4e5e6e7e8e9eaebecedeeeff0"))
    -- 10 before 9
    × (without_skips (hex "06030000000100000000000000000000030000000000000000010003") [] ≡ not_written 10 0 [])
    -- 10 at the first of two, by the old sheet
    × (without_skips (hex "060300000001000000000000000000000300000000000000000300030603000000010000000000000000000003000000000000000001000306030000000100000000000000000000030000000000000000040003") (hex "c9cacbcccdcecfd0d1d2d3d4d5d6d7d8d9dadbdcdddedfe0e1e2e3e4e5e6e7e8e9eaebecedeeeff0f1f2f3f4f5f6f7f8f9fac9cacbcccdcecfd0d1d2d3d4d5d6d7d8d9dadbdcdddedfe0e1e2e3e4e5e6e7e8e9eaebecedeeeff0") ≡ not_written 10 28 (hex "c9cacbcccdcecfd0d1d2d3d4d5d6d7d8d9dadbdcdddedfe0e1e2e3e4e5e6e7e8e9eaebecedeeeff0f1f2f3f4f5f6f7f8f9fac9cacbcccdcecfd0d1d2d3d4d5d6d7d8d9dadbdcdddedfe0e1e2e3e4e5e6e7e8e9eaebecedeeeff0"))
unfolding computes
converter-2 = (refl, refl, refl, refl, refl, refl, refl, refl, refl, refl, refl, refl, refl, refl, refl, refl, refl, refl, refl, refl)

pub converter-3 :
    -- 10 after a loop of kind 2
    (without_skips (hex "0101000100020300000001000000000000000000000300000000000000000306030000000100000000000000000000030000000000000000040003") (hex "c9cacbcccdcecfd0d1d2d3d4d5d6d7d8d9dadbdcdddedfe0e1e2e3e4e5e6e7e8e9eaebecedeeeff0f1f2f3f4f5f6f7f8f9fac9cacbcccdcecfd0d1d2d3d4d5d6d7d8d9dadbdcdddedfe0e1e2e3e4e5e6e7e8e9eaebecedeeeff0") ≡ not_written 10 31 (hex "c9cacbcccdcecfd0d1d2d3d4d5d6d7d8d9dadbdcdddedfe0e1e2e3e4e5e6e7e8e9eaebecedeeeff0f1f2f3f4f5f6f7f8f9fac9cacbcccdcecfd0d1d2d3d4d5d6d7d8d9dadbdcdddedfe0e1e2e3e4e5e6e7e8e9eaebecedeeeff0"))
    -- 10 in a loop
    × (without_skips (hex "0603000000010000000000000000000003000000000000000003000603000000010000000000000000000003000000000000000001000303") (hex "c9cacbcccdcecfd0d1d2d3d4d5d6d7d8d9dadbdcdddedfe0e1e2e3e4e5e6e7e8e9eaebecedeeeff0f1f2f3f4f5f6f7f8f9fac9cacbcccdcecfd0d1d2d3d4d5d6d7d8d9dadbdcdddedfe0e1e2e3e4e5e6e7e8e9eaebecedeeeff0") ≡ not_written 10 27 (hex "c9cacbcccdcecfd0d1d2d3d4d5d6d7d8d9dadbdcdddedfe0e1e2e3e4e5e6e7e8e9eaebecedeeeff0f1f2f3f4f5f6f7f8f9fac9cacbcccdcecfd0d1d2d3d4d5d6d7d8d9dadbdcdddedfe0e1e2e3e4e5e6e7e8e9eaebecedeeeff0"))
    -- 1 of a later record before 10
    × (without_skips (hex "060300000001000000000000000000000300000000000000000100030603000000010000000000000000000003000000000000000003") [] ≡ not_written 1 28 [])
    -- 2 of a later record before 10
    × (without_skips (hex "0603000000010000000000000000000003000000000000000001000307") [] ≡ not_written 2 28 [])
    -- 3 of a later record before 10
    × (without_skips (hex "060300000001000000000000000000000300000000000000000100030102000100") [] ≡ not_written 3 28 [])
    -- 4 before 10
    × (without_skips (hex "06030000000100000000000000000000030000000000000000010003040304030403040304030403040304030403040304030403040304030403040304030403040304030403040304030403040304030403040304030403040304030403040304030403040304030403040304030403040304030403040304030403040304030403040304030403040304030403040304030403040304030403040303") [] ≡ not_written 4 154 [])
    -- 5 of a later record before 10
    × (without_skips (hex "0603000000010000000000000000000003000000000000000001000303") [] ≡ not_written 5 28 [])
    -- open at the end before 10
    × (without_skips (hex "060300000001000000000000000000000300000000000000000100") [] ≡ not_written 5 27 [])
    -- 3 before an area of 7 bytes
    × (with_skips (hex "06000000000100000000000000000000030000000000000000001003") (hex "c9cacbcccdcecfd0d1d2d3d4d5d6d7d8d9dadbdcdddedfe0e1e2e3e4e5e6e7e8e9eaebecedeeeff0") ≡ not_written 3 0 (hex "c9cacbcccdcecfd0d1d2d3d4d5d6d7d8d9dadbdcdddedfe0e1e2e3e4e5e6e7e8e9eaebecedeeeff0"))
unfolding computes
converter-3 = (refl, refl, refl, refl, refl, refl, refl, refl, refl)

pub converter-call-1 :
    -- kind 2 becomes kind 6, its skip its start
    (with_skips_call (hex "0203000000010000000000000000000003000000000000000003") (hex "c9cacbcccdcecfd0d1d2d3d4d5d6d7d8d9dadbdcdddedfe0e1e2e3e4") (hex "c9cacbcccdcecfd0") ≡ lent 0 (hex "06030000000100000000000000000000030000000000000000030003") (hex "1c00000000000000"))
    -- to kind 6, buffer one byte short
    × (with_skips_call (hex "0203000000010000000000000000000003000000000000000003") (hex "c9cacbcccdcecfd0d1d2d3d4d5d6d7d8d9dadbdcdddedfe0e1e2e3") (hex "c9cacbcccdcecfd0") ≡ lent 9 (hex "c9cacbcccdcecfd0d1d2d3d4d5d6d7d8d9dadbdcdddedfe0e1e2e3") (hex "c9cacbcccdcecfd0"))
    -- to kind 6, buffer three bytes longer: they stay
    × (with_skips_call (hex "0203000000010000000000000000000003000000000000000003") (hex "c9cacbcccdcecfd0d1d2d3d4d5d6d7d8d9dadbdcdddedfe0e1e2e3e4e5e6e7") (hex "c9cacbcccdcecfd0") ≡ lent 0 (hex "06030000000100000000000000000000030000000000000000030003e5e6e7") (hex "1c00000000000000"))
    -- to kind 6, a buffer that holds the old sheet
    × (with_skips_call (hex "0203000000010000000000000000000003000000000000000003") (hex "c9cacbcccdcecfd0d1d2d3d4d5d6d7d8d9dadbdcdddedfe0e1e2") (hex "c9cacbcccdcecfd0") ≡ lent 9 (hex "c9cacbcccdcecfd0d1d2d3d4d5d6d7d8d9dadbdcdddedfe0e1e2") (hex "c9cacbcccdcecfd0"))
    -- kind 6 stays, a skip below start
    × (with_skips_call (hex "06030000000100000000000000000000030000000000000000010003") (hex "c9cacbcccdcecfd0d1d2d3d4d5d6d7d8d9dadbdcdddedfe0e1e2e3e4") (hex "c9cacbcccdcecfd0") ≡ lent 0 (hex "06030000000100000000000000000000030000000000000000010003") (hex "1c00000000000000"))
    -- kind 6 stays, a skip above start
    × (with_skips_call (hex "06030000000100000000000000000000030000000000000000040003") (hex "c9cacbcccdcecfd0d1d2d3d4d5d6d7d8d9dadbdcdddedfe0e1e2e3e4") (hex "c9cacbcccdcecfd0") ≡ lent 0 (hex "06030000000100000000000000000000030000000000000000040003") (hex "1c00000000000000"))
    -- to kind 6, all kinds
    × (with_skips_call (hex "0402020107000300feff00000000000000ff0f00000000000000060000000001000000ff000000000000050001000000000000040301010001000303050603000000010000000000000000000003000000000000000003000303") (hex "c9cacbcccdcecfd0d1d2d3d4d5d6d7d8d9dadbdcdddedfe0e1e2e3e4e5e6e7e8e9eaebecedeeeff0f1f2f3f4f5f6f7f8f9fac9cacbcccdcecfd0d1d2d3d4d5d6d7d8d9dadbdcdddedfe0e1e2e3e4e5e6e7e8e9eaebecedeeeff0f1f2") (hex "c9cacbcccdcecfd0") ≡ lent 0 (hex "0406020107000300feff00000000000000ff0f000000000000000201060000000001000000ff000000000000050001000000000000040301010001000303050603000000010000000000000000000003000000000000000003000303") (hex "5c00000000000000"))
    -- to kind 6, no loop
    × (with_skips_call (hex "040101002c010503") (hex "c9cacbcccdcecfd0") (hex "c9cacbcccdcecfd0") ≡ lent 0 (hex "040101002c010503") (hex "0800000000000000"))
    -- to kind 6, no loop, buffer one byte short
    × (with_skips_call (hex "040101002c010503") (hex "c9cacbcccdcecf") (hex "c9cacbcccdcecfd0") ≡ lent 9 (hex "c9cacbcccdcecf") (hex "c9cacbcccdcecfd0"))
    -- to kind 6, empty sheet
    × (with_skips_call [] [] (hex "c9cacbcccdcecfd0") ≡ lent 0 [] (hex "0000000000000000"))
    -- to kind 6, empty sheet, the buffer stays
    × (with_skips_call [] (hex "c9ca") (hex "c9cacbcccdcecfd0") ≡ lent 0 (hex "c9ca") (hex "0000000000000000"))
    -- to kind 6, a loop that counts down
    × (with_skips_call (hex "0203000000fffc03000000000000000000000000000000000003") (hex "c9cacbcccdcecfd0d1d2d3d4d5d6d7d8d9dadbdcdddedfe0e1e2e3e4") (hex "c9cacbcccdcecfd0") ≡ lent 0 (hex "0603000000fffc030000000000000000000000000000000000030003") (hex "1c00000000000000"))
    -- kind 6 stays, a loop that counts down
    × (with_skips_call (hex "060300000018fc030000000000000000000000000000000000010003") (hex "c9cacbcccdcecfd0d1d2d3d4d5d6d7d8d9dadbdcdddedfe0e1e2e3e4") (hex "c9cacbcccdcecfd0") ≡ lent 0 (hex "060300000018fc030000000000000000000000000000000000010003") (hex "1c00000000000000"))
    -- to kind 6, loops that count down, both kinds
    × (with_skips_call (hex "0202010000ffff030000000000000000000000000000000000060300000018fc0000010000000000000000ff000000000000030001010001000303") (hex "c9cacbcccdcecfd0d1d2d3d4d5d6d7d8d9dadbdcdddedfe0e1e2e3e4e5e6e7e8e9eaebecedeeeff0f1f2f3f4f5f6f7f8f9fac9cacbcccdcecfd0d1d2d3") (hex "c9cacbcccdcecfd0") ≡ lent 0 (hex "0602010000ffff0300000000000000000000000000000000000201060300000018fc0000010000000000000000ff000000000000030001010001000303") (hex "3d00000000000000"))
    -- to kind 6, stride -1,001
    × (with_skips_call (hex "060300000017fc030000000000000000000000000000000000030003") (hex "c9cacbcccdcecfd0d1d2d3d4d5d6d7d8d9dadbdcdddedfe0e1e2e3e4e5e6") (hex "c9cacbcccdcecfd0") ≡ lent 3 (hex "c9cacbcccdcecfd0d1d2d3d4d5d6d7d8d9dadbdcdddedfe0e1e2e3e4e5e6") (hex "c9cacbcccdcecfd0"))
    -- to kind 6, 1 before 9
    × (with_skips_call (hex "0603000000010000000000000000000003000000000000000003") [] [] ≡ lent 1 [] [])
    -- to kind 6, 2 before 9
    × (with_skips_call (hex "0407") [] [] ≡ lent 2 [] [])
    -- to kind 6, 3 before 9
    × (with_skips_call (hex "06000000000100000000000000000000030000000000000000001003") [] [] ≡ lent 3 [] [])
    -- to kind 6, 4 before 9
    × (with_skips_call (hex "040304030403040304030403040304030403040304030403040304030403040304030403040304030403040304030403040304030403040304030403040304030403040304030403040304030403040304030403040304030403040304030403040304030403040304030403040304030403040304030403040304030403040303") [] [] ≡ lent 4 [] [])
    -- to kind 6, 5 before 9
    × (with_skips_call (hex "020300000001000000000000000000000300000000000000000303") [] [] ≡ lent 5 [] [])
unfolding computes
converter-call-1 = (refl, refl, refl, refl, refl, refl, refl, refl, refl, refl, refl, refl, refl, refl, refl, refl, refl, refl, refl, refl)

pub converter-call-2 :
    -- to kind 6, open at the end before 9
    (with_skips_call (hex "02030000000100000000000000000000030000000000000000") [] [] ≡ lent 5 [] [])
    -- to kind 6, a refusal leaves buffer and area
    × (with_skips_call (hex "06000000000100000000000000000000030000000000000000001003") (hex "c9cacbcccdcecfd0d1d2d3d4d5d6d7d8d9dadbdcdddedfe0e1e2e3e4e5e6") (hex "c9cacbcccdcecfd0d1") ≡ lent 3 (hex "c9cacbcccdcecfd0d1d2d3d4d5d6d7d8d9dadbdcdddedfe0e1e2e3e4e5e6") (hex "c9cacbcccdcecfd0d1"))
    -- kind 6 becomes kind 2
    × (without_skips_call (hex "06030000000100000000000000000000030000000000000000030003") (hex "c9cacbcccdcecfd0d1d2d3d4d5d6d7d8d9dadbdcdddedfe0e1e2") (hex "c9cacbcccdcecfd0") ≡ lent 0 (hex "0203000000010000000000000000000003000000000000000003") (hex "1a00000000000000"))
    -- to kind 2, buffer one byte short
    × (without_skips_call (hex "06030000000100000000000000000000030000000000000000030003") (hex "c9cacbcccdcecfd0d1d2d3d4d5d6d7d8d9dadbdcdddedfe0e1") (hex "c9cacbcccdcecfd0") ≡ lent 9 (hex "c9cacbcccdcecfd0d1d2d3d4d5d6d7d8d9dadbdcdddedfe0e1") (hex "c9cacbcccdcecfd0"))
    -- to kind 2, buffer three bytes longer: they stay
    × (without_skips_call (hex "06030000000100000000000000000000030000000000000000030003") (hex "c9cacbcccdcecfd0d1d2d3d4d5d6d7d8d9dadbdcdddedfe0e1e2e3e4e5") (hex "c9cacbcccdcecfd0") ≡ lent 0 (hex "0203000000010000000000000000000003000000000000000003e3e4e5") (hex "1a00000000000000"))
    -- kind 2 stays
    × (without_skips_call (hex "0203000000010000000000000000000003000000000000000003") (hex "c9cacbcccdcecfd0d1d2d3d4d5d6d7d8d9dadbdcdddedfe0e1e2") (hex "c9cacbcccdcecfd0") ≡ lent 0 (hex "0203000000010000000000000000000003000000000000000003") (hex "1a00000000000000"))
    -- to kind 2, all kinds
    × (without_skips_call (hex "0406020107000300feff00000000000000ff0f000000000000000201060000000001000000ff00000000000005000100000000000000000101000100030305020300000001000000000000000000000300000000000000000303") (hex "c9cacbcccdcecfd0d1d2d3d4d5d6d7d8d9dadbdcdddedfe0e1e2e3e4e5e6e7e8e9eaebecedeeeff0f1f2f3f4f5f6f7f8f9fac9cacbcccdcecfd0d1d2d3d4d5d6d7d8d9dadbdcdddedfe0e1e2e3e4e5e6e7e8e9eaebec") (hex "c9cacbcccdcecfd0") ≡ lent 0 (hex "0402020107000300feff00000000000000ff0f00000000000000020000000001000000ff0000000000000500010000000000000101000100030305020300000001000000000000000000000300000000000000000303") (hex "5600000000000000"))
    -- to kind 2, no loop
    × (without_skips_call (hex "040101002c010503") (hex "c9cacbcccdcecfd0") (hex "c9cacbcccdcecfd0") ≡ lent 0 (hex "040101002c010503") (hex "0800000000000000"))
    -- to kind 2, empty sheet
    × (without_skips_call [] [] (hex "c9cacbcccdcecfd0") ≡ lent 0 [] (hex "0000000000000000"))
    -- to kind 2, empty sheet, the buffer stays
    × (without_skips_call [] (hex "c9ca") (hex "c9cacbcccdcecfd0") ≡ lent 0 (hex "c9ca") (hex "0000000000000000"))
    -- to kind 2, a loop that counts down
    × (without_skips_call (hex "0603000000fffc030000000000000000000000000000000000030003") (hex "c9cacbcccdcecfd0d1d2d3d4d5d6d7d8d9dadbdcdddedfe0e1e2") (hex "c9cacbcccdcecfd0") ≡ lent 0 (hex "0203000000fffc03000000000000000000000000000000000003") (hex "1a00000000000000"))
    -- kind 2 stays, a loop that counts down
    × (without_skips_call (hex "0203000000fffc03000000000000000000000000000000000003") (hex "c9cacbcccdcecfd0d1d2d3d4d5d6d7d8d9dadbdcdddedfe0e1e2") (hex "c9cacbcccdcecfd0") ≡ lent 0 (hex "0203000000fffc03000000000000000000000000000000000003") (hex "1a00000000000000"))
    -- to kind 2, loops that count down, both kinds
    × (without_skips_call (hex "0202010000ffff030000000000000000000000000000000000060300000018fc0000010000000000000000ff000000000000030001010001000303") (hex "c9cacbcccdcecfd0d1d2d3d4d5d6d7d8d9dadbdcdddedfe0e1e2e3e4e5e6e7e8e9eaebecedeeeff0f1f2f3f4f5f6f7f8f9fac9cacbcccdcecf") (hex "c9cacbcccdcecfd0") ≡ lent 0 (hex "0202010000ffff030000000000000000000000000000000000020300000018fc0000010000000000000000ff00000000000001010001000303") (hex "3900000000000000"))
    -- 10: a loop that counts down
    × (without_skips_call (hex "060300000018fc030000000000000000000000000000000000010003") (hex "c9cacbcccdcecfd0d1d2d3d4d5d6d7d8d9dadbdcdddedfe0e1e2e3e4e5e6e7e8e9eaebecedeeeff0") (hex "c9cacbcccdcecfd0") ≡ lent 10 (hex "c9cacbcccdcecfd0d1d2d3d4d5d6d7d8d9dadbdcdddedfe0e1e2e3e4e5e6e7e8e9eaebecedeeeff0") (hex "c9cacbcccdcecfd0"))
    -- stride -1,001 of a later record before 10
    × (without_skips_call (hex "060300000018fc030000000000000000000000000000000000010003060300000017fc030000000000000000000000000000000000030003") [] [] ≡ lent 3 [] [])
    -- 10: a skip below start
    × (without_skips_call (hex "06030000000100000000000000000000030000000000000000010003") (hex "c9cacbcccdcecfd0d1d2d3d4d5d6d7d8d9dadbdcdddedfe0e1e2e3e4e5e6e7e8e9eaebecedeeeff0") (hex "c9cacbcccdcecfd0") ≡ lent 10 (hex "c9cacbcccdcecfd0d1d2d3d4d5d6d7d8d9dadbdcdddedfe0e1e2e3e4e5e6e7e8e9eaebecedeeeff0") (hex "c9cacbcccdcecfd0"))
    -- 10: a skip above start
    × (without_skips_call (hex "06030000000100000000000000000000030000000000000000040003") (hex "c9cacbcccdcecfd0d1d2d3d4d5d6d7d8d9dadbdcdddedfe0e1e2e3e4e5e6e7e8e9eaebecedeeeff0") (hex "c9cacbcccdcecfd0") ≡ lent 10 (hex "c9cacbcccdcecfd0d1d2d3d4d5d6d7d8d9dadbdcdddedfe0e1e2e3e4e5e6e7e8e9eaebecedeeeff0") (hex "c9cacbcccdcecfd0"))
    -- 10: a skip that differs in its second byte
    × (without_skips_call (hex "06030000000100000000000000000000030000000000000000030103") (hex "c9cacbcccdcecfd0d1d2d3d4d5d6d7d8d9dadbdcdddedfe0e1e2e3e4e5e6e7e8e9eaebecedeeeff0") (hex "c9cacbcccdcecfd0") ≡ lent 10 (hex "c9cacbcccdcecfd0d1d2d3d4d5d6d7d8d9dadbdcdddedfe0e1e2e3e4e5e6e7e8e9eaebecedeeeff0") (hex "c9cacbcccdcecfd0"))
    -- 10 before 9
    × (without_skips_call (hex "06030000000100000000000000000000030000000000000000010003") [] [] ≡ lent 10 [] [])
    -- 10 at the first of two, by the old sheet
    × (without_skips_call (hex "060300000001000000000000000000000300000000000000000300030603000000010000000000000000000003000000000000000001000306030000000100000000000000000000030000000000000000040003") (hex "c9cacbcccdcecfd0d1d2d3d4d5d6d7d8d9dadbdcdddedfe0e1e2e3e4e5e6e7e8e9eaebecedeeeff0f1f2f3f4f5f6f7f8f9fac9cacbcccdcecfd0d1d2d3d4d5d6d7d8d9dadbdcdddedfe0e1e2e3e4e5e6e7e8e9eaebecedeeeff0") (hex "c9cacbcccdcecfd0") ≡ lent 10 (hex "c9cacbcccdcecfd0d1d2d3d4d5d6d7d8d9dadbdcdddedfe0e1e2e3e4e5e6e7e8e9eaebecedeeeff0f1f2f3f4f5f6f7f8f9fac9cacbcccdcecfd0d1d2d3d4d5d6d7d8d9dadbdcdddedfe0e1e2e3e4e5e6e7e8e9eaebecedeeeff0") (hex "c9cacbcccdcecfd0"))
unfolding computes
converter-call-2 = (refl, refl, refl, refl, refl, refl, refl, refl, refl, refl, refl, refl, refl, refl, refl, refl, refl, refl, refl, refl)

pub converter-call-3 :
    -- 10 after a loop of kind 2
    (without_skips_call (hex "0101000100020300000001000000000000000000000300000000000000000306030000000100000000000000000000030000000000000000040003") (hex "c9cacbcccdcecfd0d1d2d3d4d5d6d7d8d9dadbdcdddedfe0e1e2e3e4e5e6e7e8e9eaebecedeeeff0f1f2f3f4f5f6f7f8f9fac9cacbcccdcecfd0d1d2d3d4d5d6d7d8d9dadbdcdddedfe0e1e2e3e4e5e6e7e8e9eaebecedeeeff0") (hex "c9cacbcccdcecfd0") ≡ lent 10 (hex "c9cacbcccdcecfd0d1d2d3d4d5d6d7d8d9dadbdcdddedfe0e1e2e3e4e5e6e7e8e9eaebecedeeeff0f1f2f3f4f5f6f7f8f9fac9cacbcccdcecfd0d1d2d3d4d5d6d7d8d9dadbdcdddedfe0e1e2e3e4e5e6e7e8e9eaebecedeeeff0") (hex "c9cacbcccdcecfd0"))
    -- 10 in a loop
    × (without_skips_call (hex "0603000000010000000000000000000003000000000000000003000603000000010000000000000000000003000000000000000001000303") (hex "c9cacbcccdcecfd0d1d2d3d4d5d6d7d8d9dadbdcdddedfe0e1e2e3e4e5e6e7e8e9eaebecedeeeff0f1f2f3f4f5f6f7f8f9fac9cacbcccdcecfd0d1d2d3d4d5d6d7d8d9dadbdcdddedfe0e1e2e3e4e5e6e7e8e9eaebecedeeeff0") (hex "c9cacbcccdcecfd0") ≡ lent 10 (hex "c9cacbcccdcecfd0d1d2d3d4d5d6d7d8d9dadbdcdddedfe0e1e2e3e4e5e6e7e8e9eaebecedeeeff0f1f2f3f4f5f6f7f8f9fac9cacbcccdcecfd0d1d2d3d4d5d6d7d8d9dadbdcdddedfe0e1e2e3e4e5e6e7e8e9eaebecedeeeff0") (hex "c9cacbcccdcecfd0"))
    -- 1 of a later record before 10
    × (without_skips_call (hex "060300000001000000000000000000000300000000000000000100030603000000010000000000000000000003000000000000000003") [] [] ≡ lent 1 [] [])
    -- 2 of a later record before 10
    × (without_skips_call (hex "0603000000010000000000000000000003000000000000000001000307") [] [] ≡ lent 2 [] [])
    -- 3 of a later record before 10
    × (without_skips_call (hex "060300000001000000000000000000000300000000000000000100030102000100") [] [] ≡ lent 3 [] [])
    -- 4 before 10
    × (without_skips_call (hex "06030000000100000000000000000000030000000000000000010003040304030403040304030403040304030403040304030403040304030403040304030403040304030403040304030403040304030403040304030403040304030403040304030403040304030403040304030403040304030403040304030403040304030403040304030403040304030403040304030403040304030403040303") [] [] ≡ lent 4 [] [])
    -- 5 of a later record before 10
    × (without_skips_call (hex "0603000000010000000000000000000003000000000000000001000303") [] [] ≡ lent 5 [] [])
    -- open at the end before 10
    × (without_skips_call (hex "060300000001000000000000000000000300000000000000000100") [] [] ≡ lent 5 [] [])
    -- to kind 6, area of 9 bytes: the last stays
    × (with_skips_call (hex "0203000000010000000000000000000003000000000000000003") (hex "c9cacbcccdcecfd0d1d2d3d4d5d6d7d8d9dadbdcdddedfe0e1e2e3e4") (hex "c9cacbcccdcecfd0d1") ≡ lent 0 (hex "06030000000100000000000000000000030000000000000000030003") (hex "1c00000000000000d1"))
    -- to kind 6, area of 7 bytes
    × (with_skips_call (hex "0203000000010000000000000000000003000000000000000003") (hex "c9cacbcccdcecfd0d1d2d3d4d5d6d7d8d9dadbdcdddedfe0e1e2e3e4") (hex "c9cacbcccdcecf") ≡ lent 9 (hex "c9cacbcccdcecfd0d1d2d3d4d5d6d7d8d9dadbdcdddedfe0e1e2e3e4") (hex "c9cacbcccdcecf"))
    -- to kind 6, no area
    × (with_skips_call [] [] [] ≡ lent 9 [] [])
    -- to kind 6, neither buffer nor area long enough
    × (with_skips_call (hex "0203000000010000000000000000000003000000000000000003") (hex "c9cacbcccdcecfd0d1d2d3d4d5d6d7d8d9dadbdcdddedfe0e1e2e3") (hex "c9cacbcccdcecf") ≡ lent 9 (hex "c9cacbcccdcecfd0d1d2d3d4d5d6d7d8d9dadbdcdddedfe0e1e2e3") (hex "c9cacbcccdcecf"))
    -- to kind 2, area of 9 bytes: the last stays
    × (without_skips_call (hex "06030000000100000000000000000000030000000000000000030003") (hex "c9cacbcccdcecfd0d1d2d3d4d5d6d7d8d9dadbdcdddedfe0e1e2") (hex "c9cacbcccdcecfd0d1") ≡ lent 0 (hex "0203000000010000000000000000000003000000000000000003") (hex "1a00000000000000d1"))
    -- to kind 2, area of 7 bytes
    × (without_skips_call (hex "06030000000100000000000000000000030000000000000000030003") (hex "c9cacbcccdcecfd0d1d2d3d4d5d6d7d8d9dadbdcdddedfe0e1e2") (hex "c9cacbcccdcecf") ≡ lent 9 (hex "c9cacbcccdcecfd0d1d2d3d4d5d6d7d8d9dadbdcdddedfe0e1e2") (hex "c9cacbcccdcecf"))
    -- to kind 2, no area
    × (without_skips_call [] [] [] ≡ lent 9 [] [])
    -- 10 before an area of 7 bytes
    × (without_skips_call (hex "06030000000100000000000000000000030000000000000000010003") (hex "c9cacbcccdcecfd0d1d2d3d4d5d6d7d8d9dadbdcdddedfe0e1e2e3e4e5e6e7e8e9eaebecedeeeff0") (hex "c9cacbcccdcecf") ≡ lent 10 (hex "c9cacbcccdcecfd0d1d2d3d4d5d6d7d8d9dadbdcdddedfe0e1e2e3e4e5e6e7e8e9eaebecedeeeff0") (hex "c9cacbcccdcecf"))
    -- 3 before an area of 7 bytes
    × (with_skips_call (hex "06000000000100000000000000000000030000000000000000001003") (hex "c9cacbcccdcecfd0d1d2d3d4d5d6d7d8d9dadbdcdddedfe0e1e2e3e4e5e6e7e8e9eaebecedeeeff0") (hex "c9cacbcccdcecf") ≡ lent 3 (hex "c9cacbcccdcecfd0d1d2d3d4d5d6d7d8d9dadbdcdddedfe0e1e2e3e4e5e6e7e8e9eaebecedeeeff0") (hex "c9cacbcccdcecf"))
unfolding computes
converter-call-3 = (refl, refl, refl, refl, refl, refl, refl, refl, refl, refl, refl, refl, refl, refl, refl, refl, refl)

pub numbers-1 :
    -- every figure is below 2^63
    (figure_limit ≡ 9223372036854775808)
    -- visits a loop, where every loop is closed
    × (visits_per_loop ≡ 24)
    -- bytes of the program's input that matter
    × (input_limit ≡ 3469)
unfolding computes
numbers-1 = (refl, refl, refl)
