-- Unfolding `computes` unfolds every definition, so that a statement about a given sheet is computed.
use Rattle.meaning.specs.Number.{unsigned, little_endian, decode_signed, encode_signed, has_pattern, unsigned16, signed16, signed8}
use Rattle.meaning.specs.Form.{form_at, form_bytes, is_zero, all_zero, factors_fit, form_in_range, value, subtract}
use Rattle.meaning.specs.Record.{kind_number, kind_of, body_length, stride_size, counts_down, is_given, skip_where, skip_or, skip_cycles, kind, record_length, decode_record}
use Rattle.meaning.specs.Record.{skip_bytes, body_bytes, record_bytes, sheet_bytes, sheet_length, loop_depth, fields_in_range, open_after}
use Rattle.meaning.specs.Reader.{require, or_refuse, and_then, accept, end_of_sheet, read_record_of, read_from_of, read, head_of, head_at, body_of, body_at}
use Rattle.meaning.specs.Writer.{work_fields_zero, form_zero, skip_zero, loop_fields_zero, foreign_fields_zero, loop_in, record_of, check_record, check_from}
use Rattle.meaning.specs.Writer.{check_up_to, store, fit_sheet, write_up_to}
use Rattle.meaning.specs.Converter.{with_skip, without_skip, change_loop, skips_start, add_skips, drop_skips, records_with_skips, records_without_skips}
use Rattle.meaning.specs.Converter.{convert, with_skips, without_skips}
use Rattle.meaning.specs.ConverterCall.{convert_call, with_skips_call, without_skips_call}
use Rattle.meaning.specs.Tree.{on_first, take_body, take_arms, segments, first_segment, tree, records, arms_records, loops, arms_loops, height, arms_height}
use Rattle.meaning.specs.Time.{difference, entry_cost, trip_count, sum_over, trips, index_at, inner_indexes, time, arms_time}
use Rattle.meaning.specs.Run.{TripsRun, Run, ArmRun}
use Rattle.meaning.specs.Range.{scale, add_range, dot_range, range_up, range_down, range, index_range, inner_ranges, difference_range, ceiling}
use Rattle.meaning.specs.Closed.{push, push_own, push_inner, stride_divides, asked_difference, is_closed, closable, closed, arms_closable, rankable, ranked, loop_class}
use Rattle.meaning.specs.Settled.{best_among, some_best, choice_settled, all_settled, arms_sums, choices_sums, settled, summed, arms_of, arm_count, choices_of}
use Rattle.meaning.specs.Visits.{count_over, visits_by, arms_visits_by, visited_trips}
use Rattle.meaning.specs.EarlierVisits.{earlier_visited_trips, earlier_figures, earlier_answer}
use Rattle.meaning.specs.Reason.{first_failing, choice_tests, arms_choice_tests, around_with, uneven_tests, own_tests}
use Rattle.meaning.specs.Reason.{loop_tests, arms_loop_tests, closing_tests, reason_of}
use Rattle.meaning.specs.Report.{or_else, first_over_ceiling, all_closed, loop_reports, arms_reports}
use Rattle.meaning.specs.ClosedSum.{first_sums, closed_sum, add_all, loop_sum, add_trip}
use Rattle.meaning.specs.Stage.{first_state, after_end, add_arm, keep_arm, trips_kept, state_of, visit_begun, and_on, indexes_of, ranges_of}
use Rattle.meaning.specs.Stage.{keeps_arms, enter_loop, summing, further, trips_sum, next_sums, next_arms, arms_left, end_trip, pass_record, pass, pass_from, stage, stages, visits_begun}
use Rattle.meaning.specs.Answer.{sheet_reports, check_ceilings, figures_of, check_visits, accepted_by, answer_with}
use Rattle.meaning.specs.CCall.{area_bytes, store_answer, fill_area, answer_into, c_call, number_in, figures_in}
use Rattle.meaning.specs.Text.{text, last_digit, digits, decimal}
use Rattle.meaning.specs.ReasonLine.{uneven_line_start, reason_line, reason_lines, number_after, number_at, same_text, first_with_line, read_reason}
use Rattle.meaning.specs.Program.{figures_line, class_name, loop_line, report_lines, loop_lines, refused_line, answer_text}
use Rattle.meaning.specs.Program.{input_parameters, input_budget, input_sheet, reports_of, program_text_by}
use Rattle.meaning.specs.Lent.{store_lent, lent_in}
use Rattle.meaning.specs.TextCall.{fit_text, text_call}
use Rattle.meaning.proofs.Vocabulary.{hex_digit, hex, sheet_reports_of, state_after}
use Rattle.whole.specs.Integer.{floor_divide}
use Rattle.whole.specs.Newton.{choose, differences, newton_terms, newton_sum}
use Rattle.whole.specs.Ranking.{coefficients, newton_series, none_negative, none_positive, dominates, dominated}

unfoldable pub computes : Unit {0}
unfolding unsigned little_endian decode_signed encode_signed has_pattern unsigned16 signed16 signed8 form_at form_bytes is_zero all_zero factors_fit form_in_range value
    subtract kind_number kind_of body_length is_given skip_where skip_or skip_cycles kind record_length decode_record skip_bytes body_bytes record_bytes sheet_bytes
    sheet_length loop_depth fields_in_range open_after require or_refuse and_then accept end_of_sheet read_record_of read_from_of read head_of head_at body_of body_at
    work_fields_zero form_zero skip_zero loop_fields_zero foreign_fields_zero loop_in record_of check_record check_from check_up_to store fit_sheet write_up_to with_skip without_skip
    change_loop skips_start add_skips drop_skips records_with_skips records_without_skips convert with_skips without_skips convert_call with_skips_call without_skips_call
    on_first take_body take_arms segments first_segment tree records arms_records loops arms_loops height arms_height difference stride_size counts_down entry_cost
    trip_count sum_over trips index_at inner_indexes time arms_time TripsRun Run ArmRun scale add_range dot_range range_up range_down range index_range inner_ranges difference_range
    ceiling push push_own push_inner stride_divides asked_difference is_closed closable closed arms_closable rankable ranked loop_class best_among some_best choice_settled all_settled arms_sums choices_sums
    settled summed arms_of arm_count choices_of coefficients newton_series none_negative none_positive dominates dominated count_over visits_by arms_visits_by visited_trips earlier_visited_trips
    first_failing choice_tests arms_choice_tests around_with uneven_tests own_tests loop_tests arms_loop_tests closing_tests reason_of or_else first_over_ceiling all_closed
    loop_reports arms_reports first_sums closed_sum add_all loop_sum add_trip first_state after_end add_arm keep_arm trips_kept state_of visit_begun and_on indexes_of ranges_of keeps_arms enter_loop summing
    further trips_sum next_sums next_arms arms_left end_trip
    pass_record pass pass_from stage stages visits_begun sheet_reports check_ceilings figures_of check_visits accepted_by answer_with earlier_figures earlier_answer area_bytes store_answer fill_area answer_into c_call number_in figures_in
    text last_digit digits decimal uneven_line_start reason_line reason_lines number_after number_at same_text first_with_line read_reason figures_line class_name
    loop_line report_lines loop_lines refused_line answer_text input_parameters input_budget input_sheet reports_of program_text_by store_lent fit_text text_call lent_in
    hex_digit hex sheet_reports_of state_after floor_divide choose differences newton_terms newton_sum
computes = tt
