-- A run, worked out: six calls by four accounts, one of them no account's, in two orders. The answers differ from each other, so that the
-- theorem does not speak of nothing.
-- Assumes nothing.
use Rattle.std.specs.Prelude.{◌≡◌, refl, true, false, List, [], ◌∷◌, ℕ, replicate}
use Rattle.laws.specs.Text.{bytes}
use Rattle.laws.specs.Joined as lists
use Rattle.answers.specs.Answers.{Answer, done, refused, naming, wrong_period}
use Rattle.syntax.specs.Bytes.{permitted_of, plain_on}
use Rattle.syntax.specs.Pieces.{first_piece, later_pieces, part_of}
use Rattle.syntax.specs.Segment.{tagged, component_fits, occurrence_fits, element_fits, within_limits, well_formed, scan_of}
use Rattle.parts.specs.Places.{span_of, counted_at, element_at}
use Rattle.values.specs.Values.{same_text}
use Rattle.dates.specs.Days.{leap_year, month_length, is_date, month_days, year_days, day_number}
use Rattle.dates.specs.Dates.{date, number, made_of}
use Rattle.dates.specs.Text.{two_digits, digits_at, date_at}
use Rattle.calendar.specs.Days.{with_bit, with_day}
use Rattle.calendar.specs.Written.{good_period, days_span}
use Rattle.period.specs.Period.{span_in, day_string, rising_days, formed_of, rest_good, period_of, fault_number, runs_by}
use Rattle.placing.specs.Table.{entry_of, after_of, end_of, places_on}
use Rattle.placing.specs.Rule.{reachable, first_fit, in_group, again, later_ones, choices_from, first_of, step_of}
use Rattle.placing.specs.Skdupd.{skdupd_table}
use Rattle.placing.specs.Tsdupd.{tsdupd_table}
use Rattle.placing.specs.Tables.{tables, table_in}
use Rattle.laws.specs.Decimal.{decimal_on}
use Rattle.envelope.specs.Envelope.{uib_of, uih_of, trailer_of}
use Rattle.steps.specs.Step.{opening, between_messages, closing, trailing, placed, inside_message, step_by}
use Rattle.interchange.specs.Reader.{turn_at, read_on, reading_of, numbers}
use Rattle.joining.specs.Joined.{marked, window_days, days_joined, join_all}
use Rattle.services.specs.Rows as rows
use Rattle.services.specs.Services.{service_number, says_removal, removes, service_at, has_period, is_wrong, says_number, is_same_service, is_twice}
use Rattle.contents.specs.Contents as contents
use Rattle.contents.specs.Contents.{Contents, good}
use Rattle.contents.specs.Written.{written}
use Rattle.contents.specs.Calls.{lookup, changed, pending_count, released, release_of, withdraw_of, view_of, with_records}
use Rattle.stages.specs.Stage.{first_outside, days_of, entry, enter_known, enter, enter_all, stage_of}
use Rattle.shuffle.specs.Calls.{replies}
use Rattle.shuffle.specs.Register.{Ask, stage, release, withdraw, Reply, called}
use Rattle.shuffle.specs.InContents.{in_contents}
use Rattle.shuffle.specs.Theorems.{replies_written}

-- a register of a window from 2000-01-01 on, with no records
abbrev start : Contents
start =
    record {
      first = number (date 2000 1 1);
      quotas = 1 ∷ 1 ∷ 1 ∷ 0 ∷ 0 ∷ 0 ∷ 0 ∷ 0 ∷ [];
      accounts = replicate 8 [];
    }

-- an interchange of one service, a put whose POP gives neither form
abbrev put17 : List ℕ
put17 = bytes "UIB+UNOB:4+7'UIH+SKDUPD:D:04A::UN+1'MSD+AAR:61'ORG'HDR'PRD+17'POP+273:2000-08-01/2000-08-13'UIT+1+7'UIZ+7+1'"

abbrev one_order : List (ℕ × Ask)
one_order = (1, stage true put17) ∷ (2, withdraw (bytes "17")) ∷ (1, release) ∷ (3, release) ∷ (9, release) ∷ (2, stage false put17) ∷ []

abbrev another_order : List (ℕ × Ask)
another_order = (9, release) ∷ (2, withdraw (bytes "17")) ∷ (3, release) ∷ (2, stage false put17) ∷ (1, stage true put17) ∷ (1, release) ∷ []

abbrev told : Answer ℕ → Reply
told a = record { answer = a; output = [] }

good_start : good start ≡ true
unfolding contents.good contents.good_quotas contents.good_accounts contents.good_account contents.in_order lists.total leap_year month_length is_date month_days year_days day_number
good_start = refl

-- account 1 asks for the old reading, stages one and releases one; account 2 finds nothing to withdraw, though account 1 has that number, and
-- does not ask, so that it is refused, 10 at the POP, part 5; account 3 releases none; 9 is no account
pub in_one_order : replies called (written start) one_order ≡ (1, told (done 1)) ∷ (2, told (refused (naming 16 0))) ∷ (1, told (done 1)) ∷ (3, told (done 0)) ∷ (9, told (refused (naming 2 0))) ∷ (2, told (wrong_period 62 5)) ∷ []
unfolding replies permitted_of plain_on first_piece later_pieces part_of tagged component_fits occurrence_fits element_fits within_limits well_formed scan_of same_text leap_year month_length is_date month_days year_days day_number made_of two_digits digits_at date_at good_period days_span span_in day_string rising_days formed_of rest_good period_of fault_number runs_by span_of counted_at element_at with_bit with_day entry_of after_of end_of places_on reachable first_fit in_group again later_ones choices_from first_of step_of skdupd_table tsdupd_table tables table_in decimal_on uib_of uih_of trailer_of opening between_messages closing trailing placed inside_message step_by turn_at read_on reading_of numbers marked window_days days_joined join_all rows.offset_at rows.is_row rows.first_in rows.list_of service_number says_removal removes service_at has_period is_wrong says_number is_same_service is_twice contents.comes_before lookup changed pending_count released release_of withdraw_of view_of with_records first_outside days_of entry enter_known enter enter_all stage_of in_contents
in_one_order = replies_written start good_start one_order

pub in_another_order : replies called (written start) another_order ≡ (9, told (refused (naming 2 0))) ∷ (2, told (refused (naming 16 0))) ∷ (3, told (done 0)) ∷ (2, told (wrong_period 62 5)) ∷ (1, told (done 1)) ∷ (1, told (done 1)) ∷ []
unfolding replies permitted_of plain_on first_piece later_pieces part_of tagged component_fits occurrence_fits element_fits within_limits well_formed scan_of same_text leap_year month_length is_date month_days year_days day_number made_of two_digits digits_at date_at good_period days_span span_in day_string rising_days formed_of rest_good period_of fault_number runs_by span_of counted_at element_at with_bit with_day entry_of after_of end_of places_on reachable first_fit in_group again later_ones choices_from first_of step_of skdupd_table tsdupd_table tables table_in decimal_on uib_of uih_of trailer_of opening between_messages closing trailing placed inside_message step_by turn_at read_on reading_of numbers marked window_days days_joined join_all rows.offset_at rows.is_row rows.first_in rows.list_of service_number says_removal removes service_at has_period is_wrong says_number is_same_service is_twice contents.comes_before lookup changed pending_count released release_of withdraw_of view_of with_records first_outside days_of entry enter_known enter enter_all stage_of in_contents
in_another_order = replies_written start good_start another_order
