-- The cases P1 to P10 of document 01 as one table, under one theorem.
-- Assumes nothing.
use Rattle.std.specs.Prelude.{Bool, true, false, List, [], ◌∷◌, ℕ, T, replicate}
use Rattle.std.proofs.Math.Option.{Option, none, some}
use Prim.Native.String.{String}
use Rattle.laws.specs.Choice.{all}
use Rattle.laws.specs.Joined as lists
use Rattle.answers.specs.Answers.{done, refused as refusedWith, naming}
use Rattle.dates.specs.Dates.{date, number}
use Rattle.dates.specs.declared.Date.{Date}
use Rattle.contents.specs.Contents.{Pending, nothing, put, removal, Contents}
use Rattle.shuffle.specs.Register.{stage, withdraw}
use Rattle.laws.specs.Text.{bytes}
use Rattle.cases.specs.Table.{Case, pop, call, refused, period, every, only, case_holds, comes_of, expected, same_answer, keeps, call_holds}
use Rattle.syntax.specs.Bytes.{permitted_of, plain_on}
use Rattle.syntax.specs.Pieces.{first_piece, later_pieces, part_of}
use Rattle.syntax.specs.Segment.{tagged, component_fits, occurrence_fits, element_fits, within_limits, well_formed, scan_of}
use Rattle.parts.specs.Places.{span_of, counted_at, element_at}
use Rattle.values.specs.Values.{same_text}
use Rattle.dates.specs.Days.{leap_year, month_length, is_date, month_days, year_days, day_number, weekday_of}
use Rattle.dates.specs.Dates.{made_of}
use Rattle.dates.specs.Text.{two_digits, digits_at, date_at}
use Rattle.calendar.specs.Days.{with_bit, with_day}
use Rattle.calendar.specs.Written.{good_period, days_span}
use Rattle.period.specs.Period.{span_in, day_string, rising_days, formed_of, rest_good, fault_number, period_of, runs_by, runs_in}
use Rattle.placing.specs.Table.{entry_of, after_of, end_of, places_on}
use Rattle.placing.specs.Rule.{reachable, first_fit, in_group, again, later_ones, choices_from, first_of, step_of}
use Rattle.placing.specs.Skdupd.{skdupd_table}
use Rattle.placing.specs.Tsdupd.{tsdupd_table}
use Rattle.placing.specs.Tables.{tables, table_in}
use Rattle.laws.specs.Decimal.{decimal_on}
use Rattle.laws.specs.Filled.{filled_up}
use Rattle.envelope.specs.Envelope.{uib_of, uih_of, trailer_of}
use Rattle.steps.specs.Step.{opening, between_messages, closing, trailing, placed, inside_message, step_by}
use Rattle.interchange.specs.Reader.{turn_at, read_on, reading_of, numbers}
use Rattle.joining.specs.Joined.{marked, window_days, days_joined, join_all}
use Rattle.services.specs.Rows as rows
use Rattle.services.specs.Services.{service_number, says_removal, removes, service_at, has_period, is_wrong, says_number, is_same_service, is_twice}
use Rattle.contents.specs.Contents as contents
use Rattle.contents.specs.Written as written
use Rattle.contents.specs.Calls.{lookup, changed, withdraw_of, view_of, with_records}
use Rattle.stages.specs.Stage.{first_outside, days_of, entry, enter_known, enter, enter_all, stage_of}
use Rattle.shuffle.specs.InContents.{in_contents}

abbrev august : ℕ → Date
august d = date 2000 8 d

-- registers of a window from 2000-01-01 on and a quota of 1 for accounts 1 and 2: account 1 has the number 17, pending or live
abbrev one_record : Option (List ℕ) → Pending → Contents
one_record live pending =
    record {
      first = number (date 2000 1 1);
      quotas = 1 ∷ 1 ∷ 0 ∷ 0 ∷ 0 ∷ 0 ∷ 0 ∷ 0 ∷ [];
      accounts = (record { number = bytes "17"; live = live; pending = pending } ∷ []) ∷ replicate 7 [];
    }

abbrev pending_in_first : Contents
pending_in_first = one_record none (put (replicate 64 1))

abbrev live_in_first : Contents
live_in_first = one_record (some (replicate 64 1)) nothing

-- the caller's wish: he asks for the old reading of a POP with neither form, or does not
abbrev asking : Bool
asking = true

abbrev unasked : Bool
unasked = false

-- interchanges of one service, a put
abbrev put_of18 : String
put_of18 = "UIB+UNOB:4+7'UIH+SKDUPD:D:04A::UN+1'MSD+AAR:61'ORG'HDR'PRD+18'POP+273:2000-08-01/2000-08-13+67'UIT+1+7'UIZ+7+1'"

abbrev put_of17 : String
put_of17 = "UIB+UNOB:4+7'UIH+SKDUPD:D:04A::UN+1'MSD+AAR:61'ORG'HDR'PRD+17'POP+273:2000-08-01/2000-08-13+67'UIT+1+7'UIZ+7+1'"

unfoldable pub table : List Case
table =
    -- P1 `1997-09-29/1998-05-31`, weekdays 1234567: 245 days, all run (000)
    pop unasked "POP+273:1997-09-29/1998-05-31+1234567'" (period (date 1997 9 29) (date 1998 5 31) 245 every)
    -- P2 `2000-08-01/2000-08-13`, string 1001111000001: 1, 4, 5, 6, 7, 13 August (000)
    ∷ pop unasked "POP+273:2000-08-01/2000-08-13::1001111000001'" (period (august 1) (august 13) 13 (only (august 1 ∷ august 4 ∷ august 5 ∷ august 6 ∷ august 7 ∷ august 13 ∷ [])))
    -- P3 the same period, weekdays 67: 5, 6, 12, 13 August
    ∷ pop unasked "POP+273:2000-08-01/2000-08-13+67'" (period (august 1) (august 13) 13 (only (august 5 ∷ august 6 ∷ august 12 ∷ august 13 ∷ [])))
    -- P4 `2000-08-01/2000-08-01`: weekdays 2 one day, weekdays 1 no day, accepted
    ∷ pop unasked "POP+273:2000-08-01/2000-08-01+2'" (period (august 1) (august 1) 1 (only (august 1 ∷ [])))
    ∷ pop unasked "POP+273:2000-08-01/2000-08-01+1'" (period (august 1) (august 1) 1 (only []))
    -- P5 `2000-02-28/2000-03-01` is 3 days; 2001-02-29 is 10. Document 02, A2: neither form is given, so this case and the next ask; else it is 10
    ∷ pop asking "POP+273:2000-02-28/2000-03-01'" (period (date 2000 2 28) (date 2000 3 1) 3 every)
    ∷ pop unasked "POP+273:2000-02-28/2000-03-01'" (refused 10 5)
    ∷ pop asking "POP+273:2001-02-28/2001-02-29'" (refused 10 1)
    ∷ pop asking "POP+273:2001-02-29/2001-03-01'" (refused 10 1)
    -- P6 `2000-01-01/2001-05-26` is 512 days; to 2001-05-27 is 10
    ∷ pop asking "POP+273:2000-01-01/2001-05-26'" (period (date 2000 1 1) (date 2001 5 26) 512 every)
    ∷ pop unasked "POP+273:2000-01-01/2001-05-26'" (refused 10 5)
    ∷ pop asking "POP+273:2000-01-01/2001-05-27'" (refused 10 1)
    -- P7 weekdays 76, and 66: 10. Both forms: 10. Last before first: 10
    ∷ pop unasked "POP+273:2000-08-01/2000-08-13+76'" (refused 10 3)
    ∷ pop unasked "POP+273:2000-08-01/2000-08-13+66'" (refused 10 3)
    ∷ pop unasked "POP+273:2000-08-01/2000-08-13::1001111000001+67'" (refused 10 4)
    ∷ pop unasked "POP+273:2000-08-13/2000-08-01'" (refused 10 1)
    -- P8 12 characters for 13 days: document 02, A3, "becomes an accepted one", and does not run on the day left; 14 stay 10
    ∷ pop unasked "POP+273:2000-08-01/2000-08-13::100111100000'" (period (august 1) (august 13) 13 (only (august 1 ∷ august 4 ∷ august 5 ∷ august 6 ∷ august 7 ∷ [])))
    ∷ pop unasked "POP+273:2000-08-01/2000-08-13::10011110000010'" (refused 10 2)
    -- P9 account 2 withdraws a number only account 1 has pending: 16, register bytes equal
    ∷ call pending_in_first (2, withdraw (bytes "17")) (refusedWith (naming 16 0))
    -- P10 quota 1, one live: a put of another number is 15, of the same number 0
    ∷ call live_in_first (1, stage unasked (bytes put_of18)) (refusedWith (naming 15 111))
    ∷ call live_in_first (1, stage unasked (bytes put_of17)) (done 1)
    ∷ []

pub cases : T (all case_holds table)
unfolding table case_holds comes_of expected permitted_of plain_on first_piece later_pieces part_of tagged component_fits occurrence_fits element_fits within_limits well_formed scan_of same_text leap_year month_length is_date month_days year_days day_number weekday_of made_of two_digits digits_at date_at good_period days_span span_in day_string rising_days formed_of rest_good fault_number period_of runs_by runs_in same_answer keeps call_holds lists.joined lists.total span_of counted_at element_at with_bit with_day entry_of after_of end_of places_on reachable first_fit in_group again later_ones choices_from first_of step_of skdupd_table tsdupd_table tables table_in decimal_on uib_of uih_of trailer_of opening between_messages closing trailing placed inside_message step_by turn_at read_on reading_of numbers marked window_days days_joined join_all rows.offset_at rows.is_row rows.first_in rows.list_of service_number says_removal removes service_at has_period is_wrong says_number is_same_service is_twice contents.good_number contents.is_calendar contents.good_entries contents.good_record contents.comes_before contents.in_order contents.good_account contents.good_accounts contents.good_quotas contents.good filled_up written.live_bytes written.pending_bytes written.slot_of written.room_bytes written.rooms_bytes lookup changed withdraw_of view_of with_records first_outside days_of entry enter_known enter enter_all stage_of in_contents
cases = tt
