-- "Printed whole", computed: the 63 bytes are an interchange with the rows that document 01 prints, and its two refusals. The same of D.12B (document 02, A8).
-- Assumes nothing.
use Rattle.std.specs.Prelude.{◌≡◌, refl, true, false, List, [], ◌∷◌, ◌++◌, ℕ, length}
use Rattle.syntax.specs.Bytes.{permitted_of, plain_on}
use Rattle.syntax.specs.Pieces.{first_piece, later_pieces, part_of}
use Rattle.syntax.specs.Segment.{tagged, component_fits, occurrence_fits, element_fits, within_limits, well_formed, permitted_run, scan_of}
use Rattle.parts.specs.Places.{span_of, counted_at, element_at}
use Rattle.values.specs.Values.{same_text}
use Rattle.placing.specs.Table.{entry_of, after_of, end_of, places_on}
use Rattle.placing.specs.Rule.{reachable, first_fit, in_group, again, later_ones, choices_from, first_of, step_of}
use Rattle.messages.specs.Tags.{UIB, UIH, MSD, UIT, UIZ}
use Rattle.placing.specs.Skdupd.{skdupd_table}
use Rattle.placing.specs.Tsdupd.{tsdupd_table}
use Rattle.placing.specs.Tsdupd12B.{tsdupd_12b_table}
use Rattle.placing.specs.Tables.{tables, table_in}
use Rattle.laws.specs.Decimal.{decimal_on}
use Rattle.laws.specs.Text.{bytes}
use Rattle.envelope.specs.Envelope.{uib_of, uih_of, trailer_of}
use Rattle.answers.specs.Answers.{refused, naming}
use Rattle.steps.specs.Step.{opening, between_messages, closing, trailing, placed, inside_message, step_by}
use Rattle.interchange.specs.Reader.{turn_at, read_on, reading_of, numbers}
use Rattle.acceptance.specs.Interchange.{segments_written, unbroken, is_segment, Interchange, segments_of, places_from, is_message, rules_hold, rows_from, rows_of}
use Rattle.acceptance.specs.Before.{uih_before, between_over, read_on_over, reading_over, reading_before}

abbrev uib : List ℕ
uib = bytes "UIB+UNOB:4+7"

abbrev tsdupd : List ℕ
tsdupd = bytes "UIH+TSDUPD:D:04A::UN+1"

abbrev msd : List ℕ
msd = bytes "MSD+AAR:61"

abbrev uit : List ℕ
uit = bytes "UIT+1+3"

abbrev uiz : List ℕ
uiz = bytes "UIZ+7+1"

abbrev uit_four : List ℕ
uit_four = bytes "UIT+1+4"

-- one message of the type TSDUPD with its MSD, and a trailer
abbrev one : List ℕ → Interchange
one trailer = record { opening = uib; messages = record { heading = tsdupd; within = msd ∷ []; trailer = trailer } ∷ []; closing = uiz }

pub printed : rules_hold false (one uit) ≡ true
unfolding rules_hold is_message is_segment unbroken places_from permitted_of plain_on first_piece later_pieces part_of tagged component_fits occurrence_fits element_fits within_limits well_formed span_of counted_at element_at same_text entry_of after_of end_of places_on reachable first_fit in_group again later_ones choices_from first_of step_of skdupd_table tsdupd_table tables table_in decimal_on uib_of uih_of trailer_of
printed = refl

-- "63 bytes"
pub printed_bytes : length (segments_written (segments_of (one uit))) ≡ 63
unfolding segments_written
printed_bytes = refl

-- "0 0 UIB, 13 0 UIH, 36 0 MSD, 47 0 UIT, 55 0 UIZ"
pub printed_rows : numbers (rows_of (one uit)) ≡ 0 ∷ 0 ∷ UIB ∷ 13 ∷ 0 ∷ UIH ∷ 36 ∷ 0 ∷ MSD ∷ 47 ∷ 0 ∷ UIT ∷ 55 ∷ 0 ∷ UIZ ∷ []
unfolding rules_hold is_message is_segment unbroken places_from permitted_of plain_on first_piece later_pieces part_of tagged component_fits occurrence_fits element_fits within_limits well_formed span_of counted_at element_at same_text entry_of after_of end_of places_on reachable first_fit in_group again later_ones choices_from first_of step_of skdupd_table tsdupd_table tables table_in decimal_on uib_of uih_of trailer_of rows_from numbers
printed_rows = refl

-- "With `UIT+1+4'` it is 7"
pub printed_four : rules_hold false (one uit_four) ≡ false
unfolding rules_hold is_message is_segment unbroken places_from permitted_of plain_on first_piece later_pieces part_of tagged component_fits occurrence_fits element_fits within_limits well_formed span_of counted_at element_at same_text entry_of after_of end_of places_on reachable first_fit in_group again later_ones choices_from first_of step_of skdupd_table tsdupd_table tables table_in decimal_on uib_of uih_of trailer_of
printed_four = refl

-- "With `UIT+1+4'` it is 7 at 47."
pub refused_four : (reading_of false (segments_written (segments_of (one uit_four)))).verdict ≡ refused (naming 7 47)
unfolding segments_written permitted_of plain_on first_piece later_pieces part_of tagged component_fits occurrence_fits element_fits within_limits well_formed scan_of permitted_run span_of counted_at element_at same_text entry_of after_of end_of places_on reachable first_fit in_group again later_ones choices_from first_of step_of skdupd_table tsdupd_table tables table_in decimal_on uib_of uih_of trailer_of opening between_messages closing trailing placed inside_message step_by turn_at read_on reading_of
refused_four = refl

-- "A newline added at the end is 7 at 63."
pub refused_newline : (reading_of false (segments_written (segments_of (one uit)) ++ (10 ∷ []))).verdict ≡ refused (naming 7 63)
unfolding segments_written permitted_of plain_on first_piece later_pieces part_of tagged component_fits occurrence_fits element_fits within_limits well_formed scan_of permitted_run span_of counted_at element_at same_text entry_of after_of end_of places_on reachable first_fit in_group again later_ones choices_from first_of step_of skdupd_table tsdupd_table tables table_in decimal_on uib_of uih_of trailer_of opening between_messages closing trailing placed inside_message step_by turn_at read_on reading_of
refused_newline = refl

-- the same with another UIH
abbrev headed_by : List ℕ → Interchange
headed_by heading = record { opening = uib; messages = record { heading = heading; within = msd ∷ []; trailer = uit } ∷ []; closing = uiz }

abbrev tsdupd_12b : List ℕ
tsdupd_12b = bytes "UIH+TSDUPD:D:12B::UN+1"

abbrev skdupd_12b : List ℕ
skdupd_12b = bytes "UIH+SKDUPD:D:12B::UN+1"

abbrev with_function : List ℕ
with_function = bytes "UIH+TSDUPD:D:12B:X:UN+1"

-- A8: "its UIH names 12B"
pub later : rules_hold false (headed_by tsdupd_12b) ≡ true
unfolding rules_hold is_message is_segment unbroken places_from permitted_of plain_on first_piece later_pieces part_of tagged component_fits occurrence_fits element_fits within_limits well_formed span_of counted_at element_at same_text entry_of after_of end_of places_on reachable first_fit in_group again later_ones choices_from first_of step_of skdupd_table tsdupd_table tsdupd_12b_table tables table_in decimal_on uib_of uih_of trailer_of
later = refl

-- "a SKDUPD that names 12B is still 8", and so is a TSDUPD with 0113
pub refused_skdupd : (reading_of false (segments_written (segments_of (headed_by skdupd_12b)))).verdict ≡ refused (naming 8 13)
unfolding segments_written permitted_of plain_on first_piece later_pieces part_of tagged component_fits occurrence_fits element_fits within_limits well_formed scan_of permitted_run span_of counted_at element_at same_text entry_of after_of end_of places_on reachable first_fit in_group again later_ones choices_from first_of step_of skdupd_table tsdupd_table tsdupd_12b_table tables table_in decimal_on uib_of uih_of trailer_of opening between_messages closing trailing placed inside_message step_by turn_at read_on reading_of
refused_skdupd = refl

pub refused_function : (reading_of false (segments_written (segments_of (headed_by with_function)))).verdict ≡ refused (naming 8 13)
unfolding segments_written permitted_of plain_on first_piece later_pieces part_of tagged component_fits occurrence_fits element_fits within_limits well_formed scan_of permitted_run span_of counted_at element_at same_text entry_of after_of end_of places_on reachable first_fit in_group again later_ones choices_from first_of step_of skdupd_table tsdupd_table tsdupd_12b_table tables table_in decimal_on uib_of uih_of trailer_of opening between_messages closing trailing placed inside_message step_by turn_at read_on reading_of
refused_function = refl

-- it was 8 before
pub later_before : (reading_before false (segments_written (segments_of (headed_by tsdupd_12b)))).verdict ≡ refused (naming 8 13)
unfolding segments_written permitted_of plain_on first_piece later_pieces part_of tagged component_fits occurrence_fits element_fits within_limits well_formed scan_of permitted_run span_of counted_at element_at same_text entry_of after_of end_of places_on reachable first_fit in_group again later_ones choices_from first_of step_of skdupd_table tsdupd_table tsdupd_12b_table tables table_in decimal_on uib_of uih_of trailer_of opening between_messages closing trailing placed inside_message step_by turn_at read_on reading_of uih_before between_over read_on_over reading_over
later_before = refl
