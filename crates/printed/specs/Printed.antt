-- Document 01, "Printed whole": from the bytes of standard input to the text that is printed, in one theorem each.
-- Assumes nothing.
use Rattle.std.specs.Prelude.{◌≡◌, refl, List, ◌++◌, true, ℕ, length}
use Rattle.laws.specs.Decimal.{decimal_on}
use Rattle.laws.specs.Text.{bytes}
use Rattle.answers.specs.Answers.{done, refused}
use Rattle.syntax.specs.Bytes.{permitted_of, plain_on}
use Rattle.syntax.specs.Pieces.{first_piece, later_pieces, part_of}
use Rattle.syntax.specs.Segment.{tagged, component_fits, occurrence_fits, element_fits, within_limits, well_formed, permitted_run, scan_of}
use Rattle.parts.specs.Places.{span_of, counted_at, element_at}
use Rattle.values.specs.Values.{same_text}
use Rattle.placing.specs.Table.{entry_of, after_of, end_of, places_on}
use Rattle.placing.specs.Rule.{reachable, first_fit, in_group, again, later_ones, choices_from, first_of, step_of}
use Rattle.placing.specs.Skdupd.{skdupd_table}
use Rattle.placing.specs.Tsdupd.{tsdupd_table}
use Rattle.placing.specs.Tables.{tables, table_in}
use Rattle.envelope.specs.Envelope.{uib_of, uih_of, trailer_of}
use Rattle.steps.specs.declared.state.Row.{Row}
use Rattle.steps.specs.Step.{opening, between_messages, closing, trailing, placed, inside_message, step_by}
use Rattle.interchange.specs.Reader.{Verdict, Outcome, turn_at, read_on, reading_of, numbers}
use Rattle.text.specs.Text.{row_text, rows_text, table_text, refusal_text}

-- the table of the rows, or the line of the refusal
abbrev pub text_by : List Row → Verdict → List ℕ
text_by rows (done _) = table_text (length rows) (numbers rows)
text_by rows (refused refusal) = refusal_text refusal

abbrev pub text_of : Outcome → List ℕ
text_of o = text_by o.rows o.verdict

-- "the printing program must ask" (document 02, A2): its reading is the old one
unfoldable pub printed_of : List ℕ → List ℕ
printed_of s = text_of (reading_of true s)

-- "standard input is the 63 bytes", and what "the printing program writes"
pub printed_whole : printed_of (bytes "UIB+UNOB:4+7'UIH+TSDUPD:D:04A::UN+1'MSD+AAR:61'UIT+1+3'UIZ+7+1'")
    ≡ bytes "offset\tgroup\ttag\n"
    ++ bytes "0\t0\tUIB\n"
    ++ bytes "13\t0\tUIH\n"
    ++ bytes "36\t0\tMSD\n"
    ++ bytes "47\t0\tUIT\n"
    ++ bytes "55\t0\tUIZ\n"
unfolding printed_of permitted_of plain_on first_piece later_pieces part_of tagged component_fits occurrence_fits element_fits within_limits well_formed scan_of permitted_run span_of counted_at element_at same_text entry_of after_of end_of places_on reachable first_fit in_group again later_ones choices_from first_of step_of skdupd_table tsdupd_table tables table_in decimal_on uib_of uih_of trailer_of opening between_messages closing trailing placed inside_message step_by turn_at read_on reading_of numbers row_text rows_text refusal_text
printed_whole = refl

-- "With `UIT+1+4'` it is 7 at 47. A newline added at the end is 7 at 63."
pub printed_refusals : (printed_of (bytes "UIB+UNOB:4+7'UIH+TSDUPD:D:04A::UN+1'MSD+AAR:61'UIT+1+4'UIZ+7+1'") ≡ bytes "refused\t7\t47\t0\n")
    × (printed_of (bytes "UIB+UNOB:4+7'UIH+TSDUPD:D:04A::UN+1'MSD+AAR:61'UIT+1+3'UIZ+7+1'\n") ≡ bytes "refused\t7\t63\t0\n")
unfolding printed_of permitted_of plain_on first_piece later_pieces part_of tagged component_fits occurrence_fits element_fits within_limits well_formed scan_of permitted_run span_of counted_at element_at same_text entry_of after_of end_of places_on reachable first_fit in_group again later_ones choices_from first_of step_of skdupd_table tsdupd_table tables table_in decimal_on uib_of uih_of trailer_of opening between_messages closing trailing placed inside_message step_by turn_at read_on reading_of numbers row_text rows_text refusal_text
printed_refusals = (refl, refl)
