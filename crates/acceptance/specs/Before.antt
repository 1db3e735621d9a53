-- How an interchange was read while D.04A alone was taken: what a UIH said, word for word as it was, and the step and the reader over whatever a UIH says. Over what it says now
-- these are the reader's own (`reading_now`, Narrowed.antt). Assumes nothing; there is no proof here.
use Rattle.answers.specs.declared.Refusal.{Refusal}
use Rattle.std.specs.Prelude.{Bool, List, [], ℕ, zero, suc, ◌+◌, eqb, ltb, length, Result, Err, Ok}
use Rattle.laws.specs.Choice.{pick}
use Rattle.answers.specs.Answers.{Answer, bad_size, wrong_envelope}
use Rattle.syntax.specs.declared.segment.ScanError.{ScanError}
use Rattle.syntax.specs.declared.segment.ScanError.TheVariants.{NotPermitted, Unended, Malformed}
use Rattle.syntax.specs.Segment.{tag_number, body_at, segment_at, refusal_of}
use Rattle.messages.specs.Tags.{UIH, UIZ}
use Rattle.placing.specs.Tables.{tables, table_in}
use Rattle.envelope.specs.Envelope.{place_of, complete, directory, typed, type_of, version_of, release_number_of, sub_function_of, agency_of, reference_of}
use Rattle.steps.specs.declared.state.Phase.{Phase}
use Rattle.steps.specs.declared.state.Phase.TheVariants.{Opening, Between, Inside, Closed}
use Rattle.steps.specs.declared.state.State.{State}
use Rattle.steps.specs.State.{opening_state}
use Rattle.steps.specs.Step.{Taken, opening, headed, closing, inside_message}
use Rattle.interchange.specs.declared.turn.Turn.{Turn}
use Rattle.interchange.specs.Reader.{Outcome, accepted, fault, is_closed, dialogue_of, headed_reference, turn_step, after_turn, wrong_size}
use Rattle.envelope.specs.declared.Head.{Head}
use Rattle.envelope.specs.declared.HeadError.{HeadError}
use Rattle.envelope.specs.declared.HeadError.TheVariants.{Missing, Unknown}

-- "UIH names in S306 .. the type, `D`, `04A`, an empty 0113 and `UN`; then the reference 0340. All but 0113 must be present (an absent one is 7; in S306 another than these is 8)"
unfoldable pub uih_before : List ℕ → Result Head HeadError
uih_before g =
    pick (complete (type_of g) (version_of g) (release_number_of g) (agency_of g) (reference_of g))
    (pick (directory (version_of g) (release_number_of g) (sub_function_of g) (agency_of g)) (typed (type_of g) (place_of g 2 1)) (Err Unknown))
    (Err Missing)

-- `uih` is what a UIH says
unfoldable pub between_over : (List ℕ → Result Head HeadError) → State → ℕ → List ℕ → List ℕ → Answer Taken
between_over uih st at g dialogue =
    pick (eqb (tag_number g) UIH) (headed st at g (uih g))
    (pick (eqb (tag_number g) UIZ) (closing st at g dialogue) (wrong_envelope at))

abbrev pub step_over : (List ℕ → Result Head HeadError) → Phase → State → ℕ → List ℕ → List ℕ → List ℕ → Answer Taken
step_over uih Opening st at g dialogue reference = opening st at g
step_over uih Between st at g dialogue reference = between_over uih st at g dialogue
step_over uih Inside st at g dialogue reference = inside_message (table_in tables st.message) st at g reference
step_over uih Closed st at g dialogue reference = wrong_envelope at

abbrev pub turn_over : (List ℕ → Result Head HeadError) → List ℕ → State → ℕ → Result ℕ ScanError → Result Turn Refusal
turn_over uih s st at (Ok e) = turn_step (e + 1) (step_over uih st.phase st at (body_at s at) (dialogue_of s st) (headed_reference s st))
turn_over uih s st at (Err error) = Err (refusal_of at error)

unfoldable pub read_on_over : (List ℕ → Result Head HeadError) → ℕ → List ℕ → State → ℕ → Outcome
read_on_over uih zero s st at = fault (wrong_envelope at)
read_on_over uih (suc f) s st at =
    pick (ltb at (length s))
    (pick (is_closed st.phase) (fault (wrong_envelope at)) (after_turn (read_on_over uih f s) (turn_over uih s st at (segment_at s at))))
    (pick (is_closed st.phase) (record { rows = []; verdict = accepted }) (fault (wrong_envelope (length s))))

unfoldable pub reading_over : (List ℕ → Result Head HeadError) → Bool → List ℕ → Outcome
reading_over uih wish s = pick (wrong_size s) (fault bad_size) (read_on_over uih (length s + 1) s (opening_state wish) 0)

abbrev pub reading_before : Bool → List ℕ → Outcome
reading_before wish s = reading_over uih_before wish s
