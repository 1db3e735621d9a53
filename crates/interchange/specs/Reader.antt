-- How an interchange is read, and what its first fault is (document 01, "What each number means").
-- Assumes nothing.
use Rattle.std.specs.Prelude.{Result, Ok, Err, ℕ, zero, suc, ◌+◌, ◌*◌, Bool, true, false, List, [], ◌∷◌, ◌++◌, eqb, ltb, length, drop}
use Rattle.laws.specs.Choice.{pick, either}
use Rattle.laws.specs.Put.{put_at}
use Rattle.answers.specs.Answers.{Answer, done, refused, bad_size, wrong_envelope, output_too_short}
use Rattle.answers.specs.declared.Refusal.{Refusal}
use Rattle.syntax.specs.declared.segment.ScanError.{ScanError}
use Rattle.syntax.specs.declared.segment.ScanError.TheVariants.{NotPermitted, Unended, Malformed}
use Rattle.syntax.specs.Segment.{body_at, segment_at, refusal_of}
use Rattle.parts.specs.Places.{bytes_of}
use Rattle.placing.specs.Tables.{tables}
use Rattle.steps.specs.declared.state.Phase.{Phase}
use Rattle.steps.specs.declared.state.Phase.TheVariants.{Opening, Between, Inside, Closed}
use Rattle.steps.specs.declared.state.State.{State}
use Rattle.steps.specs.declared.state.Row.{Row}
use Rattle.steps.specs.State.{opening_state}
use Rattle.placing.specs.Table.{Table}
use Rattle.interchange.specs.declared.turn.Turn.{Turn}
use Rattle.steps.specs.Step.{Taken, taken, segment_step}

-- what a reading ends with: the interchange is accepted, or its first fault is named with its place
abbrev pub Verdict : Type 0
Verdict = Answer (Unit {0})

abbrev pub accepted : Verdict
accepted = done tt

-- what a reading comes to: the rows of the segments before its end, and how it ends
pub record Outcome : Type 0 where
  pub rows : List Row
  pub verdict : Verdict

abbrev pub fault : Verdict → Outcome
fault v = record { rows = []; verdict = v }

-- one row more before what follows
abbrev pub before : Row → Outcome → Outcome
before r o = record { rows = r ∷ o.rows; verdict = o.verdict }

abbrev pub is_closed : Phase → Bool
is_closed Opening = false
is_closed Between = false
is_closed Inside = false
is_closed Closed = true

-- the references as they were written
abbrev pub dialogue_of : List ℕ → State → List ℕ
dialogue_of s st = bytes_of (drop st.opened_at s) st.dialogue

abbrev pub headed_reference : List ℕ → State → List ℕ
headed_reference s st = bytes_of (drop st.headed_at s) st.reference

-- "the first faulty segment from the left, in it 4, 5, 6", then its step: the state and the offset after it, and its row
abbrev pub goes_on : State → Row → ℕ → Result Turn Refusal
goes_on st r next = Ok (record { state = st; row = r; then = next })

abbrev pub turn_step : ℕ → Answer Taken → Result Turn Refusal
turn_step next (done (taken st r)) = goes_on st r next
turn_step next (refused refusal) = Err refusal

-- dialogue and reference are the UIB's and the UIH's as written
abbrev pub turn_with : Table → List ℕ → List ℕ → List ℕ → State → ℕ → Result ℕ ScanError → Result Turn Refusal
turn_with t s dialogue reference st at (Ok e) = turn_step (e + 1) (segment_step t st at (body_at s at) dialogue reference)
turn_with t s dialogue reference st at (Err error) = Err (refusal_of at error)

abbrev pub turn_scan : Table → List ℕ → State → ℕ → Result ℕ ScanError → Result Turn Refusal
turn_scan t s st at x = turn_with t s (dialogue_of s st) (headed_reference s st) st at x

unfoldable pub turn_at : Table → List ℕ → State → ℕ → Result Turn Refusal
turn_at t s st at = turn_scan t s st at (segment_at s at)

-- `more` reads on from a state and an offset
abbrev pub after_turn : (State → ℕ → Outcome) → Result Turn Refusal → Outcome
after_turn more (Ok t) = before t.row (more t.state t.then)
after_turn more (Err x) = fault (refused x)

-- "Bytes after a good UIZ are 7 at the first of them and not tested further."
-- "Input that stops between segments before UIZ is 7 at its length."
-- The reading from a state and an offset on, of at most f segments: each takes a byte at least, so there are no more than bytes.
unfoldable pub read_on : ℕ → List ℕ → State → ℕ → Outcome
read_on zero s st at = fault (wrong_envelope at)
read_on (suc f) s st at =
    pick (ltb at (length s))
    (pick (is_closed st.phase) (fault (wrong_envelope at)) (after_turn (read_on f s) (turn_at tables s st at)))
    (pick (is_closed st.phase) (record { rows = []; verdict = accepted }) (fault (wrong_envelope (length s))))

-- "An interchange has 1 to 60,000 bytes": else 3
abbrev pub wrong_size : List ℕ → Bool
wrong_size s = either (eqb (length s) 0) (ltb 60000 (length s))

-- what an interchange comes to for a caller who asks for the old reading or does not
unfoldable pub reading_of : Bool → List ℕ → Outcome
reading_of wish s = pick (wrong_size s) (fault bad_size) (read_on (length s + 1) s (opening_state wish) 0)

-- the rows as they are written into a lent buffer: three numbers each, offset, group and tag
abbrev pub row_numbers : Row → List ℕ
row_numbers r = r.offset ∷ r.group ∷ r.tag ∷ []

unfoldable pub numbers : List Row → List ℕ
numbers [] = []
numbers (r ∷ l) = row_numbers r ++ numbers l

-- what each case answers: how many rows were written, or the refusal
abbrev pub read_answer : Result ℕ Refusal → Answer ℕ
read_answer (Ok n) = done n
read_answer (Err x) = refused x

-- "17 last": the answer for a buffer of that room, and what the buffer holds then
abbrev pub verdict_answer : List Row → ℕ → Verdict → Answer ℕ
verdict_answer rows room (done _) = pick (ltb room (3 * length rows)) output_too_short (done (length rows))
verdict_answer rows room (refused refusal) = refused refusal

unfoldable pub outcome_answer : Outcome → ℕ → Answer ℕ
outcome_answer o room = verdict_answer o.rows room o.verdict

abbrev pub rows_by : List Row → List ℕ → Verdict → List ℕ
rows_by rows lent (done _) = put_at lent 0 (numbers rows)
rows_by rows lent (refused refusal) = lent

unfoldable pub rows_after : Outcome → List ℕ → List ℕ
rows_after o lent = rows_by o.rows lent o.verdict
