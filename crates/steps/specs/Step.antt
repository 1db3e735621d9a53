-- One segment's step: the envelope, the placing rule and the periods (document 01; numbers 7, 8, 9 and 10, in that order).
-- Assumes nothing.
use Rattle.std.specs.Prelude.{ℕ, zero, suc, ◌+◌, Bool, true, false, List, eqb, ltb, Option, Some, None, Result, Ok, Err}
use Rattle.laws.specs.Choice.{pick, both}
use Rattle.answers.specs.Answers.{Answer, done, refused, wrong_envelope, unknown_type, out_of_place, wrong_period}
use Rattle.answers.specs.declared.Refusal.{Refusal}
use Rattle.syntax.specs.Segment.{tag_number}
use Rattle.parts.specs.declared.Part.{Part}
use Rattle.placing.specs.declared.Place.{Place}
use Rattle.placing.specs.Table.{Table}
use Rattle.placing.specs.Tables.{table_in}
use Rattle.messages.specs.Tags.{UIB, UIH, UIT, UIZ}
use Rattle.messages.specs.Types.{is_period}
use Rattle.placing.specs.Rule.{step_of, group_of}
use Rattle.envelope.specs.Envelope.{uib_of, uih_of, uit_of, uiz_of}
use Rattle.period.specs.Period.{period_of, fault_number}
use Rattle.steps.specs.declared.state.Phase.{Phase}
use Rattle.steps.specs.declared.state.Phase.TheVariants.{Opening, Between, Inside, Closed}
use Rattle.steps.specs.declared.state.State.{State}
use Rattle.steps.specs.declared.state.Row.{Row}
use Rattle.steps.specs.State.{one_more, opened_state, headed_state, closed_state, onward_state, ended_state}
use Rattle.steps.specs.declared.state.Step.{Step}
use Rattle.period.specs.declared.Period.{Period}
use Rattle.period.specs.declared.Fault.{Fault}
use Rattle.envelope.specs.declared.Head.{Head}
use Rattle.envelope.specs.declared.HeadError.{HeadError}
use Rattle.envelope.specs.declared.HeadError.TheVariants.{Missing, Unknown}

-- what a good segment leads to: the next state, and its row
pub data Taken : Type 0 where
  taken : State → Row → Taken

-- what each case answers
abbrev pub step_answer : Result Step Refusal → Answer Taken
step_answer (Ok x) = done (taken x.state x.row)
step_answer (Err x) = refused x

-- the row of the segment g at an offset, in a group
abbrev pub row_of : ℕ → List ℕ → ℕ → Row
row_of at g group = record { offset = at; group = group; tag = tag_number g }

-- "An interchange has .. UIB, one or more messages, UIZ, nothing after."
abbrev pub opened_step : State → ℕ → List ℕ → Option Part → Answer Taken
opened_step st at g (Some p) = done (taken (opened_state st at p) (row_of at g 0))
opened_step st at g None = wrong_envelope at

unfoldable pub opening : State → ℕ → List ℕ → Answer Taken
opening st at g = pick (eqb (tag_number g) UIB) (opened_step st at g (uib_of g)) (wrong_envelope at)

-- "A message is UIH to UIT."
abbrev pub headed : State → ℕ → List ℕ → Result Head HeadError → Answer Taken
headed st at g (Ok h) = done (taken (headed_state st at h.message h.reference) (row_of at g 0))
headed st at g (Err Missing) = wrong_envelope at
headed st at g (Err Unknown) = unknown_type at

-- "one or more messages": a UIZ with none before it is 7, and so is one with other contents
unfoldable pub closing : State → ℕ → List ℕ → List ℕ → Answer Taken
closing st at g dialogue =
    pick (both (ltb 0 st.messages) (uiz_of g dialogue st.messages)) (done (taken (closed_state st) (row_of at g 0))) (wrong_envelope at)

-- "between messages only UIH and UIZ may stand, else 7"
unfoldable pub between_messages : State → ℕ → List ℕ → List ℕ → Answer Taken
between_messages st at g dialogue =
    pick (eqb (tag_number g) UIH) (headed st at g (uih_of g))
    (pick (eqb (tag_number g) UIZ) (closing st at g dialogue) (wrong_envelope at))

-- "UIT repeats 0340 and gives the number of segments, UIH and UIT included."
unfoldable pub trailing : State → ℕ → List ℕ → List ℕ → Place → ℕ → Answer Taken
trailing st at g reference p group =
    pick (uit_of g reference (one_more st.segments)) (done (taken (ended_state st p) (row_of at g group))) (wrong_envelope at)

-- a period that is read; where it is wrong, which part of it
abbrev pub judged : State → ℕ → List ℕ → Place → ℕ → Result Period Fault → Answer Taken
judged st at g p group (Ok v) = done (taken (onward_state st p) (row_of at g group))
judged st at g p group (Err x) = wrong_period at (fault_number x)

unfoldable pub placed : State → ℕ → List ℕ → List ℕ → ℕ → Place → Answer Taken
placed st at g reference group p =
    pick (eqb (tag_number g) UIT) (trailing st at g reference p group)
    (pick (is_period st.message (tag_number g) group) (judged st at g p group (period_of st.wish g)) (done (taken (onward_state st p) (row_of at g group))))

-- in a message a segment is tested for 9 first, so that UIT is tested for 9 before 7 and a further UIH, UIB or UIZ is not read
abbrev pub settled_step : Table → State → ℕ → List ℕ → List ℕ → Option Place → Answer Taken
settled_step t st at g reference (Some p) = placed st at g reference (group_of t p) p
settled_step t st at g reference None = out_of_place at

unfoldable pub inside_message : Table → State → ℕ → List ℕ → List ℕ → Answer Taken
inside_message t st at g reference = settled_step t st at g reference (step_of t st.place (tag_number g))

-- the step of the segment g at an offset, by the tables of all types; dialogue and reference are the UIB's and the UIH's as written
unfoldable pub step_by : Table → Phase → State → ℕ → List ℕ → List ℕ → List ℕ → Answer Taken
step_by tables Opening st at g dialogue reference = opening st at g
step_by tables Between st at g dialogue reference = between_messages st at g dialogue
step_by tables Inside st at g dialogue reference = inside_message (table_in tables st.message) st at g reference
step_by tables Closed st at g dialogue reference = wrong_envelope at

abbrev pub segment_step : Table → State → ℕ → List ℕ → List ℕ → List ℕ → Answer Taken
segment_step tables st at g dialogue reference = step_by tables st.phase st at g dialogue reference
