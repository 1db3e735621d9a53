-- The whole segments at the front of some bytes that are read in one phase; the last of them may change it. So one reference is needed at most: the dialogue's between
-- messages, the message's inside one.
-- Assumes nothing.
use Rattle.std.specs.Prelude.{Result, Ok, Err, Option, Some, None, ℕ, zero, suc, ◌+◌, Bool, true, false, List, [], ◌∷◌, eqb, ltb, length}
use Rattle.answers.specs.Answers.{refused}
use Rattle.laws.specs.Choice.{pick, both}
use Rattle.syntax.specs.Segment.{body_at, segment_at}
use Rattle.placing.specs.Tables.{tables}
use Rattle.steps.specs.declared.state.Phase.{Phase}
use Rattle.steps.specs.declared.state.Phase.TheVariants.{Opening, Between, Inside, Closed}
use Rattle.steps.specs.declared.state.State.{State}
use Rattle.steps.specs.declared.state.Row.{Row}
use Rattle.answers.specs.declared.Refusal.{Refusal}
use Rattle.interchange.specs.declared.turn.Turn.{Turn}
use Rattle.interchange.specs.Reader.{Verdict, accepted, turn_with}
use Rattle.interchange.specs.Room.{room_size, room_rows}

abbrev pub same_phase : Phase → Phase → Bool
same_phase Opening Opening = true
same_phase Opening Between = false
same_phase Opening Inside = false
same_phase Opening Closed = false
same_phase Between Opening = false
same_phase Between Between = true
same_phase Between Inside = false
same_phase Between Closed = false
same_phase Inside Opening = false
same_phase Inside Between = false
same_phase Inside Inside = true
same_phase Inside Closed = false
same_phase Closed Opening = false
same_phase Closed Between = false
same_phase Closed Inside = false
same_phase Closed Closed = true

-- what some segments come to: the state after them, where the next begins, their rows with offsets in the bytes, and the fault of the next, if it has one
pub record Stretched : Type 0 where
  pub state : State
  pub at : ℕ
  pub rows : List Row
  pub verdict : Verdict

abbrev pub halted : State → ℕ → Verdict → Stretched
halted st at v = record { state = st; at = at; rows = []; verdict = v }

-- one row more before what follows
abbrev pub ahead : Row → Stretched → Stretched
ahead r x = record { state = x.state; at = x.at; rows = r ∷ x.rows; verdict = x.verdict }

-- whether a terminator stands behind the segment
abbrev pub is_ended : List ℕ → ℕ → Bool
is_ended s at = ltb (at + length (body_at s at)) (length s)

-- `more` reads on from a state and an offset
abbrev pub stretch_turn : (State → ℕ → Stretched) → State → ℕ → Result Turn Refusal → Stretched
stretch_turn more st at (Ok t) = ahead t.row (pick (same_phase st.phase t.state.phase) (more t.state t.then) (halted t.state t.then accepted))
stretch_turn more st at (Err x) = halted st at (refused x)

-- the segments from an offset on, n at most
unfoldable pub stretch_on : ℕ → List ℕ → List ℕ → State → ℕ → Stretched
stretch_on zero s reference st at = halted st at accepted
stretch_on (suc n) s reference st at =
    pick (is_ended s at)
    (stretch_turn (stretch_on n s reference) st at (turn_with tables s reference reference st at (segment_at s at)))
    (halted st at accepted)

-- a room has a place for 128 rows; any other holds none. No interchange is longer than 60,000 bytes, and of more bytes nothing is read.
unfoldable pub stretch_of : List ℕ → List ℕ → State → ℕ → Stretched
stretch_of s reference st room = stretch_on (pick (both (eqb room room_size) (ltb (length s) 60001)) room_rows 0) s reference st 0

-- whether the next segment has a fault, by value
abbrev pub halt_verdict : Option Refusal → Verdict
halt_verdict None = accepted
halt_verdict (Some x) = refused x
