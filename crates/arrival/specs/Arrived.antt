-- What has arrived of an interchange, and what is known then (document 02, A1): the rows given out so far, and the final answer or none yet.
-- A byte, and where the reading stood before it, give where it stands after it, and the row or the final answer that it brings.
-- Assumes nothing.
use Rattle.std.specs.Prelude.{ℕ, ◌+◌, Bool, true, false, List, [], ◌∷◌, ◌++◌, eqb, leb, length}
use Rattle.laws.specs.Choice.{pick, either}
use Rattle.answers.specs.Answers.{Answer, done, refused, bad_size, wrong_envelope, segment_too_long}
use Rattle.syntax.specs.Bytes.{terminator, releases, stands}
use Rattle.syntax.specs.Segment.{body_at, body_answer}
use Rattle.parts.specs.Places.{absent, bytes_of}
use Rattle.placing.specs.Tables.{tables}
use Rattle.steps.specs.declared.state.Phase.{Phase}
use Rattle.steps.specs.declared.state.Phase.TheVariants.{Opening, Between, Inside, Closed}
use Rattle.steps.specs.declared.state.State.{State}
use Rattle.steps.specs.declared.state.Row.{Row}
use Rattle.steps.specs.State.{opening_state, one_more}
use Rattle.steps.specs.Step.{Taken, taken, segment_step}
use Rattle.interchange.specs.Reader.{is_closed}

-- the final answer, which later calls repeat: how many rows there were, or the refusal
pub data Final : Type 0 where
  awaited : Final
  given : Answer ℕ → Final

-- where the reading stands
pub record Stand : Type 0 where
  -- after the whole segments
  pub state : State
  -- where the segment begins that is arriving, its bytes so far, and whether its next byte is released
  pub offset : ℕ
  pub body : List ℕ
  pub released : Bool
  -- the UIB's dialogue reference and the UIH's reference 0340, as written
  pub dialogue : List ℕ
  pub reference : List ℕ
  -- the rows given out
  pub count : ℕ
  pub final : Final

-- before the first byte, for a caller with a wish
abbrev pub beginning : Bool → Stand
beginning wish =
    record {
      state = opening_state wish;
      offset = 0;
      body = [];
      released = false;
      dialogue = [];
      reference = [];
      count = 0;
      final = awaited;
    }

-- what some bytes bring: where the reading stands after them, their rows, and whether a UIB and whether a UIH was read
pub record Brought : Type 0 where
  pub stand : Stand
  pub rows : List Row
  pub opened : Bool
  pub headed : Bool

-- neither a row nor a reference
abbrev pub only : Stand → Brought
only x = record { stand = x; rows = []; opened = false; headed = false }

abbrev pub arrived_bytes : Stand → ℕ
arrived_bytes x = x.offset + length x.body

-- the final answer is there, and no byte of a segment is kept
abbrev pub answered : Stand → Answer ℕ → Stand
answered x a =
    record {
      state = x.state;
      offset = x.offset;
      body = [];
      released = false;
      dialogue = x.dialogue;
      reference = x.reference;
      count = x.count;
      final = given a;
    }

-- one byte more of a segment
abbrev pub longer : Stand → ℕ → Stand
longer x b =
    record {
      state = x.state;
      offset = x.offset;
      body = x.body ++ (b ∷ []);
      released = releases x.released b;
      dialogue = x.dialogue;
      reference = x.reference;
      count = x.count;
      final = x.final;
    }

-- The state without the places where the references were written, whose bytes are gone.
abbrev pub bare : State → State
bare st =
    record {
      phase = st.phase;
      message = st.message;
      messages = st.messages;
      segments = st.segments;
      opened_at = 0;
      dialogue = absent;
      headed_at = 0;
      reference = absent;
      place = st.place;
      wish = st.wish;
    }

-- whether a step from one phase to another read the UIB, or a UIH
abbrev pub opens : Phase → Bool
opens Opening = true
opens Between = false
opens Inside = false
opens Closed = false

abbrev pub heads : Phase → Phase → Bool
heads Opening p = false
heads Between Opening = false
heads Between Between = false
heads Between Inside = true
heads Between Closed = false
heads Inside p = false
heads Closed p = false

-- a good segment g has come
abbrev pub passed : Stand → List ℕ → State → Stand
passed x g st =
    record {
      state = bare st;
      offset = arrived_bytes x + 1;
      body = [];
      released = false;
      dialogue = pick (opens x.state.phase) (bytes_of g st.dialogue) x.dialogue;
      reference = pick (heads x.state.phase st.phase) (bytes_of g st.reference) x.reference;
      count = one_more x.count;
      final = x.final;
    }

abbrev pub arrived_step : Stand → List ℕ → Answer Taken → Brought
arrived_step x g (done (taken st r)) =
    record {
      stand = passed x g st;
      rows = r ∷ [];
      opened = opens x.state.phase;
      headed = heads x.state.phase st.phase;
    }
arrived_step x g (refused refusal) = only (answered x (refused refusal))

-- "a segment's other faults are named at its terminator": 4 and 6, then those of its step
abbrev pub arrived_scan : Stand → List ℕ → Answer ℕ → Brought
arrived_scan x g (done end) = arrived_step x g (segment_step tables x.state x.offset g x.dialogue x.reference)
arrived_scan x g (refused refusal) = only (answered x (refused refusal))

abbrev pub arrived_segment : Stand → List ℕ → Brought
arrived_segment x g = arrived_scan x g (body_answer (arrived_bytes x + 1) x.offset g)

-- the bytes that a terminator ends; all that came, where they came from the beginning on
abbrev pub ending : Stand → List ℕ
ending x = body_at (x.body ++ (terminator ∷ [])) 0

-- "3 when byte 60,001 arrives, before any fault that byte shows"; "Bytes after a good UIZ are 7 at the first of them";
-- "21, segment over 4,096 bytes with its terminator, at its first byte .. at its byte 4,097"
unfoldable pub awaited_byte : Stand → ℕ → Brought
awaited_byte x b =
    pick (leb 60000 (arrived_bytes x)) (only (answered x bad_size))
    (pick (is_closed x.state.phase) (only (answered x (wrong_envelope x.offset)))
    (pick (leb 4096 (length x.body)) (only (answered x (segment_too_long x.offset)))
    (pick (stands terminator x.released b) (arrived_segment x (ending x)) (only (longer x b)))))

-- "later calls repeat the final answer"
abbrev pub byte_by : Final → Stand → ℕ → Brought
byte_by awaited x b = awaited_byte x b
byte_by (given a) x b = only x

abbrev pub byte_of : Stand → ℕ → Brought
byte_of x b = byte_by x.final x b

-- what one part brings, and then another
abbrev pub followed : Brought → Brought → Brought
followed a b =
    record {
      stand = b.stand;
      rows = a.rows ++ b.rows;
      opened = either a.opened b.opened;
      headed = either a.headed b.headed;
    }

-- some bytes, one after the other
unfoldable pub arrived_on : Stand → List ℕ → Brought
arrived_on x [] = only x
arrived_on x (b ∷ l) = followed (byte_of x b) (arrived_on (byte_of x b).stand l)

-- all that has arrived
abbrev pub arrived : Bool → List ℕ → Brought
arrived wish s = arrived_on (beginning wish) s

-- the input is over. "3 .. at the end of no bytes"; inside a segment 4, then 5; "Input that stops between segments before UIZ is 7 at its length."
unfoldable pub awaited_end : Stand → Answer ℕ
awaited_end x =
    pick (eqb (arrived_bytes x) 0) bad_size
    (pick (eqb (length x.body) 0)
    (pick (is_closed x.state.phase) (done x.count) (wrong_envelope x.offset))
    (body_answer (arrived_bytes x) x.offset x.body))

abbrev pub end_by : Final → Stand → Answer ℕ
end_by awaited x = awaited_end x
end_by (given a) x = a

abbrev pub end_of : Stand → Answer ℕ
end_of x = end_by x.final x
