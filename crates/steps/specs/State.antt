-- Where a reading stands after some whole segments.
-- Assumes nothing.
use Rattle.parts.specs.declared.Part.{Part}
use Rattle.messages.specs.declared.MessageType.{MessageType}
use Rattle.messages.specs.declared.MessageType.TheVariants.{Skdupd}
use Rattle.placing.specs.declared.Place.{Place}
use Rattle.std.specs.Prelude.{ℕ, ◌+◌, Bool, ltb}
use Rattle.laws.specs.Choice.{pick}
use Rattle.parts.specs.Places.{absent}
use Rattle.placing.specs.Place.{start_place}
use Rattle.steps.specs.declared.state.Phase.{Phase}
use Rattle.steps.specs.declared.state.Phase.TheVariants.{Opening, Between, Inside, Closed}
use Rattle.steps.specs.declared.state.State.{State}

-- before the first byte; the wish is true where the caller asks for the old reading
abbrev pub opening_state : Bool → State
opening_state wish =
    record {
      phase = Opening;
      message = Skdupd;
      wish = wish;
      messages = 0;
      segments = 0;
      opened_at = 0;
      dialogue = absent;
      headed_at = 0;
      reference = absent;
      place = start_place;
    }

-- a count; no interchange of 60,000 bytes has 65,535 segments, so that none stops there
abbrev pub one_more : ℕ → ℕ
one_more n = pick (ltb n 65535) (n + 1) n

-- the UIB at an offset has come, with its dialogue reference
abbrev pub opened_state : State → ℕ → Part → State
opened_state st at p =
    record {
      phase = Between;
      message = st.message;
      wish = st.wish;
      messages = st.messages;
      segments = st.segments;
      opened_at = at;
      dialogue = p;
      headed_at = st.headed_at;
      reference = st.reference;
      place = st.place;
    }

-- a UIH has come, with its type and its reference
abbrev pub headed_state : State → ℕ → MessageType → Part → State
headed_state st at message p =
    record {
      phase = Inside;
      message = message;
      wish = st.wish;
      messages = st.messages;
      segments = 1;
      opened_at = st.opened_at;
      dialogue = st.dialogue;
      headed_at = at;
      reference = p;
      place = start_place;
    }

-- another phase, other counts and another place; the type and what was written are as they were
abbrev pub with_state : State → Phase → ℕ → ℕ → Place → State
with_state st phase messages segments p =
    record {
      phase = phase;
      message = st.message;
      wish = st.wish;
      messages = messages;
      segments = segments;
      opened_at = st.opened_at;
      dialogue = st.dialogue;
      headed_at = st.headed_at;
      reference = st.reference;
      place = p;
    }

-- a segment of the message is placed
abbrev pub onward_state : State → Place → State
onward_state st p = with_state st Inside st.messages (one_more st.segments) p

-- its UIT has come
abbrev pub ended_state : State → Place → State
ended_state st p = with_state st Between (one_more st.messages) (one_more st.segments) p

-- the UIZ has come
abbrev pub closed_state : State → State
closed_state st = with_state st Closed st.messages st.segments st.place

-- some segments of the message are placed: where they led, and how many its segments are then
abbrev pub moved_state : State → Place → ℕ → State
moved_state st p k = with_state st st.phase st.messages k p
