-- What a reading has room for in a store: each number in two bytes, each text in its part, and a final answer that its number tells.
-- Assumes nothing.
use Rattle.std.specs.Prelude.{◌≡◌, true, ℕ, ◌+◌, ◌<◌, ◌≤◌, length}
use Rattle.answers.specs.Answers.{done, refused}
use Rattle.placing.specs.declared.Place.{Place}
use Rattle.steps.specs.declared.state.State.{State}
use Rattle.steps.specs.Parts.{part_fits}
use Rattle.arrival.specs.Arrived.{Final, Stand, awaited, given, bare}
use Rattle.parcel_store.specs.Store.{part_size}

-- no count of a place is above n
abbrev pub Counted : ℕ → Place → Type 0
Counted n p = (p.c0 ≤ n) × (p.c1 ≤ n) × (p.c2 ≤ n) × (p.c3 ≤ n) × (p.c4 ≤ n)

pub record StateFits (st : State) : Type 0 where
  pub messages : st.messages < 65536
  pub segments : st.segments < 65536
  pub row : st.place.row < 65536
  pub counts : Counted 65535 st.place

-- the rows of an accepted interchange are those given out; a refusal's number is from 2 to 21, and its part may stand beside it
abbrev pub FinalFits : ℕ → Final → Type 0
FinalFits count awaited = Unit {0}
FinalFits count (given (done n)) = n ≡ count
FinalFits count (given (refused x)) = (2 ≤ x.number) × (x.number ≤ 21) × (x.position < 65536) × (part_fits x ≡ true)

pub record Fits (x : Stand) : Type 0 where
  pub state : StateFits x.state
  -- The tables let a group come 99,999 times. A count grows by one at most with each segment, which takes a byte at least, so that none reaches 65,536.
  pub counted : Counted (x.offset + 1) x.state.place
  -- the places where the references were written are not kept
  pub bared : bare x.state ≡ x.state
  pub offset : x.offset < 65536
  pub body : length x.body ≤ part_size
  pub dialogue : length x.dialogue ≤ part_size
  pub reference : length x.reference ≤ part_size
  pub count : x.count < 65536
  pub final : FinalFits x.count x.final
