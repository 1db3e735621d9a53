-- The store that a reading in parcels is kept in: 20 numbers of two bytes, the lower first, then the dialogue reference, the reference 0340 and the segment that is arriving,
-- 4,096 bytes for each. Any bytes of that length are some reading.
-- Assumes nothing.
use Rattle.std.specs.Prelude.{ℕ, ◌+◌, ◌*◌, ◌/◌, ◌%◌, Bool, true, false, List, [], ◌∷◌, ◌++◌, eqb, leb, ltb, length, get_or}
use Rattle.laws.specs.Choice.{pick, both}
use Rattle.laws.specs.Lists.{between}
use Rattle.laws.specs.Put.{put_at}
use Rattle.laws.specs.Filled.{filled_up}
use Rattle.answers.specs.Answers.{done, refused}
use Rattle.messages.specs.declared.MessageType.{MessageType}
use Rattle.messages.specs.declared.MessageType.TheVariants.{Skdupd, Tsdupd, Tsdupd12B}
use Rattle.parts.specs.Places.{absent}
use Rattle.placing.specs.declared.Place.{Place}
use Rattle.steps.specs.declared.state.Phase.{Phase}
use Rattle.steps.specs.declared.state.Phase.TheVariants.{Opening, Between, Inside, Closed}
use Rattle.steps.specs.declared.state.State.{State}
use Rattle.steps.specs.Parts.{is_part}
use Rattle.arrival.specs.Arrived as arrival
use Rattle.arrival.specs.Arrived.{Stand, Brought, awaited, given, bare}
use Rattle.parcel_store.specs.declared.Final.{Final}
use Rattle.parcel_store.specs.declared.Final.TheVariants.{Awaited, Accepted, Refused}
use Rattle.parcel_store.specs.declared.Kept.{Kept}

abbrev pub store_size : ℕ
store_size = 12328

-- where the references and the segment stand, and the bytes for each
abbrev pub dialogue_place : ℕ
dialogue_place = 40

abbrev pub reference_place : ℕ
reference_place = 4136

abbrev pub body_place : ℕ
body_place = 8232

abbrev pub part_size : ℕ
part_size = 4096

-- reading

abbrev pub number_in : List ℕ → ℕ → ℕ
number_in b at = get_or b at 0 + 256 * get_or b (at + 1) 0

abbrev pub phase_of : ℕ → Phase
phase_of n = pick (eqb n 0) Opening (pick (eqb n 1) Between (pick (eqb n 2) Inside Closed))

abbrev pub message_of : ℕ → MessageType
message_of n = pick (eqb n 0) Skdupd (pick (eqb n 2) Tsdupd12B Tsdupd)

-- 0 is none yet, 1 is accepted, any other number of the table a refusal, with a part that may stand beside it; what is no such refusal is none
abbrev pub final_of : ℕ → ℕ → ℕ → Final
final_of number position part =
    pick (eqb number 0) Awaited
    (pick (eqb number 1) Accepted
    (pick (both (leb number 21) (is_part number part)) (Refused (record { number = number; position = position; part = part })) Awaited))

abbrev pub length_of : ℕ → ℕ
length_of n = pick (ltb part_size n) part_size n

abbrev pub place_in : List ℕ → Place
place_in b =
    record {
      row = number_in b 8;
      c0 = number_in b 10;
      c1 = number_in b 12;
      c2 = number_in b 14;
      c3 = number_in b 16;
      c4 = number_in b 18;
    }

abbrev pub state_in : List ℕ → State
state_in b =
    record {
      phase = phase_of (number_in b 0);
      message = message_of (number_in b 2);
      messages = number_in b 4;
      segments = number_in b 6;
      opened_at = 0;
      dialogue = absent;
      headed_at = 0;
      reference = absent;
      place = place_in b;
      wish = eqb (number_in b 38) 1;
    }

unfoldable pub kept_in : List ℕ → Kept
kept_in b =
    record {
      state = state_in b;
      offset = number_in b 20;
      body = length_of (number_in b 22);
      released = eqb (number_in b 24) 1;
      dialogue = length_of (number_in b 26);
      reference = length_of (number_in b 28);
      count = number_in b 30;
      answer = final_of (number_in b 32) (number_in b 34) (number_in b 36);
    }

abbrev pub final_by : Final → ℕ → arrival.Final
final_by Awaited count = awaited
final_by Accepted count = given (done count)
final_by (Refused x) count = given (refused x)

-- the reading whose numbers are k, its texts being in the store b
abbrev pub stand_of : Kept → List ℕ → Stand
stand_of k b =
    record {
      state = bare k.state;
      offset = k.offset;
      body = between b body_place (body_place + k.body);
      released = k.released;
      dialogue = between b dialogue_place (dialogue_place + k.dialogue);
      reference = between b reference_place (reference_place + k.reference);
      count = k.count;
      final = final_by k.answer k.count;
    }

-- the reading that a store holds
abbrev pub held_in : List ℕ → Stand
held_in b = stand_of (kept_in b) b

-- writing

abbrev pub pair : ℕ → List ℕ
pair n = n % 256 ∷ n / 256 % 256 ∷ []

abbrev pub phase_number : Phase → ℕ
phase_number Opening = 0
phase_number Between = 1
phase_number Inside = 2
phase_number Closed = 3

abbrev pub message_number : MessageType → ℕ
message_number Skdupd = 0
message_number Tsdupd = 1
message_number Tsdupd12B = 2

abbrev pub flag_number : Bool → ℕ
flag_number true = 1
flag_number false = 0

abbrev pub final_number : arrival.Final → ℕ
final_number awaited = 0
final_number (given (done n)) = 1
final_number (given (refused refusal)) = refusal.number

abbrev pub final_position : arrival.Final → ℕ
final_position awaited = 0
final_position (given (done n)) = 0
final_position (given (refused refusal)) = refusal.position

abbrev pub final_part : arrival.Final → ℕ
final_part awaited = 0
final_part (given (done n)) = 0
final_part (given (refused refusal)) = refusal.part

-- the same of the numbers that are kept
abbrev pub answer_number : Final → ℕ
answer_number Awaited = 0
answer_number Accepted = 1
answer_number (Refused x) = x.number

abbrev pub answer_position : Final → ℕ
answer_position Awaited = 0
answer_position Accepted = 0
answer_position (Refused x) = x.position

abbrev pub answer_part : Final → ℕ
answer_part Awaited = 0
answer_part Accepted = 0
answer_part (Refused x) = x.part

abbrev pub state_head : State → List ℕ
state_head st =
    pair (phase_number st.phase) ++ (pair (message_number st.message) ++ (pair st.messages ++ (pair st.segments ++ (pair st.place.row
    ++ (pair st.place.c0 ++ (pair st.place.c1 ++ (pair st.place.c2 ++ (pair st.place.c3 ++ pair st.place.c4))))))))

abbrev pub other_head : Stand → List ℕ
other_head x =
    pair x.offset ++ (pair (length x.body) ++ (pair (flag_number x.released) ++ (pair (length x.dialogue) ++ (pair (length x.reference)
    ++ (pair x.count ++ (pair (final_number x.final) ++ (pair (final_position x.final) ++ (pair (final_part x.final) ++ pair (flag_number x.state.wish)))))))))

abbrev pub other_with : Kept → List ℕ
other_with k =
    pair k.offset ++ (pair k.body ++ (pair (flag_number k.released) ++ (pair k.dialogue ++ (pair k.reference
    ++ (pair k.count ++ (pair (answer_number k.answer) ++ (pair (answer_position k.answer) ++ (pair (answer_part k.answer) ++ pair (flag_number k.state.wish)))))))))

unfoldable pub head_of : Stand → List ℕ
head_of x = state_head x.state ++ other_head x

-- a reference that came, filled up with zeros
abbrev pub put_part : Bool → List ℕ → ℕ → List ℕ → List ℕ
put_part came b at text = pick came (put_at b at (filled_up part_size text)) b

-- the references that came
unfoldable pub referred : Brought → List ℕ → List ℕ
referred x b = put_part x.headed (put_part x.opened b dialogue_place x.stand.dialogue) reference_place x.stand.reference

-- the store after some bytes: the references that came, the segment so far, and the numbers
unfoldable pub keep : Brought → List ℕ → List ℕ
keep x b = put_at (put_at (referred x b) body_place x.stand.body) 0 (head_of x.stand)
