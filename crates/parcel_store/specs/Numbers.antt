-- Numbers of two bytes in a row read back, and the numbers of a store with them.
-- Assumes nothing.
use Rattle.std.specs.Prelude.{◌≡◌, Bool, true, false, List, [], ◌∷◌, ℕ, zero, suc, ◌+◌, ◌/◌, ◌%◌, ◌<◌, ◌≤◌, length, get_or}
use Rattle.std.proofs.Math.Path.{refl}
use Rattle.std.proofs.Common.{sym, ap, subst, ◌∙◌, arith, not-suc-le-zero, add-one, ne_eqb, le-leb, le-ltb}
use Rattle.std.proofs.Math.Dec.{eqb}
use Rattle.laws.specs.Put.{put_at}
use Rattle.answers.specs.Answers.{done, refused}
use Rattle.messages.specs.declared.MessageType.{MessageType}
use Rattle.messages.specs.declared.MessageType.TheVariants.{Skdupd, Tsdupd, Tsdupd12B}
use Rattle.parts.specs.Places.{absent}
use Rattle.placing.specs.declared.Place.{Place}
use Rattle.steps.specs.declared.state.Phase.{Phase}
use Rattle.steps.specs.declared.state.Phase.TheVariants.{Opening, Between, Inside, Closed}
use Rattle.steps.specs.declared.state.State.{State}
use Rattle.steps.specs.Parts.{part_few}
use Rattle.arrival.specs.Arrived as arrival
use Rattle.arrival.specs.Arrived.{Stand, awaited, given, bare}
use Rattle.parcel_store.specs.declared.Final.{Final}
use Rattle.parcel_store.specs.declared.Final.TheVariants.{Awaited, Accepted, Refused}
use Rattle.parcel_store.specs.declared.Kept.{Kept}
use Rattle.parcel_store.specs.Store.{part_size, number_in, phase_of, message_of, final_of, length_of, place_in, state_in, kept_in, phase_number, message_number, flag_number, final_number, final_position, final_part, head_of}
use Rattle.parcel_store.specs.Puts.{byte_read}
use Rattle.parcel_store.specs.Bounds.{FinalFits, Fits}

unfoldable pairs : List ℕ → List ℕ
pairs [] = []
pairs (n ∷ l) = n % 256 ∷ n / 256 % 256 ∷ pairs l

length_pairs : (l : List ℕ) → length (pairs l) ≡ length l + length l
unfolding pairs
length_pairs [] = refl
length_pairs (n ∷ l) = let h = length_pairs l in omega arith

low_pairs : (l : List ℕ) (i : ℕ) → i < length l → get_or (pairs l) (i + i) 0 ≡ get_or l i 0 % 256
unfolding pairs
low_pairs [] i h = absurd (not-suc-le-zero h)
low_pairs (n ∷ l) zero h = refl
low_pairs (n ∷ l) (suc i) h =
    let e : suc i + suc i ≡ suc (suc (i + i)) = omega arith in
    rw e (low_pairs l i (omega arith))

high_pairs : (l : List ℕ) (i : ℕ) → i < length l → get_or (pairs l) (suc (i + i)) 0 ≡ get_or l i 0 / 256 % 256
unfolding pairs
high_pairs [] i h = absurd (not-suc-le-zero h)
high_pairs (n ∷ l) zero h = refl
high_pairs (n ∷ l) (suc i) h =
    let e : suc i + suc i ≡ suc (suc (i + i)) = omega arith in
    rw e (high_pairs l i (omega arith))

-- the i-th of some numbers, in a list that begins with them
number_read : (o l b : List ℕ) → b ≡ put_at o 0 (pairs l) → (i : ℕ) → i < length l → length l + length l ≤ length o → get_or l i 0 < 65536
    → number_in b (i + i) ≡ get_or l i 0
number_read o l b e i h k s =
    let n = length_pairs l in
    let low = ap (λ (x : List ℕ). get_or x (i + i) 0) e ∙ byte_read o (pairs l) (i + i) (omega arith) (omega arith) ∙ low_pairs l i h in
    let high = ap (λ (x : List ℕ). get_or x (suc (i + i)) 0) e ∙ byte_read o (pairs l) (suc (i + i)) (omega arith) (omega arith) ∙ high_pairs l i h in
    rw (add-one, low, high) (omega arith)

-- the 20 numbers of a store, in their order
abbrev numbers_of : Stand → List ℕ
numbers_of x =
    phase_number x.state.phase ∷ message_number x.state.message ∷ x.state.messages ∷ x.state.segments ∷ x.state.place.row
    ∷ x.state.place.c0 ∷ x.state.place.c1 ∷ x.state.place.c2 ∷ x.state.place.c3 ∷ x.state.place.c4
    ∷ x.offset ∷ length x.body ∷ flag_number x.released ∷ length x.dialogue ∷ length x.reference
    ∷ x.count ∷ final_number x.final ∷ final_position x.final ∷ final_part x.final
    ∷ flag_number x.state.wish ∷ []

head_pairs : (x : Stand) → head_of x ≡ pairs (numbers_of x)
unfolding head_of pairs
head_pairs x = refl

-- what each of them is read as
pub phase_read : (p : Phase) → phase_of (phase_number p) ≡ p
phase_read Opening = refl
phase_read Between = refl
phase_read Inside = refl
phase_read Closed = refl

phase_small : (p : Phase) → phase_number p < 65536
phase_small Opening = omega arith
phase_small Between = omega arith
phase_small Inside = omega arith
phase_small Closed = omega arith

pub message_read : (m : MessageType) → message_of (message_number m) ≡ m
message_read Skdupd = refl
message_read Tsdupd = refl
message_read Tsdupd12B = refl

message_small : (m : MessageType) → message_number m < 65536
message_small Skdupd = omega arith
message_small Tsdupd = omega arith
message_small Tsdupd12B = omega arith

pub flag_read : (b : Bool) → eqb (flag_number b) 1 ≡ b
flag_read true = refl
flag_read false = refl

flag_small : (b : Bool) → flag_number b < 65536
flag_small true = omega arith
flag_small false = omega arith

pub length_read : (n : ℕ) → n ≤ part_size → length_of n ≡ n
length_read n h = rw (le-ltb part_size n h)

-- the final answer as it is kept
abbrev pub answer_of : arrival.Final → Final
answer_of awaited = Awaited
answer_of (given (done n)) = Accepted
answer_of (given (refused refusal)) = Refused refusal

pub answer_read : (count : ℕ) (f : arrival.Final) → FinalFits count f → final_of (final_number f) (final_position f) (final_part f) ≡ answer_of f
answer_read count awaited h = refl
answer_read count (given (done n)) h = refl
answer_read count (given (refused x)) h =
    let a = h.0 in
    rw (ne_eqb x.number 0 (λ e. omega arith), ne_eqb x.number 1 (λ e. omega arith), le-leb x.number 21 h.1, h.3)

number_small : (count : ℕ) (f : arrival.Final) → FinalFits count f → final_number f < 65536
number_small count awaited h = omega arith
number_small count (given (done n)) h = omega arith
number_small count (given (refused refusal)) h = let a = h.1 in omega arith

position_small : (count : ℕ) (f : arrival.Final) → FinalFits count f → final_position f < 65536
position_small count awaited h = omega arith
position_small count (given (done n)) h = omega arith
position_small count (given (refused refusal)) h = h.2

part_small : (count : ℕ) (f : arrival.Final) → FinalFits count f → final_part f < 65536
part_small count awaited h = omega arith
part_small count (given (done n)) h = omega arith
part_small count (given (refused x)) h = let a = part_few x.number x.part h.3 in omega arith

-- what is kept of a reading beside its texts
abbrev pub kept_of : Stand → Kept
kept_of x =
    record {
      state = bare x.state;
      offset = x.offset;
      body = length x.body;
      released = x.released;
      dialogue = length x.dialogue;
      reference = length x.reference;
      count = x.count;
      answer = answer_of x.final;
    }

narrow : {n : ℕ} → n ≤ 65535 → n < 65536
narrow h = omega arith

same_place : {row c0 c1 c2 c3 c4 : ℕ} (p : Place) → row ≡ p.row → c0 ≡ p.c0 → c1 ≡ p.c1 → c2 ≡ p.c2 → c3 ≡ p.c3 → c4 ≡ p.c4
    → ◌≡◌ {A = Place} (record { row = row; c0 = c0; c1 = c1; c2 = c2; c3 = c3; c4 = c4 }) p
same_place p a b c d e f = rw (a, b, c, d, e, f)

same_state : {phase : Phase} {message : MessageType} {messages segments : ℕ} {place : Place} {wish : Bool} (st : State) → phase ≡ st.phase → message ≡ st.message
    → messages ≡ st.messages → segments ≡ st.segments → place ≡ st.place → wish ≡ st.wish
    → ◌≡◌ {A = State}
    (record {
      phase = phase;
      message = message;
      messages = messages;
      segments = segments;
      opened_at = 0;
      dialogue = absent;
      headed_at = 0;
      reference = absent;
      place = place;
      wish = wish;
    })
    (bare st)
same_state st a b c d e f = rw (a, b, c, d, e, f)

same_kept : {state : State} {offset body : ℕ} {released : Bool} {dialogue reference count : ℕ} {answer : Final} (k : Kept) → state ≡ k.state
    → offset ≡ k.offset → body ≡ k.body → released ≡ k.released → dialogue ≡ k.dialogue → reference ≡ k.reference → count ≡ k.count
    → answer ≡ k.answer
    → ◌≡◌ {A = Kept}
    (record {
      state = state;
      offset = offset;
      body = body;
      released = released;
      dialogue = dialogue;
      reference = reference;
      count = count;
      answer = answer;
    })
    k
same_kept k a b c d e f g h = rw (a, b, c, d, e, f, g, h)

-- the numbers of a reading, written at the front of any bytes
module _ (x : Stand) (fits : Fits x) (o b : List ℕ) (long : 40 ≤ length o) (e : b ≡ put_at o 0 (head_of x)) where
  nth : (i : ℕ) → i < 20 → get_or (numbers_of x) i 0 < 65536 → number_in b (i + i) ≡ get_or (numbers_of x) i 0
  nth i h s = number_read o (numbers_of x) b (e ∙ ap (put_at o 0) (head_pairs x)) i h long s

  place_kept : place_in b ≡ x.state.place
  place_kept =
      let n = fits.state.counts in
      same_place x.state.place (nth 4 (omega arith) fits.state.row) (nth 5 (omega arith) (narrow n.0)) (nth 6 (omega arith) (narrow n.1))
      (nth 7 (omega arith) (narrow n.2)) (nth 8 (omega arith) (narrow n.3)) (nth 9 (omega arith) (narrow n.4))

  state_kept : state_in b ≡ bare x.state
  state_kept =
      let st = x.state in
      same_state st (ap phase_of (nth 0 (omega arith) (phase_small st.phase)) ∙ phase_read st.phase)
      (ap message_of (nth 1 (omega arith) (message_small st.message)) ∙ message_read st.message)
      (nth 2 (omega arith) fits.state.messages) (nth 3 (omega arith) fits.state.segments) place_kept
      (ap (λ (n : ℕ). eqb n 1) (nth 19 (omega arith) (flag_small st.wish)) ∙ flag_read st.wish)

  part_kept : (i n : ℕ) → i < 20 → n ≡ get_or (numbers_of x) i 0 → n ≤ part_size → length_of (number_in b (i + i)) ≡ n
  part_kept i n h q l = ap length_of (nth i h (subst (λ (k : ℕ). k < 65536) q (omega arith)) ∙ sym q) ∙ length_read n l

  answer_kept : final_of (number_in b 32) (number_in b 34) (number_in b 36) ≡ answer_of x.final
  answer_kept =
      let n : number_in b 32 ≡ final_number x.final = nth 16 (omega arith) (number_small x.count x.final fits.final) in
      let p : number_in b 34 ≡ final_position x.final = nth 17 (omega arith) (position_small x.count x.final fits.final) in
      let q : number_in b 36 ≡ final_part x.final = nth 18 (omega arith) (part_small x.count x.final fits.final) in
      ap (λ (k : ℕ). final_of k (number_in b 34) (number_in b 36)) n ∙ ap (λ (k : ℕ). final_of (final_number x.final) k (number_in b 36)) p
      ∙ ap (final_of (final_number x.final) (final_position x.final)) q ∙ answer_read x.count x.final fits.final

  pub kept_read : kept_in b ≡ kept_of x
  unfolding kept_in
  kept_read =
      same_kept (kept_of x) state_kept (nth 10 (omega arith) fits.offset) (part_kept 11 (length x.body) (omega arith) refl fits.body)
      (ap (λ (n : ℕ). eqb n 1) (nth 12 (omega arith) (flag_small x.released)) ∙ flag_read x.released)
      (part_kept 13 (length x.dialogue) (omega arith) refl fits.dialogue) (part_kept 14 (length x.reference) (omega arith) refl fits.reference)
      (nth 15 (omega arith) fits.count) answer_kept
